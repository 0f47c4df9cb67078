-- `number_line` refuses by 9 where the output is shorter than the line, else it writes it at the front. Assumes nothing.
use Prim.Native.Nat.{ℕ, ◌+◌}
use mathlib.Core.List.{List}
use mathlib.Core.Path.{◌≡◌}
use native.Mathlib.Omega.{arith}
use lib.ListN.{length}
use Rattle.rtr_listing.specs.Listing.{places, decimal, line_of}
use Rattle.rtr_listing.proofs.Calls.{too_short, wrote}
use Rattle.rtr_listing.proofs.Digits.{digits-length, places-at-most}
use Rattle.rtr_listing.proofs.Lines.{line-length}
use Rattle.rtr_listing.proofs.number_line.Goals as goal

-- so many bytes are needed
needs-are : (name : List ℕ) (n k : ℕ) → k ≡ places n → length (line_of name (decimal n)) ≡ length name + k + 1
needs-are name n k e = omega (arith, line-length name (decimal n), digits-length 10 (places n) n, e)

pub overflow_add-needed : goal.overflow_add-needed
overflow_add-needed c = omega (arith, c.places.ensures, places-at-most c.args.n)

pub overflow_add-needed-2 : goal.overflow_add-needed-2
overflow_add-needed-2 c = omega (arith, c.places.ensures, places-at-most c.args.n)

pub returns-then-out-needed : goal.returns-then-out-needed
returns-then-out-needed c =
    let a = c.args in
    rw c.short.ensures (too_short (line_of a.name.now (decimal a.n)) a.out.now _ (needs-are a.name.now a.n _ c.places.ensures) c.if-out-needed.true)

pub put_number-requires : goal.put_number-requires
put_number-requires c = let a = c.args in omega (arith, needs-are a.name.now a.n _ c.places.ensures, c.if-out-needed.false)

pub returns : goal.returns
returns c =
    let a = c.args in
    wrote (line_of a.name.now (decimal a.n)) a.out.now _ _ _ (needs-are a.name.now a.n _ c.places.ensures) c.if-out-needed.false c.put_number.ensures
