use Prim.Native.Nat.{ℕ, suc, ◌+◌, ◌-◌, ◌*◌, ◌≤◌}
use mathlib.Core.List.{List}
use mathlib.Core.Path.{◌≡◌, sym, ap, ◌∙◌}
use native.Mathlib.Nat.{pow-suc}
use native.Mathlib.Numerals.{add-one}
use native.Mathlib.Omega.{arith}
use lib.ListN.{length, take, drop, length-drop}
use lib.Seq.{length-take-le}
use Rattle.rtr_listing.specs.Digits.{hex_of}
use Rattle.rtr_listed.proofs.Addresses.{hex-take, hex-drop}
use Rattle.rtr_listed.proofs.Values.{powers-rise, hex-at, word_next, word_done}
use Rattle.rtr_listed.proofs.word_at.Goals as goal

-- the slice has eight digits
eight : (s : List ℕ) (at : ℕ) → at + 8 ≤ length s → length (take (at + 8 - at) (drop at s)) ≡ 8
eight s at h = omega (arith, length-take-le (at + 8 - at) (drop at s) (omega (arith, length-drop at s)))

pub overflow_mul-word : goal.overflow_mul-word
overflow_mul-word c =
    let l = c.loop-c in
    let long = eight c.args.value.now c.args.at c.requires.0 in
    omega (arith, l.invariant.0, powers-rise 16 l.c-index 7 (omega arith) (omega arith))

pub hex_digit-requires : goal.hex_digit-requires
hex_digit-requires c =
    let a = c.args in
    hex-at _ c.loop-c.c-index (omega arith) (hex-take (a.at + 8 - a.at) (drop a.at a.value.now) (hex-drop a.at a.value.now c.requires.1))

pub loop-c-preserved : goal.loop-c-preserved
loop-c-preserved c =
    let a = c.args in
    let l = c.loop-c in
    let digits = take (a.at + 8 - a.at) (drop a.at a.value.now) in (
      rw add-one (omega (arith, l.invariant.0, c.hex_digit.ensures.1, pow-suc 16 l.c-index)),
      rw add-one (l.invariant.1 ∙ word_next digits l.c-index l.word (omega arith) ∙ ap (λ (d : ℕ). hex_of (drop (suc l.c-index) digits) (l.word * 16 + d)) (sym c.hex_digit.ensures.0)),
    )

pub returns : goal.returns
returns c =
    let a = c.args in
    let l = c.loop-c in
    let few : a.at + 8 - a.at ≡ 8 = omega arith in
    sym (ap (λ (k : ℕ). hex_of (take k (drop a.at a.value.now)) 0) (sym few) ∙ l.invariant.1 ∙ word_done (take (a.at + 8 - a.at) (drop a.at a.value.now)) l.c-index l.word (omega arith))
