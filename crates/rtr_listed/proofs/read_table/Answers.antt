-- `read_table`: five numbers' lines, one behind another. Assumes nothing.
use Prim.Native.Nat.{ℕ}
use mathlib.Core.List.{List, [], ◌∷◌}
use mathlib.Core.Path.{◌∙◌}
use native.Mathlib.Omega.{arith}
use Rattle.rtr_listing.specs.Listing.{Field, text}
use Rattle.rtr_listed.proofs.Cursors.{field-stands}
use Rattle.rtr_listed.proofs.read_table.Goals as goal

pub number_line-expire-requires : goal.number_line-expire-requires
number_line-expire-requires c =
    let n4 = c.number_line-retry.ensures.1.1 in
    let n3 = c.number_line-refresh.ensures.1.1 in
    let n2 = c.number_line-serial.ensures.1.1 in
    let n1 = c.number_line-session.ensures.1.1 in
    (n4.at, (omega (arith, n4.line, n3.line, n2.line, n1.line, c.requires.1), omega arith))

pub overflow_cast-result : goal.overflow_cast-result
overflow_cast-result c = omega (arith, c.number_line-session.ensures.1.0)

pub overflow_cast-result-2 : goal.overflow_cast-result-2
overflow_cast-result-2 c = omega (arith, c.number_line-serial.ensures.1.0)

pub returns : goal.returns
returns c =
    let a = c.args in
    let s = a.listing.now in
    let n1 = c.number_line-session.ensures in
    let n2 = c.number_line-serial.ensures in
    let n3 = c.number_line-refresh.ensures in
    let n4 = c.number_line-retry.ensures in
    let n5 = c.number_line-expire.ensures in
    let f : List ℕ → ℕ → Field = λ name most. record { name = name; most = most } in
    let f2 : Field = f (text "serial=") 4294967295 in
    let f3 : Field = f (text "refresh=") 4294967295 in
    let f4 : Field = f (text "retry=") 4294967295 in
    let f5 : Field = f (text "expire=") 4294967295 in (
      λ limit stopped.
          field-stands limit stopped [] (f (text "session=") 65535) (f2 ∷ f3 ∷ f4 ∷ f5 ∷ []) s a.c _ _ n1.0
          ∙ field-stands limit stopped _ f2 (f3 ∷ f4 ∷ f5 ∷ []) s _ _ _ n2.0
          ∙ field-stands limit stopped _ f3 (f4 ∷ f5 ∷ []) s _ _ _ n3.0
          ∙ field-stands limit stopped _ f4 (f5 ∷ []) s _ _ _ n4.0
          ∙ field-stands limit stopped _ f5 [] s _ _ _ n5.0,
      record { at = n5.1.1.at; line = omega (arith, n1.1.1.line, n2.1.1.line, n3.1.1.line, n4.1.1.line, n5.1.1.line) },
    )
