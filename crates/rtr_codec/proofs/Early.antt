-- `o.ok_or(e)?` left early: there was nothing in o, and e is what comes back. Assumes nothing.
use Rattle.std.proofs.Common.{◌≡◌, Option, Some, None, Result, Ok, Err, refl, sym, ap, ◌∙◌}
use Rattle.std.specs.Option.{ok_or}
use Rattle.std.specs.Result.{IsErrAnd}
use Rattle.std.proofs.lemmas.Result.{err_from_is_err_and}

pub refused_early : {A T E : Type 0} (o : Option A) (e f : E) (r : Result A E) (x : Result T E) → r ≡ ok_or o e → r ≡ Err f → IsErrAnd x (λ y. y ≡ f) → (o ≡ None) × (x ≡ Err e)
refused_early {A} {T} {E} None e f r x given left back =
    let answer = err_from_is_err_and x back in
    let both : ◌≡◌ {A = Result A E} (Err f) (Err e) = sym left ∙ given in
    let same : f ≡ e = cc in
    (refl, answer.1 ∙ ap (λ z. Err z) (answer.2 ∙ same))
refused_early {A} {T} {E} (Some a) e f r x given left back = absurd (let never : ◌≡◌ {A = Result A E} (Ok a) (Err f) = sym given ∙ left in cc)
