-- What a match on nested cases has learnt, put together: a `Result` or an `Option` holds x, and x is y. Assumes nothing.
use Rattle.std.proofs.Common.{◌≡◌, Option, Some, Result, Ok, Err, ap, ◌∙◌}

pub ok_told : {T E : Type 0} (r : Result T E) (x y : T) → r ≡ Ok x → x ≡ y → r ≡ Ok y
ok_told r x y p q = p ∙ ap (λ z. Ok z) q

pub err_told : {T E : Type 0} (r : Result T E) (x y : E) → r ≡ Err x → x ≡ y → r ≡ Err y
err_told r x y p q = p ∙ ap (λ z. Err z) q

pub some_told : {T : Type 0} (o : Option T) (x y : T) → o ≡ Some x → x ≡ y → o ≡ Some y
some_told o x y p q = p ∙ ap (λ z. Some z) q
