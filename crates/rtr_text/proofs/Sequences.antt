-- What a text is well formed up to is a sequence of characters, and of such a sequence before other bytes all is passed. One way (`passed-is-characters`), what `characters` counted is cut into
-- the characters that it counted. The other way (`sequence-passed`), `character` finds the very row that each character of the sequence has, since no other row begins the same text
-- (`row-decides`). Assumes nothing.
use Prim.Native.Nat.{ℕ, zero, suc, ◌+◌, ◌≤◌}
use mathlib.Core.Path.{◌≡◌, refl, sym, ap, ◌∙◌}
use mathlib.Core.List.{List, [], ◌∷◌, ◌++◌, append_assoc}
use native.Mathlib.Nat.{suc-ne-zero, zero-add}
use native.Mathlib.Omega.{arith}
use lib.ListN.{length, take, drop, length-append}
use lib.Seq.{length-take-le, take-add, drop-append_seam}
use Rattle.rtr_text.specs.Utf8.{rows, character, characters, well_formed_up_to, Characters, none, more}
use Rattle.rtr_text.proofs.Begins.{begins-take, begins-append, character-at-most, found}
use Rattle.rtr_text.proofs.Steps.{characters-stop, characters-step, up-to-step}
use Rattle.rtr_text.proofs.Table.{row-decides}

pub passed-is-characters : (most : ℕ) (text : List ℕ) → Characters (take (characters most text) text)
passed-is-characters zero text = unfold characters in none
passed-is-characters (suc most) text = by (character rows text) refl (passed-is-characters most)
  where
    by : (n : ℕ) → character rows text ≡ n → ((rest : List ℕ) → Characters (take (characters most rest) rest)) → Characters (take (characters (suc most) text) text)
    by zero z below = rw (characters-stop most text z) none
    by (suc n) z below =
        let w = found rows text n z in
        let k : suc n ≤ length text = omega (arith, character-at-most rows text) in
        let rest = drop (suc n) text in
        rw (characters-step most text n z, take-add (suc n) (characters most rest) text)
        (more w.row (take (suc n) text) (take (characters most rest) rest) w.one_of (length-take-le (suc n) text k ∙ sym w.long) (rw w.long at (begins-take w.row text w.fits)) (below rest))

pub sequence-passed : {c : List ℕ} (rest : List ℕ) → Characters c → well_formed_up_to (c ++ rest) ≡ length c + well_formed_up_to rest
sequence-passed rest none = sym (zero-add (well_formed_up_to rest))
sequence-passed rest (more row [] cs m l f r) = sequence-passed rest r
sequence-passed rest (more row (b ∷ c) cs m l f r) =
    let e : suc (length c) ≡ character rows (b ∷ (c ++ (cs ++ rest))) = l ∙ row-decides row (b ∷ (c ++ (cs ++ rest))) m (begins-append row (b ∷ c) (cs ++ rest) f) in
    let s : well_formed_up_to (b ∷ (c ++ (cs ++ rest))) ≡ suc (length c) + well_formed_up_to (drop (length c) (c ++ (cs ++ rest))) = up-to-step (b ∷ (c ++ (cs ++ rest))) (suc (length c)) e (suc-ne-zero (length c)) in
    let h : well_formed_up_to (drop (length c) (c ++ (cs ++ rest))) ≡ length cs + well_formed_up_to rest = ap well_formed_up_to (drop-append_seam c (cs ++ rest)) ∙ sequence-passed rest r in
    let a : well_formed_up_to (b ∷ ((c ++ cs) ++ rest)) ≡ well_formed_up_to (b ∷ (c ++ (cs ++ rest))) = ap (λ (t : List ℕ). well_formed_up_to (b ∷ t)) (append_assoc c cs rest) in
    omega (arith, length-append c cs)
