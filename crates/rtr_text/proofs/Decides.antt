-- The rows decide (document 02, Three). How far a text is well formed is the one place at which a test that goes by the rows stops (`decides-by-rows`), and every byte before it
-- lies in a character by a row (`bytes-before`). Of the definition first, then of the calls. Assumes nothing.
use Prim.Native.Nat.{ℕ, zero, suc, ◌+◌, ◌-◌, ◌≤◌, ◌<◌}
use mathlib.Core.Bool.{true, false≢true}
use mathlib.Core.List.{List, [], ◌∷◌, ◌++◌}
use mathlib.Core.Logic.{◌↔◌, ◌⊎◌, inl, inr}
use mathlib.Core.Path.{◌≡◌, refl, sym, ap, subst, ◌∙◌}
use native.Mathlib.Nat.{eq-zero-or-pos, not-suc-le-zero}
use native.Mathlib.Omega.{arith}
use lib.ListN.{length, take, drop, length-append, length-drop, take-append-drop}
use lib.Seq.{length-take-le, drop-drop, drop-append-add}
use Rattle.rtr_text.specs.Utf8.{rows, within, begins, character, characters, well_formed_up_to, Characters, none, more}
use Rattle.rtr_text.specs.ByRows.{DecidedByRows, InCharacter}
use Rattle.rtr_text.proofs.Begins.{begins-length, begins-append}
use Rattle.rtr_text.proofs.Laws.{up-to-at-most}
use Rattle.rtr_text.proofs.Passes.{as-characters}
use Rattle.rtr_text.proofs.Sequences.{passed-is-characters, sequence-passed}
use Rattle.rtr_text.proofs.Steps.{nothing, characters-stop, characters-step, up-to-stop}
use Rattle.rtr_text.proofs.Table.{row-decides, none-fits, none_found}
use Rattle.rtr_text.proofs.well_formed_up_to.Reads as well-formed-up-to
use Rattle.rtr_text.proofs.is_well_formed.Reads as is-well-formed

-- where a text stops being well formed there is no character
no_more : (most : ℕ) (text : List ℕ) → length text ≤ most → character rows (drop (characters most text) text) ≡ 0
no_more zero [] h = unfold characters in nothing
no_more zero (b ∷ text) h = absurd (not-suc-le-zero h)
no_more (suc most) text h = by (character rows text) refl (no_more most)
  where
    by : (n : ℕ) → character rows text ≡ n → ((rest : List ℕ) → length rest ≤ most → character rows (drop (characters most rest) rest) ≡ 0) → character rows (drop (characters (suc most) text) text) ≡ 0
    by zero e below = rw (characters-stop most text e) e
    by (suc n) e below = rw (characters-step most text n e, ← drop-drop (characters most (drop (suc n) text)) (suc n) text) (below (drop (suc n) text) (omega (arith, length-drop (suc n) text)))

-- it stops where the rows say
decided : (text : List ℕ) → DecidedByRows text (well_formed_up_to text)
unfolding well_formed_up_to
decided text = record {
  inside = up-to-at-most text;
  passed = passed-is-characters (length text) text;
  stopped = λ row m. none-fits row (drop (characters (length text) text) text) (no_more (length text) text (omega arith)) m;
}

-- and the rows say it of no other place
nowhere-else : (text : List ℕ) (n : ℕ) → DecidedByRows text n → n ≡ well_formed_up_to text
nowhere-else text n d =
    let w : well_formed_up_to (take n text ++ drop n text) ≡ length (take n text) + well_formed_up_to (drop n text) = sequence-passed (drop n text) d.passed in
    let z : well_formed_up_to (drop n text) ≡ 0 = up-to-stop (drop n text) 0 (sym (none_found rows (drop n text) d.stopped)) refl in
    omega (arith, ap well_formed_up_to (take-append-drop n text), length-take-le n text d.inside)

pub decides-by-rows : (text : List ℕ) (n : ℕ) → (n ≡ well_formed_up_to text) ↔ DecidedByRows text n
decides-by-rows text n = (λ e. subst (DecidedByRows text) (sym e) (decided text), nowhere-else text n)

-- each byte of a sequence of characters lies in one of them
in-sequence : {c : List ℕ} (i : ℕ) → Characters c → i < length c → InCharacter c i
in-sequence i none l = absurd (not-suc-le-zero l)
in-sequence i (more row c rest m e f r) l = by (eq-zero-or-pos (suc i - length c)) (λ (k : i - length c < length rest). in-sequence (i - length c) r k)
  where
    by : (suc i - length c ≡ 0) ⊎ (0 < suc i - length c) → (i - length c < length rest → InCharacter rest (i - length c)) → InCharacter (c ++ rest) i
    by (inl z) below = record { row = row; one_of = m; start = 0; fits = begins-append row c rest f; from = omega arith; before = omega arith }
    by (inr p) below =
        let w = below (omega (arith, length-append c rest)) in
        record {
          row = w.row;
          one_of = w.one_of;
          start = length c + w.start;
          fits = rw (drop-append-add c rest w.start) w.fits;
          from = omega (arith, w.from);
          before = omega (arith, w.before);
        }

-- every byte before the place where it stops lies in a character that ends at or before that place
pub bytes-before : (text : List ℕ) (i : ℕ) → i < well_formed_up_to text → InCharacter (take (well_formed_up_to text) text) i
bytes-before text i l = in-sequence i (decided text).passed (omega (arith, length-take-le (well_formed_up_to text) text (up-to-at-most text)))

-- a byte that lies in a character is one of the text's
pub in-the-text : (text : List ℕ) (i : ℕ) → InCharacter text i → i < length text
in-the-text text i w = omega (arith, begins-length w.row (drop w.start text) w.fits, length-drop w.start text, w.before)

-- and one that may only continue a character lies in none where none was begun: 0x80 and then a letter
pub continues-nothing : InCharacter (0x80 ∷ 0x41 ∷ []) 0 → ⊥
unfolding character begins within
continues-nothing w =
    let e : w.start ≡ 0 = omega (arith, w.from) in
    false≢true (sym (none-fits w.row (0x80 ∷ 0x41 ∷ []) refl w.one_of) ∙ rw e at w.fits)

-- nor does it lie in the character before it, where that has no byte more: a letter and then 0x80
pub behind-a-character : InCharacter (0x41 ∷ 0x80 ∷ []) 1 → ⊥
unfolding character begins within
behind-a-character w = by w.start refl
  where
    by : (k : ℕ) → w.start ≡ k → ⊥
    by zero e = let l : length w.row ≡ 1 = row-decides w.row (0x41 ∷ 0x80 ∷ []) w.one_of (rw e at w.fits) in omega (arith, w.before)
    by (suc zero) e = false≢true (sym (none-fits w.row (0x80 ∷ []) refl w.one_of) ∙ rw e at w.fits)
    by (suc (suc k)) e = absurd (omega (arith, w.from))

-- of the calls
pub call-decides-by-rows : (κs : _) (a : _) (r : _) (s : _) → well-formed-up-to.Post κs a r s → (n : ℕ) → (n ≡ r) ↔ DecidedByRows a.0.now n
call-decides-by-rows κs a r s p n = let d = decides-by-rows a.0.now n in (λ e. d.0 (e ∙ p), λ w. d.1 w ∙ sym p)

pub call-bytes-before : (κs : _) (a : _) (r : _) (s : _) → well-formed-up-to.Post κs a r s → (i : ℕ) → i < r → InCharacter (take r a.0.now) i
call-bytes-before κs a r s p i l = subst (λ (n : ℕ). InCharacter (take n a.0.now) i) (sym p) (bytes-before a.0.now i (rw p at l))

pub call-is-characters : (κs : _) (a : _) (r : _) (s : _) → is-well-formed.Post κs a r s → (r ≡ true) ↔ Characters a.0.now
call-is-characters κs a r s p = (λ e. (as-characters a.0.now).0 (sym p ∙ e), λ c. p ∙ (as-characters a.0.now).1 c)
