-- What was written is read where it stands: a number that fits its bytes is read as itself, so written fields have the values
-- themselves, each by its label; and the length is read at byte 4. `E` is the whole list, of
-- which `p` is what stands before the fields and `q` what stands behind them. Assumes nothing.
use Prim.Native.Nat.{ℕ, ◌+◌, ◌^◌, ◌≤◌, ◌<◌}
use mathlib.Core.Bool.{false}
use mathlib.Core.List.{List, [], ◌∷◌, ◌++◌, append_assoc}
use mathlib.Core.Path.{◌≡◌, sym, ap, ◌∙◌}
use native.Mathlib.Omega.{arith}
use lib.ListN.{length, take, drop, replicate, length-append, length-replicate}
use Rattle.rtr_codec.specs.Bytes.{number}
use Rattle.rtr_codec.proofs.Laws.{number-behind-front}
use Rattle.rtr_codec.specs.Layout.{Label, Field}
use Rattle.rtr_codec.specs.Layout.Field.{ignored, total, value, payload}
use Rattle.rtr_encode.specs.Encode.{bytes_of, field_bytes}
use Rattle.rtr_encode.proofs.Laws.{number-of-bytes}
use Rattle.rtr_round.specs.RoundTrip.{ValuesFit}
use Rattle.rtr_round.proofs.Bytes.{length-bytes, length_part}
use Rattle.rtr_round.proofs.Fields.{TotalAt4, PayloadsIn}

-- a number that fits is read as itself
pub number-written : (p q : List ℕ) (at size n : ℕ) → length p ≡ at → n < 256 ^ size → number (p ++ (bytes_of size n ++ q)) at size ≡ n
number-written p q at size n e h = rw (← e) (number-behind-front p (bytes_of size n ++ q) size ∙ number-of-bytes size n q h)

-- the fields of E from `at` on have these values, payloads apart
abbrev pub Valued : ℕ → List Field → (Label → ℕ) → List ℕ → Type 0
Valued at [] values E = Unit {0}
Valued at (ignored n ∷ fs) values E = Valued (at + n) fs values E
Valued at (total ∷ fs) values E = Valued (at + 4) fs values E
Valued at (value l n ∷ fs) values E = (number E at n ≡ values l) × Valued (at + n) fs values E
Valued at (payload l n ∷ fs) values E = Valued (at + n) fs values E

-- the first of the fields goes to what stands before them
next : (E p x y q : List ℕ) → E ≡ p ++ (x ++ y) ++ q → E ≡ p ++ x ++ y ++ q
next E p x y q e = e ∙ ap (λ (l : List ℕ). l ++ q) (sym (append_assoc p x y))

next-length : (p x : List ℕ) (at w : ℕ) → length p ≡ at → length x ≡ w → length (p ++ x) ≡ at + w
next-length p x at w e f = length-append p x ∙ cc

-- and is read where it stands
number-first : (E p y q : List ℕ) (at size n : ℕ) → length p ≡ at → n < 256 ^ size → E ≡ p ++ (bytes_of size n ++ y) ++ q → number E at size ≡ n
number-first E p y q at size n l h e =
    let r : E ≡ p ++ (bytes_of size n ++ (y ++ q)) = e ∙ simp append_assoc in
    rw r (number-written p (y ++ q) at size n l h)

module _ (s E q : List ℕ) (whole : ℕ) where
  pub values-written : (fs : List Field) (at : ℕ) (values : Label → ℕ) (p : List ℕ) → PayloadsIn fs values s → ValuesFit fs values → length p ≡ at
      → E ≡ p ++ field_bytes fs whole values s ++ q → Valued at fs values E
  values-written [] at values p i f l e = tt
  values-written (ignored n ∷ fs) at values p i f l e =
      values-written fs (at + n) values (p ++ replicate n 0) i f (next-length p _ at n l (length-replicate n 0)) (next E p _ _ q e)
  values-written (total ∷ fs) at values p i f l e =
      values-written fs (at + 4) values (p ++ bytes_of 4 whole) i f (next-length p _ at 4 l (length-bytes 4 whole)) (next E p _ _ q e)
  values-written (value label n ∷ fs) at values p i f l e = (
    number-first E p _ q at n (values label) l f.0 e,
    values-written fs (at + n) values (p ++ bytes_of n (values label)) i f.1 (next-length p _ at n l (length-bytes n (values label))) (next E p _ _ q e),
  )
  values-written (payload label n ∷ fs) at values p i f l e =
      let x : List ℕ = take n (drop (values label) s) in
      values-written fs (at + n) values (p ++ x) i.1 f (next-length p x at n l (length_part s (values label) n i.0)) (next E p x _ q e)

  pub total-written : (fs : List Field) (at : ℕ) (values : Label → ℕ) (p : List ℕ) → PayloadsIn fs values s → TotalAt4 false at fs → whole ≤ 4294967295 → length p ≡ at
      → E ≡ p ++ field_bytes fs whole values s ++ q → number E 4 4 ≡ whole
  total-written [] at values p i t h l e = absurd (let z : ◌≡◌ {A = ℕ} 0 1 = cc in omega arith)
  total-written (ignored n ∷ fs) at values p i t h l e =
      total-written fs (at + n) values (p ++ replicate n 0) i t h (next-length p _ at n l (length-replicate n 0)) (next E p _ _ q e)
  total-written (total ∷ fs) at values p i t h l e = number-first E p _ q 4 4 whole (l ∙ t.0) (omega arith) e
  total-written (value label n ∷ fs) at values p i t h l e =
      total-written fs (at + n) values (p ++ bytes_of n (values label)) i t h (next-length p _ at n l (length-bytes n (values label))) (next E p _ _ q e)
  total-written (payload label n ∷ fs) at values p i t h l e =
      let x : List ℕ = take n (drop (values label) s) in
      total-written fs (at + n) values (p ++ x) i.1 t h (next-length p x at n l (length_part s (values label) n i.0)) (next E p x _ q e)
