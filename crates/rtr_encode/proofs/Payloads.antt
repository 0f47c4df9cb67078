-- PDUs with payloads: the stores one behind the other are all of the PDU's bytes, whatever the payloads' lengths; and what the tests of
-- places say of the parts. Assumes nothing.
use Rattle.std.specs.Prelude.{Result, Ok, Err, ⊤}
use Prim.Native.Nat.{ℕ, zero, suc, ◌+◌, ◌<◌, ◌/◌, ◌%◌}
use native.Mathlib.Numerals.{add-one}
use mathlib.Core.Bool.{Bool, true, false}
use mathlib.Core.List.{List, [], ◌∷◌, ◌++◌}
use mathlib.Core.Path.{◌≡◌, refl, sym, ap, ◌∙◌}
use native.Mathlib.Omega.{arith}
use borrow.Author.Tests.{leb-true}
use lib.ListN.{length, drop, length-append, length-drop}
use lib.Seq.{length-take-le}
use Rattle.rtr_models.specs.Codes.{version_number}
use Rattle.rtr_models.specs.Parts.{inside, part_number, number_if}
use Rattle.rtr_models.specs.declared.RtrProtocolVersion.{RtrProtocolVersion}
use Rattle.rtr_models.specs.declared.Place.{Place}
use Rattle.rtr_base.specs.Over.{over}
use Rattle.rtr_encode.specs.Encode.{bytes_of, at}
use Rattle.rtr_encode.specs.Private.{key_bytes, report_bytes}
use Rattle.rtr_base.proofs.Overs.{next}
use Rattle.rtr_models.specs.declared.PlaceOutside.{PlaceOutside}

pub flags-and-zero : (a : ℕ) → a < 256 → a ∷ 0 ∷ [] ≡ bytes_of 1 a ++ (0 ∷ [])
unfolding bytes_of
flags-and-zero a p = let x : a ≡ a % 256 = omega arith in cc

pub length-bytes : (size n : ℕ) → length (bytes_of size n) ≡ size
unfolding bytes_of
length-bytes zero n = refl
length-bytes (suc size) n = length-append (bytes_of size (n / 256)) (n % 256 ∷ []) ∙ add-one (length (bytes_of size (n / 256))) ∙ ap suc (length-bytes size (n / 256))

pub key-stored : (v : RtrProtocolVersion) (flags asn whole : ℕ) (identifier info o o₁ o₂ o₃ o₄ o₅ : List ℕ) → length identifier ≡ 20
    → o₁ ≡ over o 0 (version_number v ∷ 9 ∷ (bytes_of 2 0 ++ bytes_of 4 whole)) → o₂ ≡ over o₁ 8 (bytes_of 1 flags ++ (0 ∷ []))
    → o₃ ≡ over o₂ 10 identifier → o₄ ≡ over o₃ 30 (bytes_of 4 asn) → o₅ ≡ over o₄ 34 info
    → o₅ ≡ over o 0 (key_bytes v flags identifier asn info whole)
key-stored v flags asn whole identifier info o o₁ o₂ o₃ o₄ o₅ h e₁ e₂ e₃ e₄ e₅ =
    let head : List ℕ = version_number v ∷ 9 ∷ (bytes_of 2 0 ++ bytes_of 4 whole) in
    let fixed : List ℕ = head ++ (bytes_of 1 flags ++ (0 ∷ [])) in
    let l₁ : length head ≡ 8 = unfold bytes_of in refl in
    let l₂ : length fixed ≡ 10 = unfold bytes_of in refl in
    let l₃ : length (fixed ++ identifier) ≡ 30 = simp (length-append, length-bytes) (omega arith) in
    let l₄ : length (fixed ++ identifier ++ bytes_of 4 asn) ≡ 34 = simp (length-append, length-bytes) (omega arith) in
    next o o₄ o₅ _ _ 34 (next o o₃ o₄ _ _ 30 (next o o₂ o₃ _ _ 10 (next o o₁ o₂ _ _ 8 e₁ l₁ e₂) l₂ e₃) l₃ e₄) l₄ e₅

pub report-stored : (v : RtrProtocolVersion) (code whole : ℕ) (copy text o o₁ o₂ o₃ o₄ o₅ : List ℕ)
    → o₁ ≡ over o 0 (version_number v ∷ 10 ∷ (bytes_of 2 code ++ bytes_of 4 whole)) → o₂ ≡ over o₁ 8 (bytes_of 4 (length copy)) → o₃ ≡ over o₂ 12 copy
    → o₄ ≡ over o₃ (12 + length copy) (bytes_of 4 (length text)) → o₅ ≡ over o₄ (16 + length copy) text
    → o₅ ≡ over o 0 (report_bytes v code copy text whole)
report-stored v code whole copy text o o₁ o₂ o₃ o₄ o₅ e₁ e₂ e₃ e₄ e₅ =
    let head : List ℕ = version_number v ∷ 10 ∷ (bytes_of 2 code ++ bytes_of 4 whole) in
    let l₁ : length head ≡ 8 = unfold bytes_of in refl in
    let l₂ : length (head ++ bytes_of 4 (length copy)) ≡ 12 = unfold bytes_of in refl in
    let l₃ : length (head ++ bytes_of 4 (length copy) ++ copy) ≡ 12 + length copy = simp (length-append, length-bytes) (omega arith) in
    let l₄ : length (head ++ bytes_of 4 (length copy) ++ copy ++ bytes_of 4 (length text)) ≡ 16 + length copy =
    simp (length-append, length-bytes) (omega arith) in
    next o o₄ o₅ _ _ (16 + length copy) (next o o₃ o₄ _ _ (12 + length copy) (next o o₂ o₃ _ _ 12 (next o o₁ o₂ _ _ 8 e₁ l₁ e₂) l₂ e₃) l₃ e₄) l₄ e₅

-- what a test of a place tells
pub part-is-true : (b : Bool) (r : Result ⊤ PlaceOutside) → part_number r ≡ number_if b → r ≡ Ok tt → b ≡ true
part-is-true true r p q = refl
part-is-true false r p q = let z : ◌≡◌ {A = ℕ} 0 11 = sym (ap part_number q) ∙ p in absurd (omega arith)

pub refused-is-false : (b : Bool) (r : Result ⊤ PlaceOutside) → part_number r ≡ number_if b → r ≡ Err (record {}) → b ≡ false
refused-is-false true r p q = let z : ◌≡◌ {A = ℕ} 11 0 = sym (ap part_number q) ∙ p in absurd (omega arith)
refused-is-false false r p q = refl

-- a part that is inside has its place's length
pub part-long : (p : Place) (s : List ℕ) → inside p s ≡ true → length (at p s) ≡ p.len
part-long p s e = length-take-le p.len (drop p.start s) (simp length-drop (omega (arith, leb-true (p.start + p.len) _ e)))
