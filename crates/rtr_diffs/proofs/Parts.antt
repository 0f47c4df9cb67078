-- What a call of rtr_listing writes at the front of a part of the output is written there in the whole. Assumes nothing.
use Rattle.std.specs.Prelude.{Result, Ok, Err}
use Prim.Native.Nat.{ℕ, zero, suc, ◌+◌, ◌-◌, ◌≤◌}
use mathlib.Core.List.{List, [], ◌∷◌, ◌++◌, append_assoc, append-nil}
use mathlib.Core.Path.{◌≡◌, refl, sym, ap, ◌∙◌}
use native.Mathlib.Omega.{arith}
use lib.ListN.{length, take, drop, length-drop, drop_of_length-le}
use lib.Seq.{drop-drop}
use Rattle.rtr_base.proofs.Overs.{over-is}
use Rattle.rtr_encode.specs.Encode.{Encoded}
use Rattle.rtr_encode.specs.Encode.Writing.{written}
use Rattle.rtr_listing.specs.Private.{Fits, Put}
use Rattle.rtr_listing.specs.Promises.{list_said, leaves, puts}
use Rattle.rtr_listing.specs.declared.ListError.TheVariants.{NotAReceiver, OutputShort}
use Rattle.rtr_listing.proofs.Laws.{written_is}
use Rattle.rtr_diffs.specs.Private.{behind_of}
use Rattle.rtr_listing.specs.declared.ListError.{ListError}

take_all : (k : ℕ) (s : List ℕ) → length s ≤ k → take k s ≡ s
take_all zero [] h = refl
take_all (suc k) [] h = refl
take_all zero (x ∷ s) h = absurd (omega arith)
take_all (suc k) (x ∷ s) h = ap (λ (t : List ℕ). x ∷ t) (take_all k s (omega arith))

said-written : (answer : Result ℕ ListError) (n at : ℕ) → list_said answer ≡ written n → behind_of at answer ≡ at + n
said-written (Ok k) n at e = let same : k ≡ n = cc in ap (λ (x : ℕ). at + x) same
said-written (Err NotAReceiver) n at e = let z : ◌≡◌ {A = ℕ} 0 1 = cc in absurd (omega arith)
said-written (Err (OutputShort k)) n at e = let z : ◌≡◌ {A = ℕ} 0 1 = cc in absurd (omega arith)

module _ (bytes out : List ℕ) (at : ℕ) (fits : Fits out at bytes) (answer : Result ℕ ListError) (part : List ℕ) where
  abbrev span : ℕ
  span = length out - at

  module _ (promise : leaves answer part ≡ puts bytes (take span (drop at out))) where
    whole : take span (drop at out) ≡ drop at out
    whole = take_all span (drop at out) (omega (arith, length-drop at out))

    left : leaves answer part ≡ record { says = written (length bytes); out = bytes ++ drop (length bytes) (drop at out) }
    left = promise ∙ ap (puts bytes) whole ∙ written_is bytes (drop at out) (omega (arith, length-drop at out))

    pub part-behind : behind_of at answer ≡ at + length bytes
    part-behind = said-written answer (length bytes) at (ap (λ (e : Encoded). e.says) left)

    pub put-part : (next : ℕ) → next ≡ behind_of at answer → Put out at bytes next (take at out ++ (part ++ drop span (drop at out)))
    put-part next e =
        let none : drop span (drop at out) ≡ [] = drop_of_length-le (drop at out) {i = span} (omega (arith, length-drop at out)) in
        let bytes-are : part ≡ bytes ++ drop (at + length bytes) out =
        ap (λ (x : Encoded). x.out) left ∙ ap (λ (x : List ℕ). bytes ++ x) (drop-drop (length bytes) at out) in
        record {
          place = e ∙ part-behind;
          content =
              (λ i. take at out ++ (bytes-are i ++ none i))
              ∙ ap (λ (x : List ℕ). take at out ++ x) (append-nil (bytes ++ drop (at + length bytes) out))
              ∙ sym (append_assoc (take at out) bytes (drop (at + length bytes) out))
              ∙ sym (over-is out at bytes);
        }
