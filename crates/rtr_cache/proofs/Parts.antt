-- What encoding writes at the front of a part of the output is written there in the whole. Assumes nothing.
use Rattle.std.specs.Prelude.{Result, Ok, Err}
use Prim.Native.Nat.{ℕ, ◌+◌, ◌-◌}
use mathlib.Core.List.{List, [], ◌++◌, append_assoc, append-nil}
use mathlib.Core.Path.{◌≡◌, sym, ap, ◌∙◌}
use native.Mathlib.Omega.{arith}
use lib.ListN.{length, take, drop, length-drop, drop_of_length-le}
use lib.Seq.{take_all, drop-drop}
use Rattle.rtr_base.specs.Over.{over}
use Rattle.rtr_base.proofs.Overs.{over-is}
use Rattle.rtr_models.specs.declared.RtrPdu.{RtrPdu}
use Rattle.rtr_codec.specs.Reading.{in_use}
use Rattle.rtr_encode.specs.Encode.{Encoded, encoding, encode}
use Rattle.rtr_encode.specs.Encode.Writing.{written}
use Rattle.rtr_encode.specs.Answers.{writing, leaves}
use Rattle.rtr_encode.specs.declared.EncodeError.{EncodeError}
use Rattle.rtr_encode.proofs.Laws.{tests-write}
use Rattle.rtr_listing.specs.Private.{Fits, Put}
use Rattle.rtr_cache.specs.Private.{behind_of}
use Rattle.rtr_cache.proofs.NoPayload.{NoPayload}

said-written : (answer : Result ℕ EncodeError) (n at : ℕ) → writing answer ≡ written n → behind_of at answer ≡ at + n
said-written (Ok k) n at e = let same : k ≡ n = cc in ap (λ (x : ℕ). at + x) same
said-written (Err EncodeError.PlaceOutside) n at e = let z : ◌≡◌ {A = ℕ} 0 1 = cc in absurd (omega arith)
said-written (Err EncodeError.InvalidUtf8) n at e = let z : ◌≡◌ {A = ℕ} 0 1 = cc in absurd (omega arith)
said-written (Err EncodeError.TooLong) n at e = let z : ◌≡◌ {A = ℕ} 0 1 = cc in absurd (omega arith)
said-written (Err (EncodeError.OutputShort k)) n at e = let z : ◌≡◌ {A = ℕ} 0 1 = cc in absurd (omega arith)

-- what a call left of the part of an output from a place on
pub record Part (bytes out : List ℕ) (at : ℕ) (answer : Result ℕ EncodeError) (part : List ℕ) : Type 0 where
  pub behind : behind_of at answer ≡ at + length bytes
  pub whole : take at out ++ (part ++ drop (length out - at) (drop at out)) ≡ over out at bytes

pub put-part : {bytes out : List ℕ} {at : ℕ} {answer : Result ℕ EncodeError} {part : List ℕ} → Part bytes out at answer part
    → (next : ℕ) → next ≡ behind_of at answer → Put out at bytes next (take at out ++ (part ++ drop (length out - at) (drop at out)))
put-part p next e = record { place = e ∙ p.behind; content = p.whole }

-- the PDU that was given to it is this one
module _ (pdu : RtrPdu) (plain : NoPayload pdu) (out : List ℕ) (at : ℕ) (fits : Fits out at (encoding in_use pdu [])) (answer : Result ℕ EncodeError) (part : List ℕ) where
  abbrev span : ℕ
  span = length out - at

  abbrev bytes : List ℕ
  bytes = encoding in_use pdu []

  module _ (given : RtrPdu) (same : given ≡ pdu) (promise : leaves answer part ≡ encode in_use given [] (take span (drop at out))) where
    left : leaves answer part ≡ record { says = written (length bytes); out = bytes ++ drop (length bytes) (drop at out) }
    left =
        promise
        ∙ (λ i. encode in_use (same i) [] (take_all span (drop at out) (omega (arith, length-drop at out)) i))
        ∙ tests-write in_use pdu [] (drop at out) plain.places plain.text (omega (arith, plain.short)) (omega (arith, plain.long, length-drop at out))
        ∙ ap (λ (n : ℕ). record { says = written n; out = bytes ++ drop n (drop at out) }) (sym plain.long)

    pub wrote-part : Part bytes out at answer part
    wrote-part =
        let none : drop span (drop at out) ≡ [] = drop_of_length-le (drop at out) {i = span} (omega (arith, length-drop at out)) in
        let bytes-are : part ≡ bytes ++ drop (at + length bytes) out =
        ap (λ (x : Encoded). x.out) left ∙ ap (λ (x : List ℕ). bytes ++ x) (drop-drop (length bytes) at out) in
        record {
          behind = said-written answer (length bytes) at (ap (λ (e : Encoded). e.says) left);
          whole =
              (λ i. take at out ++ (bytes-are i ++ none i))
              ∙ ap (λ (x : List ℕ). take at out ++ x) (append-nil (bytes ++ drop (at + length bytes) out))
              ∙ sym (append_assoc (take at out) bytes (drop (at + length bytes) out))
              ∙ sym (over-is out at bytes);
        }
