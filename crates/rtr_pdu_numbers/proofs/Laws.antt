-- The round trips of a PDU, for readers and for the crates above: one that fits its types comes back from its numbers, and numbers that give
-- a PDU are its. Assumes nothing.
use Rattle.std.proofs.lemmas.Option.{some_pair_parts}
use Rattle.std.specs.Prelude.{Some, None, Option}
use Prim.Native.Nat.{ℕ}
use mathlib.Core.Bool.{Bool, true, false, cond}
use mathlib.Core.List.{List}
use mathlib.Core.Logic.{◌↔◌}
use mathlib.Core.Path.{◌≡◌, refl, sym, ap, ◌∙◌}
use native.Mathlib.Omega.{arith}
use lib.ListN.{length, get_or}
use Rattle.rtr_models.specs.declared.RtrPdu.{RtrPdu}
use Rattle.rtr_models.specs.declared.RtrPdu.TheVariants.{SerialNotify, SerialQuery, ResetQuery, CacheResponse, IPv4Prefix, IPv6Prefix, EndOfData, CacheReset, RouterKey, ErrorReport}
use Rattle.rtr_numbers.specs.Back.{alike, loose_version}
use Rattle.rtr_numbers.proofs.Lists.{alike_refl, alike_same}
use Rattle.rtr_pdu_numbers.specs.Numbers.{pdu_numbers}
use Rattle.rtr_pdu_numbers.specs.Back.{loose_pdu, pdu_if, pdu_of}
use Rattle.rtr_pdu_numbers.specs.Ranges.{PduFits}
use Rattle.rtr_pdu_numbers.proofs.Pdus.{pdu-back, consumed-back, pdu-fits}

-- there are 12 numbers
pub pdu-length : (pdu : RtrPdu) (k : ℕ) → length (pdu_numbers pdu k) ≡ 12
unfolding pdu_numbers
pdu-length (SerialNotify p) k = refl
pdu-length (SerialQuery p) k = refl
pdu-length (ResetQuery p) k = refl
pdu-length (CacheResponse p) k = refl
pdu-length (IPv4Prefix p) k = refl
pdu-length (IPv6Prefix p) k = refl
pdu-length (EndOfData p) k = refl
pdu-length (CacheReset p) k = refl
pdu-length (RouterKey p) k = refl
pdu-length (ErrorReport p) k = refl

-- a PDU that fits its types comes back from its numbers
pub pdu-of-numbers : (pdu : RtrPdu) (k : ℕ) → PduFits pdu → pdu_of (pdu_numbers pdu k) ≡ Some (pdu, k)
unfolding pdu_if
pdu-of-numbers pdu k h =
    ap (λ (x : RtrPdu). pdu_if x (pdu_numbers pdu k)) (pdu-back pdu k h)
    ∙ ap (λ (j : ℕ). cond (alike (pdu_numbers pdu j) (pdu_numbers pdu k)) (Some (pdu, j)) None) (consumed-back pdu k)
    ∙ ap (λ (b : Bool). cond b (Some (pdu, k)) None) (alike_refl (pdu_numbers pdu k))

-- numbers that give a PDU are its numbers, and it fits its types
pub numbers-of-pdu : (n : List ℕ) (pdu : RtrPdu) (k : ℕ) → pdu_of n ≡ Some (pdu, k) → n ≡ pdu_numbers pdu k
unfolding pdu_if
numbers-of-pdu n pdu k e = go (loose_pdu (loose_version (get_or n 1 0)) n) (alike (pdu_numbers (loose_pdu (loose_version (get_or n 1 0)) n) (get_or n 2 0)) n) refl e
  where
    go : (x : RtrPdu) (b : Bool) →
        alike (pdu_numbers x (get_or n 2 0)) n ≡ b →
        cond {A = Option (RtrPdu × ℕ)} b (Some (x, get_or n 2 0)) None ≡ Some (pdu, k) →
        n ≡ pdu_numbers pdu k
    go x true p q =
        let same : x ≡ pdu = (some_pair_parts _ _ _ _ q).0 in
        let took : get_or n 2 0 ≡ k = (some_pair_parts _ _ _ _ q).1 in
        sym (alike_same (pdu_numbers x (get_or n 2 0)) n p) ∙ ap (λ (y : RtrPdu). pdu_numbers y (get_or n 2 0)) same ∙ ap (pdu_numbers pdu) took
    go x false p q = absurd (let z : ◌≡◌ {A = ℕ} 0 1 = cc in omega arith)

pub pdu-found-fits : (n : List ℕ) (pdu : RtrPdu) (k : ℕ) → pdu_of n ≡ Some (pdu, k) → PduFits pdu
unfolding pdu_if
pdu-found-fits n pdu k e = go (loose_pdu (loose_version (get_or n 1 0)) n) (pdu-fits (loose_version (get_or n 1 0)) n) (alike (pdu_numbers (loose_pdu (loose_version (get_or n 1 0)) n) (get_or n 2 0)) n) e
  where
    go : (x : RtrPdu) → PduFits x → (b : Bool) → cond {A = Option (RtrPdu × ℕ)} b (Some (x, get_or n 2 0)) None ≡ Some (pdu, k) → PduFits pdu
    go x h true q =
        let same : x ≡ pdu = (some_pair_parts _ _ _ _ q).0 in
        rw same at h
    go x h false q = absurd (let z : ◌≡◌ {A = ℕ} 0 1 = cc in omega arith)

-- so a PDU is known exactly where the numbers are those of a PDU that fits its types (`PduFits`: an End of Data has the intervals of its version)
pub pdu-exactly : (n : List ℕ) (pdu : RtrPdu) (k : ℕ) → (pdu_of n ≡ Some (pdu, k)) ↔ (PduFits pdu × (n ≡ pdu_numbers pdu k))
pdu-exactly n pdu k = (λ e. (pdu-found-fits n pdu k e, numbers-of-pdu n pdu k e), λ h. ap pdu_of h.1 ∙ pdu-of-numbers pdu k h.0)
