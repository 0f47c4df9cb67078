-- A PDU whose numbers fit is guessed from its numbers, and a guess always fits. Assumes nothing.
use Rattle.std.specs.Prelude.{Option, Some, None}
use Prim.Native.Nat.{ℕ, ◌%◌}
use mathlib.Core.List.{List}
use mathlib.Core.Path.{◌≡◌, refl}
use native.Mathlib.Omega.{arith}
use lib.Dec.{eqb}
use lib.ListN.{get_or}
use Rattle.rtr_models.specs.Values.{version_of}
use Rattle.rtr_models.specs.declared.RtrProtocolVersion.{RtrProtocolVersion}
use Rattle.rtr_models.specs.declared.RtrProtocolVersion.TheVariants.{V0, V1}
use Rattle.rtr_models.specs.declared.RtrPdu.{RtrPdu}
use Rattle.rtr_models.specs.declared.RtrPdu.TheVariants.{SerialNotify, SerialQuery, ResetQuery, CacheResponse, IPv4Prefix, IPv6Prefix, EndOfData, CacheReset, RouterKey, ErrorReport}
use Rattle.rtr_pdu_numbers.specs.Numbers.{pdu_numbers, end_seconds}
use Rattle.rtr_numbers.specs.Back.{loose_version}
use Rattle.rtr_pdu_numbers.specs.Back.{loose_interval, loose_pdu}
use Rattle.rtr_pdu_numbers.specs.Ranges.{IntervalFits, PduFits}
use Rattle.rtr_numbers.proofs.Guesses.{version-back, code-back, either_way}

-- number 1 is the version
version-told : (pdu : RtrPdu) (k : ℕ) → loose_version (get_or (pdu_numbers pdu k) 1 0) ≡ version_of pdu
unfolding pdu_numbers
version-told (SerialNotify p) k = version-back p.version
version-told (SerialQuery p) k = version-back p.version
version-told (ResetQuery p) k = version-back p.version
version-told (CacheResponse p) k = version-back p.version
version-told (IPv4Prefix p) k = version-back p.version
version-told (IPv6Prefix p) k = version-back p.version
version-told (EndOfData p) k = version-back p.version
version-told (CacheReset p) k = version-back p.version
version-told (RouterKey p) k = version-back p.version
version-told (ErrorReport p) k = version-back p.version

interval-back : (v : RtrProtocolVersion) (default : ℕ) (x : Option ℕ) → IntervalFits v x → loose_interval v (end_seconds v default x) ≡ x
interval-back V0 default None h = refl
interval-back V0 default (Some n) h = absurd h
interval-back V1 default None h = absurd h
interval-back V1 default (Some n) h = let e : n % 4294967296 ≡ n = omega arith in cc

by-version : (pdu : RtrPdu) (k : ℕ) → PduFits pdu → loose_pdu (version_of pdu) (pdu_numbers pdu k) ≡ pdu
unfolding pdu_numbers loose_pdu
by-version (SerialNotify p) k h =
    let a : p.session_id % 65536 ≡ p.session_id = omega arith in
    let b : p.serial_number % 4294967296 ≡ p.serial_number = omega arith in
    λ i. SerialNotify (record { version = p.version; session_id = a i; serial_number = b i })
by-version (SerialQuery p) k h =
    let a : p.session_id % 65536 ≡ p.session_id = omega arith in
    let b : p.serial_number % 4294967296 ≡ p.serial_number = omega arith in
    λ i. SerialQuery (record { version = p.version; session_id = a i; serial_number = b i })
by-version (ResetQuery p) k h = refl
by-version (CacheResponse p) k h =
    let a : p.session_id % 65536 ≡ p.session_id = omega arith in
    λ i. CacheResponse (record { version = p.version; session_id = a i })
by-version (IPv4Prefix p) k h =
    let a : p.flags % 256 ≡ p.flags = omega arith in
    let b : p.prefix_length % 256 ≡ p.prefix_length = omega arith in
    let c : p.max_length % 256 ≡ p.max_length = omega arith in
    let d : p.prefix % 4294967296 ≡ p.prefix = omega arith in
    let e : p.asn % 4294967296 ≡ p.asn = omega arith in
    λ i. IPv4Prefix (record { version = p.version; flags = a i; prefix_length = b i; max_length = c i; prefix = d i; asn = e i })
by-version (IPv6Prefix p) k h =
    let a : p.flags % 256 ≡ p.flags = omega arith in
    let b : p.prefix_length % 256 ≡ p.prefix_length = omega arith in
    let c : p.max_length % 256 ≡ p.max_length = omega arith in
    let w0 : p.prefix.w0 % 4294967296 ≡ p.prefix.w0 = omega arith in
    let w1 : p.prefix.w1 % 4294967296 ≡ p.prefix.w1 = omega arith in
    let w2 : p.prefix.w2 % 4294967296 ≡ p.prefix.w2 = omega arith in
    let w3 : p.prefix.w3 % 4294967296 ≡ p.prefix.w3 = omega arith in
    let e : p.asn % 4294967296 ≡ p.asn = omega arith in
    λ i. IPv6Prefix (record { version = p.version; flags = a i; prefix_length = b i; max_length = c i; prefix = record { w0 = w0 i; w1 = w1 i; w2 = w2 i; w3 = w3 i }; asn = e i })
by-version (EndOfData p) k h =
    let a : p.session_id % 65536 ≡ p.session_id = omega arith in
    let b : p.serial_number % 4294967296 ≡ p.serial_number = omega arith in
    let c = interval-back p.version 3600 p.refresh_interval h.2 in
    let d = interval-back p.version 600 p.retry_interval h.3 in
    let e = interval-back p.version 7200 p.expire_interval h.4 in
    λ i. EndOfData (record { version = p.version; session_id = a i; serial_number = b i; refresh_interval = c i; retry_interval = d i; expire_interval = e i })
by-version (CacheReset p) k h = refl
by-version (RouterKey p) k h =
    let a : p.flags % 256 ≡ p.flags = omega arith in
    let b : p.asn % 4294967296 ≡ p.asn = omega arith in
    λ i. RouterKey (record { version = p.version; flags = a i; subject_key_identifier = p.subject_key_identifier; asn = b i; subject_public_key_info = p.subject_public_key_info })
by-version (ErrorReport p) k h =
    let a = code-back p.error_code in
    λ i. ErrorReport (record { version = p.version; error_code = a i; erroneous_pdu = p.erroneous_pdu; error_text = p.error_text })

pub pdu-back : (pdu : RtrPdu) (k : ℕ) → PduFits pdu → loose_pdu (loose_version (get_or (pdu_numbers pdu k) 1 0)) (pdu_numbers pdu k) ≡ pdu
pdu-back pdu k h = rw (version-told pdu k) (by-version pdu k h)

-- number 2 is what it took
pub consumed-back : (pdu : RtrPdu) (k : ℕ) → get_or (pdu_numbers pdu k) 2 0 ≡ k
unfolding pdu_numbers
consumed-back (SerialNotify p) k = refl
consumed-back (SerialQuery p) k = refl
consumed-back (ResetQuery p) k = refl
consumed-back (CacheResponse p) k = refl
consumed-back (IPv4Prefix p) k = refl
consumed-back (IPv6Prefix p) k = refl
consumed-back (EndOfData p) k = refl
consumed-back (CacheReset p) k = refl
consumed-back (RouterKey p) k = refl
consumed-back (ErrorReport p) k = refl

-- ---- A guess fits

interval-fits : (v : RtrProtocolVersion) (n : ℕ) → IntervalFits v (loose_interval v n)
interval-fits V0 n = tt
interval-fits V1 n = omega arith

pub pdu-fits : (v : RtrProtocolVersion) (n : List ℕ) → PduFits (loose_pdu v n)
unfolding loose_pdu
pdu-fits v n =
    let k = get_or n 0 0 in
    either_way PduFits (eqb k 0) _ _ (omega arith, omega arith)
    (either_way PduFits (eqb k 1) _ _ (omega arith, omega arith)
    (either_way PduFits (eqb k 2) _ _ tt
    (either_way PduFits (eqb k 3) _ _ (omega arith)
    (either_way PduFits (eqb k 4) _ _ (omega arith, omega arith, omega arith, omega arith, omega arith)
    (either_way PduFits (eqb k 6) _ _ (omega arith, omega arith, omega arith, omega arith, omega arith, omega arith, omega arith, omega arith)
    (either_way PduFits (eqb k 7) _ _ (omega arith, omega arith, interval-fits v (get_or n 5 0), interval-fits v (get_or n 6 0), interval-fits v (get_or n 7 0))
    (either_way PduFits (eqb k 8) _ _ tt (either_way PduFits (eqb k 9) _ _ (omega arith, omega arith) tt))))))))
