-- Reading and encoding held to the RFCs' own pictures (specs/Rfc.antt), which know nothing of either. `rfc-exactly`: a slice of bytes is read as a PDU of n
-- bytes exactly if its first n bytes are the RFCs' picture of it. By `read-exactly` of rtr_codec the PDU stands in the slice, number by number; a picture's
-- fields stand there exactly if their numbers are read there (Pictures). Assumes nothing.
use Rattle.std.specs.Prelude.{Some}
use Prim.Native.Nat.{ℕ, ◌+◌, ◌-◌, ◌≤◌}
use mathlib.Core.Bool.{true, false, or-false}
use mathlib.Core.List.{List}
use mathlib.Core.Logic.{◌↔◌}
use mathlib.Core.Path.{◌≡◌, refl, sym, ap, ◌∙◌}
use native.Mathlib.Omega.{arith}
use borrow.Author.Tests.{leb-true, le-leb, eqb-true, eq-eqb}
use lib.Dec.{leb}
use lib.ListN.{length, take, drop, length-append}
use Rattle.rtr_text.specs.Utf8.{Characters, well_formed}
use Rattle.rtr_text.proofs.Laws.{well-formed-up-to-all, well-formed-is-characters}
use Rattle.rtr_models.specs.Codes.{version_number, type_number, code_number}
use Rattle.rtr_models.specs.declared.RtrProtocolVersion.{RtrProtocolVersion}
use Rattle.rtr_models.specs.declared.RtrProtocolVersion.TheVariants.{V0, V1}
use Rattle.rtr_models.specs.declared.RtrErrorCode.{RtrErrorCode}
use Rattle.rtr_models.specs.declared.RtrErrorCode.TheVariants.{CorruptData, InternalError, NoDataAvailable, InvalidRequest, UnsupportedProtocolVersion, UnsupportedPduType, WithdrawalOfUnknownRecord, DuplicateAnnouncementReceived, UnexpectedProtocolVersion}
use Rattle.rtr_models.specs.Values.{type_of, version_of}
use Rattle.rtr_models.specs.declared.RtrEndOfData.{RtrEndOfData}
use Rattle.rtr_models.specs.declared.RtrPdu.{RtrPdu}
use Rattle.rtr_models.specs.declared.RtrPdu.TheVariants.{SerialNotify, SerialQuery, ResetQuery, CacheResponse, IPv4Prefix, IPv6Prefix, EndOfData, CacheReset, RouterKey, ErrorReport}
use Rattle.rtr_codec.specs.Bytes.{number}
use Rattle.rtr_codec.specs.Reading.{rfc, in_use}
use Rattle.rtr_codec.specs.Departures.{Departure, applies}
use Rattle.rtr_codec.specs.Read.{code_in, header_length, read}
use Rattle.rtr_codec.specs.Read.Verdict.{accepted}
use Rattle.rtr_codec.specs.Stands.{EndStands, KindStands, Stands}
use Rattle.rtr_codec.proofs.Laws.{header_is, read-departs}
use Rattle.rtr_codec.proofs.Exactly.{stands_read, reads-standing}
use Rattle.rtr_round.specs.RoundTrip.{Bytes}
use Rattle.rtr_round.specs.Rfc.{Picture, bits8, bits16, bits32, bytes, serial_notify, serial_query, reset_query, cache_response, ipv4_prefix, ipv6_prefix, end_of_data_v0, end_of_data_v1, cache_reset, router_key, error_report, version, code, last_code, placed, EndReceived, Received, Begins}
use Rattle.rtr_round.proofs.Bytes.{length_part}
use Rattle.rtr_round.proofs.Pictures.{Each, each_stands, bits8-is, bits16-is, bits32-is}

-- the RFCs' numbers are those of the tables
pub same_version : (v : RtrProtocolVersion) → version_number v ≡ version v
same_version V0 = refl
same_version V1 = refl

pub same_code : (c : RtrErrorCode) → code_number c ≡ code c
same_code CorruptData = refl
same_code InternalError = refl
same_code NoDataAvailable = refl
same_code InvalidRequest = refl
same_code UnsupportedProtocolVersion = refl
same_code UnsupportedPduType = refl
same_code WithdrawalOfUnknownRecord = refl
same_code DuplicateAnnouncementReceived = refl
same_code UnexpectedProtocolVersion = refl

-- a code is in a version's list
listed : (v : RtrProtocolVersion) (n : ℕ) → (code_in false v n ≡ true) ↔ (n ≤ last_code v)
listed V0 n = (λ e. leb-true n 7 (sym (or-false (leb n 7)) ∙ e), λ h. simp (le-leb n 7 h))
listed V1 n = (λ e. leb-true n 8 (sym (or-false (leb n 8)) ∙ e), λ h. simp (le-leb n 8 h))

-- a text is UTF-8
utf8 : (text : List ℕ) → (well_formed text ≡ true) ↔ Characters text
utf8 text =
    (λ e. (well-formed-is-characters text).0 ((well-formed-up-to-all text).0 e), λ c. (well-formed-up-to-all text).1 ((well-formed-is-characters text).1 c))

module _ (s : List ℕ) (bs : Bytes s) (n : ℕ) (whole : n ≤ length s) where
  -- a picture is the first n bytes exactly if it is n long and each of its fields stands there
  stands : (fs : Picture) → (take n s ≡ bytes fs) ↔ ((length (bytes fs) ≡ n) × Each s 0 fs)
  stands fs = each_stands s fs 0 n (omega arith)

  -- a field of 1, 2 or 4 bytes stands there exactly if its number is read there
  one : (at v : ℕ) → at + 1 ≤ length s → (bits8 v ≡ take 1 (drop at s)) ↔ (number s at 1 ≡ v)
  one at v h = bits8-is s bs at v h

  two : (at v : ℕ) → at + 2 ≤ length s → (bits16 v ≡ take 2 (drop at s)) ↔ (number s at 2 ≡ v)
  two at v h = bits16-is s bs at v h

  four : (at v : ℕ) → at + 4 ≤ length s → (bits32 v ≡ take 4 (drop at s)) ↔ (number s at 4 ≡ v)
  four at v h = bits32-is s bs at v h

  -- ---- What stands there is the picture

  length-at-4 : (pdu : RtrPdu) → Stands rfc s pdu n → number s 4 4 ≡ n
  length-at-4 pdu k = sym (header_is s) ∙ sym k.total

  version-at-0 : (pdu : RtrPdu) → Stands rfc s pdu n → number s 0 1 ≡ version (version_of pdu)
  version-at-0 pdu k = k.version ∙ same_version (version_of pdu)

  end-received : (v : RtrProtocolVersion) (p : RtrEndOfData) → number s 0 1 ≡ version v → number s 1 1 ≡ 7 → number s 4 4 ≡ n → n ≡ header_length s → EndStands v p s → EndReceived v p (take n s)
  end-received V0 p v t m h k =
      let l : n ≡ 12 = h ∙ k.0 in (
        (stands (end_of_data_v0 _ _)).1 (sym l, ((one 0 _ (omega arith)).1 v, ((one 1 _ (omega arith)).1 t, ((two 2 _ (omega arith)).1 k.1, ((four 4 _ (omega arith)).1 (m ∙ l), ((four 8 _ (omega arith)).1 k.2, tt)))))),
        sym k.3,
        sym k.4,
        sym k.5,
      )
  end-received V1 p v t m h k =
      let l : n ≡ 24 = h ∙ k.0 in (
        number s 12 4,
        number s 16 4,
        number s 20 4,
        (stands (end_of_data_v1 _ _ _ _ _)).1
            (sym l, ((one 0 _ (omega arith)).1 v, ((one 1 _ (omega arith)).1 t, ((two 2 _ (omega arith)).1 k.1, ((four 4 _ (omega arith)).1 (m ∙ l), ((four 8 _ (omega arith)).1 k.2, ((four 12 _ (omega arith)).1 refl, ((four 16 _ (omega arith)).1 refl, ((four 20 _ (omega arith)).1 refl, tt))))))))),
        sym k.3,
        sym k.4,
        sym k.5,
      )

  -- a Router Key's fields, its identifier and its info being any bytes that stand there
  key-each : (flags reserved asn : ℕ) (identifier info : List ℕ) → length identifier ≡ 20 → 32 + length info ≡ n
      → number s 0 1 ≡ 1 → number s 1 1 ≡ 9 → number s 2 1 ≡ flags → number s 3 1 ≡ reserved → number s 4 4 ≡ n → identifier ≡ take 20 (drop 8 s) → number s 28 4 ≡ asn → info ≡ take (length info) (drop 32 s)
      → take n s ≡ bytes (router_key flags reserved identifier asn info)
  key-each flags reserved asn identifier info twenty l a b c d e f g h =
      (stands (router_key flags reserved identifier asn info)).1
      (simp (length-append, twenty) (omega arith), rw twenty ((one 0 _ (omega arith)).1 a, ((one 1 _ (omega arith)).1 b, ((one 2 _ (omega arith)).1 c, ((one 3 _ (omega arith)).1 d, ((four 4 _ (omega arith)).1 (e ∙ sym l), (f, ((four 28 _ (omega arith)).1 g, (h, tt)))))))))

  -- an Error Report's fields, its copy and its text being any bytes that stand there
  report-each : (v c : ℕ) (copy text : List ℕ) → 16 + length copy + length text ≡ n
      → number s 0 1 ≡ v → number s 1 1 ≡ 10 → number s 2 2 ≡ c → number s 4 4 ≡ n → number s 8 4 ≡ length copy → copy ≡ take (length copy) (drop 12 s)
      → number s (12 + length copy) 4 ≡ length text → text ≡ take (length text) (drop (16 + length copy) s)
      → take n s ≡ bytes (error_report v c copy text)
  report-each v c copy text l a b d e f g h i =
      let seat : 16 + length copy ≡ 12 + length copy + 4 = omega arith in
      let last : text ≡ take (length text) (drop (12 + length copy + 4) s) = i ∙ ap (λ (m : ℕ). take (length text) (drop m s)) seat in
      (stands (error_report v c copy text)).1
      (simp length-append (omega arith), ((one 0 _ (omega arith)).1 a, ((one 1 _ (omega arith)).1 b, ((two 2 _ (omega arith)).1 d, ((four 4 _ (omega arith)).1 (e ∙ sym l), ((four 8 _ (omega arith)).1 f, (g, ((four (12 + length copy) _ (omega arith)).1 h, (last, tt)))))))))

  received : (pdu : RtrPdu) → Stands rfc s pdu n → Received pdu (take n s)
  received (SerialNotify p) k =
      let l : n ≡ 12 = k.total ∙ k.kind.0 in
      (stands (serial_notify _ _ _)).1
      (sym l, ((one 0 _ (omega arith)).1 (version-at-0 _ k), ((one 1 _ (omega arith)).1 k.type, ((two 2 _ (omega arith)).1 k.kind.1, ((four 4 _ (omega arith)).1 (length-at-4 _ k ∙ l), ((four 8 _ (omega arith)).1 k.kind.2, tt))))))
  received (SerialQuery p) k =
      let l : n ≡ 12 = k.total ∙ k.kind.0 in
      (stands (serial_query _ _ _)).1
      (sym l, ((one 0 _ (omega arith)).1 (version-at-0 _ k), ((one 1 _ (omega arith)).1 k.type, ((two 2 _ (omega arith)).1 k.kind.1, ((four 4 _ (omega arith)).1 (length-at-4 _ k ∙ l), ((four 8 _ (omega arith)).1 k.kind.2, tt))))))
  received (ResetQuery p) k =
      let l : n ≡ 8 = k.total ∙ k.kind in (
        number s 2 2,
        (stands (reset_query _ _)).1
            (sym l, ((one 0 _ (omega arith)).1 (version-at-0 _ k), ((one 1 _ (omega arith)).1 k.type, ((two 2 _ (omega arith)).1 refl, ((four 4 _ (omega arith)).1 (length-at-4 _ k ∙ l), tt))))),
      )
  received (CacheResponse p) k =
      let l : n ≡ 8 = k.total ∙ k.kind.0 in
      (stands (cache_response _ _)).1
      (sym l, ((one 0 _ (omega arith)).1 (version-at-0 _ k), ((one 1 _ (omega arith)).1 k.type, ((two 2 _ (omega arith)).1 k.kind.1, ((four 4 _ (omega arith)).1 (length-at-4 _ k ∙ l), tt)))))
  received (IPv4Prefix p) k =
      let x = k.kind in
      let l : n ≡ 20 = k.total ∙ x.0 in (
        number s 2 2,
        number s 11 1,
        (stands (ipv4_prefix _ _ _ _ _ _ _ _)).1
            (sym l, ((one 0 _ (omega arith)).1 (version-at-0 _ k), ((one 1 _ (omega arith)).1 k.type, ((two 2 _ (omega arith)).1 refl, ((four 4 _ (omega arith)).1 (length-at-4 _ k ∙ l), ((one 8 _ (omega arith)).1 x.1, ((one 9 _ (omega arith)).1 x.2, ((one 10 _ (omega arith)).1 x.3, ((one 11 _ (omega arith)).1 refl, ((four 12 _ (omega arith)).1 x.4, ((four 16 _ (omega arith)).1 x.5, tt))))))))))),
        x.6,
        x.7,
      )
  received (IPv6Prefix p) k =
      let x = k.kind in
      let l : n ≡ 32 = k.total ∙ x.0 in (
        number s 2 2,
        number s 11 1,
        (stands (ipv6_prefix _ _ _ _ _ _ _ _ _ _ _)).1
            (sym l, ((one 0 _ (omega arith)).1 (version-at-0 _ k), ((one 1 _ (omega arith)).1 k.type, ((two 2 _ (omega arith)).1 refl, ((four 4 _ (omega arith)).1 (length-at-4 _ k ∙ l), ((one 8 _ (omega arith)).1 x.1, ((one 9 _ (omega arith)).1 x.2, ((one 10 _ (omega arith)).1 x.3, ((one 11 _ (omega arith)).1 refl, ((four 12 _ (omega arith)).1 x.4, ((four 16 _ (omega arith)).1 x.5, ((four 20 _ (omega arith)).1 x.6, ((four 24 _ (omega arith)).1 x.7, ((four 28 _ (omega arith)).1 x.8, tt)))))))))))))),
        x.9,
        x.10,
      )
  received (EndOfData p) k = end-received p.version p (version-at-0 _ k) k.type (length-at-4 _ k) k.total k.kind
  received (CacheReset p) k =
      let l : n ≡ 8 = k.total ∙ k.kind in (
        number s 2 2,
        (stands (cache_reset _ _)).1
            (sym l, ((one 0 _ (omega arith)).1 (version-at-0 _ k), ((one 1 _ (omega arith)).1 k.type, ((two 2 _ (omega arith)).1 refl, ((four 4 _ (omega arith)).1 (length-at-4 _ k ∙ l), tt))))),
      )
  received (RouterKey p) k =
      let x = k.kind in
      let l : n ≡ header_length s = k.total in
      let low : 32 ≤ header_length s = x.1.0 in
      let identifier : List ℕ = take 20 (drop 8 s) in
      let info : List ℕ = take (n - 32) (drop 32 s) in
      let twenty : length identifier ≡ 20 = length_part s 8 20 (omega arith) in
      let long : length info ≡ n - 32 = length_part s 32 (n - 32) (omega arith) in
      let info-len : header_length s - 32 ≡ length info = omega arith in (
        number s 3 1,
        identifier,
        info,
        sym x.0,
        key-each p.flags (number s 3 1) p.asn identifier info twenty (omega arith) (k.version ∙ ap version_number (sym x.0)) k.type x.1.1 refl (length-at-4 _ k) refl x.1.3 (ap (λ (m : ℕ). take m (drop 32 s)) (sym long)),
        twenty,
        sym x.1.2,
        sym x.1.4 ∙ ap (placed 32) info-len,
      )
  received (ErrorReport p) k =
      let x = k.kind in
      let e : ℕ = number s 8 4 in
      let m : ℕ = number s (12 + e) 4 in
      let end : 16 + e + m ≡ header_length s = eqb-true (16 + e + m) (header_length s) x.4 in
      let l : n ≡ header_length s = k.total in
      let copy : List ℕ = take e (drop 12 s) in
      let text : List ℕ = take m (drop (16 + e) s) in
      let c : e ≡ length copy = sym (length_part s 12 e (omega arith)) in
      let d : m ≡ length text = sym (length_part s (16 + e) m (omega arith)) in
      let small : code_number p.error_code ≤ last_code p.version = (listed p.version (code_number p.error_code)).0 (rw x.0 at x.1) in (
        copy,
        text,
        report-each (version p.version) (code p.error_code) copy text (omega arith) (version-at-0 _ k) k.type (x.0 ∙ same_code p.error_code) (length-at-4 _ k) c (ap (λ (i : ℕ). take i (drop 12 s)) c) (ap (λ (i : ℕ). number s (12 + i) 4) (sym c) ∙ d) (λ i. take (d i) (drop (16 + c i) s)),
        omega (arith, same_code p.error_code),
        (utf8 text).0 x.5,
        sym x.2 ∙ ap (placed 12) c,
        sym x.3 ∙ (λ i. placed (16 + c i) (d i)),
      )

  -- ---- The picture is what stands there

  -- a PDU stands there by its header and what its kind asks
  header-stands : (pdu : RtrPdu) → 8 ≤ n → number s 0 1 ≡ version (version_of pdu) → number s 1 1 ≡ type_number (type_of pdu) → number s 4 4 ≡ n → KindStands rfc s pdu → Stands rfc s pdu n
  header-stands pdu h v t l k =
      record {
        header = h;
        whole = whole;
        total = sym (header_is s ∙ l);
        version = v ∙ sym (same_version (version_of pdu));
        type = t;
        kind = k;
      }

  end-standing : (v : RtrProtocolVersion) (p : RtrEndOfData) → v ≡ p.version → EndReceived v p (take n s) → Stands rfc s (EndOfData p) n
  end-standing V0 p v r =
      let q = (stands (end_of_data_v0 p.session_id p.serial_number)).0 r.0 in
      let l : 12 ≡ n = q.0 in
      let w = q.1 in
      let m = (four 4 12 (omega arith)).0 w.1.1.1.0 in
      header-stands (EndOfData p) (omega arith) ((one 0 0 (omega arith)).0 w.0 ∙ ap version v) ((one 1 7 (omega arith)).0 w.1.0) (m ∙ l)
      (rw (← v)
      (header_is s ∙ m, (two 2 _ (omega arith)).0 w.1.1.0, (four 8 _ (omega arith)).0 w.1.1.1.1.0, sym r.1, sym r.2, sym r.3))
  end-standing V1 p v r =
      let q = (stands (end_of_data_v1 p.session_id p.serial_number r.0 r.1 r.2)).0 r.3 in
      let l : 24 ≡ n = q.0 in
      let w = q.1 in
      let m = (four 4 24 (omega arith)).0 w.1.1.1.0 in
      header-stands (EndOfData p) (omega arith) ((one 0 1 (omega arith)).0 w.0 ∙ ap version v) ((one 1 7 (omega arith)).0 w.1.0) (m ∙ l)
      (rw (← v) (
        header_is s ∙ m,
        (two 2 _ (omega arith)).0 w.1.1.0,
        (four 8 _ (omega arith)).0 w.1.1.1.1.0,
        ap Some ((four 12 _ (omega arith)).0 w.1.1.1.1.1.0) ∙ sym r.4,
        ap Some ((four 16 _ (omega arith)).0 w.1.1.1.1.1.1.0) ∙ sym r.5,
        ap Some ((four 20 _ (omega arith)).0 w.1.1.1.1.1.1.1.0) ∙ sym r.6,
      ))

  standing : (pdu : RtrPdu) → Received pdu (take n s) → Stands rfc s pdu n
  standing (SerialNotify p) r =
      let q = (stands (serial_notify (version p.version) p.session_id p.serial_number)).0 r in
      let l : 12 ≡ n = q.0 in
      let w = q.1 in
      let m = (four 4 12 (omega arith)).0 w.1.1.1.0 in
      header-stands (SerialNotify p) (omega arith) ((one 0 _ (omega arith)).0 w.0) ((one 1 0 (omega arith)).0 w.1.0) (m ∙ l)
      (header_is s ∙ m, (two 2 _ (omega arith)).0 w.1.1.0, (four 8 _ (omega arith)).0 w.1.1.1.1.0)
  standing (SerialQuery p) r =
      let q = (stands (serial_query (version p.version) p.session_id p.serial_number)).0 r in
      let l : 12 ≡ n = q.0 in
      let w = q.1 in
      let m = (four 4 12 (omega arith)).0 w.1.1.1.0 in
      header-stands (SerialQuery p) (omega arith) ((one 0 _ (omega arith)).0 w.0) ((one 1 1 (omega arith)).0 w.1.0) (m ∙ l)
      (header_is s ∙ m, (two 2 _ (omega arith)).0 w.1.1.0, (four 8 _ (omega arith)).0 w.1.1.1.1.0)
  standing (ResetQuery p) r =
      let q = (stands (reset_query (version p.version) r.0)).0 r.1 in
      let l : 8 ≡ n = q.0 in
      let w = q.1 in
      let m = (four 4 8 (omega arith)).0 w.1.1.1.0 in
      header-stands (ResetQuery p) (omega arith) ((one 0 _ (omega arith)).0 w.0) ((one 1 2 (omega arith)).0 w.1.0) (m ∙ l) (header_is s ∙ m)
  standing (CacheResponse p) r =
      let q = (stands (cache_response (version p.version) p.session_id)).0 r in
      let l : 8 ≡ n = q.0 in
      let w = q.1 in
      let m = (four 4 8 (omega arith)).0 w.1.1.1.0 in
      header-stands (CacheResponse p) (omega arith) ((one 0 _ (omega arith)).0 w.0) ((one 1 3 (omega arith)).0 w.1.0) (m ∙ l) (header_is s ∙ m, (two 2 _ (omega arith)).0 w.1.1.0)
  standing (IPv4Prefix p) r =
      let q = (stands (ipv4_prefix (version p.version) r.0 p.flags p.prefix_length p.max_length r.1 p.prefix p.asn)).0 r.2 in
      let l : 20 ≡ n = q.0 in
      let w = q.1 in
      let m = (four 4 20 (omega arith)).0 w.1.1.1.0 in
      let x = w.1.1.1.1 in
      header-stands (IPv4Prefix p) (omega arith) ((one 0 _ (omega arith)).0 w.0) ((one 1 4 (omega arith)).0 w.1.0) (m ∙ l) (
        header_is s ∙ m,
        (one 8 _ (omega arith)).0 x.0,
        (one 9 _ (omega arith)).0 x.1.0,
        (one 10 _ (omega arith)).0 x.1.1.0,
        (four 12 _ (omega arith)).0 x.1.1.1.1.0,
        (four 16 _ (omega arith)).0 x.1.1.1.1.1.0,
        r.3,
        r.4,
      )
  standing (IPv6Prefix p) r =
      let q =
      (stands
      (ipv6_prefix (version p.version) r.0 p.flags p.prefix_length p.max_length r.1 p.prefix.w0 p.prefix.w1 p.prefix.w2 p.prefix.w3 p.asn)).0
      r.2 in
      let l : 32 ≡ n = q.0 in
      let w = q.1 in
      let m = (four 4 32 (omega arith)).0 w.1.1.1.0 in
      let x = w.1.1.1.1 in
      let y = x.1.1.1.1 in
      header-stands (IPv6Prefix p) (omega arith) ((one 0 _ (omega arith)).0 w.0) ((one 1 6 (omega arith)).0 w.1.0) (m ∙ l) (
        header_is s ∙ m,
        (one 8 _ (omega arith)).0 x.0,
        (one 9 _ (omega arith)).0 x.1.0,
        (one 10 _ (omega arith)).0 x.1.1.0,
        (four 12 _ (omega arith)).0 y.0,
        (four 16 _ (omega arith)).0 y.1.0,
        (four 20 _ (omega arith)).0 y.1.1.0,
        (four 24 _ (omega arith)).0 y.1.1.1.0,
        (four 28 _ (omega arith)).0 y.1.1.1.1.0,
        r.3,
        r.4,
      )
  standing (EndOfData p) r = end-standing p.version p refl r
  standing (CacheReset p) r =
      let q = (stands (cache_reset (version p.version) r.0)).0 r.1 in
      let l : 8 ≡ n = q.0 in
      let w = q.1 in
      let m = (four 4 8 (omega arith)).0 w.1.1.1.0 in
      header-stands (CacheReset p) (omega arith) ((one 0 _ (omega arith)).0 w.0) ((one 1 8 (omega arith)).0 w.1.0) (m ∙ l) (header_is s ∙ m)
  standing (RouterKey p) r =
      let identifier : List ℕ = r.1 in
      let info : List ℕ = r.2 in
      let twenty : length identifier ≡ 20 = r.5 in
      let q = (stands (router_key p.flags r.0 identifier p.asn info)).0 r.4 in
      let l : 32 + length info ≡ n = omega (arith, simp (length-append, twenty) at q.0) in
      let w = q.1 in
      let m = (four 4 _ (omega arith)).0 w.1.1.1.1.0 in
      let x = rw twenty at w.1.1.1.1.1.1 in
      let info-len : length info ≡ header_length s - 32 = omega (arith, header_is s) in
      header-stands (RouterKey p) (omega arith) ((one 0 1 (omega arith)).0 w.0 ∙ ap version (sym r.3)) ((one 1 9 (omega arith)).0 w.1.0) (m ∙ l) (
        sym r.3,
        (
          omega (arith, header_is s),
          (one 2 _ (omega arith)).0 w.1.1.0,
          sym r.6,
          (four 28 _ (omega arith)).0 x.0,
          sym (r.7 ∙ ap (placed 32) info-len),
        ),
      )
  standing (ErrorReport p) r =
      let copy : List ℕ = r.0 in
      let text : List ℕ = r.1 in
      let q = (stands (error_report (version p.version) (code p.error_code) copy text)).0 r.2 in
      let l : 16 + length copy + length text ≡ n = omega (arith, simp length-append at q.0) in
      let w = q.1 in
      let m = (four 4 _ (omega arith)).0 w.1.1.1.0 in
      let c : number s 2 2 ≡ code_number p.error_code = (two 2 _ (omega arith)).0 w.1.1.0 ∙ sym (same_code p.error_code) in
      let a : number s 8 4 ≡ length copy = (four 8 _ (omega arith)).0 w.1.1.1.1.0 in
      let b : number s (12 + length copy) 4 ≡ length text = (four (12 + length copy) _ (omega arith)).0 w.1.1.1.1.1.1.0 in
      let seat : 12 + length copy + 4 ≡ 16 + length copy = omega arith in
      let there : text ≡ take (length text) (drop (16 + length copy) s) = w.1.1.1.1.1.1.1.0 ∙ ap (λ (i : ℕ). take (length text) (drop i s)) seat in
      let small : code_number p.error_code ≤ last_code p.version = omega (arith, same_code p.error_code, r.3) in
      header-stands (ErrorReport p) (omega arith) ((one 0 _ (omega arith)).0 w.0) ((one 1 10 (omega arith)).0 w.1.0) (m ∙ l)
      (rw (a, b) (
        c,
        rw c ((listed p.version (code_number p.error_code)).1 small),
        sym r.5,
        sym r.6,
        eq-eqb _ _ (sym (header_is s ∙ m)),
        ap well_formed (sym there) ∙ (utf8 text).1 r.4,
      ))

-- a slice of bytes is read as a PDU of n bytes, by the RFCs, exactly if its first n bytes are the RFCs' picture of it
pub rfc-exactly : (s : List ℕ) (pdu : RtrPdu) (n : ℕ) → Bytes s → (read rfc s ≡ accepted pdu n) ↔ Begins s pdu n
rfc-exactly s pdu n bs = (
  λ e. let k = stands_read rfc s pdu n e in (k.whole, received s bs n k.whole pdu k),
  λ b. reads-standing rfc s pdu n (standing s bs n b.0 pdu b.1),
)

-- and so is what the program reads, where no named departure applies
pub in-use-exactly : (s : List ℕ) (pdu : RtrPdu) (n : ℕ) → Bytes s → ((d : Departure) → applies rfc d s ≡ false) → (read in_use s ≡ accepted pdu n) ↔ Begins s pdu n
in-use-exactly s pdu n bs none =
    (λ e. (rfc-exactly s pdu n bs).0 (sym (read-departs s none) ∙ e), λ b. read-departs s none ∙ (rfc-exactly s pdu n bs).1 b)
