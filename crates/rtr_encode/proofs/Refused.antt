-- Which encodings are refused, by which number, in document 01's order ("Encoding": 11, 8, 10, 9): a check that fails where those before it pass gives its number and leaves the output. Then samples: an encoding
-- of one byte more than 4,294,967,295 is refused by 10, and a Router Key of version 0 is written. Assumes nothing.
use Prim.Native.Nat.{ℕ, ◌≤◌, ◌<◌}
use mathlib.Core.Bool.{true, false}
use mathlib.Core.List.{List, [], ◌∷◌, ◌++◌}
use mathlib.Core.Path.{◌≡◌}
use native.Mathlib.Omega.{arith}
use borrow.Author.Tests.{le-leb, lt-leb}
use lib.ListN.{length, drop}
use Rattle.rtr_text.proofs.Laws.{empty-is-well-formed}
use Rattle.rtr_models.specs.declared.RtrProtocolVersion.TheVariants.{V0, V1}
use Rattle.rtr_models.specs.declared.RtrErrorCode.TheVariants.{CorruptData}
use Rattle.rtr_models.specs.declared.RtrRouterKey.{RtrRouterKey}
use Rattle.rtr_models.specs.declared.RtrPdu.{RtrPdu}
use Rattle.rtr_models.specs.declared.RtrPdu.TheVariants.{RouterKey, ErrorReport}
use Rattle.rtr_codec.specs.Reading.{Reading, in_use}
use Rattle.rtr_encode.specs.Encode.{places_inside, text_in, encoded_length, encoding, encode_says, encode}
use Rattle.rtr_encode.specs.Encode.Writing.{written, refused}
use Rattle.rtr_encode.proofs.Laws.{tests-write}

module _ (R : Reading) (pdu : RtrPdu) (s out : List ℕ) where
  pub place-refused : places_inside pdu s ≡ false → encode R pdu s out ≡ record { says = refused 11 []; out = out }
  unfolding encode_says encode
  place-refused places = simp places

  pub text-refused : places_inside pdu s ≡ true → text_in pdu s ≡ false → encode R pdu s out ≡ record { says = refused 8 []; out = out }
  unfolding encode_says encode
  text-refused places text = simp (places, text)

  pub long-refused : places_inside pdu s ≡ true → text_in pdu s ≡ true → 4294967295 < encoded_length R pdu → encode R pdu s out ≡ record { says = refused 10 []; out = out }
  unfolding encode_says encode
  long-refused places text long = simp (places, text, lt-leb (encoded_length R pdu) 4294967295 long)

  pub short-refused : places_inside pdu s ≡ true → text_in pdu s ≡ true → encoded_length R pdu ≤ 4294967295 → length out < encoded_length R pdu
      → encode R pdu s out ≡ record { says = refused 9 (encoded_length R pdu ∷ []); out = out }
  unfolding encode_says encode
  short-refused places text small short = simp (places, text, le-leb (encoded_length R pdu) 4294967295 small, lt-leb (encoded_length R pdu) (length out) short)

-- ---- Refusal 10. A slice of 4,294,967,262 bytes and a Router Key that has all of them as its info: 34 bytes more are one too many, whatever the output; of a byte fewer the output is looked at
abbrev long_key : ℕ → RtrPdu
long_key n =
    RouterKey (record { version = V1; flags = 1; subject_key_identifier = record { start = 0; len = 20 }; asn = 64496; subject_public_key_info = record { start = 0; len = n } })

pub key-past-32-bits : (s out : List ℕ) → length s ≡ 4294967262 → encode in_use (long_key 4294967262) s out ≡ record { says = refused 10 []; out = out }
unfolding encoded_length
key-past-32-bits s out n =
    long-refused in_use (long_key 4294967262) s out (simp (le-leb 20 (length s) (omega (arith, n)), le-leb 4294967262 (length s) (omega (arith, n)))) empty-is-well-formed (omega arith)

pub key-within-32-bits : (s : List ℕ) → length s ≡ 4294967262 → encode in_use (long_key 4294967261) s [] ≡ record { says = refused 9 (4294967295 ∷ []); out = [] }
unfolding encoded_length
key-within-32-bits s n =
    short-refused in_use (long_key 4294967261) s [] (simp (le-leb 20 (length s) (omega (arith, n)), le-leb 4294967261 (length s) (omega (arith, n)))) empty-is-well-formed (omega arith) (omega arith)

-- the same of an Error Report: a copy of 4,294,967,280 bytes and 16 more
abbrev long_report : RtrPdu
long_report =
    ErrorReport (record { version = V1; error_code = CorruptData; erroneous_pdu = record { start = 0; len = 4294967280 }; error_text = record { start = 0; len = 0 } })

pub report-past-32-bits : (s out : List ℕ) → length s ≡ 4294967280 → encode in_use long_report s out ≡ record { says = refused 10 []; out = out }
unfolding encoded_length
report-past-32-bits s out n =
    long-refused in_use long_report s out (simp (le-leb 4294967280 (length s) (omega (arith, n)), le-leb 0 (length s) (omega arith))) empty-is-well-formed (omega arith)

-- ---- A Router Key of version 0 is written, as one of version 1 (document 01, "Encoding")
pub v0-key-written : (R : Reading) (p : RtrRouterKey) (s out : List ℕ) → p.version ≡ V0 → places_inside (RouterKey p) s ≡ true → encoded_length R (RouterKey p) ≤ 4294967295 → encoded_length R (RouterKey p) ≤ length out
    → encode R (RouterKey p) s out ≡ record { says = written (encoded_length R (RouterKey p)); out = encoding R (RouterKey p) s ++ drop (encoded_length R (RouterKey p)) out }
v0-key-written R p s out v places small room = tests-write R (RouterKey p) s out places empty-is-well-formed small room
