-- The encoder writes only PDUs that reading accepts, and reading gives only PDUs that the encoder accepts: `InRule` holds of a PDU that was
-- written, if its values fit and its kind's rules hold, for the encoder has tested the rest; and it holds of every PDU that was read, which
-- is besides its own reading back. Assumes nothing.
use Prim.Native.Nat.{ℕ, ◌+◌, ◌≤◌}
use mathlib.Core.List.{List, [], ◌∷◌}
use mathlib.Core.Path.{◌≡◌}
use native.Mathlib.Omega.{arith}
use borrow.Author.Tests.{leb-true}
use lib.ListN.{length, drop}
use Rattle.rtr_models.specs.declared.RtrPdu.{RtrPdu}
use Rattle.rtr_codec.specs.Reading.{Reading}
use Rattle.rtr_codec.specs.Layout.{Label, Field}
use Rattle.rtr_codec.specs.Layout.Field.{ignored, total, value, payload}
use Rattle.rtr_codec.specs.Read.{header_length, read}
use Rattle.rtr_codec.specs.Read.Verdict.{accepted}
use Rattle.rtr_codec.proofs.Laws.{read-consumes, header_is, number_fits}
use Rattle.rtr_encode.specs.Encode.{layout_of, given, values_in, encoded_length, encode}
use Rattle.rtr_encode.specs.Encode.Writing.{written}
use Rattle.rtr_encode.proofs.Laws.{written-is-encoding, written-length, written-tests}
use Rattle.rtr_round.specs.RoundTrip.{Bytes, ValuesFit, KindInRule, InRule, read_back}
use Rattle.rtr_round.proofs.Bytes.{four-bytes-fit}
use Rattle.rtr_round.proofs.Fields.{Standing}
use Rattle.rtr_round.proofs.Accepted.{Found, accepted-found}
use Rattle.rtr_round.proofs.RoundTrip.{read-of-encode}

-- a PDU that was written is in rule, if its values fit and its kind's rules hold
pub written-in-rule : (R : Reading) (pdu : RtrPdu) (s out : List ℕ) (n : ℕ) → (encode R pdu s out).says ≡ written n
    → ValuesFit (layout_of R pdu) (given (values_in pdu)) → KindInRule R pdu → InRule R pdu s
written-in-rule R pdu s out n e fits kind =
    let t = written-tests R pdu s out n e in
    record { fits = fits; places = t.0; text = t.1; short = leb-true (encoded_length R pdu) 4294967295 t.2; kind = kind }

-- reading what the encoder wrote into its output gives back the PDU, as long as the encoder said, if its values fit and its kind's rules hold
pub read-of-written : (R : Reading) (pdu : RtrPdu) (s out : List ℕ) (n : ℕ) → (encode R pdu s out).says ≡ written n
    → ValuesFit (layout_of R pdu) (given (values_in pdu)) → KindInRule R pdu → read R (encode R pdu s out).out ≡ accepted (read_back R pdu) n
read-of-written R pdu s out n e fits kind =
    cc (written-is-encoding R pdu s out n e, written-length R pdu s out n e, read-of-encode R pdu s (drop n out) (written-in-rule R pdu s out n e fits kind))

-- each value that is read fits its field
values-fit : (s : List ℕ) → Bytes s → (at : ℕ) (fs : List Field) (values : Label → ℕ) → Standing at fs values s → ValuesFit fs values
values-fit s bs at [] values k = tt
values-fit s bs at (ignored n ∷ fs) values k = values-fit s bs (at + n) fs values k
values-fit s bs at (total ∷ fs) values k = values-fit s bs (at + 4) fs values k
values-fit s bs at (value l n ∷ fs) values k = (omega (arith, number_fits s bs at n, k.0), values-fit s bs (at + n) fs values k.1)
values-fit s bs at (payload l n ∷ fs) values k = values-fit s bs (at + n) fs values k.1

-- every PDU that was read is in rule
pub read-in-rule : (R : Reading) (s : List ℕ) (pdu : RtrPdu) (n : ℕ) → Bytes s → read R s ≡ accepted pdu n → InRule R pdu s
read-in-rule R s pdu n bs e =
    let found : Found R s pdu n = accepted-found R s pdu n bs e in
    let c : (n ≡ header_length s) × (8 ≤ n) × (n ≤ length s) = read-consumes R s pdu n e in
    record {
      fits = values-fit s bs 2 (layout_of R pdu) (given (values_in pdu)) found.values;
      places = found.places;
      text = found.text;
      short = omega (arith, four-bytes-fit s bs 4, header_is s, found.fits);
      kind = found.kind;
    }

-- a PDU that was read is its own reading back: its places are those that its encoding has
pub read-back-same : (R : Reading) (s : List ℕ) (pdu : RtrPdu) (n : ℕ) → Bytes s → read R s ≡ accepted pdu n → read_back R pdu ≡ pdu
read-back-same R s pdu n bs e = (accepted-found R s pdu n bs e).back
