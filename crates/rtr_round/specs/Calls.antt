-- What the calls of demand 2 leave on lent memory: src/lib.rt's `recode`, which reads and encodes what was read, and `send`, which encodes.
use Rattle.std.specs.Prelude.{ℕ, List, ◌≡◌, Ok, Err, Result}
use Rattle.rtr_codec.specs.Reading.{in_use}
use Rattle.rtr_codec.specs.Read.{read}
use Rattle.rtr_codec.specs.Answers.{verdict}
use Rattle.rtr_models.specs.declared.RtrPdu.{RtrPdu}
use Rattle.rtr_encode.specs.Encode.{layout_of, given, values_in, encode}
use Rattle.rtr_encode.specs.Answers.{leaves}
use Rattle.rtr_round.specs.RoundTrip.{Bytes, ValuesFit}
use Rattle.rtr_codec.specs.declared.RtrError.{RtrError}
use Rattle.rtr_encode.specs.declared.EncodeError.{EncodeError}

-- of a slice s and an output that was `out` and is `left`: the slice's elements are bytes, it is read so, and what was read is encoded so
abbrev pub Recoded : List ℕ → List ℕ → Result (RtrPdu × ℕ × Result ℕ EncodeError) RtrError → List ℕ → Type 0
Recoded s out (Ok (pdu, n, answer)) left = Bytes s × (verdict (Ok (pdu, n)) ≡ read in_use s) × (leaves answer left ≡ encode in_use pdu s out)
Recoded s out (Err error) left = Bytes s × (verdict (Err error) ≡ read in_use s) × (left ≡ out)

-- of a PDU: it is encoded so, and where it is written each of its values fits its field
abbrev pub Sent : RtrPdu → List ℕ → List ℕ → Result ℕ EncodeError → List ℕ → Type 0
Sent pdu s out (Ok m) left = (leaves (Ok m) left ≡ encode in_use pdu s out) × ValuesFit (layout_of in_use pdu) (given (values_in pdu))
Sent pdu s out (Err error) left = leaves (Err error) left ≡ encode in_use pdu s out
