-- `send` calls `encode` and keeps what it promises; that the PDU's values fit is what holding the PDU tells, and for an Error Report's copy what was tested before it was written. Assumes nothing.
use Rattle.std.specs.Prelude.{Result, Ok, Err}
use mathlib.Core.List.{List}
use Prim.Native.Nat.{ℕ}
use mathlib.Core.Path.{◌≡◌, sym, ap}
use borrow.Author.Tests.{leb-true}
use denote.Laws.{Is}
use denote.Enum.Declared as enum
use mir.Val.{Val}
use Rattle.rtr_models.specs.contracts.RtrPdu as pdu-type
use Rattle.rtr_models.specs.declared.RtrPdu.{RtrPdu}
use Rattle.rtr_codec.specs.Reading.{in_use}
use Rattle.rtr_encode.specs.Encode.{Encoded, encoded_length, encode}
use Rattle.rtr_encode.specs.Answers.{leaves}
use Rattle.rtr_encode.proofs.Laws.{written-tests}
use Rattle.rtr_round.specs.Calls.{Sent}
use Rattle.rtr_round.proofs.Owned.{pdu-owned}
use Rattle.rtr_round.proofs.send.Goals as goal
use Rattle.rtr_encode.specs.declared.EncodeError.{EncodeError}

sent : (pdu : RtrPdu) (vs : List Val) (s out : List ℕ) (r : Result ℕ EncodeError) (left : List ℕ) → Is (enum.row pdu-type.the_type) pdu vs → leaves r left ≡ encode in_use pdu s out → Sent pdu s out r left
sent pdu vs s out (Ok m) left own e =
    let t = written-tests in_use pdu s out m (sym (ap (λ (x : Encoded). x.says) e)) in
    (e, pdu-owned pdu vs own (leb-true (encoded_length in_use pdu) 4294967295 t.2))
sent pdu vs s out (Err error) left own e = e

pub returns : goal.returns
returns c = sent c.args.pdu _ c.args.input.now c.args.out.now c.encode.result _ c.well_formed.0 c.encode.ensures
