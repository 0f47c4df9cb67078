-- Document 01, "Either side of each edge": the lines marked P, as one table.
use Rattle.std.specs.Prelude.{ℕ, List, [], ◌∷◌, ◌++◌, ◌≡◌, replicate, Some}
use Rattle.rtr_models.specs.declared.RtrProtocolVersion.TheVariants.{V1}
use Rattle.rtr_models.specs.declared.RtrErrorCode.TheVariants.{CorruptData}
use Rattle.rtr_models.specs.declared.RtrPduType.{RtrPduType}
use Rattle.rtr_models.specs.declared.RtrPdu.TheVariants.{ResetQuery, ErrorReport}
use Rattle.rtr_codec.specs.Reading.{in_use}
use Rattle.rtr_codec.specs.Read.{Verdict, read}
use Rattle.rtr_codec.specs.Read.Verdict.{accepted, refused}
use Rattle.rtr_encode.specs.Encode.{Encoded, encode}
use Rattle.rtr_encode.specs.Encode.Writing.{written}
use Rattle.rtr_receiver.specs.Receiver.{Notified, notified}
use Rattle.rtr_receiver.specs.Receiver.Notified.{newer, undefined}
use Rattle.rtr_walk.specs.Walk.{WalkVerdict, walk}
use Rattle.rtr_walk.specs.Walk.End.{plain}
use Rattle.rtr_walk.specs.Walk.WalkVerdict.{walked}

-- an edge: what a slice reads as; what encoding the PDU read from it into an output says and leaves; how the walk of it ends; how a Serial Notify's
-- serial compares with the table's, under one session
pub data Edge : Type 0 where
  reads : List ℕ → Verdict → Edge
  recodes : List ℕ → List ℕ → Encoded → Edge
  walks : List ℕ → WalkVerdict → Edge
  notifies : ℕ → ℕ → Notified → Edge

-- a slice is read, and encoding what was read gives this
abbrev pub Recodes : List ℕ → List ℕ → Encoded → Verdict → Type 0
Recodes s out left (accepted pdu n) = encode in_use pdu s out ≡ left
Recodes s out left (refused n values) = ⊥

-- what an edge says
abbrev pub Holds : Edge → Type 0
Holds (reads s v) = read in_use s ≡ v
Holds (recodes s out left) = Recodes s out left (read in_use s)
Holds (walks s v) = walk in_use s ≡ v
Holds (notifies table serial v) = notified (Some (record { session = 0; serial = table; refresh = 0; retry = 0; expire = 0 })) (Some (0, serial)) ≡ v

abbrev pub AllHold : List Edge → Type 0
AllHold [] = Unit {0}
AllHold (e ∷ es) = Holds e × AllHold es

-- a report of 17 bytes with nothing in it but the byte behind its text (rtr_codec's Samples.antt has it too: specs import no proofs)
abbrev pub byte_behind : List ℕ
byte_behind = 0x01 ∷ 0x0a ∷ 0x00 ∷ 0x00 ∷ 0x00 ∷ 0x00 ∷ 0x00 ∷ 0x11 ∷ replicate 8 0 ++ (0xff ∷ [])

-- a report about a Reset Query
abbrev pub report_of_query : List ℕ
report_of_query =
    0x01 ∷ 0x0a ∷ 0x00 ∷ 0x00 ∷ 0x00 ∷ 0x00 ∷ 0x00 ∷ 0x18 ∷ 0x00 ∷ 0x00 ∷ 0x00 ∷ 0x08
    ∷ 0x01 ∷ 0x02 ∷ 0x00 ∷ 0x00 ∷ 0x00 ∷ 0x00 ∷ 0x00 ∷ 0x08 ∷ replicate 4 0

abbrev pub edges : List Edge
edges =
    reads [] (refused 1 (0 ∷ 8 ∷ []))
    ∷ reads (0x01 ∷ 0x02 ∷ 0x00 ∷ 0x00 ∷ 0x00 ∷ 0x00 ∷ 0x00 ∷ 0x08 ∷ []) (accepted (ResetQuery (record { version = V1 })) 8)
    ∷ reads (0x01 ∷ 0x02 ∷ 0x00 ∷ 0x00 ∷ 0x00 ∷ 0x00 ∷ 0x00 ∷ 0x00 ∷ []) (refused 4 (8 ∷ 0 ∷ 2 ∷ []))
    ∷ reads (0x09 ∷ 0x05 ∷ 0x00 ∷ 0x00 ∷ 0x00 ∷ 0x00 ∷ 0x00 ∷ 0x09 ∷ []) (refused 1 (8 ∷ 9 ∷ []))
    ∷ reads (0x09 ∷ 0x05 ∷ 0x00 ∷ 0x00 ∷ 0x00 ∷ 0x00 ∷ 0x00 ∷ 0x08 ∷ []) (refused 2 (9 ∷ []))
    ∷ reads (0x01 ∷ 0x05 ∷ 0x00 ∷ 0x00 ∷ 0x00 ∷ 0x00 ∷ 0x00 ∷ 0x08 ∷ []) (refused 3 (5 ∷ []))
    ∷ reads (0x00 ∷ 0x09 ∷ 0x00 ∷ 0x00 ∷ 0x00 ∷ 0x00 ∷ 0x00 ∷ 0x08 ∷ []) (refused 5 [])
    ∷ reads (0x01 ∷ 0x0a ∷ 0x00 ∷ 0x09 ∷ 0x00 ∷ 0x00 ∷ 0x00 ∷ 0x10 ∷ replicate 8 0) (refused 7 (9 ∷ []))
    ∷ reads (0x01 ∷ 0x0a ∷ 0x00 ∷ 0x00 ∷ 0x00 ∷ 0x00 ∷ 0x00 ∷ 0x10 ∷ 0x00 ∷ 0x00 ∷ 0x00 ∷ 0x01 ∷ replicate 4 0) (refused 4 (17 ∷ 16 ∷ 10 ∷ []))
    ∷ reads byte_behind
    (accepted
    (ErrorReport
    (record {
      version = V1;
      error_code = CorruptData;
      erroneous_pdu = record { start = 12; len = 0 };
      error_text = record { start = 16; len = 0 };
    }))
    17)
    ∷ recodes byte_behind (replicate 17 0xaa)
    (record { says = written 16; out = 0x01 ∷ 0x0a ∷ 0x00 ∷ 0x00 ∷ 0x00 ∷ 0x00 ∷ 0x00 ∷ 0x10 ∷ replicate 8 0 ++ (0xaa ∷ []) })
    ∷ walks report_of_query (walked 1 (plain RtrPduType.ResetQuery))
    ∷ notifies 4294967295 0 newer
    ∷ notifies 0 2147483648 undefined
    ∷ []
