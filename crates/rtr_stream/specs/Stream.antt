-- The stream, byte by byte: document 01, "Stream and receiver". The header's length is looked at as soon as the header is there: out of range it is 4, over the
-- hold's size H it is 12; the PDU is read once all of it is there. Nothing here knows of a receiver or of a buffer.
use Rattle.std.specs.Prelude.{ℕ, ◌+◌, Bool, true, false, cond, List, [], ◌∷◌, ◌++◌, length, get_or, leb}
use Rattle.rtr_models.specs.declared.RtrPdu.{RtrPdu}
use Rattle.rtr_codec.specs.Reading.{Reading}
use Rattle.rtr_codec.specs.Read.{Verdict, header_length, read}

-- what bytes in hand come to: more are wanted, they are a PDU, or they are refused by a number with its values
pub data Heard : Type 0 where
  waits : Heard
  whole : RtrPdu → Heard
  refused : ℕ → List ℕ → Heard

-- the longest PDU that is listened to: an Error Report with a copy and a text of 65,535 bytes each
abbrev pub longest : ℕ
longest = 131086

-- go on where the test holds, else refuse
abbrev pub passing : Bool → ℕ → List ℕ → Heard → Heard
passing true number values next = next
passing false number values next = refused number values

-- a read is heard as what it says
abbrev pub heard_of : Verdict → Heard
heard_of (Verdict.accepted pdu consumed) = whole pdu
heard_of (Verdict.refused number values) = refused number values

-- a header of a type names the length n: 4 outside 8 to 131,086, then 12 over H
abbrev pub length_in : ℕ → ℕ → ℕ → Heard → Heard
length_in H n type next =
    passing (leb 8 n) 4 (8 ∷ n ∷ type ∷ [])
    (passing (leb n longest) 4 (longest ∷ n ∷ type ∷ [])
    (passing (leb n H) 12 (n ∷ [])
    next))

-- what the bytes s in hand come to: once 8 are in, the length is looked at (byte 1 is the raw type); once as many as it names, they are read
unfoldable pub judge : Reading → ℕ → List ℕ → Heard
judge R H s =
    cond (leb 8 (length s))
    (length_in H (header_length s) (get_or s 1 0) (cond (leb (header_length s) (length s)) (heard_of (read R s)) waits))
    waits

-- a PDU that was found, and its bytes
pub record Found : Type 0 where
  pub pdu : RtrPdu
  pub bytes : List ℕ

-- what a stream holds, or why it stopped
pub data State : Type 0 where
  holding : List ℕ → State
  stopped : ℕ → List ℕ → State

-- a stream so far: how many bytes it took, the PDUs found in order, and its state
pub record Listened : Type 0 where
  pub taken : ℕ
  pub pdus : List Found
  pub state : State

-- nothing taken, found or held
abbrev pub fresh : Listened
fresh = record { taken = 0; pdus = []; state = holding [] }

-- what bytes in hand, the last of them new, make of a stream
abbrev pub after : ℕ → List Found → List ℕ → Heard → Listened
after taken pdus s waits = record { taken = taken; pdus = pdus; state = holding s }
after taken pdus s (whole pdu) = record { taken = taken; pdus = pdus ++ (record { pdu = pdu; bytes = s } ∷ []); state = holding [] }
after taken pdus s (refused number values) = record { taken = taken; pdus = pdus; state = stopped number values }

-- what one byte does; a stream that stopped takes none
abbrev pub on_byte_in : Reading → ℕ → ℕ → List Found → State → ℕ → Listened
on_byte_in R H taken pdus (holding s) b = after (taken + 1) pdus (s ++ (b ∷ [])) (judge R H (s ++ (b ∷ [])))
on_byte_in R H taken pdus (stopped number values) b = record { taken = taken; pdus = pdus; state = stopped number values }

unfoldable pub on_byte : Reading → ℕ → Listened → ℕ → Listened
on_byte R H l b = on_byte_in R H l.taken l.pdus l.state b

-- a piece is its bytes, one after another
unfoldable pub on_piece : Reading → ℕ → Listened → List ℕ → Listened
on_piece R H l [] = l
on_piece R H l (b ∷ piece) = on_piece R H (on_byte R H l b) piece

-- pieces, one after another
unfoldable pub on_pieces : Reading → ℕ → Listened → List (List ℕ) → Listened
on_pieces R H l [] = l
on_pieces R H l (piece ∷ pieces) = on_pieces R H (on_piece R H l piece) pieces
