-- What a call of the listing says and leaves, with document 01's numbers: "The listing" and "Refusal numbers". What it says, and the output that it
-- leaves, are those of encoding (Writing and Encoded of rtr_encode). Over any record limit; a call promises it of the limit that the session record holds.
use Rattle.std.specs.Prelude.{ℕ, Bool, false, cond, ◌&&◌, ◌||◌, List, [], ◌∷◌, ◌≡◌, leb, length, None, Result, Ok, Err}
use Rattle.rtr_encode.specs.Encode.{Writing, Encoded, unless, out_after}
use Rattle.rtr_encode.specs.Encode.Writing.{written, refused}
use Rattle.rtr_receiver.specs.Contents.{Rooms, contents, are_rooms, is_none, OverLimit, Used, OffSize, BreaksRules}
use Rattle.rtr_receiver.specs.History.{has_table}
use Rattle.rtr_receiver.specs.Promises.{has_limit}
use Rattle.rtr_receiver.specs.declared.Session.{Session}
use Rattle.rtr_listing.specs.Listing.{listing}
use Rattle.rtr_listing.specs.declared.ListError.{ListError}
use Rattle.rtr_listing.specs.declared.ListError.TheVariants.{NotAReceiver, OutputShort}

-- document 01's number and values of a refusal
abbrev pub list_refusal : ListError → Writing
list_refusal NotAReceiver = refused 22 []
list_refusal (OutputShort needed) = refused 9 (needed ∷ [])

-- what an answer says
abbrev pub list_said : Result ℕ ListError → Writing
list_said (Ok n) = written n
list_said (Err error) = list_refusal error

-- an answer and the output that it leaves
abbrev pub leaves : Result ℕ ListError → List ℕ → Encoded
leaves answer out = record { says = list_said answer; out = out }

-- 9 with how many bytes are needed, where an output of `room` bytes is shorter than that
abbrev pub put_says : List ℕ → ℕ → Writing
put_says bytes room = unless (leb (length bytes) room) 9 (length bytes ∷ []) (written (length bytes))

-- the bytes at the front of the output and then what stood behind them, or a refusal and the output as it was
unfoldable pub puts : List ℕ → List ℕ → Encoded
puts bytes out = record { says = put_says bytes (length out); out = out_after (put_says bytes (length out)) bytes out }

-- the room and the session can be listed: the limit is the session's and a receiver may have it, the live room keeps the room rules, and no record stands without a table
abbrev pub is_listed : ℕ → Session → Rooms → Bool
is_listed limit s live = has_limit limit s && (are_rooms limit s.live live && (has_table s.table || is_none s.live))

-- document 01's reasons for 22, those that speak of the live room and its table, over any limit: proofs/Exactly.antt has that a listing is refused by
-- 22 exactly where one of them holds
pub data ListReason (limit : ℕ) (s : Session) (live : Rooms) : Type 0 where
  other_limit : has_limit limit s ≡ false → ListReason limit s live
  live_size : OffSize limit live → ListReason limit s live
  live_over : OverLimit limit s.live → ListReason limit s live
  live_rules : BreaksRules limit s.live live → ListReason limit s live
  records_without_table : s.table ≡ None → Used s.live → ListReason limit s live

-- the listing of a session and its live room: 22, then 9, then all of it
unfoldable pub listing_says : ℕ → Session → Rooms → List ℕ → Encoded
listing_says limit s live out =
    cond (is_listed limit s live) (puts (listing s (contents s.live live)) out) (record { says = refused 22 []; out = out })
