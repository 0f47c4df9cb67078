-- Demand 3, the page to read first: which updates have FINISHED in a history, and the table that they make. Document 01, "Stream and receiver". Nothing here knows of a
-- session record, of a room's numbers, of a buffer or of what the receiver does with a byte; of the hold it knows the size H (a longer PDU is refused, 12), of a room the record
-- limit (18).
--
-- Read from the end upward: `finished` is the updates of a history, `stands_after` where its connection stands; `items` makes of its bytes PDUs and refusals; `on_item` says where each leads, with
-- the table of what is due where (`due_at`) and above it a function for each PDU that does more than lead on; `table_of` is the table that updates make.
--
-- An example, in version 1, with no table yet. The history: a full ask, and the bytes of a Cache Response of session 4660, of an announced prefix, of an End of Data of session 4660 and serial 7.
-- Its items and places:
--
--     asks Full         idle -> asked Full
--     told response     asked Full -> loading Full 4660, no record
--     told prefix       loading Full 4660, no record -> loading Full 4660, that record announced
--     told end          finishes an update (Full, that record announced, session 4660, serial 7), and the connection is idle
--
-- One update has finished, and the table holds that prefix under session 4660 and serial 7. Cut off before its last byte the history has no fourth item and no update, and there is no
-- table; with another session in the End of Data there is none either, and the connection is lost by 15. proofs/Examples.antt has these computed, and a change that is refused half-way.
use Rattle.std.specs.Prelude.{ℕ, Bool, true, false, cond, ◌&&◌, List, [], ◌∷◌, ◌++◌, ◌==◌, nat_le, Option, Some, None}
use Rattle.rtr_models.specs.Codes.{code_number, found, type_number, version_number}
use Rattle.rtr_models.specs.Values.{announces, seconds_or, type_of, version_of}
use Rattle.rtr_models.specs.declared.RtrProtocolVersion.{RtrProtocolVersion}
use Rattle.rtr_models.specs.declared.RtrEndOfData.{RtrEndOfData}
use Rattle.rtr_models.specs.declared.RtrPduType.{RtrPduType}
use Rattle.rtr_models.specs.declared.RtrPduType.TheVariants.{SerialNotify as serial_notify, CacheResponse as cache_response, IPv4Prefix as ipv4_prefix, IPv6Prefix as ipv6_prefix, EndOfData as end_of_data, CacheReset as cache_reset, RouterKey as router_key, ErrorReport as error_report}
use Rattle.rtr_models.specs.declared.RtrPdu.{RtrPdu}
use Rattle.rtr_models.specs.declared.RtrPdu.TheVariants.{SerialNotify, SerialQuery, ResetQuery, CacheResponse, IPv4Prefix, IPv6Prefix, EndOfData, CacheReset, RouterKey, ErrorReport}
use Rattle.rtr_codec.specs.Reading.{in_use}
use Rattle.rtr_stream.specs.Stream.{Heard, judge}
use Rattle.rtr_room.specs.Table.{Change, ipv4_record, ipv6_record}
use Rattle.rtr_receiver.specs.Contents.{Contents, Entry, nothing, enter_in, leave_in}
use Rattle.rtr_receiver.specs.declared.LoadKind.{LoadKind}
use Rattle.rtr_receiver.specs.declared.Table.{Table}

-- what happened, in order: a byte came, an ask was made with so much space for its query, a new connection began. Where pieces were cut is forgotten.
pub data Event : Type 0 where
  byte : ℕ → Event
  ask : LoadKind → ℕ → Event
  reconnect : Event

-- ---- Updates and the table

-- a record announced or withdrawn
pub record Changed : Type 0 where
  pub announced : Bool
  pub what : Entry

-- a finished update: what it was asked as, its records in order, and what its End of Data said
pub record Update : Type 0 where
  pub kind : LoadKind
  pub records : List Changed
  pub end : Table

-- the live table: its session, serial and intervals, if there is one, and its records
pub record Live : Type 0 where
  pub info : Option Table
  pub records : Contents

-- before an update has finished
abbrev pub no_table : Live
no_table = record { info = None; records = nothing }

-- what one record comes to; `Change` says 16, 17 or 18 where it does not apply
abbrev pub applied : ℕ → Contents → Bool → Entry → Change
applied limit t true r = enter_in limit r t
applied limit t false r = leave_in r t

-- a record that does not apply leaves the table; no finished update has one
abbrev pub kept : Contents → Change → Contents
kept t (Change.changed t') = t'
kept t (Change.refused number) = t

-- a load's table so far: what it began from with its records, in order
unfoldable pub with_all : ℕ → Contents → List Changed → Contents
with_all limit t [] = t
with_all limit t (c ∷ cs) = with_all limit (kept t (applied limit t c.announced c.what)) cs

-- a full load starts from nothing, a change from the table before it
abbrev pub base : LoadKind → Contents → Contents
base LoadKind.Full t = nothing
base LoadKind.Change t = t

-- the table after one more update: what its End of Data said, and its records
abbrev pub updated : ℕ → Live → Update → Live
updated limit live u = record { info = Some u.end; records = with_all limit (base u.kind live.records) u.records }

-- the table after some more
unfoldable pub with_updates : ℕ → Live → List Update → Live
with_updates limit live [] = live
with_updates limit live (u ∷ us) = with_updates limit (updated limit live u) us

-- the table that updates make, one after another
abbrev pub table_of : ℕ → List Update → Live
table_of limit us = with_updates limit no_table us

-- ---- Bytes become items

-- an ask, a PDU that was read, bytes that are refused with the number and the values, a new connection
pub data Item : Type 0 where
  asks : LoadKind → ℕ → Item
  told : RtrPdu → Item
  refusal : ℕ → List ℕ → Item
  anew : Item

-- bytes that wait for more are carried along; a new connection drops them
abbrev pub items_by : List ℕ → Heard → (List ℕ → List Item) → List Item
items_by s Heard.waits rest = rest s
items_by s (Heard.whole pdu) rest = told pdu ∷ rest []
items_by s (Heard.refused number values) rest = refusal number values ∷ rest []

-- a history's items, with the bytes s in hand; each byte is judged together with those in hand
unfoldable pub items : ℕ → List ℕ → List Event → List Item
items H s [] = []
items H s (byte b ∷ es) = items_by (s ++ b ∷ []) (judge in_use H (s ++ b ∷ [])) (λ hand. items H hand es)
items H s (ask kind space ∷ es) = asks kind space ∷ items H s es
items H s (reconnect ∷ es) = anew ∷ items H [] es

-- ---- The grammar of a connection

-- where a connection stands: nothing asked; told to ask for all; asked; in a load, with the records so far; or lost until the next connection, by a number of document 01 with its values
pub data Place : Type 0 where
  idle : Place
  must_reset : Place
  asked : LoadKind → Place
  loading : LoadKind → ℕ → List Changed → Place
  lost : ℕ → List ℕ → Place

-- where an item leads, and the update that it finished, if it did
pub data Next : Type 0 where
  goes : Place → Next
  finishes : Update → Next

-- an update has finished
abbrev pub has_table : Option Table → Bool
has_table None = false
has_table (Some t) = true

-- a full ask from idle or after a Cache Reset, a change ask from idle with a table, each where there is space for its query (8 bytes, or 12); others are refused and
-- change nothing
abbrev pub on_ask : Option Table → Place → LoadKind → ℕ → Place
on_ask info idle LoadKind.Full space = cond (nat_le 8 space) (asked LoadKind.Full) idle
on_ask info idle LoadKind.Change space = cond (has_table info && nat_le 12 space) (asked LoadKind.Change) idle
on_ask info must_reset LoadKind.Full space = cond (nat_le 8 space) (asked LoadKind.Full) must_reset
on_ask info must_reset LoadKind.Change space = must_reset
on_ask info (asked k) kind space = asked k
on_ask info (loading k session cs) kind space = loading k session cs
on_ask info (lost number values) kind space = lost number values

-- a change's answer is of the table's session
abbrev pub of_session : Option Table → ℕ → Bool
of_session None session = false
of_session (Some t) session = session == t.session

-- which PDU is due at which place; any other loses the connection (13)
abbrev pub due_at : Place → List RtrPduType
due_at idle = serial_notify ∷ []
due_at must_reset = serial_notify ∷ []
due_at (asked LoadKind.Full) = serial_notify ∷ cache_response ∷ []
due_at (asked LoadKind.Change) = serial_notify ∷ cache_response ∷ cache_reset ∷ []
due_at (loading kind session cs) = serial_notify ∷ ipv4_prefix ∷ ipv6_prefix ∷ end_of_data ∷ router_key ∷ []
due_at (lost number values) = []

-- a type stands in the place's row
abbrev pub is_due_at : RtrPduType → Place → Bool
is_due_at type place = found type_number (λ due. true) false (due_at place) (type_number type)

-- the load at a place: its kind, its session and its records so far. What needs them is due only where they are known, so the other values are never used.
abbrev pub kind_at : Place → LoadKind
kind_at = elim [ idle ↦ LoadKind.Full | must_reset ↦ LoadKind.Full | asked kind ↦ kind | loading kind session cs ↦ kind | lost number values ↦ LoadKind.Full ]

abbrev pub session_at : Place → ℕ
session_at = elim [ idle ↦ 0 | must_reset ↦ 0 | asked kind ↦ 0 | loading kind session cs ↦ session | lost number values ↦ 0 ]

abbrev pub records_at : Place → List Changed
records_at = elim [ idle ↦ [] | must_reset ↦ [] | asked kind ↦ [] | loading kind session cs ↦ cs | lost number values ↦ [] ]

-- Cache Response: the load begins, for a change only of the table's session, else 15
abbrev pub on_response : Option Table → LoadKind → ℕ → Place
on_response info LoadKind.Full session = loading LoadKind.Full session []
on_response info LoadKind.Change session = cond (of_session info session) (loading LoadKind.Change session []) (lost 15 [])

-- a prefix: one record more, where it applies
abbrev pub taken_in : LoadKind → ℕ → List Changed → Bool → Entry → Change → Place
taken_in kind session cs announced r (Change.changed t) = loading kind session (cs ++ record { announced = announced; what = r } ∷ [])
taken_in kind session cs announced r (Change.refused number) = lost number []

-- it applies to the load's table so far: 16, 17 and 18 lose the connection
abbrev pub on_prefix : ℕ → Contents → Place → Bool → Entry → Place
on_prefix limit t place announced r =
    taken_in (kind_at place) (session_at place) (records_at place) announced r
    (applied limit (with_all limit (base (kind_at place) t) (records_at place)) announced r)

-- what an End of Data says of the table; version 0 has no intervals, the defaults stand
abbrev pub end_says : RtrEndOfData → Table
end_says p =
    record {
      session = p.session_id;
      serial = p.serial_number;
      refresh = seconds_or 3600 p.refresh_interval;
      retry = seconds_or 600 p.retry_interval;
      expire = seconds_or 7200 p.expire_interval;
    }

-- End of Data: of the load's session it finishes the update, else 15
abbrev pub on_end : Place → ℕ → Table → Next
on_end place id end = cond (id == session_at place) (finishes (record { kind = kind_at place; records = records_at place; end = end })) (goes (lost 15 []))

-- a PDU, by what it is: a Serial Notify and a Router Key change nothing here, a Cache Reset asks for a full load, an Error Report loses the connection (19, with its code). Queries are due at
-- no place: their lines are never used.
abbrev pub on_told : ℕ → Live → Place → RtrPdu → Next
on_told limit live place (SerialNotify p) = goes place
on_told limit live place (SerialQuery p) = goes place
on_told limit live place (ResetQuery p) = goes place
on_told limit live place (CacheResponse p) = goes (on_response live.info (kind_at place) p.session_id)
on_told limit live place (IPv4Prefix p) =
    goes (on_prefix limit live.records place (announces p.flags) (ipv4_record p.prefix_length p.max_length p.prefix p.asn))
on_told limit live place (IPv6Prefix p) =
    goes
    (on_prefix limit live.records place (announces p.flags)
    (ipv6_record p.prefix_length p.max_length p.prefix.w0 p.prefix.w1 p.prefix.w2 p.prefix.w3 p.asn))
on_told limit live place (EndOfData p) = on_end place p.session_id (end_says p)
on_told limit live place (CacheReset p) = goes must_reset
on_told limit live place (RouterKey p) = goes place
on_told limit live place (ErrorReport p) = goes (lost 19 (code_number p.error_code ∷ []))

-- "a PDU of the other is 14"
abbrev pub of_version : RtrProtocolVersion → RtrPdu → Bool
of_version v pdu = version_number (version_of pdu) == version_number v

-- one PDU: an Error Report of either version waits for no turn; then the version, then the turn
abbrev pub on_pdu_at : ℕ → RtrProtocolVersion → Live → Place → RtrPdu → Next
on_pdu_at limit v live place pdu =
    cond (type_number (type_of pdu) == type_number error_report) (on_told limit live place pdu)
    (cond (of_version v pdu) (cond (is_due_at (type_of pdu) place) (on_told limit live place pdu) (goes (lost 13 []))) (goes (lost 14 [])))

-- a lost connection stays lost, by what it was lost first
abbrev pub unless_lost : Place → Next → Next
unless_lost idle next = next
unless_lost must_reset next = next
unless_lost (asked kind) next = next
unless_lost (loading kind session cs) next = next
unless_lost (lost number values) next = goes (lost number values)

-- any item; bytes that are refused lose the connection, a new connection begins idle
abbrev pub on_item : ℕ → RtrProtocolVersion → Live → Place → Item → Next
on_item limit v live place (asks kind space) = goes (on_ask live.info place kind space)
on_item limit v live place (told pdu) = unless_lost place (on_pdu_at limit v live place pdu)
on_item limit v live place (refusal number values) = unless_lost place (goes (lost number values))
on_item limit v live place anew = goes idle

-- what items come to: the updates that they finish, and where the connection then stands
pub record Outcome : Type 0 where
  pub updates : List Update
  pub place : Place

-- the same with updates that finished before
abbrev pub after : List Update → Outcome → Outcome
after us o = record { updates = us ++ o.updates; place = o.place }

-- what an item leads to, and the rest from there; after an update the connection is idle and the table the new one
abbrev pub or_finished : ℕ → Live → Next → (Live → Place → Outcome) → Outcome
or_finished limit live (goes place) rest = rest live place
or_finished limit live (finishes u) rest = after (u ∷ []) (rest (updated limit live u) idle)

-- the items, one after another
unfoldable pub outcome : ℕ → RtrProtocolVersion → Live → Place → List Item → Outcome
outcome limit v live place [] = record { updates = []; place = place }
outcome limit v live place (i ∷ is) = or_finished limit live (on_item limit v live place i) (λ live' place'. outcome limit v live' place' is)

-- the updates that finished in a history, from a fresh start, with a record limit, a hold of H bytes and a version
abbrev pub finished : ℕ → ℕ → RtrProtocolVersion → List Event → List Update
finished limit H v history = (outcome limit v no_table idle (items H [] history)).updates

-- and where its connection stands
abbrev pub stands_after : ℕ → ℕ → RtrProtocolVersion → List Event → Place
stands_after limit H v history = (outcome limit v no_table idle (items H [] history)).place
