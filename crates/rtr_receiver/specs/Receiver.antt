-- The receiver, byte by byte and PDU by PDU, on tables: document 01, "Stream and receiver". No memory, no room and no hold buffer is spoken of here. `due_in` is the table of turns, `deed_of` says what each PDU
-- does in its turn, `on_pdu` has the tests before that in document 01's order; then come bytes and pieces, the asks, the new connection and the notify comparison.
use Rattle.std.specs.Prelude.{ℕ, ◌+◌, ◌-◌, Bool, true, false, cond, ◌&&◌, ◌||◌, List, [], ◌∷◌, ◌++◌, ◌==◌, nat_le, nat_lt, Option, Some, None}
use Rattle.rtr_models.specs.Codes.{code_number, found, type_number, version_number}
use Rattle.rtr_models.specs.Values.{announces, type_of, version_of}
use Rattle.rtr_models.specs.declared.RtrProtocolVersion.{RtrProtocolVersion}
use Rattle.rtr_models.specs.declared.RtrEndOfData.{RtrEndOfData}
use Rattle.rtr_models.specs.declared.RtrPduType.{RtrPduType}
use Rattle.rtr_models.specs.declared.RtrPduType.TheVariants.{SerialNotify as serial_notify, CacheResponse as cache_response, IPv4Prefix as ipv4_prefix, IPv6Prefix as ipv6_prefix, EndOfData as end_of_data, CacheReset as cache_reset, RouterKey as router_key, ErrorReport as error_report}
use Rattle.rtr_models.specs.declared.RtrPdu.{RtrPdu}
use Rattle.rtr_models.specs.declared.RtrPdu.TheVariants.{SerialNotify, SerialQuery, ResetQuery, CacheResponse, IPv4Prefix, IPv6Prefix, EndOfData, CacheReset, RouterKey, ErrorReport}
use Rattle.rtr_codec.specs.Reading.{in_use}
use Rattle.rtr_encode.specs.Encode.{Writing, encode}
use Rattle.rtr_stream.specs.Stream.{Heard, judge}
use Rattle.rtr_room.specs.Table.{Change, ipv4_record, ipv6_record}
use Rattle.rtr_receiver.specs.Contents.{Contents, Entry, nothing, enter_in, leave_in}
use Rattle.rtr_receiver.specs.History.{end_says}
use Rattle.rtr_receiver.specs.declared.LoadKind.{LoadKind}
use Rattle.rtr_receiver.specs.declared.Table.{Table}

-- the phases; a load holds its kind and its session, a stop its number and values (document 01, "Refusal numbers")
pub data Stage : Type 0 where
  idle : Stage
  must_reset : Stage
  asked_full : Stage
  asked_change : Stage
  loading : LoadKind → ℕ → Stage
  stopped : ℕ → List ℕ → Stage

-- which of document 01's refusal numbers are stops: "2 to 8 and 12 to 19 in the stream are stops; 1 never arises there". The one definition of it.
abbrev pub is_stop : ℕ → Bool
is_stop number = (nat_le 2 number && nat_le number 8) || (nat_le 12 number && nat_le number 19)

-- which PDU is due in which phase; any other is out of turn (13). An Error Report waits for no turn (19).
abbrev pub due_in : Stage → List RtrPduType
due_in idle = serial_notify ∷ []
due_in must_reset = serial_notify ∷ []
due_in asked_full = serial_notify ∷ cache_response ∷ []
due_in asked_change = serial_notify ∷ cache_response ∷ cache_reset ∷ []
due_in (loading kind session) = serial_notify ∷ ipv4_prefix ∷ ipv6_prefix ∷ end_of_data ∷ router_key ∷ []
due_in (stopped number values) = []

-- a type stands in the phase's row
abbrev pub is_due : RtrPduType → Stage → Bool
is_due type stage = found type_number (λ due. true) false (due_in stage) (type_number type)

-- what a Cache Response answers: the kind of the load asked for. It is due in the Asked phases alone, so the other values are never used.
abbrev pub kind_in : Stage → LoadKind
kind_in = elim [ idle ↦ LoadKind.Full | must_reset ↦ LoadKind.Full | asked_full ↦ LoadKind.Full | asked_change ↦ LoadKind.Change | loading kind session ↦ kind | stopped number values ↦ LoadKind.Full ]

-- what an End of Data ends: the session of the load. It is due in a load alone, so the other values are never used.
abbrev pub session_in : Stage → ℕ
session_in = elim [ idle ↦ 0 | must_reset ↦ 0 | asked_full ↦ 0 | asked_change ↦ 0 | loading kind session ↦ session | stopped number values ↦ 0 ]

-- a receiver: its version for life, its phase, the table's session, serial and intervals, the last Serial Notify, the live and the working table, the
-- bytes held
pub record Receiver : Type 0 where
  pub version : RtrProtocolVersion
  pub stage : Stage
  pub table : Option Table
  pub note : Option (ℕ × ℕ)
  pub live : Contents
  pub working : Contents
  pub held : List ℕ

-- "Start .. gives the fresh state: Idle, no table, nothing held or noted"
abbrev pub fresh : RtrProtocolVersion → Receiver
fresh v = record { version = v; stage = idle; table = None; note = None; live = nothing; working = nothing; held = [] }

-- the same in another phase
abbrev pub in_stage : Stage → Receiver → Receiver
in_stage stage r =
    record { version = r.version; stage = stage; table = r.table; note = r.note; live = r.live; working = r.working; held = r.held }

abbrev pub holding : List ℕ → Receiver → Receiver
holding s r = record { version = r.version; stage = r.stage; table = r.table; note = r.note; live = r.live; working = r.working; held = s }

-- a stop clears the held bytes and the working table; it keeps the live table and the note
abbrev pub stop : ℕ → List ℕ → Receiver → Receiver
stop number values r =
    record { version = r.version; stage = stopped number values; table = r.table; note = r.note; live = r.live; working = nothing; held = [] }

-- "Serial Notify is noted in any phase but Stopped"
abbrev pub on_serial_notify : ℕ → ℕ → Receiver → Receiver
on_serial_notify session serial r =
    record {
      version = r.version;
      stage = r.stage;
      table = r.table;
      note = Some (session, serial);
      live = r.live;
      working = r.working;
      held = r.held;
    }

-- the working table starts empty, or as the live one
abbrev pub start_load : LoadKind → ℕ → Contents → Receiver → Receiver
start_load kind session working r =
    record { version = r.version; stage = loading kind session; table = r.table; note = r.note; live = r.live; working = working; held = r.held }

-- for a change the session must be the table's (15); where there is no table it is nobody's
abbrev pub on_change_response : Option Table → ℕ → Receiver → Receiver
on_change_response None session r = stop 15 [] r
on_change_response (Some t) session r = cond (session == t.session) (start_load LoadKind.Change session r.live r) (stop 15 [] r)

-- "Cache Response in an Asked phase begins Loading"
abbrev pub on_cache_response : LoadKind → ℕ → Receiver → Receiver
on_cache_response LoadKind.Full session r = start_load LoadKind.Full session nothing r
on_cache_response LoadKind.Change session r = on_change_response r.table session r

-- the working table after a record, or its refusal
abbrev pub changed_to : Change → Receiver → Receiver
changed_to (Change.changed t) r =
    record { version = r.version; stage = r.stage; table = r.table; note = r.note; live = r.live; working = t; held = r.held }
changed_to (Change.refused number) r = stop number [] r

-- "A prefix in Loading enters (lowest flag bit 1) or leaves (0) the working room"
abbrev pub on_record : ℕ → Bool → Entry → Receiver → Receiver
on_record limit true entry r = changed_to (enter_in limit entry r.working) r
on_record limit false entry r = changed_to (leave_in entry r.working) r

-- the working table becomes the live one
abbrev pub finish : RtrEndOfData → Receiver → Receiver
finish p r =
    record {
      version = r.version;
      stage = idle;
      table = Some (end_says p);
      note = r.note;
      live = r.working;
      working = nothing;
      held = r.held;
    }

-- what was done, and how many updates finished by it
pub record Deed : Type 0 where
  pub then : Receiver
  pub updates : ℕ

abbrev pub no_update : Receiver → Deed
no_update r = record { then = r; updates = 0 }

-- "End of Data in Loading with the load's session makes the working room live .."; of another session it is 15
abbrev pub on_end_of_data : ℕ → RtrEndOfData → Receiver → Deed
on_end_of_data session p r = cond (p.session_id == session) (record { then = finish p r; updates = 1 }) (no_update (stop 15 [] r))

-- what a PDU does once it passed the tests before it. "Router Key in Loading is passed over"; "Cache Reset in AskedChange: MustReset". The queries are a router's to send: they are due in no
-- phase, and their lines are never used.
unfoldable pub deed_of : ℕ → RtrPdu → Receiver → Deed
deed_of limit (SerialNotify p) r = no_update (on_serial_notify p.session_id p.serial_number r)
deed_of limit (SerialQuery p) r = no_update r
deed_of limit (ResetQuery p) r = no_update r
deed_of limit (CacheResponse p) r = no_update (on_cache_response (kind_in r.stage) p.session_id r)
deed_of limit (IPv4Prefix p) r =
    no_update (on_record limit (announces p.flags) (ipv4_record p.prefix_length p.max_length p.prefix p.asn) r)
deed_of limit (IPv6Prefix p) r =
    no_update
    (on_record limit (announces p.flags)
    (ipv6_record p.prefix_length p.max_length p.prefix.w0 p.prefix.w1 p.prefix.w2 p.prefix.w3 p.asn)
    r)
deed_of limit (EndOfData p) r = on_end_of_data (session_in r.stage) p r
deed_of limit (CacheReset p) r = no_update (in_stage must_reset r)
deed_of limit (RouterKey p) r = no_update r
deed_of limit (ErrorReport p) r = no_update (stop 19 (code_number p.error_code ∷ []) r)

-- a PDU of the receiver's version in its turn, else 13
unfoldable pub on_kind : ℕ → RtrPdu → Receiver → Deed
on_kind limit pdu r = cond (is_due (type_of pdu) r.stage) (deed_of limit pdu r) (no_update (stop 13 [] r))

-- a PDU of the receiver's version, else 14
abbrev pub of_version : RtrProtocolVersion → Receiver → Deed → Deed
of_version v r deed = cond (version_number v == version_number r.version) deed (no_update (stop 14 [] r))

-- one PDU: an Error Report of either version first (19), then the version (14), then the turn (13), then what it does
unfoldable pub on_pdu : ℕ → RtrPdu → Receiver → Deed
on_pdu limit pdu r =
    cond (type_number (type_of pdu) == type_number error_report) (deed_of limit pdu r) (of_version (version_of pdu) r (on_kind limit pdu r))

-- a feed so far: the receiver, the bytes taken and the updates finished
pub record Feed : Type 0 where
  pub receiver : Receiver
  pub taken : ℕ
  pub updates : ℕ

-- what the bytes in hand, the last of them new, make of it
abbrev pub heard : ℕ → ℕ → ℕ → Receiver → List ℕ → Heard → Feed
heard limit taken updates r s Heard.waits = record { receiver = holding s r; taken = taken; updates = updates }
heard limit taken updates r s (Heard.whole pdu) =
    record {
      receiver = (on_pdu limit pdu (holding [] r)).then;
      taken = taken;
      updates = updates + (on_pdu limit pdu (holding [] r)).updates;
    }
heard limit taken updates r s (Heard.refused number values) = record { receiver = stop number values r; taken = taken; updates = updates }

-- any phase but Stopped
abbrev pub listens : Stage → Bool
listens = elim [ idle ↦ true | must_reset ↦ true | asked_full ↦ true | asked_change ↦ true | loading kind session ↦ true | stopped number values ↦ false ]

-- one byte; a receiver that stopped takes none
unfoldable pub on_byte : ℕ → ℕ → Feed → ℕ → Feed
on_byte limit H f b =
    cond (listens f.receiver.stage)
    (heard limit (f.taken + 1) f.updates f.receiver (f.receiver.held ++ b ∷ []) (judge in_use H (f.receiver.held ++ b ∷ [])))
    f

-- a piece is its bytes, one after another
unfoldable pub on_piece : ℕ → ℕ → Feed → List ℕ → Feed
on_piece limit H f [] = f
on_piece limit H f (b ∷ piece) = on_piece limit H (on_byte limit H f b) piece

unfoldable pub feed : ℕ → ℕ → Receiver → List ℕ → Feed
feed limit H r piece = on_piece limit H (record { receiver = r; taken = 0; updates = 0 }) piece

-- a feed and then another: what they took and finished is added up
abbrev pub together : Feed → Feed → Feed
together f g = record { receiver = g.receiver; taken = f.taken + g.taken; updates = f.updates + g.updates }

-- pieces, each fed by a call of its own
unfoldable pub feed_all : ℕ → ℕ → Receiver → List (List ℕ) → Feed
feed_all limit H r [] = record { receiver = r; taken = 0; updates = 0 }
feed_all limit H r (piece ∷ pieces) = together (feed limit H r piece) (feed_all limit H (feed limit H r piece).receiver pieces)

-- the asks, by phase: a Reset Query from Idle and MustReset leads to AskedFull; a Serial Query, which names the table's session and serial, from Idle to AskedChange. Elsewhere 20; a change
-- ask in Idle without a table 21
pub data Query : Type 0 where
  query : RtrPdu → Stage → Query
  refused : ℕ → Query

abbrev pub reset_query : Receiver → Query
reset_query r = query (ResetQuery (record { version = r.version })) asked_full

abbrev pub full_query : Stage → Receiver → Query
full_query idle r = reset_query r
full_query must_reset r = reset_query r
full_query asked_full r = refused 20
full_query asked_change r = refused 20
full_query (loading kind session) r = refused 20
full_query (stopped number values) r = refused 20

abbrev pub serial_query : Option Table → Receiver → Query
serial_query None r = refused 21
serial_query (Some t) r =
    query (SerialQuery (record { version = r.version; session_id = t.session; serial_number = t.serial })) asked_change

abbrev pub change_query : Stage → Receiver → Query
change_query idle r = serial_query r.table r
change_query must_reset r = refused 20
change_query asked_full r = refused 20
change_query asked_change r = refused 20
change_query (loading kind session) r = refused 20
change_query (stopped number values) r = refused 20

-- an ask: the query is written (or refused by 9), and the phase is the query's; a refusal changes nothing
pub record Asked : Type 0 where
  pub receiver : Receiver
  pub says : Writing
  pub out : List ℕ

abbrev pub asked_by : Writing → Stage → Receiver → List ℕ → Asked
asked_by (Writing.written n) stage r out = record { receiver = in_stage stage r; says = Writing.written n; out = out }
asked_by (Writing.refused number values) stage r out = record { receiver = r; says = Writing.refused number values; out = out }

abbrev pub ask : Query → Receiver → List ℕ → Asked
ask (query pdu stage) r out = asked_by (encode in_use pdu [] out).says stage r (encode in_use pdu [] out).out
ask (refused number) r out = record { receiver = r; says = Writing.refused number []; out = out }

-- "Reconnect: Idle; held bytes, working room and note cleared; table kept"
abbrev pub reconnected : Receiver → Receiver
reconnected r =
    record { version = r.version; stage = idle; table = r.table; note = None; live = r.live; working = nothing; held = [] }

-- RFC 1982, section 3.2, over 32 bits: a serial n beside the table's t
pub data Notified : Type 0 where
  none : Notified
  other_session : Notified
  same : Notified
  newer : Notified
  older : Notified
  undefined : Notified

abbrev pub halfway : ℕ
halfway = 2147483648

-- t < n: n is the larger and less than half of the numbers ahead, or the smaller and more than half behind; t > n likewise
abbrev pub is_newer : ℕ → ℕ → Bool
is_newer n t = (nat_lt t n && nat_lt (n - t) halfway) || (nat_lt n t && nat_lt halfway (t - n))

abbrev pub compared : ℕ → ℕ → Notified
compared n t = cond (n == t) same (cond (is_newer n t) newer (cond (is_newer t n) older undefined))

-- "None comes first, without a note or a table"
abbrev pub notified : Option Table → Option (ℕ × ℕ) → Notified
notified None last = none
notified (Some t) None = none
notified (Some t) (Some (session, serial)) = cond (session == t.session) (compared serial t.serial) other_session
