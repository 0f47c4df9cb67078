-- What the private functions of src/lib.rt promise each other; no public promise rests on this page.
use Rattle.std.specs.Prelude.{◌≡◌, ℕ, ◌+◌, ◌<◌, ◌≤◌, Bool, true, false, cond, ◌&&◌, ◌⊎◌, List, [], length, drop, replicate, ◌==◌, nat_le, Option, Some, None, Result, Ok, Err, ⊤}
use Rattle.rtr_models.specs.Values.{announces}
use Rattle.rtr_models.specs.declared.RtrEndOfData.{RtrEndOfData}
use Rattle.rtr_models.specs.declared.RtrProtocolVersion.{RtrProtocolVersion}
use Rattle.rtr_models.specs.declared.RtrPduType.{RtrPduType}
use Rattle.rtr_models.specs.declared.RtrPdu.{RtrPdu}
use Rattle.rtr_models.specs.declared.RtrPdu.TheVariants.{SerialNotify, SerialQuery, ResetQuery, CacheResponse, IPv4Prefix, IPv6Prefix, EndOfData, CacheReset, RouterKey, ErrorReport}
use Rattle.rtr_receiver.specs.Contents.{Contents, Entry, Rooms, nothing, are_rooms}
use Rattle.rtr_room.specs.Table.{Apart, Change, in_rule, insert, ipv4_record, ipv6_record, is_in, join}
use Rattle.rtr_room.specs.Room.{copied, is_room, limit_of, records}
use Rattle.rtr_room.specs.declared.Record.{Record}
use Rattle.rtr_receiver.specs.Receiver.{Stage, Receiver, Deed, Feed, is_due, kind_in, session_in, in_stage, stop, on_serial_notify, start_load, on_cache_response, on_record, finish, no_update, on_end_of_data, on_pdu, listens, on_piece, changed_to}
use Rattle.rtr_receiver.specs.Receiver.Stage.{must_reset}
use Rattle.rtr_receiver.specs.Promises.{stop_said, stopped_by, stage_of, is_loading, receiver_of, is_receiver, leaves, in_memory, fed_to, fed_said_by}
use Rattle.rtr_receiver.specs.declared.LoadKind.{LoadKind}
use Rattle.rtr_receiver.specs.declared.Stop.{Stop}
use Rattle.rtr_receiver.specs.declared.Phase.{Phase}
use Rattle.rtr_receiver.specs.declared.Counts.{Counts}
use Rattle.rtr_receiver.specs.declared.Session.{Session}
use Rattle.rtr_receiver.specs.declared.AskError.{AskError}
use Rattle.rtr_receiver.specs.declared.AskedSession.{AskedSession}
use Rattle.rtr_receiver.specs.declared.Doing.{Doing}
use Rattle.rtr_receiver.specs.declared.DeedDone.{DeedDone}
use Rattle.rtr_receiver.specs.declared.Step.{Step}
use Rattle.rtr_encode.specs.declared.EncodeError.{EncodeError}
use Rattle.rtr_receiver.specs.declared.Table.{Table}
use Rattle.rtr_receiver.specs.declared.FeedError.{FeedError}

-- both rooms keep the rules, nothing is held (a whole PDU has just been taken out of the hold), the receiver has not stopped, and the
-- limit is the session's
abbrev pub BothRooms : ℕ → Session → Rooms → Rooms → Type 0
BothRooms limit s live working =
    (are_rooms limit s.live live ≡ true)
    × (are_rooms limit s.working working ≡ true)
    × (s.held ≡ 0)
    × (listens (stage_of s.phase) ≡ true)
    × (s.life.limit ≡ limit)

-- the session record and the rooms are this receiver's, nothing held
abbrev pub Stands : ℕ → Session → Rooms → Rooms → Receiver → Type 0
Stands limit s live working r = leaves s live working [] ≡ in_memory limit r

abbrev pub Did : ℕ → DeedDone → Rooms → Rooms → Deed → Type 0
Did limit d live working deed = Stands limit d.session live working deed.then × (d.updates ≡ deed.updates)

-- what comes of a PDU of a type in a phase: this where it is due, else 13
abbrev pub in_turn : RtrPduType → Stage → Receiver → Receiver → Receiver
in_turn type stage to r = cond (is_due type stage) to (stop 13 [] r)

abbrev pub response_in : Stage → ℕ → Receiver → Receiver
response_in stage session r = in_turn RtrPduType.CacheResponse stage (on_cache_response (kind_in stage) session r) r

-- a prefix of either family: both are due in the same phases
abbrev pub record_in : ℕ → Stage → Bool → Record → Receiver → Receiver
record_in limit stage announced x r = in_turn RtrPduType.IPv4Prefix stage (on_record limit announced x r) r

abbrev pub key_in : Stage → Receiver → Receiver
key_in stage r = in_turn RtrPduType.RouterKey stage r r

abbrev pub reset_in : Stage → Receiver → Receiver
reset_in stage r = in_turn RtrPduType.CacheReset stage (in_stage must_reset r) r

abbrev pub end_in : Stage → RtrEndOfData → Receiver → Deed
end_in stage p r = cond (is_due RtrPduType.EndOfData stage) (on_end_of_data (session_in stage) p r) (no_update (stop 13 [] r))

-- the record that a PDU carries, and whether it is announced
unfoldable pub carried_by : RtrPdu → Option (Bool × Record)
carried_by (SerialNotify p) = None
carried_by (SerialQuery p) = None
carried_by (ResetQuery p) = None
carried_by (CacheResponse p) = None
carried_by (IPv4Prefix p) = Some ((announces p.flags), (ipv4_record p.prefix_length p.max_length p.prefix p.asn))
carried_by (IPv6Prefix p) =
    Some ((announces p.flags), (ipv6_record p.prefix_length p.max_length p.prefix.w0 p.prefix.w1 p.prefix.w2 p.prefix.w3 p.asn))
carried_by (EndOfData p) = None
carried_by (CacheReset p) = None
carried_by (RouterKey p) = None
carried_by (ErrorReport p) = None

-- a load begun: the working table starts empty, or as the live one
abbrev pub begun : LoadKind → ℕ → Receiver → Receiver
begun LoadKind.Full session r = start_load LoadKind.Full session nothing r
begun LoadKind.Change session r = start_load LoadKind.Change session r.live r

-- what carrying out a decision makes of a receiver
abbrev pub carried_out : ℕ → Doing → Receiver → Deed
carried_out limit Doing.Passes r = no_update r
carried_out limit (Doing.Notes session serial) r = no_update (on_serial_notify session serial r)
carried_out limit Doing.Resets r = no_update (in_stage must_reset r)
carried_out limit (Doing.Stops why) r =
    no_update (record { version = r.version; stage = stopped_by (stop_said why); table = r.table; note = r.note; live = r.live; working = nothing; held = [] })
carried_out limit (Doing.Begins kind session) r = no_update (begun kind session r)
carried_out limit (Doing.Takes announced x) r = no_update (on_record limit announced x r)
carried_out limit (Doing.Finishes p) r = record { then = finish p r; updates = 1 }

-- the decision does what the definition does, and finishes so many updates
abbrev pub Makes : Doing → (ℕ → Receiver → Deed) → Type 0
Makes doing to = (limit : ℕ) (r : Receiver) → carried_out limit doing r ≡ to limit r

abbrev pub Updates : Doing → ℕ → Type 0
Updates doing n = (limit : ℕ) (r : Receiver) → n ≡ (carried_out limit doing r).updates

-- the receiver in a phase of the session record, with a table of it
abbrev pub placed : Phase → Option Table → Receiver → Receiver
placed phase table r =
    record { version = r.version; stage = stage_of phase; table = table; note = r.note; live = r.live; working = r.working; held = r.held }

-- in this phase and with this table the decision is what the definition does, whatever else the receiver has
abbrev pub Decides : Phase → Option Table → Doing → (ℕ → Receiver → Deed) → Type 0
Decides phase table doing to = (limit : ℕ) (r : Receiver) → carried_out limit doing (placed phase table r) ≡ to limit (placed phase table r)

-- on this session the decision is what the definition does with the PDU, whatever is in the rooms
abbrev pub DecidesOn : Session → RtrPdu → Doing → Type 0
DecidesOn s pdu doing =
    (limit : ℕ) (live working : Rooms) → carried_out limit doing (receiver_of s live working []) ≡ on_pdu limit pdu (receiver_of s live working [])

-- the working room and its counts at the beginning of a load
abbrev pub Filled : LoadKind → Counts → Rooms → Rooms → Counts → Rooms → Type 0
Filled LoadKind.Full in_live live working n to = (n ≡ record { records = 0 }) × (to ≡ replicate (length working) 0)
Filled LoadKind.Change in_live live working n to = (n ≡ in_live) × (to ≡ copied live working)

-- the feed from here: what the piece from a place on makes of it
abbrev pub feed_here : ℕ → Session → Rooms → Rooms → List ℕ → List ℕ → ℕ → ℕ → Feed
feed_here limit s live working hold piece at updates =
    on_piece limit (length hold) (record { receiver = receiver_of s live working hold; taken = at; updates = updates }) (drop at piece)

-- one step: the feed is over, as the definition has it, or goes on from further in the piece to the same end
abbrev pub SteppedTo : ℕ → Feed → List ℕ → ℕ → Session → ℕ → ℕ → Rooms → Rooms → List ℕ → Option (Result ⊤ FeedError) → Type 0
SteppedTo limit f piece at s next updates live working hold (Some answer) =
    fed_said_by answer next updates (leaves s live working hold) hold ≡ fed_to limit f
SteppedTo limit f piece at s next updates live working hold None =
    (is_receiver limit s live working hold ≡ true)
    × (listens (stage_of s.phase) ≡ true)
    × (at < next)
    × (next ≤ length piece)
    × (updates ≤ next)
    × (feed_here limit s live working hold piece next updates ≡ f)

abbrev pub Stepped : ℕ → Feed → List ℕ → ℕ → Step → Rooms → Rooms → List ℕ → Type 0
Stepped limit f piece at t live working hold = SteppedTo limit f piece at t.session t.next t.updates live working hold t.then

-- ---- the run step: announcements that stand one after another in a piece enter together

-- what a piece from one place to another does in a load of a version with nothing held: the working table is made this of that, and nothing else happens
abbrev pub Gathers : ℕ → RtrProtocolVersion → List ℕ → ℕ → ℕ → Contents → Contents → Type 0
Gathers limit version piece at next t t' =
    (H updates : ℕ) (kind : LoadKind) (session : ℕ) (r : Receiver) → 32 ≤ H → r.version ≡ version → r.stage ≡ Stage.loading kind session → r.held ≡ [] → r.working ≡ t
    → on_piece limit H (record { receiver = r; taken = at; updates = updates }) (drop at piece)
    ≡ on_piece limit H (record { receiver = changed_to (Change.changed t') r; taken = next; updates = updates }) (drop next piece)

-- a load with nothing held, and a hold that no prefix is too long for
abbrev pub may_gather : Session → ℕ → Bool
may_gather s H = s.held == 0 && (nat_le 32 H && is_loading s.phase)

-- the next PDU of a piece announces an entry, which enters any table that lacks it and has space; of anything else nothing is said
abbrev pub AnnouncedAt : RtrProtocolVersion → List ℕ → ℕ → Option (Record × ℕ) → Type 0
AnnouncedAt version piece at (Some (x, next)) =
    (at < next) × (next ≤ length piece) × (in_rule x ≡ true) × ((limit : ℕ) (t : Contents) → is_in x t ≡ false → length t < limit → Gathers limit version piece at next t (insert x t))
AnnouncedAt version piece at None = Unit {0}

-- one announcement more stands in the tail, and it is in neither table; or nothing was taken
abbrev pub GatheredOne : RtrProtocolVersion → Rooms → ℕ → List ℕ → ℕ → ℕ → Rooms → Rooms → ℕ → Type 0
GatheredOne version working count piece at n tail tail' next =
    ((next ≡ at) × (tail' ≡ tail))
    ⊎ ((x : Entry) × (at < next) × (next ≤ length piece) × (is_room (limit_of tail) (n + 1) tail' ≡ true) × (records (n + 1) tail' ≡ insert x (records n tail))
    × (is_in x (records count working) ≡ false)
    × (is_in x (records n tail) ≡ false)
    × ((limit : ℕ) (t : Contents) → is_in x t ≡ false → length t < limit → Gathers limit version piece at next t (insert x t)))

-- the piece from one place to another is the entries of the tail, a room of k: both tables have nothing in common, and together they are within the limit
pub record GatheredTo (limit k : ℕ) (version : RtrProtocolVersion) (piece : List ℕ) (at : ℕ) (t : Contents) (tail : Rooms) (n next : ℕ) : Type 0 where
  pub ruled : is_room k n tail ≡ true
  pub apart : Apart t (records n tail)
  pub within : length t + n ≤ limit
  pub onward : at ≤ next
  pub inside : next ≤ length piece
  pub none : next ≡ at → n ≡ 0
  pub gathered : Gathers limit version piece at next t (join t (records n tail))

-- the piece from one place to another is in the working room; where nothing was taken it is as it was
pub record TakenTo (limit : ℕ) (version : RtrProtocolVersion) (piece : List ℕ) (at count : ℕ) (working : Rooms) (count' next : ℕ) (working' : Rooms) : Type 0 where
  pub ruled : is_room limit count' working' ≡ true
  pub onward : at ≤ next
  pub inside : next ≤ length piece
  pub none : next ≡ at → (working' ≡ working) × (count' ≡ count)
  pub gathered : Gathers limit version piece at next (records count working) (records count' working')

-- a session that stopped
abbrev pub stopped_session : Session → Stop → Session
stopped_session s stop =
    record { life = s.life; phase = Phase.Stopped stop; table = s.table; note = s.note; live = s.live; working = record { records = 0 }; held = 0 }

-- an ask whose query was written, or refused
abbrev pub asked_for : Session → Result ℕ EncodeError → Phase → AskedSession
asked_for s (Ok n) phase =
    record {
      session = record { life = s.life; phase = phase; table = s.table; note = s.note; live = s.live; working = s.working; held = s.held };
      answer = Ok n;
    }
asked_for s (Err error) phase = record { session = s; answer = Err (AskError.Encoding error) }

-- what a step asks: receiver shape, listening, a place in the piece, and no more updates than bytes
abbrev pub StepAsks : ℕ → Session → Rooms → Rooms → List ℕ → List ℕ → ℕ → ℕ → Type 0
StepAsks limit s live working hold piece at updates =
    (is_receiver limit s live working hold ≡ true)
    × (listens (stage_of s.phase) ≡ true)
    × (at ≤ length piece)
    × (updates ≤ at)

-- after a PDU the feed goes on, unless it stopped
abbrev pub goes_on_in : Phase → Option (Result ⊤ FeedError)
goes_on_in Phase.Idle = None
goes_on_in Phase.MustReset = None
goes_on_in Phase.AskedFull = None
goes_on_in Phase.AskedChange = None
goes_on_in (Phase.Loading kind session) = None
goes_on_in (Phase.Stopped stop) = Some (Err (FeedError.Stopped stop))

abbrev pub after_pdu : DeedDone → ℕ → ℕ → Step
after_pdu d next updates =
    record { session = d.session; next = next; updates = updates + d.updates; then = goes_on_in d.session.phase }
