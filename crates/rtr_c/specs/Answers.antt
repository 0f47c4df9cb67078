-- Read, encode, listing, read_listing, diff, the runs, validate and validate_all by their answer: for each number that the call returns, when it does so and what it leaves. proofs/Answers.antt (of
-- validate_all proofs/PeerAnswers.antt, of diff proofs/DiffAnswers.antt, of read_listing and the runs proofs/RunAnswers.antt) has that each call is one of these, whatever it is lent.
use Rattle.std.specs.Prelude.{ℕ, ◌*◌, ◌%◌, ◌≤◌, ◌<◌, true, false, List, [], ◌++◌, ◌≡◌, length, drop, replicate, Some, None}
use Rattle.rtr_models.specs.Codes.{version_found}
use Rattle.rtr_models.specs.declared.RtrProtocolVersion.{RtrProtocolVersion}
use Rattle.rtr_models.specs.declared.RtrPdu.{RtrPdu}
use Rattle.rtr_codec.specs.Reading.{in_use}
use Rattle.rtr_codec.specs.Read.{Verdict, read}
use Rattle.rtr_encode.specs.Encode.{encoded_length, encoding, places_inside, text_in}
use Rattle.rtr_room.specs.Table.{is_table}
use Rattle.rtr_room.specs.Room as rooms
use Rattle.rtr_room.specs.declared.Record.{Record}
use Rattle.rtr_listing.specs.Listing as lines
use Rattle.rtr_listing.specs.Promises.{ListReason}
use Rattle.rtr_receiver.specs.Contents.{contents}
use Rattle.rtr_receiver.specs.History.{has_table}
use Rattle.rtr_receiver.specs.Promises.{Reason, record_limit}
use Rattle.rtr_receiver.specs.declared.LoadKind.{LoadKind}
use Rattle.rtr_receiver.specs.declared.Table.{Table}
use Rattle.rtr_receiver.specs.declared.Session.{Session}
use Rattle.rtr_numbers.specs.Back.{session_of, table_found}
use Rattle.rtr_pdu_numbers.specs.Numbers.{pdu_numbers}
use Rattle.rtr_pdu_numbers.specs.Back.{pdu_of}
use Rattle.rtr_origin.specs.Origin.{state_of}
use Rattle.rtr_origin.specs.Numbers.{route_of}
use Rattle.rtr_origin.specs.Promises.{validate_says}
use Rattle.rtr_origin.specs.Peer.{states_of, route_count}
use Rattle.rtr_origin.specs.declared.Route.{Route}
use Rattle.rtr_origin.specs.declared.RouteState.{RouteState}
use Rattle.rtr_listed.specs.Listed.{Listed, Read, read_listing}
use Rattle.rtr_listed.specs.Promises.{listed_head, read_leaves}
use Rattle.rtr_diffs.specs.Diffs.{new_room_by, diff_text}
use Rattle.rtr_cache.specs.Cache.{run_bytes}
use Rattle.rtr_c.specs.Calls.{ReadLeft, read_gives, EncodeLeft, encode_gives, ReadListingLeft, read_listing_gives, head_size, head_numbers, DiffCLeft, diff_gives, ValidateLeft, validate_gives}

-- read: 9 where not 12 numbers are lent; 0 and the PDU's numbers; or the read's refusal, 1 to 8, and the numbers as they were
pub data ReadAnswers (bytes numbers : List ℕ) : ReadLeft → Type 0 where
  not_twelve : (length numbers ≡ 12 → ⊥) → ReadAnswers bytes numbers (read_gives 9 numbers)
  accepted : (pdu : RtrPdu) (consumed : ℕ) →
      length numbers ≡ 12 →
      read in_use bytes ≡ Verdict.accepted pdu consumed →
      ReadAnswers bytes numbers (read_gives 0 (pdu_numbers pdu consumed))
  refused : (number : ℕ) (values : List ℕ) →
      length numbers ≡ 12 →
      read in_use bytes ≡ Verdict.refused number values →
      1 ≤ number →
      number ≤ 8 →
      ReadAnswers bytes numbers (read_gives number numbers)

-- encode: 22 where the numbers are no PDU's; 11, 8, 10 and 9 in this order, the last with the bytes needed, and the output as it was; or 0, the length and the encoding, with the
-- bytes behind it as they were
pub data EncodeAnswers (numbers payload out : List ℕ) : EncodeLeft → Type 0 where
  unknown : pdu_of numbers ≡ None → EncodeAnswers numbers payload out (encode_gives 22 0 out)
  outside : (pdu : RtrPdu) (consumed : ℕ) →
      pdu_of numbers ≡ Some (pdu, consumed) →
      places_inside pdu payload ≡ false →
      EncodeAnswers numbers payload out (encode_gives 11 0 out)
  not_text : (pdu : RtrPdu) (consumed : ℕ) →
      pdu_of numbers ≡ Some (pdu, consumed) →
      places_inside pdu payload ≡ true →
      text_in pdu payload ≡ false →
      EncodeAnswers numbers payload out (encode_gives 8 0 out)
  too_long : (pdu : RtrPdu) (consumed : ℕ) →
      pdu_of numbers ≡ Some (pdu, consumed) →
      places_inside pdu payload ≡ true →
      text_in pdu payload ≡ true →
      4294967295 < encoded_length in_use pdu →
      EncodeAnswers numbers payload out (encode_gives 10 0 out)
  short : (pdu : RtrPdu) (consumed : ℕ) →
      pdu_of numbers ≡ Some (pdu, consumed) →
      places_inside pdu payload ≡ true →
      text_in pdu payload ≡ true →
      encoded_length in_use pdu ≤ 4294967295 →
      length out < encoded_length in_use pdu →
      EncodeAnswers numbers payload out (encode_gives 9 (encoded_length in_use pdu) out)
  written : (pdu : RtrPdu) (consumed : ℕ) →
      pdu_of numbers ≡ Some (pdu, consumed) →
      places_inside pdu payload ≡ true →
      text_in pdu payload ≡ true →
      encoded_length in_use pdu ≤ 4294967295 →
      encoded_length in_use pdu ≤ length out →
      EncodeAnswers numbers payload out (encode_gives 0 (encoded_length in_use pdu) (encoding in_use pdu payload ++ drop (encoded_length in_use pdu) out))

-- the text of a session's listing
abbrev pub text_of : Session → List ℕ → List ℕ
text_of s live = lines.listing s (contents s.live live)

-- listing: 22 where the numbers are no session's, or where there is a reason; 9 and the bytes needed; or 0, the bytes written and the text, with the
-- bytes behind it as they were
pub data ListingAnswers (session live out : List ℕ) : EncodeLeft → Type 0 where
  unknown : session_of session ≡ None → ListingAnswers session live out (encode_gives 22 0 out)
  unlisted : (s : Session) →
      session_of session ≡ Some s →
      ListReason s.life.limit s live →
      ListingAnswers session live out (encode_gives 22 0 out)
  short : (s : Session) →
      session_of session ≡ Some s →
      (ListReason s.life.limit s live → ⊥) →
      length out < length (text_of s live) →
      ListingAnswers session live out (encode_gives 9 (length (text_of s live)) out)
  whole : (s : Session) →
      session_of session ≡ Some s →
      (ListReason s.life.limit s live → ⊥) →
      length (text_of s live) ≤ length out →
      ListingAnswers session live out (encode_gives 0 (length (text_of s live)) (text_of s live ++ drop (length (text_of s live)) out))

-- nothing stands in the way of a question but a table and a route: a session, six numbers, and no reason for 22
pub record Askable (session live working hold route : List ℕ) (s : Session) : Type 0 where
  pub known : session_of session ≡ Some s
  pub six : length route ≡ 6
  pub no-reason : Reason s.life.limit s live working hold → ⊥

-- the numbers are this route's, and this is its RFC 6811 state by the live table
pub record HasState (live route : List ℕ) (s : Session) (q : Route) (state : RouteState) : Type 0 where
  pub tabled : has_table s.table ≡ true
  pub routed : route_of route ≡ Some q
  pub is_state : state_of q (contents s.live live) ≡ state

-- validate: 22 where not six numbers are lent, where the session's are no session's, or where there is a reason; then 21 without a table, and 23 where the six
-- are no route's; or 0 and the number of the state
pub data ValidateAnswers (session live working hold route : List ℕ) : ValidateLeft → Type 0 where
  not_six : (length route ≡ 6 → ⊥) → ValidateAnswers session live working hold route (validate_gives 22 0)
  unknown : session_of session ≡ None → ValidateAnswers session live working hold route (validate_gives 22 0)
  shapeless : (s : Session) →
      session_of session ≡ Some s →
      Reason s.life.limit s live working hold →
      ValidateAnswers session live working hold route (validate_gives 22 0)
  untabled : (s : Session) →
      Askable session live working hold route s →
      s.table ≡ None →
      ValidateAnswers session live working hold route (validate_gives 21 0)
  unrouted : (s : Session) →
      Askable session live working hold route s →
      has_table s.table ≡ true →
      route_of route ≡ None →
      ValidateAnswers session live working hold route (validate_gives 23 0)
  not_found : (s : Session) (q : Route) →
      Askable session live working hold route s →
      HasState live route s q RouteState.NotFound →
      ValidateAnswers session live working hold route (validate_gives 0 0)
  valid : (s : Session) (q : Route) →
      Askable session live working hold route s →
      HasState live route s q RouteState.Valid →
      ValidateAnswers session live working hold route (validate_gives 0 1)
  invalid : (s : Session) (q : Route) →
      Askable session live working hold route s →
      HasState live route s q RouteState.Invalid →
      ValidateAnswers session live working hold route (validate_gives 0 2)

-- nothing stands in the way of a list but a table and its states: a session, numbers in sixes, and no reason for 22
pub record AskableAll (session live working hold routes : List ℕ) (s : Session) : Type 0 where
  pub known : session_of session ≡ Some s
  pub sixes : length routes % 6 ≡ 0
  pub no-reason : Reason s.life.limit s live working hold → ⊥

-- validate_all: 22 where the session's numbers are no session's, where there is a reason, or where the routes' are not in sixes; then 21 without a table, and 9 with how many states are
-- needed; or 0, how many routes there were, and the state of each in its place, with what stood behind them
pub data ValidateAllAnswers (session live working hold routes states : List ℕ) : EncodeLeft → Type 0 where
  unknown : session_of session ≡ None → ValidateAllAnswers session live working hold routes states (encode_gives 22 0 states)
  shapeless : (s : Session) →
      session_of session ≡ Some s →
      Reason s.life.limit s live working hold →
      ValidateAllAnswers session live working hold routes states (encode_gives 22 0 states)
  not_sixes : (s : Session) →
      session_of session ≡ Some s →
      (length routes % 6 ≡ 0 → ⊥) →
      ValidateAllAnswers session live working hold routes states (encode_gives 22 0 states)
  untabled : (s : Session) →
      AskableAll session live working hold routes s →
      s.table ≡ None →
      ValidateAllAnswers session live working hold routes states (encode_gives 21 0 states)
  short : (s : Session) →
      AskableAll session live working hold routes s →
      has_table s.table ≡ true →
      length states < route_count routes →
      ValidateAllAnswers session live working hold routes states (encode_gives 9 (route_count routes) states)
  answered : (s : Session) →
      AskableAll session live working hold routes s →
      has_table s.table ≡ true →
      route_count routes ≤ length states →
      ValidateAllAnswers session live working hold routes states
      (encode_gives 0 (route_count routes) (states_of (validate_says s.life.limit s live working hold) routes ++ drop (route_count routes) states))

-- diff: 22 where a room has not its size, and nothing changes; 9 and the bytes needed; or 0, the bytes written and the text, with the bytes behind it as they were. Each room is as reading its file
-- leaves it
pub data DiffAnswers (old new old_room new_room out : List ℕ) : DiffCLeft → Type 0 where
  off_size : ((length old_room ≡ 6 * record_limit) × (length new_room ≡ 6 * record_limit) → ⊥) → DiffAnswers old new old_room new_room out (diff_gives 22 0 old_room new_room out)
  short : length old_room ≡ 6 * record_limit →
      length new_room ≡ 6 * record_limit →
      length out < length (diff_text record_limit old new) →
      DiffAnswers old new old_room new_room out
      (diff_gives 9 (length (diff_text record_limit old new)) (read_leaves record_limit (read_listing record_limit old)).room (new_room_by record_limit (read_listing record_limit old) (read_listing record_limit new)) out)
  whole : length old_room ≡ 6 * record_limit →
      length new_room ≡ 6 * record_limit →
      length (diff_text record_limit old new) ≤ length out →
      DiffAnswers old new old_room new_room out
      (diff_gives 0 (length (diff_text record_limit old new)) (read_leaves record_limit (read_listing record_limit old)).room (new_room_by record_limit (read_listing record_limit old) (read_listing record_limit new))
      (diff_text record_limit old new ++ drop (length (diff_text record_limit old new)) out))

-- read_listing: 22 where the head or the room has not its size, and nothing changes; 24 and the line that does not fit or is missing, the room all zeros, the head as it was; or 0, the room of the
-- listing's table, and what the listing says before its records
pub data ReadListingAnswers (text room head : List ℕ) : ReadListingLeft → Type 0 where
  not_head : (length head ≡ head_size → ⊥) → ReadListingAnswers text room head (read_listing_gives 22 room head 0)
  off_size : (length room ≡ 6 * record_limit → ⊥) → ReadListingAnswers text room head (read_listing_gives 22 room head 0)
  unlisted : (line : ℕ) →
      length head ≡ head_size →
      length room ≡ 6 * record_limit →
      read_listing record_limit text ≡ Read.misfit line →
      ReadListingAnswers text room head (read_listing_gives 24 (replicate (6 * record_limit) 0) head line)
  whole : (v : Listed) →
      length head ≡ head_size →
      length room ≡ 6 * record_limit →
      read_listing record_limit text ≡ Read.listed v →
      ReadListingAnswers text room head (read_listing_gives 0 (rooms.room record_limit v.records) (head_numbers (listed_head v)) 0)

-- a version that is known, and five numbers that are a table's
pub record RunAsked (version : ℕ) (end : List ℕ) (v : RtrProtocolVersion) (t : Table) : Type 0 where
  pub spoken-is : version_found version ≡ Some v
  pub numbers-are : table_found end ≡ Some t

-- these numbers are a room of this table, which has so many records
pub record Lends (numbers : List ℕ) (count : ℕ) (t : List Record) : Type 0 where
  pub within : count ≤ record_limit
  pub table : is_table t ≡ true
  pub counted : length t ≡ count
  pub lent : numbers ≡ rooms.room record_limit t

-- a run of a kind, where two tables are lent in some way: 22 where the version is neither 0 nor 1, the five numbers are no table's, or no tables are lent so; 9 and the bytes needed; or 0, the bytes
-- written and the run, with the bytes behind it as they were
pub data RunAnswers (kind : LoadKind) (Lent : List Record → List Record → Type 0) (version : ℕ) (end out : List ℕ) : EncodeLeft → Type 0 where
  unversioned : version_found version ≡ None → RunAnswers kind Lent version end out (encode_gives 22 0 out)
  unnumbered : table_found end ≡ None → RunAnswers kind Lent version end out (encode_gives 22 0 out)
  unlent : ((first second : List Record) → Lent first second → ⊥) → RunAnswers kind Lent version end out (encode_gives 22 0 out)
  short : (v : RtrProtocolVersion) (t : Table) (first second : List Record) →
      RunAsked version end v t →
      Lent first second →
      length out < length (run_bytes kind v t first second) →
      RunAnswers kind Lent version end out (encode_gives 9 (length (run_bytes kind v t first second)) out)
  whole : (v : RtrProtocolVersion) (t : Table) (first second : List Record) →
      RunAsked version end v t →
      Lent first second →
      length (run_bytes kind v t first second) ≤ length out →
      RunAnswers kind Lent version end out
      (encode_gives 0 (length (run_bytes kind v t first second)) (run_bytes kind v t first second ++ drop (length (run_bytes kind v t first second)) out))

-- full_run: one table is lent, and the run is from nothing to it
abbrev pub LendsOne : List ℕ → ℕ → List Record → List Record → Type 0
LendsOne table count first second = (first ≡ []) × Lends table count second

abbrev pub FullRunAnswers : ℕ → List ℕ → List ℕ → ℕ → List ℕ → EncodeLeft → Type 0
FullRunAnswers version end table count out = RunAnswers LoadKind.Full (LendsOne table count) version end out

-- change_run: both tables are lent
abbrev pub LendsTwo : List ℕ → ℕ → List ℕ → ℕ → List Record → List Record → Type 0
LendsTwo numbers count numbers' count' first second = Lends numbers count first × Lends numbers' count' second

abbrev pub ChangeRunAnswers : ℕ → List ℕ → List ℕ → ℕ → List ℕ → ℕ → List ℕ → EncodeLeft → Type 0
ChangeRunAnswers version end first first_count second second_count out = RunAnswers LoadKind.Change (LendsTwo first first_count second second_count) version end out
