-- What the program comes to, as far as its functions promise it: the bytes that `list_all` hands back are the listing of the history of its calls
-- (rtr_listing's `listed-is-history`), which ends where nothing was read, or in a stop. A turn has another behind it exactly where the receiver still
-- listens, by the answer's ending and the memory of a run (rtr_receiver's `feed-is` and `memory-is`). Assumes nothing.
use Rattle.std.specs.Prelude.{Result, Ok, Err, ⊤}
use Prim.Native.Nat.{ℕ, zero, suc, ◌*◌, ◌≤◌, ◌<◌}
use mathlib.Core.Bool.{Bool, true, false}
use mathlib.Core.List.{List, [], ◌∷◌, ◌++◌, append_assoc, append-nil}
use mathlib.Core.Logic.{◌⊎◌, inl, inr}
use mathlib.Core.Path.{◌≡◌, refl, sym, ap, ◌∙◌, subst}
use native.Mathlib.Omega.{arith}
use lib.ListN.{length, take}
use Rattle.rtr_models.specs.declared.RtrProtocolVersion.{RtrProtocolVersion}
use Rattle.rtr_models.specs.declared.RtrProtocolVersion.TheVariants.{V1}
use Rattle.rtr_codec.specs.Read.{Verdict}
use Rattle.rtr_codec.proofs.Laws.{refusal_is}
use Rattle.rtr_stream.specs.declared.StreamError.{StreamError}
use Rattle.rtr_room.specs.Room.{record_at, record_found, records}
use Rattle.rtr_room.proofs.Laws.{records-none, records-next, found_inside}
use Rattle.rtr_receiver.specs.Promises.{Left, Ending, FeedSays, stop_said, stopped_by, stage_of, ending_of, leaves, feed_says, fed_said_by, record_limit}
use Rattle.rtr_receiver.specs.Receiver.{Stage, listens}
use Rattle.rtr_receiver.specs.Receives.{receives}
use Rattle.rtr_receiver.specs.Runs.{Call, Memory, Run, feeds, history_of}
use Rattle.rtr_receiver.specs.declared.LoadKind.{LoadKind}
use Rattle.rtr_receiver.specs.declared.Session.{Session}
use Rattle.rtr_receiver.specs.declared.Stop.{Stop}
use Rattle.rtr_receiver.proofs.Laws.{limit-for-life, next-step}
use Rattle.rtr_receiver.proofs.Receives.{memory-is, feed-is}
use Rattle.rtr_listing.specs.Listing.{head_lines, head_of, record_lines, listing}
use Rattle.rtr_listing.proofs.Laws.{listing-of-none, listing-next}
use Rattle.rtr_listing.proofs.Printed.{printed_after, listed-is-history}
use Rattle.rtr_table.specs.Feeding.{memory, goes_on, Turn, Input, most_turns, Ends}
use Rattle.rtr_table.specs.Printing.{Shows, lines_of, lines_up_to, Listed}
use Rattle.rtr_table.specs.declared.Ended.{Ended}
use Rattle.rtr_table.proofs.Feeds.{turn_step, turns-run, ends-run, ends-count}
use Rattle.rtr_table.proofs.list_all.Reads as list_all
use Rattle.rtr_receiver.specs.declared.FeedError.{FeedError}

-- printed in parts, it is the listing
pub parts-are-listing : (s : Session) (live : List ℕ) (count : ℕ) → 6 * count ≤ length live → head_lines (head_of s) ++ lines_up_to live count ≡ listing s (records count live)
unfolding lines_up_to
parts-are-listing s live zero h = append-nil (head_lines (head_of s)) ∙ sym (listing-of-none s) ∙ ap (listing s) (sym (records-none live))
parts-are-listing s live (suc n) h =
    let here : lines_of (record_found live n) ≡ record_lines (record_at live n) = ap lines_of (found_inside live n (omega arith)) in
    sym (append_assoc (head_lines (head_of s)) (lines_up_to live n) (lines_of (record_found live n)))
    ∙ ap (λ (l : List ℕ). l ++ lines_of (record_found live n)) (parts-are-listing s live n (omega arith))
    ∙ ap (λ (l : List ℕ). listing s (records n live) ++ l) here
    ∙ sym (listing-next s (records n live) (record_at live n))
    ∙ ap (listing s) (sym (records-next n live))

-- so what is gathered where the input is left is the listing
pub listed-left : (e : Ended) (query live working hold : List ℕ) (n : ℕ) (lines : List ℕ) →
    length live ≡ 6 * record_limit →
    Ends (Ok e) query live working hold →
    Shows (head_lines (head_of e.session) ++ lines_up_to live e.session.live.records) n lines →
    Listed query live working hold n lines
listed-left e query live working hold n lines size ends shows =
    let count = ends-count e query live working hold ends in
    record {
      end = e;
      ends = ends;
      shows = subst (λ (text : List ℕ). Shows text n lines) (parts-are-listing e.session live e.session.live.records (omega (arith, size, count))) shows;
    }

-- ---- a turn and the receiver

abbrev goes_on_by : Ending → Bool
goes_on_by Ending.goes_on = true
goes_on_by (Ending.stops number values) = false

abbrev says_on : FeedSays → Bool
says_on (FeedSays.fed taken updates ending left) = goes_on_by ending
says_on (FeedSays.refused_feed number taken updates left hold) = false

listens-by : (stage : Stage) → goes_on_by (ending_of stage) ≡ listens stage
listens-by Stage.idle = refl
listens-by Stage.must_reset = refl
listens-by Stage.asked_full = refl
listens-by Stage.asked_change = refl
listens-by (Stage.loading kind session) = refl
listens-by (Stage.stopped number values) = refl

-- a stop's answer is one
stop-ends : (stop : Stop) → false ≡ goes_on_by (ending_of (stopped_by (stop_said stop)))
stop-ends (Stop.Stream (StreamError.Read error)) = sym (ap (λ (v : Verdict). goes_on_by (ending_of (stopped_by v))) (refusal_is error).1)
stop-ends (Stop.Stream (StreamError.OverHold length)) = refl
stop-ends Stop.OutOfTurn = refl
stop-ends Stop.OtherVersion = refl
stop-ends Stop.OtherSession = refl
stop-ends Stop.NotIn = refl
stop-ends Stop.AlreadyIn = refl
stop-ends Stop.RoomFull = refl
stop-ends (Stop.ErrorReport code) = refl

answer-says : (answer : Result ⊤ FeedError) (taken updates : ℕ) (left : Left) (hold : List ℕ) → goes_on answer ≡ says_on (fed_said_by answer taken updates left hold)
answer-says (Ok tt) taken updates left hold = refl
answer-says (Err (FeedError.Stopped stop)) taken updates left hold = stop-ends stop
answer-says (Err FeedError.NotAReceiver) taken updates left hold = refl

-- in a run there is to be another turn exactly where the receiver listens; after the last one it does not
pub turn-goes-on : (limit H : ℕ) (v : RtrProtocolVersion) (calls : List Call) (m m' : Memory) (buffer : List ℕ) (n : ℕ) (more : Bool) →
    Run limit v H calls m →
    0 < n →
    Turn m buffer n m' more →
    more ≡ listens (stage_of m'.session.phase)
turn-goes-on limit H v calls m m' buffer n more run some (Turn.over none same closed) = absurd (omega (arith, some, none))
turn-goes-on limit H v calls m m' buffer n more run some (Turn.heard done above within fed wanted) =
    let piece : List ℕ = take n buffer in
    let step = turn_step some (Turn.heard done above within fed wanted) in
    let stands = memory-is limit H v (calls ++ Call.feed piece ∷ []) m' (next-step limit H v calls (Call.feed piece) m m' run step) in
    wanted
    ∙ answer-says done.answer done.taken done.updates (leaves m'.session m'.live m'.working m'.hold) m'.hold
    ∙ ap says_on fed.0
    ∙ ap (λ (k : ℕ). says_on (feed_says k m.session m.live m.working m.hold piece)) (limit-for-life limit H v calls m run)
    ∙ ap says_on (feed-is limit H v calls m run piece)
    ∙ listens-by (receives limit H v (history_of (calls ++ Call.feed piece ∷ []))).receiver.stage
    ∙ sym (ap (λ (l : Left). listens l.stage) stands)

-- the input is left where nothing was read, or where the receiver has stopped, or after as many pieces as the loop has turns
pub input-ends : (limit H : ℕ) (v : RtrProtocolVersion) (calls : List Call) (m m' : Memory) (last : ℕ) (pieces : List (List ℕ)) →
    Run limit v H calls m →
    Input m last m' pieces →
    (last ≡ 0) ⊎ ((listens (stage_of m'.session.phase) ≡ false) ⊎ (length pieces ≡ most_turns))
input-ends limit H v calls m m' last pieces run (Input.over turns none) = inl none
input-ends limit H v calls m m' last pieces run (Input.stopped {pieces = before} {m₁ = m₁} buffer turns some turn) =
    inr (inl (sym (turn-goes-on limit H v (calls ++ feeds before) m₁ m' buffer last false (turns-run limit H v calls m run turns) some turn)))
input-ends limit H v calls m m' last pieces run (Input.turns_used turns most) = inr (inr most)

-- ---- the program

-- what is handed over to be written is the stop's line and the table that the finished updates of the history make, however the input was cut; and the
-- history is of the whole input, as above; whatever the input is read from
pub program-prints-history : (input : _) (row : _) (reads : _) (dict : _) (κs : _) (a : _) (n : ℕ) (s : _) → list_all.Post input row reads dict κs a n s →
    (end : Ended)
    × (pieces : List (List ℕ))
    × (take n s.1.1.1.1.1.0.now ≡ printed_after record_limit (length s.1.1.1.0.now) V1 (history_of (Call.ask LoadKind.Full a.1.1.1.1.0.now ∷ feeds pieces)))
    × ((end.last ≡ 0) ⊎ ((listens (stage_of end.session.phase) ≡ false) ⊎ (length pieces ≡ most_turns)))
program-prints-history input row reads dict κs a n s p =
    let live : List ℕ = s.1.0.now in
    let working : List ℕ = s.1.1.0.now in
    let hold : List ℕ = s.1.1.1.0.now in
    let query : List ℕ = a.1.1.1.1.0.now in
    let end = p.end in
    let left : Memory = memory end.session live working hold in
    let pieces = p.ends.2.0 in (
      end,
      pieces,
      p.shows.text-is ∙ listed-is-history record_limit (length hold) V1 (Call.ask LoadKind.Full query ∷ feeds pieces) left (ends-run end query live working hold p.ends),
      input-ends record_limit (length hold) V1 (Call.ask LoadKind.Full query ∷ []) p.ends.0 left end.last pieces p.ends.1 p.ends.2.1,
    )
