-- The whole state after a history: the receiver's own steps (Receiver's page), one for each of its events (History's page). Where pieces were cut is forgotten, and so is memory.
-- proofs/Receives.antt: along every run memory is `in_memory` of this receiver (`memory-is`), what each call says is this receiver's (`feed-is`, ..), and the table, the updates and the phase are those
-- of History's page (`receives-history`), which knows nothing of these steps.
use Rattle.std.specs.Prelude.{ℕ, List, [], ◌∷◌, replicate}
use Rattle.rtr_models.specs.declared.RtrProtocolVersion.{RtrProtocolVersion}
use Rattle.rtr_receiver.specs.Contents.{Contents, nothing}
use Rattle.rtr_receiver.specs.Receiver.{Receiver, Feed, Stage, fresh, on_byte, full_query, change_query, ask, reconnected}
use Rattle.rtr_receiver.specs.History.{Event, Place, with_all, base}
use Rattle.rtr_receiver.specs.declared.LoadKind.{LoadKind}

-- an ask with so much space for its query: of the output only the space counts, so zeros stand for it
abbrev pub asking : LoadKind → ℕ → Receiver → Receiver
asking LoadKind.Full space r = (ask (full_query r.stage r) r (replicate space 0)).receiver
asking LoadKind.Change space r = (ask (change_query r.stage r) r (replicate space 0)).receiver

-- one event, with the bytes taken and the updates finished so far
abbrev pub on_event : ℕ → ℕ → Feed → Event → Feed
on_event limit H f (Event.byte b) = on_byte limit H f b
on_event limit H f (Event.ask kind space) = record { receiver = asking kind space f.receiver; taken = f.taken; updates = f.updates }
on_event limit H f Event.reconnect = record { receiver = reconnected f.receiver; taken = f.taken; updates = f.updates }

-- events one after another
unfoldable pub on_events : ℕ → ℕ → Feed → List Event → Feed
on_events limit H f [] = f
on_events limit H f (e ∷ es) = on_events limit H (on_event limit H f e) es

-- a history from a fresh start: the receiver, all bytes taken and all updates finished
abbrev pub receives : ℕ → ℕ → RtrProtocolVersion → List Event → Feed
receives limit H v history = on_events limit H (record { receiver = fresh v; taken = 0; updates = 0 }) history

-- the phase at a place of History's page
abbrev pub stage_at : Place → Stage
stage_at Place.idle = Stage.idle
stage_at Place.must_reset = Stage.must_reset
stage_at (Place.asked LoadKind.Full) = Stage.asked_full
stage_at (Place.asked LoadKind.Change) = Stage.asked_change
stage_at (Place.loading kind session records) = Stage.loading kind session
stage_at (Place.lost number values) = Stage.stopped number values

-- and the working table there: in a load what its records make, else nothing
abbrev pub working_at : ℕ → Contents → Place → Contents
working_at limit live Place.idle = nothing
working_at limit live Place.must_reset = nothing
working_at limit live (Place.asked kind) = nothing
working_at limit live (Place.loading kind session records) = with_all limit (base kind live) records
working_at limit live (Place.lost number values) = nothing
