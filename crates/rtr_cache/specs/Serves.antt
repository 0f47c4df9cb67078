-- What a receiver makes of a run: document 02, request Five. A receiver that is ready (`Ready`), fed the run in any pieces, is the one that was served (`served`): `run-serves`
-- of proofs/Serves.antt, once for both versions, both kinds and every cut. Beside it stand how a run is read by place (`ReadsAs`), its bytes by the RFCs' pictures, and what the
-- calls promise of the numbers lent to them.
use Rattle.std.specs.Prelude.{ℕ, ◌+◌, ◌≤◌, true, List, [], ◌∷◌, ◌++◌, ◌≡◌, get_or, Some}
use Rattle.rtr_models.specs.declared.RtrProtocolVersion.{RtrProtocolVersion}
use Rattle.rtr_models.specs.declared.RtrProtocolVersion.TheVariants.{V0, V1}
use Rattle.rtr_models.specs.declared.RtrPdu.{RtrPdu}
use Rattle.rtr_codec.specs.Reading.{in_use}
use Rattle.rtr_codec.specs.Read.Verdict.{accepted}
use Rattle.rtr_codec.specs.Run.{read_at}
use Rattle.rtr_encode.specs.Encode.{encoded_length}
use Rattle.rtr_round.specs.Rfc.{sent}
use Rattle.rtr_room.specs.Table.{is_table, AllFit}
use Rattle.rtr_room.specs.declared.Record.{Record}
use Rattle.rtr_receiver.specs.Fits.{TableNumbersFit}
use Rattle.rtr_receiver.specs.Receiver.{Receiver, Stage}
use Rattle.rtr_receiver.specs.History.{Place, Update, Live, base}
use Rattle.rtr_receiver.specs.Receives.{stage_at}
use Rattle.rtr_receiver.specs.declared.LoadKind.{LoadKind}
use Rattle.rtr_receiver.specs.declared.Table.{Table}
use Rattle.rtr_changes.specs.Changes.{changes}

-- ---- a receiver that is served

-- what is known of a table once its run was sent: version 0 has no intervals, and RFC 8210's defaults then stand
abbrev pub sent_as : RtrProtocolVersion → Table → Table
sent_as V0 end = record { session = end.session; serial = end.serial; refresh = 3600; retry = 600; expire = 7200 }
sent_as V1 end = end

-- what can be served: the table that the run goes from (of a full run nothing) and the one that it leads to are tables, and all numbers fit their fields
pub record Servable (kind : LoadKind) (end : Table) (first second : List Record) : Type 0 where
  pub first-table : is_table (base kind first) ≡ true
  pub second-table : is_table second ≡ true
  pub first_fits : AllFit (base kind first)
  pub second_fits : AllFit second
  pub end_fits : TableNumbersFit end

-- for a change the live table is the first one, of the run's session; for a full run it is any, or none
abbrev pub Holds : LoadKind → List Record → ℕ → Live → Type 0
Holds LoadKind.Full first session live = Unit {0}
Holds LoadKind.Change first session live = (live.records ≡ first) × ((t : Table) × (live.info ≡ Some t) × (t.session ≡ session))

-- a receiver that is ready for a run: it is of the run's version, has asked for its kind, and holds no bytes. `full-ask-ready` and `change-ask-ready` (proofs/Asks.antt): an ask
-- that is written makes it so
pub record Ready (kind : LoadKind) (v : RtrProtocolVersion) (session : ℕ) (first : List Record) (r : Receiver) : Type 0 where
  pub version : r.version ≡ v
  pub asked : r.stage ≡ stage_at (Place.asked kind)
  pub nothing-held : r.held ≡ []
  pub holds : Holds kind first session (record { info = r.table; records = r.live })

-- what it then is: Idle with the second table and what the End of Data said; version and note are kept
abbrev pub served : RtrProtocolVersion → Table → List Record → Receiver → Receiver
served v end second r =
    record { version = r.version; stage = Stage.idle; table = Some (sent_as v end); note = r.note; live = second; working = []; held = [] }

-- the update that has then finished
abbrev pub update_of : LoadKind → RtrProtocolVersion → Table → List Record → List Record → Update
update_of kind v end first second = record { kind = kind; records = changes (base kind first) second; end = sent_as v end }

-- none of these PDUs is longer than a hold of H bytes. Of a run that is so wherever H is 32 or more (`run_fits`)
unfoldable pub NoLonger : ℕ → List RtrPdu → Type 0
NoLonger H [] = Unit {0}
NoLonger H (pdu ∷ pdus) = (encoded_length in_use pdu ≤ H) × NoLonger H pdus

-- ---- the bytes of a run

-- reading by place, from one place to another, gives these PDUs, and no others (`reads-as-once`)
pub data ReadsAs (s : List ℕ) : ℕ → List RtrPdu → ℕ → Type 0 where
  over : {at : ℕ} → ReadsAs s at [] at
  next : {at n end : ℕ} {pdu : RtrPdu} {pdus : List RtrPdu} → read_at in_use s at ≡ record { answer = accepted pdu n; next = at + n } → ReadsAs s (at + n) pdus end → ReadsAs s at (pdu ∷ pdus) end

-- the RFCs' pictures of PDUs, one behind the other: the second definition of a run's bytes, which knows nothing of the encoder (`run-is-rfc`)
unfoldable pub pictures : List RtrPdu → List ℕ
pictures [] = []
pictures (pdu ∷ pdus) = sent pdu [] ++ pictures pdus

-- ---- what the calls promise besides: the numbers lent are of their types, so that a run of them is read back

-- every number of a room is of 32 bits
abbrev pub RoomFits : List ℕ → Type 0
RoomFits room = (i : ℕ) → get_or room i 0 ≤ 4294967295
