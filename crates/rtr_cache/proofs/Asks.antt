-- Who is ready for a run: a receiver whose ask was written (`full-ask-ready`, `change-ask-ready`), and one that was served and asks again (`served-again`). So nothing that
-- `Ready` asks for keeps a receiver out: its serial, intervals and note, and for a full run its live table, are anything. Assumes nothing.
use Rattle.std.specs.Prelude.{Option, Some}
use Prim.Native.Nat.{ℕ, ◌≤◌}
use mathlib.Core.Bool.{Bool, cond}
use mathlib.Core.List.{List, [], ◌∷◌}
use mathlib.Core.Logic.{◌⊎◌, inl, inr}
use mathlib.Core.Path.{◌≡◌, refl, sym, ap, ◌∙◌, subst}
use borrow.Author.Tests.{le-leb}
use lib.ListN.{length}
use Rattle.rtr_models.specs.declared.RtrProtocolVersion.{RtrProtocolVersion}
use Rattle.rtr_models.specs.declared.RtrProtocolVersion.TheVariants.{V0, V1}
use Rattle.rtr_models.specs.declared.RtrPdu.TheVariants.{ResetQuery, SerialQuery}
use Rattle.rtr_codec.specs.Reading.{in_use}
use Rattle.rtr_encode.specs.Encode.{Writing, encode}
use Rattle.rtr_encode.proofs.Laws.{reset-query-says, serial-query-says}
use Rattle.rtr_room.specs.declared.Record.{Record}
use Rattle.rtr_receiver.specs.Receiver.{Receiver, Stage, in_stage, reset_query, full_query, serial_query, change_query, asked_by, ask}
use Rattle.rtr_receiver.specs.declared.LoadKind.{LoadKind}
use Rattle.rtr_receiver.specs.declared.Table.{Table}
use Rattle.rtr_cache.specs.Serves.{sent_as, Ready, served}

-- a query for which there is space leads to its phase
full-asked : (r : Receiver) (out : List ℕ) → 8 ≤ length out → (ask (reset_query r) r out).receiver ≡ in_stage Stage.asked_full r
full-asked r out space =
    let left : List ℕ = (encode in_use (ResetQuery (record { version = r.version })) [] out).out in
    ap (λ (w : Writing). (asked_by w Stage.asked_full r left).receiver) (reset-query-says in_use r.version out)
    ∙ ap (λ (b : Bool). (asked_by (cond b (Writing.written 8) (Writing.refused 9 (8 ∷ []))) Stage.asked_full r left).receiver) (le-leb 8 (length out) space)

change-asked : (r : Receiver) (t : Table) (out : List ℕ) → 12 ≤ length out → (ask (serial_query (Some t) r) r out).receiver ≡ in_stage Stage.asked_change r
change-asked r t out space =
    let left : List ℕ = (encode in_use (SerialQuery (record { version = r.version; session_id = t.session; serial_number = t.serial })) [] out).out in
    ap (λ (w : Writing). (asked_by w Stage.asked_change r left).receiver) (serial-query-says in_use r.version t.session t.serial out)
    ∙ ap (λ (b : Bool). (asked_by (cond b (Writing.written 12) (Writing.refused 9 (12 ∷ []))) Stage.asked_change r left).receiver) (le-leb 12 (length out) space)

-- a full ask from Idle or MustReset, with nothing held: ready for a full run of any session, in its version
pub full-ask-ready : (session : ℕ) (first : List Record) (r : Receiver) (out : List ℕ) → (r.stage ≡ Stage.idle) ⊎ (r.stage ≡ Stage.must_reset) → r.held ≡ [] → 8 ≤ length out
    → Ready LoadKind.Full r.version session first (ask (full_query r.stage r) r out).receiver
full-ask-ready session first r out free none space =
    subst (Ready LoadKind.Full r.version session first) (sym (by free ∙ full-asked r out space)) (record { version = refl; asked = refl; nothing-held = none; holds = tt })
  where
    by : (r.stage ≡ Stage.idle) ⊎ (r.stage ≡ Stage.must_reset) → (ask (full_query r.stage r) r out).receiver ≡ (ask (reset_query r) r out).receiver
    by (inl e) = ap (λ (s : Stage). (ask (full_query s r) r out).receiver) e
    by (inr e) = ap (λ (s : Stage). (ask (full_query s r) r out).receiver) e

-- a change ask from Idle with a table, with nothing held: ready for a change of that session from the live table
pub change-ask-ready : (r : Receiver) (t : Table) (out : List ℕ) → r.stage ≡ Stage.idle → r.table ≡ Some t → r.held ≡ [] → 12 ≤ length out
    → Ready LoadKind.Change r.version t.session r.live (ask (change_query r.stage r) r out).receiver
change-ask-ready r t out idle known none space =
    let asked : (ask (change_query r.stage r) r out).receiver ≡ in_stage Stage.asked_change r =
    ap (λ (s : Stage). (ask (change_query s r) r out).receiver) idle ∙ ap (λ (x : Option Table). (ask (serial_query x r) r out).receiver) known ∙ change-asked r t out space in
    subst (Ready LoadKind.Change r.version t.session r.live) (sym asked) (record { version = refl; asked = refl; nothing-held = none; holds = (refl, (t, known, refl)) })

-- what a version sends keeps the session
session-kept : (v : RtrProtocolVersion) (end : Table) → (sent_as v end).session ≡ end.session
session-kept V0 end = refl
session-kept V1 end = refl

-- a receiver that was served, whatever it was before, asks for a change and is ready for the next run of that session from the table that it has
pub served-again : (v : RtrProtocolVersion) (end : Table) (second : List Record) (r : Receiver) (out : List ℕ) → r.version ≡ v → 12 ≤ length out
    → Ready LoadKind.Change v end.session second (ask (change_query Stage.idle (served v end second r)) (served v end second r) out).receiver
served-again v end second r out same space =
    subst (λ (x : RtrProtocolVersion). Ready LoadKind.Change x end.session second (ask (change_query Stage.idle (served v end second r)) (served v end second r) out).receiver) same
    (subst (λ (n : ℕ). Ready LoadKind.Change r.version n second (ask (change_query Stage.idle (served v end second r)) (served v end second r) out).receiver) (session-kept v end)
    (change-ask-ready (served v end second r) (sent_as v end) out refl refl refl space))
