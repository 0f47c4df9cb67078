-- `session_numbers` writes each part's numbers. Assumes nothing.
use mathlib.Core.Path.{ap, ◌∙◌}
use mathlib.Core.List.{[], ◌∷◌}
use Rattle.rtr_receiver.specs.declared.Table.{Table}
use Rattle.rtr_numbers.specs.Numbers.{numbers_of}
use Rattle.rtr_numbers.specs.declared.PhaseNumbers.{PhaseNumbers}
use Rattle.rtr_numbers.proofs.session_numbers.Goals as goal

pub returns : goal.returns
unfolding numbers_of
returns c =
    let version = c.to_u8.ensures in
    let phase = ap (λ (p : PhaseNumbers). p.phase) c.phase_numbers-p.ensures in
    let detail = ap (λ (p : PhaseNumbers). p.detail) c.phase_numbers-p.ensures in
    let first = ap (λ (p : PhaseNumbers). p.first) c.phase_numbers-p.ensures in
    let second = ap (λ (p : PhaseNumbers). p.second) c.phase_numbers-p.ensures in
    let third = ap (λ (p : PhaseNumbers). p.third) c.phase_numbers-p.ensures in
    let known = c.table_number.ensures in
    let session = ap (λ (t : Table). t.session) c.table_or-t.ensures in
    let serial = ap (λ (t : Table). t.serial) c.table_or-t.ensures in
    let refresh = ap (λ (t : Table). t.refresh) c.table_or-t.ensures in
    let retry = ap (λ (t : Table). t.retry) c.table_or-t.ensures in
    let expire = ap (λ (t : Table). t.expire) c.table_or-t.ensures in
    let noted = c.note_number.ensures in
    let note-session = c.note_session.ensures in
    let note-serial = c.note_serial.ensures in
    λ i. version i ∷ phase i ∷ detail i ∷ first i ∷ second i ∷ third i ∷ known i ∷ session i ∷ serial i ∷ refresh i ∷ retry i ∷ expire i ∷ noted i ∷ note-session i ∷ note-serial i ∷ c.args.s.live.records ∷ c.args.s.working.records ∷ c.args.s.held ∷ c.args.s.life.limit ∷ 0 ∷ 0 ∷ 0 ∷ 0 ∷ 0 ∷ []
