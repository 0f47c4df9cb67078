-- A run of PDUs read by place: document 01, "Stream and receiver" (the run reader).
use Rattle.std.specs.Prelude.{ℕ, ◌+◌, List, drop}
use Rattle.rtr_codec.specs.Reading.{Reading}
use Rattle.rtr_codec.specs.Read.{Verdict, read}
use Rattle.rtr_codec.specs.Read.Verdict.{accepted, refused}
use Rattle.rtr_codec.specs.Answers.{verdict}
use Rattle.rtr_codec.specs.declared.RunRead.{RunRead}

-- what reading at a place gives, and the place to go on from
pub record Step : Type 0 where
  pub answer : Verdict
  pub next : ℕ

-- past the PDU, or unmoved where it is refused
abbrev pub place_after : ℕ → Verdict → ℕ
place_after at (accepted pdu consumed) = at + consumed
place_after at (refused number values) = at

-- the slice from the place on is read; at or past the end nothing is left, which is 1 (0, 8)
unfoldable pub read_at : Reading → List ℕ → ℕ → Step
read_at R s at = record { answer = read R (drop at s); next = place_after at (read R (drop at s)) }

-- what the code's answer says
abbrev pub run_said : RunRead → Step
run_said r = record { answer = verdict r.answer; next = r.next }
