-- The laws of a run read by place, over every `Reading`: it ends at its end, a refusal does not move it, and a PDU moves it on within the run.
-- Assumes nothing.
use Prim.Native.Nat.{ℕ, ◌+◌, ◌≤◌}
use mathlib.Core.List.{List, [], ◌∷◌}
use mathlib.Core.Path.{◌≡◌, ap}
use native.Mathlib.Omega.{arith}
use lib.ListN.{length, drop, length-drop, drop_of_length-le}
use Rattle.rtr_models.specs.declared.RtrPdu.{RtrPdu}
use Rattle.rtr_codec.specs.Reading.{Reading}
use Rattle.rtr_codec.specs.Read.{Verdict, read}
use Rattle.rtr_codec.specs.Read.Verdict.{accepted, refused}
use Rattle.rtr_codec.specs.Run.{read_at, place_after}
use Rattle.rtr_codec.proofs.Laws.{read-consumes}

-- at or past the end: 1 (0, 8), and the place stays
pub run_ends : (R : Reading) (s : List ℕ) (at : ℕ) → length s ≤ at → read_at R s at ≡ record { answer = refused 1 (0 ∷ 8 ∷ []); next = at }
unfolding read_at read
run_ends R s at h = simp (drop_of_length-le s {i = at} h)

-- a refusal leaves the place
pub refused-unmoved : (R : Reading) (s : List ℕ) (at k : ℕ) (values : List ℕ) → (read_at R s at).answer ≡ refused k values → (read_at R s at).next ≡ at
unfolding read_at
refused-unmoved R s at k values e = ap (place_after at) e

-- a PDU moves the place by its length, 8 or more, and not past the end
pub accepted-moves : (R : Reading) (s : List ℕ) (at : ℕ) (pdu : RtrPdu) (n : ℕ) → at ≤ length s → (read_at R s at).answer ≡ accepted pdu n
    → ((read_at R s at).next ≡ at + n) × (8 ≤ n) × (at + n ≤ length s)
unfolding read_at
accepted-moves R s at pdu n h e =
    let c = read-consumes R (drop at s) pdu n e in
    (ap (place_after at) e, c.1, omega (arith, c.2, length-drop at s))

-- what is read from a place on is what reading at the place gives, and the next place is behind it
pub accepted-at : (R : Reading) (s : List ℕ) (at : ℕ) (pdu : RtrPdu) (n : ℕ) → read R (drop at s) ≡ accepted pdu n → read_at R s at ≡ record { answer = accepted pdu n; next = at + n }
unfolding read_at
accepted-at R s at pdu n e = ap (λ (v : Verdict). record { answer = v; next = place_after at v }) e
