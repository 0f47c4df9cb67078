-- A search's end, told from what the code's answer says: one for each answer. Assumes nothing.
use Prim.Native.Nat.{ℕ}
use mathlib.Core.List.{List}
use mathlib.Core.Path.{◌≡◌, refl}
use native.Mathlib.Omega.{arith}
use Rattle.rtr_models.specs.declared.RtrPdu.{RtrPdu}
use Rattle.rtr_stream.specs.Search.{End, Says, says_of}
use Rattle.rtr_stream.specs.declared.Lies.{Lies}

pub more-told : (held at : ℕ) (e : End) → Says.wants_more ≡ says_of held at e → e ≡ End.more
more-told held at End.more q = refl
more-told held at (End.found pdu bytes) q = absurd (let z : ◌≡◌ {A = ℕ} 0 1 = cc in omega arith)
more-told held at (End.stop k x) q = absurd (let z : ◌≡◌ {A = ℕ} 0 1 = cc in omega arith)

pub stop-told : (held at k : ℕ) (x : List ℕ) (e : End) → Says.stops k x ≡ says_of held at e → e ≡ End.stop k x
stop-told held at k x End.more q = absurd (let z : ◌≡◌ {A = ℕ} 0 1 = cc in omega arith)
stop-told held at k x (End.found pdu bytes) q = absurd (let z : ◌≡◌ {A = ℕ} 0 1 = cc in omega arith)
stop-told held at k x (End.stop k' x') q = let p : k ≡ k' = cc in let r : x ≡ x' = cc in cc

pub pdu-told : (held at : ℕ) (pdu : RtrPdu) (lies : Lies) (bytes : List ℕ) (e : End) → Says.pdu_at pdu lies bytes ≡ says_of held at e → e ≡ End.found pdu bytes
pdu-told held at pdu lies bytes End.more q = absurd (let z : ◌≡◌ {A = ℕ} 0 1 = cc in omega arith)
pdu-told held at pdu lies bytes (End.found pdu' bytes') q = let p : pdu ≡ pdu' = cc in let r : bytes ≡ bytes' = cc in cc
pdu-told held at pdu lies bytes (End.stop k x) q = absurd (let z : ◌≡◌ {A = ℕ} 0 1 = cc in omega arith)

-- a search that was made never answers 22
pub never-told : (held at : ℕ) (hold : List ℕ) (e : End) → Says.refused_call 22 hold ≡ says_of held at e → ⊥
never-told held at hold End.more q = let z : ◌≡◌ {A = ℕ} 0 1 = cc in omega arith
never-told held at hold (End.found pdu bytes) q = let z : ◌≡◌ {A = ℕ} 0 1 = cc in omega arith
never-told held at hold (End.stop k x) q = let z : ◌≡◌ {A = ℕ} 0 1 = cc in omega arith
