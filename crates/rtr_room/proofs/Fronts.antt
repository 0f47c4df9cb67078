-- What is read of the first so many records depends on their numbers alone: the records, and a place among them. Numbers that agree in front
-- agree in each part of the front. Assumes nothing.
use Prim.Native.Nat.{ℕ, zero, suc, ◌+◌, ◌-◌, ◌*◌, ◌≤◌, ◌<◌}
use mathlib.Core.Bool.{Bool, true, false}
use mathlib.Core.List.{List, [], ◌∷◌}
use mathlib.Core.Path.{◌≡◌, refl, sym, ap, ◌∙◌}
use native.Mathlib.Omega.{arith}
use borrow.Author.Tests.{ltb-true, ltb-false}
use lib.Dec.{ltb}
use lib.ListN.{take, drop, get_or}
use lib.Seq.{get_or-take, take-take, take-nil}
use Rattle.rtr_room.specs.Room.{record_at, bisect, place}
use Rattle.rtr_room.specs.declared.Record.{Record}
use Rattle.rtr_room.proofs.Laws.Records.{record_is}
use Rattle.rtr_room.proofs.Halving.{mid, met, halved, no_fuel}

-- a part of the front, cut from the list or from its front
part_of : (m k : ℕ) (l : List ℕ) → take k (drop m l) ≡ drop m (take (m + k) l)
part_of zero k l = let none : k ≡ 0 + k = omega arith in ap (λ (n : ℕ). take n l) none
part_of (suc m) k [] = take-nil k ∙ sym (ap (drop (suc m)) (take-nil (suc m + k)))
part_of (suc m) k (x ∷ l) = let more : suc m + k ≡ suc (m + k) = omega arith in rw more (part_of m k l)

module _ (s t : List ℕ) where
  pub part-agrees : (m n : ℕ) → take n s ≡ take n t → m ≤ n → take (n - m) (drop m s) ≡ take (n - m) (drop m t)
  part-agrees m n e h =
      let k : m + (n - m) ≡ n = omega arith in
      part_of m (n - m) s ∙ ap (drop m) (rw k e) ∙ sym (part_of m (n - m) t)

  pub front-agrees : (m n : ℕ) → take n s ≡ take n t → m ≤ n → take m s ≡ take m t
  front-agrees m n e h = sym (take-take m n s h) ∙ ap (take m) e ∙ take-take m n t h

  number-agrees : (n m : ℕ) → take n s ≡ take n t → m < n → get_or s m 0 ≡ get_or t m 0
  number-agrees n m e h = sym (get_or-take n s m 0 h) ∙ ap (λ (l : List ℕ). get_or l m 0) e ∙ get_or-take n t m 0 h

  module _ (n : ℕ) (e : take (6 * n) s ≡ take (6 * n) t) where
    pub record-agrees : (i : ℕ) → i < n → record_at s i ≡ record_at t i
    unfolding record_at
    record-agrees i h =
        let at : (k : ℕ) → k < 6 * n → get_or s k 0 ≡ get_or t k 0 = λ k l. number-agrees (6 * n) k e l in
        record_is _ _
        (at (6 * i) (omega arith))
        (at (6 * i + 1) (omega arith))
        (at (6 * i + 2) (omega arith))
        (at (6 * i + 3) (omega arith))
        (at (6 * i + 4) (omega arith))
        (at (6 * i + 5) (omega arith))

    bisect-agrees : (r : Record) (fuel lo hi : ℕ) → hi ≤ n → bisect fuel s r lo hi ≡ bisect fuel t r lo hi
    bisect-agrees r zero lo hi h = no_fuel s r lo hi ∙ sym (no_fuel t r lo hi)
    bisect-agrees r (suc fuel) lo hi h = go (ltb lo hi) refl (λ l k. bisect-agrees r fuel l k)
      where
        go : (b : Bool) → ltb lo hi ≡ b → ((l k : ℕ) → k ≤ n → bisect fuel s r l k ≡ bisect fuel t r l k)
            → bisect (suc fuel) s r lo hi ≡ bisect (suc fuel) t r lo hi
        go false q less =
            let k = ltb-false lo hi q in
            met s r (suc fuel) lo hi k ∙ sym (met t r (suc fuel) lo hi k)
        go true q less =
            let k = ltb-true lo hi q in
            rw (halved s r fuel lo hi k, halved t r fuel lo hi k)
            (rw (record-agrees (mid lo hi) (omega arith), less (mid lo hi + 1) hi h, less lo (mid lo hi) (omega arith)))

    pub place-agrees : (r : Record) → place s n r ≡ place t n r
    unfolding place
    place-agrees r = go n refl
      where
        go : (m : ℕ) → m ≡ n → place s m r ≡ place t m r
        go zero q = refl
        go (suc last) q = rw (record-agrees last (omega arith), bisect-agrees r last 0 last (omega arith))
