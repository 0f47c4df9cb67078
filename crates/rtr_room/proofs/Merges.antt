-- What a merge's loop leaves: the front of the room is as it was, and with what stands behind it the rest of the merge comes to the whole. A
-- turn puts the run's last record, and those of the room behind its place, in front of what is done. Assumes nothing.
use Rattle.rtr_room.proofs.Laws.Rooms.{from-drop, flat-records}
use Prim.Native.Nat.{ℕ, zero, suc, ◌+◌, ◌-◌, ◌*◌, ◌≤◌, ◌<◌}
use mathlib.Core.Bool.{and-false}
use mathlib.Core.List.{List, ◌++◌, append_assoc}
use mathlib.Core.Path.{◌≡◌, sym, ap, ◌∙◌}
use native.Mathlib.Omega.{arith}
use borrow.Author.Tests.{le-leb, lt-leb}
use lib.Dec.{leb}
use lib.ListN.{length, take, drop, take-append-drop, length-drop}
use lib.Seq.{length-take-le, take-append-le, take-take, drop_at, take_at, take-add, drop-drop}
use Rattle.rtr_room.specs.Room.{numbers, record_at, limit_of, place, keeps, merge_from, merged, flat, records}
use Rattle.rtr_room.specs.Room.Said.{counted}
use Rattle.rtr_room.specs.declared.Record.{Record}
use Rattle.rtr_room.proofs.Lists.{put-seam}
use Rattle.rtr_room.proofs.Fronts.{part-agrees, front-agrees, place-agrees, record-agrees}

-- the numbers of a record that was read
numbers-at : (s : List ℕ) (i : ℕ) → 6 * i + 6 ≤ length s → numbers (record_at s i) ≡ take 6 (drop (6 * i) s)
unfolding record_at records flat
numbers-at s i h = ap numbers (from-drop s (6 * i)) ∙ flat-records 1 (drop (6 * i) s) (simp length-drop (omega arith))

-- ---- what a turn writes: records that stand so many records further, from a place on, and a record

abbrev pub moved : List ℕ → ℕ → ℕ → ℕ → List ℕ
moved s at end by = take (6 * (at + by)) s ++ (take (6 * end - 6 * at) (drop (6 * at) s) ++ drop (6 * (end + by)) s)

-- six numbers from a place on are a record's
abbrev pub stored : List ℕ → ℕ → Record → List ℕ
stored l p r = take p l ++ (numbers r ++ drop (p + 6) l)

-- a shift by whole records: a store of the record before the border moves the border by one
pub moved_none : (s : List ℕ) (end by : ℕ) → s ≡ moved s end end by
moved_none s end by =
    let none : 0 ≡ 6 * end - 6 * end = omega arith in
    sym (take-append-drop (6 * (end + by)) s)
    ∙ ap (λ (k : ℕ). take (6 * (end + by)) s ++ (take k (drop (6 * end) s) ++ drop (6 * (end + by)) s)) none

-- one record more is a record's numbers and the others
part-more : (s : List ℕ) (m end : ℕ) → m < end → 6 * end ≤ length s
    → take (6 * end - 6 * m) (drop (6 * m) s) ≡ numbers (record_at s m) ++ take (6 * end - 6 * (m + 1)) (drop (6 * (m + 1)) s)
part-more s m end h l =
    let k : 6 * end - 6 * m ≡ 6 + (6 * end - 6 * (m + 1)) = omega arith in
    let n : 6 * m + 6 ≡ 6 * (m + 1) = omega arith in
    ap (λ (x : ℕ). take x (drop (6 * m) s)) k
    ∙ take-add 6 (6 * end - 6 * (m + 1)) (drop (6 * m) s)
    ∙ ap (λ (x : List ℕ). x ++ take (6 * end - 6 * (m + 1)) (drop 6 (drop (6 * m) s))) (sym (numbers-at s m (omega arith)))
    ∙ ap (λ (x : List ℕ). numbers (record_at s m) ++ take (6 * end - 6 * (m + 1)) x) (drop-drop 6 (6 * m) s ∙ ap (λ (x : ℕ). drop x s) n)

module _ (s : List ℕ) (end by : ℕ) (l : 6 * (end + by) ≤ length s) where
  -- what stands before the border is as it was
  pub moved-read : (cur : List ℕ) (at : ℕ) → cur ≡ moved s at end by → at ≤ end → (i : ℕ) → i < at + by → record_at cur i ≡ record_at s i
  moved-read cur at e h i k =
      let n : ℕ = 6 * (at + by) in
      record-agrees cur s (at + by) (ap (take n) e ∙ take_at (take n s) _ n (length-take-le n s (omega arith))) i k

  pub moved_more : (cur out : List ℕ) (at m p : ℕ) (r : Record) → cur ≡ moved s at end by → at ≡ m + 1 → p ≡ 6 * (m + by) → m < end
      → r ≡ record_at s m → out ≡ stored cur p r → out ≡ moved s m end by
  moved_more cur out at m p r e a q h f g =
      let k : 6 * (at + by) ≡ 6 * (m + by) + 6 = omega arith in
      let part : List ℕ = take (6 * end - 6 * (m + 1)) (drop (6 * (m + 1)) s) in
      let behind : List ℕ = drop (6 * (end + by)) s in
      let new : List ℕ = numbers (record_at s m) in
      let c : cur ≡ take (6 * (m + by) + 6) s ++ (part ++ behind) =
      e
      ∙ ap (λ (x : ℕ). take x s ++ (take (6 * end - 6 * at) (drop (6 * at) s) ++ behind)) k
      ∙ ap (λ (x : ℕ). take (6 * (m + by) + 6) s ++ (take (6 * end - 6 * x) (drop (6 * x) s) ++ behind)) a in
      let d : stored cur p r ≡ stored (take (6 * (m + by) + 6) s ++ (part ++ behind)) (6 * (m + by)) (record_at s m) = rw (c, q, f) in
      g
      ∙ d
      ∙ put-seam s new (part ++ behind) (6 * (m + by)) (6 * (m + by) + 6) (omega arith) (omega arith)
      ∙ ap (λ (x : List ℕ). take (6 * (m + by)) s ++ x)
      (sym (append_assoc new part behind) ∙ ap (λ (x : List ℕ). x ++ behind) (sym (part-more s m end h (omega arith))))

-- ---- a merge from the back

merge-more : (s t rest : List ℕ) (end i : ℕ) (r : Record) (at : ℕ) → r ≡ record_at t i → at ≡ place s end r
    → merge_from s at t i (numbers r ++ (take (6 * end - 6 * at) (drop (6 * at) s) ++ rest)) ≡ merge_from s end t (suc i) rest
unfolding merge_from
merge-more s t rest end i r at e f = rw (f, e)

module _ (s cur t : List ℕ) (end : ℕ) (same-front : take (6 * end) cur ≡ take (6 * end) s) where
  pub merge-ends : (j : ℕ) → j ≡ 0 → cur ≡ merge_from s end t j (drop (6 * (end + j)) cur)
  unfolding merge_from
  merge-ends zero e = let k : 6 * (end + 0) ≡ 6 * end = omega arith in rw (k, ← same-front) (sym (take-append-drop (6 * end) cur))
  merge-ends (suc j) e = absurd (omega arith)

  pub merge-turn : (shifted out : List ℕ) (j at : ℕ) (r : Record) → 0 < j → 6 * (end + j) ≤ length cur
      → r ≡ record_at t (j - 1) → at ≡ place cur end r → at ≤ end
      → shifted ≡ moved cur at end (j - 1 + 1) → out ≡ stored shifted (6 * (at + (j - 1))) r
      → (take (6 * at) out ≡ take (6 * at) s) × (merge_from s at t (j - 1) (drop (6 * (at + (j - 1))) out) ≡ merge_from s end t j (drop (6 * (end + j)) cur))
  merge-turn shifted out j at r h l f g k p q =
      let i : ℕ = j - 1 in
      let next : suc i ≡ j = omega arith in
      let one : i + 1 ≡ j = omega arith in
      let six : 6 * (at + j) ≡ 6 * (at + i) + 6 = omega arith in
      let part : List ℕ = take (6 * end - 6 * at) (drop (6 * at) cur) in
      let behind : List ℕ = drop (6 * (end + j)) cur in
      let c : shifted ≡ take (6 * (at + i) + 6) cur ++ (part ++ behind) = p ∙ rw (one, six) in
      let o : out ≡ take (6 * (at + i)) cur ++ (numbers r ++ (part ++ behind)) =
      q ∙ rw c (put-seam cur (numbers r) (part ++ behind) (6 * (at + i)) (6 * (at + i) + 6) (omega arith) (omega arith)) in
      let long : length (take (6 * (at + i)) cur) ≡ 6 * (at + i) = length-take-le (6 * (at + i)) cur (omega arith) in (
        ap (take (6 * at)) o
            ∙ take-append-le (6 * at) (take (6 * (at + i)) cur) _ (omega arith)
            ∙ take-take (6 * at) (6 * (at + i)) cur (omega arith)
            ∙ front-agrees cur s (6 * at) (6 * end) same-front (omega arith),
        ap (merge_from s at t i)
            (ap (drop (6 * (at + i))) o
            ∙ drop_at (take (6 * (at + i)) cur) _ (6 * (at + i)) long
            ∙ ap (λ (x : List ℕ). numbers r ++ (x ++ behind)) (part-agrees cur s (6 * at) (6 * end) same-front (omega arith)))
            ∙ merge-more s t behind end i r at f (g ∙ place-agrees cur s end same-front r)
            ∙ ap (λ (m : ℕ). merge_from s end t m behind) next,
      )

module _ (s : List ℕ) (count : ℕ) (t : List ℕ) (n : ℕ) where
  pub too-many-in : limit_of s < count → keeps 22 s ≡ merged s count t n
  unfolding merged
  too-many-in h = rw (lt-leb count (limit_of s) h)

  pub too-many-more : limit_of t < n → keeps 22 s ≡ merged s count t n
  unfolding merged
  too-many-more h = rw (lt-leb n (limit_of t) h, and-false (leb count (limit_of s)))

  pub too-many-both : limit_of s - count < n → keeps 22 s ≡ merged s count t n
  unfolding merged
  too-many-both h = rw (lt-leb n (limit_of s - count) h, and-false (leb n (limit_of t)), and-false (leb count (limit_of s)))

  pub all-merged : count ≤ limit_of s → n ≤ limit_of t → n ≤ limit_of s - count → (out : List ℕ)
      → out ≡ merge_from s count t n (drop (6 * (count + n)) s) → record { says = counted (count + n); left = out } ≡ merged s count t n
  unfolding merged
  all-merged h k l out e = rw (le-leb count (limit_of s) h, le-leb n (limit_of t) k, le-leb n (limit_of s - count) l, e)

-- the ways out of `merge` before its loop
pub ruleset merge_refusals = (too-many-in, too-many-more, too-many-both)
