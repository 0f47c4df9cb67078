-- The place of a record, case by case, as the tests of `look_up` find them: no record, behind the last, at the last, or by halving those before
-- it. Assumes nothing.
use Prim.Native.Nat.{ℕ, zero, suc, ◌-◌, ◌≤◌, ◌<◌}
use mathlib.Core.Bool.{true, false, cond}
use mathlib.Core.List.{List}
use mathlib.Core.Path.{◌≡◌, refl}
use native.Mathlib.Omega.{arith}
use Rattle.rtr_room.specs.Table.{before, same}
use Rattle.rtr_room.specs.Room.{record_at, bisect, place}
use Rattle.rtr_room.specs.declared.Record.{Record}
use Rattle.rtr_room.proofs.Halving.{either, bisect-le}

module _ (s : List ℕ) (r : Record) where
  pub nowhere : (count : ℕ) → count ≡ 0 → place s count r ≡ 0
  unfolding place
  nowhere zero e = refl
  nowhere (suc last) e = absurd (omega arith)

  pub behind : (count : ℕ) → 0 < count → before (record_at s (count - 1)) r ≡ true → place s count r ≡ count
  unfolding place
  behind zero p e = absurd (omega arith)
  behind (suc last) p e = let n : suc last - 1 ≡ last = omega arith in rw (rw n at e)

  pub at_last : (count : ℕ) → 0 < count → before (record_at s (count - 1)) r ≡ false → same (record_at s (count - 1)) r ≡ true → place s count r ≡ count - 1
  unfolding place
  at_last zero p e f = absurd (omega arith)
  at_last (suc last) p e f = let n : suc last - 1 ≡ last = omega arith in rw (n, rw n at e, rw n at f)

  pub among : (count : ℕ) → 0 < count → before (record_at s (count - 1)) r ≡ false → same (record_at s (count - 1)) r ≡ false → place s count r ≡ bisect (count - 1) s r 0 (count - 1)
  unfolding place
  among zero p e f = absurd (omega arith)
  among (suc last) p e f = let n : suc last - 1 ≡ last = omega arith in rw (n, rw n at e, rw n at f)

  pub place-le : (count : ℕ) → place s count r ≤ count
  unfolding place
  place-le zero = omega arith
  place-le (suc last) =
      either (before (record_at s last) r) (suc last) (cond (same (record_at s last) r) last (bisect last s r 0 last)) (suc last) (omega arith)
      (either (same (record_at s last) r) last (bisect last s r 0 last) (suc last) (omega arith) (omega (arith, bisect-le s r last 0 last (omega arith))))

-- what the goals of `place_in` are proved by
pub ruleset place_tests = (nowhere, behind, at_last, among)
