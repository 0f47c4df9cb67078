-- Halving, turn by turn: it ends where the ends meet, and a turn goes on in the half that the record in the middle decides. Each turn leaves
-- a smaller distance, so fuel of the distance is enough, and any more is as good. Assumes nothing.
use Prim.Native.Nat.{ℕ, zero, suc, ◌+◌, ◌-◌, ◌/◌, ◌≤◌, ◌<◌}
use mathlib.Core.Bool.{Bool, true, false, cond}
use mathlib.Core.List.{List}
use mathlib.Core.Path.{◌≡◌, refl, sym, ap, ◌∙◌}
use native.Mathlib.Omega.{arith}
use lib.Dec.{ltb}
use borrow.Author.Tests.{lt-ltb, le-ltb, ltb-true, ltb-false}
use Rattle.rtr_room.specs.Table.{before}
use Rattle.rtr_room.specs.Room.{record_at, bisect}
use Rattle.rtr_room.specs.declared.Record.{Record}

-- the middle, as the code computes it
abbrev pub mid : ℕ → ℕ → ℕ
mid lo hi = lo + (hi - lo) / 2

-- the one or the other is at most what both are
pub either : (b : Bool) (x y n : ℕ) → x ≤ n → y ≤ n → cond b x y ≤ n
either true x y n p q = p
either false x y n p q = q

module _ (s : List ℕ) (r : Record) where
  pub met : (fuel lo hi : ℕ) → hi ≤ lo → bisect fuel s r lo hi ≡ lo
  unfolding bisect
  met zero lo hi h = refl
  met (suc fuel) lo hi h = rw (le-ltb lo hi h)

  pub halved : (fuel lo hi : ℕ) → lo < hi
      → bisect (suc fuel) s r lo hi ≡ cond (before (record_at s (mid lo hi)) r) (bisect fuel s r (mid lo hi + 1) hi) (bisect fuel s r lo (mid lo hi))
  unfolding bisect
  halved fuel lo hi h = rw (lt-ltb lo hi h)

  -- fuel that is enough is as good as any
  enough : (f g lo hi : ℕ) → hi ≤ lo + f → hi ≤ lo + g → bisect f s r lo hi ≡ bisect g s r lo hi
  enough zero g lo hi p q = met zero lo hi (omega arith) ∙ sym (met g lo hi (omega arith))
  enough (suc f) zero lo hi p q = met (suc f) lo hi (omega arith) ∙ sym (met zero lo hi (omega arith))
  enough (suc f) (suc g) lo hi p q = go (ltb lo hi) refl (λ l h. enough f g l h)
    where
      go : (b : Bool) → ltb lo hi ≡ b → ((l h : ℕ) → h ≤ l + f → h ≤ l + g → bisect f s r l h ≡ bisect g s r l h)
          → bisect (suc f) s r lo hi ≡ bisect (suc g) s r lo hi
      go false e less =
          let h = ltb-false lo hi e in
          met (suc f) lo hi h ∙ sym (met (suc g) lo hi h)
      go true e less =
          let h = ltb-true lo hi e in
          halved f lo hi h
          ∙ ap (λ (x : ℕ). cond (before (record_at s (mid lo hi)) r) x (bisect f s r lo (mid lo hi)))
          (less (mid lo hi + 1) hi (omega arith) (omega arith))
          ∙ ap (λ (x : ℕ). cond (before (record_at s (mid lo hi)) r) (bisect g s r (mid lo hi + 1) hi) x)
          (less lo (mid lo hi) (omega arith) (omega arith))
          ∙ sym (halved g lo hi h)

  -- a turn, as the code makes it: with the same fuel before and after
  turn : (fuel lo hi : ℕ) → lo < hi → hi ≤ lo + fuel → (b : Bool) → before (record_at s (mid lo hi)) r ≡ b
      → cond b (bisect fuel s r (mid lo hi + 1) hi) (bisect fuel s r lo (mid lo hi)) ≡ bisect fuel s r lo hi
  turn fuel lo hi h k b e =
      sym (enough fuel (suc fuel) lo hi k (omega arith)
      ∙ halved fuel lo hi h
      ∙ ap (λ (c : Bool). cond c (bisect fuel s r (mid lo hi + 1) hi) (bisect fuel s r lo (mid lo hi))) e)

  pub goes_up : (fuel lo hi : ℕ) → lo < hi → hi ≤ lo + fuel → before (record_at s (mid lo hi)) r ≡ true
      → bisect fuel s r (mid lo hi + 1) hi ≡ bisect fuel s r lo hi
  goes_up fuel lo hi h k e = turn fuel lo hi h k true e

  pub goes_down : (fuel lo hi : ℕ) → lo < hi → hi ≤ lo + fuel → before (record_at s (mid lo hi)) r ≡ false
      → bisect fuel s r lo (mid lo hi) ≡ bisect fuel s r lo hi
  goes_down fuel lo hi h k e = turn fuel lo hi h k false e

  pub no_fuel : (lo hi : ℕ) → bisect 0 s r lo hi ≡ lo
  unfolding bisect
  no_fuel lo hi = refl

  -- a place is not behind the end
  pub bisect-le : (fuel lo hi : ℕ) → lo ≤ hi → bisect fuel s r lo hi ≤ hi
  bisect-le zero lo hi h = omega (arith, no_fuel lo hi)
  bisect-le (suc fuel) lo hi h = go (ltb lo hi) refl (λ l k. bisect-le fuel l k)
    where
      go : (b : Bool) → ltb lo hi ≡ b → ((l k : ℕ) → l ≤ k → bisect fuel s r l k ≤ k) → bisect (suc fuel) s r lo hi ≤ hi
      go false e less = omega (arith, met (suc fuel) lo hi (ltb-false lo hi e))
      go true e less =
          let k = ltb-true lo hi e in
          rw (halved fuel lo hi k)
          (either (before (record_at s (mid lo hi)) r) (bisect fuel s r (mid lo hi + 1) hi) (bisect fuel s r lo (mid lo hi)) hi (less (mid lo hi + 1) hi (omega arith))
          (omega (arith, less lo (mid lo hi) (omega arith))))

-- what the goals of `place_among` are proved by
pub ruleset halving_turns = (met, goes_up, goes_down)
