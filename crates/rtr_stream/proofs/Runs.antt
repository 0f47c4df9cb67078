-- A run of bytes at once is its bytes one by one. What waits has waited all along (`waiting-front`), so a run after which the bytes in hand wait
-- is passed over whole (`passes`), a run that is all there is is held (`runs-out`), and where one byte more is looked at, only what it
-- completes is judged (`arrives`). Assumes nothing.
use Prim.Native.Nat.{ℕ, zero, suc, ◌+◌, ◌-◌, ◌≤◌, ◌<◌}
use mathlib.Core.List.{List, [], ◌∷◌, ◌++◌, append_assoc, append-nil}
use mathlib.Core.Logic.{◌⊎◌, inl, inr}
use mathlib.Core.Path.{◌≡◌, sym, ap, ◌∙◌, subst}
use native.Mathlib.Nat.{add-zero}
use native.Mathlib.Omega.{arith}
use lib.ListN.{length, get_or, take, drop, length-append, take-append-drop}
use lib.Seq.{length-take-le, take-suc, drop-cons}
use Rattle.rtr_codec.specs.Reading.{Reading}
use Rattle.rtr_codec.specs.Read.{header_length}
use Rattle.rtr_codec.proofs.Laws.{header-stays}
use Rattle.rtr_stream.specs.Stream.{judge}
use Rattle.rtr_stream.specs.Search.{over, search_from}
use Rattle.rtr_stream.specs.Search.End.{more}
use Rattle.rtr_stream.proofs.Judge.{InRange, Waiting, few-or-many, waiting-waits}
use Rattle.rtr_stream.proofs.Judge.Waiting.{short, cut}

-- the front of what waits waits
pub waiting-front : {H : ℕ} (s u : List ℕ) → Waiting H (s ++ u) → Waiting H s
waiting-front s u (short h) = short (omega (arith, length-append s u))
waiting-front {H} s u (cut h i e) = go (few-or-many s)
  where
    go : (length s < 8) ⊎ (8 ≤ length s) → Waiting H s
    go (inl l) = short l
    go (inr l) =
        let same : header_length (s ++ u) ≡ header_length s = header-stays s u l in
        cut l (subst (InRange H) same i) (omega (arith, length-append s u))

-- bytes with a header in range wait as long as there are fewer than it names
pub waiting-of-header : {H : ℕ} (p : List ℕ) (k : ℕ) → 8 ≤ length p → InRange H (header_length p) → k ≤ length p → k < header_length p → Waiting H (take k p)
waiting-of-header {H} p k h i l e = go (few-or-many (take k p))
  where
    go : (length (take k p) < 8) ⊎ (8 ≤ length (take k p)) → Waiting H (take k p)
    go (inl m) = short m
    go (inr m) =
        let same : header_length p ≡ header_length (take k p) = ap header_length (sym (take-append-drop k p)) ∙ header-stays (take k p) (drop k p) m in
        cut m (subst (InRange H) same i) (omega (arith, length-take-le k p l))

module _ (R : Reading) (H : ℕ) where
  pub passes : (u : List ℕ) (at : ℕ) (s rest : List ℕ) → Waiting H (s ++ u) → search_from R H at s (u ++ rest) ≡ search_from R H (at + length u) (s ++ u) rest
  unfolding search_from
  passes [] at s rest w = simp (add-zero, append-nil)
  passes (b ∷ u) at s rest w =
      let w' : Waiting H ((s ++ b ∷ []) ++ u) = rw append_assoc w in
      let place : at + 1 + length u ≡ at + suc (length u) = omega arith in
      ap (λ h. over (at + 1) (s ++ b ∷ []) h (search_from R H (at + 1) (s ++ b ∷ []) (u ++ rest))) (waiting-waits R (waiting-front (s ++ b ∷ []) u w'))
      ∙ passes u (at + 1) (s ++ b ∷ []) rest w'
      ∙ ap (λ (x : List ℕ). search_from R H (at + 1 + length u) x rest) (append_assoc s (b ∷ []) u)
      ∙ ap (λ (n : ℕ). search_from R H n (s ++ b ∷ u) rest) place

  pub runs-out : (p : List ℕ) (at : ℕ) (s : List ℕ) → Waiting H (s ++ p) → search_from R H at s p ≡ record { end = more; next = at + length p; held = s ++ p }
  unfolding search_from
  runs-out p at s w = ap (search_from R H at s) (sym (append-nil p)) ∙ passes p at s [] w

  -- k bytes that leave it waiting, and one more
  pub arrives
      : (k : ℕ) (p : List ℕ) (at : ℕ) (s : List ℕ) →
      k < length p →
      Waiting H (s ++ take k p) →
      search_from R H at s p
      ≡ over (at + suc k) (s ++ take (suc k) p) (judge R H (s ++ take (suc k) p)) (search_from R H (at + suc k) (s ++ take (suc k) p) (drop (suc k) p))
  unfolding search_from
  arrives k p at s h w =
      let front : List ℕ = take k p in
      let long : length front ≡ k = length-take-le k p (omega arith) in
      let place : at + length front + 1 ≡ at + suc k = omega arith in
      let joined : (s ++ front) ++ get_or p k 0 ∷ [] ≡ s ++ take (suc k) p =
      append_assoc s front (get_or p k 0 ∷ []) ∙ ap (λ (x : List ℕ). s ++ x) (sym (take-suc p k 0 h)) in
      ap (search_from R H at s) (sym (take-append-drop k p))
      ∙ passes front at s (drop k p) w
      ∙ ap (search_from R H (at + length front) (s ++ front)) (drop-cons p k 0 h)
      ∙ ap
      (λ (x : List ℕ). over (at + length front + 1) x (judge R H x) (search_from R H (at + length front + 1) x (drop (suc k) p)))
      joined
      ∙ ap
      (λ (n : ℕ). over n (s ++ take (suc k) p) (judge R H (s ++ take (suc k) p)) (search_from R H n (s ++ take (suc k) p) (drop (suc k) p)))
      place

  -- the same by the count of bytes
  pub arrives_at
      : (n : ℕ) (p : List ℕ) (at : ℕ) (s : List ℕ) →
      0 < n →
      n ≤ length p →
      Waiting H (s ++ take (n - 1) p) →
      search_from R H at s p ≡ over (at + n) (s ++ take n p) (judge R H (s ++ take n p)) (search_from R H (at + n) (s ++ take n p) (drop n p))
  arrives_at zero p at s z h w = absurd (omega arith)
  arrives_at (suc k) p at s z h w =
      let less : suc k - 1 ≡ k = omega arith in
      arrives k p at s h (subst (λ (m : ℕ). Waiting H (s ++ take m p)) less w)
