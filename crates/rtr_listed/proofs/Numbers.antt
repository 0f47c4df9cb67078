-- Numbers as a line says them: the digits, no leading zero and at most ten of them decide (`decimal-exactly` of rtr_listing), and one test more narrows what is allowed. Assumes nothing.
use Prim.Native.Nat.{ℕ, ◌≤◌, ◌<◌}
use mathlib.Core.Bool.{Bool, true, false, not, ◌&&◌, ◌||◌}
use mathlib.Core.List.{List, [], ◌∷◌}
use mathlib.Core.Path.{◌≡◌, refl, sym, ap, ◌∙◌}
use native.Mathlib.Omega.{arith}
use borrow.Author.Tests.{leb-true, le-leb, lt-leb, eq-eqb, eqb-true}
use lib.Dec.{leb, eqb}
use lib.ListN.{length, get_or}
use Rattle.rtr_room.proofs.Laws.Tests.{first_of, second-of, both, unless, not-both}
use Rattle.rtr_listing.specs.Listing.{decimal, digits}
use Rattle.rtr_listing.specs.Digits.{are_decimal, has_no_lead, value_of}
use Rattle.rtr_listing.proofs.Laws.{decimal-exactly, places-exactly}
use Rattle.rtr_listed.specs.Listed.{Fit, fitting, same_text, number_in, count_widths, in_width, count_in, may_stop}
use Rattle.rtr_listed.specs.Listed.Fit.{fits, misfits}
use Rattle.rtr_listed.proofs.Texts.{same-equal, equal-same}

-- ---- a test decides whether it fits

pub fitting-fits : {A : Type 0} (b : Bool) (v n : A) → fitting b v ≡ fits n → (b ≡ true) × (v ≡ n)
fitting-fits {A} true v n e = (refl, ap unfit e)
  where
    unfit : Fit A → A
    unfit (fits a) = a
    unfit misfits = v
fitting-fits false v n e = let z : ◌≡◌ {A = ℕ} 0 1 = cc in absurd (omega arith)

pub fitting-misfits : {A : Type 0} (b : Bool) (v : A) → fitting b v ≡ misfits → b ≡ false
fitting-misfits true v e = let z : ◌≡◌ {A = ℕ} 0 1 = cc in absurd (omega arith)
fitting-misfits false v e = refl

and-false : (b c : Bool) → c ≡ false → b && c ≡ false
and-false true c e = e
and-false false c e = refl

or-none : (b : Bool) → b || false ≡ true → b ≡ true
or-none true e = e
or-none false e = e

-- ---- numbers

pub number_fits : (allowed : ℕ → Bool) (s : List ℕ) (n : ℕ) → number_in allowed s ≡ fits n → (same_text s (decimal (value_of s 0)) ≡ true) × (allowed n ≡ true) × (value_of s 0 ≡ n)
unfolding number_in
number_fits allowed s n e =
    let f = fitting-fits (same_text s (decimal (value_of s 0)) && allowed (value_of s 0)) (value_of s 0) n e in
    (first_of _ (allowed (value_of s 0)) f.0, ap allowed (sym f.1) ∙ second-of (same_text s (decimal (value_of s 0))) _ f.0, f.1)

-- another test of the same number
pub number_by : (allowed q : ℕ → Bool) (s : List ℕ) (n : ℕ) → number_in allowed s ≡ fits n → number_in q s ≡ fitting (q n) n
unfolding number_in
number_by allowed q s n e =
    let f = number_fits allowed s n e in
    (λ i. fitting (f.0 i && q (value_of s 0)) (value_of s 0)) ∙ ap (λ (k : ℕ). fitting (q k) k) f.2

pub number-none : (allowed q : ℕ → Bool) (s : List ℕ) → number_in allowed s ≡ misfits → ((n : ℕ) → q n ≡ true → allowed n ≡ true) → number_in q s ≡ misfits
unfolding number_in
number-none allowed q s e within =
    let v : ℕ = value_of s 0 in
    let no : (same_text s (decimal v) && allowed v) ≡ false = fitting-misfits (same_text s (decimal v) && allowed v) v e in
    ap (λ (b : Bool). fitting b v) (unless (same_text s (decimal v) && q v) (λ h.
    not-both _ (both (same_text s (decimal v)) _ (first_of _ (q v) h) (within v (second-of (same_text s (decimal v)) _ h))) no))

-- by the digits
pub number-not : (most : ℕ) (s : List ℕ) → most ≤ 4294967295 → (are_decimal s ≡ true → has_no_lead s ≡ true → length s ≤ 10 → ⊥) → number_in (λ n. leb n most) s ≡ misfits
unfolding number_in
number-not most s h none =
    let v : ℕ = value_of s 0 in
    ap (λ (b : Bool). fitting b v) (unless (same_text s (decimal v) && leb v most) (λ e.
    let low : v ≤ most = leb-true v most (second-of (same_text s (decimal v)) _ e) in
    let shape = (decimal-exactly s (omega arith)).0 (same-equal s (decimal v) (first_of _ (leb v most) e)) in
    none shape.0 shape.1 shape.2))

pub number-yes : (most : ℕ) (s : List ℕ) → most ≤ 4294967295 → are_decimal s ≡ true → has_no_lead s ≡ true → length s ≤ 10 → value_of s 0 ≤ most → number_in (λ n. leb n most) s ≡ fits (value_of s 0)
unfolding number_in
number-yes most s h d lead few low =
    let same : same_text s (decimal (value_of s 0)) ≡ true = equal-same s (decimal (value_of s 0)) ((decimal-exactly s (omega arith)).1 (d, lead, few)) in
    λ i. fitting (same i && le-leb (value_of s 0) most low i) (value_of s 0)

pub number-over : (most : ℕ) (s : List ℕ) → most < value_of s 0 → number_in (λ n. leb n most) s ≡ misfits
unfolding number_in
number-over most s h = ap (λ (b : Bool). fitting b (value_of s 0)) (and-false (same_text s (decimal (value_of s 0))) _ (lt-leb (value_of s 0) most h))

pub lead-none : (s : List ℕ) → length s ≡ 0 → has_no_lead s ≡ false
lead-none [] h = refl
lead-none (c ∷ s) h = absurd (omega arith)

pub lead-one : (s : List ℕ) → length s ≡ 1 → has_no_lead s ≡ true
lead-one [] h = absurd (omega arith)
lead-one (c ∷ []) h = refl
lead-one (c ∷ (x ∷ s)) h = absurd (omega arith)

pub lead-more : (s : List ℕ) → 2 ≤ length s → has_no_lead s ≡ not (eqb (get_or s 0 0) 48)
lead-more [] h = absurd (omega arith)
lead-more (c ∷ []) h = absurd (omega arith)
lead-more (c ∷ (x ∷ s)) h = refl

-- ---- counts

pub count_yes : (limit : ℕ) (s : List ℕ) → length s ≡ 4 → are_decimal s ≡ true → value_of s 0 ≤ 1024 → value_of s 0 ≤ limit → count_in count_widths limit s ≡ fits (value_of s 0)
unfolding count_in in_width
count_yes limit s four d low within =
    let same = equal-same s (digits 10 (length s) (value_of s 0)) ((places-exactly s).1 d) in
    simp (same, eq-eqb (length s) 4 four, le-leb (value_of s 0) 1024 low, le-leb (value_of s 0) limit within)

pub count_fits : (limit : ℕ) (s : List ℕ) (n : ℕ) → count_in count_widths limit s ≡ fits n → (s ≡ digits 10 4 n) × (n ≤ 1024) × (n ≤ limit)
unfolding count_in in_width
count_fits limit s n e =
    let v : ℕ = value_of s 0 in
    let same : Bool = same_text s (digits 10 (length s) v) in
    let wide : Bool = (eqb (length s) 4 && leb v 1024) || false in
    let f = fitting-fits (same && (wide && leb v limit)) v n e in
    let rest : wide && leb v limit ≡ true = second-of same _ f.0 in
    let width : eqb (length s) 4 && leb v 1024 ≡ true = or-none _ (first_of wide (leb v limit) rest) in
    let four : length s ≡ 4 = eqb-true (length s) 4 (first_of (eqb (length s) 4) _ width) in
    let low : v ≤ 1024 = leb-true v 1024 (second-of (eqb (length s) 4) _ width) in
    let within : v ≤ limit = leb-true v limit (second-of wide _ rest) in
    (same-equal s (digits 10 (length s) v) (first_of same _ f.0) ∙ (λ i. digits 10 (four i) (f.1 i)), omega (arith, f.1), omega (arith, f.1))

pub count-not : (limit : ℕ) (s : List ℕ) → (length s ≡ 4 → are_decimal s ≡ true → value_of s 0 ≤ 1024 → value_of s 0 ≤ limit → ⊥) → count_in count_widths limit s ≡ misfits
unfolding count_in in_width
count-not limit s none =
    let v : ℕ = value_of s 0 in
    let same : Bool = same_text s (digits 10 (length s) v) in
    let wide : Bool = (eqb (length s) 4 && leb v 1024) || false in
    ap (λ (b : Bool). fitting b v) (unless (same && (wide && leb v limit)) (λ e.
    let rest : wide && leb v limit ≡ true = second-of same _ e in
    let width : eqb (length s) 4 && leb v 1024 ≡ true = or-none _ (first_of wide (leb v limit) rest) in
    none (eqb-true (length s) 4 (first_of (eqb (length s) 4) _ width))
    ((places-exactly s).0 (same-equal s (digits 10 (length s) v) (first_of same _ e)))
    (leb-true v 1024 (second-of (eqb (length s) 4) _ width))
    (leb-true v limit (second-of wide _ rest))))

-- ---- what may stand in a line is within what was read

pub stop-low : (n : ℕ) → may_stop n ≡ true → leb n 19 ≡ true
stop-low n h = go (eqb n 0) refl (leb 2 n && leb n 8) refl h
  where
    go : (a : Bool) → eqb n 0 ≡ a → (b : Bool) → leb 2 n && leb n 8 ≡ b → (a || (b || (leb 12 n && leb n 19))) ≡ true → leb n 19 ≡ true
    go true e b f k = le-leb n 19 (omega (arith, eqb-true n 0 e))
    go false e true f k = le-leb n 19 (omega (arith, leb-true n 8 (second-of (leb 2 n) _ f)))
    go false e false f k = second-of (leb 12 n) _ k

pub family-low : (n : ℕ) → eqb n 4 || eqb n 6 ≡ true → leb n 6 ≡ true
family-low n h = go (eqb n 4) refl h
  where
    go : (a : Bool) → eqb n 4 ≡ a → a || eqb n 6 ≡ true → leb n 6 ≡ true
    go true e k = le-leb n 6 (omega (arith, eqb-true n 4 e))
    go false e k = le-leb n 6 (omega (arith, eqb-true n 6 k))
