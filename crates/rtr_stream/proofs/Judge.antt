-- What bytes in hand come to, by cases: without a header they wait; with one, the length is tested, and they wait as long as fewer are in than it
-- names. So bytes that wait go on waiting until there are as many as needed. Assumes nothing.
use Prim.Native.Nat.{ℕ, ◌+◌, ◌≤◌, ◌<◌}
use mathlib.Core.Bool.{Bool, true, false, cond, ◌&&◌}
use mathlib.Core.List.{List, [], ◌∷◌, ◌++◌}
use mathlib.Core.Logic.{◌⊎◌, inl, inr}
use mathlib.Core.Path.{◌≡◌, refl, sym, ap, ◌∙◌, subst}
use native.Mathlib.Omega.{arith}
use borrow.Author.Tests.{leb-true, leb-false, le-leb, lt-leb, ltb-true, ltb-false}
use lib.Dec.{leb, ltb}
use lib.ListN.{length, get_or, take, length-append}
use lib.Seq.{length-take-le}
use Rattle.rtr_models.specs.declared.RtrPdu.{RtrPdu}
use Rattle.rtr_codec.specs.Reading.{Reading, in_use}
use Rattle.rtr_codec.specs.Read.{Verdict, header_length, read, needed}
use Rattle.rtr_codec.proofs.Laws.{needed-short, needed-large, header-stays, refusal-numbers, read-consumes}
use Rattle.rtr_stream.specs.Stream.{Heard, longest, passing, heard_of, length_in, judge}
use Rattle.rtr_stream.specs.Stream.Heard.{waits, whole, refused}
use Rattle.rtr_stream.specs.Search.{is_waits, is_stream}

-- a length in range, and within the hold
pub record InRange (H n : ℕ) : Type 0 where
  pub least : 8 ≤ n
  pub most : n ≤ longest
  pub fits : n ≤ H

-- what waits: no header yet, or a header in range that names more than is in
pub data Waiting (H : ℕ) (s : List ℕ) : Type 0 where
  short : length s < 8 → Waiting H s
  cut : 8 ≤ length s → InRange H (header_length s) → length s < header_length s → Waiting H s

pub in-range : {H n : ℕ} → InRange H n → (type : ℕ) (next : Heard) → length_in H n type next ≡ next
in-range {H} {n} i type next = simp (le-leb 8 n i.least, le-leb n longest i.most, le-leb n H i.fits)

pub judge-short : (R : Reading) (H : ℕ) (s : List ℕ) → length s < 8 → judge R H s ≡ waits
unfolding judge
judge-short R H s h = simp (lt-leb 8 (length s) h)

-- with a header
pub judge-long
    : (R : Reading) (H : ℕ) (s : List ℕ) →
    8 ≤ length s →
    judge R H s ≡ length_in H (header_length s) (get_or s 1 0) (cond (leb (header_length s) (length s)) (heard_of (read R s)) waits)
unfolding judge
judge-long R H s h = simp (le-leb 8 (length s) h)

-- a header whose length is refused
pub judge-refused
    : (R : Reading) (H : ℕ) (s : List ℕ) (n type : ℕ) (h : Heard) →
    8 ≤ length s →
    n ≡ header_length s →
    type ≡ get_or s 1 0 →
    ((next : Heard) → length_in H n type next ≡ h) →
    judge R H s ≡ h
judge-refused R H s n type h l p q f =
    judge-long R H s l
    ∙ ap (λ (m : ℕ). length_in H m (get_or s 1 0) (cond (leb (header_length s) (length s)) (heard_of (read R s)) waits)) (sym p)
    ∙ ap (λ (t : ℕ). length_in H n t (cond (leb (header_length s) (length s)) (heard_of (read R s)) waits)) (sym q)
    ∙ f _

-- a header is in, or not
pub few-or-many : (s : List ℕ) → (length s < 8) ⊎ (8 ≤ length s)
few-or-many s = go (leb 8 (length s)) refl
  where
    go : (b : Bool) → leb 8 (length s) ≡ b → (length s < 8) ⊎ (8 ≤ length s)
    go false e = inl (leb-false 8 (length s) e)
    go true e = inr (leb-true 8 (length s) e)

-- with as many bytes as it names
pub judge-whole : (R : Reading) (H : ℕ) (s : List ℕ) → 8 ≤ length s → InRange H (header_length s) → header_length s ≤ length s → judge R H s ≡ heard_of (read R s)
judge-whole R H s h i e = judge-long R H s h ∙ in-range i (get_or s 1 0) _ ∙ simp (le-leb (header_length s) (length s) e)

pub judge-cut : (R : Reading) (H : ℕ) (s : List ℕ) → 8 ≤ length s → InRange H (header_length s) → length s < header_length s → judge R H s ≡ waits
judge-cut R H s h i e = judge-long R H s h ∙ in-range i (get_or s 1 0) _ ∙ simp (lt-leb (header_length s) (length s) e)

pub waiting-waits : (R : Reading) {H : ℕ} {s : List ℕ} → Waiting H s → judge R H s ≡ waits
waiting-waits R {H} {s} (short h) = judge-short R H s h
waiting-waits R {H} {s} (cut h i e) = judge-cut R H s h i e

-- nothing else waits
not-read : (v : Verdict) → heard_of v ≡ waits → ⊥
not-read (Verdict.accepted pdu n) e = let z : ◌≡◌ {A = ℕ} 0 1 = cc in omega arith
not-read (Verdict.refused k x) e = let z : ◌≡◌ {A = ℕ} 0 1 = cc in omega arith

not-refused : (k : ℕ) (x : List ℕ) → refused k x ≡ waits → ⊥
not-refused k x e = let z : ◌≡◌ {A = ℕ} 0 1 = cc in omega arith

pub waits-waiting : (R : Reading) (H : ℕ) (s : List ℕ) → judge R H s ≡ waits → Waiting H s
unfolding judge
waits-waiting R H s = go (leb 8 (length s)) (leb 8 n) (leb n longest) (leb n H) (leb n (length s)) refl refl refl refl refl
  where
    n : ℕ
    n = header_length s

    go : (a b c d e : Bool) →
        leb 8 (length s) ≡ a →
        leb 8 n ≡ b →
        leb n longest ≡ c →
        leb n H ≡ d →
        leb n (length s) ≡ e →
        cond a
        (passing b 4 (8 ∷ n ∷ get_or s 1 0 ∷ []) (passing c 4 (longest ∷ n ∷ get_or s 1 0 ∷ []) (passing d 12 (n ∷ []) (cond e (heard_of (read R s)) waits))))
        waits
        ≡ waits →
        Waiting H s
    go false b c d e p q r t u w = short (leb-false 8 (length s) p)
    go true false c d e p q r t u w = absurd (not-refused _ _ w)
    go true true false d e p q r t u w = absurd (not-refused _ _ w)
    go true true true false e p q r t u w = absurd (not-refused _ _ w)
    go true true true true true p q r t u w = absurd (not-read (read R s) w)
    go true true true true false p q r t u w =
        cut (leb-true 8 (length s) p)
        (record { least = leb-true 8 n q; most = leb-true n longest r; fits = leb-true n H t })
        (leb-false n (length s) u)

-- the numbers by which a stream stops: 2 to 8, or 12
abbrev pub Stops : ℕ → Type 0
Stops k = ((2 ≤ k) × (k ≤ 8)) ⊎ (k ≡ 12)

-- a refusal is 4, 12 or a read's of bytes that are all there
pub refused-numbers : (R : Reading) (H : ℕ) (s : List ℕ) (number : ℕ) (values : List ℕ) → judge R H s ≡ refused number values → Stops number
unfolding judge
refused-numbers R H s number values = go (leb 8 (length s)) (leb 8 n) (leb n longest) (leb n H) (leb n (length s)) refl refl
  where
    n : ℕ
    n = header_length s

    alike : (k : ℕ) (x : List ℕ) → Stops k → refused k x ≡ refused number values → Stops number
    alike k x f e = subst Stops (let same : k ≡ number = cc in same) f

    was_read : (v : Verdict) → heard_of v ≡ refused number values → v ≡ Verdict.refused number values
    was_read (Verdict.accepted pdu m) e = absurd (let z : ◌≡◌ {A = ℕ} 0 1 = cc in omega arith)
    was_read (Verdict.refused k x) e = let p : k ≡ number = cc in let q : x ≡ values = cc in cc

    go : (a b c d e : Bool) →
        leb 8 (length s) ≡ a →
        leb n (length s) ≡ e →
        cond a
        (passing b 4 (8 ∷ n ∷ get_or s 1 0 ∷ []) (passing c 4 (longest ∷ n ∷ get_or s 1 0 ∷ []) (passing d 12 (n ∷ []) (cond e (heard_of (read R s)) waits))))
        waits
        ≡ refused number values →
        Stops number
    go false b c d e p u w = absurd (not-refused _ _ (sym w))
    go true false c d e p u w = alike 4 _ (inl (omega arith, omega arith)) w
    go true true false d e p u w = alike 4 _ (inl (omega arith, omega arith)) w
    go true true true false e p u w = alike 12 _ (inr refl) w
    go true true true true false p u w = absurd (not-refused _ _ (sym w))
    go true true true true true p u w = inl (refusal-numbers R s number values (leb-true 8 (length s) p) (leb-true n (length s) u) (was_read (read R s) w))

-- bytes that are a PDU: a header in range, all that it names, and the read accepts them
pub record WholePdu (R : Reading) (H : ℕ) (s : List ℕ) (pdu : RtrPdu) : Type 0 where
  pub header : 8 ≤ length s
  pub range : InRange H (header_length s)
  pub there : header_length s ≤ length s
  pub read_as : (n : ℕ) × (read R s ≡ Verdict.accepted pdu n)

pub whole-pdu : (R : Reading) (H : ℕ) (s : List ℕ) (pdu : RtrPdu) → judge R H s ≡ whole pdu → WholePdu R H s pdu
unfolding judge
whole-pdu R H s pdu = go (leb 8 (length s)) (leb 8 n) (leb n longest) (leb n H) (leb n (length s)) refl refl refl refl refl
  where
    n : ℕ
    n = header_length s

    unlike : (k : ℕ) (x : List ℕ) → refused k x ≡ whole pdu → ⊥
    unlike k x e = let z : ◌≡◌ {A = ℕ} 0 1 = cc in omega arith

    early : waits ≡ whole pdu → ⊥
    early e = let z : ◌≡◌ {A = ℕ} 0 1 = cc in omega arith

    was_read : (v : Verdict) → heard_of v ≡ whole pdu → (m : ℕ) × (v ≡ Verdict.accepted pdu m)
    was_read (Verdict.accepted pdu' m) e = (m, (let p : pdu' ≡ pdu = cc in cc))
    was_read (Verdict.refused k x) e = absurd (unlike k x e)

    go : (a b c d e : Bool) →
        leb 8 (length s) ≡ a →
        leb 8 n ≡ b →
        leb n longest ≡ c →
        leb n H ≡ d →
        leb n (length s) ≡ e →
        cond a
        (passing b 4 (8 ∷ n ∷ get_or s 1 0 ∷ []) (passing c 4 (longest ∷ n ∷ get_or s 1 0 ∷ []) (passing d 12 (n ∷ []) (cond e (heard_of (read R s)) waits))))
        waits
        ≡ whole pdu →
        WholePdu R H s pdu
    go false b c d e p q r t u w = absurd (early w)
    go true false c d e p q r t u w = absurd (unlike _ _ w)
    go true true false d e p q r t u w = absurd (unlike _ _ w)
    go true true true false e p q r t u w = absurd (unlike _ _ w)
    go true true true true false p q r t u w = absurd (early w)
    go true true true true true p q r t u w =
        record {
          header = leb-true 8 (length s) p;
          range = record { least = leb-true 8 n q; most = leb-true n longest r; fits = leb-true n H t };
          there = leb-true n (length s) u;
          read_as = was_read (read R s) w;
        }

-- a byte that makes a PDU of what waited is its last one
pub whole-exactly : (R : Reading) (H : ℕ) (s : List ℕ) (b : ℕ) (pdu : RtrPdu) → judge R H s ≡ waits → judge R H (s ++ b ∷ []) ≡ whole pdu → read R (s ++ b ∷ []) ≡ Verdict.accepted pdu (length (s ++ b ∷ []))
whole-exactly R H s b pdu w e =
    go (whole-pdu R H (s ++ b ∷ []) pdu e) (waits-waiting R H s w)
  where
    go : WholePdu R H (s ++ b ∷ []) pdu → Waiting H s → read R (s ++ b ∷ []) ≡ Verdict.accepted pdu (length (s ++ b ∷ []))
    go p waiting =
        let took = read-consumes R (s ++ b ∷ []) pdu p.read_as.0 p.read_as.1 in
        let long : length (s ++ b ∷ []) ≡ length s + 1 = length-append s (b ∷ []) in
        let exact : p.read_as.0 ≡ length (s ++ b ∷ []) = last waiting took in
        p.read_as.1 ∙ ap (Verdict.accepted pdu) exact
      where
        last : Waiting H s → (p.read_as.0 ≡ header_length (s ++ b ∷ [])) × (8 ≤ p.read_as.0) × (p.read_as.0 ≤ length (s ++ b ∷ [])) → p.read_as.0 ≡ length (s ++ b ∷ [])
        last (short h) t = omega (arith, length-append s (b ∷ []))
        last (cut h i c) t = omega (arith, length-append s (b ∷ []), header-stays s (b ∷ []) h)

-- what waits is short of what it needs
pub waiting-lacks : {H : ℕ} {s : List ℕ} → Waiting H s → length s < needed s
waiting-lacks {H} {s} (short h) = omega (arith, needed-short s h)
waiting-lacks {H} {s} (cut h i e) = omega (arith, needed-large s h)

-- and goes on waiting, for as many, while fewer come
pub waiting-grows : {H : ℕ} {s : List ℕ} → Waiting H s → (u : List ℕ) → length s + length u < needed s → Waiting H (s ++ u)
waiting-grows {H} {s} (short h) u l = short (simp length-append (omega (arith, needed-short s h)))
waiting-grows {H} {s} (cut h i e) u l =
    cut (simp length-append (omega arith)) (rw (header-stays s u h) i) (rw (header-stays s u h) (simp length-append (omega (arith, needed-large s h))))

-- A stream: what `is_stream` tests.
not-waiting : (R : Reading) (H : ℕ) (s : List ℕ) → (Waiting H s → ⊥) → is_waits (judge R H s) ≡ false
not-waiting R H s never = go (judge R H s) refl
  where
    go : (h : Heard) → judge R H s ≡ h → is_waits h ≡ false
    go waits e = absurd (never (waits-waiting R H s e))
    go (whole pdu) e = refl
    go (refused k x) e = refl

pub waiting-of : (R : Reading) (H : ℕ) (s : List ℕ) → is_waits (judge R H s) ≡ true → Waiting H s
waiting-of R H s t = go (judge R H s) refl t
  where
    go : (h : Heard) → judge R H s ≡ h → is_waits h ≡ true → Waiting H s
    go waits e t = waits-waiting R H s e
    go (whole pdu) e t = absurd (let z : ◌≡◌ {A = ℕ} 0 1 = cc in omega arith)
    go (refused k x) e t = absurd (let z : ◌≡◌ {A = ℕ} 0 1 = cc in omega arith)

pub record IsStream (hold : List ℕ) (held : ℕ) : Type 0 where
  pub size : 8 ≤ length hold
  pub within : held ≤ length hold
  pub waiting : Waiting (length hold) (take held hold)

pub is-stream : {hold : List ℕ} {held : ℕ} → IsStream hold held → is_stream hold held ≡ true
unfolding is_stream
is-stream {hold} {held} i =
    simp (le-leb 8 (length hold) i.size, le-leb held (length hold) i.within, waiting-waits in_use i.waiting)

pub no_stream : {hold : List ℕ} {held : ℕ} → (IsStream hold held → ⊥) → is_stream hold held ≡ false
unfolding is_stream
no_stream {hold} {held} never = go (leb 8 (length hold)) (leb held (length hold)) refl refl
  where
    go : (a b : Bool) → leb 8 (length hold) ≡ a → leb held (length hold) ≡ b → a && (b && is_waits (judge in_use (length hold) (take held hold))) ≡ false
    go false b p q = refl
    go true false p q = refl
    go true true p q =
        not-waiting in_use (length hold) (take held hold)
        (λ w. never (record { size = leb-true 8 (length hold) p; within = leb-true held (length hold) q; waiting = w }))

pub stream-is : (hold : List ℕ) (held : ℕ) → is_stream hold held ≡ true → IsStream hold held
unfolding is_stream
stream-is hold held = go (leb 8 (length hold)) (leb held (length hold)) refl refl
  where
    go : (a b : Bool) →
        leb 8 (length hold) ≡ a →
        leb held (length hold) ≡ b →
        a && (b && is_waits (judge in_use (length hold) (take held hold))) ≡ true →
        IsStream hold held
    go false b p q t = absurd (let z : ◌≡◌ {A = ℕ} 0 1 = cc in omega arith)
    go true false p q t = absurd (let z : ◌≡◌ {A = ℕ} 0 1 = cc in omega arith)
    go true true p q t =
        record { size = leb-true 8 (length hold) p; within = leb-true held (length hold) q; waiting = waiting-of in_use (length hold) (take held hold) t }

-- a stream that holds a header holds less than it names, in range
pub header-of-stream : {hold : List ℕ} {held : ℕ} → 8 ≤ held → IsStream hold held → InRange (length hold) (needed (take held hold)) × (held < needed (take held hold))
header-of-stream {hold} {held} h i = go (length-take-le held hold i.within) i.waiting
  where
    go : length (take held hold) ≡ held →
        Waiting (length hold) (take held hold) →
        InRange (length hold) (needed (take held hold)) × (held < needed (take held hold))
    go long (short l) = absurd (omega arith)
    go long (cut l r e) = rw (needed-large (take held hold) l) (r, omega arith)

-- and where those hold it is one
pub stream-of-header
    : {hold : List ℕ} {held : ℕ} →
    8 ≤ length hold →
    held ≤ length hold →
    8 ≤ held →
    needed (take held hold) ≤ longest →
    needed (take held hold) ≤ length hold →
    held < needed (take held hold) →
    IsStream hold held
stream-of-header {hold} {held} a b h m f e =
    let long : length (take held hold) ≡ held = length-take-le held hold b in
    let name : needed (take held hold) ≡ header_length (take held hold) = needed-large (take held hold) (omega arith) in
    record {
      size = a;
      within = b;
      waiting = cut (omega arith) (record { least = omega arith; most = omega arith; fits = omega arith }) (omega arith);
    }

pub stream-of-few : {hold : List ℕ} {held : ℕ} → 8 ≤ length hold → held < 8 → IsStream hold held
stream-of-few {hold} {held} a h =
    record { size = a; within = omega arith; waiting = short (omega (arith, length-take-le held hold (omega arith))) }

-- the last test alone is left
pub stream-by-held
    : (hold : List ℕ) (held : ℕ) →
    8 ≤ length hold →
    held ≤ length hold →
    8 ≤ held →
    needed (take held hold) ≤ longest →
    needed (take held hold) ≤ length hold →
    ltb held (needed (take held hold)) ≡ is_stream hold held
stream-by-held hold held a b h m f = go (ltb held (needed (take held hold))) refl
  where
    go : (t : Bool) → ltb held (needed (take held hold)) ≡ t → t ≡ is_stream hold held
    go true e = sym (is-stream (stream-of-header a b h m f (ltb-true held _ e)))
    go false e = sym (no_stream (λ i. omega (arith, (header-of-stream h i).1, ltb-false held _ e)))
