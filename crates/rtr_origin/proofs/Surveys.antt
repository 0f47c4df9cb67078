-- One look at the table gives numbers that are low enough: no plain record of the family is shorter than the first, and none with host bits shorter than the second. By induction over
-- the records looked at. Assumes nothing.
use Prim.Native.Nat.{ℕ, zero, suc, ◌≤◌, ◌<◌}
use mathlib.Core.Bool.{Bool, true, false, cond}
use mathlib.Core.List.{List}
use mathlib.Core.Path.{◌≡◌, refl, sym, ap, ◌∙◌}
use native.Mathlib.Omega.{arith}
use lib.Dec.{leb, ltb, eqb}
use lib.ListN.{length, get_or}
use borrow.Author.Tests.{ltb-true, ltb-false, lt-ltb, le-ltb, eq-eqb, ne_eqb}
use Rattle.rtr_room.specs.Table.{family_of, prefix_of}
use Rattle.rtr_room.specs.Room.{records, record_at, is_room, limit_of}
use Rattle.rtr_room.specs.declared.Record.{Record}
use Rattle.rtr_origin.specs.Origin.{words, family_in, agree}
use Rattle.rtr_origin.specs.Private.{cut, plain, Under}
use Rattle.rtr_origin.specs.Judged.{Common, probe_of}
use Rattle.rtr_origin.specs.Survey.{lower_of, bounds_with, bounds_of, survey_of, bounds_for}
use Rattle.rtr_origin.specs.declared.RoutePrefix.{RoutePrefix}
use Rattle.rtr_origin.specs.declared.RoutePrefix.TheVariants.{IPv4, IPv6}
use Rattle.rtr_origin.specs.declared.Route.{Route}
use Rattle.rtr_origin.specs.declared.peer.Bounds.{Bounds}
use Rattle.rtr_origin.proofs.Engine.{probe-words}
use Rattle.rtr_origin.proofs.Tabled.{length-is, record_is}

-- ---- what the code does

pub takes-second : (x y : ℕ) → y < x → y ≡ lower_of x y
unfolding lower_of
takes-second x y h = rw (lt-ltb y x h)

pub keeps-first : (x y : ℕ) → x ≤ y → x ≡ lower_of x y
unfolding lower_of
keeps-first x y h = rw (le-ltb y x h)

-- a record is plain where all bits agree with those before its length and zeros
pub plain_by : (x p : Record) (l bits : ℕ) → l ≡ prefix_of x → p ≡ probe_of x l 0 0 → Common (words x) (words p) bits → leb 128 bits ≡ plain x
unfolding plain
plain_by x p l bits e f h =
    sym (h.exactly 128 (omega arith))
    ∙ ap (agree 128 (words x)) (ap words f ∙ probe-words x l 0 0 (omega arith) ∙ ap (λ (k : ℕ). cut k (words x)) e)

module _ (family : ℕ) (b : Bounds) (x : Record) where
  pub of-another-family : (family_of x ≡ family → ⊥) → b ≡ bounds_with family b x
  unfolding bounds_with
  of-another-family h = rw (ne_eqb (family_of x) family h)

  module _ (f : family_of x ≡ family) (n : ℕ) where
    pub of-a-plain-one : plain x ≡ true → n ≡ lower_of b.least (prefix_of x) → record { least = n; loose = b.loose } ≡ bounds_with family b x
    unfolding bounds_with
    of-a-plain-one p e = rw (eq-eqb (family_of x) family f, p, e)

    pub of-a-loose-one : plain x ≡ false → n ≡ lower_of b.loose (prefix_of x) → record { least = b.least; loose = n } ≡ bounds_with family b x
    unfolding bounds_with
    of-a-loose-one p e = rw (eq-eqb (family_of x) family f, p, e)

pub looked-at-none : (family : ℕ) (s : List ℕ) → record { least = 255; loose = 255 } ≡ bounds_of family 0 s
unfolding bounds_of
looked-at-none family s = refl

pub looked-at-one-more : (family n : ℕ) (s : List ℕ) (b r : Bounds) (x : Record) → b ≡ bounds_of family n s → x ≡ record_at s n → r ≡ bounds_with family b x → r ≡ bounds_of family (suc n) s
unfolding bounds_of
looked-at-one-more family n s b r x e f g = g ∙ (λ i. bounds_with family (e i) (f i))

-- ---- they are low enough

lower-first : (x y : ℕ) → lower_of x y ≤ x
unfolding lower_of
lower-first x y = go (ltb y x) refl
  where
    go : (b : Bool) → ltb y x ≡ b → cond b y x ≤ x
    go true e = omega (arith, ltb-true y x e)
    go false e = omega arith

lower-second : (x y : ℕ) → lower_of x y ≤ y
unfolding lower_of
lower-second x y = go (ltb y x) refl
  where
    go : (b : Bool) → ltb y x ≡ b → cond b y x ≤ y
    go true e = omega arith
    go false e = omega (arith, ltb-false y x e)

-- one record more raises neither
raises-none : (family : ℕ) (b : Bounds) (x : Record) → ((bounds_with family b x).least ≤ b.least) × ((bounds_with family b x).loose ≤ b.loose)
unfolding bounds_with
raises-none family b x = go (eqb (family_of x) family) (plain x)
  where
    Low : Bounds → Type 0
    Low n = (n.least ≤ b.least) × (n.loose ≤ b.loose)

    go : (k p : Bool) → Low (cond k (cond p (record { least = lower_of b.least (prefix_of x); loose = b.loose }) (record { least = b.least; loose = lower_of b.loose (prefix_of x) })) b)
    go true true = (lower-first b.least (prefix_of x), omega arith)
    go true false = (omega arith, lower-first b.loose (prefix_of x))
    go false p = (omega arith, omega arith)

-- the number that a record of the family has to do with: plain ones the first, others the second
abbrev its : Bool → Bounds → ℕ
its true b = b.least
its false b = b.loose

-- with it looked at, that is no higher than its length
its_own : (family : ℕ) (b : Bounds) (x : Record) → family_of x ≡ family → its (plain x) (bounds_with family b x) ≤ prefix_of x
unfolding bounds_with
its_own family b x f = rw (eq-eqb (family_of x) family f) (go (plain x))
  where
    go : (p : Bool) → its p (cond p (record { least = lower_of b.least (prefix_of x); loose = b.loose }) (record { least = b.least; loose = lower_of b.loose (prefix_of x) })) ≤ prefix_of x
    go true = lower-second b.least (prefix_of x)
    go false = lower-second b.loose (prefix_of x)

its-lower : (family : ℕ) (b : Bounds) (x : Record) (p : Bool) → its p (bounds_with family b x) ≤ its p b
its-lower family b x true = (raises-none family b x).0
its-lower family b x false = (raises-none family b x).1

pub none_below : (family n : ℕ) (s : List ℕ) (i : ℕ) → i < n → family_of (record_at s i) ≡ family → its (plain (record_at s i)) (bounds_of family n s) ≤ prefix_of (record_at s i)
unfolding bounds_of
none_below family zero s i l f = absurd (omega arith)
none_below family (suc n) s i l f = go (ltb i n) refl (λ m. none_below family n s i m f)
  where
    go : (b : Bool) → ltb i n ≡ b → (i < n → its (plain (record_at s i)) (bounds_of family n s) ≤ prefix_of (record_at s i))
        → its (plain (record_at s i)) (bounds_with family (bounds_of family n s) (record_at s n)) ≤ prefix_of (record_at s i)
    go true e before = omega (arith, its-lower family (bounds_of family n s) (record_at s n) (plain (record_at s i)), before (ltb-true i n e))
    go false e before =
        let last : i ≡ n = omega (arith, ltb-false i n e) in
        rw last (its_own family (bounds_of family n s) (record_at s n) (rw last at f))

-- so what was looked at once serves every route
module _ (s : List ℕ) (count : ℕ) (h : is_room (limit_of s) count s ≡ true) where
  of-family : (q : Route) (family : ℕ) → family_in q.prefix ≡ family → Under (bounds_of family count s).least (bounds_of family count s).loose q (records count s)
  of-family q family e = record {
    none-shorter = λ d i l f p. each d i l f true p;
    none-looser = λ d i l f p. each d i l f false p;
  }
    where
      each : (d : Record) (i : ℕ) → i < length (records count s) → family_of (get_or (records count s) i d) ≡ family_in q.prefix → (b : Bool) → plain (get_or (records count s) i d) ≡ b
          → its b (bounds_of family count s) ≤ prefix_of (get_or (records count s) i d)
      each d i l f b p =
          let inside : i < count = omega (arith, length-is s count h) in
          let at = record_is s count h i d inside in
          rw (sym at, sym (ap plain at ∙ p)) (none_below family count s i inside (ap family_of at ∙ f ∙ e))

  pub survey-is-low : (q : Route) (b : Bounds) → b ≡ bounds_for (survey_of count s) q.prefix → Under b.least b.loose q (records count s)
  survey-is-low q b e = rw e (go q.prefix refl)
    where
      go : (p : RoutePrefix) → q.prefix ≡ p → Under (bounds_for (survey_of count s) p).least (bounds_for (survey_of count s) p).loose q (records count s)
      go (IPv4 address) f = of-family q 4 (ap family_in f)
      go (IPv6 address) f = of-family q 6 (ap family_in f)
