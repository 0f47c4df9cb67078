-- A record is its six numbers, and its first number is its family, prefix length and max: for parts below 256 dividing gives back what was
-- packed, and what dividing gives packs to the number again. So a made record is in rule exactly where its lengths are, and a
-- record in rule is one that could be made. Assumes nothing.
use Prim.Native.Nat.{ℕ, ◌<◌, ◌/◌, ◌%◌}
use mathlib.Core.Bool.{true, false, ◌&&◌, ◌||◌, or-false, and-true}
use mathlib.Core.Path.{◌≡◌, refl, sym, ap, ◌∙◌}
use native.Mathlib.Omega.{arith}
use native.Mathlib.Nat.{div-div-eq-div-mul}
use borrow.Author.Tests.{eqb-true, eq-eqb, ne_eqb}
use lib.Dec.{leb, eqb}
use Rattle.rtr_room.specs.Table.{packed, ipv4_record, ipv6_record, family_of, prefix_of, max_of, lengths_within, in_rule}
use Rattle.rtr_room.specs.declared.Record.{Record}
use Rattle.rtr_room.proofs.Laws.Tests.{first_of, second-of}

-- a record is its six numbers
pub record_is : (a b : Record) → a.kind ≡ b.kind → a.w0 ≡ b.w0 → a.w1 ≡ b.w1 → a.w2 ≡ b.w2 → a.w3 ≡ b.w3 → a.asn ≡ b.asn → a ≡ b
record_is a b p q r s t u = λ i. record { kind = p i; w0 = q i; w1 = r i; w2 = s i; w3 = t i; asn = u i }

-- a first number is its three parts
pub kind-is : (k : ℕ) → k ≡ packed (k / 65536) (k / 256 % 256) (k % 256)
kind-is k = omega (arith, div-div-eq-div-mul k 256 256)

module _ (family length max : ℕ) (l : length < 256) (m : max < 256) where
  packed-family : packed family length max / 65536 ≡ family
  packed-family = omega arith

  packed-length : packed family length max / 256 % 256 ≡ length
  packed-length = omega arith

  packed-max : packed family length max % 256 ≡ max
  packed-max = omega arith

module _ (length max : ℕ) (l : length < 256) (m : max < 256) where
  module _ (address asn : ℕ) where
    abbrev four : Record
    four = ipv4_record length max address asn

    pub ipv4-parts : (family_of four ≡ 4) × (prefix_of four ≡ length) × (max_of four ≡ max)
    ipv4-parts = (packed-family 4 length max l m, packed-length 4 length max l m, packed-max 4 length max l m)

    pub ipv4-in-rule : in_rule four ≡ (leb length max && leb max 32)
    unfolding in_rule
    ipv4-in-rule = rw (packed-family 4 length max l m, packed-length 4 length max l m, packed-max 4 length max l m) (or-false _ ∙ and-true _)

  module _ (w0 w1 w2 w3 asn : ℕ) where
    abbrev six : Record
    six = ipv6_record length max w0 w1 w2 w3 asn

    pub ipv6-parts : (family_of six ≡ 6) × (prefix_of six ≡ length) × (max_of six ≡ max)
    ipv6-parts = (packed-family 6 length max l m, packed-length 6 length max l m, packed-max 6 length max l m)

    pub ipv6-in-rule : in_rule six ≡ (leb length max && leb max 128)
    unfolding in_rule
    ipv6-in-rule = rw (packed-family 6 length max l m, packed-length 6 length max l m, packed-max 6 length max l m) refl

-- what is in rule could have been made
kind-of : (r : Record) (family : ℕ) → family_of r ≡ family → r.kind ≡ packed family (prefix_of r) (max_of r)
kind-of r family f = kind-is r.kind ∙ ap (λ (k : ℕ). packed k (prefix_of r) (max_of r)) f

pub of-family-six : (r : Record) → family_of r ≡ 6 → r ≡ ipv6_record (prefix_of r) (max_of r) r.w0 r.w1 r.w2 r.w3 r.asn
of-family-six r f = record_is r _ (kind-of r 6 f) refl refl refl refl refl

pub in-rule-four : (r : Record) → in_rule r ≡ true → family_of r ≡ 4 → r ≡ ipv4_record (prefix_of r) (max_of r) r.w0 r.asn
unfolding in_rule
in-rule-four r h f =
    let g : (lengths_within 32 r && (eqb r.w1 0 && (eqb r.w2 0 && eqb r.w3 0))) || false ≡ true =
    rw (eq-eqb (family_of r) 4 f, ne_eqb (family_of r) 6 (λ k. omega arith)) at h in
    let e : _ ≡ true = second-of (lengths_within 32 r) _ (sym (or-false _) ∙ g) in
    let e1 : _ ≡ true = second-of (eqb r.w1 0) _ e in
    record_is r _ (kind-of r 4 f) refl
    (eqb-true _ _ (first_of _ _ e))
    (eqb-true _ _ (first_of _ _ e1))
    (eqb-true _ _ (second-of (eqb r.w2 0) _ e1))
    refl
