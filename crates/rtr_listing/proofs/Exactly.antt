-- A listing is refused by 22 exactly where one of the reasons of specs/Promises.antt holds, by 9 exactly where it is not and the output is shorter
-- than the text, and else written whole: of the definition, and of the call as Rattle reads its contract off the source. A test that fails names its
-- reason, and each reason makes its test fail. Assumes nothing.
use Rattle.std.specs.Prelude.{Option, Some, None, Result, Ok, Err}
use Prim.Native.Nat.{ℕ, ◌≤◌, ◌<◌}
use mathlib.Core.Bool.{Bool, true, false, ◌&&◌, ◌||◌, true≢false}
use mathlib.Core.List.{List, [], ◌∷◌}
use mathlib.Core.Logic.{◌↔◌}
use mathlib.Core.Path.{◌≡◌, refl, sym, ap, ◌∙◌}
use native.Mathlib.Omega.{arith}
use borrow.Author.Tests.{leb-true, leb-false, eqb-true}
use lib.Dec.{leb, eqb}
use lib.ListN.{length}
use Rattle.rtr_encode.specs.Encode.{Writing, Encoded}
use Rattle.rtr_encode.specs.Encode.Writing.{written, refused}
use Rattle.rtr_room.specs.Room.{is_room}
use Rattle.rtr_room.proofs.Laws.{rules-exactly, rules-size}
use Rattle.rtr_receiver.specs.Contents.{Rooms, contents}
use Rattle.rtr_receiver.specs.History.{has_table}
use Rattle.rtr_receiver.specs.Promises.{has_limit}
use Rattle.rtr_receiver.specs.declared.Session.{Session}
use Rattle.rtr_listing.specs.Listing.{digits, count_digits, listing}
use Rattle.rtr_listing.specs.Digits.{value_of}
use Rattle.rtr_listing.specs.Promises.{ListReason, is_listed, list_said, listing_says}
use Rattle.rtr_listing.specs.Promises.ListReason.{other_limit, live_size, live_over, live_rules, records_without_table}
use Rattle.rtr_listing.specs.declared.ListError.TheVariants.{NotAReceiver, OutputShort}
use Rattle.rtr_listing.proofs.Calls.{first_of, second-of, listed-size, written_is, short-is, refused-by-22, listed-says}
use Rattle.rtr_listing.proofs.Numbers.{count-is-number}
use Rattle.rtr_listing.proofs.Shape.{above_zero}
use Rattle.rtr_listing.proofs.listing.Reads as listing-reads
use Rattle.rtr_receiver.specs.declared.Table.{Table}
use Rattle.rtr_listing.specs.declared.ListError.{ListError}

module _ (limit : ℕ) (s : Session) (live : Rooms) where
  -- ---- A test that fails names its reason

  by-rules : is_room limit s.live.records live ≡ false → ListReason limit s live
  by-rules e = go (leb s.live.records limit) refl
    where
      go : (b : Bool) → leb s.live.records limit ≡ b → ListReason limit s live
      go true q = live_rules (λ t table count same. true≢false (sym ((rules-exactly limit s.live.records live).1 (t, table, count, leb-true s.live.records limit q, same)) ∙ e))
      go false q = live_over (leb-false s.live.records limit q)

  by-table : (t : Option Table) → s.table ≡ t → (has_table t || eqb s.live.records 0) ≡ false → ListReason limit s live
  by-table (Some t) q e = absurd (true≢false e)
  by-table None q e = records_without_table q (above_zero s.live.records e)

  reason-of : is_listed limit s live ≡ false → ListReason limit s live
  reason-of e = by-limit (has_limit limit s) refl e
    where
      room : (b : Bool) → is_room limit s.live.records live ≡ b → (b && (has_table s.table || eqb s.live.records 0)) ≡ false → ListReason limit s live
      room true q e = by-table s.table refl e
      room false q e = by-rules q

      by-limit : (b : Bool) → has_limit limit s ≡ b → (b && (is_room limit s.live.records live && (has_table s.table || eqb s.live.records 0))) ≡ false → ListReason limit s live
      by-limit true q e = room (is_room limit s.live.records live) refl e
      by-limit false q e = other_limit q

  -- ---- Each reason makes its test fail

  module _ (e : is_listed limit s live ≡ true) where
    limited : has_limit limit s ≡ true
    limited = first_of (has_limit limit s) _ e

    keeps : is_room limit s.live.records live ≡ true
    keeps = first_of (is_room limit s.live.records live) _ (second-of (has_limit limit s) _ e)

    table-or-none : (t : Option Table) → s.table ≡ t → t ≡ None → eqb s.live.records 0 ≡ true
    table-or-none (Some t) q none = absurd (let z : ◌≡◌ {A = ℕ} 0 1 = cc in omega arith)
    table-or-none None q none =
        ap (λ (t : Option Table). has_table t || eqb s.live.records 0) (sym q) ∙ second-of (is_room limit s.live.records live) _ (second-of (has_limit limit s) _ e)

    no-reason : ListReason limit s live → ⊥
    no-reason (other_limit h) = true≢false (sym limited ∙ h)
    no-reason (live_size h) = h (rules-size limit s.live.records live keeps).0
    no-reason (live_over h) = omega (arith, h, (rules-size limit s.live.records live keeps).1)
    no-reason (live_rules h) = let r = (rules-exactly limit s.live.records live).0 keeps in h r.0 r.1 r.2 r.4
    no-reason (records_without_table t h) = omega (arith, h, eqb-true s.live.records 0 (table-or-none s.table refl t))

  by-reason : ListReason limit s live → is_listed limit s live ≡ false
  by-reason reason = go (is_listed limit s live) refl
    where
      go : (b : Bool) → is_listed limit s live ≡ b → is_listed limit s live ≡ false
      go true e = absurd (no-reason e reason)
      go false e = e

  -- what cannot be listed has a reason, and what has one cannot
  pub listed-exactly : is_listed limit s live ≡ false ↔ ListReason limit s live
  listed-exactly = (reason-of, by-reason)

-- so the count of what is listed has four digits at the most, and those that are printed are the count
pub count-shown : (limit : ℕ) (s : Session) (live : Rooms) → is_listed limit s live ≡ true → value_of (digits 10 count_digits s.live.records) 0 ≡ s.live.records
count-shown limit s live e = let size = listed-size limit s live e in count-is-number s.live.records (omega (arith, size.1, size.2))

-- ---- The call

-- the answer of a refusal by 22
by-22 : (r : Result ℕ ListError) → list_said r ≡ refused 22 [] → r ≡ Err NotAReceiver
by-22 (Ok n) e = absurd (let z : ◌≡◌ {A = ℕ} 0 1 = cc in omega arith)
by-22 (Err NotAReceiver) e = refl
by-22 (Err (OutputShort n)) e = absurd (let z : ◌≡◌ {A = ℕ} 9 22 = cc in omega arith)

by-9 : (r : Result ℕ ListError) (n : ℕ) → list_said r ≡ refused 9 (n ∷ []) → r ≡ Err (OutputShort n)
by-9 (Ok m) n e = absurd (let z : ◌≡◌ {A = ℕ} 0 1 = cc in omega arith)
by-9 (Err NotAReceiver) n e = absurd (let z : ◌≡◌ {A = ℕ} 22 9 = cc in omega arith)
by-9 (Err (OutputShort m)) n e = let same : m ≡ n = cc in ap (λ (k : ℕ). Err (OutputShort k)) same

by_written : (r : Result ℕ ListError) (n : ℕ) → list_said r ≡ written n → r ≡ Ok n
by_written (Ok m) n e = let same : m ≡ n = cc in ap Ok same
by_written (Err NotAReceiver) n e = absurd (let z : ◌≡◌ {A = ℕ} 0 1 = cc in omega arith)
by_written (Err (OutputShort m)) n e = absurd (let z : ◌≡◌ {A = ℕ} 0 1 = cc in omega arith)

-- what is said where there is a reason, where the text does not fit, and where it does
module _ (limit : ℕ) (s : Session) (live : Rooms) (out : List ℕ) where
  text : List ℕ
  text = listing s (contents s.live live)

  says-22 : is_listed limit s live ≡ false → (listing_says limit s live out).says ≡ refused 22 []
  says-22 e = ap (λ (x : Encoded). x.says) (sym (refused-by-22 limit s live out e))

  says-9 : is_listed limit s live ≡ true → length out < length text → (listing_says limit s live out).says ≡ refused 9 (length text ∷ [])
  unfolding text
  says-9 e h = ap (λ (x : Encoded). x.says) (sym (listed-says limit s live out e) ∙ short-is text out h)

  says-written : is_listed limit s live ≡ true → length text ≤ length out → (listing_says limit s live out).says ≡ written (length text)
  unfolding text
  says-written e h = ap (λ (x : Encoded). x.says) (sym (listed-says limit s live out e) ∙ written_is text out h)

  -- one of the three, and the reason or none
  data Says : Writing → Type 0 where
    unlisted : is_listed limit s live ≡ false → Says (refused 22 [])
    short : is_listed limit s live ≡ true → length out < length text → Says (refused 9 (length text ∷ []))
    whole : is_listed limit s live ≡ true → length text ≤ length out → Says (written (length text))

  says : Says (listing_says limit s live out).says
  says = by_shape (is_listed limit s live) refl
    where
      by-room : is_listed limit s live ≡ true → (b : Bool) → leb (length text) (length out) ≡ b → Says (listing_says limit s live out).says
      by-room e true q = let h = leb-true (length text) (length out) q in rw (says-written e h) (whole e h)
      by-room e false q = let h = leb-false (length text) (length out) q in rw (says-9 e h) (short e h)

      by_shape : (b : Bool) → is_listed limit s live ≡ b → Says (listing_says limit s live out).says
      by_shape true e = by-room e (leb (length text) (length out)) refl
      by_shape false e = rw (says-22 e) (unlisted e)

  module _ (r : Result ℕ ListError) (promise : list_said r ≡ (listing_says limit s live out).says) where
    saying : Says (list_said r)
    saying = rw promise says

    reason-22 : (w : Writing) → Says w → w ≡ refused 22 [] → ListReason limit s live
    reason-22 w (unlisted e) q = (listed-exactly limit s live).0 e
    reason-22 w (short e h) q = absurd (let z : ◌≡◌ {A = ℕ} 9 22 = cc in omega arith)
    reason-22 w (whole e h) q = absurd (let z : ◌≡◌ {A = ℕ} 0 1 = cc in omega arith)

    answers-22 : (r ≡ Err NotAReceiver) ↔ ListReason limit s live
    answers-22 = (
      λ e. reason-22 (list_said r) saying (ap list_said e),
      λ reason. by-22 r (promise ∙ says-22 ((listed-exactly limit s live).1 reason)),
    )

    reason-9 : (n : ℕ) (w : Writing) → Says w → w ≡ refused 9 (n ∷ []) → (ListReason limit s live → ⊥) × (n ≡ length text) × (length out < n)
    reason-9 n w (unlisted e) q = absurd (let z : ◌≡◌ {A = ℕ} 9 22 = cc in omega arith)
    reason-9 n w (short e h) q =
        let same : length text ≡ n = cc in
        (λ reason. true≢false (sym e ∙ (listed-exactly limit s live).1 reason), sym same, omega arith)
    reason-9 n w (whole e h) q = absurd (let z : ◌≡◌ {A = ℕ} 0 1 = cc in omega arith)

    is-listed : (ListReason limit s live → ⊥) → is_listed limit s live ≡ true
    is-listed none = go (is_listed limit s live) refl
      where
        go : (b : Bool) → is_listed limit s live ≡ b → is_listed limit s live ≡ true
        go true e = e
        go false e = absurd (none ((listed-exactly limit s live).0 e))

    answers-9 : (n : ℕ) → (r ≡ Err (OutputShort n)) ↔ ((ListReason limit s live → ⊥) × (n ≡ length text) × (length out < n))
    answers-9 n = (
      λ e. reason-9 n (list_said r) saying (ap list_said e),
      λ h. by-9 r n (promise ∙ says-9 (is-listed h.0) (omega (arith, h.1, h.2)) ∙ ap (λ (k : ℕ). refused 9 (k ∷ [])) (sym h.1)),
    )

    reason-written : (n : ℕ) (w : Writing) → Says w → w ≡ written n → (ListReason limit s live → ⊥) × (n ≡ length text) × (n ≤ length out)
    reason-written n w (unlisted e) q = absurd (let z : ◌≡◌ {A = ℕ} 0 1 = cc in omega arith)
    reason-written n w (short e h) q = absurd (let z : ◌≡◌ {A = ℕ} 0 1 = cc in omega arith)
    reason-written n w (whole e h) q =
        let same : length text ≡ n = cc in
        (λ reason. true≢false (sym e ∙ (listed-exactly limit s live).1 reason), sym same, omega arith)

    answers-written : (n : ℕ) → (r ≡ Ok n) ↔ ((ListReason limit s live → ⊥) × (n ≡ length text) × (n ≤ length out))
    answers-written n = (
      λ e. reason-written n (list_said r) saying (ap list_said e),
      λ h. by_written r n (promise ∙ says-written (is-listed h.0) (omega (arith, h.1, h.2)) ∙ ap written (sym h.1)),
    )

-- a call that meets its promise, by its answer: 22 exactly where there is a reason
pub listing-22-exactly : (κs : _) (a : _) (r : _) (st : _) → listing-reads.Post κs a r st → (r ≡ Err NotAReceiver) ↔ ListReason a.0.life.limit a.0 a.1.0.now
listing-22-exactly κs a r st p = answers-22 a.0.life.limit a.0 a.1.0.now a.1.1.0.now r (ap (λ (x : Encoded). x.says) p)

-- 9 exactly where there is none and the output is shorter than the listing, whose length it says
pub listing-9-exactly : (κs : _) (a : _) (r : _) (st : _) (n : ℕ) → listing-reads.Post κs a r st
    → (r ≡ Err (OutputShort n))
    ↔ ((ListReason a.0.life.limit a.0 a.1.0.now → ⊥) × (n ≡ length (listing a.0 (contents a.0.live a.1.0.now))) × (length a.1.1.0.now < n))
unfolding text
listing-9-exactly κs a r st n p = answers-9 a.0.life.limit a.0 a.1.0.now a.1.1.0.now r (ap (λ (x : Encoded). x.says) p) n

-- and written, by that many bytes, exactly where there is none and it fits
pub listing-written-exactly : (κs : _) (a : _) (r : _) (st : _) (n : ℕ) → listing-reads.Post κs a r st
    → (r ≡ Ok n)
    ↔ ((ListReason a.0.life.limit a.0 a.1.0.now → ⊥) × (n ≡ length (listing a.0 (contents a.0.live a.1.0.now))) × (n ≤ length a.1.1.0.now))
unfolding text
listing-written-exactly κs a r st n p = answers-written a.0.life.limit a.0 a.1.0.now a.1.1.0.now r (ap (λ (x : Encoded). x.says) p) n
