-- The loop over the records: after i of them the room holds the i that were read, and what is left to read is what was to be read. Assumes nothing.
use Prim.Native.Nat.{ℕ, suc, ◌+◌, ◌*◌, ◌≤◌, ◌<◌}
use mathlib.Core.Bool.{Bool, true, false, cond}
use mathlib.Core.List.{List, [], ◌∷◌, ◌++◌}
use mathlib.Core.Path.{◌≡◌, sym, ap, ◌∙◌}
use native.Mathlib.Omega.{arith}
use borrow.Author.Tests.{lt-ltb, le-ltb}
use lib.ListN.{length, replicate}
use Rattle.rtr_room.specs.Room.{records, is_room, entered}
use Rattle.rtr_room.specs.declared.Record.{Record}
use Rattle.rtr_room.proofs.Laws.{records-none, empty-is}
use Rattle.rtr_listing.specs.declared.Head.{Head}
use Rattle.rtr_listed.specs.Listed.{Due, next_record}
use Rattle.rtr_listed.specs.Private.{read_on, RecordTook, RecordsTook}
use Rattle.rtr_listed.specs.Private.AllRead.{all, some}
use Rattle.rtr_listed.specs.declared.Cursor.{Cursor}
use Rattle.rtr_listed.specs.declared.RecordRead.{RecordRead}
use Rattle.rtr_listed.proofs.Cursors.{read_off}
use Rattle.rtr_listed.proofs.Order.{room-is, enter_behind}

-- at the loop's head
pub record Reading (limit : ℕ) (s : List ℕ) (count : ℕ) (c : Cursor) (lent : List ℕ) (next : Cursor) (i : ℕ) : Type 0 where
  pub few : i ≤ count
  pub inside : next.at ≤ length s
  pub line : next.line ≤ 8 + 5 * i
  pub rules : is_room limit i lent ≡ true
  pub stands : (h : Head) → h.count ≡ count → read_on limit s (next_record h []) c ≡ read_on limit s (next_record h (records i lent)) next

module _ (limit : ℕ) (s : List ℕ) (count : ℕ) (c : Cursor) where
  pub starts : (lent : List ℕ) → length lent ≡ 6 * limit → lent ≡ replicate (length lent) 0 → c.at ≤ length s → c.line ≤ 8 → Reading limit s count c lent c 0
  starts lent size e h l =
      record {
        few = omega arith;
        inside = h;
        line = omega arith;
        rules = ap (is_room limit 0) (e ∙ ap (λ (n : ℕ). replicate n 0) size) ∙ (empty-is limit).1;
        stands = λ head n. ap (λ (t : List Record). read_on limit s (next_record head t) c) (sym (records-none lent));
      }

  module _ (lent : List ℕ) (next : Cursor) (i : ℕ) (at_head : Reading limit s count c lent next i) where
    due : (h : Head) → h.count ≡ count → i < count → next_record h (records i lent) ≡ Due.family_due h (records i lent)
    due h n l =
        let long : length (records i lent) ≡ i = (room-is limit i lent (record { kind = 0; w0 = 0; w1 = 0; w2 = 0; w3 = 0; asn = 0 }) at_head.rules).1 in
        ap (λ (b : Bool). cond b (Due.family_due h (records i lent)) (Due.end_due h (records i lent))) (lt-ltb (length (records i lent)) h.count (omega (arith, long, n)))

    -- one record more was read
    turn : (r : RecordRead) → i < count → RecordTook s next (records i lent) r → (h : Head) → h.count ≡ count
        → read_on limit s (next_record h []) c ≡ read_on limit s (next_record h (records i lent ++ r.entry ∷ [])) r.next
    turn r l t h n = at_head.stands h n ∙ ap (λ (p : Due). read_on limit s p next) (due h n l) ∙ t.stands limit h

    pub goes_on : (r : RecordRead) (left : List ℕ) → i < count → count ≤ limit → RecordTook s next (records i lent) r → r.next.fits ≡ true → left ≡ (entered lent i r.entry).left → Reading limit s count c left r.next (suc i)
    goes_on r left l w t on e =
        let more = enter_behind limit i lent r.entry at_head.rules (t.ordered on) (t.ruled on) (omega arith) left e in
        record {
          few = l;
          inside = t.near.at;
          line = omega (arith, t.near.line, at_head.line);
          rules = more.0;
          stands = λ h n. turn r l t h n ∙ ap (λ (x : List Record). read_on limit s (next_record h x) r.next) (sym more.1);
        }

    pub stops : (r : RecordRead) (left : List ℕ) → i < count → RecordTook s next (records i lent) r → r.next.fits ≡ false → RecordsTook limit s c count left r.next
    stops r left l t off = (t.near.at, λ h n. some off (turn r l t h n ∙ read_off limit s (next_record h (records i lent ++ r.entry ∷ [])) r.next off))

    pub ends : i ≡ count → RecordsTook limit s c count lent next
    ends e = (
      at_head.inside,
      λ h n.
          let is = room-is limit i lent (record { kind = 0; w0 = 0; w1 = 0; w2 = 0; w3 = 0; asn = 0 }) at_head.rules in
          let last : next_record h (records i lent) ≡ Due.end_due h (records i lent) =
          ap (λ (b : Bool). cond b (Due.family_due h (records i lent)) (Due.end_due h (records i lent))) (le-ltb (length (records i lent)) h.count (omega (arith, is.1, n, e))) in
          all (records i lent) is.0 (is.1 ∙ e ∙ sym n) is.2 (at_head.stands h n ∙ ap (λ (p : Due). read_on limit s p next) last),
    )
