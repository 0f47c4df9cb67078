-- What a call does to the room of a table, in two steps. First the numbers: to put six in at place p, or to take six out there, is to do so
-- with the record at place p of the table, and the zeros behind are six fewer or six more. Then the place is the record's rank, where
-- entering puts it and leaving takes it out; so each case of the call is the case of `enter` or `leave`. Assumes nothing.
use Prim.Native.Nat.{ℕ, suc, ◌+◌, ◌-◌, ◌*◌, ◌<◌, ◌≤◌}
use mathlib.Core.Bool.{Bool, true, false, cond}
use mathlib.Core.List.{List, ◌∷◌, ◌++◌, append_assoc}
use mathlib.Core.Path.{◌≡◌, refl, sym, ap, ◌∙◌}
use native.Mathlib.Omega.{arith}
use borrow.Author.Tests.{eq-eqb, ne_eqb, le-leb, leb-true, leb-false}
use lib.Dec.{leb, eqb}
use lib.ListN.{length, take, drop, replicate, length-append, length-drop}
use lib.Seq.{take_at, drop_at, drop-drop, length-take-le}
use Rattle.rtr_room.specs.Table.{is_in, rank, insert, remove, ordered, Change, enter, leave}
use Rattle.rtr_room.specs.Table.Change.{changed}
use Rattle.rtr_room.specs.Room.{numbers, flat, room, limit_of, place, put_in, take_out, look_up, keeps, entered, gone, outcome_of}
use Rattle.rtr_room.specs.Room.Found.{stands_at, missing_at}
use Rattle.rtr_room.specs.Room.Said.{counted}
use Rattle.rtr_room.specs.declared.Record.{Record}
use Rattle.rtr_room.proofs.Laws.Tables.{insert-length, remove-length}
use Rattle.rtr_room.proofs.Laws.Rooms.{flat-length, flat_append, take-flat, drop-flat, room-limit}
use Rattle.rtr_room.proofs.Laws.Ranks.{rank-within, insert-at-rank, remove-at-rank}
use Rattle.rtr_room.proofs.Laws.Places.{place-is-rank, stands-is-in}

-- zeros of a room of `limit` records with `count` in use
abbrev spare : ℕ → ℕ → List ℕ
spare limit count = replicate (6 * limit - 6 * count) 0

spare-fewer : (limit count : ℕ) → count < limit → drop 6 (spare limit count) ≡ spare limit (suc count)
spare-fewer limit count h =
    let six : 6 * limit - 6 * count ≡ suc (suc (suc (suc (suc (suc (6 * limit - 6 * suc count)))))) = omega arith in
    rw six

spare_more : (limit count : ℕ) → count < limit → replicate 6 0 ++ spare limit (suc count) ≡ spare limit count
spare_more limit count h =
    let six : 6 * limit - 6 * count ≡ suc (suc (suc (suc (suc (suc (6 * limit - 6 * suc count)))))) = omega arith in
    rw six

rest-length : (i : ℕ) (t : List Record) → length (flat (drop i t)) ≡ 6 * length t - 6 * i
rest-length i t = omega (arith, flat-length (drop i t), length-drop i t)

-- the numbers from place p to the last record, and behind that
pub rest_of : (i : ℕ) (t : List Record) (s : List ℕ) (n : ℕ) → i ≤ length t → n ≡ 6 * length t - 6 * i → take n (drop (6 * i) (flat t ++ s)) ≡ flat (drop i t)
rest_of i t s n h e = ap (take n) (drop-flat i t s h) ∙ take_at (flat (drop i t)) s n (rest-length i t ∙ sym e)

pub behind-of : (t : List Record) (s : List ℕ) → drop (6 * length t) (flat t ++ s) ≡ s
behind-of t s = drop_at (flat t) s (6 * length t) (flat-length t)

spare-after : (limit n : ℕ) (t : List Record) → suc n ≡ length t → length t ≤ limit → replicate 6 0 ++ drop (6 * length t) (flat t ++ spare limit (length t)) ≡ spare limit n
spare-after limit n t e l = rw (behind-of t (spare limit (length t)), ← e) (spare_more limit n (omega arith))

pub put-in-room : (limit p : ℕ) (r : Record) (t : List Record) → p ≤ length t → length t < limit → put_in p r (length t) (room limit t) ≡ room limit (take p t ++ r ∷ drop p t)
unfolding put_in room flat
put-in-room limit p r t h l =
    let a : take (6 * p) (flat t ++ spare limit (length t)) ≡ flat (take p t) = take-flat p t _ h in
    let b : take (6 * length t - 6 * p) (drop (6 * p) (flat t ++ spare limit (length t))) ≡ flat (drop p t) = rest_of p t _ _ h refl in
    let c : drop (6 * length t + 6) (flat t ++ spare limit (length t)) ≡ spare limit (suc (length t)) =
    sym (drop-drop 6 (6 * length t) _) ∙ ap (drop 6) (behind-of t _) ∙ spare-fewer limit (length t) l in
    let n : length (take p t ++ r ∷ drop p t) ≡ suc (length t) =
    omega (arith, length-append (take p t) (r ∷ drop p t), length-take-le p t h, length-drop p t) in
    rw (a, b, c, n, flat_append (take p t) (r ∷ drop p t)) (sym (append_assoc (flat (take p t)) (numbers r ++ flat (drop p t)) (spare limit (suc (length t)))))

pub take-out-room : (limit p : ℕ) (t : List Record) → p < length t → length t ≤ limit → take_out p (length t) (room limit t) ≡ room limit (take p t ++ drop (suc p) t)
unfolding take_out room
take-out-room limit p t h l =
    let a : take (6 * p) (flat t ++ spare limit (length t)) ≡ flat (take p t) = take-flat p t _ (omega arith) in
    let six : 6 * p + 6 ≡ 6 * suc p = omega arith in
    let b : take (6 * length t - 6 - 6 * p) (drop (6 * suc p) (flat t ++ spare limit (length t))) ≡ flat (drop (suc p) t) =
    rest_of (suc p) t _ (6 * length t - 6 - 6 * p) h (omega arith) in
    let n : suc (length (take p t ++ drop (suc p) t)) ≡ length t =
    omega (arith, length-append (take p t) (drop (suc p) t), length-take-le p t (omega arith), length-drop (suc p) t) in
    let c : replicate 6 0 ++ drop (6 * length t) (flat t ++ spare limit (length t)) ≡ spare limit (length (take p t ++ drop (suc p) t)) =
    spare-after limit (length (take p t ++ drop (suc p) t)) t n l in
    rw (a, six, b, c, flat_append (take p t) (drop (suc p) t))
    (sym (append_assoc (flat (take p t)) (flat (drop (suc p) t)) (spare limit (length (take p t ++ drop (suc p) t)))))

module _ (limit : ℕ) (r : Record) (t : List Record) (h : ordered t ≡ true) (l : length t ≤ limit) where
  fits : leb (length t) (limit_of (room limit t)) ≡ true
  fits = rw (room-limit limit t l) (le-leb (length t) limit l)

  pub look-up-is : look_up (room limit t) (length t) r ≡ cond (is_in r t) (stands_at (rank r t)) (missing_at (rank r t))
  unfolding look_up
  look-up-is = rw (fits, stands-is-in limit t h r, place-is-rank limit t h r)

  pub enter-is : entered (room limit t) (length t) r ≡ outcome_of limit t (enter limit r t)
  unfolding entered outcome_of enter
  enter-is = rw (fits, stands-is-in limit t h r, room-limit limit t l) (go (is_in r t) (leb limit (length t)) refl)
    where
      go : (a b : Bool) → leb limit (length t) ≡ b → cond a (keeps 17 (room limit t)) (cond (eqb (length t) limit) (keeps 18 (room limit t)) (record { says = counted (length t + 1); left = put_in (place (room limit t) (length t) r) r (length t) (room limit t) })) ≡ outcome_of limit t (cond a (Change.refused 17) (cond b (Change.refused 18) (changed (insert r t))))
      go true b e = refl
      go false true e = rw (eq-eqb (length t) limit (omega (arith, leb-true limit (length t) e)))
      go false false e =
          let room-left : length t < limit = leb-false limit (length t) e in
          let one : length t + 1 ≡ length (insert r t) = omega (arith, insert-length r t) in
          let moved : put_in (place (room limit t) (length t) r) r (length t) (room limit t) ≡ room limit (insert r t) =
          rw (place-is-rank limit t h r, insert-at-rank r t h) (put-in-room limit (rank r t) r t (rank-within r t) room-left) in
          rw (ne_eqb (length t) limit (omega arith), one, moved)

  pub leave-is : gone (room limit t) (length t) r ≡ outcome_of limit t (leave r t)
  unfolding gone outcome_of leave
  leave-is = rw (fits, stands-is-in limit t h r) (go (is_in r t) refl)
    where
      go : (a : Bool) → is_in r t ≡ a → cond a (record { says = counted (length t - 1); left = take_out (place (room limit t) (length t) r) (length t) (room limit t) }) (keeps 16 (room limit t)) ≡ outcome_of limit t (cond a (changed (remove r t)) (Change.refused 16))
      go true e =
          let m : _ = remove-at-rank r t h e in
          let one : length t - 1 ≡ length (remove r t) = omega (arith, remove-length r t e) in
          let moved : take_out (place (room limit t) (length t) r) (length t) (room limit t) ≡ room limit (remove r t) =
          rw (place-is-rank limit t h r, m.1) (take-out-room limit (rank r t) t m.0 l) in
          rw (one, moved)
      go false e = refl
