-- The round trips, for readers and for the crates above: a value that fits its types comes back from its numbers, and numbers that give a
-- value are that value's. Assumes nothing.
use Rattle.std.specs.Prelude.{Some, None}
use Prim.Native.Nat.{ℕ}
use mathlib.Core.Bool.{Bool, cond}
use mathlib.Core.List.{List}
use mathlib.Core.Logic.{◌↔◌}
use mathlib.Core.Path.{◌≡◌, refl, ap, ◌∙◌}
use native.Mathlib.Omega.{arith}
use borrow.Author.Tests.{eq-eqb}
use lib.Dec.{eqb}
use lib.ListN.{length, get_or}
use Rattle.rtr_receiver.specs.Fits.{TableNumbersFit}
use Rattle.rtr_receiver.specs.declared.Table.{Table}
use Rattle.rtr_receiver.specs.declared.Session.{Session}
use Rattle.rtr_numbers.specs.Numbers.{table_number, table_or, table_numbers_of, session_size, numbers_of, session_numbers}
use Rattle.rtr_numbers.specs.Back.{low_table, loose_session, session_if, session_of, table_if, table_found}
use Rattle.rtr_numbers.specs.Ranges.{SessionFits}
use Rattle.rtr_numbers.proofs.Founds.{known-exactly}
use Rattle.rtr_numbers.proofs.Tables.{low-back, low_fits}
use Rattle.rtr_numbers.proofs.Sessions.{session-back, session-fits}

-- how many numbers there are; number 17 counts the bytes held, number 18 is the limit
pub session-length : (s : Session) → length (session_numbers s) ≡ session_size
unfolding numbers_of
session-length s = refl

pub session-held : (s : Session) → get_or (session_numbers s) 17 0 ≡ s.held
unfolding numbers_of
session-held s = refl

pub session-limit : (s : Session) → get_or (session_numbers s) 18 0 ≡ s.life.limit
unfolding numbers_of
session-limit s = refl

-- number 6 is whether there is a table, 7 to 11 are its session, serial and intervals, and 15 counts the live room's records
pub session-table : (s : Session) →
    (get_or (session_numbers s) 6 0 ≡ table_number s.table)
    × (get_or (session_numbers s) 7 0 ≡ (table_or s.table).session)
    × (get_or (session_numbers s) 8 0 ≡ (table_or s.table).serial)
    × (get_or (session_numbers s) 9 0 ≡ (table_or s.table).refresh)
    × (get_or (session_numbers s) 10 0 ≡ (table_or s.table).retry)
    × (get_or (session_numbers s) 11 0 ≡ (table_or s.table).expire)
    × (get_or (session_numbers s) 15 0 ≡ s.live.records)
unfolding numbers_of
session-table s = (refl, refl, refl, refl, refl, refl, refl)

-- a session is known exactly where the numbers are those of a session that fits its types
pub session-exactly : (n : List ℕ) (s : Session) → (session_of n ≡ Some s) ↔ (SessionFits s × (n ≡ session_numbers s))
unfolding session_if
session-exactly =
    known-exactly session_numbers Some None SessionFits loose_session session-fits session-back (λ x y e. cc)
    (λ x e. let z : ◌≡◌ {A = ℕ} 0 1 = cc in omega arith)

-- so one that fits its types comes back from its numbers
pub session-of-numbers : (s : Session) → SessionFits s → session_of (session_numbers s) ≡ Some s
session-of-numbers s h = (session-exactly (session_numbers s) s).1 (h, refl)

-- so numbers that were set to a session's read back as it
pub set-reads-back : (s : Session) (n x : List ℕ) → SessionFits s → x ≡ cond (eqb (length n) session_size) (session_numbers s) n → length n ≡ session_size → session_of x ≡ Some s
set-reads-back s n x h put long =
    ap session_of (put ∙ ap (λ (b : Bool). cond b (session_numbers s) n) (eq-eqb (length n) session_size long)) ∙ session-of-numbers s h

-- and numbers that give a session are its numbers, and it fits its types
pub numbers-of-session : (n : List ℕ) (s : Session) → session_of n ≡ Some s → n ≡ session_numbers s
numbers-of-session n s e = ((session-exactly n s).0 e).1

pub session-found-fits : (n : List ℕ) (s : Session) → session_of n ≡ Some s → SessionFits s
session-found-fits n s e = ((session-exactly n s).0 e).0

-- numbers of another count are no session's
pub session-of-length : (n : List ℕ) (s : Session) → session_of n ≡ Some s → length n ≡ session_size
session-of-length n s e = ap length (numbers-of-session n s e) ∙ session-length s

-- a table is known exactly where the five numbers are its own, of 16 and 32 bits
pub table-exactly : (n : List ℕ) (t : Table) → (table_found n ≡ Some t) ↔ (TableNumbersFit t × (n ≡ table_numbers_of t))
unfolding table_if
table-exactly =
    known-exactly table_numbers_of Some None TableNumbersFit (λ (n : List ℕ). low_table n 0) (λ n. low_fits n 0) low-back (λ x y e. cc)
    (λ x e. let z : ◌≡◌ {A = ℕ} 0 1 = cc in omega arith)
