-- What is at the front of an output of 128 bytes or more: no head and no record is longer than 128 bytes, so its lines are written. Assumes nothing.
use Rattle.std.specs.Prelude.{Option, Some, None, Result, Ok, Err}
use Prim.Native.Nat.{ℕ, suc, ◌+◌, ◌≤◌}
use mathlib.Core.List.{List, ◌++◌, append_assoc, append-nil}
use mathlib.Core.Path.{◌≡◌, refl, sym, ap, ◌∙◌, subst}
use native.Mathlib.Omega.{arith}
use lib.ListN.{length, take, drop, length-append}
use lib.Seq.{take_at, take-append-le, take-append-add, length-take-le}
use Rattle.rtr_encode.specs.Encode.{Encoded}
use Rattle.rtr_encode.specs.Encode.Writing.{written}
use Rattle.rtr_room.specs.Room.{record_found}
use Rattle.rtr_listing.specs.Promises.{list_said, leaves, puts}
use Rattle.rtr_listing.specs.declared.ListError.{ListError}
use Rattle.rtr_listing.specs.declared.ListError.TheVariants.{NotAReceiver, OutputShort}
use Rattle.rtr_listing.proofs.Laws.{written_is, record-at-most}
use Rattle.rtr_table.specs.Printing.{Shows, lines_of, lines_up_to}
use Rattle.rtr_room.specs.declared.Record.{Record}

module _ (text out out' : List ℕ) (answer : Result ℕ ListError) (short : length text ≤ 128) (room : 128 ≤ length out) (promise : leaves answer out' ≡ puts text out) where
  left : leaves answer out' ≡ record { says = written (length text); out = text ++ drop (length text) out }
  left = promise ∙ written_is text out (omega arith)

  pub shows-written : (n : ℕ) → answer ≡ Ok n → Shows text n out'
  shows-written n told =
      let said : written n ≡ written (length text) = sym (ap list_said told) ∙ ap (λ (e : Encoded). e.says) left in
      let size : n ≡ length text = cc in
      let bytes : out' ≡ text ++ drop (length text) out = ap (λ (e : Encoded). e.out) left in
      record {
        within = omega (arith, size, ap length bytes, length-append text (drop (length text) out));
        text-is = rw (bytes, size) (take_at text (drop (length text) out) (length text) refl);
      }

  pub never-refused : (e : ListError) → answer ≡ Err e → ⊥
  never-refused NotAReceiver told = let q = sym (ap list_said told) ∙ ap (λ (e : Encoded). e.says) left in let z : ◌≡◌ {A = ℕ} 0 1 = cc in omega arith
  never-refused (OutputShort n) told = let q = sym (ap list_said told) ∙ ap (λ (e : Encoded). e.says) left in let z : ◌≡◌ {A = ℕ} 0 1 = cc in omega arith

-- the lines of what was found at a place of the room
pub shows-found : (found at : Option Record) (n : ℕ) (lines : List ℕ) → found ≡ at → Shows (lines_of found) n lines → Shows (lines_of at) n lines
shows-found found at n lines e = subst (λ (f : Option Record). Shows (lines_of f) n lines) e

pub shows_nothing : (lines : List ℕ) → Shows (lines_of None) 0 lines
shows_nothing lines = record { within = omega arith; text-is = refl }

-- ---- one part behind another

found-at-most : (found : Option Record) → length (lines_of found) ≤ 128
found-at-most (Some r) = record-at-most r
found-at-most None = omega arith

pub shown-length : {text : List ℕ} {n : ℕ} {lines : List ℕ} → Shows text n lines → n ≡ length text
shown-length {n = n} {lines} s = sym (length-take-le n lines s.within) ∙ ap length s.text-is

pub part-at-most : (found : Option Record) {n : ℕ} {lines : List ℕ} → Shows (lines_of found) n lines → n ≤ 128
part-at-most found s = omega (arith, shown-length s, found-at-most found)

-- a text at the front, and another at the front of what stands behind it
pub shows-behind : {text more : List ℕ} {n k : ℕ} {lines part : List ℕ} (rest : List ℕ) → Shows text n lines → Shows more k part → Shows (text ++ more) (n + k) (take n lines ++ (part ++ rest))
shows-behind {text} {more} {n} {k} {lines} {part} rest front behind =
    let size : length (take n lines) ≡ n = length-take-le n lines front.within in
    let within = behind.within in
    record {
      within = omega (arith, size, within, length-append (take n lines) (part ++ rest), length-append part rest);
      text-is =
          ap (λ (x : ℕ). take (x + k) (take n lines ++ (part ++ rest))) (sym size)
          ∙ take-append-add (take n lines) (part ++ rest) k
          ∙ ap (λ (l : List ℕ). take n lines ++ l) (take-append-le k part rest within ∙ behind.text-is)
          ∙ ap (λ (l : List ℕ). l ++ more) front.text-is;
    }

-- the lines at no place, and at one more
pub shows-none : (live : List ℕ) (n : ℕ) (lines : List ℕ) → n ≤ length lines → Shows (take n lines ++ lines_up_to live 0) n lines
unfolding lines_up_to
shows-none live n lines h = record { within = h; text-is = sym (append-nil (take n lines)) }

pub shows-next : (front live : List ℕ) (i : ℕ) {n k : ℕ} {lines part : List ℕ} (rest : List ℕ) →
    Shows (front ++ lines_up_to live i) n lines →
    Shows (lines_of (record_found live i)) k part →
    Shows (front ++ lines_up_to live (i + 1)) (n + k) (take n lines ++ (part ++ rest))
unfolding lines_up_to
shows-next front live i {n} {k} {lines} {part} rest so_far here =
    let place : suc i ≡ i + 1 = omega arith in
    subst (λ (text : List ℕ). Shows text (n + k) (take n lines ++ (part ++ rest)))
    (append_assoc front (lines_up_to live i) (lines_of (record_found live i)) ∙ ap (λ (j : ℕ). front ++ lines_up_to live j) place)
    (shows-behind rest so_far here)
