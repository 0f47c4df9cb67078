-- How long the texts are, and what stands in them. Assumes nothing.
use Prim.Native.Nat.{ℕ, ◌+◌, ◌*◌, ◌≤◌}
use mathlib.Core.Bool.{Bool, true, false}
use mathlib.Core.List.{List, [], ◌∷◌, ◌++◌, map, append_assoc}
use mathlib.Core.Path.{◌≡◌, refl, sym, ap, ◌∙◌}
use native.Mathlib.Omega.{arith}
use lib.ListN.{length, length-append}
use Rattle.rtr_room.specs.declared.Record.{Record}
use Rattle.rtr_receiver.specs.History.{Changed}
use Rattle.rtr_listing.specs.Listing.{text, decimal, line_of, record_lines}
use Rattle.rtr_listing.proofs.Laws.{line-is, record-at-most, decimal-length}
use Rattle.rtr_changes.specs.Changes.{without, changes}
use Rattle.rtr_changes.proofs.Laws.{changes-are}
use Rattle.rtr_diffs.specs.Diffs.{change_word, change_lines, changes_lines, refusal_lines}
use Rattle.rtr_diffs.specs.Private.{sided, side_lines}

pub line-length : (name value : List ℕ) → length (line_of name value) ≡ length name + length value + 1
line-length name value = ap length (line-is name value) ∙ simp length-append (omega arith)

pub word-length : (announced : Bool) → length (line_of (text "change=") (change_word announced)) ≡ 16
word-length true = line-length (text "change=") (text "announce")
word-length false = line-length (text "change=") (text "withdraw")

pub change-is : (announced : Bool) (r : Record) → change_lines announced r ≡ line_of (text "change=") (change_word announced) ++ record_lines r
unfolding change_lines
change-is announced r = refl

pub change-length-is : (announced : Bool) (r : Record) → length (change_lines announced r) ≡ 16 + length (record_lines r)
change-length-is announced r = ap length (change-is announced r) ∙ length-append (line_of (text "change=") (change_word announced)) (record_lines r) ∙ omega (arith, word-length announced)

pub change-at-most : (announced : Bool) (r : Record) → length (change_lines announced r) ≤ 144
change-at-most announced r = omega (arith, change-length-is announced r, record-at-most r)

pub refusal_is : (file : List ℕ) (number : ℕ) → refusal_lines file number ≡ line_of (text "refused=") (decimal 24) ++ line_of (text "file=") file ++ line_of (text "line=") (decimal number)
unfolding refusal_lines
refusal_is file number = refl

-- its three lines
pub refusal-parts : (file : List ℕ) (number : ℕ)
    → length (refusal_lines file number) ≡ length (line_of (text "refused=") (decimal 24)) + length (line_of (text "file=") file) + length (line_of (text "line=") (decimal number))
refusal-parts file number = ap length (refusal_is file number) ∙ simp length-append

pub refusal-short : (file : List ℕ) (number : ℕ) → length file ≡ 3 → length (refusal_lines file number) ≤ 64
refusal-short file number h =
    omega (
      arith,
      refusal-parts file number,
      line-length (text "refused=") (decimal 24),
      decimal-length 24,
      line-length (text "file=") file,
      line-length (text "line=") (decimal number),
      decimal-length number,
    )

-- ---- one side

pub side-none : (announced : Bool) (s t : List Record) → without s t ≡ [] → side_lines announced s t ≡ []
unfolding side_lines changes_lines
side-none announced s t e = ap (λ (u : List Record). changes_lines (map (sided announced) u)) e

pub side-next : (announced : Bool) (s s' t : List Record) (r : Record) → without s t ≡ r ∷ without s' t → side_lines announced s t ≡ change_lines announced r ++ side_lines announced s' t
unfolding side_lines changes_lines
side-next announced s s' t r e = ap (λ (u : List Record). changes_lines (map (sided announced) u)) e

changes-append : (cs ds : List Changed) → changes_lines (cs ++ ds) ≡ changes_lines cs ++ changes_lines ds
unfolding changes_lines
changes-append [] ds = refl
changes-append (c ∷ cs) ds =
    ap (λ (b : List ℕ). change_lines c.announced c.what ++ b) (changes-append cs ds) ∙ sym (append_assoc (change_lines c.announced c.what) (changes_lines cs) (changes_lines ds))

-- all changes are both sides
pub both-sides : (old new : List Record) → changes_lines (changes old new) ≡ side_lines false old new ++ side_lines true new old
unfolding side_lines
both-sides old new = ap changes_lines (changes-are old new) ∙ changes-append (map (sided false) (without old new)) (map (sided true) (without new old))

pub both-lengths : (old new : List Record) (m n : ℕ) → m ≡ length (side_lines false old new) → n ≡ length (side_lines true new old) → length (changes_lines (changes old new)) ≡ m + n
both-lengths old new m n p q =
    ap length (both-sides old new) ∙ length-append (side_lines false old new) (side_lines true new old) ∙ (λ i. sym p i + sym q i)

-- no change is longer than 144 bytes
pub changes-at-most-long : (cs : List Changed) → length (changes_lines cs) ≤ 144 * length cs
unfolding changes_lines
changes-at-most-long [] = omega arith
changes-at-most-long (c ∷ cs) =
    omega (
      arith,
      length-append (change_lines c.announced c.what) (changes_lines cs),
      change-at-most c.announced c.what,
      changes-at-most-long cs,
    )

-- no changes have no lines, and nothing else has none
pub lines_none : changes_lines [] ≡ []
unfolding changes_lines
lines_none = refl

pub no_lines : (cs : List Changed) → changes_lines cs ≡ [] → cs ≡ []
unfolding changes_lines
no_lines [] e = refl
no_lines (c ∷ cs) e =
    absurd (omega (arith, ap length e, length-append (change_lines c.announced c.what) (changes_lines cs), change-length-is c.announced c.what))
