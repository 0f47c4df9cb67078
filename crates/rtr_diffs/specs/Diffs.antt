-- What changed between two listings, as a text: document 02, request Four. One definition from two texts to one text: the refusal's three lines, old file first, or the lines of every change.
use Rattle.std.specs.Prelude.{ℕ, ◌*◌, Bool, cond, ◌&&◌, List, [], ◌∷◌, ◌++◌, eqb, length, replicate, Result}
use Rattle.rtr_encode.specs.Encode.{Encoded}
use Rattle.rtr_encode.specs.Encode.Writing.{refused}
use Rattle.rtr_room.specs.declared.Record.{Record}
use Rattle.rtr_receiver.specs.History.{Changed}
use Rattle.rtr_listing.specs.Listing.{text, decimal, line_of, line, record_lines}
use Rattle.rtr_listing.specs.Promises.{puts, list_said}
use Rattle.rtr_listed.specs.Listed.{Read, read_listing}
use Rattle.rtr_listed.specs.Listed.Read.{listed, misfit}
use Rattle.rtr_listed.specs.Promises.{read_leaves}
use Rattle.rtr_changes.specs.Changes.{changes}
use Rattle.rtr_listing.specs.declared.ListError.{ListError}

-- ---- the text

-- the word of a change
abbrev pub change_word : Bool → List ℕ
change_word announced = cond announced (text "announce") (text "withdraw")

-- "each as `change=withdraw` or `change=announce` and the five record lines"
unfoldable pub change_lines : Bool → Record → List ℕ
change_lines announced r = line "change=" (change_word announced) ++ record_lines r

-- the lines of some changes, one after another
unfoldable pub changes_lines : List Changed → List ℕ
changes_lines [] = []
changes_lines (c ∷ cs) = change_lines c.announced c.what ++ changes_lines cs

-- "then nothing is printed but `refused=24`, `file=old` or `file=new`, and `line=`"
unfoldable pub refusal_lines : List ℕ → ℕ → List ℕ
refusal_lines file number = line "refused=" (decimal 24) ++ line_of (text "file=") file ++ line "line=" (decimal number)

-- the old file was read: the new one is looked at
abbrev pub after_old : List Record → Read → List ℕ
after_old old (listed new) = changes_lines (changes old new.records)
after_old old (misfit number) = refusal_lines (text "new") number

-- "old file first"
abbrev pub diff_read : Read → Read → List ℕ
diff_read (listed old) new = after_old old.records new
diff_read (misfit number) new = refusal_lines (text "old") number

-- two texts, of tables within a limit
unfoldable pub diff_text : ℕ → List ℕ → List ℕ → List ℕ
diff_text limit old new = diff_read (read_listing limit old) (read_listing limit new)

-- ---- the call

-- what it leaves: its answer and the output, and both rooms
pub record DiffLeft : Type 0 where
  pub out : Encoded
  pub old_room : List ℕ
  pub new_room : List ℕ

-- a refused old file leaves no table in either room
abbrev pub new_room_by : ℕ → Read → Read → List ℕ
new_room_by limit (listed old) new = (read_leaves limit new).room
new_room_by limit (misfit number) new = replicate (6 * limit) 0

-- 22 where a room has not the size of the limit, and nothing changes; then 9 with how much is needed, or the text. Each room is left as reading its file leaves it; where the old file is
-- refused the new one is not read, and its room is all zeros.
unfoldable pub diff_says : ℕ → List ℕ → List ℕ → List ℕ → List ℕ → List ℕ → DiffLeft
diff_says limit old new old_room new_room out =
    cond (eqb (length old_room) (6 * limit) && eqb (length new_room) (6 * limit))
    (record {
      out = puts (diff_text limit old new) out;
      old_room = (read_leaves limit (read_listing limit old)).room;
      new_room = new_room_by limit (read_listing limit old) (read_listing limit new);
    })
    (record { out = record { says = refused 22 []; out = out }; old_room = old_room; new_room = new_room })

-- what an answer says, of the memory that it leaves
abbrev pub diff_left : Result ℕ ListError → List ℕ → List ℕ → List ℕ → DiffLeft
diff_left answer old_room new_room out = record { out = record { says = list_said answer; out = out }; old_room = old_room; new_room = new_room }
