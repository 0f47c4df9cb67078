-- Where readings differ: for each switch of `Reading`, the slices to which it applies. Two readings give the same verdict exactly if no switch in which they
-- differ applies (`readings-agree-exactly`, proofs/Laws.antt), so no switch is idle where it is said to apply, and none matters elsewhere. docs/DIFFERENCES.md
-- has the RFCs' words and a smallest slice for each.
use Rattle.std.specs.Prelude.{ℕ, ◌+◌, Bool, true, false, ◌&&◌, ◌||◌, List, leb, ltb, eqb, length}
use Rattle.rtr_models.specs.declared.RtrProtocolVersion.TheVariants.{V0, V1}
use Rattle.rtr_codec.specs.Bytes.{number}
use Rattle.rtr_codec.specs.Reading.{Reading}
use Rattle.rtr_codec.specs.Layout.{report_layout, text_layout, value_of, value_from, encapsulated_start, text_start}
use Rattle.rtr_codec.specs.Layout.Label.{error_code, encapsulated_length, text_length}
use Rattle.rtr_codec.specs.Read.{header_length, code_in}

pub data Departure : Type 0 where
  code_eight_in_v0 : Departure
  bytes_behind_text : Departure
  key_by_crate : Departure

-- whether a reading has a departure
abbrev pub has : Reading → Departure → Bool
has R code_eight_in_v0 = R.code_eight_in_v0
has R bytes_behind_text = R.bytes_behind_text
has R key_by_crate = R.key_by_crate

-- the RFCs' text with one departure
abbrev pub only : Departure → Reading
only code_eight_in_v0 = record { code_eight_in_v0 = true; bytes_behind_text = false; key_by_crate = false }
only bytes_behind_text = record { code_eight_in_v0 = false; bytes_behind_text = true; key_by_crate = false }
only key_by_crate = record { code_eight_in_v0 = false; bytes_behind_text = false; key_by_crate = true }

-- whether a slice's header has this version and this type
abbrev pub headed : ℕ → ℕ → List ℕ → Bool
headed version type s = eqb (number s 0 1) version && eqb (number s 1 1) type

-- the end of an Error Report's text, by its two length fields
abbrev pub text_end : List ℕ → ℕ
text_end s =
    let e : ℕ = value_of report_layout s encapsulated_length in
    text_start e + value_from (encapsulated_start + e) text_layout s text_length

-- an Error Report's code
abbrev pub code_of : List ℕ → ℕ
code_of s = value_of report_layout s error_code

-- check 1 is passed: the header is there, and as many bytes as it names
abbrev pub there : List ℕ → Bool
there s = leb 8 (length s) && leb (header_length s) (length s)

-- an Error Report whose code the reading has in the version's list
abbrev pub reported : Reading → List ℕ → Bool
reported R s = headed 0 10 s && code_in R.code_eight_in_v0 V0 (code_of s) || headed 1 10 s && code_in R.code_eight_in_v0 V1 (code_of s)

-- whether a reading comes to a departure's switch in a slice, and finds that it matters: in a version 0 report of code 8, long enough for its fields; in a
-- report that is longer than its text's end, its code being in the list; in a version 1 key
unfoldable pub applies : Reading → Departure → List ℕ → Bool
applies R code_eight_in_v0 s = there s && headed 0 10 s && leb (text_start 0) (header_length s) && eqb (code_of s) 8
applies R bytes_behind_text s = there s && reported R s && ltb (text_end s) (header_length s)
applies R key_by_crate s = there s && headed 1 9 s
