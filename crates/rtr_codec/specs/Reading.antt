-- A reading: the RFCs' text, with each departure of the crate a switch of its own. docs/DIFFERENCES.md lists exactly these names.
use Rattle.std.specs.Prelude.{Bool, true, false}

pub record Reading : Type 0 where
  -- error code 8 is read in version 0 too (RFC 6810, section 10, ends at 7)
  pub code_eight_in_v0 : Bool
  -- bytes behind an Error Report's text are passed over (RFC 8210, 5.11: the text is the last field)
  pub bytes_behind_text : Bool
  -- a Router Key has its flags at byte 8 and the rest two bytes later (RFC 8210, 5.10: flags at byte 2)
  pub key_by_crate : Bool

-- the text of RFC 6810 and RFC 8210
abbrev pub rfc : Reading
rfc = record { code_eight_in_v0 = false; bytes_behind_text = false; key_by_crate = false }

-- bgpkit-parser 0.23.0
abbrev pub crate : Reading
crate = record { code_eight_in_v0 = true; bytes_behind_text = true; key_by_crate = true }

-- the reading that stream, walk, run reader, receiver and C use, and that the public calls of reading and encoding promise
abbrev pub in_use : Reading
in_use = crate
