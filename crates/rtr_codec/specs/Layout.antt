-- The pictures of RFC 8210, sections 5.2 to 5.11, as data: what stands behind a PDU's version and type, field by field. A PDU's length, its
-- ignored bytes and the places of its values are all read off these lists, a value's by its label. RFC 6810, 5.2 to 5.10, has the same
-- pictures for version 0, but for End of Data; bytes 2 and 3 are called reserved there where they are called zero here.
use Rattle.std.specs.Prelude.{ℕ, ◌+◌, Bool, cond, List, [], ◌∷◌, eqb}
use Rattle.rtr_codec.specs.Bytes.{number}
use Rattle.rtr_models.specs.declared.Place.{Place}
use Rattle.rtr_models.specs.declared.RtrProtocolVersion.{RtrProtocolVersion}
use Rattle.rtr_models.specs.declared.RtrProtocolVersion.TheVariants.{V0, V1}

-- what a field is called (RFC 8210, 5.1); an address is one word of 32 bits, or four
pub data Label : Type 0 where
  session_id serial_number flags prefix_length max_length address0 address1 address2 address3 as_number : Label
  refresh_interval retry_interval expire_interval key_identifier error_code encapsulated_length text_length : Label

pub data Field : Type 0 where
  -- so many bytes that are sent as zero and ignored on receipt
  ignored : ℕ → Field
  -- the length of the whole PDU, in 4 bytes
  total : Field
  -- a number of so many bytes
  value : Label → ℕ → Field
  -- so many bytes that are named by their place
  payload : Label → ℕ → Field

-- 5.2 Serial Notify, 5.3 Serial Query; RFC 6810, 5.8 End of Data
abbrev pub serial_layout : List Field
serial_layout = value session_id 2 ∷ total ∷ value serial_number 4 ∷ []

-- 5.4 Reset Query, 5.9 Cache Reset
abbrev pub bare_layout : List Field
bare_layout = ignored 2 ∷ total ∷ []

-- 5.5 Cache Response
abbrev pub response_layout : List Field
response_layout = value session_id 2 ∷ total ∷ []

-- 5.6 IPv4 Prefix
abbrev pub ipv4_layout : List Field
ipv4_layout =
    ignored 2 ∷ total ∷ value flags 1 ∷ value prefix_length 1 ∷ value max_length 1 ∷ ignored 1 ∷ value address0 4 ∷ value as_number 4 ∷ []

-- 5.7 IPv6 Prefix
abbrev pub ipv6_layout : List Field
ipv6_layout =
    ignored 2 ∷ total ∷ value flags 1 ∷ value prefix_length 1 ∷ value max_length 1 ∷ ignored 1 ∷ value address0 4 ∷ value address1 4 ∷ value address2 4 ∷ value address3 4 ∷ value as_number 4 ∷ []

-- 5.8 End of Data: version 1 has three intervals more
abbrev pub end_layout : RtrProtocolVersion → List Field
end_layout V0 = serial_layout
end_layout V1 =
    value session_id 2 ∷ total ∷ value serial_number 4 ∷ value refresh_interval 4 ∷ value retry_interval 4 ∷ value expire_interval 4 ∷ []

-- 5.10 Router Key, without the key info, which is the rest of the PDU
abbrev pub key_layout : List Field
key_layout = value flags 1 ∷ ignored 1 ∷ total ∷ payload key_identifier 20 ∷ value as_number 4 ∷ []

-- the same in the crate's arrangement (document 01, "Reading"; a departure, see Reading)
abbrev pub crate_key_layout : List Field
crate_key_layout = ignored 2 ∷ total ∷ value flags 1 ∷ ignored 1 ∷ payload key_identifier 20 ∷ value as_number 4 ∷ []

-- 5.11 Error Report, as far as the encapsulated PDU
abbrev pub report_layout : List Field
report_layout = value error_code 2 ∷ total ∷ value encapsulated_length 4 ∷ []

-- and between the encapsulated PDU and the text
abbrev pub text_layout : List Field
text_layout = value text_length 4 ∷ []

-- how many bytes a field takes
abbrev pub width : Field → ℕ
width (ignored n) = n
width total = 4
width (value label n) = n
width (payload label n) = n

abbrev pub widths : List Field → ℕ
widths [] = 0
widths (f ∷ fs) = width f + widths fs

-- the length of a PDU of these fields: the version and the type are the 2 bytes before them
abbrev pub length_of : List Field → ℕ
length_of fs = 2 + widths fs

-- labels are told apart by their numbers
abbrev pub rank : Label → ℕ
rank session_id = 0
rank serial_number = 1
rank flags = 2
rank prefix_length = 3
rank max_length = 4
rank address0 = 5
rank address1 = 6
rank address2 = 7
rank address3 = 8
rank as_number = 9
rank refresh_interval = 10
rank retry_interval = 11
rank expire_interval = 12
rank key_identifier = 13
rank error_code = 14
rank encapsulated_length = 15
rank text_length = 16

abbrev pub same : Label → Label → Bool
same l m = eqb (rank l) (rank m)

-- a part of a slice is named by its place: where it begins, and how many bytes it has (document 01, "What must change shape")
abbrev pub place : ℕ → ℕ → Place
place start len = record { start = start; len = len }

-- where the field of this label stands, of fields that stand from `at` on; no bytes where none has it
abbrev pub place_from : ℕ → List Field → Label → Place
place_from at [] l = place at 0
place_from at (ignored n ∷ fs) l = place_from (at + n) fs l
place_from at (total ∷ fs) l = place_from (at + 4) fs l
place_from at (value m n ∷ fs) l = cond (same m l) (place at n) (place_from (at + n) fs l)
place_from at (payload m n ∷ fs) l = cond (same m l) (place at n) (place_from (at + n) fs l)

-- the number that it has there in s
abbrev pub value_from : ℕ → List Field → List ℕ → Label → ℕ
value_from at fs s l = number s (place_from at fs l).start (place_from at fs l).len

-- the same of a PDU's fields, which stand from byte 2 on
abbrev pub place_of : List Field → Label → Place
place_of fs l = place_from 2 fs l

abbrev pub value_of : List Field → List ℕ → Label → ℕ
value_of fs s l = value_from 2 fs s l

-- where an Error Report's encapsulated PDU begins
abbrev pub encapsulated_start : ℕ
encapsulated_start = length_of report_layout

-- and where its text begins, behind e encapsulated bytes
abbrev pub text_start : ℕ → ℕ
text_start e = length_of report_layout + widths text_layout + e
