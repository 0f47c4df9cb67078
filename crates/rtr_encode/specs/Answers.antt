-- Document 01's number and values of each answer of encoding: "Encoding" and "Refusal numbers".
use Rattle.std.specs.Prelude.{List, [], ◌∷◌, ℕ, Result, Ok, Err}
use Rattle.rtr_codec.specs.Read.{text_refusal}
use Rattle.rtr_encode.specs.Encode.{Writing, Encoded}
use Rattle.rtr_encode.specs.Encode.Writing.{written, refused}
use Rattle.rtr_encode.specs.declared.EncodeError.{EncodeError}
use Rattle.rtr_encode.specs.declared.EncodeError.TheVariants.{PlaceOutside, InvalidUtf8, TooLong, OutputShort}

-- a refusal's number and values
abbrev pub encode_refusal : EncodeError → Writing
encode_refusal PlaceOutside = refused 11 []
encode_refusal InvalidUtf8 = refused 8 (text_refusal 0)
encode_refusal TooLong = refused 10 []
encode_refusal (OutputShort needed) = refused 9 (needed ∷ [])

-- the bytes written, or the refusal
abbrev pub writing : Result ℕ EncodeError → Writing
writing (Ok n) = written n
writing (Err error) = encode_refusal error

-- an answer and the output that it leaves
abbrev pub leaves : Result ℕ EncodeError → List ℕ → Encoded
leaves answer out = record { says = writing answer; out = out }

-- the number alone; 0 is no refusal
abbrev pub number_of : Writing → ℕ
number_of (written n) = 0
number_of (refused number values) = number
