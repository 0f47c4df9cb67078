-- Document 01's number and values of each answer: "Refusal numbers".
use Rattle.std.specs.Prelude.{ℕ, [], ◌∷◌, Result, Ok, Err}
use Rattle.rtr_codec.specs.Read.{Verdict, text_refusal}
use Rattle.rtr_codec.specs.Read.Verdict.{accepted, refused}
use Rattle.rtr_codec.specs.declared.RtrError.{RtrError}
use Rattle.rtr_codec.specs.declared.RtrError.TheVariants.{IncompletePdu, InvalidProtocolVersion, InvalidPduType, InvalidLength, RouterKeyInV0, InvalidPrefixLength, InvalidErrorCode, InvalidUtf8}
use Rattle.rtr_models.specs.declared.RtrPdu.{RtrPdu}

-- a refusal's number and values; `InvalidUtf8` holds no number yet, and `text_refusal` looks at none
abbrev pub refusal : RtrError → Verdict
refusal (IncompletePdu available needed) = refused 1 (available ∷ needed ∷ [])
refusal (InvalidPduType type) = refused 3 (type ∷ [])
refusal (InvalidProtocolVersion version) = refused 2 (version ∷ [])
refusal (InvalidErrorCode code) = refused 7 (code ∷ [])
refusal (InvalidLength expected actual type) = refused 4 (expected ∷ actual ∷ type ∷ [])
refusal (InvalidPrefixLength length max limit) = refused 6 (length ∷ max ∷ limit ∷ [])
refusal InvalidUtf8 = refused 8 (text_refusal 0)
refusal RouterKeyInV0 = refused 5 []

-- a PDU and the bytes that it took, or the refusal
abbrev pub verdict : Result (RtrPdu × ℕ) RtrError → Verdict
verdict (Ok (pdu, consumed)) = accepted pdu consumed
verdict (Err error) = refusal error

-- the number alone; 0 is no refusal
abbrev pub number_of : Verdict → ℕ
number_of (accepted pdu consumed) = 0
number_of (refused number values) = number
