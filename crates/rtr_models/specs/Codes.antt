-- The numbers of versions, PDU types and error codes: RFC 8210, sections 5.1, 5.2 to 5.11 and 12 (RFC 6810: 5.1 to 5.10 and 10).
-- A table is a number for each value and the list of the values; what a number finds is read off it.
use Rattle.std.specs.Prelude.{ℕ, cond, List, [], ◌∷◌, eqb, Option, Some, None}
use Rattle.rtr_models.specs.declared.RtrProtocolVersion.{RtrProtocolVersion}
use Rattle.rtr_models.specs.declared.RtrProtocolVersion.TheVariants.{V0, V1}
use Rattle.rtr_models.specs.declared.RtrPduType.{RtrPduType}
use Rattle.rtr_models.specs.declared.RtrPduType.TheVariants.{SerialNotify, SerialQuery, ResetQuery, CacheResponse, IPv4Prefix, IPv6Prefix, EndOfData, CacheReset, RouterKey, ErrorReport}
use Rattle.rtr_models.specs.declared.RtrErrorCode.{RtrErrorCode}
use Rattle.rtr_models.specs.declared.RtrErrorCode.TheVariants.{CorruptData, InternalError, NoDataAvailable, InvalidRequest, UnsupportedProtocolVersion, UnsupportedPduType, WithdrawalOfUnknownRecord, DuplicateAnnouncementReceived, UnexpectedProtocolVersion}

-- the first of the values whose number is n, as `known` hands it over; `unknown` where none has it (the tables below answer an Option, the
-- receiver's lists true or false)
abbrev pub found : {A F : Type 0} → (A → ℕ) → (A → F) → F → List A → ℕ → F
found number known unknown [] n = unknown
found number known unknown (a ∷ rest) n = cond (eqb n (number a)) (known a) (found number known unknown rest n)

-- RFC 6810 is version 0, RFC 8210 version 1
abbrev pub version_number : RtrProtocolVersion → ℕ
version_number V0 = 0
version_number V1 = 1

abbrev pub versions : List RtrProtocolVersion
versions = V0 ∷ V1 ∷ []

-- RFC 8210, 5.2 to 5.11 (there is no type 5)
abbrev pub type_number : RtrPduType → ℕ
type_number SerialNotify = 0
type_number SerialQuery = 1
type_number ResetQuery = 2
type_number CacheResponse = 3
type_number IPv4Prefix = 4
type_number IPv6Prefix = 6
type_number EndOfData = 7
type_number CacheReset = 8
type_number RouterKey = 9
type_number ErrorReport = 10

abbrev pub types : List RtrPduType
types =
    SerialNotify ∷ SerialQuery ∷ ResetQuery ∷ CacheResponse ∷ IPv4Prefix ∷ IPv6Prefix ∷ EndOfData ∷ CacheReset ∷ RouterKey ∷ ErrorReport ∷ []

-- RFC 8210, section 12
abbrev pub code_number : RtrErrorCode → ℕ
code_number CorruptData = 0
code_number InternalError = 1
code_number NoDataAvailable = 2
code_number InvalidRequest = 3
code_number UnsupportedProtocolVersion = 4
code_number UnsupportedPduType = 5
code_number WithdrawalOfUnknownRecord = 6
code_number DuplicateAnnouncementReceived = 7
code_number UnexpectedProtocolVersion = 8

abbrev pub codes : List RtrErrorCode
codes =
    CorruptData ∷ InternalError ∷ NoDataAvailable ∷ InvalidRequest ∷ UnsupportedProtocolVersion ∷ UnsupportedPduType ∷ WithdrawalOfUnknownRecord ∷ DuplicateAnnouncementReceived ∷ UnexpectedProtocolVersion ∷ []

-- what a number finds in each table
abbrev pub version_found : ℕ → Option RtrProtocolVersion
version_found n = found version_number Some None versions n

abbrev pub type_found : ℕ → Option RtrPduType
type_found n = found type_number Some None types n

abbrev pub code_found : ℕ → Option RtrErrorCode
code_found n = found code_number Some None codes n
