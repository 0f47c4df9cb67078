-- A version and an error code are guessed from their numbers; what holds of both holds of the one that a test picks. Assumes nothing.
use mathlib.Core.Bool.{Bool, true, false, cond}
use mathlib.Core.Path.{◌≡◌, refl}
use Rattle.rtr_models.specs.Codes.{version_number, code_number}
use Rattle.rtr_models.specs.declared.RtrProtocolVersion.{RtrProtocolVersion}
use Rattle.rtr_models.specs.declared.RtrProtocolVersion.TheVariants.{V0, V1}
use Rattle.rtr_models.specs.declared.RtrErrorCode.{RtrErrorCode}
use Rattle.rtr_models.specs.declared.RtrErrorCode.TheVariants.{CorruptData, InternalError, NoDataAvailable, InvalidRequest, UnsupportedProtocolVersion, UnsupportedPduType, WithdrawalOfUnknownRecord, DuplicateAnnouncementReceived, UnexpectedProtocolVersion}
use Rattle.rtr_numbers.specs.Back.{loose_version, loose_code}

pub version-back : (v : RtrProtocolVersion) → loose_version (version_number v) ≡ v
version-back V0 = refl
version-back V1 = refl

pub code-back : (c : RtrErrorCode) → loose_code (code_number c) ≡ c
code-back CorruptData = refl
code-back InternalError = refl
code-back NoDataAvailable = refl
code-back InvalidRequest = refl
code-back UnsupportedProtocolVersion = refl
code-back UnsupportedPduType = refl
code-back WithdrawalOfUnknownRecord = refl
code-back DuplicateAnnouncementReceived = refl
code-back UnexpectedProtocolVersion = refl

-- what holds of both holds of the one that a test picks
pub either_way : {A : Type 0} (P : A → Type 0) (b : Bool) (x y : A) → P x → P y → P (cond b x y)
either_way P true x y p q = p
either_way P false x y p q = q
