-- The laws that higher crates cite: each table goes both ways. Assumes nothing.
use Rattle.std.specs.Prelude.{Some, None}
use Prim.Native.Nat.{ℕ, ◌≤◌}
use mathlib.Core.Logic.{◌↔◌}
use mathlib.Core.Path.{◌≡◌, refl}
use native.Mathlib.Omega.{arith}
use Rattle.rtr_models.specs.Codes.{version_number, versions, version_found, type_number, types, type_found, code_number, codes, code_found}
use Rattle.rtr_models.specs.declared.RtrProtocolVersion.{RtrProtocolVersion}
use Rattle.rtr_models.specs.declared.RtrProtocolVersion.TheVariants.{V0, V1}
use Rattle.rtr_models.specs.declared.RtrPduType.{RtrPduType}
use Rattle.rtr_models.specs.declared.RtrPduType.TheVariants.{SerialNotify, SerialQuery, ResetQuery, CacheResponse, IPv4Prefix, IPv6Prefix, EndOfData, CacheReset, RouterKey, ErrorReport}
use Rattle.rtr_models.specs.declared.RtrErrorCode.{RtrErrorCode}
use Rattle.rtr_models.specs.declared.RtrErrorCode.TheVariants.{CorruptData, InternalError, NoDataAvailable, InvalidRequest, UnsupportedProtocolVersion, UnsupportedPduType, WithdrawalOfUnknownRecord, DuplicateAnnouncementReceived, UnexpectedProtocolVersion}
use Rattle.rtr_models.proofs.Tables.{finds-its-own, finds-none}

version-back : (v : RtrProtocolVersion) → version_found (version_number v) ≡ Some v
version-back V0 = refl
version-back V1 = refl

-- a number finds a version exactly when it is that version's number
pub version-known : (n : ℕ) (v : RtrProtocolVersion) → version_found n ≡ Some v ↔ (n ≡ version_number v)
version-known = finds-its-own version_number versions version-back

-- a number finds no version exactly when it is no version's
pub version-unknown : (n : ℕ) → version_found n ≡ None ↔ ((v : RtrProtocolVersion) → n ≡ version_number v → ⊥)
version-unknown = finds-none version_number versions version-back

type-back : (t : RtrPduType) → type_found (type_number t) ≡ Some t
type-back SerialNotify = refl
type-back SerialQuery = refl
type-back ResetQuery = refl
type-back CacheResponse = refl
type-back IPv4Prefix = refl
type-back IPv6Prefix = refl
type-back EndOfData = refl
type-back CacheReset = refl
type-back RouterKey = refl
type-back ErrorReport = refl

-- a number finds a type exactly when it is that type's number
pub type-known : (n : ℕ) (t : RtrPduType) → type_found n ≡ Some t ↔ (n ≡ type_number t)
type-known = finds-its-own type_number types type-back

-- a number finds no type exactly when it is no type's
pub type-unknown : (n : ℕ) → type_found n ≡ None ↔ ((t : RtrPduType) → n ≡ type_number t → ⊥)
type-unknown = finds-none type_number types type-back

code-back : (c : RtrErrorCode) → code_found (code_number c) ≡ Some c
code-back CorruptData = refl
code-back InternalError = refl
code-back NoDataAvailable = refl
code-back InvalidRequest = refl
code-back UnsupportedProtocolVersion = refl
code-back UnsupportedPduType = refl
code-back WithdrawalOfUnknownRecord = refl
code-back DuplicateAnnouncementReceived = refl
code-back UnexpectedProtocolVersion = refl

-- a number finds an error code exactly when it is that code's number
pub code-known : (n : ℕ) (c : RtrErrorCode) → code_found n ≡ Some c ↔ (n ≡ code_number c)
code-known = finds-its-own code_number codes code-back

-- a number finds no error code exactly when it is no code's
pub code-unknown : (n : ℕ) → code_found n ≡ None ↔ ((c : RtrErrorCode) → n ≡ code_number c → ⊥)
code-unknown = finds-none code_number codes code-back

-- the codes end at 8
pub code-at-most-8 : (c : RtrErrorCode) → code_number c ≤ 8
code-at-most-8 CorruptData = omega arith
code-at-most-8 InternalError = omega arith
code-at-most-8 NoDataAvailable = omega arith
code-at-most-8 InvalidRequest = omega arith
code-at-most-8 UnsupportedProtocolVersion = omega arith
code-at-most-8 UnsupportedPduType = omega arith
code-at-most-8 WithdrawalOfUnknownRecord = omega arith
code-at-most-8 DuplicateAnnouncementReceived = omega arith
code-at-most-8 UnexpectedProtocolVersion = omega arith
