-- The quick way of reading a prefix comes to the plain one: where a whole prefix of version 1 stands at the front, reading goes by its type.
-- Assumes nothing.
use Rattle.std.specs.Prelude.{Some}
use Prim.Native.Nat.{ℕ}
use mathlib.Core.Bool.{true, false}
use mathlib.Core.List.{List}
use mathlib.Core.Path.{◌≡◌, refl}
use native.Mathlib.Omega.{arith}
use borrow.Author.Tests.{le-leb}
use Rattle.rtr_models.specs.Codes.{type_found}
use Rattle.rtr_models.specs.declared.RtrProtocolVersion.TheVariants.{V1}
use Rattle.rtr_models.specs.declared.RtrPduType.{RtrPduType}
use Rattle.rtr_models.specs.declared.RtrPduType.TheVariants.{IPv4Prefix, IPv6Prefix}
use Rattle.rtr_codec.specs.Reading.{Reading}
use Rattle.rtr_codec.specs.Read.{read_ipv4_prefix, read_ipv6_prefix, read_as, read_typed, read_versioned, read}
use Rattle.rtr_codec.specs.Private.{PlainPrefix}

-- a test that failed says nothing
pub no : {A : Type 0} → false ≡ true → A
no e = absurd (let z : ◌≡◌ {A = ℕ} 0 1 = cc in omega arith)

-- over both types
by-type : (R : Reading) (type : RtrPduType) (t n limit : ℕ) (s : List ℕ) → type_found t ≡ Some type → PlainPrefix t n limit s → read R s ≡ read_as R V1 type s
unfolding read read_versioned read_typed
by-type R type t n limit s found p =
    simp (le-leb _ _ p.0.1.0, ← p.0.0, le-leb _ _ p.0.1.1, p.1.0, p.1.1.0, found)

pub plain-ipv4 : (R : Reading) (n limit : ℕ) (s : List ℕ) → PlainPrefix 4 n limit s → read R s ≡ read_ipv4_prefix V1 s
unfolding read_as
plain-ipv4 R n limit s p = by-type R IPv4Prefix 4 n limit s refl p

pub plain-ipv6 : (R : Reading) (n limit : ℕ) (s : List ℕ) → PlainPrefix 6 n limit s → read R s ≡ read_ipv6_prefix V1 s
unfolding read_as
plain-ipv6 R n limit s p = by-type R IPv6Prefix 6 n limit s refl p
