-- An Error Report's checks: the part of a slice from a to a + t is t bytes from a, so the test of that part is the test of the text; and
-- the crate takes every code of the table in both versions. Assumes nothing.
use Rattle.std.specs.Prelude.{Some}
use Prim.Native.Nat.{ℕ, ◌+◌, ◌-◌, ◌≤◌}
use mathlib.Core.Bool.{Bool, true, false}
use mathlib.Core.List.{List}
use mathlib.Core.Path.{◌≡◌, refl, ◌∙◌, ap, sym}
use native.Mathlib.Nat.{add-sub_cancel_left}
use native.Mathlib.Omega.{arith}
use borrow.Author.Tests.{leb-false, eq-eqb}
use lib.Dec.{leb}
use lib.ListN.{take, drop}
use Rattle.rtr_text.specs.Utf8.{well_formed}
use Rattle.rtr_models.specs.Codes.{code_found}
use Rattle.rtr_models.specs.declared.RtrProtocolVersion.{RtrProtocolVersion}
use Rattle.rtr_models.specs.declared.RtrProtocolVersion.TheVariants.{V0, V1}
use Rattle.rtr_models.specs.declared.RtrErrorCode.{RtrErrorCode}
use Rattle.rtr_models.proofs.Laws.{code-known, code-at-most-8}
use Rattle.rtr_codec.specs.Read.{last_code, code_in}

pub judged : (s : List ℕ) (a t : ℕ) (r b : Bool) → r ≡ well_formed (take (a + t - a) (drop a s)) → r ≡ b → well_formed (take t (drop a s)) ≡ b
judged s a t r b e q = ap (λ (k : ℕ). well_formed (take k (drop a s))) (sym (add-sub_cancel_left a t)) ∙ sym e ∙ q

last_code_lem : (v : RtrProtocolVersion) → 7 ≤ last_code v
last_code_lem V0 = omega arith
last_code_lem V1 = omega arith

pub every-code : (v : RtrProtocolVersion) (n : ℕ) (c : RtrErrorCode) → code_found n ≡ Some c → code_in true v n ≡ true
every-code v n c e = go (leb n (last_code v)) refl
  where
    go : (b : Bool) → leb n (last_code v) ≡ b → code_in true v n ≡ true
    go true q = simp q
    go false q =
        let eight : n ≡ 8 = omega (arith, leb-false n (last_code v) q, last_code_lem v, (code-known n c).0 e, code-at-most-8 c) in
        simp (q, eq-eqb n 8 eight)
