-- What passes: texts joined, and ASCII, NUL among it (document 01, "Modules", 3: "Empty text and NUL pass"). A text is well formed exactly if it is a sequence of characters, and sequences are joined. Assumes nothing.
use Prim.Native.Nat.{ℕ, zero, suc, ◌≤◌}
use mathlib.Core.Bool.{true}
use mathlib.Core.List.Memᴰ
use mathlib.Core.List.{List, [], ◌∷◌, ◌++◌, append_assoc}
use mathlib.Core.Logic.{◌↔◌}
use mathlib.Core.Path.{◌≡◌, refl, sym, subst}
use native.Mathlib.Omega.{arith}
use borrow.Author.Tests.{le-leb}
use lib.ListN.{replicate}
use Rattle.rtr_text.specs.Utf8.{◌to◌, within, begins, well_formed, Characters, none, more}
use Rattle.rtr_text.proofs.Laws.{empty-is-well-formed, well-formed-up-to-all, well-formed-is-characters}

-- well formed is a sequence of characters
pub as-characters : (text : List ℕ) → (well_formed text ≡ true) ↔ Characters text
as-characters text =
    (λ e. (well-formed-is-characters text).0 ((well-formed-up-to-all text).0 e), λ c. (well-formed-up-to-all text).1 ((well-formed-is-characters text).1 c))

joined : {a : List ℕ} (b : List ℕ) → Characters a → Characters b → Characters (a ++ b)
joined b none d = d
joined b (more row c rest m l f r) d = subst Characters (sym (append_assoc c rest b)) (more row c (rest ++ b) m l f (joined b r d))

-- a well-formed text behind another is well formed with it
pub joined-passes : (a b : List ℕ) → well_formed a ≡ true → well_formed b ≡ true → well_formed (a ++ b) ≡ true
joined-passes a b e f = (as-characters (a ++ b)).1 (joined b ((as-characters a).0 e) ((as-characters b).0 f))

-- an ASCII byte before a well-formed text
pub ascii-passes : (b : ℕ) (text : List ℕ) → b ≤ 127 → well_formed text ≡ true → well_formed (b ∷ text) ≡ true
unfolding begins within
ascii-passes b text h e =
    (as-characters (b ∷ text)).1 (more (0x00 to 0x7f ∷ []) (b ∷ []) text (Memᴰ.head refl) refl (simp (le-leb 0 b (omega arith), le-leb b 127 h)) ((as-characters text).0 e))

-- NUL before a well-formed text, and so between two, and NULs alone, however many
pub nul-passes : (text : List ℕ) → well_formed text ≡ true → well_formed (0 ∷ text) ≡ true
nul-passes text e = ascii-passes 0 text (omega arith) e

pub nul-within-passes : (a b : List ℕ) → well_formed a ≡ true → well_formed b ≡ true → well_formed (a ++ (0 ∷ b)) ≡ true
nul-within-passes a b e f = joined-passes a (0 ∷ b) e (nul-passes b f)

pub nuls-pass : (n : ℕ) → well_formed (replicate n 0) ≡ true
nuls-pass zero = empty-is-well-formed
nuls-pass (suc n) = nul-passes (replicate n 0) (nuls-pass n)
