-- An output for the longest text is never too short, so the text is at its front. Assumes nothing.
use Rattle.std.specs.Prelude.{Result, Ok, Err}
use Prim.Native.Nat.{ℕ, ◌+◌, ◌*◌, ◌≤◌}
use mathlib.Core.List.{List, ◌++◌}
use mathlib.Core.Path.{◌≡◌, refl, sym, ap, ◌∙◌}
use native.Mathlib.Omega.{arith}
use lib.ListN.{length, drop, length-append}
use lib.Seq.{take_at}
use Rattle.rtr_encode.specs.Encode.{Encoded}
use Rattle.rtr_encode.specs.Encode.Writing.{written}
use Rattle.rtr_listing.specs.Promises.{list_said}
use Rattle.rtr_listing.specs.declared.ListError.{ListError}
use Rattle.rtr_listing.specs.declared.ListError.TheVariants.{NotAReceiver, OutputShort}
use Rattle.rtr_diffs.specs.Diffs.{DiffLeft, diff_text, diff_says, diff_left}
use Rattle.rtr_diffs.proofs.Laws.{diff-written}
use Rattle.rtr_diff.specs.Printing.{Shows}

module _ (limit : ℕ) (old new old_room new_room out old_left new_left out' : List ℕ) (answer : Result ℕ ListError)
    (old_size : length old_room ≡ 6 * limit) (new_size : length new_room ≡ 6 * limit) (size : 64 + 288 * limit ≤ length out)
    (promise : diff_left answer old_left new_left out' ≡ diff_says limit old new old_room new_room out) where
  abbrev text : List ℕ
  text = diff_text limit old new

  left : ◌≡◌ {A = Encoded} (record { says = list_said answer; out = out' }) (record { says = written (length text); out = text ++ drop (length text) out })
  left = ap (λ (d : DiffLeft). d.out) promise ∙ diff-written limit old new old_room new_room out old_size new_size size

  pub shows-text : (n : ℕ) → answer ≡ Ok n → Shows text n out'
  shows-text n told =
      let said : written n ≡ written (length text) = sym (ap list_said told) ∙ ap (λ (e : Encoded). e.says) left in
      let same : n ≡ length text = cc in
      let bytes : out' ≡ text ++ drop (length text) out = ap (λ (e : Encoded). e.out) left in
      record {
        within = omega (arith, same, ap length bytes, length-append text (drop (length text) out));
        text-is = rw (bytes, same) (take_at text (drop (length text) out) (length text) refl);
      }

  pub never-refused : (e : ListError) → answer ≡ Err e → ⊥
  never-refused NotAReceiver told = let q = sym (ap list_said told) ∙ ap (λ (e : Encoded). e.says) left in let z : ◌≡◌ {A = ℕ} 0 1 = cc in omega arith
  never-refused (OutputShort n) told = let q = sym (ap list_said told) ∙ ap (λ (e : Encoded). e.says) left in let z : ◌≡◌ {A = ℕ} 0 1 = cc in omega arith
