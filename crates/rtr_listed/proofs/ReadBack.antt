-- What is read is a listing: the text before a place and the lines from there on are the listing of what is read in the end, and that fits. Assumes nothing.
use Rattle.std.specs.Prelude.{Option, Some, None}
use Prim.Native.Nat.{ℕ, suc}
use mathlib.Core.Bool.{Bool, true, false, cond}
use mathlib.Core.List.{List, [], ◌∷◌, ◌++◌, append_assoc, append-nil}
use mathlib.Core.Logic.{◌⊎◌, inl, inr}
use mathlib.Core.Path.{◌≡◌, refl, sym, ap, ◌∙◌, subst}
use native.Mathlib.Omega.{arith}
use lib.ListN.{length}
use Rattle.rtr_room.specs.declared.Record.{Record}
use Rattle.rtr_listing.specs.Listing.{head_lines, all_lines}
use Rattle.rtr_listing.specs.declared.Head.{Head}
use Rattle.rtr_listed.specs.Listed.{Line, Fit, Due, Listed, lines_of, count_widths, on_line, at_end, or_misfit, read_from, read_listing, listing_text}
use Rattle.rtr_listed.specs.Listed.Fit.{fits, misfits}
use Rattle.rtr_listed.specs.Listed.Due.{stop_due, end_due}
use Rattle.rtr_listed.specs.Listed.Read.{listed, misfit}
use Rattle.rtr_listed.specs.Fits.{InfoFits, ListingFits}
use Rattle.rtr_listed.proofs.Whole.{ending}
use Rattle.rtr_listed.proofs.Feeds.{joined, joined-lines}
use Rattle.rtr_listed.proofs.Written.{ended, front, written, CountFits, Good, leads}
use Rattle.rtr_listed.proofs.Shown.{text-is}
use Rattle.rtr_receiver.specs.declared.Table.{Table}

-- a text is the listing of a value that fits
abbrev pub IsListing : ℕ → List ℕ → Listed → Type 0
IsListing limit s v = (s ≡ listing_text v) × ListingFits limit v

info-fits : (x : Option Table) (count : ℕ) (t : List Record) → CountFits x count → length t ≡ count → InfoFits x t
info-fits None count [] none e = refl
info-fits None count (r ∷ t) none e = absurd (omega arith)
info-fits (Some x) count t fit e = fit

end-listed : (limit : ℕ) (h : Head) (t : List Record) → Good limit (end_due h t)
    → IsListing limit (front h t) (record { stopped = h.stopped; table = h.table; records = t })
end-listed limit h t g =
    let long : length t ≡ h.count = g.1 in
    let head = g.0.head in (
      ap (λ (n : ℕ). head_lines (record { stopped = h.stopped; table = h.table; count = n }) ++ all_lines t) (sym long) ∙ sym (text-is _),
      record {
        stopped = head.stopped;
        info = info-fits h.table h.count t head.info long;
        table = g.0.table;
        words = g.0.words;
        within = omega (arith, head.within);
        written = omega (arith, head.written);
      },
    )

-- where no line is left
ends-listed : (limit n : ℕ) (p : Due) (v : Listed) → Good limit p → at_end p n ≡ listed v → IsListing limit (written p) v
ends-listed limit n p v g e = go (ending p n)
  where
    go : (at_end p n ≡ misfit n) ⊎ ((h : Head) × (t : List Record) × (p ≡ end_due h t)) → IsListing limit (written p) v
    go (inl m) = let z : ◌≡◌ {A = ℕ} 0 1 = cc in absurd (omega arith)
    go (inr (h, t, q)) =
        let read : at_end (end_due h t) n ≡ listed v = ap (λ (x : Due). at_end x n) (sym q) ∙ e in
        let same : record { stopped = h.stopped; table = h.table; records = t } ≡ v = cc in
        subst (λ (x : Due). IsListing limit (written x) v) (sym q) (subst (IsListing limit (front h t)) same (end-listed limit h t (subst (Good limit) q g)))

reads-listing : (limit n : ℕ) (p : Due) (ls : List Line) (v : Listed) → Good limit p → read_from count_widths limit p n ls ≡ listed v
    → IsListing limit (written p ++ joined ls) v
unfolding read_from joined
reads-listing limit n p [] v g e = subst (λ (x : List ℕ). IsListing limit x v) (sym (append-nil (written p))) (ends-listed limit n p v g e)
reads-listing limit n p (l ∷ ls) v g e = go l.ended (on_line count_widths limit p l.bytes) refl (λ next k. reads-listing limit (suc n) next ls v k) e
  where
    go : (c : Bool) (x : Fit Due) → on_line count_widths limit p l.bytes ≡ x
        → ((next : Due) → Good limit next → read_from count_widths limit next (suc n) ls ≡ listed v → IsListing limit (written next ++ joined ls) v)
        → or_misfit n (cond c x misfits) (λ next. read_from count_widths limit next (suc n) ls) ≡ listed v
        → IsListing limit (written p ++ (l.bytes ++ cond c (10 ∷ []) [] ++ joined ls)) v
    go true (fits next) k rest q =
        let to = leads limit l.bytes next p g k in
        subst (λ (x : List ℕ). IsListing limit x v) (ap (λ (x : List ℕ). x ++ joined ls) to.0 ∙ append_assoc (written p) (ended l.bytes) (joined ls))
        (rest next to.1 q)
    go true misfits k rest q = let z : ◌≡◌ {A = ℕ} 0 1 = cc in absurd (omega arith)
    go false x k rest q = let z : ◌≡◌ {A = ℕ} 0 1 = cc in absurd (omega arith)

pub text-back : (limit : ℕ) (s : List ℕ) (v : Listed) → read_listing limit s ≡ listed v → IsListing limit s v
text-back limit s v e = subst (λ (x : List ℕ). IsListing limit x v) (joined-lines s) (reads-listing limit 1 stop_due (lines_of s) v refl e)
