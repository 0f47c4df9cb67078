-- What reading a listing back comes to, over any record limit: `reads-exactly` leaves no text to argue about, and others say which line is named where
-- a text is refused. The argument is in the files beside this one. Assumes nothing.
use Prim.Native.Nat.{ℕ, suc, ◌*◌, ◌≤◌, ◌<◌}
use mathlib.Core.Bool.{Bool, true, false}
use mathlib.Core.List.{List, [], ◌∷◌, ◌++◌}
use mathlib.Core.Logic.{◌↔◌, ◌⊎◌}
use mathlib.Core.Path.{◌≡◌, refl, ap, ◌∙◌}
use borrow.Author.Tests.{leb-true}
use lib.ListN.{length, take}
use Rattle.rtr_models.specs.declared.RtrProtocolVersion.{RtrProtocolVersion}
use Rattle.rtr_room.specs.declared.Record.{Record}
use Rattle.rtr_receiver.specs.Contents.{contents}
use Rattle.rtr_receiver.specs.Runs.{Call, Memory, Run}
use Rattle.rtr_receiver.specs.declared.Session.{Session}
use Rattle.rtr_listing.specs.Listing.{listing}
use Rattle.rtr_listing.proofs.Printed.{listed as listed_in}
use Rattle.rtr_listed.specs.Listed.{Listed, lines_of, line_feeds, may_stop, read_from, read_listing, listing_text, listed_by}
use Rattle.rtr_listed.specs.Listed.Read.{listed, misfit}
use Rattle.rtr_listed.specs.Fits.{ListingFits, NumbersFit}
use Rattle.rtr_listed.specs.Promises.{refused, read_leaves, listed_says}
use Rattle.rtr_listed.proofs.Whole as whole
use Rattle.rtr_listed.proofs.Numbers as numbers
use Rattle.rtr_listed.proofs.Shown as shown
use Rattle.rtr_listed.proofs.ReadBack as back
use Rattle.rtr_listed.proofs.Fronts as fronts
use Rattle.rtr_listed.proofs.Cuts as cuts
use Rattle.rtr_listed.proofs.Enough as enough
use Rattle.rtr_listed.proofs.Printed as printed

-- a text is read as a stop, a table and records exactly if it is the listing of these, and they fit
pub reads-exactly : (limit : ℕ) (s : List ℕ) (v : Listed) → read_listing limit s ≡ listed v ↔ ((s ≡ listing_text v) × ListingFits limit v)
reads-exactly limit s v = (back.text-back limit s v, λ k. ap (read_listing limit) k.0 ∙ shown.text-reads limit v k.1 1)

-- ---- what the call says and leaves: by the room's size, and then by the text

pub of_size : (limit : ℕ) (s lent : List ℕ) → length lent ≡ 6 * limit → read_leaves limit (read_listing limit s) ≡ listed_says limit s lent
of_size = whole.of_size

pub off-size : (limit : ℕ) (s lent : List ℕ) → (length lent ≡ 6 * limit → ⊥) → record { answer = refused 22 []; room = lent } ≡ listed_says limit s lent
off-size = whole.off-size

-- ---- which line is named

-- refused at a line, and so is every text with the same lines up to it
pub front-decides : (limit m : ℕ) (s s' : List ℕ) → read_listing limit s ≡ misfit m → take m (lines_of s') ≡ take m (lines_of s) → read_listing limit s' ≡ misfit m
front-decides = fronts.front-decides

-- and one of the lines before it alone, but where these are a listing
pub front-alone : (limit k : ℕ) (s s' : List ℕ) → read_listing limit s ≡ misfit (suc k) → lines_of s' ≡ take k (lines_of s)
    → (read_listing limit s' ≡ misfit (suc k)) ⊎ ((v : Listed) × (read_listing limit s' ≡ listed v))
front-alone = fronts.front-alone

-- what was read and is cut anywhere is refused at the line of the cut: one more than the line feeds before it
pub cut-is-refused : (limit k : ℕ) (s : List ℕ) (v : Listed) → read_listing limit s ≡ listed v → k < length s
    → read_listing limit (take k s) ≡ misfit (suc (line_feeds (take k s)))
cut-is-refused = cuts.cut-is-refused

-- so is every listing of values that fit
pub listing-cut-is-refused : (limit k : ℕ) (v : Listed) → ListingFits limit v → k < length (listing_text v)
    → read_listing limit (take k (listing_text v)) ≡ misfit (suc (line_feeds (take k (listing_text v))))
listing-cut-is-refused limit k v fit = cuts.cut-is-refused limit k (listing_text v) v ((reads-exactly limit (listing_text v) v).1 (refl, fit))

-- bytes behind what was read are a line that does not fit
pub longer-is-refused : (limit : ℕ) (s : List ℕ) (b : ℕ) (more : List ℕ) (v : Listed) → read_listing limit s ≡ listed v
    → read_listing limit (s ++ b ∷ more) ≡ misfit (suc (line_feeds s))
longer-is-refused = cuts.longer-is-refused

-- ---- how much of a text is looked at

-- 131,201 bytes decide, whatever the limit: no count is over 1,024, and no head and no record has more than 128 bytes
pub front-is-enough : (limit n : ℕ) (s : List ℕ) → 131200 < n → read_listing limit (take n s) ≡ read_listing limit s
front-is-enough = enough.front-is-enough

-- ---- listings that a receiver's call writes

-- a session's listing is the text of what the session and its live table say
pub listing-is-text : (s : Session) (t : List Record) → s.live.records ≡ length t → listing s t ≡ listing_text (listed_by s t)
listing-is-text = printed.listing-is-text

-- after any run it is read as the stop's number, the table and the records, where the numbers in memory are of their types
pub run-reads-back : (limit H : ℕ) (v : RtrProtocolVersion) (calls : List Call) (m : Memory) → Run limit v H calls m → limit ≤ 1024 → NumbersFit m
    → read_listing limit (listed_in m) ≡ listed (listed_by m.session (contents m.session.live m.live))
run-reads-back = printed.run-reads-back

-- a text of no bytes is refused at its first line
pub empty-is-refused : (limit : ℕ) → read_listing limit [] ≡ misfit 1
unfolding read_from lines_of
empty-is-refused limit = refl

-- ---- which stops a listing may name (document 01, "Refusal numbers"): none, 2 to 8 and 12 to 19

abbrev each_of : List ℕ → List Bool
each_of [] = []
each_of (n ∷ ns) = may_stop n ∷ each_of ns

pub stops-2-to-8 : each_of (0 ∷ 1 ∷ 2 ∷ 3 ∷ 4 ∷ 5 ∷ 6 ∷ 7 ∷ 8 ∷ 9 ∷ []) ≡ true ∷ false ∷ true ∷ true ∷ true ∷ true ∷ true ∷ true ∷ true ∷ false ∷ []
stops-2-to-8 = refl

pub stops-12-to-19 : each_of (10 ∷ 11 ∷ 12 ∷ 13 ∷ 14 ∷ 15 ∷ 16 ∷ 17 ∷ 18 ∷ 19 ∷ []) ≡ false ∷ false ∷ true ∷ true ∷ true ∷ true ∷ true ∷ true ∷ true ∷ true ∷ []
stops-12-to-19 = refl

-- and none behind them
pub no-later-stop : (n : ℕ) → may_stop n ≡ true → n ≤ 19
no-later-stop n e = leb-true n 19 (numbers.stop-low n e)
