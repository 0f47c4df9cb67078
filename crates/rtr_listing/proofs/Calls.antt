-- What a call comes to: refused by 22, refused by 9, or written. Assumes nothing.
use Prim.Native.Nat.{ℕ, ◌*◌, ◌≤◌, ◌<◌}
use mathlib.Core.Bool.{Bool, true, false, not, ◌&&◌, true≢false}
use mathlib.Core.List.{List, [], ◌∷◌, ◌++◌}
use mathlib.Core.Path.{◌≡◌, refl, sym, ap, ◌∙◌}
use borrow.Author.Tests.{le-leb, lt-leb, eqb-true, not-true, not-false}
use lib.Dec.{eqb}
use lib.ListN.{length, drop}
use types.Run.{OneOf, miss}
use denote.Enum.Declared.{tag_of}
use Rattle.rtr_base.proofs.Overs.{over-front}
use Rattle.rtr_encode.specs.Encode.Writing.{written, refused}
use Rattle.rtr_room.specs.Room.{records, is_room}
use Rattle.rtr_room.proofs.Laws.{rules-size}
use Rattle.rtr_receiver.specs.Promises.{record_limit, has_limit}
use Rattle.rtr_receiver.specs.declared.Session.{Session}
use Rattle.rtr_receiver.specs.declared.Phase.{Phase}
use Rattle.rtr_receiver.specs.contracts.Phase as phase
use Rattle.rtr_listing.specs.Listing.{stopped_as, head_lines, head_of, all_lines, listing}
use Rattle.rtr_listing.specs.declared.Head.{Head}
use Rattle.rtr_listing.specs.Promises.{puts, is_listed, listing_says}
use Rattle.rtr_listing.specs.Private.{Put}

pub too_short : (bytes out : List ℕ) (n : ℕ) → length bytes ≡ n → length out < n → record { says = refused 9 (n ∷ []); out = out } ≡ puts bytes out
unfolding puts
too_short bytes out n e h = simp (e, lt-leb n (length out) h)

pub wrote : (bytes out exit : List ℕ) (n next : ℕ) → length bytes ≡ n → n ≤ length out → Put out 0 bytes next exit → record { says = written n; out = exit } ≡ puts bytes out
unfolding puts
wrote bytes out exit n next e h p =
    let e' : exit ≡ bytes ++ drop n out = p.content ∙ over-front out bytes ∙ ap (λ (k : ℕ). bytes ++ drop k out) e in
    simp (e, le-leb n (length out) h, e')

-- what a test says of what its flag equals
pub fails : {r b : Bool} → r ≡ b → not r ≡ true → b ≡ false
fails {r} e h = sym e ∙ not-true r h

pub holds : {r b : Bool} → r ≡ b → not r ≡ false → b ≡ true
holds {r} e h = sym e ∙ not-false r h

-- both parts of a test that holds hold
pub first_of : (a b : Bool) → (a && b) ≡ true → a ≡ true
first_of true b h = refl
first_of false b h = h

pub second-of : (a b : Bool) → (a && b) ≡ true → b ≡ true
second-of true b h = h
second-of false b h = absurd (true≢false (sym h))

-- the room of what is listed, and what is refused
module _ (limit : ℕ) (s : Session) (live : List ℕ) where
  pub listed-size : is_listed limit s live ≡ true → (length live ≡ 6 * limit) × (s.live.records ≤ limit) × (limit ≡ record_limit)
  listed-size h =
      let size = rules-size limit s.live.records live (first_of (is_room limit s.live.records live) _ (second-of (has_limit limit s) _ h)) in
      (size.0, size.1, eqb-true limit record_limit (second-of (eqb s.life.limit limit) _ (first_of (has_limit limit s) _ h)))

  pub refused-by-22 : (out : List ℕ) → is_listed limit s live ≡ false → record { says = refused 22 []; out = out } ≡ listing_says limit s live out
  unfolding listing_says
  refused-by-22 out h = simp h

  pub listed-says : (out : List ℕ) → is_listed limit s live ≡ true → puts (listing s (records s.live.records live)) out ≡ listing_says limit s live out
  unfolding listing_says
  listed-says out h = simp h

  -- the same with the head as data
  pub listed-by-head : (head : Head) (out : List ℕ) → head ≡ head_of s → is_listed limit s live ≡ true → puts (head_lines head ++ all_lines (records head.count live)) out ≡ listing_says limit s live out
  listed-by-head head out e h = ap (λ (x : Head). puts (head_lines x ++ all_lines (records x.count live)) out) e ∙ listed-says out h

pub written_is : (bytes out : List ℕ) → length bytes ≤ length out → puts bytes out ≡ record { says = written (length bytes); out = bytes ++ drop (length bytes) out }
unfolding puts
written_is bytes out h = simp (le-leb (length bytes) (length out) h)

pub short-is : (bytes out : List ℕ) → length out < length bytes → puts bytes out ≡ record { says = refused 9 (length bytes ∷ []); out = out }
unfolding puts
short-is bytes out h = simp (lt-leb (length bytes) (length out) h)

-- every phase but Stopped
pub not_stopped : (p : Phase) → OneOf (0 ∷ 1 ∷ 2 ∷ 3 ∷ 4 ∷ []) (tag_of phase.the_type p) → stopped_as p ≡ 0
not_stopped Phase.Idle h = refl
not_stopped Phase.MustReset h = refl
not_stopped Phase.AskedFull h = refl
not_stopped Phase.AskedChange h = refl
not_stopped (Phase.Loading kind session) h = refl
not_stopped (Phase.Stopped stop) h = absurd (miss (0 ∷ 1 ∷ 2 ∷ 3 ∷ 4 ∷ []) 5 tt h)
