-- A feed goes by searches of the stream (rtr_stream's `by-search`): to the next PDU, a refusal, or the piece's end; and a receiver that stopped takes
-- nothing more. Assumes nothing.
use Rattle.std.proofs.Common.{◌≡◌, ℕ, ◌+◌, ◌-◌, Bool, true, false, cond, List, [], ◌∷◌, ◌++◌, drop, sym, refl, ap, ◌∙◌}
use Rattle.rtr_models.specs.declared.RtrPdu.{RtrPdu}
use Rattle.rtr_codec.specs.Reading.{in_use}
use Rattle.rtr_stream.specs.Stream.{Heard, judge}
use Rattle.rtr_stream.specs.Search.{End, Search, search_from}
use Rattle.rtr_stream.proofs.Laws.{by_heard, by_end, by-search}
use Rattle.rtr_receiver.specs.Receiver.{Receiver, Feed, holding, stop, on_pdu, heard, listens, on_byte, on_piece}

-- a feed at a place, with so many updates behind it
abbrev pub from : Receiver → ℕ → ℕ → Feed
from r at updates = record { receiver = r; taken = at; updates = updates }

module _ (limit H : ℕ) where
  pub stopped-takes-none : (p : List ℕ) (f : Feed) → listens f.receiver.stage ≡ false → on_piece limit H f p ≡ f
  unfolding on_piece on_byte
  stopped-takes-none [] f e = refl
  stopped-takes-none (b ∷ p) f e =
      ap
      (λ (t : Bool). on_piece limit H (cond t (heard limit (f.taken + 1) f.updates f.receiver (f.receiver.held ++ b ∷ []) (judge in_use H (f.receiver.held ++ b ∷ []))) f) p)
      e
      ∙ stopped-takes-none p f e

  -- cutting a piece changes nothing
  pub pieces-join : (p q : List ℕ) (f : Feed) → on_piece limit H f (p ++ q) ≡ on_piece limit H (on_piece limit H f p) q
  unfolding on_piece
  pieces-join [] q f = refl
  pieces-join (b ∷ p) q f = pieces-join p q (on_byte limit H f b)

  module _ (r : Receiver) (updates : ℕ) (on : listens r.stage ≡ true) where
    waiting : ℕ → List ℕ → List ℕ → Feed
    waiting at s p = on_piece limit H (from (holding s r) at updates) p

    told : ℕ → RtrPdu → List ℕ → List ℕ → Feed
    told at pdu bytes rest = on_piece limit H (from (on_pdu limit pdu (holding [] r)).then at (updates + (on_pdu limit pdu (holding [] r)).updates)) rest

    refusing : ℕ → ℕ → List ℕ → List ℕ → Feed
    refusing at number values rest = on_piece limit H (from (stop number values r) at updates) rest

    byte : (at : ℕ) (s : List ℕ) (b : ℕ) (rest : List ℕ) → waiting at s (b ∷ rest) ≡ by_heard waiting told refusing (at + 1) (s ++ b ∷ []) rest (judge in_use H (s ++ b ∷ []))
    unfolding waiting told refusing on_piece on_byte
    byte at s b rest =
        ap
        (λ (t : Bool). on_piece limit H (cond t (heard limit (at + 1) updates (holding s r) (s ++ b ∷ []) (judge in_use H (s ++ b ∷ []))) (from (holding s r) at updates)) rest)
        on
        ∙ go (judge in_use H (s ++ b ∷ []))
      where
        go : (h : Heard) → on_piece limit H (heard limit (at + 1) updates (holding s r) (s ++ b ∷ []) h) rest ≡ by_heard waiting told refusing (at + 1) (s ++ b ∷ []) rest h
        go Heard.waits = refl
        go (Heard.whole pdu) = refl
        go (Heard.refused number values) = refl

    -- the search from a place decides
    feed-by-search
        : (p : List ℕ) (at : ℕ) (s : List ℕ) (found : Search) →
        found ≡ search_from in_use H at s p →
        on_piece limit H (from (holding s r) at updates) p ≡ by_end waiting told refusing p at found.next found.held found.end
    unfolding waiting
    feed-by-search p at s found e =
        by-search in_use H waiting told refusing byte p at s
        ∙ ap (λ (x : Search). by_end waiting told refusing p at x.next x.held x.end) (sym e)

    pub fed-more : (p : List ℕ) (at : ℕ) (s : List ℕ) → (search_from in_use H at s p).end ≡ End.more → on_piece limit H (from (holding s r) at updates) p ≡ from (holding (search_from in_use H at s p).held r) (search_from in_use H at s p).next updates
    unfolding waiting on_piece
    fed-more p at s e =
        feed-by-search p at s (search_from in_use H at s p) refl
        ∙ ap (by_end waiting told refusing p at (search_from in_use H at s p).next (search_from in_use H at s p).held) e

    pub fed-pdu
        : (p : List ℕ) (at : ℕ) (s : List ℕ) (pdu : RtrPdu) (bytes : List ℕ) →
        (search_from in_use H at s p).end ≡ End.found pdu bytes →
        on_piece limit H (from (holding s r) at updates) p
        ≡ on_piece limit H
        (from (on_pdu limit pdu (holding [] r)).then (search_from in_use H at s p).next (updates + (on_pdu limit pdu (holding [] r)).updates))
        (drop ((search_from in_use H at s p).next - at) p)
    unfolding told
    fed-pdu p at s pdu bytes e =
        feed-by-search p at s (search_from in_use H at s p) refl
        ∙ ap (by_end waiting told refusing p at (search_from in_use H at s p).next (search_from in_use H at s p).held) e

    pub fed-stop
        : (p : List ℕ) (at : ℕ) (s : List ℕ) (number : ℕ) (values : List ℕ) →
        (search_from in_use H at s p).end ≡ End.stop number values →
        on_piece limit H (from (holding s r) at updates) p ≡ from (stop number values r) (search_from in_use H at s p).next updates
    unfolding refusing
    fed-stop p at s number values e =
        feed-by-search p at s (search_from in_use H at s p) refl
        ∙ ap (by_end waiting told refusing p at (search_from in_use H at s p).next (search_from in_use H at s p).held) e
        ∙ stopped-takes-none (drop ((search_from in_use H at s p).next - at) p) (from (stop number values r) (search_from in_use H at s p).next updates) refl
