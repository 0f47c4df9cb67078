-- The laws that higher crates cite of the stream, over every reading and every H. A piece is the fold of its bytes, so a cut anywhere changes nothing;
-- what is held waits; and anything that goes by the bytes one by one goes by searches (`by-search`): that is the one lemma by which code
-- that takes runs of bytes is code that takes bytes. Assumes nothing.
use Prim.Native.Nat.{ℕ, suc, ◌+◌, ◌-◌, ◌≤◌, ◌<◌}
use mathlib.Core.Bool.{true, ◌&&◌}
use mathlib.Core.List.{List, [], ◌∷◌, ◌++◌}
use mathlib.Core.Logic.{◌⊎◌, inl, inr}
use mathlib.Core.Path.{◌≡◌, refl, sym, ap, ◌∙◌, subst}
use native.Mathlib.Omega.{arith}
use lib.Dec.{leb}
use lib.ListN.{length, take, drop, length-append}
use Rattle.rtr_models.specs.declared.RtrPdu.{RtrPdu}
use Rattle.rtr_codec.specs.Reading.{Reading, in_use}
use Rattle.rtr_codec.specs.Read.{Verdict, header_length, read, needed}
use Rattle.rtr_codec.proofs.Laws.{header-stays, read-consumes}
use Rattle.rtr_stream.specs.Stream.{Heard, longest, heard_of, judge, Found, State, Listened, after, on_byte_in, on_byte, on_piece, on_pieces}
use Rattle.rtr_stream.specs.Stream.Heard.{waits, whole, refused}
use Rattle.rtr_stream.specs.Search.{End, Search, over, search_from, is_waits, is_stream, outcome_of, search, Outcome, search_said}
use Rattle.rtr_stream.specs.declared.Searched.{Searched}
use Rattle.rtr_stream.proofs.Runs.{runs-out}
use Rattle.rtr_stream.proofs.Judge.{Waiting, waiting-grows, IsStream, judge-short, waits-waiting, waiting-waits, is-stream, stream-is, refused-numbers, whole-pdu, whole-exactly, few-or-many, judge-whole, judge-cut}
use Rattle.rtr_stream.proofs.Judge.Waiting.{short, cut}

-- pieces end to end
abbrev pub joined : List (List ℕ) → List ℕ
joined [] = []
joined (piece ∷ pieces) = piece ++ joined pieces

-- what a function of the bytes does at a byte, by what the bytes in hand come to
abbrev pub by_heard : {A : Type 0} → (ℕ → List ℕ → List ℕ → A) → (ℕ → RtrPdu → List ℕ → List ℕ → A) → (ℕ → ℕ → List ℕ → List ℕ → A) → ℕ → List ℕ → List ℕ → Heard → A
by_heard F G K at s rest waits = F at s rest
by_heard F G K at s rest (whole pdu) = G at pdu s rest
by_heard F G K at s rest (refused number values) = K at number values rest

-- and what it does by a search's end
abbrev pub by_end : {A : Type 0} → (ℕ → List ℕ → List ℕ → A) → (ℕ → RtrPdu → List ℕ → List ℕ → A) → (ℕ → ℕ → List ℕ → List ℕ → A) → List ℕ → ℕ → ℕ → List ℕ → End → A
by_end F G K p at next held End.more = F next held []
by_end F G K p at next held (End.found pdu bytes) = G next pdu bytes (drop (next - at) p)
by_end F G K p at next held (End.stop number values) = K next number values (drop (next - at) p)

module _ (R : Reading) (H : ℕ) where
  -- ---- The fold

  pub pieces-join : (s t : List ℕ) (l : Listened) → on_piece R H l (s ++ t) ≡ on_piece R H (on_piece R H l s) t
  unfolding on_piece
  pieces-join [] t l = refl
  pieces-join (b ∷ s) t l = pieces-join s t (on_byte R H l b)

  pub pieces-are-bytes : (pieces : List (List ℕ)) (l : Listened) → on_pieces R H l pieces ≡ on_piece R H l (joined pieces)
  unfolding on_pieces on_piece
  pieces-are-bytes [] l = refl
  pieces-are-bytes (piece ∷ pieces) l = pieces-are-bytes pieces (on_piece R H l piece) ∙ sym (pieces-join piece (joined pieces) l)

  -- the same bytes cut elsewhere give the same PDUs in the same order, and leave the same bytes held
  pub cut-anywhere : (l : Listened) (pieces pieces' : List (List ℕ)) → joined pieces ≡ joined pieces' → on_pieces R H l pieces ≡ on_pieces R H l pieces'
  cut-anywhere l pieces pieces' e = pieces-are-bytes pieces l ∙ ap (on_piece R H l) e ∙ sym (pieces-are-bytes pieces' l)

  -- ---- What is held never already makes a PDU or a refusal

  pub nothing-waits : judge R H [] ≡ waits
  nothing-waits = judge-short R H [] (omega arith)

  abbrev pub HoldsWaiting : State → Type 0
  HoldsWaiting (State.holding s) = judge R H s ≡ waits
  HoldsWaiting (State.stopped number values) = Unit {0}

  pub held-waits : (piece : List ℕ) (l : Listened) → HoldsWaiting l.state → HoldsWaiting (on_piece R H l piece).state
  unfolding on_piece on_byte
  held-waits [] l w = w
  held-waits (b ∷ piece) l w = held-waits piece (on_byte R H l b) (byte l.state w)
    where
      heard : (s : List ℕ) (h : Heard) → judge R H s ≡ h → HoldsWaiting (after (l.taken + 1) l.pdus s h).state
      heard s waits e = e
      heard s (whole pdu) e = nothing-waits
      heard s (refused number values) e = tt

      byte : (t : State) → HoldsWaiting t → HoldsWaiting (on_byte_in R H l.taken l.pdus t b).state
      byte (State.holding s) w = heard (s ++ b ∷ []) (judge R H (s ++ b ∷ [])) refl
      byte (State.stopped number values) w = tt

  -- ---- Searches

  -- a search goes forward, and no further than the piece
  pub search-takes : (p : List ℕ) (at : ℕ) (s : List ℕ) → (at ≤ (search_from R H at s p).next) × ((search_from R H at s p).next ≤ at + length p)
  unfolding search_from
  search-takes [] at s = (omega arith, omega arith)
  search-takes (b ∷ p) at s = go (judge R H (s ++ b ∷ [])) (search-takes p (at + 1) (s ++ b ∷ []))
    where
      go : (h : Heard) →
          (at + 1 ≤ (search_from R H (at + 1) (s ++ b ∷ []) p).next) × ((search_from R H (at + 1) (s ++ b ∷ []) p).next ≤ at + 1 + length p) →
          (at ≤ (over (at + 1) (s ++ b ∷ []) h (search_from R H (at + 1) (s ++ b ∷ []) p)).next)
          × ((over (at + 1) (s ++ b ∷ []) h (search_from R H (at + 1) (s ++ b ∷ []) p)).next ≤ at + suc (length p))
      go waits i = (omega arith, omega arith)
      go (whole pdu) i = (omega arith, omega arith)
      go (refused number values) i = (omega arith, omega arith)

  -- a PDU or a refusal takes a byte at least
  pub search-moves : (p : List ℕ) (at : ℕ) (s : List ℕ) → ((search_from R H at s p).end ≡ End.more → ⊥) → at < (search_from R H at s p).next
  unfolding search_from
  search-moves [] at s h = absurd (h refl)
  search-moves (b ∷ p) at s h = go (search-moves p (at + 1) (s ++ b ∷ [])) (judge R H (s ++ b ∷ [])) h
    where
      go : (((search_from R H (at + 1) (s ++ b ∷ []) p).end ≡ End.more → ⊥) → at + 1 < (search_from R H (at + 1) (s ++ b ∷ []) p).next) →
          (h : Heard) →
          ((over (at + 1) (s ++ b ∷ []) h (search_from R H (at + 1) (s ++ b ∷ []) p)).end ≡ End.more → ⊥) →
          at < (over (at + 1) (s ++ b ∷ []) h (search_from R H (at + 1) (s ++ b ∷ []) p)).next
      go later waits h = omega (arith, later h)
      go later (whole pdu) h = omega arith
      go later (refused number values) h = omega arith

  -- the wish for more has taken the whole piece
  pub search-all : (p : List ℕ) (at : ℕ) (s : List ℕ) → (search_from R H at s p).end ≡ End.more → (search_from R H at s p).next ≡ at + length p
  unfolding search_from
  search-all [] at s e = omega arith
  search-all (b ∷ p) at s e = go (search-all p (at + 1) (s ++ b ∷ [])) (judge R H (s ++ b ∷ [])) e
    where
      go : ((search_from R H (at + 1) (s ++ b ∷ []) p).end ≡ End.more → (search_from R H (at + 1) (s ++ b ∷ []) p).next ≡ at + 1 + length p) →
          (h : Heard) →
          (over (at + 1) (s ++ b ∷ []) h (search_from R H (at + 1) (s ++ b ∷ []) p)).end ≡ End.more →
          (over (at + 1) (s ++ b ∷ []) h (search_from R H (at + 1) (s ++ b ∷ []) p)).next ≡ at + suc (length p)
      go later waits e = omega (arith, later e)
      go later (whole pdu) e = absurd (let z : ◌≡◌ {A = ℕ} 0 1 = cc in omega arith)
      go later (refused number values) e = absurd (let z : ◌≡◌ {A = ℕ} 0 1 = cc in omega arith)

  -- what it leaves held waits
  pub search-waits : (p : List ℕ) (at : ℕ) (s : List ℕ) → judge R H s ≡ waits → judge R H (search_from R H at s p).held ≡ waits
  unfolding search_from
  search-waits [] at s w = w
  search-waits (b ∷ p) at s w = go (search-waits p (at + 1) (s ++ b ∷ [])) (judge R H (s ++ b ∷ [])) refl
    where
      go : (judge R H (s ++ b ∷ []) ≡ waits → judge R H (search_from R H (at + 1) (s ++ b ∷ []) p).held ≡ waits) →
          (h : Heard) →
          judge R H (s ++ b ∷ []) ≡ h →
          judge R H (over (at + 1) (s ++ b ∷ []) h (search_from R H (at + 1) (s ++ b ∷ []) p)).held ≡ waits
      go later waits e = later e
      go later (whole pdu) e = nothing-waits
      go later (refused number values) e = nothing-waits

  -- what waits fits a hold of 8 bytes or more
  pub waits-fits : (s : List ℕ) → 8 ≤ H → judge R H s ≡ waits → length s ≤ H
  waits-fits s h w = go (waits-waiting R H s w)
    where
      go : Waiting H s → length s ≤ H
      go (short l) = omega arith
      go (cut l i e) = omega (arith, i.fits)

  -- a PDU that is found is what its bytes read as, all of them
  pub found-is-read
      : (p : List ℕ) (at : ℕ) (s : List ℕ) (pdu : RtrPdu) (bytes : List ℕ) →
      judge R H s ≡ waits →
      (search_from R H at s p).end ≡ End.found pdu bytes →
      read R bytes ≡ Verdict.accepted pdu (length bytes)
  unfolding search_from
  found-is-read [] at s pdu bytes w e = absurd (let z : ◌≡◌ {A = ℕ} 0 1 = cc in omega arith)
  found-is-read (b ∷ p) at s pdu bytes w e =
      go (found-is-read p (at + 1) (s ++ b ∷ []) pdu bytes) (judge R H (s ++ b ∷ [])) refl e
    where
      go : (judge R H (s ++ b ∷ []) ≡ waits →
          (search_from R H (at + 1) (s ++ b ∷ []) p).end ≡ End.found pdu bytes →
          read R bytes ≡ Verdict.accepted pdu (length bytes)) →
          (h : Heard) →
          judge R H (s ++ b ∷ []) ≡ h →
          (over (at + 1) (s ++ b ∷ []) h (search_from R H (at + 1) (s ++ b ∷ []) p)).end ≡ End.found pdu bytes →
          read R bytes ≡ Verdict.accepted pdu (length bytes)
      go later waits j e = later j e
      go later (whole pdu') j e =
          let same : pdu' ≡ pdu = cc in
          let all : s ++ b ∷ [] ≡ bytes = cc in
          ap (read R) (sym all) ∙ whole-exactly R H s b pdu' w j ∙ ap (λ (x : RtrPdu). Verdict.accepted x (length (s ++ b ∷ []))) same
          ∙ ap (λ (x : List ℕ). Verdict.accepted pdu (length x)) all
      go later (refused number values) j e = absurd (let z : ◌≡◌ {A = ℕ} 0 1 = cc in omega arith)

  -- bytes in hand that are a PDU are read as that PDU
  pub whole-is-read : (s : List ℕ) (pdu : RtrPdu) → judge R H s ≡ whole pdu → (n : ℕ) × (read R s ≡ Verdict.accepted pdu n)
  whole-is-read s pdu e = (whole-pdu R H s pdu e).read_as

  -- the bytes of one PDU, no more and no fewer, that are in range: each shorter front of them waits, and all of them are heard as it
  pub pdu-is-heard : (s : List ℕ) (pdu : RtrPdu) → length s ≤ longest → length s ≤ H → read R s ≡ Verdict.accepted pdu (length s) → judge R H s ≡ whole pdu
  pdu-is-heard s pdu most fits e =
      let c = read-consumes R s pdu (length s) e in
      let n : header_length s ≡ length s = sym c.0 in
      judge-whole R H s c.1 (record { least = subst (λ (k : ℕ). 8 ≤ k) c.0 c.1; most = subst (λ (k : ℕ). k ≤ longest) c.0 most; fits = subst (λ (k : ℕ). k ≤ H) c.0 fits }) (omega arith)
      ∙ ap heard_of e

  pub front-waits : (s t : List ℕ) (pdu : RtrPdu) → 0 < length t → length (s ++ t) ≤ longest → length (s ++ t) ≤ H → read R (s ++ t) ≡ Verdict.accepted pdu (length (s ++ t)) → judge R H s ≡ waits
  front-waits s t pdu more most fits e = go (few-or-many s)
    where
      go : (length s < 8) ⊎ (8 ≤ length s) → judge R H s ≡ waits
      go (inl few) = judge-short R H s few
      go (inr many) =
          let c = read-consumes R (s ++ t) pdu (length (s ++ t)) e in
          let n : header_length s ≡ length (s ++ t) = sym (header-stays s t many) ∙ sym c.0 in
          let l = length-append s t in
          judge-cut R H s many (record { least = omega arith; most = omega arith; fits = omega arith }) (omega arith)

  -- "2 to 8 and 12 to 19 in the stream are stops; 1 never arises there": 13 to 19 are the receiver's
  pub stop-numbers : (s : List ℕ) (number : ℕ) (values : List ℕ) → judge R H s ≡ refused number values → ((2 ≤ number) × (number ≤ 8)) ⊎ (number ≡ 12)
  stop-numbers s number values e = refused-numbers R H s number values e

  pub never-one : (s : List ℕ) (number : ℕ) (values : List ℕ) → judge R H s ≡ refused number values → number ≡ 1 → ⊥
  never-one s number values e one = go (stop-numbers s number values e)
    where
      go : ((2 ≤ number) × (number ≤ 8)) ⊎ (number ≡ 12) → ⊥
      go (inl range) = omega arith
      go (inr twelve) = omega arith

  module _ {A : Type 0} (F : ℕ → List ℕ → List ℕ → A) (G : ℕ → RtrPdu → List ℕ → List ℕ → A) (K : ℕ → ℕ → List ℕ → List ℕ → A) where
    -- a function that goes by the bytes, each judged with those in hand, goes by searches
    pub by-search
        : ((at : ℕ) (s : List ℕ) (b : ℕ) (rest : List ℕ) → F at s (b ∷ rest) ≡ by_heard F G K (at + 1) (s ++ b ∷ []) rest (judge R H (s ++ b ∷ []))) →
        (p : List ℕ) (at : ℕ) (s : List ℕ) →
        F at s p ≡ by_end F G K p at (search_from R H at s p).next (search_from R H at s p).held (search_from R H at s p).end
    unfolding search_from
    by-search step [] at s = refl
    by-search step (b ∷ p) at s =
        step at s b p
        ∙ go (judge R H (s ++ b ∷ []))
        (by-search step p (at + 1) (s ++ b ∷ [])
        ∙ shifted (search_from R H (at + 1) (s ++ b ∷ []) p).end _ _ (search-takes p (at + 1) (s ++ b ∷ [])).0)
      where
        inner : Search
        inner = search_from R H (at + 1) (s ++ b ∷ []) p

        -- one byte further in, the rest is the same
        further : (n : ℕ) → at + 1 ≤ n → drop (n - (at + 1)) p ≡ drop (n - at) (b ∷ p)
        further n h = let one : n - at ≡ suc (n - (at + 1)) = omega arith in sym (ap (λ (k : ℕ). drop k (b ∷ p)) one)

        rest : p ≡ drop (at + 1 - at) (b ∷ p)
        rest = let one : at + 1 - at ≡ 1 = omega arith in sym (ap (λ (k : ℕ). drop k (b ∷ p)) one)

        shifted : (e : End) (n : ℕ) (held : List ℕ) → at + 1 ≤ n → by_end F G K p (at + 1) n held e ≡ by_end F G K (b ∷ p) at n held e
        shifted End.more n held h = refl
        shifted (End.found pdu bytes) n held h = ap (G n pdu bytes) (further n h)
        shifted (End.stop number values) n held h = ap (K n number values) (further n h)

        ended : Heard → A
        ended h = by_end F G K (b ∷ p) at (over (at + 1) (s ++ b ∷ []) h inner).next (over (at + 1) (s ++ b ∷ []) h inner).held (over (at + 1) (s ++ b ∷ []) h inner).end

        go : (h : Heard) → F (at + 1) (s ++ b ∷ []) p ≡ ended waits → by_heard F G K (at + 1) (s ++ b ∷ []) p h ≡ ended h
        go waits later = later
        go (whole pdu) later = ap (G (at + 1) pdu (s ++ b ∷ [])) rest
        go (refused number values) later = ap (K (at + 1) number values) rest

  -- the stream is one: a piece comes to what its first search comes to, and the rest of it
  pub search-is-stream
      : (pdus : List Found) (p : List ℕ) (at : ℕ) (s : List ℕ) →
      on_piece R H (record { taken = at; pdus = pdus; state = State.holding s }) p
      ≡ by_end
      (λ next held rest. on_piece R H (record { taken = next; pdus = pdus; state = State.holding held }) rest)
      (λ next pdu bytes rest. on_piece R H (record { taken = next; pdus = pdus ++ record { pdu = pdu; bytes = bytes } ∷ []; state = State.holding [] }) rest)
      (λ next number values rest. on_piece R H (record { taken = next; pdus = pdus; state = State.stopped number values }) rest)
      p
      at
      (search_from R H at s p).next
      (search_from R H at s p).held
      (search_from R H at s p).end
  unfolding on_piece on_byte
  search-is-stream pdus p at s =
      by-search
      (λ next held rest. on_piece R H (record { taken = next; pdus = pdus; state = State.holding held }) rest)
      (λ next pdu bytes rest. on_piece R H (record { taken = next; pdus = pdus ++ record { pdu = pdu; bytes = bytes } ∷ []; state = State.holding [] }) rest)
      (λ next number values rest. on_piece R H (record { taken = next; pdus = pdus; state = State.stopped number values }) rest)
      (λ at s b rest. byte at (s ++ b ∷ []) rest (judge R H (s ++ b ∷ []))) p at s
    where
      byte : (at : ℕ) (s rest : List ℕ) (h : Heard) →
          on_piece R H (after (at + 1) pdus s h) rest
          ≡ by_heard
          (λ next held rest. on_piece R H (record { taken = next; pdus = pdus; state = State.holding held }) rest)
          (λ next pdu bytes rest. on_piece R H (record { taken = next; pdus = pdus ++ record { pdu = pdu; bytes = bytes } ∷ []; state = State.holding [] }) rest)
          (λ next number values rest. on_piece R H (record { taken = next; pdus = pdus; state = State.stopped number values }) rest)
          (at + 1)
          s
          rest
          h
      byte at s rest waits = refl
      byte at s rest (whole pdu) = refl
      byte at s rest (refused number values) = refl

-- fewer bytes than needed only lengthen what is held
pub few-are-held : (R : Reading) (H : ℕ) (p : List ℕ) (at : ℕ) (s : List ℕ) → judge R H s ≡ waits → length s + length p < needed s → search_from R H at s p ≡ record { end = End.more; next = at + length p; held = s ++ p }
few-are-held R H p at s w h = runs-out R H p at s (waiting-grows (waits-waiting R H s w) p h)

-- ---- The hold

-- a hold of 8 bytes or more whose held bytes wait is a stream, and no other
pub stream-exactly : (hold : List ℕ) (held : ℕ) → (8 ≤ length hold) → (held ≤ length hold) → judge in_use (length hold) (take held hold) ≡ waits → is_stream hold held ≡ true
stream-exactly hold held h l w = is-stream (record { size = h; within = l; waiting = waits-waiting in_use (length hold) (take held hold) w })

pub stream-has : (hold : List ℕ) (held : ℕ) → is_stream hold held ≡ true → (8 ≤ length hold) × (held ≤ length hold) × (judge in_use (length hold) (take held hold) ≡ waits)
stream-has hold held e =
    let i : IsStream hold held = stream-is hold held e in (i.size, i.within, waiting-waits in_use i.waiting)

-- holds of one length with the same bytes held are alike: nothing is read past the held count
pub stream-alike : (hold hold' : List ℕ) (held : ℕ) → length hold ≡ length hold' → take held hold ≡ take held hold' → is_stream hold held ≡ is_stream hold' held
unfolding is_stream
stream-alike hold hold' held size same = λ i. leb 8 (size i) && (leb held (size i) && is_waits (judge in_use (size i) (same i)))

-- what a search says of a stream
pub search_is
    : (hold piece : List ℕ) (held at : ℕ) →
    is_stream hold held ≡ true →
    search hold held piece at ≡ outcome_of held at (search_from in_use (length hold) at (take held hold) (drop at piece))
unfolding search
search_is hold piece held at e = simp e

-- the hold that a search leaves is a stream again
pub search-keeps-stream : (hold hold' piece : List ℕ) (held at : ℕ) (r : Searched) → is_stream hold held ≡ true → length hold' ≡ length hold → search_said r hold' piece ≡ search hold held piece at → is_stream hold' r.stream.held ≡ true
search-keeps-stream hold hold' piece held at r i same e =
    let h = stream-has hold held i in
    let found = search_from in_use (length hold) at (take held hold) (drop at piece) in
    let said : search_said r hold' piece ≡ outcome_of held at found = e ∙ search_is hold piece held at i in
    let bytes : take r.stream.held hold' ≡ found.held = ap (λ (o : Outcome). o.held) said in
    let count : r.stream.held ≡ length found.held = ap (λ (o : Outcome). o.count) said in
    let waits-now : judge in_use (length hold) found.held ≡ waits = search-waits in_use (length hold) (drop at piece) at (take held hold) h.2 in
    stream-exactly hold' r.stream.held (omega (arith, h.0)) (omega (arith, waits-fits in_use (length hold) found.held h.0 waits-now))
    (ap (judge in_use (length hold')) bytes ∙ ap (λ (n : ℕ). judge in_use n found.held) same ∙ waits-now)
