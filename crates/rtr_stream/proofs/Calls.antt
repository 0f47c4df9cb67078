-- A caller's searches through a piece come to the fold of its bytes (`calls-are-bytes`): by the first search, and by the rest of the piece behind it. So two callers
-- that hand in the same bytes in other pieces have the same PDUs and hold the same bytes (`caller-cut-anywhere`). Assumes nothing.
use Rattle.std.specs.Prelude.{Result, Option}
use Prim.Native.Nat.{ℕ, ◌+◌, ◌-◌, ◌≤◌}
use mathlib.Core.Bool.{true}
use mathlib.Core.List.{List, [], ◌∷◌, ◌++◌, append_assoc, append-nil}
use mathlib.Core.Path.{◌≡◌, refl, sym, ap, ◌∙◌}
use native.Mathlib.Omega.{arith}
use lib.ListN.{length, take, drop, length-drop}
use lib.Seq.{drop-drop}
use Rattle.rtr_codec.specs.Reading.{Reading, in_use}
use Rattle.rtr_stream.specs.Stream.{Heard, judge, Found, State, Listened, after, on_byte_in, on_byte, on_piece, on_pieces}
use Rattle.rtr_stream.specs.Search.{End, Outcome, is_stream, over, search_from, stops_by, said_by, bytes_of}
use Rattle.rtr_stream.specs.Calls.{Between, Through, Pieces, state_of}
use Rattle.rtr_stream.proofs.Told.{more-told, stop-told, pdu-told}
use Rattle.rtr_stream.proofs.Laws.{joined, cut-anywhere, by_end, search-is-stream, search-takes, search_is, search-keeps-stream}
use Rattle.rtr_models.specs.declared.RtrPdu.{RtrPdu}
use Rattle.rtr_stream.specs.declared.SearchError.{SearchError}
use Rattle.rtr_stream.specs.declared.Lies.{Lies}

-- a stream that stopped takes no byte more
stopped-stays : (R : Reading) (H : ℕ) (p : List ℕ) (taken : ℕ) (pdus : List Found) (k : ℕ) (x : List ℕ) → on_piece R H (record { taken = taken; pdus = pdus; state = State.stopped k x }) p ≡ record { taken = taken; pdus = pdus; state = State.stopped k x }
unfolding on_piece on_byte
stopped-stays R H [] taken pdus k x = refl
stopped-stays R H (b ∷ p) taken pdus k x = stopped-stays R H p taken pdus k x

-- the PDUs and the state, the count of bytes left aside
pub record Same (l : Listened) (pdus : List Found) (state : State) : Type 0 where
  pub pdus-are : l.pdus ≡ pdus
  pub state-is : l.state ≡ state

-- a PDU or a refusal leaves nothing held
search-drops : (R : Reading) (H : ℕ) (p : List ℕ) (at : ℕ) (s : List ℕ) → ((search_from R H at s p).end ≡ End.more → ⊥) → (search_from R H at s p).held ≡ []
unfolding search_from
search-drops R H [] at s h = absurd (h refl)
search-drops R H (b ∷ p) at s h = go (search-drops R H p (at + 1) (s ++ b ∷ [])) (judge R H (s ++ b ∷ [])) h
  where
    go : (((search_from R H (at + 1) (s ++ b ∷ []) p).end ≡ End.more → ⊥) → (search_from R H (at + 1) (s ++ b ∷ []) p).held ≡ []) →
        (h : Heard) →
        ((over (at + 1) (s ++ b ∷ []) h (search_from R H (at + 1) (s ++ b ∷ []) p)).end ≡ End.more → ⊥) →
        (over (at + 1) (s ++ b ∷ []) h (search_from R H (at + 1) (s ++ b ∷ []) p)).held ≡ []
    go later Heard.waits h = later h
    go later (Heard.whole pdu) h = refl
    go later (Heard.refused number values) h = refl

module _ (piece : List ℕ) where
  -- what the rest of a piece comes to, by its first search's end
  by_end_lem : ℕ → List ℕ → List Found → ℕ → List ℕ → End → Listened
  by_end_lem at hold before next held end =
      by_end
      (λ next held rest. on_piece in_use (length hold) (record { taken = next; pdus = before; state = State.holding held }) rest)
      (λ next pdu bytes rest. on_piece in_use (length hold) (record { taken = next; pdus = before ++ record { pdu = pdu; bytes = bytes } ∷ []; state = State.holding [] }) rest)
      (λ next number values rest. on_piece in_use (length hold) (record { taken = next; pdus = before; state = State.stopped number values }) rest)
      (drop at piece)
      at
      next
      held
      end

  by-fold
      : (at : ℕ) (hold : List ℕ) (held : ℕ) (before : List Found) →
      on_piece in_use (length hold) (record { taken = at; pdus = before; state = State.holding (take held hold) }) (drop at piece)
      ≡ by_end_lem at hold before (search_from in_use (length hold) at (take held hold) (drop at piece)).next (search_from in_use (length hold) at (take held hold) (drop at piece)).held (search_from in_use (length hold) at (take held hold) (drop at piece)).end
  unfolding by_end_lem
  by-fold at hold held before = search-is-stream in_use (length hold) before (drop at piece) at (take held hold)

  -- from a place on, searches make of the stream what the bytes make of it
  pub calls-are-bytes
      : (at : ℕ) (hold : List ℕ) (held : ℕ) (pdus : List Found) (end : Between) (before : List Found) →
      at ≤ length piece →
      is_stream hold held ≡ true →
      Through piece at hold held pdus end →
      Same (on_piece in_use (length hold) (record { taken = at; pdus = before; state = State.holding (take held hold) }) (drop at piece)) (before ++ pdus) (state_of end)
  unfolding by_end_lem on_piece
  calls-are-bytes at hold held pdus end before inside i (Through.more r hold' call a) =
      let said = call.promise ∙ search_is hold piece held at i in
      let S = search_from in_use (length hold) at (take held hold) (drop at piece) in
      let over : S.end ≡ End.more = more-told held at S.end (sym (ap (λ (x : Result (Option (RtrPdu × Lies)) SearchError). said_by x hold' piece) a) ∙ ap (λ (o : Outcome). o.says) said) in
      let fold = by-fold at hold held before ∙ ap (by_end_lem at hold before S.next S.held) over in
      record {
        pdus-are = ap (λ (l : Listened). l.pdus) fold ∙ sym (append-nil before);
        state-is = ap (λ (l : Listened). l.state) fold ∙ ap State.holding (sym (ap (λ (o : Outcome). o.held) said));
      }
  calls-are-bytes at hold held pdus end before inside i (Through.found {pdus = later} r hold' pdu lies call a rest) =
      let said = call.promise ∙ search_is hold piece held at i in
      let S = search_from in_use (length hold) at (take held hold) (drop at piece) in
      let bytes : List ℕ = bytes_of lies hold' piece in
      let over : S.end ≡ End.found pdu bytes = pdu-told held at pdu lies bytes S.end (sym (ap (λ (x : Result (Option (RtrPdu × Lies)) SearchError). said_by x hold' piece) a) ∙ ap (λ (o : Outcome). o.says) said) in
      let place : r.next ≡ S.next = ap (λ (o : Outcome). o.next) said in
      let takes = search-takes in_use (length hold) (drop at piece) at (take held hold) in
      let now : List Found = before ++ record { pdu = pdu; bytes = bytes } ∷ [] in
      let none : take r.stream.held hold' ≡ [] =
      ap (λ (o : Outcome). o.held) said ∙ search-drops in_use (length hold) (drop at piece) at (take held hold) (λ m. let z : ◌≡◌ {A = ℕ} 0 1 = cc in omega arith) in
      let behind : drop (S.next - at) (drop at piece) ≡ drop r.next piece =
      let there : at + (S.next - at) ≡ r.next = omega arith in drop-drop (S.next - at) at piece ∙ ap (λ (n : ℕ). drop n piece) there in
      let fold : on_piece in_use (length hold) (record { taken = at; pdus = before; state = State.holding (take held hold) }) (drop at piece)
      ≡ on_piece in_use (length hold') (record { taken = r.next; pdus = now; state = State.holding (take r.stream.held hold') }) (drop r.next piece) =
      by-fold at hold held before
      ∙ ap (by_end_lem at hold before S.next S.held) over
      ∙ ap (λ (n : ℕ). on_piece in_use (length hold) (record { taken = n; pdus = now; state = State.holding [] }) (drop (S.next - at) (drop at piece))) (sym place)
      ∙ ap (on_piece in_use (length hold) (record { taken = r.next; pdus = now; state = State.holding [] })) behind
      ∙ ap (λ (x : List ℕ). on_piece in_use (length hold) (record { taken = r.next; pdus = now; state = State.holding x }) (drop r.next piece)) (sym none)
      ∙ ap (λ (h : ℕ). on_piece in_use h (record { taken = r.next; pdus = now; state = State.holding (take r.stream.held hold') }) (drop r.next piece)) (sym call.size) in
      let more = calls-are-bytes r.next hold' r.stream.held later end now (omega (arith, length-drop at piece)) (search-keeps-stream hold hold' piece held at r i call.size call.promise) rest in
      record {
        pdus-are = ap (λ (l : Listened). l.pdus) fold ∙ more.pdus-are ∙ append_assoc before (record { pdu = pdu; bytes = bytes } ∷ []) later;
        state-is = ap (λ (l : Listened). l.state) fold ∙ more.state-is;
      }
  calls-are-bytes at hold held pdus end before inside i (Through.stop r hold' error number values call a e) =
      let said = call.promise ∙ search_is hold piece held at i in
      let S = search_from in_use (length hold) at (take held hold) (drop at piece) in
      let over : S.end ≡ End.stop number values =
      stop-told held at number values S.end (sym (ap stops_by e) ∙ sym (ap (λ (x : Result (Option (RtrPdu × Lies)) SearchError). said_by x hold' piece) a) ∙ ap (λ (o : Outcome). o.says) said) in
      let fold = by-fold at hold held before ∙ ap (by_end_lem at hold before S.next S.held) over ∙ stopped-stays in_use (length hold) (drop (S.next - at) (drop at piece)) S.next before number values in
      record { pdus-are = ap (λ (l : Listened). l.pdus) fold ∙ sym (append-nil before); state-is = ap (λ (l : Listened). l.state) fold }

-- ---- Piece after piece

-- the count of bytes taken decides nothing
byte-alike : (R : Reading) (H t t' : ℕ) (pdus : List Found) (state : State) (b : ℕ) → ((on_byte_in R H t pdus state b).pdus ≡ (on_byte_in R H t' pdus state b).pdus) × ((on_byte_in R H t pdus state b).state ≡ (on_byte_in R H t' pdus state b).state)
byte-alike R H t t' pdus (State.stopped k x) b = (refl, refl)
byte-alike R H t t' pdus (State.holding s) b = go (judge R H (s ++ b ∷ []))
  where
    go : (h : Heard) → ((after (t + 1) pdus (s ++ b ∷ []) h).pdus ≡ (after (t' + 1) pdus (s ++ b ∷ []) h).pdus) × ((after (t + 1) pdus (s ++ b ∷ []) h).state ≡ (after (t' + 1) pdus (s ++ b ∷ []) h).state)
    go Heard.waits = (refl, refl)
    go (Heard.whole pdu) = (refl, refl)
    go (Heard.refused k x) = (refl, refl)

piece-alike : (R : Reading) (H : ℕ) (p : List ℕ) (l l' : Listened) → l.pdus ≡ l'.pdus → l.state ≡ l'.state → ((on_piece R H l p).pdus ≡ (on_piece R H l' p).pdus) × ((on_piece R H l p).state ≡ (on_piece R H l' p).state)
unfolding on_piece on_byte
piece-alike R H [] l l' p s = (p, s)
piece-alike R H (b ∷ piece) l l' p s =
    let one = byte-alike R H l.taken l'.taken l'.pdus l'.state b in
    let same : (on_byte_in R H l.taken l.pdus l.state b) ≡ (on_byte_in R H l.taken l'.pdus l'.state b) = λ i. on_byte_in R H l.taken (p i) (s i) b in
    piece-alike R H piece (on_byte R H l b) (on_byte R H l' b) (ap (λ (x : Listened). x.pdus) same ∙ one.0) (ap (λ (x : Listened). x.state) same ∙ one.1)

-- a piece that is through leaves a stream in a hold of the same size
through-keeps : (piece : List ℕ) (at : ℕ) (hold : List ℕ) (held : ℕ) (pdus : List Found) (end : Between) (hold' : List ℕ) (held' : ℕ) → end ≡ Between.goes_on hold' held' → is_stream hold held ≡ true → Through piece at hold held pdus end → (is_stream hold' held' ≡ true) × (length hold' ≡ length hold)
through-keeps piece at hold held pdus end hold' held' e i (Through.more r hold'' call a) =
    let h : hold'' ≡ hold' = cc in
    let c : r.stream.held ≡ held' = cc in
    (ap (λ (x : List ℕ). is_stream x held') (sym h) ∙ ap (is_stream hold'') (sym c) ∙ search-keeps-stream hold hold'' piece held at r i call.size call.promise, ap length (sym h) ∙ call.size)
through-keeps piece at hold held pdus end hold' held' e i (Through.found {pdus = later} r hold'' pdu lies call a rest) =
    let k = through-keeps piece r.next hold'' r.stream.held later end hold' held' e (search-keeps-stream hold hold'' piece held at r i call.size call.promise) rest in
    (k.0, k.1 ∙ call.size)
through-keeps piece at hold held pdus end hold' held' e i (Through.stop r hold'' error number values call a f) = absurd (let z : ◌≡◌ {A = ℕ} 0 1 = cc in omega arith)

stopped-through : (R : Reading) (H : ℕ) (pieces : List (List ℕ)) (l : Listened) (k : ℕ) (x : List ℕ) → l.state ≡ State.stopped k x → ((on_pieces R H l pieces).pdus ≡ l.pdus) × ((on_pieces R H l pieces).state ≡ State.stopped k x)
unfolding on_pieces
stopped-through R H [] l k x e = (refl, e)
stopped-through R H (piece ∷ pieces) l k x e =
    let s = piece-alike R H piece l (record { taken = l.taken; pdus = l.pdus; state = State.stopped k x }) refl e in
    let stays = stopped-stays R H piece l.taken l.pdus k x in
    let rest = stopped-through R H pieces (on_piece R H l piece) k x (s.1 ∙ ap (λ (y : Listened). y.state) stays) in
    (rest.0 ∙ s.0 ∙ ap (λ (y : Listened). y.pdus) stays, rest.1)

pub pieces-are-pieces
    : (hold : List ℕ) (held : ℕ) (pieces : List (List ℕ)) (pdus : List Found) (end : Between) (l : Listened) →
    is_stream hold held ≡ true →
    l.state ≡ State.holding (take held hold) →
    Pieces hold held pieces pdus end →
    Same (on_pieces in_use (length hold) l pieces) (l.pdus ++ pdus) (state_of end)
unfolding on_pieces
pieces-are-pieces hold held pieces pdus end l i s Pieces.none = record { pdus-are = sym (append-nil l.pdus); state-is = s }
pieces-are-pieces hold held pieces pdus end l i s (Pieces.next {hold' = hold'} {piece = piece} {held' = held'} {pieces = rest} {pdus = here} {later = later} t ps) =
    let one = calls-are-bytes piece 0 hold held here (Between.goes_on hold' held') l.pdus (omega arith) i t in
    let alike = piece-alike in_use (length hold) piece l (record { taken = 0; pdus = l.pdus; state = State.holding (take held hold) }) refl s in
    let kept = through-keeps piece 0 hold held here (Between.goes_on hold' held') hold' held' refl i t in
    let more = pieces-are-pieces hold' held' rest later end (on_piece in_use (length hold) l piece) kept.0 (alike.1 ∙ one.state-is) ps in
    let size = ap (λ (h : ℕ). on_pieces in_use h (on_piece in_use (length hold) l piece) rest) kept.1 in
    record {
      pdus-are = ap (λ (x : Listened). x.pdus) (sym size) ∙ more.pdus-are ∙ ap (λ (x : List Found). x ++ later) (alike.0 ∙ one.pdus-are) ∙ append_assoc l.pdus here later;
      state-is = ap (λ (x : Listened). x.state) (sym size) ∙ more.state-is;
    }
pieces-are-pieces hold held pieces pdus end l i s (Pieces.over {piece = piece} {pieces = rest} {number = number} {values = values} t) =
    let one = calls-are-bytes piece 0 hold held pdus (Between.ended number values) l.pdus (omega arith) i t in
    let alike = piece-alike in_use (length hold) piece l (record { taken = 0; pdus = l.pdus; state = State.holding (take held hold) }) refl s in
    let over = stopped-through in_use (length hold) rest (on_piece in_use (length hold) l piece) number values (alike.1 ∙ one.state-is) in
    record { pdus-are = over.0 ∙ alike.0 ∙ one.pdus-are; state-is = over.1 }

-- two callers that hand in the same bytes in other pieces find the same PDUs, in the same order, and hold the same bytes or stop alike
pub caller-cut-anywhere
    : (hold hold' : List ℕ) (held held' : ℕ) (pieces pieces' : List (List ℕ)) (pdus pdus' : List Found) (end end' : Between) →
    is_stream hold held ≡ true →
    is_stream hold' held' ≡ true →
    length hold ≡ length hold' →
    take held hold ≡ take held' hold' →
    joined pieces ≡ joined pieces' →
    Pieces hold held pieces pdus end →
    Pieces hold' held' pieces' pdus' end' →
    (pdus ≡ pdus') × (state_of end ≡ state_of end')
caller-cut-anywhere hold hold' held held' pieces pieces' pdus pdus' end end' i i' size start bytes run run' =
    let l : Listened = record { taken = 0; pdus = []; state = State.holding (take held hold) } in
    let one = pieces-are-pieces hold held pieces pdus end l i refl run in
    let two = pieces-are-pieces hold' held' pieces' pdus' end' l i' (ap State.holding start) run' in
    let same = cut-anywhere in_use (length hold) l pieces pieces' bytes ∙ ap (λ (h : ℕ). on_pieces in_use h l pieces') size in
    (sym one.pdus-are ∙ ap (λ (x : Listened). x.pdus) same ∙ two.pdus-are, sym one.state-is ∙ ap (λ (x : Listened). x.state) same ∙ two.state-is)
