-- How a turn ends, in the code's words and in the definition's. Assumes nothing.
use Rattle.std.specs.Prelude.{Result, Ok, Err, Some, None, Option, ⊤}
use Prim.Native.Nat.{ℕ, ◌+◌, ◌-◌, ◌≤◌, ◌<◌}
use mathlib.Core.Bool.{true, false}
use mathlib.Core.List.{List, [], ◌++◌}
use mathlib.Core.Path.{◌≡◌, refl, sym, ap, ◌∙◌, subst}
use native.Mathlib.Omega.{arith}
use borrow.Author.Tests.{ne_eqb}
use lib.ListN.{length, get_or, take, drop, length-append, length-drop, take-append-drop, drop_of_length-le}
use lib.Seq.{take_all, length-take-le, get_or-take, get_or-drop}
use Rattle.rtr_models.specs.declared.RtrPdu.{RtrPdu}
use Rattle.rtr_codec.specs.Reading.{in_use}
use Rattle.rtr_codec.specs.Read.{read, header_length, needed}
use Rattle.rtr_codec.proofs.Laws.{needed-large, header-stays, refusal_is}
use Rattle.rtr_codec.specs.Answers.{verdict}
use Rattle.rtr_codec.specs.declared.RtrError.{RtrError}
use Rattle.rtr_stream.specs.Stream.{Heard, heard_of, length_in, judge}
use Rattle.rtr_stream.specs.Search.{Search, End, Says, Outcome, over, search_from, is_stream, search, outcome_of, says_of, lying, stream_refusal, search_said}
use Rattle.rtr_stream.specs.Private.{LengthTested, JudgedTo, Turned, search_here}
use Rattle.rtr_stream.specs.declared.StreamError.{StreamError}
use Rattle.rtr_stream.specs.declared.Turn.{Turn}
use Rattle.rtr_stream.specs.declared.Lies.{Lies}
use Rattle.rtr_stream.proofs.Judge.{InRange, Waiting, judge-refused, judge-whole}
use Rattle.rtr_stream.proofs.Judge.Waiting.{short, cut}
use Rattle.rtr_stream.proofs.Runs.{waiting-of-header, runs-out, arrives_at}
use Rattle.rtr_stream.specs.declared.SearchError.{SearchError}

-- the rest of a piece is the part of it from the place to its end
pub rest_part : (at : ℕ) (piece : List ℕ) → take (length piece - at) (drop at piece) ≡ drop at piece
rest_part at piece = take_all (length piece - at) (drop at piece) (simp length-drop (omega arith))

-- a part of the piece behind what is held
pub kept : (hold' hold piece : List ℕ) (held at : ℕ) →
    take (held + length (take (length piece - at) (drop at piece))) hold' ≡ take held hold ++ take (length piece - at) (drop at piece) →
    take (held + (length piece - at)) hold' ≡ take held hold ++ drop at piece
kept hold' hold piece held at e =
    let long : length (drop at piece) ≡ length piece - at = length-drop at piece in
    rw (← long) (rw (rest_part at piece) at e)

-- where something was held a PDU lies in the hold
pub lies-in-hold : (before at n : ℕ) → 0 < before → lying before at n ≡ Lies.InHold (record { start = 0; len = n })
lies-in-hold before at n h = simp (ne_eqb before 0 (λ e. omega arith))

-- a refusal is the definition's
pub refused-alike : (hold piece s : List ℕ) (before at next : ℕ) (go : Search) (error : StreamError) (heard : Heard) →
    heard ≡ heard_of (stream_refusal error) →
    search_said (record { stream = record { held = 0 }; next = next; answer = Err (SearchError.Refused error) }) hold piece
    ≡ outcome_of before at (over next s heard go)
refused-alike hold piece s before at next go error heard e = same error ∙ ap (λ (h : Heard). outcome_of before at (over next s h go)) (sym e)
  where
    same : (error : StreamError) →
        search_said (record { stream = record { held = 0 }; next = next; answer = Err (SearchError.Refused error) }) hold piece
        ≡ outcome_of before at (over next s (heard_of (stream_refusal error)) go)
    same (StreamError.OverHold length) = refl
    same (StreamError.Read e) = rw (refusal_is e).1 refl

-- a PDU found in the hold's first n bytes
pub found-in-hold : (hold piece : List ℕ) (n before at next : ℕ) (go : Search) (pdu : RtrPdu) (heard : Heard) →
    n ≤ length hold →
    0 < before →
    heard ≡ Heard.whole pdu →
    search_said (record { stream = record { held = 0 }; next = next; answer = Ok (Some (pdu, (Lies.InHold (record { start = 0; len = n })))) }) hold piece
    ≡ outcome_of before at (over next (take n hold) heard go)
found-in-hold hold piece n before at next go pdu heard h p e =
    let long : length (take n hold) ≡ n = length-take-le n hold h in
    rw e (rw (lies-in-hold before at (length (take n hold)) p) (rw long refl))

-- what a read that the code has taken apart is heard as
pub heard-read : (s : List ℕ) (answer : Result (RtrPdu × ℕ) RtrError) (pdu : RtrPdu) (n : ℕ) → verdict answer ≡ read in_use s → answer ≡ Ok (pdu, n) → heard_of (read in_use s) ≡ Heard.whole pdu
heard-read s answer pdu n p q = ap heard_of (sym p) ∙ ap (λ (a : Result (RtrPdu × ℕ) RtrError). heard_of (verdict a)) q

pub heard-refused : (s : List ℕ) (answer : Result (RtrPdu × ℕ) RtrError) (error : RtrError) → verdict answer ≡ read in_use s → answer ≡ Err error → heard_of (read in_use s) ≡ heard_of (stream_refusal (StreamError.Read error))
heard-refused s answer error p q = ap heard_of (sym p) ∙ ap (λ (a : Result (RtrPdu × ℕ) RtrError). heard_of (verdict a)) q

-- From here on: what the search from a place comes to, by what is left of the piece.
module _ (hold hold' piece : List ℕ) (held at : ℕ) (inside : at ≤ length piece) (within : held ≤ length hold) where
  -- the rest of the piece leaves it waiting
  pub rest-held
      : Waiting (length hold) (take held hold ++ drop at piece) →
      take (held + (length piece - at)) hold' ≡ take held hold ++ drop at piece →
      search_said (record { stream = record { held = held + (length piece - at) }; next = length piece; answer = Ok None }) hold' piece
      ≡ outcome_of held at (search_here hold held piece at)
  rest-held w e =
      let run : search_here hold held piece at ≡ record { end = End.more; next = at + length (drop at piece); held = take held hold ++ drop at piece } =
      runs-out in_use (length hold) (drop at piece) at (take held hold) w in
      let left : length (drop at piece) ≡ length piece - at = length-drop at piece in
      let place : length piece ≡ at + length (drop at piece) = omega arith in
      let count : held + (length piece - at) ≡ length (take held hold ++ drop at piece) =
      simp length-append (omega (arith, length-take-le held hold within)) in
      ap
      (λ (n : ℕ). outcome n (held + (length piece - at)) (take (held + (length piece - at)) hold'))
      place
      ∙ ap (λ (n : ℕ). outcome (at + length (drop at piece)) n (take (held + (length piece - at)) hold')) count
      ∙ ap (λ (x : List ℕ). outcome (at + length (drop at piece)) (length (take held hold ++ drop at piece)) x) e
      ∙ sym (ap (outcome_of held at) run)
    where
      outcome : ℕ → ℕ → List ℕ → Outcome
      outcome next count held = record { says = Says.wants_more; next = next; count = count; held = held }

  -- as `keep_rest` says it
  pub rest-kept
      : Waiting (length hold) (take held hold ++ drop at piece) →
      (r : Turn) →
      (r ≡ record { held = held + (length piece - at); next = length piece; then = Some (Ok None) })
      × (take (held + (length piece - at)) hold' ≡ take held hold ++ drop at piece) →
      Turned hold held piece at r hold'
  rest-kept w r e = subst (λ (t : Turn). Turned hold held piece at t hold') (sym e.0) (rest-held w e.1)

-- nothing is held, and a header lies in the piece
module _ (hold piece : List ℕ) (at : ℕ) (header : 8 ≤ length (drop at piece)) where
  pub front-header : (k : ℕ) → 8 ≤ k → k ≤ length (drop at piece) → header_length (take k (drop at piece)) ≡ needed (drop at piece)
  front-header k h l =
      sym
      (needed-large (drop at piece) header
      ∙ ap header_length (sym (take-append-drop k (drop at piece)))
      ∙ header-stays (take k (drop at piece)) (drop k (drop at piece)) (omega (arith, length-take-le k (drop at piece) l)))

  front-type : get_or (take 8 (drop at piece)) 1 0 ≡ get_or piece (at + 1) 0
  front-type = let first : 1 < 8 = omega arith in rw (get_or-take, get_or-drop)

  -- the header's length is refused
  pub piece-refused
      : (hold' : List ℕ) (n type : ℕ) (error : StreamError) →
      n ≡ needed (drop at piece) →
      type ≡ get_or piece (at + 1) 0 →
      ((next : Heard) → length_in (length hold) n type next ≡ heard_of (stream_refusal error)) →
      search_said (record { stream = record { held = 0 }; next = at + 8; answer = Err (SearchError.Refused error) }) hold' piece
      ≡ outcome_of 0 at (search_here hold 0 piece at)
  piece-refused hold' n type error p q f =
      let front : List ℕ = take 8 (drop at piece) in
      let long : length front ≡ 8 = length-take-le 8 (drop at piece) header in
      let heard : judge in_use (length hold) front ≡ heard_of (stream_refusal error) =
      judge-refused in_use (length hold) front n type _ (omega arith) (p ∙ sym (front-header 8 (omega arith) header)) (q ∙ sym front-type) f in
      refused-alike hold' piece front 0 at (at + 8) _ error _ heard
      ∙ sym
      (ap (outcome_of 0 at)
      (arrives_at in_use (length hold) 8 (drop at piece) at [] (omega arith) header
      (short (omega (arith, length-take-le 7 (drop at piece) (omega arith))))))

  -- all that the header names lies in the piece
  pub piece-whole
      : (n : ℕ) →
      n ≡ needed (drop at piece) →
      InRange (length hold) n →
      n ≤ length (drop at piece) →
      search_here hold 0 piece at
      ≡ over (at + n) (take n (drop at piece)) (heard_of (read in_use (take n (drop at piece))))
      (search_from in_use (length hold) (at + n) (take n (drop at piece)) (drop n (drop at piece)))
  piece-whole n p i l =
      let front : List ℕ = take n (drop at piece) in
      let long : length front ≡ n = length-take-le n (drop at piece) l in
      let name : header_length front ≡ n = front-header n i.least l ∙ sym p in
      let heard : judge in_use (length hold) front ≡ heard_of (read in_use front) =
      judge-whole in_use (length hold) front (omega arith) (subst (InRange (length hold)) (sym name) i) (omega arith) in
      arrives_at in_use (length hold) n (drop at piece) at [] (omega arith) l
      (waiting-of-header (drop at piece) (n - 1) header (subst (InRange (length hold)) (p ∙ needed-large (drop at piece) header) i) (omega arith) (omega (arith, needed-large (drop at piece) header)))
      ∙ ap (λ (h : Heard). over (at + n) front h (search_from in_use (length hold) (at + n) front (drop n (drop at piece)))) heard

  -- or not
  pub piece_cut : (n : ℕ) → n ≡ needed (drop at piece) → InRange (length hold) n → length (drop at piece) < n → Waiting (length hold) (drop at piece)
  piece_cut n p i l =
      let name : n ≡ header_length (drop at piece) = p ∙ needed-large (drop at piece) header in
      cut header (subst (InRange (length hold)) name i) (omega arith)

-- a PDU found in the piece
pub found-in-piece : (hold' piece : List ℕ) (n at : ℕ) (go : Search) (pdu : RtrPdu) (heard : Heard) →
    n ≤ length (drop at piece) →
    heard ≡ Heard.whole pdu →
    search_said (record { stream = record { held = 0 }; next = at + n; answer = Ok (Some (pdu, (Lies.InPiece (record { start = at; len = n })))) }) hold' piece
    ≡ outcome_of 0 at (over (at + n) (take n (drop at piece)) heard go)
found-in-piece hold' piece n at go pdu heard h e =
    let long : length (take n (drop at piece)) ≡ n = length-take-le n (drop at piece) h in
    rw e (rw long refl)

-- what the test of a length has found
pub fits-of : (H n type : ℕ) (r : Result ⊤ StreamError) → LengthTested H n type r → r ≡ Ok tt → InRange H n
fits-of H n type r t e =
    let f : LengthTested H n type (Ok tt) = subst (LengthTested H n type) e t in
    record { least = f.0; most = f.1; fits = f.2 }

pub refusal-of : (H n type : ℕ) (r : Result ⊤ StreamError) (error : StreamError) → LengthTested H n type r → r ≡ Err error → (next : Heard) → length_in H n type next ≡ heard_of (stream_refusal error)
refusal-of H n type r error t e = subst (LengthTested H n type) e t

-- the hold's first 8 bytes, a header
module _ (hold : List ℕ) (n : ℕ) (size : 8 ≤ length hold) (name : n ≡ needed (take 8 hold)) where
  header-long : length (take 8 hold) ≡ 8
  header-long = length-take-le 8 hold size

  header-name : n ≡ header_length (take 8 hold)
  header-name = name ∙ needed-large (take 8 hold) (omega (arith, header-long))

  pub header_refused : (type : ℕ) (h : Heard) → type ≡ get_or hold 1 0 → ((next : Heard) → length_in (length hold) n type next ≡ h) → judge in_use (length hold) (take 8 hold) ≡ h
  header_refused type h q f =
      let first : 1 < 8 = omega arith in
      judge-refused in_use (length hold) (take 8 hold) n type h (omega (arith, header-long)) header-name (q ∙ rw get_or-take) f

  pub header-whole : InRange (length hold) n → n ≡ 8 → judge in_use (length hold) (take 8 hold) ≡ heard_of (read in_use (take 8 hold))
  header-whole i e =
      judge-whole in_use (length hold) (take 8 hold) (omega (arith, header-long)) (subst (InRange (length hold)) header-name i)
      (omega (arith, header-long, header-name))

  pub header-waits : InRange (length hold) n → (n ≡ 8 → ⊥) → Waiting (length hold) (take 8 hold)
  header-waits i e =
      cut (omega (arith, header-long)) (subst (InRange (length hold)) header-name i) (omega (arith, header-long, header-name, i.least))

-- a turn that was read is a turn that was judged
pub judged : (hold : List ℕ) (n : ℕ) (t : Option (Result (Option (RtrPdu × Lies)) SearchError)) (held next : ℕ) (h h' : Heard) → JudgedTo hold n t held next h → h' ≡ h → JudgedTo hold n t held next h'
judged hold n t held next h h' j e = subst (JudgedTo hold n t held next) (sym e) j

-- nothing is left of the piece
pub nothing_left : (hold piece : List ℕ) (held at : ℕ) → held ≤ length hold → length piece ≤ at → search_said (record { stream = record { held = held }; next = at; answer = Ok None }) hold piece ≡ outcome_of held at (search_here hold held piece at)
unfolding search_from
nothing_left hold piece held at h l =
    let none : drop at piece ≡ [] = drop_of_length-le piece l in
    let long : length (take held hold) ≡ held = length-take-le held hold h in
    rw (none, long) refl

-- what a search says goes by where it started only in where a PDU lies
pub outcomes-alike : (held held' at at' : ℕ) → ((n : ℕ) → lying held at n ≡ lying held' at' n) → (r : Search) → outcome_of held at r ≡ outcome_of held' at' r
outcomes-alike held held' at at' same r =
    ap (λ (says : Says). outcome says) (go r.end)
  where
    outcome : Says → Outcome
    outcome says = record { says = says; next = r.next; count = length r.held; held = r.held }

    go : (end : End) → says_of held at end ≡ says_of held' at' end
    go (End.found pdu bytes) = ap (λ (lies : Lies). Says.pdu_at pdu lies bytes) (same (length bytes))
    go (End.stop number values) = refl
    go End.more = refl

-- 22, and else the search from the place
pub not-a-stream : (hold piece : List ℕ) (held at : ℕ) → is_stream hold held ≡ false → search_said (record { stream = record { held = held }; next = at; answer = Err SearchError.NotAStream }) hold piece ≡ search hold held piece at
unfolding search
not-a-stream hold piece held at e = simp e

pub a-stream : (hold piece : List ℕ) (held at : ℕ) → is_stream hold held ≡ true → outcome_of held at (search_here hold held piece at) ≡ search hold held piece at
unfolding search
a-stream hold piece held at e = simp e
