-- What each public function promises leaves one result, and of the hold one content up to the held count (document 01, "How tight the promises
-- are": the hold past it is the one exception). Assumes nothing.
use Rattle.std.specs.Prelude.{Result, Ok, Err, Option, Some, None}
use Prim.Native.Nat.{ℕ}
use mathlib.Core.List.{List}
use mathlib.Core.Path.{◌≡◌, refl, sym, ap, ◌∙◌}
use lib.Dec.{eqb}
use lib.ListN.{get_or, take}
use mathlib.Core.Bool.{Bool, cond}
use native.Mathlib.Omega.{arith}
use borrow.Author.Tests.{ne_eqb}
use Rattle.rtr_base.proofs.Unique.{only-this}
use Rattle.rtr_codec.specs.Read.{Verdict}
use Rattle.rtr_codec.specs.Answers.{refusal, number_of}
use Rattle.rtr_codec.proofs.Laws.{refusal_is, refusal-small}
use Rattle.rtr_codec.specs.declared.RtrError.{RtrError}
use Rattle.rtr_codec.proofs.Unique.{answer_of, error-back}
use Rattle.rtr_stream.specs.Search.{Says, Outcome, stream_refusal, stops_by, said_by, search_said}
use Rattle.rtr_stream.specs.declared.StreamError.{StreamError}
use Rattle.rtr_stream.specs.declared.Searched.{Searched}
use Rattle.rtr_stream.proofs.search.Reads as search-reads
use Rattle.rtr_stream.proofs.is_stream.Reads as is-stream-reads
use Rattle.rtr_stream.proofs.Stream.new.Reads as new-reads
use Rattle.rtr_stream.proofs.StreamError.number.Reads as number-reads
use Rattle.rtr_models.specs.declared.RtrPdu.{RtrPdu}
use Rattle.rtr_stream.specs.declared.SearchError.{SearchError}
use Rattle.rtr_stream.specs.declared.Lies.{Lies}

-- the answer that has a read's number and values
answered : Result (RtrPdu × ℕ) RtrError → Result (Option (RtrPdu × Lies)) SearchError
answered (Err error) = Err (SearchError.Refused (StreamError.Read error))
answered (Ok (pdu, n)) = Ok None

-- the answer that says this
pub saying : Says → Result (Option (RtrPdu × Lies)) SearchError
saying (Says.pdu_at pdu lies bytes) = Ok (Some (pdu, lies))
saying (Says.stops number values) = cond (eqb number 12) (Err (SearchError.Refused (StreamError.OverHold (get_or values 0 0)))) (answered (answer_of (Verdict.refused number values)))
saying Says.wants_more = Ok None
saying (Says.refused_call number hold) = Err SearchError.NotAStream

error-told : (e : RtrError) → saying (stops_by (stream_refusal (StreamError.Read e))) ≡ Err (SearchError.Refused (StreamError.Read e))
unfolding saying answered
error-told e =
    let k : ℕ = number_of (refusal e) in
    let x : List ℕ = (refusal_is e).0 in
    ap (λ (v : Verdict). saying (stops_by v)) (refusal_is e).1
    ∙ ap (λ (b : Bool). cond b (Err (SearchError.Refused (StreamError.OverHold (get_or x 0 0)))) (answered (answer_of (Verdict.refused k x)))) (ne_eqb k 12 (λ q. omega (arith, refusal-small e)))
    ∙ ap (λ (v : Verdict). answered (answer_of v)) (sym (refusal_is e).1)
    ∙ ap answered (error-back e)

searched_of : Outcome → Searched
searched_of o = record { stream = record { held = o.count }; next = o.next; answer = saying o.says }

pub answer-told : (hold piece : List ℕ) (a : Result (Option (RtrPdu × Lies)) SearchError) → saying (said_by a hold piece) ≡ a
unfolding saying
answer-told hold piece (Ok (Some (pdu, lies))) = refl
answer-told hold piece (Err (SearchError.Refused (StreamError.Read e))) = error-told e
answer-told hold piece (Err (SearchError.Refused (StreamError.OverHold length))) = refl
answer-told hold piece (Ok None) = refl
answer-told hold piece (Err SearchError.NotAStream) = refl

search-back : (hold piece : List ℕ) (r : Searched) → searched_of (search_said r hold piece) ≡ r
unfolding searched_of
search-back hold piece r = λ i. record { stream = r.stream; next = r.next; answer = answer-told hold piece r.answer i }

one-held : (r r' : Searched) (hold hold' piece : List ℕ) (given : Outcome) →
    search_said r hold piece ≡ given →
    search_said r' hold' piece ≡ given →
    (r ≡ r') × (take r.stream.held hold ≡ take r'.stream.held hold') × (said_by r.answer hold piece ≡ said_by r'.answer hold' piece)
one-held r r' hold hold' piece given p q =
    (sym (search-back hold piece r) ∙ ap searched_of (p ∙ sym q) ∙ search-back hold' piece r', ap (λ (o : Outcome). o.held) (p ∙ sym q), ap (λ (o : Outcome). o.says) (p ∙ sym q))

-- two results and two holds that meet the promise are equal, the holds up to the held count, in the bytes of a PDU that lies there, and whole on 22
pub search-unique : (κs : _) (a : _) (r r' : _) (s s' : _) → search-reads.Post κs a r s → search-reads.Post κs a r' s'
    → (r ≡ r') × (take r.stream.held s.0.now ≡ take r'.stream.held s'.0.now) × (said_by r.answer s.0.now a.1.1.0.now ≡ said_by r'.answer s'.0.now a.1.1.0.now)
search-unique κs a r r' s s' p q = one-held r r' s.0.now s'.0.now _ _ p.0 q.0

pub stream-new-unique : (κs : _) (a : _) (r r' : _) (s s' : _) → new-reads.Post κs a r s → new-reads.Post κs a r' s' → r ≡ r'
stream-new-unique κs a r r' s s' p q = only-this r r' _ p q

pub is-stream-unique : (κs : _) (a : _) (r r' : _) (s s' : _) → is-stream-reads.Post κs a r s → is-stream-reads.Post κs a r' s' → r ≡ r'
is-stream-unique κs a r r' s s' p q = only-this r r' _ p q

pub stream-error-number-unique : (κs : _) (a : _) (r r' : _) (s s' : _) → number-reads.Post κs a r s → number-reads.Post κs a r' s' → r ≡ r'
stream-error-number-unique κs a r r' s s' p q = only-this r r' _ p q
