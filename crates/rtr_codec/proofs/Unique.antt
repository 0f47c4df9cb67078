-- What each public function promises leaves one result. `Post` is the contract as Rattle reads it off the source. Assumes nothing.
use Rattle.std.specs.Prelude.{Result, Ok, Err}
use Prim.Native.Nat.{ℕ}
use mathlib.Core.Bool.{cond}
use mathlib.Core.List.{List}
use mathlib.Core.Path.{◌≡◌, refl, sym, ap, ◌∙◌}
use lib.Dec.{eqb}
use lib.ListN.{get_or}
use Rattle.rtr_base.proofs.Unique.{only_one, only-this}
use Rattle.rtr_codec.specs.Read.{Verdict}
use Rattle.rtr_codec.specs.Read.Verdict.{accepted, refused}
use Rattle.rtr_codec.specs.Answers.{refusal, verdict}
use Rattle.rtr_codec.specs.declared.RtrError.{RtrError}
use Rattle.rtr_codec.specs.declared.RtrError.TheVariants.{IncompletePdu, InvalidProtocolVersion, InvalidPduType, InvalidLength, RouterKeyInV0, InvalidPrefixLength, InvalidErrorCode, InvalidUtf8}
use Rattle.rtr_codec.specs.Run.{Step, run_said}
use Rattle.rtr_codec.specs.declared.RunRead.{RunRead}
use Rattle.rtr_codec.proofs.parse_rtr_pdu.Reads as reads
use Rattle.rtr_codec.proofs.read_at.Reads as read-at-reads
use Rattle.rtr_codec.proofs.RtrError.number.Reads as number-reads
use Rattle.rtr_codec.proofs.bytes_needed.Reads as bytes-needed-reads
use Rattle.rtr_models.specs.declared.RtrPdu.{RtrPdu}

-- the error that has a number and values
unfoldable pub error_of : ℕ → List ℕ → RtrError
error_of k x =
    cond (eqb k 1) (IncompletePdu (get_or x 0 0) (get_or x 1 0))
    (cond (eqb k 2) (InvalidProtocolVersion (get_or x 0 0))
    (cond (eqb k 3) (InvalidPduType (get_or x 0 0))
    (cond (eqb k 4) (InvalidLength (get_or x 0 0) (get_or x 1 0) (get_or x 2 0))
    (cond (eqb k 5) RouterKeyInV0
    (cond (eqb k 6) (InvalidPrefixLength (get_or x 0 0) (get_or x 1 0) (get_or x 2 0))
    (cond (eqb k 7) (InvalidErrorCode (get_or x 0 0)) InvalidUtf8))))))

unfoldable pub answer_of : Verdict → Result (RtrPdu × ℕ) RtrError
answer_of (accepted pdu n) = Ok (pdu, n)
answer_of (refused k x) = Err (error_of k x)

-- number and values tell each error apart
pub error-back : (e : RtrError) → answer_of (refusal e) ≡ Err e
unfolding answer_of error_of
error-back (IncompletePdu a n) = refl
error-back (InvalidPduType t) = refl
error-back (InvalidProtocolVersion v) = refl
error-back (InvalidErrorCode c) = refl
error-back (InvalidLength e a t) = refl
error-back (InvalidPrefixLength l m b) = refl
error-back InvalidUtf8 = refl
error-back RouterKeyInV0 = refl

-- so a refusal's number and values give back the error
pub refusal-back : (e : RtrError) (k : ℕ) (x : List ℕ) → refusal e ≡ refused k x → error_of k x ≡ e
unfolding answer_of
refusal-back e k x p = let q : Err (error_of k x) ≡ Err e = ap answer_of (sym p) ∙ error-back e in cc

verdict-back : (a : Result (RtrPdu × ℕ) RtrError) → answer_of (verdict a) ≡ a
unfolding answer_of
verdict-back (Ok (pdu, n)) = refl
verdict-back (Err e) = error-back e

pub parse-rtr-pdu-unique : (κs : _) (a : _) (r r' : _) (s s' : _) → reads.Post κs a r s → reads.Post κs a r' s' → r ≡ r'
parse-rtr-pdu-unique κs a r r' s s' p q = only_one verdict answer_of verdict-back r r' _ p q

pub rtr-error-number-unique : (κs : _) (a : _) (r r' : _) (s s' : _) → number-reads.Post κs a r s → number-reads.Post κs a r' s' → r ≡ r'
rtr-error-number-unique κs a r r' s s' p q = only-this r r' _ p q

pub bytes-needed-unique : (κs : _) (a : _) (r r' : _) (s s' : _) → bytes-needed-reads.Post κs a r s → bytes-needed-reads.Post κs a r' s' → r ≡ r'
bytes-needed-unique κs a r r' s s' p q = only-this r r' _ p q

run_of : Step → RunRead
run_of step = record { answer = answer_of step.answer; next = step.next }

run-back : (r : RunRead) → run_of (run_said r) ≡ r
unfolding run_of
run-back r = λ i. record { answer = verdict-back r.answer i; next = r.next }

pub read-at-unique : (κs : _) (a : _) (r r' : _) (s s' : _) → read-at-reads.Post κs a r s → read-at-reads.Post κs a r' s' → r ≡ r'
read-at-unique κs a r r' s s' p q = only_one run_said run_of run-back r r' _ p q
