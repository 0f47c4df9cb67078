-- A run read by place: the slice from a place on is all that is behind it, and what was read there ends within the run. Assumes nothing.
use Prim.Native.Nat.{ℕ, ◌+◌, ◌-◌, ◌≤◌, ◌<◌}
use mathlib.Core.List.{List, []}
use mathlib.Core.Path.{◌≡◌, refl, sym, ap, ◌∙◌}
use native.Mathlib.Omega.{arith}
use lib.ListN.{length, take, drop, length-drop, drop_of_length-le}
use lib.Seq.{take_all}
use Rattle.rtr_models.specs.declared.RtrPdu.{RtrPdu}
use Rattle.rtr_codec.specs.Reading.{Reading}
use Rattle.rtr_codec.specs.Read.{Verdict, read}
use Rattle.rtr_codec.specs.Read.Verdict.{accepted}
use Rattle.rtr_codec.specs.Run.{place_after, read_at}
use Rattle.rtr_codec.specs.Answers.{refusal}
use Rattle.rtr_codec.specs.declared.RtrError.{RtrError}
use Rattle.rtr_codec.proofs.Laws.{read-consumes, refusal_is}

all-behind : (s : List ℕ) (at : ℕ) → take (length s - at) (drop at s) ≡ drop at s
all-behind s at = take_all (length s - at) (drop at s) (simp length-drop (omega arith))

unmoved : (error : RtrError) (at : ℕ) → place_after at (refusal error) ≡ at
unmoved error at = rw (refusal_is error).1 refl

module _ (R : Reading) (s : List ℕ) (at : ℕ) (v : Verdict) (e : v ≡ read R (take (length s - at) (drop at s))) where
  here : read R (drop at s) ≡ v
  here = ap (read R) (sym (all-behind s at)) ∙ sym e

  pub ends-within-run : (pdu : RtrPdu) (n : ℕ) → v ≡ accepted pdu n → at ≤ length s → at + n ≤ length s
  ends-within-run pdu n q h =
      let room : n ≤ length (drop at s) = (read-consumes R (drop at s) pdu n (here ∙ q)).2 in
      omega (arith, length-drop at s)

  pub moves-on : (pdu : RtrPdu) (n : ℕ) → v ≡ accepted pdu n → record { answer = accepted pdu n; next = at + n } ≡ read_at R s at
  unfolding read_at
  moves-on pdu n q = simp (here, q)

  pub stays : (error : RtrError) → v ≡ refusal error → record { answer = refusal error; next = at } ≡ read_at R s at
  unfolding read_at
  stays error q = simp (here, q, unmoved error at)

-- past the end nothing is left
pub past_the_end : (R : Reading) (s : List ℕ) (at : ℕ) (v : Verdict) → length s < at → v ≡ read R [] → record { answer = v; next = at } ≡ read_at R s at
unfolding read_at read
past_the_end R s at v h e = simp (drop_of_length-le s {i = at} (omega arith), e)
