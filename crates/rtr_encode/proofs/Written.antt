-- What `encode` comes to where the checks before the last pass: the output is too short, or it is written. Assumes nothing.
use Prim.Native.Nat.{ℕ, ◌≤◌, ◌<◌}
use mathlib.Core.Bool.{true}
use mathlib.Core.List.{List, [], ◌∷◌, ◌++◌}
use mathlib.Core.Path.{◌≡◌, refl, ap, ◌∙◌}
use borrow.Author.Tests.{le-leb, lt-leb}
use lib.ListN.{length, drop}
use Rattle.rtr_models.specs.Values.{seconds_or}
use Rattle.rtr_models.specs.declared.RtrProtocolVersion.{RtrProtocolVersion}
use Rattle.rtr_models.specs.declared.RtrProtocolVersion.TheVariants.{V0, V1}
use Rattle.rtr_models.specs.declared.RtrEndOfData.{RtrEndOfData}
use Rattle.rtr_models.specs.declared.RtrPdu.{RtrPdu}
use Rattle.rtr_models.specs.declared.RtrPdu.TheVariants.{EndOfData}
use Rattle.rtr_codec.specs.Reading.{Reading}
use Rattle.rtr_base.specs.Over.{over}
use Rattle.rtr_base.proofs.Overs.{over-front}
use Rattle.rtr_encode.specs.Encode.{places_inside, text_in, encoded_length, encoding, encode_says, encode}
use Rattle.rtr_encode.specs.Private.{with_version, end_of_data}
use Rattle.rtr_encode.specs.Encode.Writing.{written, refused}

module _ (R : Reading) (pdu : RtrPdu) (s out : List ℕ) (n : ℕ) (p : places_inside pdu s ≡ true) (t : text_in pdu s ≡ true)
    (e : encoded_length R pdu ≡ n) (f : n ≤ 4294967295) where
  pub too_short : length out < n → record { says = refused 9 (n ∷ []); out = out } ≡ encode R pdu s out
  unfolding encode encode_says
  too_short h = simp (p, t, e, le-leb n 4294967295 f, lt-leb n (length out) h)

  pub wrote : (exit : List ℕ) → n ≤ length out → length (encoding R pdu s) ≡ n → exit ≡ over out 0 (encoding R pdu s) → record { says = written n; out = exit } ≡ encode R pdu s out
  unfolding encode encode_says
  wrote exit h l q =
      let e' : exit ≡ encoding R pdu s ++ drop n out = q ∙ over-front out (encoding R pdu s) ∙ ap (λ (k : ℕ). encoding R pdu s ++ drop k out) l in
      simp (p, t, e, le-leb n 4294967295 f, le-leb n (length out) h, e')

-- an interval that is absent is written as its default
pub filled : (R : Reading) (p : RtrEndOfData) (s out : List ℕ) (refresh retry expire : ℕ)
    → refresh ≡ seconds_or 3600 p.refresh_interval → retry ≡ seconds_or 600 p.retry_interval → expire ≡ seconds_or 7200 p.expire_interval
    → encode R (EndOfData (end_of_data p.session_id p.serial_number refresh retry expire)) s out ≡ encode R (EndOfData (with_version V1 p)) s out
unfolding encode encode_says encoded_length encoding
filled R p s out refresh retry expire a b c = simp (a, b, c)

-- an End of Data has no payload, so the slice does not matter
any_slice : (R : Reading) (v : RtrProtocolVersion) (p : RtrEndOfData) (s out : List ℕ) → encode R (EndOfData (with_version v p)) [] out ≡ encode R (EndOfData (with_version v p)) s out
unfolding encode encode_says encoded_length encoding
any_slice R V0 p s out = refl
any_slice R V1 p s out = refl

pub end-any-slice : (R : Reading) (p : RtrEndOfData) (s out : List ℕ) → encode R (EndOfData p) [] out ≡ encode R (EndOfData p) s out
end-any-slice R p s out = any_slice R p.version p s out
