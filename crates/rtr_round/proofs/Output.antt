-- What a written encoding leaves of the output: exactly its own bytes are written, those behind them stay, and the output is as long as it
-- was. Assumes nothing.
use Prim.Native.Nat.{ℕ, ◌≤◌}
use mathlib.Core.Bool.{true}
use mathlib.Core.List.{List}
use mathlib.Core.Path.{◌≡◌, ap, ◌∙◌}
use native.Mathlib.Omega.{arith}
use borrow.Author.Tests.{leb-true}
use lib.ListN.{length, drop, length-append, length-drop}
use lib.Seq.{drop_at}
use Rattle.rtr_models.specs.declared.RtrPdu.{RtrPdu}
use Rattle.rtr_codec.specs.Reading.{Reading}
use Rattle.rtr_encode.specs.Encode.{places_inside, encoded_length, encoding, encode}
use Rattle.rtr_encode.specs.Encode.Writing.{written}
use Rattle.rtr_encode.proofs.Laws.{written-is-encoding, written-length, written-tests}
use Rattle.rtr_round.proofs.RoundTrip.{length-encoding}

module _ (R : Reading) (pdu : RtrPdu) (s out : List ℕ) (n : ℕ) (e : (encode R pdu s out).says ≡ written n) where
  -- every payload was inside, and there was room
  written-passed : (places_inside pdu s ≡ true) × (encoded_length R pdu ≤ length out)
  written-passed =
      let t = written-tests R pdu s out n e in
      (t.0, leb-true (encoded_length R pdu) (length out) t.3)

  -- as many bytes are written as the encoding has
  pub written_all : length (encoding R pdu s) ≡ n
  written_all = length-encoding R pdu s written-passed.0 ∙ (let m = written-length R pdu s out n e in cc)

  -- the bytes behind them stay
  pub written-keeps-rest : drop n (encode R pdu s out).out ≡ drop n out
  written-keeps-rest = ap (drop n) (written-is-encoding R pdu s out n e) ∙ drop_at (encoding R pdu s) (drop n out) n written_all

  -- and the output is as long as it was
  pub written-keeps-length : length (encode R pdu s out).out ≡ length out
  written-keeps-length =
      let room : n ≤ length out = omega (arith, written-passed.1, written-length R pdu s out n e) in
      ap length (written-is-encoding R pdu s out n e) ∙ simp (length-append, length-drop, written_all) (omega arith)
