-- `rtr_text::run::two_bytes` meets its contract: each byte is the one byte of its number (`one_byte`), and `bytes-of-both` puts them together. Assumes nothing.
use Prim.Native.Nat.{◌+◌}
use native.Mathlib.Omega.{arith}
use lib.ListN.{get_or}
use Rattle.rtr_text.proofs.Words.{one_byte, bytes-of-both}
use Rattle.rtr_text.proofs.run.two_bytes.Goals as goal

pub returns : goal.returns
returns c =
    let a = c.args in
    let p = c.pair.ensures in
    let text = a.text.now in record {
      upper_bound = omega (arith, p.value, p.first_bound);
      by_index = bytes-of-both text a.at 1 (get_or text a.at 0) (get_or text (a.at + 1) 0) c.pair.result p.value p.first_bound.0 (one_byte text a.at p.first_bound.0) (one_byte text (a.at + 1) p.first_bound.1);
    }
