-- `rtr_text::run::high_bits` meets its contract: the bytes of two and two numbers are put together (`four_bytes`), and those of both halves (`bytes-of-both`); a byte whose part of the masked
-- word is 0 is ASCII (`masked-byte`). The mask is taken from the code and each byte of it is computed, so that a mask without one of the bits is refused for that. Assumes nothing.
use Prim.Native.Nat.{◌+◌}
use mathlib.Core.Path.{refl}
use native.Mathlib.Omega.{arith}
use Rattle.rtr_text.proofs.Words.{on-top, bytes-of-both, four_bytes, masked-byte, highest-bits}
use Rattle.rtr_text.proofs.run.high_bits.Goals as goal

pub returns : goal.returns
returns c =
    let a = c.args in
    let text = a.text.now in
    let low = four_bytes text a.at (a.at + 2) c.two_bytes.result c.two_bytes-2.result refl (c.two_bytes.ensures.upper_bound, c.two_bytes.ensures.by_index) (c.two_bytes-2.ensures.upper_bound, c.two_bytes-2.ensures.by_index) in
    let high = four_bytes text (a.at + 4) (a.at + 6) c.two_bytes-3.result c.two_bytes-4.result (omega arith) (c.two_bytes-3.ensures.upper_bound, c.two_bytes-3.ensures.by_index) (c.two_bytes-4.ensures.upper_bound, c.two_bytes-4.ensures.by_index) in
    let w = on-top 32 _ _ (omega arith) low.0 high.0 in
    λ i l z. masked-byte _ _ i _ (bytes-of-both text a.at 4 _ _ _ w low.0 low.1 high.1 i l) z (highest-bits _ refl refl refl refl refl refl refl refl i l)
