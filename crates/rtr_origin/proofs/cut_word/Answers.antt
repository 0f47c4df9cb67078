-- `cut_word`: no bits, all of them, or some: then dropped and put back as zeros. Assumes nothing.
use native.Mathlib.Omega.{arith}
use Rattle.rtr_origin.proofs.Bits.{cut-none, cut-whole, cut-part}
use Rattle.rtr_origin.proofs.cut_word.Goals as goal

pub returns-then-bits-eq0 : goal.returns-then-bits-eq0
returns-then-bits-eq0 c = cut-none _ _ c.if-bits-eq0.true

pub returns-then-bits-ge32 : goal.returns-then-bits-ge32
returns-then-bits-ge32 c = cut-whole _ _ c.if-bits-ge32.true

pub returns : goal.returns
returns c = cut-part _ _ c.if-bits-eq0.false c.if-bits-ge32.false (omega arith)
