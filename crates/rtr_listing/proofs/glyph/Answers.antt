-- `glyph`: by the test of the digit. Assumes nothing.
use borrow.Author.Tests.{lt-ltb, le-ltb}
use Rattle.rtr_listing.proofs.glyph.Goals as goal

pub returns-then-digit-lt10 : goal.returns-then-digit-lt10
returns-then-digit-lt10 c = simp (lt-ltb _ _ c.if-digit-lt10.true)

pub returns : goal.returns
returns c = simp (le-ltb _ _ c.if-digit-lt10.false)
