-- `compare` goes by how far the serial is ahead, over 32 bits that wrap. Assumes nothing.
use Rattle.std.proofs.Common.{sym, ap, arith}
use Rattle.rtr_receiver.specs.Promises.{NotifySays}
use Rattle.rtr_receiver.proofs.Calls.{ahead-same, ahead-newer, ahead-halfway, ahead-older}
use Rattle.rtr_receiver.proofs.compare.Goals as goal

pub returns-then-ahead-eq0 : goal.returns-then-ahead-eq0
returns-then-ahead-eq0 c = ap NotifySays.compares (sym (ahead-same _ _ _ c.ranges.serial.fits c.ranges.table.fits c.wrapping_sub_u32-ahead.type_inv c.wrapping_sub_u32-ahead.ensures.value c.if-ahead-eq0.true))

pub returns-then-ahead-lt2147483648 : goal.returns-then-ahead-lt2147483648
returns-then-ahead-lt2147483648 c = ap NotifySays.compares (sym (ahead-newer _ _ _ c.ranges.serial.fits c.ranges.table.fits c.wrapping_sub_u32-ahead.type_inv c.wrapping_sub_u32-ahead.ensures.value c.if-ahead-eq0.false c.if-ahead-lt2147483648.true))

pub returns-then-ahead : goal.returns-then-ahead
returns-then-ahead c = ap NotifySays.compares (sym (ahead-halfway _ _ _ c.ranges.serial.fits c.ranges.table.fits c.wrapping_sub_u32-ahead.type_inv c.wrapping_sub_u32-ahead.ensures.value c.if-ahead.true))

pub returns : goal.returns
returns c = ap NotifySays.compares (sym (ahead-older _ _ _ c.ranges.serial.fits c.ranges.table.fits c.wrapping_sub_u32-ahead.type_inv c.wrapping_sub_u32-ahead.ensures.value (omega (arith, c.if-ahead.false, c.if-ahead-lt2147483648.false))))
