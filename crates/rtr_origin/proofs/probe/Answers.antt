-- `probe`: each word with the bits that are left for it. Assumes nothing.
use Rattle.rtr_origin.proofs.Bits.{probe-is}
use Rattle.rtr_origin.proofs.probe.Goals as goal

pub returns : goal.returns
returns c =
    let a = c.args in
    probe-is a.a a.bits a.low a.asn _ _ _ _ _ _ _ c.after_word-second.ensures c.after_word-third.ensures c.after_word-fourth.ensures c.cut_word.ensures c.cut_word-2.ensures c.cut_word-3.ensures c.cut_word-4.ensures
