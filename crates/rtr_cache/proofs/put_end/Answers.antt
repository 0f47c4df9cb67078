-- `put_end`: what is written into the part behind a place. Assumes nothing.
use mathlib.Core.List.{[]}
use native.Mathlib.Omega.{arith}
use Rattle.rtr_models.specs.declared.RtrPdu.{RtrPdu}
use Rattle.rtr_codec.specs.Reading.{in_use}
use Rattle.rtr_encode.specs.Encode.{encoding}
use Rattle.rtr_cache.specs.Cache.{sent_end}
use Rattle.rtr_cache.proofs.NoPayload.{no-payload-end}
use Rattle.rtr_cache.proofs.Parts.{Part, put-part, wrote-part}
use Rattle.rtr_cache.proofs.put_end.Goals as goal

pub behind-requires : goal.behind-requires
behind-requires c =
    let pdu : RtrPdu = sent_end c.args.version c.args.end in
    let part : Part (encoding in_use pdu []) c.args.out.now c.args.at c.encode_end_of_data-answer.result c.encode_end_of_data-answer.new.out = let a = c.args in
    wrote-part pdu (no-payload-end a.version a.end) _ _ c.requires _ _ _
    (cc (c.interval_of-expire_interval.ensures, c.interval_of-retry_interval.ensures, c.interval_of-refresh_interval.ensures))
    c.encode_end_of_data-answer.ensures in
    omega (arith, part.behind, c.requires)

pub returns : goal.returns
returns c =
    let pdu : RtrPdu = sent_end c.args.version c.args.end in
    let part : Part (encoding in_use pdu []) c.args.out.now c.args.at c.encode_end_of_data-answer.result c.encode_end_of_data-answer.new.out = let a = c.args in
    wrote-part pdu (no-payload-end a.version a.end) _ _ c.requires _ _ _
    (cc (c.interval_of-expire_interval.ensures, c.interval_of-retry_interval.ensures, c.interval_of-refresh_interval.ensures))
    c.encode_end_of_data-answer.ensures in
    put-part part c.behind.result c.behind.ensures
