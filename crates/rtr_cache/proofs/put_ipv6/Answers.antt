-- `put_ipv6`: what is written into the part behind a place. Assumes nothing.
use mathlib.Core.List.{[]}
use native.Mathlib.Omega.{arith}
use Rattle.rtr_models.specs.declared.RtrPdu.{RtrPdu}
use Rattle.rtr_codec.specs.Reading.{in_use}
use Rattle.rtr_encode.specs.Encode.{encoding}
use Rattle.rtr_cache.specs.Cache.{sent_ipv6}
use Rattle.rtr_cache.proofs.NoPayload.{no-payload-ipv6}
use Rattle.rtr_cache.proofs.Parts.{Part, put-part, wrote-part}
use Rattle.rtr_cache.proofs.put_ipv6.Goals as goal

pub behind-requires : goal.behind-requires
behind-requires c =
    let pdu : RtrPdu = sent_ipv6 c.args.version c.args.flags c.args.r in
    let part : Part (encoding in_use pdu []) c.args.out.now c.args.at c.encode_ipv6_prefix-answer.result c.encode_ipv6_prefix-answer.new.out = let a = c.args in
    wrote-part pdu (no-payload-ipv6 a.version a.flags a.r) _ _ c.requires _ _ _
    (cc (c.max_length.ensures, c.prefix_length.ensures))
    c.encode_ipv6_prefix-answer.ensures in
    omega (arith, part.behind, c.requires)

pub returns : goal.returns
returns c =
    let pdu : RtrPdu = sent_ipv6 c.args.version c.args.flags c.args.r in
    let part : Part (encoding in_use pdu []) c.args.out.now c.args.at c.encode_ipv6_prefix-answer.result c.encode_ipv6_prefix-answer.new.out = let a = c.args in
    wrote-part pdu (no-payload-ipv6 a.version a.flags a.r) _ _ c.requires _ _ _
    (cc (c.max_length.ensures, c.prefix_length.ensures))
    c.encode_ipv6_prefix-answer.ensures in
    put-part part c.behind.result c.behind.ensures
