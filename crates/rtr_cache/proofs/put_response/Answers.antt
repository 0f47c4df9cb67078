-- `put_response`: what is written into the part behind a place. Assumes nothing.
use mathlib.Core.List.{[]}
use mathlib.Core.Path.{refl}
use native.Mathlib.Omega.{arith}
use Rattle.rtr_models.specs.declared.RtrPdu.{RtrPdu}
use Rattle.rtr_codec.specs.Reading.{in_use}
use Rattle.rtr_encode.specs.Encode.{encoding}
use Rattle.rtr_cache.specs.Cache.{sent_response}
use Rattle.rtr_cache.proofs.NoPayload.{no-payload-response}
use Rattle.rtr_cache.proofs.Parts.{Part, put-part, wrote-part}
use Rattle.rtr_cache.proofs.put_response.Goals as goal

pub behind-requires : goal.behind-requires
behind-requires c =
    let pdu : RtrPdu = sent_response c.args.version c.args.session in
    let part : Part (encoding in_use pdu []) c.args.out.now c.args.at c.encode_cache_response-answer.result c.encode_cache_response-answer.new.out = let a = c.args in
    wrote-part pdu (no-payload-response a.version a.session) _ _ c.requires _ _ _
    refl
    c.encode_cache_response-answer.ensures in
    omega (arith, part.behind, c.requires)

pub returns : goal.returns
returns c =
    let pdu : RtrPdu = sent_response c.args.version c.args.session in
    let part : Part (encoding in_use pdu []) c.args.out.now c.args.at c.encode_cache_response-answer.result c.encode_cache_response-answer.new.out = let a = c.args in
    wrote-part pdu (no-payload-response a.version a.session) _ _ c.requires _ _ _
    refl
    c.encode_cache_response-answer.ensures in
    put-part part c.behind.result c.behind.ensures
