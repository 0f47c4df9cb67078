-- `parse_rtr_pdu` gives what `read` says: the quick way comes to the plain one (Plain.antt), and what it passes over is read the plain way. Assumes nothing.
use mathlib.Core.Path.{sym, ◌∙◌}
use Rattle.rtr_codec.specs.Reading.{in_use}
use Rattle.rtr_codec.proofs.Plain.{plain-ipv4, plain-ipv6}
use Rattle.rtr_codec.proofs.parse_rtr_pdu.Goals as goal

pub ipv4_fields-requires : goal.ipv4_fields-requires
ipv4_fields-requires c = let p = c.is_plain.ensures c.if-is_plain.true in (p.0, p.1.1.1)

pub returns-then-is_plain : goal.returns-then-is_plain
returns-then-is_plain c = c.ipv4_fields.ensures ∙ sym (plain-ipv4 in_use _ _ _ (c.is_plain.ensures c.if-is_plain.true))

pub ipv6_fields-requires : goal.ipv6_fields-requires
ipv6_fields-requires c = let p = c.is_plain-2.ensures c.if-is_plain-2.true in (p.0, p.1.1.1)

pub returns-then-is_plain-2 : goal.returns-then-is_plain-2
returns-then-is_plain-2 c = c.ipv6_fields.ensures ∙ sym (plain-ipv6 in_use _ _ _ (c.is_plain-2.ensures c.if-is_plain-2.true))

pub returns : goal.returns
returns c = c.parse_any.ensures
