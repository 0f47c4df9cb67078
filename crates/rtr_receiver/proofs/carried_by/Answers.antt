-- `carried_by`: by the cases of the PDU. Assumes nothing.
use Rattle.rtr_receiver.proofs.Pdus.{carried-ipv4, carried-ipv6, carried_none}
use Rattle.rtr_receiver.proofs.carried_by.Goals as goal

pub returns-in-IPv4Prefix : goal.returns-in-IPv4Prefix
returns-in-IPv4Prefix c = carried-ipv4 c.args.pdu _ c.in-IPv4Prefix.is _ c.is_announcement.ensures _ c.ipv4-record.ensures

pub returns-in-IPv6Prefix : goal.returns-in-IPv6Prefix
returns-in-IPv6Prefix c = carried-ipv6 c.args.pdu _ c.in-IPv6Prefix.is _ c.is_announcement-in-IPv6Prefix.ensures _ c.ipv6-record.ensures

pub returns-in_default : goal.returns-in_default
returns-in_default c = carried_none c.args.pdu c.in_default.not-IPv4Prefix c.in_default.not-IPv6Prefix
