-- `parse_as` goes by the type, as `read_as` does. Assumes nothing.
use Rattle.rtr_codec.specs.Read.{read_as}
use Rattle.rtr_codec.proofs.parse_as.Goals as goal

pub returns-in-SerialNotify : goal.returns-in-SerialNotify
unfolding read_as
returns-in-SerialNotify c = rw c.in-SerialNotify.is c.parse_serial_notify.ensures

pub returns-in-SerialQuery : goal.returns-in-SerialQuery
unfolding read_as
returns-in-SerialQuery c = rw c.in-SerialQuery.is c.parse_serial_query.ensures

pub returns-in-ResetQuery : goal.returns-in-ResetQuery
unfolding read_as
returns-in-ResetQuery c = rw c.in-ResetQuery.is c.parse_reset_query.ensures

pub returns-in-CacheResponse : goal.returns-in-CacheResponse
unfolding read_as
returns-in-CacheResponse c = rw c.in-CacheResponse.is c.parse_cache_response.ensures

pub returns-in-IPv4Prefix : goal.returns-in-IPv4Prefix
unfolding read_as
returns-in-IPv4Prefix c = rw c.in-IPv4Prefix.is c.parse_ipv4_prefix.ensures

pub returns-in-IPv6Prefix : goal.returns-in-IPv6Prefix
unfolding read_as
returns-in-IPv6Prefix c = rw c.in-IPv6Prefix.is c.parse_ipv6_prefix.ensures

pub returns-in-EndOfData : goal.returns-in-EndOfData
unfolding read_as
returns-in-EndOfData c = rw c.in-EndOfData.is c.parse_end_of_data.ensures

pub returns-in-CacheReset : goal.returns-in-CacheReset
unfolding read_as
returns-in-CacheReset c = rw c.in-CacheReset.is c.parse_cache_reset.ensures

pub returns-in-RouterKey : goal.returns-in-RouterKey
unfolding read_as
returns-in-RouterKey c = rw c.in-RouterKey.is c.parse_router_key.ensures

pub returns-in-ErrorReport : goal.returns-in-ErrorReport
unfolding read_as
returns-in-ErrorReport c = rw c.in-ErrorReport.is c.parse_error_report.ensures
