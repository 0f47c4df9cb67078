-- `parse_router_key` goes by the version, as `read_router_key` does. Assumes nothing.
use Rattle.rtr_codec.specs.Read.{read_router_key}
use Rattle.rtr_codec.proofs.parse_router_key.Goals as goal

pub returns-in-V0 : goal.returns-in-V0
unfolding read_router_key
returns-in-V0 c = rw c.in-V0.is

pub returns-in-V1 : goal.returns-in-V1
returns-in-V1 c = rw c.in-V1.is c.parse_router_key_v1.ensures
