-- `parse_end_of_data` goes by the version, as `read_end_of_data` does. Assumes nothing.
use Rattle.rtr_codec.proofs.parse_end_of_data.Goals as goal

pub returns-in-V0 : goal.returns-in-V0
returns-in-V0 c = rw c.in-V0.is c.parse_end_of_data_v0.ensures

pub returns-in-V1 : goal.returns-in-V1
returns-in-V1 c = rw c.in-V1.is c.parse_end_of_data_v1.ensures
