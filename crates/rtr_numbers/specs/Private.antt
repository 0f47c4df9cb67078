-- What the contracts of this crate's private functions cite.
use Rattle.rtr_receiver.specs.Receiver.{Stage}
use Rattle.rtr_numbers.specs.Numbers.{stage_number, stage_detail, stage_value}
use Rattle.rtr_numbers.specs.declared.PhaseNumbers.{PhaseNumbers}

-- a phase's five numbers
abbrev pub phase_numbers : Stage → PhaseNumbers
phase_numbers stage =
    record {
      phase = stage_number stage;
      detail = stage_detail stage;
      first = stage_value 0 stage;
      second = stage_value 1 stage;
      third = stage_value 2 stage;
    }
