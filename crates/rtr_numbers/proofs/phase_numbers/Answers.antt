-- `phase_numbers` goes by the phase. Assumes nothing.
use Rattle.rtr_numbers.proofs.phase_numbers.Goals as goal

pub returns-in-Idle : goal.returns-in-Idle
returns-in-Idle c = rw c.in-Idle.is (cc)

pub returns-in-MustReset : goal.returns-in-MustReset
returns-in-MustReset c = rw c.in-MustReset.is (cc)

pub returns-in-AskedFull : goal.returns-in-AskedFull
returns-in-AskedFull c = rw c.in-AskedFull.is (cc)

pub returns-in-AskedChange : goal.returns-in-AskedChange
returns-in-AskedChange c = rw c.in-AskedChange.is (cc)

pub returns-in-Full : goal.returns-in-Full
returns-in-Full c = rw c.in-Loading.is (cc)

pub returns-in-Change : goal.returns-in-Change
returns-in-Change c = rw c.in-Loading.is (cc)

pub returns-in-Stopped : goal.returns-in-Stopped
returns-in-Stopped c = rw c.in-Stopped.is (cc)
