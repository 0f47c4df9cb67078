-- `stop_numbers` goes by the stop. Assumes nothing.
use Rattle.rtr_numbers.proofs.stop_numbers.Goals as goal

pub returns-in-Stream : goal.returns-in-Stream
returns-in-Stream c = rw c.in-Stream.is (cc)

pub returns-in-OutOfTurn : goal.returns-in-OutOfTurn
returns-in-OutOfTurn c = rw c.in-OutOfTurn.is (cc)

pub returns-in-OtherVersion : goal.returns-in-OtherVersion
returns-in-OtherVersion c = rw c.in-OtherVersion.is (cc)

pub returns-in-OtherSession : goal.returns-in-OtherSession
returns-in-OtherSession c = rw c.in-OtherSession.is (cc)

pub returns-in-NotIn : goal.returns-in-NotIn
returns-in-NotIn c = rw c.in-NotIn.is (cc)

pub returns-in-AlreadyIn : goal.returns-in-AlreadyIn
returns-in-AlreadyIn c = rw c.in-AlreadyIn.is (cc)

pub returns-in-RoomFull : goal.returns-in-RoomFull
returns-in-RoomFull c = rw c.in-RoomFull.is (cc)

pub returns-in-ErrorReport : goal.returns-in-ErrorReport
returns-in-ErrorReport c = rw c.in-ErrorReport.is (cc)
