-- `error_numbers` goes by the refusal. Assumes nothing.
use Rattle.rtr_numbers.proofs.error_numbers.Goals as goal

pub returns-in-IncompletePdu : goal.returns-in-IncompletePdu
returns-in-IncompletePdu c = rw c.in-IncompletePdu.is (cc)

pub returns-in-InvalidPduType : goal.returns-in-InvalidPduType
returns-in-InvalidPduType c = rw c.in-InvalidPduType.is (cc)

pub returns-in-InvalidProtocolVersion : goal.returns-in-InvalidProtocolVersion
returns-in-InvalidProtocolVersion c = rw c.in-InvalidProtocolVersion.is (cc)

pub returns-in-InvalidErrorCode : goal.returns-in-InvalidErrorCode
returns-in-InvalidErrorCode c = rw c.in-InvalidErrorCode.is (cc)

pub returns-in-InvalidLength : goal.returns-in-InvalidLength
returns-in-InvalidLength c = rw c.in-InvalidLength.is (cc)

pub returns-in-InvalidPrefixLength : goal.returns-in-InvalidPrefixLength
returns-in-InvalidPrefixLength c = rw c.in-InvalidPrefixLength.is (cc)

pub returns-in-InvalidUtf8 : goal.returns-in-InvalidUtf8
returns-in-InvalidUtf8 c = rw c.in-InvalidUtf8.is (cc)

pub returns-in-RouterKeyInV0 : goal.returns-in-RouterKeyInV0
returns-in-RouterKeyInV0 c = rw c.in-RouterKeyInV0.is (cc)
