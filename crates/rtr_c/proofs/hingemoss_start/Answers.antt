-- `hingemoss_start` tests the length and the version, starts, and writes the session's numbers. Assumes nothing.
use native.Mathlib.Omega.{arith}
use borrow.Author.Tests.{ne_eqb}
use Rattle.rtr_c.specs.Calls.{start_c}
use Rattle.rtr_c.proofs.Steps.{reads-back, begins, start-unknown, start-started, start-refused}
use Rattle.rtr_c.proofs.hingemoss_start.Goals as goal

pub returns-then-session-ne-SESSION_NUMBERS : goal.returns-then-session-ne-SESSION_NUMBERS
unfolding start_c
returns-then-session-ne-SESSION_NUMBERS c =
    record {
      says = simp (ne_eqb _ _ c.if-session-ne-SESSION_NUMBERS.true);
      makes_session = λ e. absurd (omega arith);
      begins = λ e. absurd (omega arith);
    }

pub returns-in-Ok : goal.returns-in-Ok
returns-in-Ok c =
    record {
      says = start-started c.args.version c.args.session.now c.args.live.now c.args.working.now c.args.hold.now c.if-session-ne-SESSION_NUMBERS.false c.from_u8.result c.from_u8.ensures _ c.start.result _ _ _ _ c.in-Some.is c.start.ensures c.in-Ok.is c.put_session.ensures.value.1;
      makes_session = λ e. reads-back _ _ (c.put_session.ensures.reads_back c.if-session-ne-SESSION_NUMBERS.false);
      begins = λ e. begins c.args.version c.args.session.now c.args.live.now c.args.working.now c.args.hold.now c.if-session-ne-SESSION_NUMBERS.false c.from_u8.result c.from_u8.ensures _ c.start.result _ _ _ _ c.in-Some.is c.start.ensures c.in-Ok.is c.put_session.ensures.reads_back;
    }

pub returns-in-Err : goal.returns-in-Err
returns-in-Err c =
    record {
      says = start-refused c.args.version c.args.session.now c.args.live.now c.args.working.now c.args.hold.now c.if-session-ne-SESSION_NUMBERS.false c.from_u8.result c.from_u8.ensures _ c.start.result _ _ c.in-Some.is c.start.ensures c.in-Err.is;
      makes_session = λ e. absurd (omega arith);
      begins = λ e. absurd (omega arith);
    }

pub returns-in_default : goal.returns-in_default
returns-in_default c =
    record {
      says = start-unknown c.args.version c.args.session.now c.args.live.now c.args.working.now c.args.hold.now c.if-session-ne-SESSION_NUMBERS.false c.from_u8.result c.from_u8.ensures c.in_default.is;
      makes_session = λ e. absurd (omega arith);
      begins = λ e. absurd (omega arith);
    }
