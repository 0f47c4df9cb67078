-- `put_session` sets the session's numbers, of which there are as many as a session has; the session fits its types, as every value does, so it reads back. Assumes nothing.
use Rattle.rtr_numbers.proofs.Lists.{put-said}
use Rattle.rtr_numbers.proofs.Owned.{session-owned}
use Rattle.rtr_numbers.proofs.Laws.{set-reads-back}
use Rattle.rtr_numbers.specs.Numbers.{session_size, numbers_of}
use mathlib.Core.Path.{refl}
use Rattle.rtr_numbers.proofs.put_session.Goals as goal

pub returns : goal.returns
unfolding numbers_of
returns c =
    let put = put-said c.args.numbers.now _ _ _ session_size _ c.put_numbers.ensures c.session_numbers-said.ensures refl in record {
      value = put;
      reads_back = λ long. set-reads-back c.args.s c.args.numbers.now _ (session-owned c.args.s _ c.well_formed.0) put.1 long;
    }
