-- The same piece fed a number of times, one feed after another over the same memory: each feed meets its promise at the limit that the session holds (rtr_receiver's specs/Runs.antt, `Step`), and begins where the one before it ended.
use Rattle.std.specs.Prelude.{ℕ, suc, List}
use Rattle.rtr_receiver.specs.Runs.{Memory, Call, Step}

-- so many feeds of the piece lead from one memory to another: none leaves it as it is, and each more is one step
pub data FedTimes (piece : List ℕ) (from : Memory) : ℕ → Memory → Type 0 where
  none : FedTimes piece from 0 from
  more : {n : ℕ} {m m' : Memory} → FedTimes piece from n m → Step m.session.life.limit m (Call.feed piece) m' → FedTimes piece from (suc n) m'
