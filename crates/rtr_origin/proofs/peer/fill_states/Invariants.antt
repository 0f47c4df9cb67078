-- `fill_states`: at the loop's head the first places hold the states of as many routes, the other places are as they were, and the routes behind those are left to go over. Assumes nothing.
use Prim.Native.Nat.{◌*◌, ◌≤◌}
use mathlib.Core.Path.{◌≡◌}
use lib.ListN.{length, drop}
use Rattle.std.specs.Iterator.Adapters.{enumerate_source, enumerate_count}
use Rattle.std.specs.Slice.Iter.{chunks_exact_rest, chunks_exact_size}
use Rattle.rtr_base.specs.Over.{over}
use Rattle.rtr_room.specs.Room.{records}
use Rattle.rtr_origin.specs.Peer.{states_from}
use Rattle.rtr_origin.specs.Survey.{state_by}
use Rattle.rtr_origin.proofs.peer.fill_states.Given as goal

abbrev pub invariant-loop-i : goal.invariant-loop-i
invariant-loop-i l = record {
  in_sixes : chunks_exact_size (enumerate_source l.i-iterator) ≡ 6;
  within : 6 * enumerate_count l.i-iterator ≤ length l.routes;
  left : chunks_exact_rest (enumerate_source l.i-iterator) ≡ drop (6 * enumerate_count l.i-iterator) l.routes;
  filled : l.states ≡ over l.initial.states 0 (states_from (state_by (records l.count l.live)) (enumerate_count l.i-iterator) l.routes);
}
