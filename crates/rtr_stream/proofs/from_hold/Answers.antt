-- `from_hold`: the piece brings what is wanted, or runs out and is held; what is whole then is judged in the hold. Assumes nothing.
use mathlib.Core.Path.{◌≡◌, sym, ap, subst, ◌∙◌}
use Prim.Native.Nat.{ℕ, ◌-◌, ◌≤◌, ◌<◌}
use native.Mathlib.Omega.{arith}
use lib.ListN.{length, take, drop, length-drop}
use lib.Seq.{length-take-le}
use Rattle.rtr_codec.proofs.Laws.{needed-short}
use Rattle.rtr_codec.specs.Reading.{in_use}
use Rattle.rtr_stream.specs.Stream.{Heard, judge}
use Rattle.rtr_stream.specs.Private.{JudgedTo}
use Rattle.rtr_stream.proofs.Judge.{stream-is}
use Rattle.rtr_stream.proofs.Turns.{rest-kept}
use Rattle.rtr_stream.proofs.Holds.{part-long, part-put, wants-more, wanted-fits, rest-waits, whole-heard, judged-turn}
use Rattle.rtr_stream.proofs.from_hold.Goals as goal

pub slice_bounds-bytes_needed-end : goal.slice_bounds-bytes_needed-end
slice_bounds-bytes_needed-end c = (stream-is c.args.hold.now c.args.held c.requires.0).within

pub slice_bounds-bytes_needed-end-2 : goal.slice_bounds-bytes_needed-end-2
slice_bounds-bytes_needed-end-2 c = let s = stream-is c.args.hold.now c.args.held c.requires.0 in sym (length-take-le c.args.held c.args.hold.now s.within)

pub overflow_sub-lacking : goal.overflow_sub-lacking
overflow_sub-lacking c =
    let a = c.args in
    let hold = a.hold.now in
    let piece = a.piece.now in
    let stream = stream-is hold a.held c.requires.0 in
    let n = c.bytes_needed-wanted.result in
    let name = c.bytes_needed-wanted.ensures in
    let left : length (drop a.at piece) ≡ length piece - a.at = length-drop a.at piece in
    let lacks : a.held < n = wants-more hold a.held n stream name in
    let fits : n ≤ length hold = wanted-fits hold a.held n stream name in
    omega arith

pub keep_rest-requires : goal.keep_rest-requires
keep_rest-requires c =
    let a = c.args in
    let hold = a.hold.now in
    let piece = a.piece.now in
    let stream = stream-is hold a.held c.requires.0 in
    let n = c.bytes_needed-wanted.result in
    let name = c.bytes_needed-wanted.ensures in
    let left : length (drop a.at piece) ≡ length piece - a.at = length-drop a.at piece in
    let lacks : a.held < n = wants-more hold a.held n stream name in
    let fits : n ≤ length hold = wanted-fits hold a.held n stream name in
    (omega arith, omega arith)

pub returns-then-piece-at : goal.returns-then-piece-at
returns-then-piece-at c =
    let a = c.args in
    let hold = a.hold.now in
    let piece = a.piece.now in
    let stream = stream-is hold a.held c.requires.0 in
    let n = c.bytes_needed-wanted.result in
    let name = c.bytes_needed-wanted.ensures in
    let left : length (drop a.at piece) ≡ length piece - a.at = length-drop a.at piece in
    let lacks : a.held < n = wants-more hold a.held n stream name in
    let fits : n ≤ length hold = wanted-fits hold a.held n stream name in
    rest-kept hold c.keep_rest.new.hold piece a.held a.at (omega arith) stream.within
    (rest-waits hold a.held n stream name (drop a.at piece) (omega arith)) c.keep_rest.result c.keep_rest.ensures

pub put_part-requires : goal.put_part-requires
put_part-requires c =
    let a = c.args in
    let hold = a.hold.now in
    let piece = a.piece.now in
    let stream = stream-is hold a.held c.requires.0 in
    let n = c.bytes_needed-wanted.result in
    let name = c.bytes_needed-wanted.ensures in
    let left : length (drop a.at piece) ≡ length piece - a.at = length-drop a.at piece in
    let lacks : a.held < n = wants-more hold a.held n stream name in
    let fits : n ≤ length hold = wanted-fits hold a.held n stream name in
    omega (arith, part-long piece a.at (n - a.held) (omega arith))

pub with_header-requires : goal.with_header-requires
with_header-requires c =
    let a = c.args in
    let hold = a.hold.now in
    let piece = a.piece.now in
    let stream = stream-is hold a.held c.requires.0 in
    let n = c.bytes_needed-wanted.result in
    let name = c.bytes_needed-wanted.ensures in
    let left : length (drop a.at piece) ≡ length piece - a.at = length-drop a.at piece in
    let lacks : a.held < n = wants-more hold a.held n stream name in
    let fits : n ≤ length hold = wanted-fits hold a.held n stream name in
    omega (arith, stream.size)

pub returns-then-held-lt8 : goal.returns-then-held-lt8
returns-then-held-lt8 c =
    let a = c.args in
    let hold = a.hold.now in
    let piece = a.piece.now in
    let stream = stream-is hold a.held c.requires.0 in
    let n = c.bytes_needed-wanted.result in
    let name = c.bytes_needed-wanted.ensures in
    let left : length (drop a.at piece) ≡ length piece - a.at = length-drop a.at piece in
    let lacks : a.held < n = wants-more hold a.held n stream name in
    let fits : n ≤ length hold = wanted-fits hold a.held n stream name in
    let hold' = c.put_part.new.hold in
    let same : length hold' ≡ length hold = omega arith in
    let whole = part-put hold' hold piece a.held n a.at lacks (omega arith) c.put_part.ensures in
    let t = c.with_header.result in
    let eight : n ≡ 8 = name ∙ needed-short (take a.held hold) (omega (arith, length-take-le a.held hold stream.within)) in
    let heard : ℕ → Heard = λ (k : ℕ). judge in_use (length hold') (take k hold') in
    let j = subst (λ (k : ℕ). JudgedTo hold' k t.then t.held t.next (heard k)) (sym eight) c.with_header.ensures.0 in
    judged-turn hold a.held n stream name hold' piece a.at (omega arith) same (omega arith) whole t.then t.held t.next (heard n) j
    c.with_header.ensures.1
    (ap (λ (k : ℕ). judge in_use k (take n hold')) (sym same))

pub read_hold-requires : goal.read_hold-requires
read_hold-requires c =
    let a = c.args in
    let hold = a.hold.now in
    let piece = a.piece.now in
    let stream = stream-is hold a.held c.requires.0 in
    let n = c.bytes_needed-wanted.result in
    let name = c.bytes_needed-wanted.ensures in
    let left : length (drop a.at piece) ≡ length piece - a.at = length-drop a.at piece in
    let lacks : a.held < n = wants-more hold a.held n stream name in
    let fits : n ≤ length hold = wanted-fits hold a.held n stream name in
    omega arith

pub returns : goal.returns
returns c =
    let a = c.args in
    let hold = a.hold.now in
    let piece = a.piece.now in
    let stream = stream-is hold a.held c.requires.0 in
    let n = c.bytes_needed-wanted.result in
    let name = c.bytes_needed-wanted.ensures in
    let left : length (drop a.at piece) ≡ length piece - a.at = length-drop a.at piece in
    let lacks : a.held < n = wants-more hold a.held n stream name in
    let fits : n ≤ length hold = wanted-fits hold a.held n stream name in
    let hold' = c.put_part.new.hold in
    let same : length hold' ≡ length hold = omega arith in
    let whole = part-put hold' hold piece a.held n a.at lacks (omega arith) c.put_part.ensures in
    let t = c.read_hold.result in
    judged-turn hold a.held n stream name hold' piece a.at (omega arith) same (omega arith) whole t.then t.held t.next _ c.read_hold.ensures.0
    c.read_hold.ensures.1
    (whole-heard hold a.held n stream name (take n hold') _ (omega arith) whole (length-take-le n hold' (omega arith)))
