-- `from_piece`: with nothing held, what is left of the piece is judged where it lies: no header yet, a length that is refused, a PDU cut off by the
-- piece's end, or a whole one. Assumes nothing.
use mathlib.Core.Path.{◌≡◌, refl, sym, ap, ◌∙◌, subst}
use Prim.Native.Nat.{◌+◌, ◌-◌}
use native.Mathlib.Omega.{arith}
use lib.ListN.{length, get_or, take, drop, length-drop}
use Rattle.rtr_codec.specs.Reading.{in_use}
use Rattle.rtr_codec.specs.Read.{read, needed}
use Rattle.rtr_stream.specs.Search.{outcome_of}
use Rattle.rtr_stream.specs.declared.StreamError.{StreamError}
use Rattle.rtr_stream.specs.Private.{Turned}
use Rattle.rtr_stream.specs.declared.Turn.{Turn}
use Rattle.rtr_stream.proofs.Judge.Waiting.{short}
use Rattle.rtr_stream.proofs.Turns.{rest_part, rest-kept, piece-refused, piece-whole, piece_cut, found-in-piece, refused-alike, heard-read, heard-refused, fits-of, refusal-of}
use Rattle.rtr_stream.proofs.from_piece.Goals as goal

pub returns-then-left-lt8 : goal.returns-then-left-lt8
returns-then-left-lt8 c =
    let a = c.args in
    let hold = a.hold.now in
    let piece = a.piece.now in
    let left : length (drop a.at piece) ≡ length piece - a.at = length-drop a.at piece in
    rest-kept hold c.keep_rest.new.hold piece 0 a.at (omega arith) (omega arith) (short (omega arith)) c.keep_rest.result c.keep_rest.ensures

pub keep_rest-requires-then-left-whole : goal.keep_rest-requires-then-left-whole
keep_rest-requires-then-left-whole c =
    let a = c.args in
    let hold = a.hold.now in
    let piece = a.piece.now in
    let n = c.bytes_needed-length.result in
    let left : length (drop a.at piece) ≡ length piece - a.at = length-drop a.at piece in
    let name : n ≡ needed (drop a.at piece) = c.bytes_needed-length.ensures ∙ ap needed (rest_part a.at piece) in
    let i = fits-of (length hold) n (get_or piece (a.at + 1) 0) c.test_length.result c.test_length.ensures c.in_default.is in
    (omega arith, omega (arith, i.fits))

pub returns-then-left-whole : goal.returns-then-left-whole
returns-then-left-whole c =
    let a = c.args in
    let hold = a.hold.now in
    let piece = a.piece.now in
    let n = c.bytes_needed-length.result in
    let left : length (drop a.at piece) ≡ length piece - a.at = length-drop a.at piece in
    let name : n ≡ needed (drop a.at piece) = c.bytes_needed-length.ensures ∙ ap needed (rest_part a.at piece) in
    let i = fits-of (length hold) n (get_or piece (a.at + 1) 0) c.test_length.result c.test_length.ensures c.in_default.is in
    rest-kept hold c.keep_rest-then-left-whole.new.hold piece 0 a.at (omega arith) (omega arith)
    (piece_cut hold piece a.at (omega arith) n name i (omega arith)) c.keep_rest-then-left-whole.result c.keep_rest-then-left-whole.ensures

pub returns-in-Err : goal.returns-in-Err
returns-in-Err c =
    let a = c.args in
    let hold = a.hold.now in
    let piece = a.piece.now in
    let n = c.bytes_needed-length.result in
    let left : length (drop a.at piece) ≡ length piece - a.at = length-drop a.at piece in
    let name : n ≡ needed (drop a.at piece) = c.bytes_needed-length.ensures ∙ ap needed (rest_part a.at piece) in
    let error = c.in-Err.error in
    subst (λ (t : Turn). Turned hold 0 piece a.at t hold) (sym c.over.ensures)
    (piece-refused hold piece a.at (omega arith) hold n (get_or piece (a.at + 1) 0) error name refl
    (refusal-of (length hold) n (get_or piece (a.at + 1) 0) c.test_length.result error c.test_length.ensures c.in-Err.is))

pub returns-in-Ok : goal.returns-in-Ok
returns-in-Ok c =
    let a = c.args in
    let hold = a.hold.now in
    let piece = a.piece.now in
    let n = c.bytes_needed-length.result in
    let left : length (drop a.at piece) ≡ length piece - a.at = length-drop a.at piece in
    let name : n ≡ needed (drop a.at piece) = c.bytes_needed-length.ensures ∙ ap needed (rest_part a.at piece) in
    let i = fits-of (length hold) n (get_or piece (a.at + 1) 0) c.test_length.result c.test_length.ensures c.in_default.is in
    let whole = piece-whole hold piece a.at (omega arith) n name i (omega arith) in
    let part : take (a.at + n - a.at) (drop a.at piece) ≡ take n (drop a.at piece) =
    let gone : a.at + n - a.at ≡ n = omega arith in
    ap (λ m. take m (drop a.at piece)) gone in
    let read_here = c.parse_rtr_pdu.ensures ∙ ap (read in_use) part in
    subst (λ (t : Turn). Turned hold 0 piece a.at t hold) (sym c.over-in-Ok.ensures)
    (found-in-piece hold piece n a.at _ _ _ (omega arith) (heard-read _ _ _ _ read_here c.in-Ok.is)
    ∙ sym (ap (outcome_of 0 a.at) whole))

pub returns-in-Err-parse_rtr_pdu : goal.returns-in-Err-parse_rtr_pdu
returns-in-Err-parse_rtr_pdu c =
    let a = c.args in
    let hold = a.hold.now in
    let piece = a.piece.now in
    let n = c.bytes_needed-length.result in
    let left : length (drop a.at piece) ≡ length piece - a.at = length-drop a.at piece in
    let name : n ≡ needed (drop a.at piece) = c.bytes_needed-length.ensures ∙ ap needed (rest_part a.at piece) in
    let i = fits-of (length hold) n (get_or piece (a.at + 1) 0) c.test_length.result c.test_length.ensures c.in_default.is in
    let whole = piece-whole hold piece a.at (omega arith) n name i (omega arith) in
    let part : take (a.at + n - a.at) (drop a.at piece) ≡ take n (drop a.at piece) =
    let gone : a.at + n - a.at ≡ n = omega arith in
    ap (λ m. take m (drop a.at piece)) gone in
    let read_here = c.parse_rtr_pdu.ensures ∙ ap (read in_use) part in
    let error = c.in-Err-parse_rtr_pdu.error in
    subst (λ (t : Turn). Turned hold 0 piece a.at t hold) (sym c.over-in-Err-parse_rtr_pdu.ensures)
    (refused-alike hold piece _ 0 a.at _ _ (StreamError.Read error) _ (heard-refused _ _ error read_here c.in-Err-parse_rtr_pdu.is)
    ∙ sym (ap (outcome_of 0 a.at) whole))
