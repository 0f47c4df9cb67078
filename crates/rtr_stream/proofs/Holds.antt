-- Something is held: the piece brings what the header, or the PDU, still lacks, or runs out before. Assumes nothing.
use Rattle.std.specs.Prelude.{Option, Some, None, Result}
use Prim.Native.Nat.{ℕ, ◌+◌, ◌-◌, ◌≤◌, ◌<◌}
use mathlib.Core.List.{List, ◌++◌}
use mathlib.Core.Path.{◌≡◌, sym, ap, ◌∙◌, subst}
use native.Mathlib.Omega.{arith}
use lib.ListN.{length, take, drop, length-drop}
use lib.Seq.{length-take-le, drop-drop}
use Rattle.rtr_codec.specs.Reading.{in_use}
use Rattle.rtr_codec.specs.Read.{read, header_length, needed}
use Rattle.rtr_codec.proofs.Laws.{needed-short, needed-large, header-stays}
use Rattle.rtr_stream.specs.Stream.{Heard, heard_of, judge}
use Rattle.rtr_stream.specs.Stream.Heard.{waits}
use Rattle.rtr_stream.specs.Search.{over, search_from, outcome_of}
use Rattle.rtr_stream.specs.Private.{JudgedTo, TurnedTo, search_here}
use Rattle.rtr_stream.proofs.Judge.{InRange, Waiting, IsStream, judge-whole, waits-waiting, waiting-lacks, waiting-grows, is-stream}
use Rattle.rtr_stream.proofs.Judge.Waiting.{short, cut}
use Rattle.rtr_stream.proofs.Runs.{arrives_at}
use Rattle.rtr_models.specs.declared.RtrPdu.{RtrPdu}
use Rattle.rtr_stream.specs.declared.SearchError.{SearchError}
use Rattle.rtr_stream.specs.declared.Lies.{Lies}

-- the part of the piece that was put behind what is held brings it to what is wanted
pub part-long : (piece : List ℕ) (at k : ℕ) → k ≤ length (drop at piece) → length (take (at + k - at) (drop at piece)) ≡ k
part-long piece at k h = let gone : at + k - at ≡ k = omega arith in length-take-le (at + k - at) (drop at piece) (omega arith) ∙ gone

pub part-put : (hold' hold piece : List ℕ) (held n at : ℕ) →
    held < n →
    n - held ≤ length (drop at piece) →
    take (held + length (take (at + (n - held) - at) (drop at piece))) hold' ≡ take held hold ++ take (at + (n - held) - at) (drop at piece) →
    take n hold' ≡ take held hold ++ take (n - held) (drop at piece)
part-put hold' hold piece held n at l h e =
    let gone : at + (n - held) - at ≡ n - held = omega arith in
    let long : length (take (at + (n - held) - at) (drop at piece)) ≡ n - held = part-long piece at (n - held) h in
    let whole : n ≡ held + length (take (at + (n - held) - at) (drop at piece)) = omega arith in
    ap (λ (k : ℕ). take k hold') whole ∙ e ∙ ap (λ (k : ℕ). take held hold ++ take k (drop at piece)) gone

module _ (hold : List ℕ) (held n : ℕ) (stream : IsStream hold held) (name : n ≡ needed (take held hold)) where
  held-long : length (take held hold) ≡ held
  held-long = length-take-le held hold stream.within

  -- what is wanted is more than is held, and fits
  pub wants-more : held < n
  wants-more = omega (arith, held-long, name, waiting-lacks stream.waiting)

  pub wanted-fits : n ≤ length hold
  wanted-fits = go stream.waiting
    where
      go : Waiting (length hold) (take held hold) → n ≤ length hold
      go (short h) = omega (arith, name, needed-short (take held hold) h, stream.size)
      go (cut h i e) = omega (arith, name, needed-large (take held hold) h, i.fits)

  -- a piece that runs out leaves it waiting
  pub rest-waits : (u : List ℕ) → length u < n - held → Waiting (length hold) (take held hold ++ u)
  rest-waits u h = waiting-grows stream.waiting u (omega (arith, held-long, name))

  -- with a header held, the wanted bytes are a whole PDU's
  pub whole-heard : (s : List ℕ) (u : List ℕ) → 8 ≤ held → s ≡ take held hold ++ u → length s ≡ n → judge in_use (length hold) s ≡ heard_of (read in_use s)
  whole-heard s u h e long = go stream.waiting
    where
      go : Waiting (length hold) (take held hold) → judge in_use (length hold) s ≡ heard_of (read in_use s)
      go (short l) = absurd (omega (arith, held-long))
      go (cut l i c) =
          let same : header_length s ≡ header_length (take held hold) = ap header_length e ∙ header-stays (take held hold) u l in
          judge-whole in_use (length hold) s (omega (arith, wants-more)) (subst (InRange (length hold)) (sym same) i)
          (omega (arith, same, name, needed-large (take held hold) l))

  -- the wanted bytes are there: what they come to decides
  module _ (hold' piece : List ℕ) (at : ℕ) (some : 0 < held) (same : length hold' ≡ length hold) (enough : n - held ≤ length (drop at piece)) (now : take n hold' ≡ take held hold ++ take (n - held) (drop at piece)) where
    pub search-judged
        : search_here hold held piece at
        ≡ over (at + (n - held)) (take n hold') (judge in_use (length hold) (take n hold')) (search_here hold' n piece (at + (n - held)))
    search-judged =
        let lacking : 0 < n - held = omega (arith, wants-more) in
        let less : length (take (n - held - 1) (drop at piece)) ≡ n - held - 1 = length-take-le (n - held - 1) (drop at piece) (omega arith) in
        let run = arrives_at in_use (length hold) (n - held) (drop at piece) at (take held hold) lacking enough (rest-waits (take (n - held - 1) (drop at piece)) (omega arith)) in
        run
        ∙ ap
        (λ (x : List ℕ). over (at + (n - held)) x (judge in_use (length hold) x) (search_from in_use (length hold) (at + (n - held)) x (drop (n - held) (drop at piece))))
        (sym now)
        ∙ ap
        (λ (x : List ℕ). over (at + (n - held)) (take n hold') (judge in_use (length hold) (take n hold')) (search_from in_use (length hold) (at + (n - held)) (take n hold') x))
        (drop-drop (n - held) at piece)
        ∙ ap
        (λ (h : ℕ). over (at + (n - held)) (take n hold') (judge in_use (length hold) (take n hold')) (search_from in_use h (at + (n - held)) (take n hold') (drop (at + (n - held)) piece)))
        (sym same)

    pub judged-turn
        : (t : Option (Result (Option (RtrPdu × Lies)) SearchError)) (held' next : ℕ) (h : Heard) →
        JudgedTo hold' n t held' next h →
        next ≡ at + (n - held) →
        judge in_use (length hold) (take n hold') ≡ h →
        TurnedTo hold held piece at held' next hold' t
    judged-turn (Some answer) held' next h j e heard =
        let go = search_here hold' n piece (at + (n - held)) in
        j piece at held go some
        ∙ sym
        (ap (outcome_of held at)
        (search-judged
        ∙ ap (λ (k : ℕ). over k (take n hold') (judge in_use (length hold) (take n hold')) go) (sym e)
        ∙ ap (λ (x : Heard). over next (take n hold') x go) heard))
    judged-turn None held' next h j e heard =
        let waiting : judge in_use (length hold) (take n hold') ≡ waits = heard ∙ j.0 in
        let w : Waiting (length hold) (take n hold') = waits-waiting in_use (length hold) (take n hold') waiting in
        let stream' : IsStream hold' n =
        record { size = omega (arith, stream.size); within = omega (arith, wanted-fits); waiting = subst (λ (h : ℕ). Waiting h (take n hold')) (sym same) w } in
        let left : length (drop at piece) ≡ length piece - at = length-drop at piece in (
          (rw j.1 (is-stream stream')),
          some,
          omega (arith, wants-more, j.1),
          omega (arith, wants-more),
          omega (arith, wants-more),
          rw (j.1, e)
              (sym
              (search-judged
              ∙ ap (λ (x : Heard). over (at + (n - held)) (take n hold') x (search_here hold' n piece (at + (n - held)))) waiting)),
        )
