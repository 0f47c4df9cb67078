-- Calls of the receiver, one behind the other: a turn, more turns, the input and all of the program from its start. Each is a step of rtr_receiver's
-- Runs, and a run goes on by it (`next-step`). Assumes nothing.
use Rattle.std.specs.Prelude.{Result, Ok, Err}
use Prim.Native.Nat.{ℕ, ◌+◌, ◌≤◌, ◌<◌}
use mathlib.Core.Bool.{Bool, true, false, true≢false}
use mathlib.Core.List.{List, [], ◌∷◌, ◌++◌, append_assoc, append-nil}
use mathlib.Core.Path.{◌≡◌, refl, sym, ap, ◌∙◌, subst}
use native.Mathlib.Omega.{arith}
use borrow.Author.Tests.{leb-true, leb-false}
use lib.Dec.{leb}
use lib.ListN.{length, take, length-append}
use Rattle.rtr_models.specs.declared.RtrProtocolVersion.{RtrProtocolVersion}
use Rattle.rtr_models.specs.declared.RtrProtocolVersion.TheVariants.{V1}
use Rattle.rtr_receiver.specs.Contents.{Rooms}
use Rattle.rtr_receiver.specs.Promises.{Reason, is_receiver, start_said, start_says, ask_said, full_ask_says, record_limit}
use Rattle.rtr_receiver.specs.Runs.{Call, Memory, Step, Run, feeds}
use Rattle.rtr_receiver.specs.declared.LoadKind.{LoadKind}
use Rattle.rtr_receiver.specs.declared.AskedSession.{AskedSession}
use Rattle.rtr_receiver.specs.declared.Session.{Session}
use Rattle.rtr_receiver.proofs.Laws.{start-exactly, shape-kept, next-step}
use Rattle.rtr_receiver.proofs.Shape.{shape-exactly}
use Rattle.rtr_table.specs.Feeding.{memory, Turn, Turns, Input, HeardAll, most_turns, Ends}
use Rattle.rtr_table.specs.declared.Ended.{Ended}
use Rattle.rtr_receiver.specs.declared.NotAReceiver.{NotAReceiver}

-- ---- a run goes on

-- a turn in which something was read is a feed of it
pub turn_step : {m m' : Memory} {buffer : List ℕ} {n : ℕ} {more : Bool} → 0 < n → Turn m buffer n m' more → Step m.session.life.limit m (Call.feed (take n buffer)) m'
turn_step some (Turn.over none same closed) = absurd (omega arith)
turn_step {m' = m'} some (Turn.heard done above within fed more) = Step.fed m'.session done m'.live m'.working m'.hold fed.1 fed.0

feeds-append : (p q : List (List ℕ)) → feeds (p ++ q) ≡ feeds p ++ feeds q
feeds-append [] q = refl
feeds-append (piece ∷ p) q = ap (λ (c : List Call). Call.feed piece ∷ c) (feeds-append p q)

module _ (limit H : ℕ) (v : RtrProtocolVersion) (calls : List Call) (m : Memory) (run : Run limit v H calls m) where
  one_more : {m' m'' : Memory} (pieces : List (List ℕ)) (piece : List ℕ) →
      Run limit v H (calls ++ feeds pieces) m' →
      Step m'.session.life.limit m' (Call.feed piece) m'' →
      Run limit v H (calls ++ feeds (pieces ++ piece ∷ [])) m''
  one_more {m'} {m''} pieces piece so_far step =
      subst (λ (c : List Call). Run limit v H c m'')
      (append_assoc calls (feeds pieces) (Call.feed piece ∷ []) ∙ ap (λ (c : List Call). calls ++ c) (sym (feeds-append pieces (piece ∷ []))))
      (next-step limit H v (calls ++ feeds pieces) (Call.feed piece) m' m'' so_far step)

  pub turns-run : {pieces : List (List ℕ)} {m' : Memory} → Turns m pieces m' → Run limit v H (calls ++ feeds pieces) m'
  turns-run Turns.none = subst (λ (c : List Call). Run limit v H c m) (sym (append-nil calls)) run
  turns-run (Turns.next {pieces = pieces} buffer n turns some turn) = one_more pieces (take n buffer) (turns-run turns) (turn_step some turn)

  pub input-run : {pieces : List (List ℕ)} {last : ℕ} {m' : Memory} → Input m last m' pieces → Run limit v H (calls ++ feeds pieces) m'
  input-run (Input.over turns none) = turns-run turns
  input-run {last = last} (Input.stopped {pieces = pieces} buffer turns some turn) = one_more pieces (take last buffer) (turns-run turns) (turn_step some turn)
  input-run (Input.turns_used turns most) = turns-run turns

-- ---- the loop over the turns

-- so many turns so far
abbrev pub Going : Memory → ℕ → Memory → Type 0
Going m turns m' = (pieces : List (List ℕ)) × Turns m pieces m' × (length pieces ≡ turns)

pub going-none : (m : Memory) → Going m 0 m
going-none m = ([], Turns.none, refl)

-- a turn that has another behind it has read something
some_read : {m m' : Memory} {buffer : List ℕ} {n : ℕ} → Turn m buffer n m' true → 0 < n
some_read (Turn.over none same closed) = absurd (true≢false closed)
some_read (Turn.heard done above within fed more) = above

module _ {m m' m'' : Memory} {buffer : List ℕ} {n : ℕ} {more : Bool} (turns : ℕ) (so_far : Going m turns m') (turn : Turn m' buffer n m'' more) where
  -- one turn more
  pub going_on : more ≡ true → Going m (turns + 1) m''
  going_on wanted =
      let on : Turn m' buffer n m'' true = subst (Turn m' buffer n m'') wanted turn in
      (so_far.0 ++ take n buffer ∷ [], Turns.next buffer n so_far.1 (some_read on) on, omega (arith, so_far.2, length-append so_far.0 (take n buffer ∷ [])))

  pub going-ends : more ≡ false → HeardAll m n m''
  going-ends shut = by turn
    where
      by : Turn m' buffer n m'' more → HeardAll m n m''
      by (Turn.over none same closed) = subst (HeardAll m n) same (so_far.0, Input.over so_far.1 none)
      by (Turn.heard done above within fed wanted) = (so_far.0 ++ take n buffer ∷ [], Input.stopped buffer so_far.1 above (subst (Turn m' buffer n m'') shut turn))

pub going-used : {m m' : Memory} (turns last : ℕ) → Going m turns m' → turns ≡ most_turns → HeardAll m last m'
going-used turns last so_far all = (so_far.0, Input.turns_used so_far.1 (so_far.2 ∙ all))

-- ---- the program from its start

module _ (live working : Rooms) (hold : List ℕ) (answer : Result Session NotAReceiver) (live₁ working₁ : Rooms) (said : start_said answer live₁ working₁ hold ≡ start_says record_limit V1 live working hold) where
  pub ends-started : (s : Session) → answer ≡ Ok s → (query query' : List ℕ) (asked : AskedSession) →
      ask_said asked live₁ working₁ hold query' ≡ full_ask_says s.life.limit s live₁ working₁ hold query →
      (e : Ended) (live₂ working₂ : Rooms) (hold₂ : List ℕ) →
      length hold₂ ≡ length hold →
      HeardAll (memory asked.session live₁ working₁ hold) e.last (memory e.session live₂ working₂ hold₂) →
      Ends (Ok e) query live₂ working₂ hold₂
  ends-started s told query query' asked ask e live₂ working₂ hold₂ size rest =
      let begun : Run record_limit V1 (length hold) [] (memory s live₁ working₁ hold) = Run.started _ live working refl (sym (ap (λ (a : Result Session NotAReceiver). start_said a live₁ working₁ hold) told) ∙ said) in
      let run = next-step record_limit (length hold) V1 [] (Call.ask LoadKind.Full query) _ _ begun (Step.asked_full asked.session asked.answer query' ask) in
      (memory asked.session live₁ working₁ hold, subst (λ (H : ℕ). Run record_limit V1 H (Call.ask LoadKind.Full query ∷ []) (memory asked.session live₁ working₁ hold)) (sym size) run, rest)

  pub ends-refused : answer ≡ Err (record {}) → length live₁ ≡ length live → length working₁ ≡ length working → (query : List ℕ) → Ends (Err (record {})) query live₁ working₁ hold
  ends-refused told a b query l w h =
      let none = sym (ap (λ (x : Result Session NotAReceiver). start_said x live₁ working₁ hold) told) ∙ said ∙ (start-exactly record_limit V1 live working hold _).1 (refl, omega arith, omega arith, h, refl) in
      let z : ◌≡◌ {A = ℕ} 0 1 = cc in
      omega arith

-- ---- where the input is left

module _ (e : Ended) (query live working hold : List ℕ) (ends : Ends (Ok e) query live working hold) where
  -- the whole is one run: the ask, and then the pieces
  pub ends-run : Run record_limit V1 (length hold) (Call.ask LoadKind.Full query ∷ feeds ends.2.0) (memory e.session live working hold)
  ends-run = input-run record_limit (length hold) V1 (Call.ask LoadKind.Full query ∷ []) ends.0 ends.1 ends.2.1

  -- so there are no more records than a receiver may have
  pub ends-count : e.session.live.records ≤ record_limit
  ends-count = go (leb e.session.live.records record_limit) refl
    where
      shape : is_receiver record_limit e.session live working hold ≡ true
      shape = shape-kept record_limit (length hold) V1 _ (memory e.session live working hold) ends-run

      go : (b : Bool) → leb e.session.live.records record_limit ≡ b → e.session.live.records ≤ record_limit
      go true q = leb-true _ _ q
      go false q = absurd (true≢false (sym shape ∙ (shape-exactly record_limit e.session live working hold).1 (Reason.live_over (leb-false _ _ q))))
