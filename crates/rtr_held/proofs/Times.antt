-- What `FedTimes` (specs/Times.antt) comes to: the feeds are part of a run, so the live table is what the history's updates make (`times-run`, `times-table`); and they fix one session record, one content of both rooms and one of the hold up to the held count
-- (`times-unique`), and leave all of memory under 22, the whole hold too (`times-refused`). They keep receiver shape (`times-shape`), and so many and so many more are as many together (`times-join`). A feed reads the hold up to the held count, and its length: memories that are alike up to there (`Alike`) lead to such memories. Assumes nothing.
use Rattle.std.specs.Prelude.{Err}
use Prim.Native.Nat.{ℕ, zero, suc, ◌+◌}
use native.Mathlib.Nat.{add-zero, add-suc}
use mathlib.Core.Bool.{Bool, true, false}
use mathlib.Core.List.{List, [], ◌∷◌, ◌++◌, append_assoc, append-nil}
use mathlib.Core.Path.{◌≡◌, refl, sym, ap, ◌∙◌, subst}
use denote.Bor.{Bor}
use denote.MutBor.{MutBor}
use lib.ListN.{length, take, replicate}
use Rattle.rtr_models.specs.declared.RtrProtocolVersion.{RtrProtocolVersion}
use Rattle.rtr_receiver.specs.History.{table_of, finished}
use Rattle.rtr_receiver.specs.Promises.{FedAs, is_receiver, feed_says}
use Rattle.rtr_receiver.specs.Runs.{Memory, Call, Step, Run, live_in, history_of}
use Rattle.rtr_receiver.specs.declared.Session.{Session}
use Rattle.rtr_receiver.specs.declared.Fed.{Fed}
use Rattle.rtr_receiver.proofs.Laws.{refused-keeps-feed, limit-of-shape, keeps-shape, next-step}
use Rattle.rtr_receiver.proofs.Shaped.{shape-alike, feed-alike}
use Rattle.rtr_receiver.proofs.Runs.{history}
use Rattle.rtr_receiver.proofs.Unique.{feed-unique, feed-unique-refused}
use Rattle.rtr_held.specs.Times.{FedTimes}
use Rattle.rtr_receiver.specs.declared.FeedError.{FeedError}

-- ---- A run goes on with the feeds

replicate-snoc : (n : ℕ) (x : Call) → replicate n x ++ x ∷ [] ≡ replicate (suc n) x
replicate-snoc zero x = refl
replicate-snoc (suc n) x = ap (λ (xs : List Call). x ∷ xs) (replicate-snoc n x)

pub times-run : (limit H : ℕ) (v : RtrProtocolVersion) (calls : List Call) (m : Memory) (piece : List ℕ) (n : ℕ) (z : Memory) → Run limit v H calls m → FedTimes piece m n z → Run limit v H (calls ++ replicate n (Call.feed piece)) z
times-run limit H v calls m piece zero z run FedTimes.none = subst (λ (cs : List Call). Run limit v H cs m) (sym (append-nil calls)) run
times-run limit H v calls m piece (suc n) z run (FedTimes.more {m = y} fed step) =
    subst (λ (cs : List Call). Run limit v H cs z) (append_assoc calls (replicate n (Call.feed piece)) (Call.feed piece ∷ []) ∙ ap (λ (cs : List Call). calls ++ cs) (replicate-snoc n (Call.feed piece)))
    (next-step limit H v _ (Call.feed piece) y z (times-run limit H v calls m piece n y run fed) step)

pub times-table : (limit H : ℕ) (v : RtrProtocolVersion) (calls : List Call) (m : Memory) (piece : List ℕ) (n : ℕ) (z : Memory) → Run limit v H calls m → FedTimes piece m n z
    → live_in z ≡ table_of limit (finished limit H v (history_of (calls ++ replicate n (Call.feed piece))))
times-table limit H v calls m piece n z run fed = history limit H v (calls ++ replicate n (Call.feed piece)) z (times-run limit H v calls m piece n z run fed)

-- ---- Receiver shape is kept, and feeds follow feeds

pub times-shape : (limit : ℕ) (piece : List ℕ) (m : Memory) (n : ℕ) (z : Memory) → is_receiver limit m.session m.live m.working m.hold ≡ true → FedTimes piece m n z → is_receiver limit z.session z.live z.working z.hold ≡ true
times-shape limit piece m zero z e FedTimes.none = e
times-shape limit piece m (suc n) z e (FedTimes.more {m = y} fed step) =
    let shape = times-shape limit piece m n y e fed in
    keeps-shape limit (Call.feed piece) y z shape (subst (λ (k : ℕ). Step k y (Call.feed piece) z) (limit-of-shape limit y.session y.live y.working y.hold shape) step)

pub times-join : (piece : List ℕ) (m y z : Memory) (n k : ℕ) → FedTimes piece m n y → FedTimes piece y k z → FedTimes piece m (n + k) z
times-join piece m y z n zero first FedTimes.none = subst (λ (j : ℕ). FedTimes piece m j y) (sym (add-zero n)) first
times-join piece m y z n (suc k) first (FedTimes.more {m = x} fed step) = subst (λ (j : ℕ). FedTimes piece m j z) (sym (add-suc n k)) (FedTimes.more (times-join piece m y x n k first fed) step)

-- ---- What is fixed

-- a slice that is lent to be read, and one that is lent to be written, at a value
abbrev shared : List ℕ → Bor (List ℕ)
shared xs = record { ref_ptr = (0, 0); now = xs }

abbrev lent : List ℕ → MutBor (List ℕ)
lent xs = record { ref_ptr = (0, 0); ghost_name = 0; now = xs }

-- rtr_receiver's `feed-unique`, of plain values
one-feed : (s : Session) (live working hold piece : List ℕ) (r r' : Fed) (live1 working1 hold1 live2 working2 hold2 : List ℕ) → FedAs s.life.limit s live working hold piece r live1 working1 hold1 → FedAs s.life.limit s live working hold piece r' live2 working2 hold2
    → (r ≡ r') × (live1 ≡ live2) × (working1 ≡ working2) × (take r.session.held hold1 ≡ take r'.session.held hold2)
one-feed s live working hold piece r r' live1 working1 hold1 live2 working2 hold2 p q =
    feed-unique ([], ([], ([], ([], tt)))) (s, (lent live, (lent working, (lent hold, (shared piece, tt))))) r r' (s, (lent live1, (lent working1, (lent hold1, (shared piece, tt))))) (s, (lent live2, (lent working2, (lent hold2, (shared piece, tt))))) p q

-- a refused feed
abbrev still : Session → Fed
still s = record { session = s; done = record { taken = 0; updates = 0; answer = Err FeedError.NotAReceiver } }

-- 22 leaves everything, the whole hold too
refused-feed : (s : Session) (live working hold piece : List ℕ) (r : Fed) (live1 working1 hold1 : List ℕ) → is_receiver s.life.limit s live working hold ≡ false → FedAs s.life.limit s live working hold piece r live1 working1 hold1
    → (r.session ≡ s) × (live1 ≡ live) × (working1 ≡ working) × (hold1 ≡ hold)
refused-feed s live working hold piece r live1 working1 hold1 e p =
    let q : FedAs s.life.limit s live working hold piece (still s) live working hold = (sym (refused-keeps-feed s.life.limit s live working hold piece e), refl) in
    let one = one-feed s live working hold piece r (still s) live1 working1 hold1 live working hold p q in
    let whole : hold ≡ hold1 =
    feed-unique-refused ([], ([], ([], ([], tt)))) (s, (lent live, (lent working, (lent hold, (shared piece, tt))))) (still s) r (s, (lent live, (lent working, (lent hold, (shared piece, tt))))) (s, (lent live1, (lent working1, (lent hold1, (shared piece, tt))))) q p refl in
    (ap (λ (f : Fed). f.session) one.0, one.1, one.2, sym whole)

-- two holds of one length, with the same bytes held
module _ (s : Session) (live working hold hold' : List ℕ) (size : length hold ≡ length hold') (same : take s.held hold ≡ take s.held hold') where
  fed-alike : (piece : List ℕ) (r r' : Fed) (live1 working1 hold1 live2 working2 hold2 : List ℕ) → FedAs s.life.limit s live working hold piece r live1 working1 hold1 → FedAs s.life.limit s live working hold' piece r' live2 working2 hold2
      → (r.session ≡ r'.session) × (live1 ≡ live2) × (working1 ≡ working2) × (take r.session.held hold1 ≡ take r'.session.held hold2)
  fed-alike piece r r' live1 working1 hold1 live2 working2 hold2 p q = by_shape (is_receiver s.life.limit s live working hold) refl
    where
      by_shape : (b : Bool) → is_receiver s.life.limit s live working hold ≡ b → (r.session ≡ r'.session) × (live1 ≡ live2) × (working1 ≡ working2) × (take r.session.held hold1 ≡ take r'.session.held hold2)
      by_shape true e =
          let one = one-feed s live working hold piece r r' live1 working1 hold1 live2 working2 hold2 p (q.0 ∙ sym (feed-alike s.life.limit s live working hold hold' size same piece e), q.1 ∙ sym size) in
          (ap (λ (f : Fed). f.session) one.0, one.1, one.2, one.3)
      by_shape false e =
          let one = refused-feed s live working hold piece r live1 working1 hold1 e p in
          let other = refused-feed s live working hold' piece r' live2 working2 hold2 (sym (shape-alike s.life.limit s live working hold hold' size same) ∙ e) q in
          (one.0 ∙ sym other.0, one.1 ∙ sym other.1, one.2 ∙ sym other.2, (λ i. take (one.0 i).held (one.3 i)) ∙ same ∙ (λ i. take (sym other.0 i).held (sym other.3 i)))

-- the same record and rooms, the same bytes held, and holds of one length
pub record Alike (m m' : Memory) : Type 0 where
  pub session : m.session ≡ m'.session
  pub live : m.live ≡ m'.live
  pub working : m.working ≡ m'.working
  pub held : take m.session.held m.hold ≡ take m'.session.held m'.hold
  pub size : length m.hold ≡ length m'.hold

step-alike : (piece : List ℕ) (m m' z z' : Memory) → Alike m m' → Step m.session.life.limit m (Call.feed piece) z → Step m'.session.life.limit m' (Call.feed piece) z' → Alike z z'
step-alike piece m m' z z' a (Step.fed s done live working hold size e) (Step.fed s' done' live' working' hold' size' e') =
    let one = fed-alike m.session m.live m.working m.hold m'.hold a.size (a.held ∙ ap (λ (t : Session). take t.held m'.hold) (sym a.session)) piece (record { session = s; done = done }) (record { session = s'; done = done' })
    live working hold live' working' hold' (e, size) (e' ∙ (λ i. feed_says (sym a.session i).life.limit (sym a.session i) (sym a.live i) (sym a.working i) m'.hold piece), size') in
    record { session = one.0; live = one.1; working = one.2; held = one.3; size = size ∙ a.size ∙ sym size' }

pub times-alike : (piece : List ℕ) (m m' : Memory) (n : ℕ) (z z' : Memory) → Alike m m' → FedTimes piece m n z → FedTimes piece m' n z' → Alike z z'
times-alike piece m m' zero z z' a FedTimes.none FedTimes.none = a
times-alike piece m m' (suc n) z z' a (FedTimes.more {m = y} fed step) (FedTimes.more {m = y'} fed' step') = step-alike piece y y' z z' (times-alike piece m m' n y y' a fed fed') step step'

pub times-unique : (piece : List ℕ) (m : Memory) (n : ℕ) (z z' : Memory) → FedTimes piece m n z → FedTimes piece m n z' → Alike z z'
times-unique piece m n z z' fed fed' = times-alike piece m m n z z' (record { session = refl; live = refl; working = refl; held = refl; size = refl }) fed fed'

-- ---- 22

step-refused : (piece : List ℕ) (m z : Memory) → is_receiver m.session.life.limit m.session m.live m.working m.hold ≡ false → Step m.session.life.limit m (Call.feed piece) z → z ≡ m
step-refused piece m z e (Step.fed s done live working hold size said) =
    let left = refused-feed m.session m.live m.working m.hold piece (record { session = s; done = done }) live working hold e (said, size) in
    λ i. record { session = left.0 i; live = left.1 i; working = left.2 i; hold = left.3 i }

-- memory that has no receiver shape stays as it is, the whole hold too, however often it is fed
pub times-refused : (piece : List ℕ) (m z : Memory) (n : ℕ) → is_receiver m.session.life.limit m.session m.live m.working m.hold ≡ false → FedTimes piece m n z → z ≡ m
times-refused piece m z zero e FedTimes.none = refl
times-refused piece m z (suc n) e (FedTimes.more {m = y} fed step) =
    let same : y ≡ m = times-refused piece m y n e fed in
    step-refused piece y z (ap (λ (x : Memory). is_receiver x.session.life.limit x.session x.live x.working x.hold) same ∙ e) step ∙ same
