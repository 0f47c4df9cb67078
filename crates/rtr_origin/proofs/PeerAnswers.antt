-- What the list's call answers: each refusal in its turn, and the states of a list that is answered; and that there is no other case (`peer-cases`). A receiver's live room is the room of a
-- table, and a route that six numbers are is in range, so what the engine finds is what the single question says. Assumes nothing.
use Rattle.std.specs.Prelude.{Option, Some, None, Ok, Err}
use Prim.Native.Nat.{ℕ, ◌%◌, ◌≤◌, ◌<◌}
use mathlib.Core.Bool.{Bool, true, false}
use mathlib.Core.List.{List, [], ◌∷◌, ◌++◌}
use mathlib.Core.Path.{◌≡◌, refl, sym, ap, ◌∙◌, subst}
use lib.Dec.{leb, eqb}
use lib.ListN.{length, drop}
use borrow.Author.Tests.{eqb-true, eqb-false, leb-true, leb-false, eq-eqb, ne_eqb, le-leb, lt-leb}
use Rattle.rtr_base.specs.Over.{over}
use Rattle.rtr_base.proofs.Overs.{over-front}
use Rattle.rtr_receiver.specs.Contents.{Rooms, contents}
use Rattle.rtr_receiver.specs.History.{has_table}
use Rattle.rtr_receiver.specs.Promises.{is_receiver}
use Rattle.rtr_receiver.specs.declared.Session.{Session}
use Rattle.rtr_encode.specs.Encode.{Encoded}
use Rattle.rtr_encode.specs.Encode.Writing.{written, refused}
use Rattle.rtr_origin.specs.Promises.{validate_says}
use Rattle.rtr_origin.specs.Peer.{states_of, route_count, peer_says, peer_leaves, peer_gives}
use Rattle.rtr_origin.specs.Survey.{state_by}
use Rattle.rtr_origin.specs.declared.peer.PeerError.TheVariants.{OutOfShape, NoTable, StatesShort}
use Rattle.rtr_origin.proofs.Shaped.{shaped-validate}
use Rattle.rtr_origin.proofs.Lists.{states-length, states-alike}
use Rattle.rtr_receiver.specs.declared.Table.{Table}

-- nothing stands in the way of an answer
pub record Answerable (limit : ℕ) (s : Session) (live working : Rooms) (hold routes states : List ℕ) : Type 0 where
  pub shape : is_receiver limit s live working hold ≡ true
  pub sixes : length routes % 6 ≡ 0
  pub table : has_table s.table ≡ true
  pub fits : route_count routes ≤ length states

-- what a call says and leaves, one case for each reason
pub data PeerCase (limit : ℕ) (s : Session) (live working : Rooms) (hold routes states : List ℕ) : Encoded → Type 0 where
  shapeless : is_receiver limit s live working hold ≡ false → PeerCase limit s live working hold routes states (record { says = refused 22 []; out = states })
  not_sixes : is_receiver limit s live working hold ≡ true → (length routes % 6 ≡ 0 → ⊥) → PeerCase limit s live working hold routes states (record { says = refused 22 []; out = states })
  untabled : is_receiver limit s live working hold ≡ true → length routes % 6 ≡ 0 → s.table ≡ None →
      PeerCase limit s live working hold routes states (record { says = refused 21 []; out = states })
  short : is_receiver limit s live working hold ≡ true → length routes % 6 ≡ 0 → has_table s.table ≡ true → length states < route_count routes →
      PeerCase limit s live working hold routes states (record { says = refused 9 (route_count routes ∷ []); out = states })
  answered : Answerable limit s live working hold routes states →
      PeerCase limit s live working hold routes states
      (record { says = written (route_count routes); out = states_of (validate_says limit s live working hold) routes ++ drop (route_count routes) states })

module _ (limit : ℕ) (s : Session) (live working : Rooms) (hold routes states : List ℕ) where
  -- without the shape 22, whatever the list
  pub shapeless-list : is_receiver limit s live working hold ≡ false → peer_gives (Err OutOfShape) states ≡ peer_leaves limit s live working hold routes states
  unfolding peer_leaves peer_says
  shapeless-list e = rw e

  module _ (e : is_receiver limit s live working hold ≡ true) where
    -- numbers that are not in sixes are 22 too
    pub not-in-sixes : (length routes % 6 ≡ 0 → ⊥) → peer_gives (Err OutOfShape) states ≡ peer_leaves limit s live working hold routes states
    unfolding peer_leaves peer_says
    not-in-sixes h = rw (e, ne_eqb (length routes % 6) 0 h)

    module _ (six : length routes % 6 ≡ 0) where
      pub untabled-list : s.table ≡ None → peer_gives (Err NoTable) states ≡ peer_leaves limit s live working hold routes states
      unfolding peer_leaves peer_says
      untabled-list t = rw (e, eq-eqb (length routes % 6) 0 six, t)

      module _ (t : has_table s.table ≡ true) where
        pub short-list : length states < route_count routes → peer_gives (Err (StatesShort (route_count routes))) states ≡ peer_leaves limit s live working hold routes states
        unfolding peer_leaves peer_says
        short-list l = rw (e, eq-eqb (length routes % 6) 0 six, t, lt-leb (route_count routes) (length states) l)

        -- what stands in the places: each what the single question says
        as-asked : states_of (state_by (contents s.live live)) routes ≡ states_of (validate_says limit s live working hold) routes
        as-asked =
            states-alike (state_by (contents s.live live)) (validate_says limit s live working hold) (λ q l. sym (shaped-validate limit s live working hold q e t l)) (route_count routes) routes

        -- an answered call, whole
        pub answered-list : route_count routes ≤ length states
            → record { says = written (route_count routes); out = states_of (validate_says limit s live working hold) routes ++ drop (route_count routes) states } ≡ peer_leaves limit s live working hold routes states
        unfolding peer_leaves peer_says
        answered-list l = rw (e, eq-eqb (length routes % 6) 0 six, t, le-leb (route_count routes) (length states) l)

        pub whole-list : (left : List ℕ) → route_count routes ≤ length states → left ≡ over states 0 (states_of (state_by (contents s.live live)) routes)
            → peer_gives (Ok (route_count routes)) left ≡ peer_leaves limit s live working hold routes states
        whole-list left l is =
            ap (peer_gives (Ok (route_count routes)))
            (is ∙ ap (over states 0) as-asked ∙ over-front states (states_of (validate_says limit s live working hold) routes)
            ∙ ap (λ (n : ℕ). states_of (validate_says limit s live working hold) routes ++ drop n states) (states-length (validate_says limit s live working hold) (route_count routes) routes))
            ∙ answered-list l

  pub peer-cases : PeerCase limit s live working hold routes states (peer_leaves limit s live working hold routes states)
  peer-cases = by_shape (is_receiver limit s live working hold) refl
    where
      Case : Encoded → Type 0
      Case = PeerCase limit s live working hold routes states

      by_size : is_receiver limit s live working hold ≡ true → length routes % 6 ≡ 0 → has_table s.table ≡ true → (b : Bool) → leb (route_count routes) (length states) ≡ b →
          Case (peer_leaves limit s live working hold routes states)
      by_size e six t true l =
          let fits = leb-true (route_count routes) (length states) l in
          subst Case (answered-list e six t fits) (PeerCase.answered (record { shape = e; sixes = six; table = t; fits = fits }))
      by_size e six t false l =
          let less = leb-false (route_count routes) (length states) l in
          subst Case (short-list e six t less) (PeerCase.short e six t less)

      by-table : is_receiver limit s live working hold ≡ true → length routes % 6 ≡ 0 → (t : Option Table) → s.table ≡ t → Case (peer_leaves limit s live working hold routes states)
      by-table e six None t = subst Case (untabled-list e six t) (PeerCase.untabled e six t)
      by-table e six (Some i) t = by_size e six (ap has_table t) (leb (route_count routes) (length states)) refl

      by-sixes : is_receiver limit s live working hold ≡ true → (b : Bool) → eqb (length routes % 6) 0 ≡ b → Case (peer_leaves limit s live working hold routes states)
      by-sixes e true q = by-table e (eqb-true _ _ q) s.table refl
      by-sixes e false q = subst Case (not-in-sixes e (eqb-false _ _ q)) (PeerCase.not_sixes e (eqb-false _ _ q))

      by_shape : (b : Bool) → is_receiver limit s live working hold ≡ b → Case (peer_leaves limit s live working hold routes states)
      by_shape true e = by-sixes e (eqb (length routes % 6) 0) refl
      by_shape false e = subst Case (shapeless-list e) (PeerCase.shapeless e)
