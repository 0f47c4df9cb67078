-- The lines of the table, of the calls: at each line's input the contract of `parse_rtr_pdu`, `encode`, `walk` or `notify`, as Rattle reads it off the source (`Post`), leaves that answer alone. Each follows from
-- the line's own statement (`edges-hold`), whatever the line, so a line that is added is proved of the calls too. Assumes nothing.
use Rattle.std.specs.Prelude.{Some, Ok}
use Prim.Native.Nat.{ℕ}
use mathlib.Core.Bool.{true}
use mathlib.Core.List.{List, [], ◌∷◌}
use mathlib.Core.Path.{◌≡◌, refl, sym, ap, ◌∙◌, subst}
use borrow.Author.Tests.{eq-eqb}
use Rattle.rtr_models.specs.declared.RtrPdu.{RtrPdu}
use Rattle.rtr_codec.specs.Reading.{in_use}
use Rattle.rtr_codec.specs.Read.{read}
use Rattle.rtr_codec.specs.Read.Verdict.{accepted}
use Rattle.rtr_codec.specs.Answers.{verdict}
use Rattle.rtr_codec.proofs.parse_rtr_pdu.Reads as parse
use Rattle.rtr_encode.specs.Encode.{Encoded}
use Rattle.rtr_encode.specs.Encode as paper
use Rattle.rtr_encode.specs.Answers.{leaves}
use Rattle.rtr_encode.proofs.encode.Reads as encode
use Rattle.rtr_walk.specs.Walk.{walk_said}
use Rattle.rtr_walk.specs.Walk as walks-paper
use Rattle.rtr_walk.proofs.walk.Reads as walk
use Rattle.rtr_receiver.specs.Receiver.{notified, compared}
use Rattle.rtr_receiver.specs.Promises.{is_receiver, notify_said}
use Rattle.rtr_receiver.specs.Promises.NotifySays.{compares}
use Rattle.rtr_receiver.specs.declared.Table.{Table}
use Rattle.rtr_receiver.proofs.Shaped.{shaped-notify}
use Rattle.rtr_receiver.proofs.notify.Reads as notify
use Rattle.rtr_edges.specs.Edges.{Edge, Recodes, Holds, AllHold, edges}
use Rattle.rtr_edges.specs.Edges.Edge.{reads, recodes, walks, notifies}
use Rattle.rtr_edges.proofs.Edges.{edges-hold}

-- what a line says of the calls. A slice's bytes are the line's; the PDU encoded is the one that was read, with its slice; memory that is compared is a receiver's, with a table of the line's serial and a note of its session
abbrev Called : Edge → Type 0
Called (reads s v) = (κs : _) (a : _) (r : _) (st : _) → parse.Post κs a r st → a.0.now ≡ s → verdict r ≡ v
Called (recodes s out left) =
    (κs : _) (a : _) (pdu : RtrPdu) (n : ℕ) (st : _) → parse.Post κs a (Ok (pdu, n)) st → a.0.now ≡ s
    → (κs' : _) (a' : _) (r : _) (st' : _) → encode.Post κs' a' r st' → a'.0 ≡ pdu → a'.1.0.now ≡ s → a'.1.1.0.now ≡ out
    → leaves r st'.1.1.0.now ≡ left
Called (walks s v) = (κs : _) (a : _) (r : _) (st : _) → walk.Post κs a r st → a.0.now ≡ s → walk_said r ≡ v
Called (notifies table serial v) =
    (κs : _) (a : _) (r : _) (st : _) → notify.Post κs a r st
    → is_receiver a.0.life.limit a.0 a.1.0.now a.1.1.0.now a.1.1.1.0.now ≡ true
    → (t : Table) → a.0.table ≡ Some t → t.serial ≡ table → a.0.note ≡ Some (t.session, serial)
    → notify_said r ≡ compares v

abbrev AllCalled : List Edge → Type 0
AllCalled [] = Unit {0}
AllCalled (e ∷ es) = Called e × AllCalled es

-- what was read is what is encoded
recoded : (s out : List ℕ) (left : Encoded) (pdu : RtrPdu) (n : ℕ) → Recodes s out left (read in_use s) → accepted pdu n ≡ read in_use s → paper.encode in_use pdu s out ≡ left
recoded s out left pdu n h e = subst (Recodes s out left) (sym e) h

-- under one session the serials are compared
one-session : (t : Table) (serial : ℕ) → notified (Some t) (Some (t.session, serial)) ≡ compared serial t.serial
one-session t serial = simp (eq-eqb t.session t.session refl)

called : (e : Edge) → Holds e → Called e
called (reads s v) h = λ κs a r st p same. p ∙ ap (read in_use) same ∙ h
called (recodes s out left) h =
    λ κs a pdu n st p same κs' a' r st' q pdu' same' room.
    q ∙ (λ i. paper.encode in_use (pdu' i) (same' i) (room i)) ∙ recoded s out left pdu n h (p ∙ ap (read in_use) same)
called (walks s v) h = λ κs a r st p same. p ∙ ap (walks-paper.walk in_use) same ∙ h
called (notifies table serial v) h =
    λ κs a r st p shape t known at noted.
    p ∙ shaped-notify a.0.life.limit a.0 a.1.0.now a.1.1.0.now a.1.1.1.0.now shape
    ∙ (λ i. compares (notified (known i) (noted i)))
    ∙ ap compares (one-session t serial ∙ ap (compared serial) at ∙ h)

all-called : (es : List Edge) → AllHold es → AllCalled es
all-called [] h = tt
all-called (e ∷ es) h = (called e h.0, all-called es h.1)

-- document 01's edges hold of the calls
pub edges-called : AllCalled edges
edges-called = all-called edges edges-hold
