-- What each call promises leaves one answer and one content of what is lent to be written; of the hold, up to the held count, or all of it on 22.
-- `Post` is the contract as Rattle reads it off the source. Assumes nothing.
use Prim.Native.Nat.{ℕ}
use mathlib.Core.List.{List}
use mathlib.Core.Path.{◌≡◌, sym, ap, ◌∙◌}
use Rattle.rtr_base.proofs.Unique.{only-this}
use Rattle.rtr_c.specs.Calls.{ReadLeft, EncodeLeft, encode_gives, WalkLeft, StartLeft, AskLeft, FeedLeft, ReconnectLeft, NotifyLeft, ReadListingLeft, ValidateLeft, held_of}
use Rattle.rtr_c.proofs.hingemoss_read.Reads as read-reads
use Rattle.rtr_c.proofs.hingemoss_encode.Reads as encode-reads
use Rattle.rtr_c.proofs.hingemoss_walk.Reads as walk-reads
use Rattle.rtr_c.proofs.hingemoss_start.Reads as start-reads
use Rattle.rtr_c.proofs.hingemoss_full_ask.Reads as full-ask-reads
use Rattle.rtr_c.proofs.hingemoss_change_ask.Reads as change-ask-reads
use Rattle.rtr_c.proofs.hingemoss_feed.Reads as feed-reads
use Rattle.rtr_c.proofs.hingemoss_reconnect.Reads as reconnect-reads
use Rattle.rtr_c.proofs.hingemoss_notify.Reads as notify-reads
use Rattle.rtr_c.proofs.hingemoss_listing.Reads as listing-reads
use Rattle.rtr_c.proofs.hingemoss_read_value.Reads as read-value-reads
use Rattle.rtr_c.proofs.hingemoss_validate.Reads as validate-reads
use Rattle.rtr_c.proofs.hingemoss_validate_all.Reads as validate-all-reads
use Rattle.rtr_c.proofs.hingemoss_read_listing.Reads as read-listing-reads
use Rattle.rtr_c.proofs.hingemoss_full_run.Reads as full-run-reads
use Rattle.rtr_c.proofs.hingemoss_change_run.Reads as change-run-reads

-- an answer, a count and an output, of the calls that leave them
encoded-once : (left : EncodeLeft) (answer answer' written written' : ℕ) (out out' : List ℕ) → encode_gives answer written out ≡ left → encode_gives answer' written' out' ≡ left
    → (answer ≡ answer') × (written ≡ written') × (out ≡ out')
encoded-once left answer answer' written written' out out' p q = (
  ap (λ (x : EncodeLeft). x.answer) (p ∙ sym q),
  ap (λ (x : EncodeLeft). x.written) (p ∙ sym q),
  ap (λ (x : EncodeLeft). x.out) (p ∙ sym q),
)

pub read-unique : (κs : _) (a : _) (r r' : _) (s s' : _) → read-reads.Post κs a r s → read-reads.Post κs a r' s'
    → (r ≡ r') × (s.1.0.now ≡ s'.1.0.now)
read-unique κs a r r' s s' p q = (
  ap (λ (x : ReadLeft). x.answer) (p ∙ sym q),
  ap (λ (x : ReadLeft). x.pdu) (p ∙ sym q),
)

pub encode-unique : (κs : _) (a : _) (r r' : _) (s s' : _) → encode-reads.Post κs a r s → encode-reads.Post κs a r' s'
    → (r ≡ r') × (s.1.1.1.0.now ≡ s'.1.1.1.0.now) × (s.1.1.0.now ≡ s'.1.1.0.now)
encode-unique κs a r r' s s' p q = encoded-once _ _ _ _ _ _ _ p q

pub walk-unique : (κs : _) (a : _) (r r' : _) (s s' : _) → walk-reads.Post κs a r s → walk-reads.Post κs a r' s'
    → (r ≡ r') × (s.1.0.now ≡ s'.1.0.now) × (s.1.1.0.now ≡ s'.1.1.0.now) × (s.1.1.1.0.now ≡ s'.1.1.1.0.now)
walk-unique κs a r r' s s' p q = (
  ap (λ (x : WalkLeft). x.answer) (p ∙ sym q),
  ap (λ (x : WalkLeft). x.level) (p ∙ sym q),
  ap (λ (x : WalkLeft). x.end) (p ∙ sym q),
  ap (λ (x : WalkLeft). x.value) (p ∙ sym q),
)

pub start-unique : (κs : _) (a : _) (r r' : _) (s s' : _) → start-reads.Post κs a r s → start-reads.Post κs a r' s'
    → (r ≡ r') × (s.1.0.now ≡ s'.1.0.now) × (s.1.1.0.now ≡ s'.1.1.0.now) × (s.1.1.1.0.now ≡ s'.1.1.1.0.now)
start-unique κs a r r' s s' p q = (
  ap (λ (x : StartLeft). x.answer) (p.0 ∙ sym q.0),
  ap (λ (x : StartLeft). x.session) (p.0 ∙ sym q.0),
  ap (λ (x : StartLeft). x.live) (p.0 ∙ sym q.0),
  ap (λ (x : StartLeft). x.working) (p.0 ∙ sym q.0),
)

pub full-ask-unique : (κs : _) (a : _) (r r' : _) (s s' : _) → full-ask-reads.Post κs a r s → full-ask-reads.Post κs a r' s'
    → (r ≡ r') × (s.0.now ≡ s'.0.now) × (s.1.1.1.1.0.now ≡ s'.1.1.1.1.0.now)
full-ask-unique κs a r r' s s' p q = (
  ap (λ (x : AskLeft). x.answer) (p.0 ∙ sym q.0),
  ap (λ (x : AskLeft). x.session) (p.0 ∙ sym q.0),
  ap (λ (x : AskLeft). x.out) (p.0 ∙ sym q.0),
)

pub change-ask-unique : (κs : _) (a : _) (r r' : _) (s s' : _) → change-ask-reads.Post κs a r s → change-ask-reads.Post κs a r' s'
    → (r ≡ r') × (s.0.now ≡ s'.0.now) × (s.1.1.1.1.0.now ≡ s'.1.1.1.1.0.now)
change-ask-unique κs a r r' s s' p q = (
  ap (λ (x : AskLeft). x.answer) (p.0 ∙ sym q.0),
  ap (λ (x : AskLeft). x.session) (p.0 ∙ sym q.0),
  ap (λ (x : AskLeft). x.out) (p.0 ∙ sym q.0),
)

pub feed-unique : (κs : _) (a : _) (r r' : _) (s s' : _) → feed-reads.Post κs a r s → feed-reads.Post κs a r' s'
    → (r ≡ r') × (s.0.now ≡ s'.0.now) × (s.1.0.now ≡ s'.1.0.now) × (s.1.1.0.now ≡ s'.1.1.0.now) × (s.1.1.1.1.1.0.now ≡ s'.1.1.1.1.1.0.now) × (s.1.1.1.1.1.1.0.now ≡ s'.1.1.1.1.1.1.0.now) × (held_of r s.0.now s.1.1.1.0.now ≡ held_of r' s'.0.now s'.1.1.1.0.now)
feed-unique κs a r r' s s' p q = (
  ap (λ (x : FeedLeft). x.answer) (p.0 ∙ sym q.0),
  ap (λ (x : FeedLeft). x.session) (p.0 ∙ sym q.0),
  ap (λ (x : FeedLeft). x.live) (p.0 ∙ sym q.0),
  ap (λ (x : FeedLeft). x.working) (p.0 ∙ sym q.0),
  ap (λ (x : FeedLeft). x.taken) (p.0 ∙ sym q.0),
  ap (λ (x : FeedLeft). x.updates) (p.0 ∙ sym q.0),
  ap (λ (x : FeedLeft). x.held) (p.0 ∙ sym q.0),
)

pub reconnect-unique : (κs : _) (a : _) (r r' : _) (s s' : _) → reconnect-reads.Post κs a r s → reconnect-reads.Post κs a r' s'
    → (r ≡ r') × (s.0.now ≡ s'.0.now) × (s.1.1.0.now ≡ s'.1.1.0.now)
reconnect-unique κs a r r' s s' p q = (
  ap (λ (x : ReconnectLeft). x.answer) (p.0 ∙ sym q.0),
  ap (λ (x : ReconnectLeft). x.session) (p.0 ∙ sym q.0),
  ap (λ (x : ReconnectLeft). x.working) (p.0 ∙ sym q.0),
)

pub notify-unique : (κs : _) (a : _) (r r' : _) (s s' : _) → notify-reads.Post κs a r s → notify-reads.Post κs a r' s'
    → (r ≡ r') × (s.1.1.1.1.0.now ≡ s'.1.1.1.1.0.now)
notify-unique κs a r r' s s' p q = (
  ap (λ (x : NotifyLeft). x.answer) (p ∙ sym q),
  ap (λ (x : NotifyLeft). x.compared) (p ∙ sym q),
)

pub read-value-unique : (κs : _) (a : _) (r r' : _) (s s' : _) → read-value-reads.Post κs a r s → read-value-reads.Post κs a r' s' → r ≡ r'
read-value-unique κs a r r' s s' p q = only-this r r' _ p q

pub listing-unique : (κs : _) (a : _) (r r' : _) (s s' : _) → listing-reads.Post κs a r s → listing-reads.Post κs a r' s'
    → (r ≡ r') × (s.1.1.1.0.now ≡ s'.1.1.1.0.now) × (s.1.1.0.now ≡ s'.1.1.0.now)
listing-unique κs a r r' s s' p q = encoded-once _ _ _ _ _ _ _ p q

pub validate-unique : (κs : _) (a : _) (r r' : _) (s s' : _) → validate-reads.Post κs a r s → validate-reads.Post κs a r' s'
    → (r ≡ r') × (s.1.1.1.1.1.0.now ≡ s'.1.1.1.1.1.0.now)
validate-unique κs a r r' s s' p q = (
  ap (λ (x : ValidateLeft). x.answer) (p ∙ sym q),
  ap (λ (x : ValidateLeft). x.state) (p ∙ sym q),
)

pub validate-all-unique : (κs : _) (a : _) (r r' : _) (s s' : _) → validate-all-reads.Post κs a r s → validate-all-reads.Post κs a r' s'
    → (r ≡ r') × (s.1.1.1.1.1.1.0.now ≡ s'.1.1.1.1.1.1.0.now) × (s.1.1.1.1.1.0.now ≡ s'.1.1.1.1.1.0.now)
validate-all-unique κs a r r' s s' p q = encoded-once _ _ _ _ _ _ _ p q

pub read-listing-call-unique : (κs : _) (a : _) (r r' : _) (s s' : _) → read-listing-reads.Post κs a r s → read-listing-reads.Post κs a r' s'
    → (r ≡ r') × (s.1.0.now ≡ s'.1.0.now) × (s.1.1.0.now ≡ s'.1.1.0.now) × (s.1.1.1.0.now ≡ s'.1.1.1.0.now)
read-listing-call-unique κs a r r' s s' p q = (
  ap (λ (x : ReadListingLeft). x.answer) (p ∙ sym q),
  ap (λ (x : ReadListingLeft). x.room) (p ∙ sym q),
  ap (λ (x : ReadListingLeft). x.head) (p ∙ sym q),
  ap (λ (x : ReadListingLeft). x.line) (p ∙ sym q),
)

pub full-run-call-unique : (κs : _) (a : _) (r r' : _) (s s' : _) → full-run-reads.Post κs a r s → full-run-reads.Post κs a r' s'
    → (r ≡ r') × (s.1.1.1.1.1.0.now ≡ s'.1.1.1.1.1.0.now) × (s.1.1.1.1.0.now ≡ s'.1.1.1.1.0.now)
full-run-call-unique κs a r r' s s' p q = encoded-once _ _ _ _ _ _ _ p.0 q.0

pub change-run-call-unique : (κs : _) (a : _) (r r' : _) (s s' : _) → change-run-reads.Post κs a r s → change-run-reads.Post κs a r' s'
    → (r ≡ r') × (s.1.1.1.1.1.1.1.0.now ≡ s'.1.1.1.1.1.1.1.0.now) × (s.1.1.1.1.1.1.0.now ≡ s'.1.1.1.1.1.1.0.now)
change-run-call-unique κs a r r' s s' p q = encoded-once _ _ _ _ _ _ _ p.0 q.0
