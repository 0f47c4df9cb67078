-- `loose_end` takes number after number. Assumes nothing.
use mathlib.Core.Path.{ap, ◌∙◌}
use Prim.Native.Nat.{ℕ, ◌%◌}
use Rattle.rtr_pdu_numbers.specs.Back.{loose_interval}
use Rattle.rtr_models.specs.declared.RtrPdu.TheVariants.{EndOfData}
use Rattle.rtr_pdu_numbers.proofs.loose_end.Goals as goal

pub returns : goal.returns
returns c =
    let session-id = c.low.ensures ∙ ap (λ (n : ℕ). n % 65536) c.at.ensures in
    let serial-number = c.low-2.ensures ∙ ap (λ (n : ℕ). n % 4294967296) c.at-2.ensures in
    let refresh-interval = c.loose_interval.ensures ∙ ap (loose_interval c.args.version) c.at-3.ensures in
    let retry-interval = c.loose_interval-2.ensures ∙ ap (loose_interval c.args.version) c.at-4.ensures in
    let expire-interval = c.loose_interval-3.ensures ∙ ap (loose_interval c.args.version) c.at-5.ensures in
    λ i. EndOfData (record { version = c.args.version; session_id = session-id i; serial_number = serial-number i; refresh_interval = refresh-interval i; retry_interval = retry-interval i; expire_interval = expire-interval i })
