-- `loose_notify` takes number after number. Assumes nothing.
use mathlib.Core.Path.{ap, ◌∙◌}
use Prim.Native.Nat.{ℕ, ◌%◌}
use Rattle.rtr_models.specs.declared.RtrPdu.TheVariants.{SerialNotify}
use Rattle.rtr_pdu_numbers.proofs.loose_notify.Goals as goal

pub returns : goal.returns
returns c =
    let session-id = c.low.ensures ∙ ap (λ (n : ℕ). n % 65536) c.at.ensures in
    let serial-number = c.low-2.ensures ∙ ap (λ (n : ℕ). n % 4294967296) c.at-2.ensures in
    λ i. SerialNotify (record { version = c.args.version; session_id = session-id i; serial_number = serial-number i })
