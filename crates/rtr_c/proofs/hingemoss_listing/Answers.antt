-- `hingemoss_listing` finds the session and lists it. Assumes nothing.
use mathlib.Core.Path.{refl, ◌∙◌}
use Rattle.rtr_listing.specs.Promises.{list_said}
use Rattle.rtr_c.proofs.Steps.{numbered, counted, listing-known, listing-unknown}
use Rattle.rtr_c.proofs.hingemoss_listing.Goals as goal

pub returns : goal.returns
returns c = listing-known c.args.session.now c.session_of.result c.session_of.ensures c.args.live.now c.args.out.now _ c.listing-answer.result _ _ _ c.in-Some.is c.listing-answer.ensures (c.number.ensures ∙ numbered list_said (λ n. refl) c.listing-answer.result) (c.amount.ensures ∙ counted list_said (λ n. refl) c.listing-answer.result)

pub returns-in_default : goal.returns-in_default
returns-in_default c = listing-unknown c.args.session.now c.session_of.result c.session_of.ensures c.args.live.now c.args.out.now c.in_default.is
