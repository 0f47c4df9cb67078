-- `asked_route` gives the route, or the one that stands for none. Assumes nothing.
use Rattle.std.specs.Prelude.{Option, Some, None, ◌≡◌, unwrap_or}
use mathlib.Core.Path.{refl, ◌∙◌}
use Rattle.rtr_origin.specs.declared.Route.{Route}
use Rattle.rtr_origin.specs.declared.RoutePrefix.{RoutePrefix}
use Rattle.rtr_c.specs.Private.{asked_route}
use Rattle.rtr_c.proofs.asked_route.Goals as goal

-- the route or the one that stands for none, as the library says it
or-too-long : (found : Option Route) → unwrap_or found (record { prefix = RoutePrefix.IPv4 0; length = 255; origin = 0 }) ≡ asked_route found
or-too-long None = refl
or-too-long (Some q) = refl

pub returns : goal.returns
returns c = c.unwrap_or.ensures ∙ or-too-long c.args.found
