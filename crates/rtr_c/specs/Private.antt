-- What the private functions of src/lib.rt promise; no public promise rests on this page.
use Rattle.std.specs.Prelude.{ℕ, Option, Some, None, Result, Ok, Err}
use Rattle.rtr_codec.specs.Answers as codec
use Rattle.rtr_receiver.specs.Promises.{stop_said}
use Rattle.rtr_origin.specs.Origin.{state_number}
use Rattle.rtr_origin.specs.declared.RoutePrefix.{RoutePrefix}
use Rattle.rtr_origin.specs.declared.Route.{Route}
use Rattle.rtr_receiver.specs.declared.FeedError.{FeedError}
use Rattle.rtr_receiver.specs.declared.NotAReceiver.{NotAReceiver}
use Rattle.rtr_receiver.specs.declared.Comparison.{Comparison}
use Rattle.rtr_origin.specs.declared.ValidateError.{ValidateError}
use Rattle.rtr_origin.specs.declared.RouteState.{RouteState}

-- a call's number: 0, or its error's
abbrev pub answer_number : {A E : Type 0} → (E → ℕ) → Result A E → ℕ
answer_number refusal (Ok value) = 0
answer_number refusal (Err error) = refusal error

-- what is written, or needed
abbrev pub answer_amount : {E : Type 0} → (E → ℕ) → Result ℕ E → ℕ
answer_amount needs (Ok n) = n
answer_amount needs (Err error) = needs error

-- a refused feed's number
abbrev pub feed_refusal : FeedError → ℕ
feed_refusal (FeedError.Stopped stop) = codec.number_of (stop_said stop)
feed_refusal FeedError.NotAReceiver = 22

-- the comparison's number of the code's answer, 0 on 22
abbrev pub notify_compared : Result Comparison NotAReceiver → ℕ
notify_compared (Ok Comparison.None) = 0
notify_compared (Ok Comparison.OtherSession) = 1
notify_compared (Ok Comparison.Same) = 2
notify_compared (Ok Comparison.Newer) = 3
notify_compared (Ok Comparison.Older) = 4
notify_compared (Ok Comparison.Undefined) = 5
notify_compared (Err refusal) = 0

-- the state's number of the code's answer, 0 on a refusal
abbrev pub validate_state : Result RouteState ValidateError → ℕ
validate_state (Ok state) = state_number state
validate_state (Err error) = 0

-- the route that is asked of: one that is too long where the numbers are no route's
abbrev pub asked_route : Option Route → Route
asked_route (Some q) = q
asked_route None = record { prefix = RoutePrefix.IPv4 0; length = 255; origin = 0 }
