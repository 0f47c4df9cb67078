-- States worked out by hand, so that the page is held to something outside itself: each is computed. Assumes nothing.
use Rattle.std.specs.Prelude.{Ok}
use mathlib.Core.List.{List, [], ◌∷◌}
use mathlib.Core.Path.{◌≡◌, refl}
use Rattle.rtr_room.specs.Table.{ipv4_record, ipv6_record}
use Rattle.rtr_room.specs.declared.Record.{Record}
use Rattle.rtr_origin.specs.Origin.{agree, covers, matches, any, state_of, state_number}
use Rattle.rtr_encode.specs.Encode.Writing.{written, refused}
use Rattle.rtr_origin.specs.Numbers.{route_of}
use Rattle.rtr_origin.specs.Promises.{RouteSays, route_refusal}
use Rattle.rtr_origin.specs.Peer.{says_number, states_from, states_of, peer_refusal, peer_said}
use Rattle.rtr_origin.specs.declared.peer.PeerError.{PeerError}
use Rattle.rtr_origin.specs.declared.Route.{Route}
use Rattle.rtr_origin.specs.declared.ValidateError.TheVariants.{NotAReceiver, NoTable, TooLong}
use Rattle.rtr_origin.specs.declared.RoutePrefix.TheVariants.{IPv4, IPv6}
use Rattle.rtr_origin.specs.declared.RouteState.TheVariants.{NotFound, Valid, Invalid}

-- 10.0.0.0/8 to 24 of AS 64496; 10.1.2.3/16 of AS 64497, its host bits kept; 2001:db8:a000::/36 to 48 of AS 64496; 192.0.2.0/24 of AS 0
abbrev pub table : List Record
table =
    ipv4_record 8 24 0x0a000000 64496
    ∷ ipv4_record 16 16 0x0a010203 64497
    ∷ ipv4_record 24 24 0xc0000200 0
    ∷ ipv6_record 36 48 0x20010db8 0xa0000000 0 0 64496
    ∷ []

-- 10.1.0.0/16 of AS 64496 is Valid by the first, though the second covers it too
pub of-the-first : state_of (record { prefix = IPv4 0x0a010000; length = 16; origin = 64496 }) table ≡ Valid
unfolding state_of any matches covers agree
of-the-first = refl

-- and of AS 64497 by the second, whatever its host bits
pub of-the-second : state_of (record { prefix = IPv4 0x0a010000; length = 16; origin = 64497 }) table ≡ Valid
unfolding state_of any matches covers agree
of-the-second = refl

-- 10.1.0.0/24 is the longest that the first allows
pub as-long-as-max : state_of (record { prefix = IPv4 0x0a010000; length = 24; origin = 64496 }) table ≡ Valid
unfolding state_of any matches covers agree
as-long-as-max = refl

-- one bit longer is Invalid
pub longer-than-max : state_of (record { prefix = IPv4 0x0a010000; length = 25; origin = 64496 }) table ≡ Invalid
unfolding state_of any matches covers agree
longer-than-max = refl

-- of another origin it is Invalid
pub of-another : state_of (record { prefix = IPv4 0x0a010000; length = 16; origin = 64511 }) table ≡ Invalid
unfolding state_of any matches covers agree
of-another = refl

-- 10.0.0.0/7 is shorter than every record there: NotFound
pub shorter-than-any : state_of (record { prefix = IPv4 0x0a000000; length = 7; origin = 64496 }) table ≡ NotFound
unfolding state_of any matches covers agree
shorter-than-any = refl

-- 11.0.0.0/8 differs in the eighth bit: NotFound
pub next-to-it : state_of (record { prefix = IPv4 0x0b000000; length = 8; origin = 64496 }) table ≡ NotFound
unfolding state_of any matches covers agree
next-to-it = refl

-- 192.0.2.0/24 of AS 0 is Invalid: AS 0 covers and never matches
pub of-as-zero : state_of (record { prefix = IPv4 0xc0000200; length = 24; origin = 0 }) table ≡ Invalid
unfolding state_of any matches covers agree
of-as-zero = refl

-- 2001:db8:a123::/48 of AS 64496 is Valid
pub in-the-second-word : state_of (record { prefix = IPv6 (record { w0 = 0x20010db8; w1 = 0xa1230000; w2 = 0; w3 = 0 }); length = 48; origin = 64496 }) table ≡ Valid
unfolding state_of any matches covers agree
in-the-second-word = refl

-- 2001:db8:b000::/36 differs in the thirty-sixth bit: NotFound
pub next-in-the-second-word : state_of (record { prefix = IPv6 (record { w0 = 0x20010db8; w1 = 0xb0000000; w2 = 0; w3 = 0 }); length = 36; origin = 64496 }) table ≡ NotFound
unfolding state_of any matches covers agree
next-in-the-second-word = refl

-- a00::/16, the numbers of 10.0.0.0 in IPv6: families do not cross
pub of-the-other-family : state_of (record { prefix = IPv6 (record { w0 = 0x0a000000; w1 = 0; w2 = 0; w3 = 0 }); length = 16; origin = 64496 }) table ≡ NotFound
unfolding state_of any matches covers agree
of-the-other-family = refl

-- a record of the whole length covers that address alone, each of its words
abbrev pub host : List Record
host = ipv6_record 128 128 1 2 3 4 64496 ∷ []

pub whole-address : state_of (record { prefix = IPv6 (record { w0 = 1; w1 = 2; w2 = 3; w3 = 4 }); length = 128; origin = 64496 }) host ≡ Valid
unfolding state_of any matches covers agree
whole-address = refl

pub last_bit : state_of (record { prefix = IPv6 (record { w0 = 1; w1 = 2; w2 = 3; w3 = 5 }); length = 128; origin = 64496 }) host ≡ NotFound
unfolding state_of any matches covers agree
last_bit = refl

-- document 02's numbers: of the states (request Two) and of the refusals (request One)
pub numbers-of-states : (state_number NotFound ≡ 0) × (state_number Valid ≡ 1) × (state_number Invalid ≡ 2)
numbers-of-states = (refl, refl, refl)

pub numbers-of-refusals : (route_refusal NotAReceiver ≡ 22) × (route_refusal NoTable ≡ 21) × (route_refusal TooLong ≡ 23)
numbers-of-refusals = (refl, refl, refl)

-- ---- a list: 10.1.0.0/16 of AS 64496; an IPv4 route with a spare that is not 0; a length of 280, which is no 24; a route of family 5; 192.0.2.0/24 of AS 0; 2001:db8:a123::/48 of AS 64496;
-- 10.0.0.0/7; a record's first number in a route's place. Each is answered in its place, and what is none ends nothing
pub of-a-peer : states_of (λ (q : Route). RouteSays.state (state_of q table))
    (262160 ∷ 0x0a010000 ∷ 0 ∷ 0 ∷ 0 ∷ 64496
    ∷ 262160 ∷ 0x0a010000 ∷ 0 ∷ 1 ∷ 0 ∷ 64496
    ∷ 262424 ∷ 0x0a010000 ∷ 0 ∷ 0 ∷ 0 ∷ 64496
    ∷ 327696 ∷ 0x0a010000 ∷ 0 ∷ 0 ∷ 0 ∷ 64496
    ∷ 262168 ∷ 0xc0000200 ∷ 0 ∷ 0 ∷ 0 ∷ 0
    ∷ 393264 ∷ 0x20010db8 ∷ 0xa1230000 ∷ 0 ∷ 0 ∷ 64496
    ∷ 262151 ∷ 0x0a000000 ∷ 0 ∷ 0 ∷ 0 ∷ 64496
    ∷ 264216 ∷ 0x0a000000 ∷ 0 ∷ 0 ∷ 0 ∷ 64496
    ∷ [])
    ≡ 1 ∷ 23 ∷ 23 ∷ 23 ∷ 2 ∷ 1 ∷ 0 ∷ 23 ∷ []
unfolding states_from route_of state_of any matches covers agree
of-a-peer = refl

-- no routes have no states
pub of-nobody : states_of (λ (q : Route). RouteSays.state (state_of q table)) [] ≡ []
unfolding states_from
of-nobody = refl

-- what a list puts in a place, and its refusals
pub numbers-in-places : (says_number (RouteSays.refused 23) ≡ 23) × (says_number (RouteSays.state Valid) ≡ 1) × (says_number (RouteSays.state Invalid) ≡ 2) × (says_number (RouteSays.state NotFound) ≡ 0)
numbers-in-places = (refl, refl, refl, refl)

pub numbers-of-list-refusals : (peer_refusal PeerError.OutOfShape ≡ refused 22 []) × (peer_refusal PeerError.NoTable ≡ refused 21 []) × (peer_refusal (PeerError.StatesShort 40000) ≡ refused 9 (40000 ∷ [])) × (peer_said (Ok 40000) ≡ written 40000)
numbers-of-list-refusals = (refl, refl, refl, refl)
