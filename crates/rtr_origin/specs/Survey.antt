-- For the contracts of private functions of the list's call alone: the two numbers that the quick engine takes, for each family, from one look at the table. Nobody has to believe this page.
use Rattle.std.specs.Prelude.{ℕ, zero, suc, cond, List, ltb, eqb}
use Rattle.rtr_room.specs.Table.{family_of, prefix_of}
use Rattle.rtr_room.specs.Room.{record_at}
use Rattle.rtr_room.specs.declared.Record.{Record}
use Rattle.rtr_origin.specs.Origin.{state_of}
use Rattle.rtr_origin.specs.Promises.{RouteSays}
use Rattle.rtr_origin.specs.Private.{plain}
use Rattle.rtr_origin.specs.declared.Route.{Route}
use Rattle.rtr_origin.specs.declared.RoutePrefix.{RoutePrefix}
use Rattle.rtr_origin.specs.declared.RoutePrefix.TheVariants.{IPv4, IPv6}
use Rattle.rtr_origin.specs.declared.peer.Bounds.{Bounds}
use Rattle.rtr_origin.specs.declared.peer.Families.{Families}

-- the lower of two numbers
unfoldable pub lower_of : ℕ → ℕ → ℕ
lower_of x y = cond (ltb y x) y x

-- the shortest length of a family's plain records, and the shortest of its records with host bits, with one record more; one of the other family changes neither
unfoldable pub bounds_with : ℕ → Bounds → Record → Bounds
bounds_with family b x =
    cond (eqb (family_of x) family)
    (cond (plain x)
    (record { least = lower_of b.least (prefix_of x); loose = b.loose })
    (record { least = b.least; loose = lower_of b.loose (prefix_of x) }))
    b

-- of the first so many records; 255, which no record in rule has, where there is none
unfoldable pub bounds_of : ℕ → ℕ → List ℕ → Bounds
bounds_of family zero s = record { least = 255; loose = 255 }
bounds_of family (suc n) s = bounds_with family (bounds_of family n s) (record_at s n)

-- of both families
abbrev pub survey_of : ℕ → List ℕ → Families
survey_of count s = record { four = bounds_of 4 count s; six = bounds_of 6 count s }

-- those of a route's family
abbrev pub bounds_for : Families → RoutePrefix → Bounds
bounds_for v (IPv4 address) = v.four
bounds_for v (IPv6 address) = v.six

-- a question that nothing stands in the way of
abbrev pub state_by : List Record → Route → RouteSays
state_by t q = RouteSays.state (state_of q t)
