-- Two small tables and their changes, worked out by hand and computed, so that the page is held to something outside itself. Assumes nothing.
use mathlib.Core.Bool.{true, false}
use mathlib.Core.List.{List, [], ◌∷◌}
use mathlib.Core.Path.{◌≡◌}
use Rattle.rtr_room.specs.Table.{ipv4_record, ipv6_record}
use Rattle.rtr_room.specs.declared.Record.{Record}
use Rattle.rtr_room.proofs.Laws.{in-none, in-next, same_numbers}
use Rattle.rtr_changes.specs.Changes.{without, changes}

-- 10.0.0.0/8 to 24 of AS 64496; 192.0.2.0/24 of AS 64497; 2001:db8::/32 to 48 of AS 64496
abbrev pub old : List Record
old = ipv4_record 8 24 0x0a000000 64496 ∷ ipv4_record 24 24 0xc0000200 64497 ∷ ipv6_record 32 48 0x20010db8 0 0 0 64496 ∷ []

-- 192.0.2.0/24 of AS 64511 now; 198.51.100.0/24 of AS 64499 has come; the IPv6 prefix has stayed, and 10.0.0.0/8 has gone
abbrev pub new : List Record
new = ipv4_record 24 24 0xc0000200 64511 ∷ ipv4_record 24 24 0xc6336400 64499 ∷ ipv6_record 32 48 0x20010db8 0 0 0 64496 ∷ []

-- what has gone is withdrawn, and what has come announced; the prefix whose AS number changed is both; what has stayed is neither
pub overnight : changes old new ≡
    record { announced = false; what = ipv4_record 8 24 0x0a000000 64496 }
    ∷ record { announced = false; what = ipv4_record 24 24 0xc0000200 64497 }
    ∷ record { announced = true; what = ipv4_record 24 24 0xc0000200 64511 }
    ∷ record { announced = true; what = ipv4_record 24 24 0xc6336400 64499 }
    ∷ []
unfolding changes without
overnight = simp (in-next, in-none, same_numbers)

-- the way back is the other way round
pub back-again : changes new old ≡
    record { announced = false; what = ipv4_record 24 24 0xc0000200 64511 }
    ∷ record { announced = false; what = ipv4_record 24 24 0xc6336400 64499 }
    ∷ record { announced = true; what = ipv4_record 8 24 0x0a000000 64496 }
    ∷ record { announced = true; what = ipv4_record 24 24 0xc0000200 64497 }
    ∷ []
unfolding changes without
back-again = simp (in-next, in-none, same_numbers)
