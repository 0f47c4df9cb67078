-- Document 01's example of the listing, and the listing without a table, computed. Assumes nothing.
use Rattle.std.specs.Prelude.{Option, Some, None}
use mathlib.Core.List.{[], ◌∷◌}
use mathlib.Core.Path.{◌≡◌, refl}
use Rattle.rtr_models.specs.declared.RtrProtocolVersion.TheVariants.{V1}
use Rattle.rtr_room.specs.Table.{ipv4_record}
use Rattle.rtr_receiver.specs.Promises.{record_limit}
use Rattle.rtr_receiver.specs.declared.Phase.TheVariants.{Idle}
use Rattle.rtr_receiver.specs.declared.Session.{Session}
use Prim.Native.Nat.{ℕ}
use Rattle.rtr_listing.specs.Listing.{text, digits, places, line_of, field_lines, table_lines, head_lines, address_of, record_lines, all_lines, listing}
use Rattle.rtr_receiver.specs.declared.Table.{Table}

-- an idle session with a table and so many records
abbrev session : Option Table → ℕ → Session
session table count =
    record {
      life = record { version = V1; limit = record_limit };
      phase = Idle;
      table = table;
      note = None;
      live = record { records = count };
      working = record { records = 0 };
      held = 0;
    }

-- the example: 192.0.2.0/24 of AS 64496
pub example : listing (session (Some (record { session = 4660; serial = 7; refresh = 3600; retry = 600; expire = 7200 })) 1) (ipv4_record 24 24 0xc0000200 64496 ∷ [])
    ≡ text
    "stopped=0\nsession=4660\nserial=7\nrefresh=3600\nretry=600\nexpire=7200\ncount=0001\nfamily=4\naddress=c0000200\nlength=24\nmax=24\nasn=64496\n"
unfolding digits places line_of field_lines table_lines head_lines address_of record_lines all_lines
example = refl

-- "Without the last input byte": no table
pub without-a-table : listing (session None 0) [] ≡ text "stopped=0\ncount=none\n"
unfolding digits places line_of field_lines table_lines head_lines all_lines
without-a-table = refl
