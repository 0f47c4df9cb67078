-- Three small runs, their bytes written out by hand and computed, so that the page is held to something outside itself: document 01's example, which is a full run of version 1,
-- a change of version 0, and a full run of an IPv6 prefix. Assumes nothing.
use Prim.Native.Nat.{ℕ, ◌/◌, ◌%◌}
use mathlib.Core.List.{List, [], ◌∷◌, ◌++◌}
use mathlib.Core.Path.{◌≡◌, ap, ◌∙◌}
use Rattle.rtr_models.specs.declared.RtrProtocolVersion.TheVariants.{V0, V1}
use Rattle.rtr_codec.proofs.Samples.{response_bytes, prefix_bytes, end_bytes}
use Rattle.rtr_encode.specs.Encode.{bytes_of}
use Rattle.rtr_encode.proofs.Laws.{encoding-is, encoded-length-is, bytes-none, bytes-more}
use Rattle.rtr_room.specs.Table.{ipv4_record, ipv6_record}
use Rattle.rtr_room.specs.declared.Record.{Record}
use Rattle.rtr_receiver.specs.declared.LoadKind.{LoadKind}
use Rattle.rtr_receiver.specs.declared.Table.{Table}
use Rattle.rtr_changes.proofs.Laws.{changes-from-none}
use Rattle.rtr_changes.proofs.Samples.{old, new, overnight}
use Rattle.rtr_cache.specs.Cache.{encodings, run_pdus, run_bytes}

one_byte : (n : ℕ) → bytes_of 1 n ≡ n % 256 ∷ []
one_byte n = bytes-more 0 n ∙ ap (λ (s : List ℕ). s ++ n % 256 ∷ []) (bytes-none (n / 256))

two_bytes : (n : ℕ) → bytes_of 2 n ≡ n / 256 % 256 ∷ n % 256 ∷ []
two_bytes n = bytes-more 1 n ∙ ap (λ (s : List ℕ). s ++ n % 256 ∷ []) (one_byte (n / 256))

four_bytes : (n : ℕ) → bytes_of 4 n ≡ n / 256 / 256 / 256 % 256 ∷ n / 256 / 256 % 256 ∷ n / 256 % 256 ∷ n % 256 ∷ []
four_bytes n =
    bytes-more 3 n
    ∙ ap (λ (s : List ℕ). s ++ n % 256 ∷ []) (bytes-more 2 (n / 256) ∙ ap (λ (s : List ℕ). s ++ n / 256 % 256 ∷ []) (two_bytes (n / 256 / 256)))

-- 192.0.2.0/24, max 24, AS 64496
abbrev prefix : Record
prefix = ipv4_record 24 24 0xc0000200 64496

abbrev end : Table
end = record { session = 0x1234; serial = 7; refresh = 3600; retry = 600; expire = 7200 }

-- document 01's example: a Cache Response of session 4660, one prefix, an End of Data of serial 7
pub example : run_bytes LoadKind.Full V1 end [] (prefix ∷ []) ≡ response_bytes ++ (prefix_bytes 1 ++ end_bytes 0x12 0x34 7)
unfolding run_bytes run_pdus encodings
example = simp (changes-from-none, encoding-is, encoded-length-is, one_byte, two_bytes, four_bytes)

-- the change of rtr_changes' sample in version 0: two withdrawals, two announcements, and no intervals
pub overnight-run : run_bytes LoadKind.Change V0 end old new ≡
    0x00 ∷ 0x03 ∷ 0x12 ∷ 0x34 ∷ 0x00 ∷ 0x00 ∷ 0x00 ∷ 0x08
    ∷ 0x00 ∷ 0x04 ∷ 0x00 ∷ 0x00 ∷ 0x00 ∷ 0x00 ∷ 0x00 ∷ 0x14 ∷ 0x00 ∷ 0x08 ∷ 0x18 ∷ 0x00 ∷ 0x0a ∷ 0x00 ∷ 0x00 ∷ 0x00 ∷ 0x00 ∷ 0x00 ∷ 0xfb ∷ 0xf0
    ∷ 0x00 ∷ 0x04 ∷ 0x00 ∷ 0x00 ∷ 0x00 ∷ 0x00 ∷ 0x00 ∷ 0x14 ∷ 0x00 ∷ 0x18 ∷ 0x18 ∷ 0x00 ∷ 0xc0 ∷ 0x00 ∷ 0x02 ∷ 0x00 ∷ 0x00 ∷ 0x00 ∷ 0xfb ∷ 0xf1
    ∷ 0x00 ∷ 0x04 ∷ 0x00 ∷ 0x00 ∷ 0x00 ∷ 0x00 ∷ 0x00 ∷ 0x14 ∷ 0x01 ∷ 0x18 ∷ 0x18 ∷ 0x00 ∷ 0xc0 ∷ 0x00 ∷ 0x02 ∷ 0x00 ∷ 0x00 ∷ 0x00 ∷ 0xfb ∷ 0xff
    ∷ 0x00 ∷ 0x04 ∷ 0x00 ∷ 0x00 ∷ 0x00 ∷ 0x00 ∷ 0x00 ∷ 0x14 ∷ 0x01 ∷ 0x18 ∷ 0x18 ∷ 0x00 ∷ 0xc6 ∷ 0x33 ∷ 0x64 ∷ 0x00 ∷ 0x00 ∷ 0x00 ∷ 0xfb ∷ 0xf3
    ∷ 0x00 ∷ 0x07 ∷ 0x12 ∷ 0x34 ∷ 0x00 ∷ 0x00 ∷ 0x00 ∷ 0x0c ∷ 0x00 ∷ 0x00 ∷ 0x00 ∷ 0x07
    ∷ []
unfolding run_bytes run_pdus encodings
overnight-run = simp (overnight, encoding-is, encoded-length-is, one_byte, two_bytes, four_bytes)

-- 2001:db8:1:2:3:4:5:6/32 to 48, host bits and all, of AS 64496, and intervals that are not the defaults
pub six-run : run_bytes LoadKind.Full V1 (record { session = 1; serial = 0x01020304; refresh = 1800; retry = 300; expire = 5400 }) [] (ipv6_record 32 48 0x20010db8 0x00010002 0x00030004 0x00050006 64496 ∷ []) ≡
    0x01 ∷ 0x03 ∷ 0x00 ∷ 0x01 ∷ 0x00 ∷ 0x00 ∷ 0x00 ∷ 0x08
    ∷ 0x01 ∷ 0x06 ∷ 0x00 ∷ 0x00 ∷ 0x00 ∷ 0x00 ∷ 0x00 ∷ 0x20 ∷ 0x01 ∷ 0x20 ∷ 0x30 ∷ 0x00
    ∷ 0x20 ∷ 0x01 ∷ 0x0d ∷ 0xb8 ∷ 0x00 ∷ 0x01 ∷ 0x00 ∷ 0x02 ∷ 0x00 ∷ 0x03 ∷ 0x00 ∷ 0x04 ∷ 0x00 ∷ 0x05 ∷ 0x00 ∷ 0x06 ∷ 0x00 ∷ 0x00 ∷ 0xfb ∷ 0xf0
    ∷ 0x01 ∷ 0x07 ∷ 0x00 ∷ 0x01 ∷ 0x00 ∷ 0x00 ∷ 0x00 ∷ 0x18 ∷ 0x01 ∷ 0x02 ∷ 0x03 ∷ 0x04 ∷ 0x00 ∷ 0x00 ∷ 0x07 ∷ 0x08 ∷ 0x00 ∷ 0x00 ∷ 0x01 ∷ 0x2c ∷ 0x00 ∷ 0x00 ∷ 0x15 ∷ 0x18
    ∷ []
unfolding run_bytes run_pdus encodings
six-run = simp (changes-from-none, encoding-is, encoded-length-is, one_byte, two_bytes, four_bytes)
