-- What a cache sends: document 02, request Five; RFC 6810 and RFC 8210, section 5. A run is one definition over its kind: a full run is the change run from nothing. What a
-- receiver makes of it is on the next page, Serves.
use Rattle.std.specs.Prelude.{ℕ, ◌+◌, Bool, cond, ◌&&◌, List, [], ◌∷◌, ◌++◌, map, eqb, Option, Some, None, Result, Ok, Err}
use Rattle.rtr_models.specs.declared.RtrProtocolVersion.{RtrProtocolVersion}
use Rattle.rtr_models.specs.declared.RtrProtocolVersion.TheVariants.{V0, V1}
use Rattle.rtr_models.specs.declared.RtrEndOfData.{RtrEndOfData}
use Rattle.rtr_models.specs.declared.RtrPdu.{RtrPdu}
use Rattle.rtr_models.specs.declared.RtrPdu.TheVariants.{CacheResponse, IPv4Prefix, IPv6Prefix, EndOfData}
use Rattle.rtr_codec.specs.Reading.{in_use}
use Rattle.rtr_encode.specs.Encode.{Writing, Encoded, encoding}
use Rattle.rtr_encode.specs.Encode.Writing.{written, refused}
use Rattle.rtr_room.specs.Table.{family_of, prefix_of, max_of}
use Rattle.rtr_room.specs.Room.{records, is_room, limit_of}
use Rattle.rtr_room.specs.declared.Record.{Record}
use Rattle.rtr_receiver.specs.History.{Changed, base}
use Rattle.rtr_receiver.specs.Promises.{is_limit}
use Rattle.rtr_receiver.specs.declared.LoadKind.{LoadKind}
use Rattle.rtr_receiver.specs.declared.Table.{Table}
use Rattle.rtr_listing.specs.Promises.{puts}
use Rattle.rtr_changes.specs.Changes.{changes}
use Rattle.rtr_cache.specs.declared.RunError.{RunError}

-- ---- the PDUs of a run

-- 5.5 Cache Response: its session
abbrev pub sent_response : RtrProtocolVersion → ℕ → RtrPdu
sent_response v session = CacheResponse (record { version = v; session_id = session })

-- Flags (RFC 8210, 5.1): 1 announces, 0 withdraws; a run sets no other bit
abbrev pub flags_of : Bool → ℕ
flags_of announced = cond announced 1 0

-- 5.6 IPv4 Prefix: a record's lengths, its address as it stands, host bits and all, and its AS number
abbrev pub sent_ipv4 : RtrProtocolVersion → ℕ → Record → RtrPdu
sent_ipv4 v flags r =
    IPv4Prefix (record { version = v; flags = flags; prefix_length = prefix_of r; max_length = max_of r; prefix = r.w0; asn = r.asn })

-- 5.7 IPv6 Prefix: the same with all four numbers of the address
abbrev pub sent_ipv6 : RtrProtocolVersion → ℕ → Record → RtrPdu
sent_ipv6 v flags r =
    IPv6Prefix
    (record {
      version = v;
      flags = flags;
      prefix_length = prefix_of r;
      max_length = max_of r;
      prefix = record { w0 = r.w0; w1 = r.w1; w2 = r.w2; w3 = r.w3 };
      asn = r.asn;
    })

-- a change of the table as the prefix PDU of its family: a table's records are of family 4 or 6
abbrev pub sent_prefix : RtrProtocolVersion → Changed → RtrPdu
sent_prefix v c = cond (eqb (family_of c.what) 4) (sent_ipv4 v (flags_of c.announced) c.what) (sent_ipv6 v (flags_of c.announced) c.what)

-- 5.8 End of Data: RFC 6810's has no intervals
abbrev pub interval_of : RtrProtocolVersion → ℕ → Option ℕ
interval_of V0 seconds = None
interval_of V1 seconds = Some seconds

abbrev pub end_of : RtrProtocolVersion → Table → RtrEndOfData
end_of v end =
    record {
      version = v;
      session_id = end.session;
      serial_number = end.serial;
      refresh_interval = interval_of v end.refresh;
      retry_interval = interval_of v end.retry;
      expire_interval = interval_of v end.expire;
    }

abbrev pub sent_end : RtrProtocolVersion → Table → RtrPdu
sent_end v end = EndOfData (end_of v end)

-- ---- runs

-- Cache Response, the prefixes of what changed, End of Data. A change is from the first table to the second, withdrawals before announcements, each in table order (request
-- Four's `changes`); a full run is from nothing
unfoldable pub run_pdus : LoadKind → RtrProtocolVersion → Table → List Record → List Record → List RtrPdu
run_pdus kind v end first second = sent_response v end.session ∷ (map (sent_prefix v) (changes (base kind first) second) ++ sent_end v end ∷ [])

-- the bytes of PDUs, one behind the other
unfoldable pub encodings : List RtrPdu → List ℕ
encodings [] = []
encodings (pdu ∷ pdus) = encoding in_use pdu [] ++ encodings pdus

unfoldable pub run_bytes : LoadKind → RtrProtocolVersion → Table → List Record → List Record → List ℕ
run_bytes kind v end first second = encodings (run_pdus kind v end first second)

-- how many bytes a run has, as 9 tells: 8 for the Cache Response, 20 for an IPv4 prefix and 32 for an IPv6 one, 12 or 24 for the End of Data (`run_length` of proofs/Lengths.antt)
abbrev pub prefix_size : Changed → ℕ
prefix_size c = cond (eqb (family_of c.what) 4) 20 32

unfoldable pub prefix_sizes : List Changed → ℕ
prefix_sizes [] = 0
prefix_sizes (c ∷ cs) = prefix_size c + prefix_sizes cs

abbrev pub end_size : RtrProtocolVersion → ℕ
end_size V0 = 12
end_size V1 = 24

abbrev pub run_size : LoadKind → RtrProtocolVersion → List Record → List Record → ℕ
run_size kind v first second = 8 + prefix_sizes (changes (base kind first) second) + end_size v

-- ---- the calls: 22, then 9 with the whole run's length, then the run at the front of the output and what stood behind it

-- a table is lent as a room of its own size, which a receiver may have, and the room rules hold for that size and the count
unfoldable pub is_lent : ℕ → List ℕ → Bool
is_lent count room = is_limit (limit_of room) && is_room (limit_of room) count room

-- 22, and the output stays
abbrev pub not_lent : List ℕ → Encoded
not_lent out = record { says = refused 22 []; out = out }

unfoldable pub full_run_says : RtrProtocolVersion → Table → List ℕ → ℕ → List ℕ → Encoded
full_run_says v end room count out = cond (is_lent count room) (puts (run_bytes LoadKind.Full v end [] (records count room)) out) (not_lent out)

-- both tables are looked at first
unfoldable pub change_run_says : RtrProtocolVersion → Table → List ℕ → ℕ → List ℕ → ℕ → List ℕ → Encoded
change_run_says v end first first_count second second_count out =
    cond (is_lent first_count first && is_lent second_count second)
    (puts (run_bytes LoadKind.Change v end (records first_count first) (records second_count second)) out)
    (not_lent out)

-- document 01's number and values of a refusal
abbrev pub run_refusal : RunError → Writing
run_refusal RunError.NotARoom = refused 22 []
run_refusal (RunError.OutputShort needed) = refused 9 (needed ∷ [])

-- what an answer says
abbrev pub run_writing : Result ℕ RunError → Writing
run_writing (Ok n) = written n
run_writing (Err error) = run_refusal error

-- an answer and the output that it leaves
abbrev pub run_leaves : Result ℕ RunError → List ℕ → Encoded
run_leaves answer out = record { says = run_writing answer; out = out }
