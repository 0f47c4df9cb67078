-- How long a run is (`run_length`), at the most (`full-at-most`, `change-at-most`), and which outputs are never too short (`full-never-short`, `change-never-short`). Assumes
-- nothing.
use Prim.Native.Nat.{ℕ, ◌+◌, ◌*◌, ◌≤◌}
use mathlib.Core.Bool.{Bool, true, false, cond}
use mathlib.Core.List.{List, [], ◌∷◌, ◌++◌, map}
use mathlib.Core.Path.{◌≡◌, refl, ap, ◌∙◌}
use native.Mathlib.Omega.{arith}
use lib.Dec.{eqb}
use lib.ListN.{length, length-append, length-map}
use Rattle.rtr_models.specs.declared.RtrProtocolVersion.{RtrProtocolVersion}
use Rattle.rtr_models.specs.declared.RtrProtocolVersion.TheVariants.{V0, V1}
use Rattle.rtr_codec.specs.Reading.{in_use}
use Rattle.rtr_encode.specs.Encode.{Encoded, encoding}
use Rattle.rtr_encode.specs.Encode.Writing.{written}
use Rattle.rtr_room.specs.Table.{family_of}
use Rattle.rtr_room.specs.Room.{records}
use Rattle.rtr_room.specs.declared.Record.{Record}
use Rattle.rtr_room.proofs.Laws.{records-length}
use Rattle.rtr_receiver.specs.History.{Changed, base}
use Rattle.rtr_receiver.specs.declared.LoadKind.{LoadKind}
use Rattle.rtr_receiver.specs.declared.Table.{Table}
use Rattle.rtr_changes.specs.Changes.{changes, announce}
use Rattle.rtr_changes.proofs.Laws.{changes-from-none, changes-at-most}
use Rattle.rtr_cache.specs.Cache.{sent_response, flags_of, sent_ipv4, sent_ipv6, sent_prefix, sent_end, encodings, run_bytes, prefix_size, prefix_sizes, end_size, run_size, is_lent, full_run_says, change_run_says}
use Rattle.rtr_cache.proofs.Laws.{lent-within, full-written, change-written}
use Rattle.rtr_cache.proofs.NoPayload.{ipv4-long, ipv6-long, response-long, end-v0-long, end-v1-long}
use Rattle.rtr_cache.proofs.Serves.{run-parts}

prefix-long : (v : RtrProtocolVersion) (c : Changed) → length (encoding in_use (sent_prefix v c) []) ≡ prefix_size c
prefix-long v c = go (eqb (family_of c.what) 4)
  where
    go : (four : Bool) → length (encoding in_use (cond four (sent_ipv4 v (flags_of c.announced) c.what) (sent_ipv6 v (flags_of c.announced) c.what)) []) ≡ cond four 20 32
    go true = ipv4-long v (flags_of c.announced) c.what
    go false = ipv6-long v (flags_of c.announced) c.what

prefixes-long : (v : RtrProtocolVersion) (cs : List Changed) → length (encodings (map (sent_prefix v) cs)) ≡ prefix_sizes cs
unfolding encodings prefix_sizes
prefixes-long v [] = refl
prefixes-long v (c ∷ cs) = length-append (encoding in_use (sent_prefix v c) []) (encodings (map (sent_prefix v) cs)) ∙ omega (arith, prefix-long v c, prefixes-long v cs)

end-long : (v : RtrProtocolVersion) (end : Table) → length (encoding in_use (sent_end v end) [] ++ []) ≡ end_size v
end-long V0 end = length-append (encoding in_use (sent_end V0 end) []) [] ∙ omega (arith, end-v0-long end)
end-long V1 end = length-append (encoding in_use (sent_end V1 end) []) [] ∙ omega (arith, end-v1-long end)

-- of each kind and version
pub run_length : (kind : LoadKind) (v : RtrProtocolVersion) (end : Table) (first second : List Record) → length (run_bytes kind v end first second) ≡ run_size kind v first second
run_length kind v end first second =
    let cs : List Changed = changes (base kind first) second in
    let prefixes : List ℕ = encodings (map (sent_prefix v) cs) in
    let last : List ℕ = encoding in_use (sent_end v end) [] ++ [] in
    ap length (run-parts kind v end first second)
    ∙ length-append (encoding in_use (sent_response v end.session) []) (prefixes ++ last)
    ∙ omega (arith, length-append prefixes last, response-long v end.session, prefixes-long v cs, end-long v end)

-- ---- at the most

sizes-at-most : (cs : List Changed) → prefix_sizes cs ≤ 32 * length cs
unfolding prefix_sizes
sizes-at-most [] = omega arith
sizes-at-most (c ∷ cs) = go (eqb (family_of c.what) 4) (sizes-at-most cs)
  where
    go : (four : Bool) → prefix_sizes cs ≤ 32 * length cs → cond four 20 32 + prefix_sizes cs ≤ 32 * length (c ∷ cs)
    go true h = omega arith
    go false h = omega arith

end-at-most : (v : RtrProtocolVersion) → end_size v ≤ 24
end-at-most V0 = omega arith
end-at-most V1 = omega arith

-- 1,024 records: 32,800 bytes
pub full-at-most : (v : RtrProtocolVersion) (first second : List Record) → run_size LoadKind.Full v first second ≤ 32 + 32 * length second
full-at-most v first second =
    omega (arith, sizes-at-most (changes [] second), ap length (changes-from-none second), length-map second announce, end-at-most v)

-- 1,024 out and 1,024 in: 65,568 bytes
pub change-at-most : (v : RtrProtocolVersion) (first second : List Record) → run_size LoadKind.Change v first second ≤ 32 + 32 * (length first + length second)
change-at-most v first second = omega (arith, sizes-at-most (changes first second), changes-at-most first second, end-at-most v)

-- ---- so 9 does not come with as many bytes

pub full-never-short : (v : RtrProtocolVersion) (end : Table) (room : List ℕ) (count : ℕ) (out : List ℕ) → is_lent count room ≡ true → 32800 ≤ length out
    → (full_run_says v end room count out).says ≡ written (run_size LoadKind.Full v [] (records count room))
full-never-short v end room count out lent space =
    let t : List Record = records count room in
    let size = run_length LoadKind.Full v end [] t in
    let most = full-at-most v [] t in
    ap (λ (e : Encoded). e.says) (full-written v end room count out lent (omega (arith, size, most, records-length count room, lent-within count room lent))) ∙ ap written size

pub change-never-short : (v : RtrProtocolVersion) (end : Table) (first : List ℕ) (first_count : ℕ) (second : List ℕ) (second_count : ℕ) (out : List ℕ) →
    is_lent first_count first ≡ true →
    is_lent second_count second ≡ true →
    65568 ≤ length out →
    (change_run_says v end first first_count second second_count out).says ≡ written (run_size LoadKind.Change v (records first_count first) (records second_count second))
change-never-short v end first first_count second second_count out lent lent' space =
    let t : List Record = records first_count first in
    let u : List Record = records second_count second in
    let size = run_length LoadKind.Change v end t u in
    let fits : length (run_bytes LoadKind.Change v end t u) ≤ length out = omega (arith, size, change-at-most v t u, records-length first_count first, records-length second_count second, lent-within first_count first lent, lent-within second_count second lent') in
    ap (λ (e : Encoded). e.says) (change-written v end first first_count second second_count out lent lent' fits) ∙ ap written size
