-- What stands in a run, and how long it is: the first PDU, both sides, the last PDU. Assumes nothing.
use Prim.Native.Nat.{ℕ, ◌+◌}
use mathlib.Core.Bool.{Bool, true, false}
use mathlib.Core.List.{List, [], ◌∷◌, ◌++◌, map, map-append, append_assoc, append-nil}
use mathlib.Core.Path.{◌≡◌, refl, sym, ap, ◌∙◌}
use native.Mathlib.Omega.{arith}
use lib.ListN.{length, length-append}
use Rattle.rtr_models.specs.declared.RtrProtocolVersion.{RtrProtocolVersion}
use Rattle.rtr_models.specs.declared.RtrPdu.{RtrPdu}
use Rattle.rtr_codec.specs.Reading.{in_use}
use Rattle.rtr_encode.specs.Encode.{encoding}
use Rattle.rtr_room.specs.declared.Record.{Record}
use Rattle.rtr_receiver.specs.History.{Changed}
use Rattle.rtr_receiver.specs.declared.LoadKind.{LoadKind}
use Rattle.rtr_receiver.specs.declared.Table.{Table}
use Rattle.rtr_changes.specs.Changes.{without, changes}
use Rattle.rtr_changes.proofs.Laws.{changes-are}
use Rattle.rtr_cache.specs.Cache.{sent_response, sent_prefix, sent_end, run_pdus, encodings, run_bytes}
use Rattle.rtr_cache.specs.Private.{sided, side_bytes}
use Rattle.rtr_cache.proofs.NoPayload.{response-long}

-- the bytes of each PDU
abbrev pub response_part : RtrProtocolVersion → Table → List ℕ
response_part v end = encoding in_use (sent_response v end.session) []

abbrev pub prefix_part : RtrProtocolVersion → Bool → Record → List ℕ
prefix_part v announced r = encoding in_use (sent_prefix v (sided announced r)) []

abbrev pub end_part : RtrProtocolVersion → Table → List ℕ
end_part v end = encoding in_use (sent_end v end) []

pub encodings-append : (ps qs : List RtrPdu) → encodings (ps ++ qs) ≡ encodings ps ++ encodings qs
unfolding encodings
encodings-append [] qs = refl
encodings-append (p ∷ ps) qs =
    ap (λ (b : List ℕ). encoding in_use p [] ++ b) (encodings-append ps qs) ∙ sym (append_assoc (encoding in_use p []) (encodings ps) (encodings qs))

module _ (v : RtrProtocolVersion) where
  -- ---- one side

  module _ (announced : Bool) (s t : List Record) where
    pub side-none : without s t ≡ [] → side_bytes v announced s t ≡ []
    unfolding side_bytes encodings
    side-none e = ap (λ (u : List Record). encodings (map (sent_prefix v) (map (sided announced) u))) e

    pub side-next : (s' : List Record) (r : Record) → without s t ≡ r ∷ without s' t → side_bytes v announced s t ≡ prefix_part v announced r ++ side_bytes v announced s' t
    unfolding side_bytes encodings
    side-next s' r e = ap (λ (u : List Record). encodings (map (sent_prefix v) (map (sided announced) u))) e

  -- ---- both

  -- all changes are both sides
  both-sides : (s t : List Record) → encodings (map (sent_prefix v) (changes s t)) ≡ side_bytes v false s t ++ side_bytes v true t s
  unfolding side_bytes
  both-sides s t =
      let gone : List Changed = map (sided false) (without s t) in
      let come : List Changed = map (sided true) (without t s) in
      ap (λ (cs : List Changed). encodings (map (sent_prefix v) cs)) (changes-are s t)
      ∙ ap encodings (map-append (sent_prefix v) gone come)
      ∙ encodings-append (map (sent_prefix v) gone) (map (sent_prefix v) come)

  module _ (end : Table) (s t : List Record) where
    pub run_is : run_bytes LoadKind.Change v end s t ≡ response_part v end ++ side_bytes v false s t ++ side_bytes v true t s ++ end_part v end
    unfolding run_bytes run_pdus encodings
    run_is =
        ap (λ (b : List ℕ). response_part v end ++ b)
        (encodings-append (map (sent_prefix v) (changes s t)) (sent_end v end ∷ [])
        ∙ (λ i. both-sides s t i ++ append-nil (end_part v end) i)
        ∙ append_assoc (side_bytes v false s t) (side_bytes v true t s) (end_part v end))
        ∙ sym (append_assoc (response_part v end) (side_bytes v false s t) (side_bytes v true t s ++ end_part v end))
        ∙ sym (append_assoc (response_part v end ++ side_bytes v false s t) (side_bytes v true t s) (end_part v end))

    pub run_long : length (run_bytes LoadKind.Change v end s t) ≡ 8 + length (side_bytes v false s t) + length (side_bytes v true t s) + length (end_part v end)
    run_long = ap length run_is ∙ simp length-append (omega (arith, response-long v end.session))

    -- so as long as the first PDU and the lengths that were counted of the other parts
    pub run_needs : (gone come last : ℕ) → gone ≡ length (side_bytes v false s t) → come ≡ length (side_bytes v true t s) → last ≡ length (end_part v end)
        → length (run_bytes LoadKind.Change v end s t) ≡ 8 + gone + come + last
    run_needs gone come last e f g = omega (arith, run_long)
