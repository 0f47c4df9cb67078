-- A Router Key of version 0 is written (document 01, "Encoding"), and what is written is refused by 5 when it is read. Of the encoding the header's length is its own (`total-written`), byte 0 is 0 and byte 1 is 9, which
-- is a case of rtr_codec's page Refusals. Assumes nothing.
use Prim.Native.Nat.{ℕ, ◌≤◌}
use mathlib.Core.Bool.{true}
use mathlib.Core.List.{List, [], ◌∷◌, ◌++◌}
use mathlib.Core.Path.{◌≡◌, refl, ap, ◌∙◌}
use native.Mathlib.Omega.{arith}
use lib.ListN.{length, get_or, drop}
use Rattle.rtr_models.specs.Codes.{version_number}
use Rattle.rtr_models.specs.declared.RtrProtocolVersion.TheVariants.{V0}
use Rattle.rtr_models.specs.declared.RtrRouterKey.{RtrRouterKey}
use Rattle.rtr_models.specs.declared.RtrPdu.TheVariants.{RouterKey}
use Rattle.rtr_codec.specs.Bytes.{number}
use Rattle.rtr_codec.specs.Reading.{Reading}
use Rattle.rtr_codec.specs.Read.{read}
use Rattle.rtr_codec.specs.Read.Verdict.{refused}
use Rattle.rtr_codec.specs.Refusals.Refusal.{key_in_v0}
use Rattle.rtr_codec.proofs.Laws.{header_is, needed-large, read_behind}
use Rattle.rtr_codec.proofs.Refused.{refused-exactly}
use Rattle.rtr_encode.specs.Encode.{layout_of, given, values_in, behind, encoded_length, encoding, places_inside, encode}
use Rattle.rtr_encode.specs.Encode.Writing.{written}
use Rattle.rtr_encode.proofs.Laws.{encoded-length-is, encoding-is}
use Rattle.rtr_encode.proofs.Refused.{v0-key-written}
use Rattle.rtr_round.proofs.Bytes.{byte_at}
use Rattle.rtr_round.proofs.Fields.{total-at-4, fields-long}
use Rattle.rtr_round.proofs.Inside.{payloads-inside}
use Rattle.rtr_round.proofs.Written.{total-written}
use Rattle.rtr_round.proofs.RoundTrip.{length-encoding}

module _ (R : Reading) (p : RtrRouterKey) (s : List ℕ) (old : p.version ≡ V0) (places : places_inside (RouterKey p) s ≡ true) (small : encoded_length R (RouterKey p) ≤ 4294967295) where
  abbrev E : List ℕ
  E = encoding R (RouterKey p) s

  whole : length E ≡ encoded_length R (RouterKey p)
  whole = length-encoding R (RouterKey p) s places

  large : 8 ≤ encoded_length R (RouterKey p)
  large = omega (arith, encoded-length-is R (RouterKey p), fields-long 2 (layout_of R (RouterKey p)) (total-at-4 R (RouterKey p)))

  names : number E 4 4 ≡ encoded_length R (RouterKey p)
  names =
      total-written s E (behind (RouterKey p) s) (encoded_length R (RouterKey p)) (layout_of R (RouterKey p)) 2 (given (values_in (RouterKey p)))
      (version_number p.version ∷ 9 ∷ []) (payloads-inside R (RouterKey p) s places) (total-at-4 R (RouterKey p)) small refl (encoding-is R (RouterKey p) s)

  zero-first : number E 0 1 ≡ 0
  zero-first = byte_at E 0 ∙ ap (λ (l : List ℕ). get_or l 0 0) (encoding-is R (RouterKey p) s) ∙ ap version_number old

  nine-next : number E 1 1 ≡ 9
  nine-next = byte_at E 1 ∙ ap (λ (l : List ℕ). get_or l 1 0) (encoding-is R (RouterKey p) s)

  -- what is written of a Router Key of version 0 is refused by 5, whatever follows
  pub v0-key-unread : (rest : List ℕ) → read R (E ++ rest) ≡ refused 5 []
  v0-key-unread rest =
      read_behind R E rest (omega (arith, needed-large E (omega (arith, whole, large)), header_is E, names, whole))
      ∙ (refused-exactly R E 5 []).1
      (key_in_v0
      (((omega (arith, whole, large), omega (arith, names, whole)), omega (arith, zero-first)), omega (arith, nine-next), λ e. omega (arith, nine-next, e))
      zero-first nine-next)

  -- with room for it, it is written and then refused so
  pub v0-key-written-unread : (out : List ℕ) → encoded_length R (RouterKey p) ≤ length out
      → ((encode R (RouterKey p) s out).says ≡ written (encoded_length R (RouterKey p))) × (read R (encode R (RouterKey p) s out).out ≡ refused 5 [])
  v0-key-written-unread out room =
      let law = v0-key-written R p s out old places small room in
      (ap (λ (x : _). x.says) law, ap (λ (x : _). read R x.out) law ∙ v0-key-unread (drop (encoded_length R (RouterKey p)) out))
