-- What the bytes of one whole PDU do, whatever comes behind them: to a history they are that PDU (`told-by`), and to a receiver that listens and holds nothing they are `on_pdu` of it (`pdu-fed`). What `on_pdu`
-- then does, for each PDU that a load has, in every phase where it is due (`on-response`, `on-prefix`, `on-end`); and pieces fed one after another are one piece (`pieces-fed`). Over every limit and hold.
-- Assumes nothing.
use Rattle.std.proofs.Common.{◌≡◌, ℕ, ◌+◌, ◌<◌, ◌≤◌, Bool, true, false, cond, eqb, List, [], ◌∷◌, ◌++◌, length, sym, refl, ap, ◌∙◌, subst, append_assoc, arith, eq-eqb}
use Rattle.rtr_models.specs.Codes.{type_number, version_number}
use Rattle.rtr_models.specs.Values.{announces, type_of, version_of}
use Rattle.rtr_models.specs.declared.RtrPduType.{RtrPduType}
use Rattle.rtr_models.specs.declared.RtrCacheResponse.{RtrCacheResponse}
use Rattle.rtr_models.specs.declared.RtrIPv4Prefix.{RtrIPv4Prefix}
use Rattle.rtr_models.specs.declared.RtrIPv6Prefix.{RtrIPv6Prefix}
use Rattle.rtr_models.specs.declared.RtrEndOfData.{RtrEndOfData}
use Rattle.rtr_models.specs.declared.RtrPdu.{RtrPdu}
use Rattle.rtr_models.specs.declared.RtrPdu.TheVariants.{CacheResponse, IPv4Prefix, IPv6Prefix, EndOfData}
use Rattle.rtr_codec.specs.Reading.{in_use}
use Rattle.rtr_codec.specs.Read.{Verdict, read}
use Rattle.rtr_codec.proofs.Laws.{read-consumes}
use Rattle.rtr_stream.specs.Stream.{Heard, judge, longest}
use Rattle.rtr_stream.proofs.Laws.{joined, pdu-is-heard, front-waits}
use Rattle.rtr_room.specs.Table.{ipv4_record, ipv6_record}
use Rattle.rtr_receiver.specs.Contents.{Entry}
use Rattle.rtr_receiver.specs.Receiver.{Receiver, Deed, Feed, is_due, kind_in, session_in, no_update, holding, stop, on_cache_response, on_record, on_end_of_data, deed_of, on_kind, on_pdu, heard, listens, on_byte, on_piece, feed, together, feed_all}
use Rattle.rtr_receiver.specs.History.{Event, Item, items_by, items}
use Rattle.rtr_receiver.specs.Runs.{bytes}
use Rattle.rtr_receiver.proofs.Feeds.{from, pieces-join}
use Rattle.rtr_receiver.proofs.Receives.{piece-after}

-- these bytes, no more and no fewer, are a PDU that is listened to with a hold of H bytes
pub record IsPdu (H : ℕ) (s : List ℕ) (pdu : RtrPdu) : Type 0 where
  pub most : length s ≤ longest
  pub fits : length s ≤ H
  pub reads : read in_use s ≡ Verdict.accepted pdu (length s)

module _ (H : ℕ) where
  -- of bytes in hand and bytes to come that together are a PDU: one more in hand
  one_more : (s : List ℕ) (b : ℕ) (t : List ℕ) (pdu : RtrPdu) → IsPdu H (s ++ b ∷ t) pdu → IsPdu H ((s ++ b ∷ []) ++ t) pdu
  one_more s b t pdu is = subst (λ (x : List ℕ). IsPdu H x pdu) (sym (append_assoc s (b ∷ []) t)) is

  -- the last one makes it, and before that more are wanted
  last-makes : (s : List ℕ) (pdu : RtrPdu) → IsPdu H s pdu → judge in_use H s ≡ Heard.whole pdu
  last-makes s pdu is = pdu-is-heard in_use H s pdu is.most is.fits is.reads

  front-wants : (s t : List ℕ) (pdu : RtrPdu) → 0 < length t → IsPdu H (s ++ t) pdu → judge in_use H s ≡ Heard.waits
  front-wants s t pdu more is = front-waits in_use H s t pdu more is.most is.fits is.reads

  -- a PDU has bytes
  pub some_bytes : (s : List ℕ) (pdu : RtrPdu) → IsPdu H s pdu → 0 < length s
  some_bytes s pdu is = omega (arith, (read-consumes in_use s pdu (length s) is.reads).1)

  -- ---- To a history

  -- the bytes of a PDU, of which s are in hand and t are to come, come to it
  rest-told : (s t : List ℕ) (pdu : RtrPdu) → 0 < length t → IsPdu H (s ++ t) pdu → (es : List Event) → items H s (bytes t ++ es) ≡ Item.told pdu ∷ items H [] es
  unfolding items
  rest-told s [] pdu more is es = absurd (omega arith)
  rest-told s (b ∷ []) pdu more is es = ap (λ (h : Heard). items_by (s ++ b ∷ []) h (λ held. items H held es)) (last-makes (s ++ b ∷ []) pdu is)
  rest-told s (b ∷ c ∷ t) pdu more is es =
      let later = one_more s b (c ∷ t) pdu is in
      ap (λ (h : Heard). items_by (s ++ b ∷ []) h (λ held. items H held (bytes (c ∷ t) ++ es))) (front-wants (s ++ b ∷ []) (c ∷ t) pdu (omega arith) later)
      ∙ rest-told (s ++ b ∷ []) (c ∷ t) pdu (omega arith) later es

  -- the bytes of a PDU come to it
  pub told-by : (s : List ℕ) (pdu : RtrPdu) → IsPdu H s pdu → (es : List Event) → items H [] (bytes s ++ es) ≡ Item.told pdu ∷ items H [] es
  told-by s pdu is es = rest-told [] s pdu (some_bytes s pdu is) is es

  -- bytes that are cut off before the PDU's end come to nothing
  rest-cut : (s t u : List ℕ) (pdu : RtrPdu) → 0 < length u → IsPdu H (s ++ (t ++ u)) pdu → items H s (bytes t) ≡ []
  unfolding items
  rest-cut s [] u pdu more is = refl
  rest-cut s (b ∷ t) u pdu more is =
      let later = one_more s b (t ++ u) pdu is in
      ap (λ (h : Heard). items_by (s ++ b ∷ []) h (λ held. items H held (bytes t))) (front-wants (s ++ b ∷ []) (t ++ u) pdu (longer t u more) later)
      ∙ rest-cut (s ++ b ∷ []) t u pdu more later
    where
      longer : (t u : List ℕ) → 0 < length u → 0 < length (t ++ u)
      longer [] u more = more
      longer (x ∷ t) u more = omega arith

  pub cut_off : (t u : List ℕ) (pdu : RtrPdu) → 0 < length u → IsPdu H (t ++ u) pdu → items H [] (bytes t) ≡ []
  cut_off t u pdu more is = rest-cut [] t u pdu more is

  -- ---- To a receiver

  module _ (limit : ℕ) (r : Receiver) (on : listens r.stage ≡ true) (pdu : RtrPdu) where
    -- what the PDU does to it
    deed : Deed
    deed = on_pdu limit pdu (holding [] r)

    -- one byte, where it is known what the bytes in hand come to
    byte-fed : (s : List ℕ) (b taken updates : ℕ) (rest : List ℕ) (h : Heard) → judge in_use H (s ++ b ∷ []) ≡ h
        → on_piece limit H (from (holding s r) taken updates) (b ∷ rest) ≡ on_piece limit H (heard limit (taken + 1) updates (holding s r) (s ++ b ∷ []) h) rest
    unfolding on_piece on_byte
    byte-fed s b taken updates rest h j =
        (λ i. on_piece limit H (cond (on i) (heard limit (taken + 1) updates (holding s r) (s ++ b ∷ []) (judge in_use H (s ++ b ∷ []))) (from (holding s r) taken updates)) rest)
        ∙ ap (λ (x : Heard). on_piece limit H (heard limit (taken + 1) updates (holding s r) (s ++ b ∷ []) x) rest) j

    -- the bytes of a PDU, of which s are held and t are to come
    rest-fed : (s t rest : List ℕ) (taken updates : ℕ) → 0 < length t → IsPdu H (s ++ t) pdu
        → on_piece limit H (from (holding s r) taken updates) (t ++ rest) ≡ on_piece limit H (from deed.then (taken + length t) (updates + deed.updates)) rest
    unfolding deed
    rest-fed s [] rest taken updates more is = absurd (omega arith)
    rest-fed s (b ∷ []) rest taken updates more is = byte-fed s b taken updates rest (Heard.whole pdu) (last-makes (s ++ b ∷ []) pdu is)
    rest-fed s (b ∷ c ∷ t) rest taken updates more is =
        let later = one_more s b (c ∷ t) pdu is in
        let all : taken + 1 + length (c ∷ t) ≡ taken + length (b ∷ c ∷ t) = omega arith in
        byte-fed s b taken updates ((c ∷ t) ++ rest) Heard.waits (front-wants (s ++ b ∷ []) (c ∷ t) pdu (omega arith) later)
        ∙ rest-fed (s ++ b ∷ []) (c ∷ t) rest (taken + 1) updates (omega arith) later
        ∙ ap (λ (n : ℕ). on_piece limit H (from (on_pdu limit pdu (holding [] r)).then n (updates + (on_pdu limit pdu (holding [] r)).updates)) rest) all

  -- a receiver that listens and holds nothing takes the bytes of a PDU as that PDU, and goes on with what is behind them
  pub pdu-fed : (limit : ℕ) (r : Receiver) (taken updates : ℕ) (s rest : List ℕ) (pdu : RtrPdu) → listens r.stage ≡ true → r.held ≡ [] → IsPdu H s pdu
      → on_piece limit H (from r taken updates) (s ++ rest) ≡ on_piece limit H (from (on_pdu limit pdu r).then (taken + length s) (updates + (on_pdu limit pdu r).updates)) rest
  unfolding deed
  pdu-fed limit r taken updates s rest pdu on none is =
      let empty : holding [] r ≡ r = ap (λ (x : List ℕ). holding x r) (sym none) in
      ap (λ (x : Receiver). on_piece limit H (from x taken updates) (s ++ rest)) (sym empty)
      ∙ rest-fed limit r on pdu [] s rest taken updates (some_bytes s pdu is) is
      ∙ ap (λ (x : Receiver). on_piece limit H (from (on_pdu limit pdu x).then (taken + length s) (updates + (on_pdu limit pdu x).updates)) rest) empty

-- ---- What a PDU does

-- both ways to it, where the tests before it hold
tested : (is_report of_version due : Bool) (d x y : Deed) → of_version ≡ true → due ≡ true → cond is_report d (cond of_version (cond due d x) y) ≡ d
tested true v t d x y e q = refl
tested false v t d x y e q = (λ i. cond (e i) (cond (q i) d x) y)

-- of the receiver's version, in its turn: what `deed_of` says
pub on-turn : (limit : ℕ) (pdu : RtrPdu) (r : Receiver) → version_of pdu ≡ r.version → is_due (type_of pdu) r.stage ≡ true → on_pdu limit pdu r ≡ deed_of limit pdu r
unfolding on_pdu on_kind
on-turn limit pdu r v due =
    tested (eqb (type_number (type_of pdu)) (type_number RtrPduType.ErrorReport)) (eqb (version_number (version_of pdu)) (version_number r.version)) (is_due (type_of pdu) r.stage) (deed_of limit pdu r)
    (no_update (stop 13 [] r)) (no_update (stop 14 [] r)) (eq-eqb (version_number (version_of pdu)) (version_number r.version) (ap version_number v)) due

-- a Cache Response begins the load that was asked for
pub on-response : (limit : ℕ) (p : RtrCacheResponse) (r : Receiver) → p.version ≡ r.version → is_due RtrPduType.CacheResponse r.stage ≡ true
    → on_pdu limit (CacheResponse p) r ≡ no_update (on_cache_response (kind_in r.stage) p.session_id r)
unfolding deed_of
on-response limit p r v due = on-turn limit (CacheResponse p) r v due

-- a PDU is a prefix, of either family, that announces or withdraws an entry
pub data Prefixes : RtrPdu → Bool → Entry → Type 0 where
  ipv4 : (p : RtrIPv4Prefix) → Prefixes (IPv4Prefix p) (announces p.flags) (ipv4_record p.prefix_length p.max_length p.prefix p.asn)
  ipv6 : (p : RtrIPv6Prefix) →
      Prefixes (IPv6Prefix p) (announces p.flags) (ipv6_record p.prefix_length p.max_length p.prefix.w0 p.prefix.w1 p.prefix.w2 p.prefix.w3 p.asn)

-- it enters or leaves the working table
pub on-prefix : (limit : ℕ) (pdu : RtrPdu) (announced : Bool) (x : Entry) (r : Receiver) → Prefixes pdu announced x → version_of pdu ≡ r.version → is_due (type_of pdu) r.stage ≡ true
    → on_pdu limit pdu r ≡ no_update (on_record limit announced x r)
unfolding deed_of
on-prefix limit pdu announced x r (Prefixes.ipv4 p) v due = on-turn limit (IPv4Prefix p) r v due
on-prefix limit pdu announced x r (Prefixes.ipv6 p) v due = on-turn limit (IPv6Prefix p) r v due

-- an End of Data finishes the update, or is of another session (15)
pub on-end : (limit : ℕ) (p : RtrEndOfData) (r : Receiver) → p.version ≡ r.version → is_due RtrPduType.EndOfData r.stage ≡ true
    → on_pdu limit (EndOfData p) r ≡ on_end_of_data (session_in r.stage) p r
unfolding deed_of
on-end limit p r v due = on-turn limit (EndOfData p) r v due

-- ---- Pieces

module _ (limit H : ℕ) where
  -- a feed begins with nothing taken and no update
  pub feed-from : (r : Receiver) (piece : List ℕ) → feed limit H r piece ≡ on_piece limit H (from r 0 0) piece
  unfolding feed
  feed-from r piece = refl

  -- no bytes do nothing
  pub none-fed : (f : Feed) → on_piece limit H f [] ≡ f
  unfolding on_piece
  none-fed f = refl

  -- pieces fed one after another are one piece: where they were cut changes nothing
  pub pieces-fed : (pieces : List (List ℕ)) (r : Receiver) → feed_all limit H r pieces ≡ feed limit H r (joined pieces)
  unfolding feed_all feed on_piece
  pieces-fed [] r = refl
  pieces-fed (piece ∷ pieces) r =
      let f : Feed = on_piece limit H (from r 0 0) piece in
      ap (together f) (pieces-fed pieces f.receiver)
      ∙ sym (pieces-join limit H piece (joined pieces) (from r 0 0) ∙ piece-after limit H (joined pieces) f)
