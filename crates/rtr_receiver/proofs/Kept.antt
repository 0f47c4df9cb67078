-- What every PDU keeps, whatever the receiver: its version for life; an empty hold; a stop is by 13 to 19; and the one update that a phase can still give in a feed is given once, since a load begins
-- by an ask alone. From there what a feed keeps: bytes are taken one by one, a stop takes those up to the one that made it, one update finishes at the most. Assumes nothing.
use Rattle.std.specs.Prelude.{Option, Some, None}
use Rattle.std.proofs.Common.{◌≡◌, ℕ, suc, ◌+◌, ◌<◌, ◌≤◌, Bool, true, false, cond, eqb, ◌⊎◌, List, [], ◌∷◌, ◌++◌, length, take, sym, refl, ap, ◌∙◌, subst, inl, inr, arith, le-leb}
use mathlib.Core.Bool.{false≢true}
use Rattle.rtr_models.specs.Values.{announces, type_of}
use Rattle.rtr_models.specs.declared.RtrEndOfData.{RtrEndOfData}
use Rattle.rtr_models.specs.declared.RtrPduType.{RtrPduType}
use Rattle.rtr_models.specs.declared.RtrPdu.{RtrPdu}
use Rattle.rtr_models.specs.declared.RtrPdu.TheVariants.{SerialNotify, SerialQuery, ResetQuery, CacheResponse, IPv4Prefix, IPv6Prefix, EndOfData, CacheReset, RouterKey, ErrorReport}
use Rattle.rtr_codec.specs.Reading.{in_use}
use Rattle.rtr_stream.specs.Stream.{Heard, judge}
use Rattle.rtr_stream.proofs.Laws.{stop-numbers}
use Rattle.rtr_room.specs.Table.{Change, enter, leave}
use Rattle.rtr_room.specs.declared.Record.{Record}
use Rattle.rtr_room.proofs.Laws.{enter-refuses, leave-refuses}
use Rattle.rtr_receiver.specs.Receiver.{Stage, Receiver, Deed, Feed, is_stop, is_due, kind_in, session_in, holding, stop, no_update, on_change_response, on_cache_response, changed_to, on_record, finish, on_end_of_data, deed_of, on_pdu, heard, listens, on_byte, on_piece}
use Rattle.rtr_receiver.specs.Receiver.Stage.{idle, must_reset, asked_full, asked_change, loading, stopped}
use Rattle.rtr_receiver.specs.declared.LoadKind.{LoadKind}
use Rattle.rtr_receiver.proofs.Feeds.{stopped-takes-none}
use Rattle.rtr_receiver.proofs.Turns.{pdu-by}
use Rattle.rtr_receiver.specs.declared.Table.{Table}

-- how many updates a phase can still give before the next ask
abbrev pub to_come : Stage → ℕ
to_come idle = 0
to_come must_reset = 0
to_come asked_full = 1
to_come asked_change = 1
to_come (loading kind session) = 1
to_come (stopped number values) = 0

-- a stop's number is document 01's
abbrev pub stops_rightly : Stage → Bool
stops_rightly idle = true
stops_rightly must_reset = true
stops_rightly asked_full = true
stops_rightly asked_change = true
stops_rightly (loading kind session) = true
stops_rightly (stopped number values) = is_stop number

-- a stop clears the held bytes and the working table; it keeps the live table with its session, serial and intervals, and the note
abbrev pub Cleared : Receiver → Receiver → Type 0
Cleared r r' = (r'.held ≡ []) × (r'.working ≡ []) × (r'.live ≡ r.live) × (r'.table ≡ r.table) × (r'.note ≡ r.note)

-- a receiver that listens has not stopped
listens-still : {A : Type 0} (stage stage' : Stage) → stage' ≡ stage → listens stage ≡ true → listens stage' ≡ false → A
listens-still stage stage' s on off = absurd (let z : true ≡ false = sym on ∙ sym (ap listens s) ∙ off in let o : ◌≡◌ {A = ℕ} 0 1 = cc in omega arith)

-- what a deed keeps of the receiver before it
pub record Keeps (r : Receiver) (d : Deed) : Type 0 where
  pub version : d.then.version ≡ r.version
  pub held : r.held ≡ [] → d.then.held ≡ []
  pub spends : d.updates + to_come d.then.stage ≤ to_come r.stage
  pub rightly : stops_rightly r.stage ≡ true → stops_rightly d.then.stage ≡ true
  pub clears : listens r.stage ≡ true → listens d.then.stage ≡ false → Cleared r d.then

stop-keeps : (k : ℕ) (x : List ℕ) (r : Receiver) → is_stop k ≡ true → Keeps r (no_update (stop k x r))
stop-keeps k x r e = record { version = refl; held = λ _. refl; spends = omega arith; rightly = λ _. e; clears = λ _ _. (refl, refl, refl, refl, refl) }

-- a deed that leaves phase, version and hold
same-keeps : (r r' : Receiver) → r'.version ≡ r.version → r'.held ≡ r.held → r'.stage ≡ r.stage → Keeps r (no_update r')
same-keeps r r' v h s =
    let c : to_come r'.stage ≡ to_come r.stage = ap to_come s in
    record { version = v; held = λ e. h ∙ e; spends = omega arith; rightly = λ e. ap stops_rightly s ∙ e; clears = λ on off. listens-still r.stage r'.stage s on off }

-- an answer is due where its update is still to come
response-to-come : (stage : Stage) → is_due RtrPduType.CacheResponse stage ≡ true → to_come stage ≡ 1
response-to-come idle due = absurd (false≢true due)
response-to-come must_reset due = absurd (false≢true due)
response-to-come asked_full due = refl
response-to-come asked_change due = refl
response-to-come (loading kind session) due = refl
response-to-come (stopped number values) due = absurd (false≢true due)

end-to-come : (stage : Stage) → is_due RtrPduType.EndOfData stage ≡ true → to_come stage ≡ 1
end-to-come idle due = absurd (false≢true due)
end-to-come must_reset due = absurd (false≢true due)
end-to-come asked_full due = refl
end-to-come asked_change due = refl
end-to-come (loading kind session) due = refl
end-to-come (stopped number values) due = absurd (false≢true due)

response-keeps : (session : ℕ) (r : Receiver) (kind : LoadKind) → to_come r.stage ≡ 1 → Keeps r (no_update (on_cache_response kind session r))
response-keeps session r LoadKind.Full c =
    record { version = refl; held = λ h. h; spends = omega arith; rightly = λ _. refl; clears = λ on off. absurd (let z : ◌≡◌ {A = ℕ} 0 1 = cc in omega arith) }
response-keeps session r LoadKind.Change c = table r.table
  where
    go : (b : Bool) → Keeps r (no_update (cond b (record { version = r.version; stage = loading LoadKind.Change session; table = r.table; note = r.note; live = r.live; working = r.live; held = r.held }) (stop 15 [] r)))
    go true =
        record { version = refl; held = λ h. h; spends = omega arith; rightly = λ _. refl; clears = λ on off. absurd (let z : ◌≡◌ {A = ℕ} 0 1 = cc in omega arith) }
    go false = stop-keeps 15 [] r refl

    table : (t : Option Table) → Keeps r (no_update (on_change_response t session r))
    table None = stop-keeps 15 [] r refl
    table (Some t) = go (eqb session t.session)

module _ (limit : ℕ) where
  changed-keeps : (c : Change) (r : Receiver) → ((n : ℕ) → c ≡ Change.refused n → is_stop n ≡ true) → Keeps r (no_update (changed_to c r))
  changed-keeps (Change.changed t) r f = same-keeps r _ refl refl refl
  changed-keeps (Change.refused n) r f = stop-keeps n [] r (f n refl)

  entering : (record₀ : Record) (t : List Record) (n : ℕ) → enter limit record₀ t ≡ Change.refused n → is_stop n ≡ true
  entering record₀ t n e = go (enter-refuses limit n record₀ t e)
    where
      go : (n ≡ 17) ⊎ (n ≡ 18) → is_stop n ≡ true
      go (inl q) = ap is_stop q
      go (inr q) = ap is_stop q

  record-keeps : (announced : Bool) (record₀ : Record) (r : Receiver) → Keeps r (no_update (on_record limit announced record₀ r))
  record-keeps true record₀ r = changed-keeps (enter limit record₀ r.working) r (entering record₀ r.working)
  record-keeps false record₀ r = changed-keeps (leave record₀ r.working) r (λ n e. ap is_stop (leave-refuses n record₀ r.working e))

  end-keeps : (p : RtrEndOfData) (r : Receiver) (session : ℕ) → to_come r.stage ≡ 1 → Keeps r (on_end_of_data session p r)
  end-keeps p r session c = go (eqb p.session_id session)
    where
      go : (b : Bool) → Keeps r (cond b (record { then = finish p r; updates = 1 }) (no_update (stop 15 [] r)))
      go true =
          record { version = refl; held = λ h. h; spends = omega arith; rightly = λ _. refl; clears = λ on off. absurd (let z : ◌≡◌ {A = ℕ} 0 1 = cc in omega arith) }
      go false = stop-keeps 15 [] r refl

  -- what a PDU does where it is due
  deed-keeps : (pdu : RtrPdu) (r : Receiver) → is_due (type_of pdu) r.stage ≡ true → Keeps r (deed_of limit pdu r)
  unfolding deed_of
  deed-keeps (SerialNotify p) r due = same-keeps r _ refl refl refl
  deed-keeps (SerialQuery p) r due = same-keeps r r refl refl refl
  deed-keeps (ResetQuery p) r due = same-keeps r r refl refl refl
  deed-keeps (CacheResponse p) r due = response-keeps p.session_id r (kind_in r.stage) (response-to-come r.stage due)
  deed-keeps (IPv4Prefix p) r due = record-keeps (announces p.flags) _ r
  deed-keeps (IPv6Prefix p) r due = record-keeps (announces p.flags) _ r
  deed-keeps (EndOfData p) r due = end-keeps p r (session_in r.stage) (end-to-come r.stage due)
  deed-keeps (CacheReset p) r due =
      record { version = refl; held = λ h. h; spends = omega arith; rightly = λ _. refl; clears = λ on off. absurd (let z : ◌≡◌ {A = ℕ} 0 1 = cc in omega arith) }
  deed-keeps (RouterKey p) r due = same-keeps r r refl refl refl
  deed-keeps (ErrorReport p) r due = stop-keeps 19 _ r refl

  pub pdu-keeps : (pdu : RtrPdu) (r : Receiver) → Keeps r (on_pdu limit pdu r)
  pdu-keeps pdu r = pdu-by limit r (Keeps r) pdu (λ _ x. stop-keeps 19 x r refl) (λ _. stop-keeps 14 [] r refl) (λ _. stop-keeps 13 [] r refl) (λ _ due. deed-keeps pdu r due)

  -- a PDU leaves nothing held
  pub told-drops : (pdu : RtrPdu) (r : Receiver) → (on_pdu limit pdu (holding [] r)).then.held ≡ []
  told-drops pdu r = (pdu-keeps pdu (holding [] r)).held refl

  -- ---- what a byte keeps, and a piece

  -- version and stops' numbers; and updates finished with those to come do not grow
  pub record Keeping (f f' : Feed) : Type 0 where
    pub version : f'.receiver.version ≡ f.receiver.version
    pub spends : f'.updates + to_come f'.receiver.stage ≤ f.updates + to_come f.receiver.stage
    pub rightly : stops_rightly f.receiver.stage ≡ true → stops_rightly f'.receiver.stage ≡ true

  module _ (H : ℕ) where
    by-heard : (f : Feed) (s : List ℕ) (h : Heard) → judge in_use H s ≡ h → Keeping f (heard limit (f.taken + 1) f.updates f.receiver s h)
    by-heard f s Heard.waits j = record { version = refl; spends = omega arith; rightly = λ e. e }
    by-heard f s (Heard.whole pdu) j =
        let k = pdu-keeps pdu (holding [] f.receiver) in
        record { version = k.version; spends = omega (arith, k.spends); rightly = k.rightly }
    by-heard f s (Heard.refused number values) j = record { version = refl; spends = omega arith; rightly = λ _. go (stop-numbers in_use H s number values j) }
      where
        go : ((2 ≤ number) × (number ≤ 8)) ⊎ (number ≡ 12) → is_stop number ≡ true
        go (inl range) = simp (le-leb 2 number range.0, le-leb number 8 range.1)
        go (inr twelve) = ap is_stop twelve

    byte-keeps : (f : Feed) (b : ℕ) → Keeping f (on_byte limit H f b)
    unfolding on_byte
    byte-keeps f b = go (listens f.receiver.stage)
      where
        s : List ℕ
        s = f.receiver.held ++ b ∷ []

        go : (t : Bool) → Keeping f (cond t (heard limit (f.taken + 1) f.updates f.receiver s (judge in_use H s)) f)
        go true = by-heard f s (judge in_use H s) refl
        go false = record { version = refl; spends = omega arith; rightly = λ e. e }

    pub piece-keeps : (piece : List ℕ) (f : Feed) → Keeping f (on_piece limit H f piece)
    unfolding on_piece
    piece-keeps [] f = record { version = refl; spends = omega arith; rightly = λ e. e }
    piece-keeps (b ∷ piece) f =
        let one = byte-keeps f b in
        let rest = piece-keeps piece (on_byte limit H f b) in
        record { version = rest.version ∙ one.version; spends = omega (arith, one.spends, rest.spends); rightly = λ e. rest.rightly (one.rightly e) }

    -- ---- where a piece stops

    -- a receiver that listens takes a byte
    byte-taken : (f : Feed) (b : ℕ) → listens f.receiver.stage ≡ true → (on_byte limit H f b).taken ≡ f.taken + 1
    unfolding on_byte
    byte-taken f b on = ap (λ (t : Bool). (cond t (heard limit (f.taken + 1) f.updates f.receiver s (judge in_use H s)) f).taken) on ∙ go (judge in_use H s)
      where
        s : List ℕ
        s = f.receiver.held ++ b ∷ []

        go : (h : Heard) → (heard limit (f.taken + 1) f.updates f.receiver s h).taken ≡ f.taken + 1
        go Heard.waits = refl
        go (Heard.whole pdu) = refl
        go (Heard.refused number values) = refl

    -- the byte that stops clears
    byte-clears : (f : Feed) (b : ℕ) → listens f.receiver.stage ≡ true → listens (on_byte limit H f b).receiver.stage ≡ false → Cleared f.receiver (on_byte limit H f b).receiver
    unfolding on_byte
    byte-clears f b on off = go (listens f.receiver.stage) on off
      where
        s : List ℕ
        s = f.receiver.held ++ b ∷ []

        by : (h : Heard) → listens (heard limit (f.taken + 1) f.updates f.receiver s h).receiver.stage ≡ false → Cleared f.receiver (heard limit (f.taken + 1) f.updates f.receiver s h).receiver
        by Heard.waits off = listens-still f.receiver.stage f.receiver.stage refl on off
        by (Heard.whole pdu) off = (pdu-keeps pdu (holding [] f.receiver)).clears on off
        by (Heard.refused number values) off = (refl, refl, refl, refl, refl)

        go : (t : Bool) →
            t ≡ true →
            listens (cond t (heard limit (f.taken + 1) f.updates f.receiver s (judge in_use H s)) f).receiver.stage ≡ false →
            Cleared f.receiver (cond t (heard limit (f.taken + 1) f.updates f.receiver s (judge in_use H s)) f).receiver
        go true e off = by (judge in_use H s) off
        go false e off = absurd (let z : ◌≡◌ {A = ℕ} 0 1 = cc in omega arith)

    -- a piece is listened to whole, or up to the byte that makes the stop: before it the receiver listens, behind it nothing is taken
    pub data Through (f : Feed) (piece : List ℕ) : Type 0 where
      whole : listens (on_piece limit H f piece).receiver.stage ≡ true → (on_piece limit H f piece).taken ≡ f.taken + length piece → Through f piece
      stops : (k : ℕ) →
          k < length piece →
          listens (on_piece limit H f (take k piece)).receiver.stage ≡ true →
          on_piece limit H f (take (suc k) piece) ≡ on_piece limit H f piece →
          (on_piece limit H f piece).taken ≡ f.taken + suc k →
          listens (on_piece limit H f piece).receiver.stage ≡ false →
          Cleared (on_piece limit H f (take k piece)).receiver (on_piece limit H f piece).receiver →
          Through f piece

    pub through : (piece : List ℕ) (f : Feed) → listens f.receiver.stage ≡ true → Through f piece
    unfolding on_piece
    through [] f on = whole on (omega arith)
    through (b ∷ piece) f on = go (listens (on_byte limit H f b).receiver.stage) refl (through piece (on_byte limit H f b))
      where
        f' : Feed
        f' = on_byte limit H f b

        later : Through f' piece → Through f (b ∷ piece)
        later (Through.whole e t) = whole e (omega (arith, byte-taken f b on, t))
        later (Through.stops k less before same t off clear) = stops (suc k) (omega arith) before same (omega (arith, byte-taken f b on, t)) off clear

        go : (t : Bool) → listens f'.receiver.stage ≡ t → (listens f'.receiver.stage ≡ true → Through f' piece) → Through f (b ∷ piece)
        go true e rest = later (rest e)
        go false e rest =
            let stays : on_piece limit H f' piece ≡ f' = stopped-takes-none limit H piece f' e in
            stops 0 (omega arith) on (sym stays) (ap (λ (x : Feed). x.taken) stays ∙ byte-taken f b on) (ap (λ (x : Feed). listens x.receiver.stage) stays ∙ e)
            (subst (λ (x : Feed). Cleared f.receiver x.receiver) (sym stays) (byte-clears f b on e))
