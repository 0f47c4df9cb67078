-- The PDUs of a run can be sent and are read back as they are: `Sendable`, of each kind that a run has. So its bytes are heard as that PDU (`sendable-heard`). Assumes nothing.
use Prim.Native.Nat.{ℕ, ◌≤◌, ◌<◌}
use mathlib.Core.Bool.{Bool, true, false, cond}
use mathlib.Core.List.{List, [], ◌∷◌, ◌++◌, map, append-nil}
use mathlib.Core.Logic.{◌⊎◌, inl, inr}
use mathlib.Core.Path.{◌≡◌, refl, sym, ap, ◌∙◌, subst}
use native.Mathlib.Omega.{arith}
use borrow.Author.Tests.{leb-true}
use lib.Dec.{eqb, leb}
use lib.ListN.{length}
use Rattle.rtr_models.specs.Values.{announces, type_of, version_of}
use Rattle.rtr_models.specs.declared.RtrProtocolVersion.{RtrProtocolVersion}
use Rattle.rtr_models.specs.declared.RtrProtocolVersion.TheVariants.{V0, V1}
use Rattle.rtr_models.specs.declared.RtrPdu.{RtrPdu}
use Rattle.rtr_codec.specs.Reading.{in_use}
use Rattle.rtr_codec.specs.Read.{read}
use Rattle.rtr_codec.specs.Read.Verdict.{accepted}
use Rattle.rtr_encode.specs.Encode.{layout_of, given, values_in, encoded_length, encoding}
use Rattle.rtr_round.specs.RoundTrip.{ValuesFit, KindInRule, InRule, read_back}
use Rattle.rtr_round.proofs.RoundTrip.{read-of-encode}
use Rattle.rtr_room.specs.Table.{family_of, prefix_of, max_of, in_rule, is_table, is_in, WordsFit, AllFit}
use Rattle.rtr_room.specs.declared.Record.{Record}
use Rattle.rtr_room.proofs.Laws.{ipv4-in-rule, in-rule-four, of-family-six, in-rule-family, in-rule-lengths, table-next}
use Rattle.rtr_room.proofs.Laws.Tests.{second-of}
use Rattle.rtr_receiver.specs.Fits.{TableNumbersFit}
use Rattle.rtr_receiver.specs.History.{Changed}
use Rattle.rtr_receiver.specs.Receiver.{Stage, is_due}
use Rattle.rtr_receiver.specs.declared.LoadKind.{LoadKind}
use Rattle.rtr_receiver.specs.declared.Table.{Table}
use Rattle.rtr_receiver.proofs.Whole.{IsPdu, Prefixes}
use Rattle.rtr_changes.specs.Changes.{without, withdraw, announce, changes}
use Rattle.rtr_changes.proofs.Laws.{none-without, without-shared, without-only, without-table, changes-are}
use Rattle.rtr_cache.specs.Cache.{sent_response, flags_of, sent_ipv4, sent_ipv6, sent_prefix, sent_end}
use Rattle.rtr_cache.proofs.NoPayload.{NoPayload, no-payload-response, no-payload-ipv4, no-payload-ipv6, no-payload-end}

-- a PDU that can be sent and is read back as it is: it has no payload, its values fit their fields, and its kind's rules hold
pub record Sendable (pdu : RtrPdu) : Type 0 where
  pub no_payload : NoPayload pdu
  pub fits : ValuesFit (layout_of in_use pdu) (given (values_in pdu))
  pub kind : KindInRule in_use pdu
  pub same : read_back in_use pdu ≡ pdu

pub in-rule : (pdu : RtrPdu) → Sendable pdu → InRule in_use pdu []
in-rule pdu s = record { fits = s.fits; places = s.no_payload.places; text = s.no_payload.text; short = omega (arith, s.no_payload.short); kind = s.kind }

-- it is read back from the front of any bytes
pub sendable-read : (pdu : RtrPdu) (rest : List ℕ) → Sendable pdu → read in_use (encoding in_use pdu [] ++ rest) ≡ accepted pdu (length (encoding in_use pdu []))
sendable-read pdu rest s = read-of-encode in_use pdu [] rest (in-rule pdu s) ∙ (λ i. accepted (s.same i) (sym s.no_payload.long i))

-- with a hold that it fits, its bytes are heard as it
pub sendable-heard : (H : ℕ) (pdu : RtrPdu) → Sendable pdu → encoded_length in_use pdu ≤ H → IsPdu H (encoding in_use pdu []) pdu
sendable-heard H pdu s fits =
    record {
      most = omega (arith, s.no_payload.long, s.no_payload.short);
      fits = omega (arith, s.no_payload.long, fits);
      reads = ap (read in_use) (sym (append-nil (encoding in_use pdu []))) ∙ sendable-read pdu [] s;
    }

-- ---- the kinds

pub response-sendable : (v : RtrProtocolVersion) (session : ℕ) → session ≤ 65535 → Sendable (sent_response v session)
response-sendable v session fits = record { no_payload = no-payload-response v session; fits = (omega arith, tt); kind = tt; same = refl }

pub end-sendable : (v : RtrProtocolVersion) (end : Table) → TableNumbersFit end → Sendable (sent_end v end)
end-sendable V0 end fit = record { no_payload = no-payload-end V0 end; fits = (omega (arith, fit.session), (omega (arith, fit.serial), tt)); kind = tt; same = refl }
end-sendable V1 end fit =
    record {
      no_payload = no-payload-end V1 end;
      fits = (omega (arith, fit.session), (omega (arith, fit.serial), (omega (arith, fit.refresh), (omega (arith, fit.retry), (omega (arith, fit.expire), tt)))));
      kind = tt;
      same = refl;
    }

-- flags are one byte
flags-small : (announced : Bool) → flags_of announced < 256
flags-small true = omega arith
flags-small false = omega arith

module _ (v : RtrProtocolVersion) (announced : Bool) (r : Record) (words : WordsFit r) (lengths : prefix_of r ≤ max_of r) where
  ipv4-sendable : max_of r ≤ 32 → Sendable (sent_ipv4 v (flags_of announced) r)
  ipv4-sendable most =
      record {
        no_payload = no-payload-ipv4 v (flags_of announced) r;
        fits = (flags-small announced, (omega arith, (omega arith, (omega (arith, words.w0), (omega (arith, words.asn), tt)))));
        kind = (lengths, most);
        same = refl;
      }

  ipv6-sendable : max_of r ≤ 128 → Sendable (sent_ipv6 v (flags_of announced) r)
  ipv6-sendable most =
      record {
        no_payload = no-payload-ipv6 v (flags_of announced) r;
        fits = (
          flags-small announced,
          (omega arith, (omega arith, (omega (arith, words.w0), (omega (arith, words.w1), (omega (arith, words.w2), (omega (arith, words.w3), (omega (arith, words.asn), tt))))))),
        );
        kind = (lengths, most);
        same = refl;
      }

-- ---- prefixes

-- a PDU says a change: it can be sent, it is a prefix of the version that announces or withdraws the record, and it is due in every load
pub record SaysChange (v : RtrProtocolVersion) (c : Changed) (pdu : RtrPdu) : Type 0 where
  pub sendable : Sendable pdu
  pub prefixes : Prefixes pdu c.announced c.what
  pub version : version_of pdu ≡ v
  pub due : (kind : LoadKind) (session : ℕ) → is_due (type_of pdu) (Stage.loading kind session) ≡ true

-- flags are read as they were meant
flags-say : (announced : Bool) → announces (flags_of announced) ≡ announced
flags-say true = refl
flags-say false = refl

-- a prefix whose flags and record are a change's says the change
by_parts : (pdu : RtrPdu) (c : Changed) (r : Record) → c.what ≡ r → Prefixes pdu (announces (flags_of c.announced)) r → Prefixes pdu c.announced c.what
by_parts pdu c r e p = subst (λ (a : Bool). Prefixes pdu a c.what) (flags-say c.announced) (subst (λ (x : Record). Prefixes pdu (announces (flags_of c.announced)) x) (sym e) p)

-- the lengths of an IPv4 record in rule
four-most : (r : Record) → in_rule r ≡ true → family_of r ≡ 4 → max_of r ≤ 32
four-most r rule e =
    let small : (prefix_of r < 256) × (max_of r < 256) = (omega arith, omega arith) in
    let made = sym (ipv4-in-rule (prefix_of r) (max_of r) small.0 small.1 r.w0 r.asn) ∙ sym (ap in_rule (in-rule-four r rule e)) ∙ rule in
    leb-true (max_of r) 32 (second-of (leb (prefix_of r) (max_of r)) (leb (max_of r) 32) made)

module _ (v : RtrProtocolVersion) (c : Changed) (rule : in_rule c.what ≡ true) (words : WordsFit c.what) where
  four-says : family_of c.what ≡ 4 → SaysChange v c (sent_ipv4 v (flags_of c.announced) c.what)
  four-says e =
      record {
        sendable = ipv4-sendable v c.announced c.what words (in-rule-lengths c.what rule).0 (four-most c.what rule e);
        prefixes = by_parts (sent_ipv4 v (flags_of c.announced) c.what) c _ (in-rule-four c.what rule e) (Prefixes.ipv4 _);
        version = refl;
        due = λ kind session. refl;
      }

  six-says : family_of c.what ≡ 6 → SaysChange v c (sent_ipv6 v (flags_of c.announced) c.what)
  six-says e =
      record {
        sendable = ipv6-sendable v c.announced c.what words (in-rule-lengths c.what rule).0 (in-rule-lengths c.what rule).1;
        prefixes = by_parts (sent_ipv6 v (flags_of c.announced) c.what) c _ (of-family-six c.what e) (Prefixes.ipv6 _);
        version = refl;
        due = λ kind session. refl;
      }

  -- so the prefix PDU of a change in rule says it
  pub says-change : SaysChange v c (sent_prefix v c)
  says-change = go (in-rule-family c.what rule)
    where
      go : (family_of c.what ≡ 4) ⊎ (family_of c.what ≡ 6) → SaysChange v c (sent_prefix v c)
      go (inl e) = subst (λ (n : ℕ). SaysChange v c (cond (eqb n 4) (sent_ipv4 v (flags_of c.announced) c.what) (sent_ipv6 v (flags_of c.announced) c.what))) (sym e) (four-says e)
      go (inr e) = subst (λ (n : ℕ). SaysChange v c (cond (eqb n 4) (sent_ipv4 v (flags_of c.announced) c.what) (sent_ipv6 v (flags_of c.announced) c.what))) (sym e) (six-says e)

-- ---- all prefixes of a run

-- each of some changes is said by its prefix PDU
abbrev pub AllSay : RtrProtocolVersion → List Changed → Type 0
AllSay v [] = Unit {0}
AllSay v (c ∷ cs) = SaysChange v c (sent_prefix v c) × AllSay v cs

say-append : (v : RtrProtocolVersion) (cs ds : List Changed) → AllSay v cs → AllSay v ds → AllSay v (cs ++ ds)
say-append v [] ds h k = k
say-append v (c ∷ cs) ds h k = (h.0, say-append v cs ds h.1 k)

-- the records of one table, all withdrawn or all announced
side-says : (v : RtrProtocolVersion) (announced : Bool) (t : List Record) → is_table t ≡ true → AllFit t → AllSay v (map (λ (r : Record). record { announced = announced; what = r }) t)
side-says v announced [] table AllFit.none = tt
side-says v announced (r ∷ t) table (AllFit.one words fit) =
    let parts = (table-next r t).0 table in
    (says-change v (record { announced = announced; what = r }) parts.0 words, side-says v announced t parts.2 fit)

-- what is left of a table without another fits as it did
fit-without : (a b : List Record) → AllFit a → AllFit (without a b)
fit-without [] b AllFit.none = subst AllFit (sym (none-without b)) AllFit.none
fit-without (r ∷ a) b (AllFit.one words fit) = go (fit-without a b fit) (is_in r b) refl
  where
    go : AllFit (without a b) → (shared : Bool) → is_in r b ≡ shared → AllFit (without (r ∷ a) b)
    go rest true e = subst AllFit (sym (without-shared r a b e)) rest
    go rest false e = subst AllFit (sym (without-only r a b e)) (AllFit.one words rest)

-- the changes from one table to another
pub changes-say : (v : RtrProtocolVersion) (first second : List Record) → is_table first ≡ true → is_table second ≡ true → AllFit first → AllFit second → AllSay v (changes first second)
changes-say v first second h k fit fit' =
    subst (AllSay v) (sym (changes-are first second))
    (say-append v (map withdraw (without first second)) (map announce (without second first))
    (side-says v false (without first second) (without-table first second h) (fit-without first second fit))
    (side-says v true (without second first) (without-table second first k) (fit-without second first fit')))
