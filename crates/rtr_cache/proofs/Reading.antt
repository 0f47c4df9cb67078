-- The bytes of a run, read: by place they give its PDUs and end at its end (`run-is-read`), to a history they are its PDUs (`told-all`), and they are the RFCs' pictures of them,
-- one behind the other (`run-is-rfc`). Assumes nothing.
use Prim.Native.Nat.{ℕ, ◌+◌, ◌≤◌}
use mathlib.Core.Bool.{Bool, true, false}
use mathlib.Core.List.{List, [], ◌∷◌, ◌++◌, map, append_assoc}
use mathlib.Core.Path.{◌≡◌, refl, sym, ap, ◌∙◌, subst}
use native.Mathlib.Omega.{arith}
use borrow.Author.Tests.{leb-true, leb-false}
use lib.Dec.{eqb, leb}
use lib.ListN.{length, drop, length-append}
use lib.Seq.{drop-append_seam}
use Rattle.rtr_models.specs.Codes.{type_number}
use Rattle.rtr_models.specs.Values.{type_of}
use Rattle.rtr_models.specs.declared.RtrProtocolVersion.{RtrProtocolVersion}
use Rattle.rtr_models.specs.declared.RtrPdu.{RtrPdu}
use Rattle.rtr_codec.specs.Reading.{in_use}
use Rattle.rtr_codec.specs.Read.{read}
use Rattle.rtr_codec.specs.Read.Verdict.{accepted, refused}
use Rattle.rtr_codec.specs.Run.{Step, read_at}
use Rattle.rtr_codec.proofs.RunLaws.{run_ends, accepted-moves, accepted-at}
use Rattle.rtr_encode.specs.Encode.{encoding}
use Rattle.rtr_round.proofs.RfcSent.{in-use-writes-rfc}
use Rattle.rtr_room.specs.declared.Record.{Record}
use Rattle.rtr_receiver.specs.History.{Event, Item, Changed, base, items}
use Rattle.rtr_receiver.specs.Runs.{bytes}
use Rattle.rtr_receiver.specs.declared.LoadKind.{LoadKind}
use Rattle.rtr_receiver.specs.declared.Table.{Table}
use Rattle.rtr_receiver.proofs.Onward.{bytes-join}
use Rattle.rtr_receiver.proofs.Whole.{told-by, Prefixes}
use Rattle.rtr_changes.specs.Changes.{changes}
use Rattle.rtr_cache.specs.Cache.{sent_prefix, sent_end, run_pdus, encodings, run_bytes}
use Rattle.rtr_cache.specs.Serves.{Servable, NoLonger, ReadsAs, pictures}
use Rattle.rtr_cache.proofs.Sent.{Sendable, in-rule, sendable-read, sendable-heard, response-sendable, end-sendable, AllSay, changes-say}

-- ---- all PDUs of a run

-- a PDU of a run can be sent, and is no Router Key, of which the crate and the RFC differ
pub record InRun (pdu : RtrPdu) : Type 0 where
  pub sendable : Sendable pdu
  pub no_key : eqb (type_number (type_of pdu)) 9 ≡ false

abbrev pub AllInRun : List RtrPdu → Type 0
AllInRun [] = Unit {0}
AllInRun (pdu ∷ pdus) = InRun pdu × AllInRun pdus

no-key-prefix : (pdu : RtrPdu) (announced : Bool) (r : Record) → Prefixes pdu announced r → eqb (type_number (type_of pdu)) 9 ≡ false
no-key-prefix pdu announced r (Prefixes.ipv4 p) = refl
no-key-prefix pdu announced r (Prefixes.ipv6 p) = refl

prefixes-in-run : (v : RtrProtocolVersion) (cs : List Changed) (pdus : List RtrPdu) → AllSay v cs → AllInRun pdus → AllInRun (map (sent_prefix v) cs ++ pdus)
prefixes-in-run v [] pdus says behind = behind
prefixes-in-run v (c ∷ cs) pdus says behind = (record { sendable = says.0.sendable; no_key = no-key-prefix _ _ _ says.0.prefixes }, prefixes-in-run v cs pdus says.1 behind)

module _ (kind : LoadKind) (v : RtrProtocolVersion) (end : Table) (first second : List Record) (parts : Servable kind end first second) where
  pub run-says : AllSay v (changes (base kind first) second)
  run-says = changes-say v (base kind first) second parts.first-table parts.second-table parts.first_fits parts.second_fits

  pub run-in-run : AllInRun (run_pdus kind v end first second)
  unfolding run_pdus
  run-in-run = (
    record { sendable = response-sendable v end.session parts.end_fits.session; no_key = refl },
    prefixes-in-run v (changes (base kind first) second) (sent_end v end ∷ []) run-says (record { sendable = end-sendable v end parts.end_fits; no_key = refl }, tt),
  )

-- ---- by place

-- from behind some bytes, with more behind
reads-from : (pdus : List RtrPdu) (front rest : List ℕ) → AllInRun pdus → ReadsAs (front ++ (encodings pdus ++ rest)) (length front) pdus (length front + length (encodings pdus))
unfolding encodings
reads-from [] front rest in-run =
    let n : length front ≡ length front + 0 = omega arith in
    subst (λ (end : ℕ). ReadsAs (front ++ rest) (length front) [] end) n ReadsAs.over
reads-from (pdu ∷ pdus) front rest in-run =
    let here : List ℕ = encoding in_use pdu [] in
    let later : List ℕ = encodings pdus in
    let s : Sendable pdu = in-run.0.sendable in
    let bytes-are : front ++ ((here ++ later) ++ rest) ≡ (front ++ here) ++ (later ++ rest) = ap (λ (x : List ℕ). front ++ x) (append_assoc here later rest) ∙ sym (append_assoc front here (later ++ rest)) in
    let reads : read in_use (drop (length front) (front ++ ((here ++ later) ++ rest))) ≡ accepted pdu (length here) =
    ap (read in_use) (drop-append_seam front ((here ++ later) ++ rest) ∙ append_assoc here later rest)
    ∙ sendable-read pdu (later ++ rest) s in
    let at : length (front ++ here) ≡ length front + length here = length-append front here in
    let end : length (front ++ here) + length later ≡ length front + length (here ++ later) = omega (arith, at, length-append here later) in
    ReadsAs.next (accepted-at in_use (front ++ ((here ++ later) ++ rest)) (length front) pdu (length here) reads)
    (subst (λ (e : ℕ). ReadsAs (front ++ ((here ++ later) ++ rest)) (length front + length here) pdus e) end
    (subst (λ (a : ℕ). ReadsAs (front ++ ((here ++ later) ++ rest)) a pdus (length (front ++ here) + length later)) at
    (subst (λ (x : List ℕ). ReadsAs x (length (front ++ here)) pdus (length (front ++ here) + length later)) (sym bytes-are)
    (reads-from pdus (front ++ here) rest in-run.1))))

-- reading a run by place gives its PDUs, one after another, and ends at its end, whatever is behind it
pub run-is-read : (kind : LoadKind) (v : RtrProtocolVersion) (end : Table) (first second : List Record) (rest : List ℕ) → Servable kind end first second
    → ReadsAs (run_bytes kind v end first second ++ rest) 0 (run_pdus kind v end first second) (length (run_bytes kind v end first second))
unfolding run_bytes
run-is-read kind v end first second rest parts =
    let n : 0 + length (encodings (run_pdus kind v end first second)) ≡ length (encodings (run_pdus kind v end first second)) = omega arith in
    subst (λ (e : ℕ). ReadsAs (encodings (run_pdus kind v end first second) ++ rest) 0 (run_pdus kind v end first second) e) n
    (reads-from (run_pdus kind v end first second) [] rest (run-in-run kind v end first second parts))

-- a PDU that is read has 8 bytes or more
moves-on : (s : List ℕ) (at n : ℕ) (pdu : RtrPdu) → read_at in_use s at ≡ record { answer = accepted pdu n; next = at + n } → 8 ≤ n
moves-on s at n pdu e = go (leb at (length s)) refl
  where
    read_as : (read_at in_use s at).answer ≡ accepted pdu n
    read_as = ap (λ (x : Step). x.answer) e

    go : (b : Bool) → leb at (length s) ≡ b → 8 ≤ n
    go true f = (accepted-moves in_use s at pdu n (leb-true at (length s) f) read_as).1
    go false f =
        let ended : refused 1 (0 ∷ 8 ∷ []) ≡ accepted pdu n = sym (ap (λ (x : Step). x.answer) (run_ends in_use s at (omega (arith, leb-false at (length s) f)))) ∙ read_as in
        absurd (let z : ◌≡◌ {A = ℕ} 0 1 = cc in omega arith)

reads-forward : {s : List ℕ} {at end : ℕ} {pdus : List RtrPdu} → ReadsAs s at pdus end → at ≤ end
reads-forward ReadsAs.over = omega arith
reads-forward (ReadsAs.next e rest) = omega (arith, reads-forward rest)

-- the same, of two places and two ends that are equal
once : (s : List ℕ) (at at' end end' : ℕ) (ps qs : List RtrPdu) → at ≡ at' → end ≡ end' → ReadsAs s at ps end → ReadsAs s at' qs end' → ps ≡ qs
once s at at' end end' ps qs p q ReadsAs.over ReadsAs.over = refl
once s at at' end end' ps qs p q ReadsAs.over (ReadsAs.next {n = n} {pdu = pdu} e rest) = absurd (omega (arith, moves-on s at' n pdu e, reads-forward rest))
once s at at' end end' ps qs p q (ReadsAs.next {n = n} {pdu = pdu} e rest) ReadsAs.over = absurd (omega (arith, moves-on s at n pdu e, reads-forward rest))
once s at at' end end' ps qs p q (ReadsAs.next {n = n} {pdu = pdu} {pdus = more} e rest) (ReadsAs.next {n = n'} {pdu = pdu'} {pdus = more'} e' rest') =
    let same : accepted pdu n ≡ accepted pdu' n' = ap (λ (x : Step). x.answer) (sym e ∙ ap (λ (k : ℕ). read_at in_use s k) p ∙ e') in
    let pdus : pdu ≡ pdu' = cc in
    let lengths : n ≡ n' = cc in
    let later : more ≡ more' = once s (at + n) (at' + n') end end' more more' (omega arith) q rest rest' in
    λ i. pdus i ∷ later i

-- what is read from one place to another is one list of PDUs
pub reads-as-once : (s : List ℕ) (at end : ℕ) (ps qs : List RtrPdu) → ReadsAs s at ps end → ReadsAs s at qs end → ps ≡ qs
reads-as-once s at end ps qs a b = once s at at end end ps qs refl refl a b

-- ---- to a history

pub told-all : (H : ℕ) (pdus : List RtrPdu) (es : List Event) → AllInRun pdus → NoLonger H pdus → items H [] (bytes (encodings pdus) ++ es) ≡ map Item.told pdus ++ items H [] es
unfolding encodings NoLonger
told-all H [] es in-run fits = refl
told-all H (pdu ∷ pdus) es in-run fits =
    let here : List ℕ = encoding in_use pdu [] in
    ap (items H []) (ap (λ (x : List Event). x ++ es) (bytes-join here (encodings pdus)) ∙ append_assoc (bytes here) (bytes (encodings pdus)) es)
    ∙ told-by H here pdu (sendable-heard H pdu in-run.0.sendable fits.0) (bytes (encodings pdus) ++ es)
    ∙ ap (λ (is : List Item). Item.told pdu ∷ is) (told-all H pdus es in-run.1 fits.1)

-- ---- by the RFCs' pictures

all-rfc : (pdus : List RtrPdu) → AllInRun pdus → encodings pdus ≡ pictures pdus
unfolding encodings pictures
all-rfc [] in-run = refl
all-rfc (pdu ∷ pdus) in-run = (λ i. in-use-writes-rfc pdu [] (in-rule pdu in-run.0.sendable) in-run.0.no_key i ++ all-rfc pdus in-run.1 i)

pub run-is-rfc : (kind : LoadKind) (v : RtrProtocolVersion) (end : Table) (first second : List Record) → Servable kind end first second → run_bytes kind v end first second ≡ pictures (run_pdus kind v end first second)
unfolding run_bytes
run-is-rfc kind v end first second parts = all-rfc (run_pdus kind v end first second) (run-in-run kind v end first second parts)
