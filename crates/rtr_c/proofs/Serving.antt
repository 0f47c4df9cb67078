-- From what rtr_listed promises of a listing, and rtr_cache of a run, to what the calls from C promise. Assumes nothing.
use Rattle.std.specs.Prelude.{Option, Some, None, Result, Ok, Err}
use Prim.Native.Nat.{ℕ}
use mathlib.Core.Bool.{Bool, cond}
use mathlib.Core.List.{List}
use mathlib.Core.Path.{◌≡◌, refl, sym, ap, ◌∙◌}
use borrow.Author.Tests.{eq-eqb}
use lib.Dec.{eqb}
use lib.ListN.{length}
use Rattle.rtr_models.specs.Codes.{version_found}
use Rattle.rtr_models.specs.declared.RtrProtocolVersion.{RtrProtocolVersion}
use Rattle.rtr_encode.specs.Encode.{Encoded}
use Rattle.rtr_encode.specs.Answers.{number_of}
use Rattle.rtr_receiver.specs.Promises.{record_limit}
use Rattle.rtr_receiver.specs.declared.Table.{Table}
use Rattle.rtr_numbers.specs.Back.{table_found}
use Rattle.rtr_listing.specs.declared.Head.{Head}
use Rattle.rtr_listed.specs.Promises.{ListedLeft, listed_refusal, line_in, refusal_number, listed_said, listed_says}
use Rattle.rtr_listed.specs.declared.ListedError.{ListedError}
use Rattle.rtr_cache.specs.Cache.{run_writing, run_leaves}
use Rattle.rtr_c.specs.Calls.{amount_of, encode_gives, encode_left, read_listing_gives, head_size, head_numbers, read_listing_said, read_listing_left, read_listing_c, run_found}
use Rattle.rtr_c.proofs.Steps.{set_at}
use Rattle.rtr_cache.specs.declared.RunError.{RunError}

-- ---- a listing

-- the numbers of the code's refusal are those of what it says
refused-said : (error : ListedError) (room head : List ℕ) → read_listing_gives (refusal_number (listed_refusal error)) room head (line_in error) ≡ read_listing_said (listed_refusal error) room head
refused-said ListedError.NotARoom room head = refl
refused-said (ListedError.Line n) room head = refl

module _ (text room head : List ℕ) (long : length head ≡ head_size) (answer : Result Head ListedError) (room' : List ℕ)
    (said : record { answer = listed_said answer; room = room' } ≡ listed_says record_limit text room) where
  by-listing : (x : Result Head ListedError) → answer ≡ x → read_listing_said (listed_said x) room' head ≡ read_listing_c text room head
  unfolding read_listing_c
  by-listing x e =
      ap (λ (y : Result Head ListedError). read_listing_said (listed_said y) room' head) (sym e)
      ∙ ap (λ (left : ListedLeft). read_listing_left left head) said
      ∙ sym (ap (λ (b : Bool). cond b (read_listing_left (listed_says record_limit text room) head) (read_listing_gives 22 room head 0)) (eq-eqb (length head) head_size long))

  pub listing-read : (h : Head) (numbers head' : List ℕ) → answer ≡ Ok h → numbers ≡ head_numbers h → head' ≡ cond (eqb (length head) (length numbers)) numbers head
      → read_listing_gives 0 room' head' 0 ≡ read_listing_c text room head
  listing-read h numbers head' told is put =
      let set = set_at head_size head head' (head_numbers h) long (put ∙ ap (λ (n : List ℕ). cond (eqb (length head) (length n)) n head) is) in
      ap (λ (n : List ℕ). read_listing_gives 0 room' n 0) set ∙ by-listing (Ok h) told

  pub listing-misread : (error : ListedError) (number line : ℕ) → answer ≡ Err error → number ≡ refusal_number (listed_refusal error) → line ≡ line_in error
      → read_listing_gives number room' head line ≡ read_listing_c text room head
  listing-misread error number line told named lined =
      (λ i. read_listing_gives (named i) room' head (lined i)) ∙ refused-said error room' head ∙ by-listing (Err error) told

-- ---- a run, of either kind: the version is found, then the table's numbers

module _ (run : RtrProtocolVersion → Table → Encoded) (version : ℕ) (end out : List ℕ) (found : Option RtrProtocolVersion) (f : found ≡ version_found version) where
  pub run-unversioned : found ≡ None → encode_gives 22 0 out ≡ run_found run (version_found version) (table_found end) out
  run-unversioned told = ap (λ (x : Option RtrProtocolVersion). run_found run x (table_found end) out) (sym told ∙ f)

  module _ (v : RtrProtocolVersion) (known : found ≡ Some v) (numbers : Option Table) (n : numbers ≡ table_found end) where
    by-table : (x : Option Table) → numbers ≡ x → run_found run (Some v) x out ≡ run_found run (version_found version) (table_found end) out
    by-table x told = ap (λ (y : Option RtrProtocolVersion). run_found run y x out) (sym known ∙ f) ∙ ap (λ (y : Option Table). run_found run (version_found version) y out) (sym told ∙ n)

    pub run-untabled : numbers ≡ None → encode_gives 22 0 out ≡ run_found run (version_found version) (table_found end) out
    run-untabled told = by-table None told

    pub run-answered : (t : Table) (answer : Result ℕ RunError) (number amount : ℕ) (out' : List ℕ) → numbers ≡ Some t → run_leaves answer out' ≡ run v t →
        number ≡ number_of (run_writing answer) → amount ≡ amount_of (run_writing answer) → encode_gives number amount out' ≡ run_found run (version_found version) (table_found end) out
    run-answered t answer number amount out' told said named counted =
        (λ i. encode_gives (named i) (counted i) out') ∙ ap encode_left said ∙ by-table (Some t) told
