-- What each public function promises leaves one result and one content of the lent output. `Post` is the contract as Rattle reads it off the
-- source, and `s` the parameters as the function returns. Assumes nothing.
use Rattle.std.specs.Prelude.{Result, Ok, Err}
use Prim.Native.Nat.{ℕ}
use mathlib.Core.Bool.{cond}
use mathlib.Core.List.{List}
use mathlib.Core.Path.{◌≡◌, refl, ap}
use lib.Dec.{eqb}
use lib.ListN.{get_or}
use Rattle.rtr_base.proofs.Unique.{only_one, only-this}
use Rattle.rtr_encode.specs.Encode.{Writing, Encoded}
use Rattle.rtr_encode.specs.Encode.Writing.{written, refused}
use Rattle.rtr_encode.specs.Answers.{writing, leaves}
use Rattle.rtr_encode.specs.declared.EncodeError.TheVariants.{PlaceOutside, InvalidUtf8, TooLong, OutputShort}
use Rattle.rtr_encode.proofs.EncodeError.number.Reads as encode-error-number
use Rattle.rtr_encode.proofs.encode_serial_notify.Reads as encode-serial-notify
use Rattle.rtr_encode.proofs.encode_serial_query.Reads as encode-serial-query
use Rattle.rtr_encode.proofs.encode_reset_query.Reads as encode-reset-query
use Rattle.rtr_encode.proofs.encode_cache_response.Reads as encode-cache-response
use Rattle.rtr_encode.proofs.encode_ipv4_prefix.Reads as encode-ipv4-prefix
use Rattle.rtr_encode.proofs.encode_ipv6_prefix.Reads as encode-ipv6-prefix
use Rattle.rtr_encode.proofs.encode_end_of_data.Reads as encode-end-of-data
use Rattle.rtr_encode.proofs.encode_cache_reset.Reads as encode-cache-reset
use Rattle.rtr_encode.proofs.encode_router_key.Reads as encode-router-key
use Rattle.rtr_encode.proofs.encode_error_report.Reads as encode-error-report
use Rattle.rtr_encode.proofs.encode.Reads as encode
use Rattle.rtr_encode.specs.declared.EncodeError.{EncodeError}

-- the answer that has a number and values
answer_of : Writing → Result ℕ EncodeError
answer_of (written n) = Ok n
answer_of (refused k x) =
    cond (eqb k 11) (Err PlaceOutside)
    (cond (eqb k 8) (Err InvalidUtf8) (cond (eqb k 10) (Err TooLong) (Err (OutputShort (get_or x 0 0)))))

writing-back : (a : Result ℕ EncodeError) → answer_of (writing a) ≡ a
unfolding answer_of
writing-back (Ok n) = refl
writing-back (Err PlaceOutside) = refl
writing-back (Err InvalidUtf8) = refl
writing-back (Err TooLong) = refl
writing-back (Err (OutputShort n)) = refl

one-leaving : (r r' : Result ℕ EncodeError) (o o' : List ℕ) (given : Encoded) → leaves r o ≡ given → leaves r' o' ≡ given → (r ≡ r') × (o ≡ o')
one-leaving r r' o o' given p q = (
  only_one writing answer_of writing-back r r' given.says (ap (λ (e : Encoded). e.says) p) (ap (λ (e : Encoded). e.says) q),
  only-this o o' given.out (ap (λ (e : Encoded). e.out) p) (ap (λ (e : Encoded). e.out) q),
)

pub encode-serial-notify-unique : (κs : _) (a : _) (r r' : _) (s s' : _) → encode-serial-notify.Post κs a r s → encode-serial-notify.Post κs a r' s' → (r ≡ r') × (s.1.0.now ≡ s'.1.0.now)
encode-serial-notify-unique κs a r r' s s' p q = one-leaving r r' s.1.0.now s'.1.0.now _ p q

pub encode-serial-query-unique : (κs : _) (a : _) (r r' : _) (s s' : _) → encode-serial-query.Post κs a r s → encode-serial-query.Post κs a r' s' → (r ≡ r') × (s.1.0.now ≡ s'.1.0.now)
encode-serial-query-unique κs a r r' s s' p q = one-leaving r r' s.1.0.now s'.1.0.now _ p q

pub encode-reset-query-unique : (κs : _) (a : _) (r r' : _) (s s' : _) → encode-reset-query.Post κs a r s → encode-reset-query.Post κs a r' s' → (r ≡ r') × (s.1.0.now ≡ s'.1.0.now)
encode-reset-query-unique κs a r r' s s' p q = one-leaving r r' s.1.0.now s'.1.0.now _ p q

pub encode-cache-response-unique : (κs : _) (a : _) (r r' : _) (s s' : _) → encode-cache-response.Post κs a r s → encode-cache-response.Post κs a r' s' → (r ≡ r') × (s.1.0.now ≡ s'.1.0.now)
encode-cache-response-unique κs a r r' s s' p q = one-leaving r r' s.1.0.now s'.1.0.now _ p q

pub encode-ipv4-prefix-unique : (κs : _) (a : _) (r r' : _) (s s' : _) → encode-ipv4-prefix.Post κs a r s → encode-ipv4-prefix.Post κs a r' s' → (r ≡ r') × (s.1.0.now ≡ s'.1.0.now)
encode-ipv4-prefix-unique κs a r r' s s' p q = one-leaving r r' s.1.0.now s'.1.0.now _ p q

pub encode-ipv6-prefix-unique : (κs : _) (a : _) (r r' : _) (s s' : _) → encode-ipv6-prefix.Post κs a r s → encode-ipv6-prefix.Post κs a r' s' → (r ≡ r') × (s.1.0.now ≡ s'.1.0.now)
encode-ipv6-prefix-unique κs a r r' s s' p q = one-leaving r r' s.1.0.now s'.1.0.now _ p q

pub encode-end-of-data-unique : (κs : _) (a : _) (r r' : _) (s s' : _) → encode-end-of-data.Post κs a r s → encode-end-of-data.Post κs a r' s' → (r ≡ r') × (s.1.0.now ≡ s'.1.0.now)
encode-end-of-data-unique κs a r r' s s' p q = one-leaving r r' s.1.0.now s'.1.0.now _ p q

pub encode-cache-reset-unique : (κs : _) (a : _) (r r' : _) (s s' : _) → encode-cache-reset.Post κs a r s → encode-cache-reset.Post κs a r' s' → (r ≡ r') × (s.1.0.now ≡ s'.1.0.now)
encode-cache-reset-unique κs a r r' s s' p q = one-leaving r r' s.1.0.now s'.1.0.now _ p q

pub encode-router-key-unique : (κs : _) (a : _) (r r' : _) (s s' : _) → encode-router-key.Post κs a r s → encode-router-key.Post κs a r' s' → (r ≡ r') × (s.1.1.0.now ≡ s'.1.1.0.now)
encode-router-key-unique κs a r r' s s' p q = one-leaving r r' s.1.1.0.now s'.1.1.0.now _ p q

pub encode-error-report-unique : (κs : _) (a : _) (r r' : _) (s s' : _) → encode-error-report.Post κs a r s → encode-error-report.Post κs a r' s' → (r ≡ r') × (s.1.1.0.now ≡ s'.1.1.0.now)
encode-error-report-unique κs a r r' s s' p q = one-leaving r r' s.1.1.0.now s'.1.1.0.now _ p q

pub encode-unique : (κs : _) (a : _) (r r' : _) (s s' : _) → encode.Post κs a r s → encode.Post κs a r' s' → (r ≡ r') × (s.1.1.0.now ≡ s'.1.1.0.now)
encode-unique κs a r r' s s' p q = one-leaving r r' s.1.1.0.now s'.1.1.0.now _ p q

pub encode-error-number-unique : (κs : _) (a : _) (r r' : _) (s s' : _) → encode-error-number.Post κs a r s → encode-error-number.Post κs a r' s' → r ≡ r'
encode-error-number-unique κs a r r' s s' p q = only-this r r' _ p q
