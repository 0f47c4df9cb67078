-- What each public function promises leaves one result: two results of the same arguments that both meet the promise are equal; of a part of
-- a slice, its bytes and where they lie are. `Post` is the function's contract as Rattle reads it off the source. Assumes nothing.
use Rattle.std.specs.Prelude.{Result, Ok, Err, ⊤}
use Prim.Native.Nat.{ℕ}
use mathlib.Core.Bool.{cond}
use mathlib.Core.Path.{◌≡◌, refl}
use lib.Dec.{eqb}
use Rattle.rtr_base.proofs.Unique.{only_one, only-this}
use Rattle.rtr_models.specs.Parts.{part_number}
use Rattle.rtr_models.proofs.RtrProtocolVersion.from_u8.Reads as rtr-protocol-version-from-u8
use Rattle.rtr_models.proofs.RtrProtocolVersion.to_u8.Reads as rtr-protocol-version-to-u8
use Rattle.rtr_models.proofs.RtrProtocolVersionDefault.default.Reads as rtr-protocol-version-default
use Rattle.rtr_models.proofs.RtrPduType.from_u8.Reads as rtr-pdu-type-from-u8
use Rattle.rtr_models.proofs.RtrPduType.to_u8.Reads as rtr-pdu-type-to-u8
use Rattle.rtr_models.proofs.RtrErrorCode.from_u16.Reads as rtr-error-code-from-u16
use Rattle.rtr_models.proofs.RtrErrorCode.to_u16.Reads as rtr-error-code-to-u16
use Rattle.rtr_models.proofs.Place.answer.Reads as place-answer
use Rattle.rtr_models.proofs.Place.part.Reads as place-part
use Rattle.rtr_models.proofs.Place.key_answer.Reads as place-key-answer
use Rattle.rtr_models.proofs.Place.key_part.Reads as place-key-part
use Rattle.rtr_models.proofs.RtrSerialQuery.new.Reads as rtr-serial-query-new
use Rattle.rtr_models.proofs.RtrResetQuery.new.Reads as rtr-reset-query-new
use Rattle.rtr_models.proofs.RtrResetQuery.new_v1.Reads as rtr-reset-query-new-v1
use Rattle.rtr_models.proofs.RtrResetQuery.new_v0.Reads as rtr-reset-query-new-v0
use Rattle.rtr_models.proofs.RtrResetQueryDefault.default.Reads as rtr-reset-query-default
use Rattle.rtr_models.proofs.RtrIPv4Prefix.is_announcement.Reads as rtr-ipv4-prefix-is-announcement
use Rattle.rtr_models.proofs.RtrIPv4Prefix.is_withdrawal.Reads as rtr-ipv4-prefix-is-withdrawal
use Rattle.rtr_models.proofs.RtrIPv6Prefix.is_announcement.Reads as rtr-ipv6-prefix-is-announcement
use Rattle.rtr_models.proofs.RtrIPv6Prefix.is_withdrawal.Reads as rtr-ipv6-prefix-is-withdrawal
use Rattle.rtr_models.proofs.RtrEndOfData.refresh_interval_or_default.Reads as rtr-end-of-data-refresh-interval-or-default
use Rattle.rtr_models.proofs.RtrEndOfData.retry_interval_or_default.Reads as rtr-end-of-data-retry-interval-or-default
use Rattle.rtr_models.proofs.RtrEndOfData.expire_interval_or_default.Reads as rtr-end-of-data-expire-interval-or-default
use Rattle.rtr_models.proofs.RtrRouterKey.is_announcement.Reads as rtr-router-key-is-announcement
use Rattle.rtr_models.proofs.RtrRouterKey.is_withdrawal.Reads as rtr-router-key-is-withdrawal
use Rattle.rtr_models.proofs.RtrRouterKey.subject_key_identifier_answer.Reads as rtr-router-key-subject-key-identifier-answer
use Rattle.rtr_models.proofs.RtrRouterKey.subject_key_identifier_part.Reads as rtr-router-key-subject-key-identifier-part
use Rattle.rtr_models.proofs.RtrRouterKey.subject_public_key_info_answer.Reads as rtr-router-key-subject-public-key-info-answer
use Rattle.rtr_models.proofs.RtrRouterKey.subject_public_key_info_part.Reads as rtr-router-key-subject-public-key-info-part
use Rattle.rtr_models.proofs.RtrErrorReport.new.Reads as rtr-error-report-new
use Rattle.rtr_models.proofs.RtrErrorReport.corrupt_data.Reads as rtr-error-report-corrupt-data
use Rattle.rtr_models.proofs.RtrErrorReport.erroneous_pdu_answer.Reads as rtr-error-report-erroneous-pdu-answer
use Rattle.rtr_models.proofs.RtrErrorReport.erroneous_pdu_part.Reads as rtr-error-report-erroneous-pdu-part
use Rattle.rtr_models.proofs.RtrErrorReport.error_text_answer.Reads as rtr-error-report-error-text-answer
use Rattle.rtr_models.proofs.RtrErrorReport.error_text_part.Reads as rtr-error-report-error-text-part
use Rattle.rtr_models.proofs.RtrPdu.pdu_type.Reads as rtr-pdu-pdu-type
use Rattle.rtr_models.proofs.RtrPdu.version.Reads as rtr-pdu-version
use Rattle.rtr_models.specs.declared.PlaceOutside.{PlaceOutside}

answer_of : ℕ → Result ⊤ PlaceOutside
answer_of n = cond (eqb n 0) (Ok tt) (Err (record {}))

number-back : (a : Result ⊤ PlaceOutside) → answer_of (part_number a) ≡ a
unfolding answer_of
number-back (Ok tt) = refl
number-back (Err refusal) = refl

pub rtr-protocol-version-from-u8-unique : (κs : _) (a : _) (r r' : _) (s s' : _) → rtr-protocol-version-from-u8.Post κs a r s → rtr-protocol-version-from-u8.Post κs a r' s' → r ≡ r'
rtr-protocol-version-from-u8-unique κs a r r' s s' p q = only-this r r' _ p q

pub rtr-protocol-version-to-u8-unique : (κs : _) (a : _) (r r' : _) (s s' : _) → rtr-protocol-version-to-u8.Post κs a r s → rtr-protocol-version-to-u8.Post κs a r' s' → r ≡ r'
rtr-protocol-version-to-u8-unique κs a r r' s s' p q = only-this r r' _ p q

pub rtr-protocol-version-default-unique : (κs : _) (a : _) (r r' : _) (s s' : _) → rtr-protocol-version-default.Post κs a r s → rtr-protocol-version-default.Post κs a r' s' → r ≡ r'
rtr-protocol-version-default-unique κs a r r' s s' p q = only-this r r' _ p q

pub rtr-pdu-type-from-u8-unique : (κs : _) (a : _) (r r' : _) (s s' : _) → rtr-pdu-type-from-u8.Post κs a r s → rtr-pdu-type-from-u8.Post κs a r' s' → r ≡ r'
rtr-pdu-type-from-u8-unique κs a r r' s s' p q = only-this r r' _ p q

pub rtr-pdu-type-to-u8-unique : (κs : _) (a : _) (r r' : _) (s s' : _) → rtr-pdu-type-to-u8.Post κs a r s → rtr-pdu-type-to-u8.Post κs a r' s' → r ≡ r'
rtr-pdu-type-to-u8-unique κs a r r' s s' p q = only-this r r' _ p q

pub rtr-error-code-from-u16-unique : (κs : _) (a : _) (r r' : _) (s s' : _) → rtr-error-code-from-u16.Post κs a r s → rtr-error-code-from-u16.Post κs a r' s' → r ≡ r'
rtr-error-code-from-u16-unique κs a r r' s s' p q = only-this r r' _ p q

pub rtr-error-code-to-u16-unique : (κs : _) (a : _) (r r' : _) (s s' : _) → rtr-error-code-to-u16.Post κs a r s → rtr-error-code-to-u16.Post κs a r' s' → r ≡ r'
rtr-error-code-to-u16-unique κs a r r' s s' p q = only-this r r' _ p q

pub place-answer-unique : (κs : _) (a : _) (r r' : _) (s s' : _) → place-answer.Post κs a r s → place-answer.Post κs a r' s' → r ≡ r'
place-answer-unique κs a r r' s s' p q = only_one part_number answer_of number-back r r' _ p q

pub place-part-unique : (κs : _) (a : _) (r r' : _) (s s' : _) → place-part.Post κs a r s → place-part.Post κs a r' s' → (r.now ≡ r'.now) × (r.ref_ptr ≡ r'.ref_ptr)
place-part-unique κs a r r' s s' p q = (only-this r.now r'.now _ p.0 q.0, only-this r.ref_ptr r'.ref_ptr _ p.1 q.1)

pub place-key-answer-unique : (κs : _) (a : _) (r r' : _) (s s' : _) → place-key-answer.Post κs a r s → place-key-answer.Post κs a r' s' → r ≡ r'
place-key-answer-unique κs a r r' s s' p q = only_one part_number answer_of number-back r r' _ p q

pub place-key-part-unique : (κs : _) (a : _) (r r' : _) (s s' : _) → place-key-part.Post κs a r s → place-key-part.Post κs a r' s' → (r.now ≡ r'.now) × (r.ref_ptr ≡ r'.ref_ptr)
place-key-part-unique κs a r r' s s' p q = (only-this r.now r'.now _ p.0 q.0, only-this r.ref_ptr r'.ref_ptr _ p.1 q.1)

pub rtr-serial-query-new-unique : (κs : _) (a : _) (r r' : _) (s s' : _) → rtr-serial-query-new.Post κs a r s → rtr-serial-query-new.Post κs a r' s' → r ≡ r'
rtr-serial-query-new-unique κs a r r' s s' p q = only-this r r' _ p q

pub rtr-reset-query-new-unique : (κs : _) (a : _) (r r' : _) (s s' : _) → rtr-reset-query-new.Post κs a r s → rtr-reset-query-new.Post κs a r' s' → r ≡ r'
rtr-reset-query-new-unique κs a r r' s s' p q = only-this r r' _ p q

pub rtr-reset-query-new-v1-unique : (κs : _) (a : _) (r r' : _) (s s' : _) → rtr-reset-query-new-v1.Post κs a r s → rtr-reset-query-new-v1.Post κs a r' s' → r ≡ r'
rtr-reset-query-new-v1-unique κs a r r' s s' p q = only-this r r' _ p q

pub rtr-reset-query-new-v0-unique : (κs : _) (a : _) (r r' : _) (s s' : _) → rtr-reset-query-new-v0.Post κs a r s → rtr-reset-query-new-v0.Post κs a r' s' → r ≡ r'
rtr-reset-query-new-v0-unique κs a r r' s s' p q = only-this r r' _ p q

pub rtr-reset-query-default-unique : (κs : _) (a : _) (r r' : _) (s s' : _) → rtr-reset-query-default.Post κs a r s → rtr-reset-query-default.Post κs a r' s' → r ≡ r'
rtr-reset-query-default-unique κs a r r' s s' p q = only-this r r' _ p q

pub rtr-ipv4-prefix-is-announcement-unique : (κs : _) (a : _) (r r' : _) (s s' : _) → rtr-ipv4-prefix-is-announcement.Post κs a r s → rtr-ipv4-prefix-is-announcement.Post κs a r' s' → r ≡ r'
rtr-ipv4-prefix-is-announcement-unique κs a r r' s s' p q = only-this r r' _ p q

pub rtr-ipv4-prefix-is-withdrawal-unique : (κs : _) (a : _) (r r' : _) (s s' : _) → rtr-ipv4-prefix-is-withdrawal.Post κs a r s → rtr-ipv4-prefix-is-withdrawal.Post κs a r' s' → r ≡ r'
rtr-ipv4-prefix-is-withdrawal-unique κs a r r' s s' p q = only-this r r' _ p q

pub rtr-ipv6-prefix-is-announcement-unique : (κs : _) (a : _) (r r' : _) (s s' : _) → rtr-ipv6-prefix-is-announcement.Post κs a r s → rtr-ipv6-prefix-is-announcement.Post κs a r' s' → r ≡ r'
rtr-ipv6-prefix-is-announcement-unique κs a r r' s s' p q = only-this r r' _ p q

pub rtr-ipv6-prefix-is-withdrawal-unique : (κs : _) (a : _) (r r' : _) (s s' : _) → rtr-ipv6-prefix-is-withdrawal.Post κs a r s → rtr-ipv6-prefix-is-withdrawal.Post κs a r' s' → r ≡ r'
rtr-ipv6-prefix-is-withdrawal-unique κs a r r' s s' p q = only-this r r' _ p q

pub rtr-end-of-data-refresh-interval-or-default-unique : (κs : _) (a : _) (r r' : _) (s s' : _) → rtr-end-of-data-refresh-interval-or-default.Post κs a r s → rtr-end-of-data-refresh-interval-or-default.Post κs a r' s' → r ≡ r'
rtr-end-of-data-refresh-interval-or-default-unique κs a r r' s s' p q = only-this r r' _ p q

pub rtr-end-of-data-retry-interval-or-default-unique : (κs : _) (a : _) (r r' : _) (s s' : _) → rtr-end-of-data-retry-interval-or-default.Post κs a r s → rtr-end-of-data-retry-interval-or-default.Post κs a r' s' → r ≡ r'
rtr-end-of-data-retry-interval-or-default-unique κs a r r' s s' p q = only-this r r' _ p q

pub rtr-end-of-data-expire-interval-or-default-unique : (κs : _) (a : _) (r r' : _) (s s' : _) → rtr-end-of-data-expire-interval-or-default.Post κs a r s → rtr-end-of-data-expire-interval-or-default.Post κs a r' s' → r ≡ r'
rtr-end-of-data-expire-interval-or-default-unique κs a r r' s s' p q = only-this r r' _ p q

pub rtr-router-key-is-announcement-unique : (κs : _) (a : _) (r r' : _) (s s' : _) → rtr-router-key-is-announcement.Post κs a r s → rtr-router-key-is-announcement.Post κs a r' s' → r ≡ r'
rtr-router-key-is-announcement-unique κs a r r' s s' p q = only-this r r' _ p q

pub rtr-router-key-is-withdrawal-unique : (κs : _) (a : _) (r r' : _) (s s' : _) → rtr-router-key-is-withdrawal.Post κs a r s → rtr-router-key-is-withdrawal.Post κs a r' s' → r ≡ r'
rtr-router-key-is-withdrawal-unique κs a r r' s s' p q = only-this r r' _ p q

pub rtr-router-key-subject-key-identifier-answer-unique : (κs : _) (a : _) (r r' : _) (s s' : _) → rtr-router-key-subject-key-identifier-answer.Post κs a r s → rtr-router-key-subject-key-identifier-answer.Post κs a r' s' → r ≡ r'
rtr-router-key-subject-key-identifier-answer-unique κs a r r' s s' p q = only_one part_number answer_of number-back r r' _ p q

pub rtr-router-key-subject-key-identifier-part-unique : (κs : _) (a : _) (r r' : _) (s s' : _) → rtr-router-key-subject-key-identifier-part.Post κs a r s → rtr-router-key-subject-key-identifier-part.Post κs a r' s' → (r.now ≡ r'.now) × (r.ref_ptr ≡ r'.ref_ptr)
rtr-router-key-subject-key-identifier-part-unique κs a r r' s s' p q = (only-this r.now r'.now _ p.0 q.0, only-this r.ref_ptr r'.ref_ptr _ p.1 q.1)

pub rtr-router-key-subject-public-key-info-answer-unique : (κs : _) (a : _) (r r' : _) (s s' : _) → rtr-router-key-subject-public-key-info-answer.Post κs a r s → rtr-router-key-subject-public-key-info-answer.Post κs a r' s' → r ≡ r'
rtr-router-key-subject-public-key-info-answer-unique κs a r r' s s' p q = only_one part_number answer_of number-back r r' _ p q

pub rtr-router-key-subject-public-key-info-part-unique : (κs : _) (a : _) (r r' : _) (s s' : _) → rtr-router-key-subject-public-key-info-part.Post κs a r s → rtr-router-key-subject-public-key-info-part.Post κs a r' s' → (r.now ≡ r'.now) × (r.ref_ptr ≡ r'.ref_ptr)
rtr-router-key-subject-public-key-info-part-unique κs a r r' s s' p q = (only-this r.now r'.now _ p.0 q.0, only-this r.ref_ptr r'.ref_ptr _ p.1 q.1)

pub rtr-error-report-new-unique : (κs : _) (a : _) (r r' : _) (s s' : _) → rtr-error-report-new.Post κs a r s → rtr-error-report-new.Post κs a r' s' → r ≡ r'
rtr-error-report-new-unique κs a r r' s s' p q = only-this r r' _ p q

pub rtr-error-report-corrupt-data-unique : (κs : _) (a : _) (r r' : _) (s s' : _) → rtr-error-report-corrupt-data.Post κs a r s → rtr-error-report-corrupt-data.Post κs a r' s' → r ≡ r'
rtr-error-report-corrupt-data-unique κs a r r' s s' p q = only-this r r' _ p q

pub rtr-error-report-erroneous-pdu-answer-unique : (κs : _) (a : _) (r r' : _) (s s' : _) → rtr-error-report-erroneous-pdu-answer.Post κs a r s → rtr-error-report-erroneous-pdu-answer.Post κs a r' s' → r ≡ r'
rtr-error-report-erroneous-pdu-answer-unique κs a r r' s s' p q = only_one part_number answer_of number-back r r' _ p q

pub rtr-error-report-erroneous-pdu-part-unique : (κs : _) (a : _) (r r' : _) (s s' : _) → rtr-error-report-erroneous-pdu-part.Post κs a r s → rtr-error-report-erroneous-pdu-part.Post κs a r' s' → (r.now ≡ r'.now) × (r.ref_ptr ≡ r'.ref_ptr)
rtr-error-report-erroneous-pdu-part-unique κs a r r' s s' p q = (only-this r.now r'.now _ p.0 q.0, only-this r.ref_ptr r'.ref_ptr _ p.1 q.1)

pub rtr-error-report-error-text-answer-unique : (κs : _) (a : _) (r r' : _) (s s' : _) → rtr-error-report-error-text-answer.Post κs a r s → rtr-error-report-error-text-answer.Post κs a r' s' → r ≡ r'
rtr-error-report-error-text-answer-unique κs a r r' s s' p q = only_one part_number answer_of number-back r r' _ p q

pub rtr-error-report-error-text-part-unique : (κs : _) (a : _) (r r' : _) (s s' : _) → rtr-error-report-error-text-part.Post κs a r s → rtr-error-report-error-text-part.Post κs a r' s' → (r.now ≡ r'.now) × (r.ref_ptr ≡ r'.ref_ptr)
rtr-error-report-error-text-part-unique κs a r r' s s' p q = (only-this r.now r'.now _ p.0 q.0, only-this r.ref_ptr r'.ref_ptr _ p.1 q.1)

pub rtr-pdu-pdu-type-unique : (κs : _) (a : _) (r r' : _) (s s' : _) → rtr-pdu-pdu-type.Post κs a r s → rtr-pdu-pdu-type.Post κs a r' s' → r ≡ r'
rtr-pdu-pdu-type-unique κs a r r' s s' p q = only-this r r' _ p q

pub rtr-pdu-version-unique : (κs : _) (a : _) (r r' : _) (s s' : _) → rtr-pdu-version.Post κs a r s → rtr-pdu-version.Post κs a r' s' → r ≡ r'
rtr-pdu-version-unique κs a r r' s s' p q = only-this r r' _ p q
