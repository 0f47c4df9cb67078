-- Ignored bytes change no verdict (`ignored-bytes-ignored`). By the type: where a type has ignored bytes, every number that reading looks at stands in the others; where it has none, the slices are the same.
-- Assumes nothing.
use Rattle.std.specs.Prelude.{Option, Some, None}
use Prim.Native.Nat.{ℕ, zero, suc, ◌+◌, ◌<◌}
use mathlib.Core.Bool.{Bool, true, false, cond, false≢true}
use mathlib.Core.List.{List, [], ◌∷◌, ◌++◌}
use mathlib.Core.Logic.{◌↔◌}
use mathlib.Core.Path.{◌≡◌, refl, sym, ap, ◌∙◌}
use native.Mathlib.Omega.{arith}
use native.Mathlib.Nat.{add-zero}
use borrow.Author.Tests.{eqb-true, eq-eqb}
use lib.Dec.{leb, eqb}
use lib.ListN.{length, get_or}
use lib.Seq.{ext_get_or}
use Rattle.rtr_models.specs.Codes.{type_number, version_found}
use Rattle.rtr_models.proofs.Laws.{type-known}
use Rattle.rtr_models.specs.declared.RtrProtocolVersion.{RtrProtocolVersion}
use Rattle.rtr_models.specs.declared.RtrProtocolVersion.TheVariants.{V0, V1}
use Rattle.rtr_models.specs.declared.RtrPduType.{RtrPduType}
use Rattle.rtr_models.specs.declared.RtrPduType.TheVariants.{SerialNotify, SerialQuery, ResetQuery, CacheResponse, IPv4Prefix, IPv6Prefix, EndOfData, CacheReset, RouterKey, ErrorReport}
use Rattle.rtr_codec.specs.Bytes.{number}
use Rattle.rtr_codec.specs.Reading.{Reading, in_use}
use Rattle.rtr_codec.specs.Layout.{Field, serial_layout, bare_layout, response_layout, ipv4_layout, ipv6_layout, end_layout, report_layout}
use Rattle.rtr_codec.specs.Layout.Field.{ignored, total, value, payload}
use Rattle.rtr_codec.specs.Read.{Verdict, need, header_length, key_fields, read_reset_query, read_ipv4_prefix, read_ipv6_prefix, read_cache_reset, read_router_key, read_as, read_typed, read_versioned, read}
use Rattle.rtr_codec.specs.Answers.{verdict}
use Rattle.rtr_codec.specs.Ignored.{ignored_bytes, among, Alike}
use Rattle.rtr_codec.proofs.parse_rtr_pdu.Reads as reads

module _ (R : Reading) (s t : List ℕ) (long : length s ≡ length t) where
  -- the same bytes but for those of a list
  abbrev But : List ℕ → Type 0
  But l = (i : ℕ) → among i l ≡ false → get_or s i 0 ≡ get_or t i 0

  -- slices of one type, version byte and length are read alike if that type is
  alike_read : (type : RtrPduType) → number s 0 1 ≡ number t 0 1 → number s 1 1 ≡ type_number type → number t 1 1 ≡ type_number type → number s 4 4 ≡ number t 4 4
      → ((v : RtrProtocolVersion) → read_as R v type s ≡ read_as R v type t) → read R s ≡ read R t
  unfolding header_length read_typed read_versioned read
  alike_read type pv ps pt pl kinds =
      simp (long, pl, pv)
      (ap
      (λ (x : Verdict). need (leb 8 (length t)) 1 (length t ∷ 8 ∷ []) (need (leb (number t 4 4) (length t)) 1 (length t ∷ number t 4 4 ∷ []) x))
      (go (version_found (number t 0 1))))
    where
      go : (f : Option RtrProtocolVersion) → read_versioned R (number t 0 1) f s ≡ read_versioned R (number t 0 1) f t
      go None = refl
      go (Some v) = simp ((type-known (number s 1 1) type).1 ps, (type-known (number t 1 1) type).1 pt) (kinds v)

  -- the numbers of one byte and of four, byte by byte
  one : (at : ℕ) → get_or s at 0 ≡ get_or t at 0 → number s at 1 ≡ number t at 1
  unfolding number
  one at a = rw add-zero (cc a)

  four : (at : ℕ) → get_or s at 0 ≡ get_or t at 0 → get_or s (at + 1) 0 ≡ get_or t (at + 1) 0 → get_or s (at + 2) 0 ≡ get_or t (at + 2) 0 → get_or s (at + 3) 0 ≡ get_or t (at + 3) 0
      → number s at 4 ≡ number t at 4
  unfolding number
  four at a b c d = rw add-zero (cc (a, b, c, d))

  -- the header's numbers stand outside every list of ignored bytes
  header : (type : RtrPduType) (l : List ℕ) → among 0 l ≡ false → among 1 l ≡ false → among 4 l ≡ false → among 5 l ≡ false → among 6 l ≡ false → among 7 l ≡ false → But l
      → number s 1 1 ≡ type_number type → ((v : RtrProtocolVersion) → number s 4 4 ≡ number t 4 4 → read_as R v type s ≡ read_as R v type t) → read R s ≡ read R t
  header type l a b c d e f same ps kinds =
      let size : number s 4 4 ≡ number t 4 4 = four 4 (same 4 c) (same 5 d) (same 6 e) (same 7 f) in
      alike_read type (one 0 (same 0 a)) ps (sym (one 1 (same 1 b)) ∙ ps) size (λ v. kinds v size)

  bare-query : But (2 ∷ 3 ∷ []) → number s 1 1 ≡ 2 → read R s ≡ read R t
  unfolding header_length read_as read_reset_query
  bare-query same ps = header ResetQuery (2 ∷ 3 ∷ []) refl refl refl refl refl refl same ps (λ v size. simp size)

  bare-reset : But (2 ∷ 3 ∷ []) → number s 1 1 ≡ 8 → read R s ≡ read R t
  unfolding header_length read_as read_cache_reset
  bare-reset same ps = header CacheReset (2 ∷ 3 ∷ []) refl refl refl refl refl refl same ps (λ v size. simp size)

  ipv4 : But (2 ∷ 3 ∷ 11 ∷ []) → number s 1 1 ≡ 4 → read R s ≡ read R t
  unfolding header_length read_as read_ipv4_prefix
  ipv4 same ps =
      header IPv4Prefix (2 ∷ 3 ∷ 11 ∷ []) refl refl refl refl refl refl same ps
      (λ v size. simp (
        size,
        one 8 (same 8 refl),
        one 9 (same 9 refl),
        one 10 (same 10 refl),
        four 12 (same 12 refl) (same 13 refl) (same 14 refl) (same 15 refl),
        four 16 (same 16 refl) (same 17 refl) (same 18 refl) (same 19 refl),
      ))

  ipv6 : But (2 ∷ 3 ∷ 11 ∷ []) → number s 1 1 ≡ 6 → read R s ≡ read R t
  unfolding header_length read_as read_ipv6_prefix
  ipv6 same ps =
      header IPv6Prefix (2 ∷ 3 ∷ 11 ∷ []) refl refl refl refl refl refl same ps
      (λ v size. simp (
        size,
        one 8 (same 8 refl),
        one 9 (same 9 refl),
        one 10 (same 10 refl),
        four 12 (same 12 refl) (same 13 refl) (same 14 refl) (same 15 refl),
        four 16 (same 16 refl) (same 17 refl) (same 18 refl) (same 19 refl),
        four 20 (same 20 refl) (same 21 refl) (same 22 refl) (same 23 refl),
        four 24 (same 24 refl) (same 25 refl) (same 26 refl) (same 27 refl),
        four 28 (same 28 refl) (same 29 refl) (same 30 refl) (same 31 refl),
      ))

  -- a Router Key in either arrangement; in version 0 it is refused before its bytes are looked at
  key : (b : Bool) → R.key_by_crate ≡ b → But (cond b (2 ∷ 3 ∷ 9 ∷ []) (3 ∷ [])) → number s 1 1 ≡ 9 → read R s ≡ read R t
  unfolding header_length read_as read_router_key
  key true by_crate same ps = header RouterKey (2 ∷ 3 ∷ 9 ∷ []) refl refl refl refl refl refl same ps go
    where
      go : (v : RtrProtocolVersion) → number s 4 4 ≡ number t 4 4 → read_as R v RouterKey s ≡ read_as R v RouterKey t
      go V0 size = refl
      go V1 size = simp (by_crate, size, one 8 (same 8 refl), four 30 (same 30 refl) (same 31 refl) (same 32 refl) (same 33 refl))
  key false by_crate same ps = header RouterKey (3 ∷ []) refl refl refl refl refl refl same ps go
    where
      go : (v : RtrProtocolVersion) → number s 4 4 ≡ number t 4 4 → read_as R v RouterKey s ≡ read_as R v RouterKey t
      go V0 size = refl
      go V1 size = simp (by_crate, size, one 2 (same 2 refl), four 28 (same 28 refl) (same 29 refl) (same 30 refl) (same 31 refl))

  -- where nothing is ignored the slices are the same
  nothing : But [] → read R s ≡ read R t
  nothing same = ap (read R) (ext_get_or 0 s t long (λ i _. same i refl))

  by-type : (a b c d e : Bool) → eqb (number s 1 1) 2 ≡ a → eqb (number s 1 1) 4 ≡ b → eqb (number s 1 1) 6 ≡ c → eqb (number s 1 1) 8 ≡ d → eqb (number s 1 1) 9 ≡ e
      → But (cond a (2 ∷ 3 ∷ []) (cond b (2 ∷ 3 ∷ 11 ∷ []) (cond c (2 ∷ 3 ∷ 11 ∷ []) (cond d (2 ∷ 3 ∷ []) (cond e (cond R.key_by_crate (2 ∷ 3 ∷ 9 ∷ []) (3 ∷ [])) [])))))
      → read R s ≡ read R t
  by-type true b c d e pa pb pc pd pe same = bare-query same (eqb-true (number s 1 1) 2 pa)
  by-type false true c d e pa pb pc pd pe same = ipv4 same (eqb-true (number s 1 1) 4 pb)
  by-type false false true d e pa pb pc pd pe same = ipv6 same (eqb-true (number s 1 1) 6 pc)
  by-type false false false true e pa pb pc pd pe same = bare-reset same (eqb-true (number s 1 1) 8 pd)
  by-type false false false false true pa pb pc pd pe same = key R.key_by_crate refl same (eqb-true (number s 1 1) 9 pe)
  by-type false false false false false pa pb pc pd pe same = nothing same

-- slices that differ in ignored bytes alone get one verdict
pub ignored-bytes-ignored : (R : Reading) (s t : List ℕ) → Alike R s t → read R s ≡ read R t
ignored-bytes-ignored R s t alike = by-type R s t alike.long _ _ _ _ _ refl refl refl refl refl alike.same

-- and one answer of the call
pub call-ignored-bytes-ignored : (κs κs' : _) (a a' : _) (r r' : _) (st st' : _) → reads.Post κs a r st → reads.Post κs' a' r' st' → Alike in_use a.0.now a'.0.now → verdict r ≡ verdict r'
call-ignored-bytes-ignored κs κs' a a' r r' st st' p q alike = p ∙ ignored-bytes-ignored in_use a.0.now a'.0.now alike ∙ sym q

-- ---- The ignored bytes are those of the pictures (Layout), type by type

-- so many numbers from one on
abbrev span : ℕ → ℕ → List ℕ
span at zero = []
span at (suc n) = at ∷ span (at + 1) n

-- the ignored bytes of fields that stand from `at` on
abbrev ignored_from : ℕ → List Field → List ℕ
ignored_from at [] = []
ignored_from at (ignored n ∷ fs) = span at n ++ ignored_from (at + n) fs
ignored_from at (total ∷ fs) = ignored_from (at + 4) fs
ignored_from at (value l n ∷ fs) = ignored_from (at + n) fs
ignored_from at (payload l n ∷ fs) = ignored_from (at + n) fs

-- the picture of a type in a version, as far as its payloads
abbrev picture_of : Reading → RtrProtocolVersion → RtrPduType → List Field
picture_of R v SerialNotify = serial_layout
picture_of R v SerialQuery = serial_layout
picture_of R v ResetQuery = bare_layout
picture_of R v CacheResponse = response_layout
picture_of R v IPv4Prefix = ipv4_layout
picture_of R v IPv6Prefix = ipv6_layout
picture_of R v EndOfData = end_layout v
picture_of R v CacheReset = bare_layout
picture_of R v RouterKey = key_fields R.key_by_crate
picture_of R v ErrorReport = report_layout

key-ignored : (b : Bool) → cond b (2 ∷ 3 ∷ 9 ∷ []) (3 ∷ []) ≡ ignored_from 2 (key_fields b)
key-ignored true = refl
key-ignored false = refl

pub ignored-by-picture : (R : Reading) (v : RtrProtocolVersion) (t : RtrPduType) → ignored_bytes R (type_number t) ≡ ignored_from 2 (picture_of R v t)
ignored-by-picture R v SerialNotify = refl
ignored-by-picture R v SerialQuery = refl
ignored-by-picture R v ResetQuery = refl
ignored-by-picture R v CacheResponse = refl
ignored-by-picture R v IPv4Prefix = refl
ignored-by-picture R v IPv6Prefix = refl
ignored-by-picture R V0 EndOfData = refl
ignored-by-picture R V1 EndOfData = refl
ignored-by-picture R v CacheReset = refl
ignored-by-picture R v RouterKey = key-ignored R.key_by_crate
ignored-by-picture R v ErrorReport = refl

-- ---- `among` is being in the list: at some place of it

among-found : (i : ℕ) (l : List ℕ) → among i l ≡ true → (k : ℕ) × (k < length l) × (get_or l k 0 ≡ i)
among-found i [] e = absurd (false≢true e)
among-found i (x ∷ xs) e = go (among-found i xs) (eqb i x) refl e
  where
    go : (among i xs ≡ true → (k : ℕ) × (k < length xs) × (get_or xs k 0 ≡ i)) → (b : Bool) → eqb i x ≡ b → cond b true (among i xs) ≡ true → (k : ℕ) × (k < suc (length xs)) × (get_or (x ∷ xs) k 0 ≡ i)
    go later true q h = (0, omega arith, sym (eqb-true i x q))
    go later false q h = let f = later h in (suc f.0, omega (arith, f.1), f.2)

among-standing : (i : ℕ) (l : List ℕ) (k : ℕ) → k < length l → get_or l k 0 ≡ i → among i l ≡ true
among-standing i [] k less e = absurd (omega arith)
among-standing i (x ∷ xs) zero less e = ap (λ (b : Bool). cond b true (among i xs)) (eq-eqb i x (sym e))
among-standing i (x ∷ xs) (suc k) less e = go (eqb i x) (among-standing i xs k (omega arith) e)
  where
    go : (b : Bool) → among i xs ≡ true → cond b true (among i xs) ≡ true
    go true h = refl
    go false h = h

pub among-exactly : (i : ℕ) (l : List ℕ) → (among i l ≡ true) ↔ ((k : ℕ) × (k < length l) × (get_or l k 0 ≡ i))
among-exactly i l = (among-found i l, λ f. among-standing i l f.0 f.1 f.2)
