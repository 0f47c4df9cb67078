-- Records, their order, and a table as a list of them: document 01, "Stream and receiver" ("A room is .." to "Host bits are kept as sent") and
-- refusals 16, 17 and 18 of its "Refusal numbers".
use Rattle.std.specs.Prelude.{ℕ, suc, ◌+◌, ◌*◌, ◌/◌, ◌%◌, ◌≤◌, Bool, true, false, cond, ◌&&◌, ◌||◌, List, [], ◌∷◌, ◌≡◌, length, leb, ltb, eqb}
use Rattle.rtr_room.specs.declared.Record.{Record}

-- ---- a record: six numbers. The first packs family, prefix length and max; then come the address in four numbers, of which IPv4 fills the first alone, and the AS number

-- the first number of a record, of its three parts
abbrev pub packed : ℕ → ℕ → ℕ → ℕ
packed family length max = family * 65536 + length * 256 + max

-- an IPv4 prefix's record, of prefix length, max, address and AS number; the address is kept as sent, host bits and all
abbrev pub ipv4_record : ℕ → ℕ → ℕ → ℕ → Record
ipv4_record length max address asn = record { kind = packed 4 length max; w0 = address; w1 = 0; w2 = 0; w3 = 0; asn = asn }

-- an IPv6 prefix's record, of prefix length, max, the four numbers of the address as sent, and AS number
abbrev pub ipv6_record : ℕ → ℕ → ℕ → ℕ → ℕ → ℕ → ℕ → Record
ipv6_record length max w0 w1 w2 w3 asn = record { kind = packed 6 length max; w0 = w0; w1 = w1; w2 = w2; w3 = w3; asn = asn }

-- the family in a record's first number
abbrev pub family_of : Record → ℕ
family_of r = r.kind / 65536

-- the prefix length in it
abbrev pub prefix_of : Record → ℕ
prefix_of r = r.kind / 256 % 256

-- the max in it
abbrev pub max_of : Record → ℕ
max_of r = r.kind % 256

-- "Lengths pass check 6": prefix length ≤ max ≤ the family's limit
abbrev pub lengths_within : ℕ → Record → Bool
lengths_within limit r = leb (prefix_of r) (max_of r) && leb (max_of r) limit

-- a record in rule: family 4 with lengths to 32 and the other address numbers 0, or family 6 with lengths to 128
unfoldable pub in_rule : Record → Bool
in_rule r =
    (eqb (family_of r) 4 && (lengths_within 32 r && (eqb r.w1 0 && (eqb r.w2 0 && eqb r.w3 0))))
    || (eqb (family_of r) 6 && lengths_within 128 r)

-- the address and the AS number of a record are of 32 bits: a room's numbers are
pub record WordsFit (r : Record) : Type 0 where
  pub w0 : r.w0 ≤ 4294967295
  pub w1 : r.w1 ≤ 4294967295
  pub w2 : r.w2 ≤ 4294967295
  pub w3 : r.w3 ≤ 4294967295
  pub asn : r.asn ≤ 4294967295

-- so are those of each
pub data AllFit : List Record → Type 0 where
  none : AllFit []
  one : {r : Record} {t : List Record} → WordsFit r → AllFit t → AllFit (r ∷ t)

-- two records are one where all six numbers are equal
unfoldable pub same : Record → Record → Bool
same a b =
    eqb a.kind b.kind
    && (eqb a.w0 b.w0 && (eqb a.w1 b.w1 && (eqb a.w2 b.w2 && (eqb a.w3 b.w3 && eqb a.asn b.asn))))

-- ---- the order: "Records ascend strictly by family, address, length, max, AS number"

-- what records are sorted by, in that order
abbrev pub key : Record → List ℕ
key r = family_of r ∷ r.w0 ∷ r.w1 ∷ r.w2 ∷ r.w3 ∷ prefix_of r ∷ max_of r ∷ r.asn ∷ []

-- of two keys the one that is lower at the first place where they differ comes first
unfoldable pub lower : List ℕ → List ℕ → Bool
lower (x ∷ xs) (y ∷ ys) = ltb x y || (eqb x y && lower xs ys)
lower (x ∷ xs) [] = false
lower [] ys = false

-- a record comes before another where its key does
unfoldable pub before : Record → Record → Bool
before a b = lower (key a) (key b)

-- a record comes before the first of these
abbrev pub above : Record → List Record → Bool
above r [] = true
above r (x ∷ t) = before r x

-- each record comes before the next
unfoldable pub ordered : List Record → Bool
ordered [] = true
ordered (r ∷ t) = above r t && ordered t

-- each record is in rule
unfoldable pub all_in_rule : List Record → Bool
all_in_rule [] = true
all_in_rule (r ∷ t) = in_rule r && all_in_rule t

-- a table: records in rule that ascend strictly
abbrev pub is_table : List Record → Bool
is_table t = all_in_rule t && ordered t

-- ---- entering and leaving: refusals 16, 17 and 18

-- the record is one of these
unfoldable pub is_in : Record → List Record → Bool
is_in r [] = false
is_in r (x ∷ t) = same x r || is_in r t

-- how many of these come before the record: where it stands in a table, or would stand
unfoldable pub rank : Record → List Record → ℕ
rank r [] = 0
rank r (x ∷ t) = cond (before x r) (suc (rank r t)) (rank r t)

-- a record goes in before the first that does not come before it
unfoldable pub insert : Record → List Record → List Record
insert r [] = r ∷ []
insert r (x ∷ t) = cond (before x r) (x ∷ insert r t) (r ∷ x ∷ t)

-- the first that is the record goes out
unfoldable pub remove : Record → List Record → List Record
remove r [] = []
remove r (x ∷ t) = cond (same x r) t (x ∷ remove r t)

-- every record of the second goes into the first
unfoldable pub join : List Record → List Record → List Record
join t [] = t
join t (r ∷ u) = insert r (join t u)

-- no record is in both
abbrev pub Apart : List Record → List Record → Type 0
Apart t u = (x : Record) → is_in x t ≡ true → is_in x u ≡ true → ⊥

-- what entering or leaving comes to: the table after it, or a refusal's number
pub data Change : Type 0 where
  changed : List Record → Change
  refused : ℕ → Change

-- "announcement already in the working room" is 17, then "new announcement with 1,024 in", here the limit, is 18
unfoldable pub enter : ℕ → Record → List Record → Change
enter limit r t = cond (is_in r t) (refused 17) (cond (leb limit (length t)) (refused 18) (changed (insert r t)))

-- "withdrawal not in" is 16
unfoldable pub leave : Record → List Record → Change
leave r t = cond (is_in r t) (changed (remove r t)) (refused 16)
