-- What the private functions of src/lib.rt ask and find; no public promise rests on this page.
use Rattle.std.specs.Prelude.{ℕ, ◌≤◌, List, ◌≡◌, length}
use Rattle.rtr_codec.specs.Bytes.{number}
use Rattle.rtr_codec.specs.Read.{header_length}

-- what stands when a kind is looked at: n is the header's length, and so many bytes are there, the header among them
abbrev pub Framed : ℕ → List ℕ → Type 0
Framed n s = (n ≡ header_length s) × ((8 ≤ length s) × (n ≤ length s))

-- the quick way of reading a prefix: a whole prefix of version 1 of this type and length stands at the front, and its lengths are in rule
abbrev pub PlainPrefix : ℕ → ℕ → ℕ → List ℕ → Type 0
PlainPrefix type n limit s = Framed n s × ((number s 0 1 ≡ 1) × ((number s 1 1 ≡ type) × ((number s 9 1 ≤ number s 10 1) × (number s 10 1 ≤ limit))))
