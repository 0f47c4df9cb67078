-- The value of a line, by where the line ends: a line that ends nowhere, is shorter than the name or begins otherwise has none; else the line is the name and the value. Assumes nothing.
use Rattle.std.specs.Prelude.{None}
use Prim.Native.Nat.{ℕ, zero, suc, ◌+◌, ◌-◌, ◌≤◌, ◌<◌}
use mathlib.Core.Bool.{true, false, true≢false}
use mathlib.Core.List.{List, [], ◌∷◌, ◌++◌}
use mathlib.Core.Path.{◌≡◌, sym, ap, ◌∙◌, subst}
use native.Mathlib.Omega.{arith}
use lib.ListN.{length, take, drop, length-drop}
use lib.Seq.{drop-drop, take-add, take-take}
use Rattle.rtr_listed.specs.Listed.{Line, same_text, lines_of}
use Rattle.rtr_listed.specs.Private.{line_length, lines_at, between, ValueAt, ValueIs}
use Rattle.rtr_listed.specs.declared.Cursor.{Cursor}
use Rattle.rtr_listed.proofs.Texts.{same-equal, length-other}
use Rattle.rtr_listed.proofs.Lines.{Unended, lines-ended, lines-unended}

take-at-most : (n : ℕ) (d : List ℕ) → length (take n d) ≤ n
take-at-most zero d = omega arith
take-at-most (suc n) [] = omega arith
take-at-most (suc n) (x ∷ d) = omega (arith, take-at-most n d)

module _ (s : List ℕ) (c : Cursor) (name : List ℕ) (end : ℕ) (in-text : c.at ≤ length s) (ends : end ≡ c.at + line_length (drop c.at s)) where
  abbrev d : List ℕ
  d = drop c.at s

  abbrev k : ℕ
  k = line_length d

  pub value-unended : end ≡ length s → ValueIs s c name None
  value-unended e f l ls p q =
      let all : k ≡ length d = omega (arith, ends, length-drop c.at s) in
      let open' : l.ended ≡ false = subst Unended p (lines-unended d all) in
      absurd (true≢false (sym q ∙ open'))

  module _ (inside : end < length s) where
    short : k < length d
    short = omega (arith, ends, length-drop c.at s)

    -- the line there, whatever it is called
    the-line : (l : Line) (ls : List Line) → lines_at s c ≡ l ∷ ls → l.bytes ≡ take k d
    the-line l ls p = sym (ap bytes_of (sym (lines-ended d short) ∙ p))
      where
        bytes_of : List Line → List ℕ
        bytes_of [] = []
        bytes_of (x ∷ xs) = x.bytes

    pub value-short : end - c.at < length name → ValueIs s c name None
    value-short h f l ls p q =
        let few : length (take (length name) l.bytes) ≤ length l.bytes = take-fewer (length name) l.bytes in
        let k' : length l.bytes ≤ k = rw (the-line l ls p) (take-at-most k d) in
        length-other (take (length name) l.bytes) name (λ e. omega (arith, few, k', e, ends))
      where
        take-fewer : (n : ℕ) (x : List ℕ) → length (take n x) ≤ length x
        take-fewer zero x = omega arith
        take-fewer (suc n) [] = omega arith
        take-fewer (suc n) (y ∷ x) = omega (arith, take-fewer n x)

    module _ (from : ℕ) (long : length name ≤ end - c.at) (begins : from ≡ c.at + length name) where
      front : between s c.at from ≡ take (length name) d
      front = let n : from - c.at ≡ length name = omega arith in ap (λ (x : ℕ). take x d) n

      pub value-other : same_text (between s c.at from) name ≡ false → ValueIs s c name None
      value-other other f l ls p q =
          ap (λ (x : List ℕ). same_text x name) (ap (take (length name)) (the-line l ls p) ∙ take-take (length name) k d (omega (arith, ends)) ∙ sym front) ∙ other

      pub value_there : c.fits ≡ true → same_text (between s c.at from) name ≡ true → ValueAt s c name from end
      value_there f named' =
          let span : k ≡ length name + (end - from) = omega (arith, ends) in
          let behind : drop (length name) d ≡ drop from s = drop-drop (length name) c.at s ∙ ap (λ (x : ℕ). drop x s) (sym begins) in
          let parts : take k d ≡ name ++ between s from end =
          ap (λ (x : ℕ). take x d) span
          ∙ take-add (length name) (end - from) d
          ∙ (λ i. (sym front ∙ same-equal (between s c.at from) name named') i ++ take (end - from) (behind i)) in
          let rest : drop (suc k) d ≡ drop (suc end) s = drop-drop (suc k) c.at s ∙ ap (λ (x : ℕ). drop x s) (next k end ends) in
          record { fit = f; line = lines-ended d short ∙ (λ i. record { bytes = parts i; ended = true } ∷ lines_of (rest i)); order = omega (arith, ends); inside = inside }
        where
          next : (j e : ℕ) → e ≡ c.at + j → c.at + suc j ≡ suc e
          next j e h = omega (arith, h)
