-- A table whose numbers fit is guessed from its numbers, and a guess always fits. Assumes nothing.
use Prim.Native.Nat.{ℕ, ◌%◌}
use mathlib.Core.List.{List}
use mathlib.Core.Path.{◌≡◌}
use native.Mathlib.Omega.{arith}
use Rattle.rtr_receiver.specs.Fits.{TableNumbersFit}
use Rattle.rtr_receiver.specs.declared.Table.{Table}
use Rattle.rtr_numbers.specs.Numbers.{table_numbers_of}
use Rattle.rtr_numbers.specs.Back.{low_table}

pub low-back : (t : Table) → TableNumbersFit t → low_table (table_numbers_of t) 0 ≡ t
low-back t h =
    let a : t.session % 65536 ≡ t.session = omega arith in
    let b : t.serial % 4294967296 ≡ t.serial = omega arith in
    let c : t.refresh % 4294967296 ≡ t.refresh = omega arith in
    let d : t.retry % 4294967296 ≡ t.retry = omega arith in
    let e : t.expire % 4294967296 ≡ t.expire = omega arith in
    λ i. record { session = a i; serial = b i; refresh = c i; retry = d i; expire = e i }

pub low_fits : (n : List ℕ) (from : ℕ) → TableNumbersFit (low_table n from)
low_fits n from = record { session = omega arith; serial = omega arith; refresh = omega arith; retry = omega arith; expire = omega arith }
