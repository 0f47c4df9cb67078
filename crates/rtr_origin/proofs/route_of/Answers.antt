-- `route_of`: six numbers, of IPv4, of IPv6 or of neither. Assumes nothing.
use mathlib.Core.Path.{◌≡◌, sym, ◌∙◌}
use native.Mathlib.Omega.{arith}
use lib.ListN.{length}
use Rattle.rtr_origin.proofs.Numbers.{not-six, found-four, found-six, found_none}
use Rattle.rtr_origin.proofs.route_of.Goals as goal

pub returns-in_default : goal.returns-in_default
returns-in_default c = not-six c.args.numbers.now (λ size. omega (arith, size, c.in_default.len_below))

pub returns-in_default-2 : goal.returns-in_default-2
returns-in_default-2 c = not-six c.args.numbers.now (λ size. omega (arith, size, c.in_default.len_at_least))

pub returns-then-is_ipv4 : goal.returns-then-is_ipv4
returns-then-is_ipv4 c =
    let six : length c.args.numbers.now ≡ 6 = omega (arith, c.in-len6.len_at_least, c.in-len6.len_below) in
    found-four c.args.numbers.now six _ c.narrow-length.ensures (sym c.is_ipv4.ensures ∙ c.if-is_ipv4.true)

pub returns-then-is_ipv6 : goal.returns-then-is_ipv6
returns-then-is_ipv6 c =
    let six : length c.args.numbers.now ≡ 6 = omega (arith, c.in-len6.len_at_least, c.in-len6.len_below) in
    found-six c.args.numbers.now six _ c.narrow-length.ensures (sym c.is_ipv4.ensures ∙ c.if-is_ipv4.false) (sym c.is_ipv6.ensures ∙ c.if-is_ipv6.true)

pub returns : goal.returns
returns c =
    let six : length c.args.numbers.now ≡ 6 = omega (arith, c.in-len6.len_at_least, c.in-len6.len_below) in
    found_none c.args.numbers.now six _ c.narrow-length.ensures (sym c.is_ipv4.ensures ∙ c.if-is_ipv4.false) (sym c.is_ipv6.ensures ∙ c.if-is_ipv6.false)
