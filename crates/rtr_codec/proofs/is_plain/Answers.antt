-- `is_plain` tells of a prefix that it is whole, of version 1, of its type and with its lengths in rule: what each test says, put together. Assumes nothing.
use mathlib.Core.Path.{sym, ◌∙◌}
use native.Mathlib.Omega.{arith}
use borrow.Author.Tests.{leb-true}
use Rattle.rtr_codec.specs.Read.{header_length}
use Rattle.rtr_codec.proofs.Plain.{no}
use Rattle.rtr_codec.proofs.is_plain.Goals as goal

pub returns-then-input-n : goal.returns-then-input-n
returns-then-input-n c = no

pub returns-then-be8-pdu_type : goal.returns-then-be8-pdu_type
returns-then-be8-pdu_type c = no

pub returns-then-be8-ne1 : goal.returns-then-be8-ne1
returns-then-be8-ne1 c = no

pub returns-then-be32-n : goal.returns-then-be32-n
returns-then-be32-n c = no

pub returns-then-be8-limit : goal.returns-then-be8-limit
returns-then-be8-limit c = no

pub returns : goal.returns
unfolding header_length
returns c e =
    let whole = c.if-input-n.false in
    let type = c.if-be8-pdu_type.false in
    let version = c.if-be8-ne1.false in
    let length = c.if-be32-n.false in
    let limit = c.if-be8-limit.false in
    let order = leb-true c.be8-4.result c.be8-5.result e in
    let least = c.requires in
    let b0 = c.be8-2.ensures in
    let b1 = c.be8.ensures in
    let b4 = c.be32.ensures in
    let b10 = c.be8-3.ensures in
    let b9 = c.be8-4.ensures in
    let c10 = c.be8-5.ensures in
    ((sym length ∙ b4, (omega arith, omega arith)), (sym b0 ∙ version, (sym b1 ∙ type, (omega (arith, order), omega arith))))
