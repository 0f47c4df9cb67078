-- `hingemoss_full_run` finds the version and the table's numbers, and runs. That the lent numbers are of 32 bits is found without an answer. Assumes nothing.
use mathlib.Core.Path.{refl, ◌∙◌}
use Rattle.rtr_c.proofs.Steps.{numbered, counted}
use Rattle.rtr_models.specs.declared.RtrProtocolVersion.{RtrProtocolVersion}
use Rattle.rtr_encode.specs.Encode.{Encoded}
use Rattle.rtr_receiver.specs.declared.Table.{Table}
use Rattle.rtr_cache.specs.Cache.{full_run_says, run_writing}
use Rattle.rtr_c.specs.Calls.{full_run_c}
use Rattle.rtr_c.proofs.Serving.{run-unversioned, run-untabled, run-answered}
use Rattle.rtr_c.proofs.hingemoss_full_run.Goals as goal

pub returns-clause-says : goal.returns-clause-says
unfolding full_run_c
returns-clause-says c =
    let run : RtrProtocolVersion → Table → Encoded = λ v t. let a = c.args in full_run_says v t a.table.now a.count a.out.now in
    let a = c.args in
    run-answered run a.version a.end.now a.out.now c.from_u8.result c.from_u8.ensures
    _ c.in-Some.is c.table_of.result c.table_of.ensures
    _ c.full_run-answer.result _ _ _ c.in-Some-table_of.is c.full_run-answer.ensures.says (c.number.ensures ∙ numbered run_writing (λ n. refl) c.full_run-answer.result) (c.amount.ensures ∙ counted run_writing (λ n. refl) c.full_run-answer.result)

pub returns-in_default-table_of-clause-says : goal.returns-in_default-table_of-clause-says
unfolding full_run_c
returns-in_default-table_of-clause-says c =
    let run : RtrProtocolVersion → Table → Encoded = λ v t. let a = c.args in full_run_says v t a.table.now a.count a.out.now in
    let a = c.args in
    run-untabled run a.version a.end.now a.out.now c.from_u8.result c.from_u8.ensures
    _ c.in-Some.is c.table_of.result c.table_of.ensures c.in_default-table_of.is

pub returns-in_default-clause-says : goal.returns-in_default-clause-says
unfolding full_run_c
returns-in_default-clause-says c =
    let run : RtrProtocolVersion → Table → Encoded = λ v t. let a = c.args in full_run_says v t a.table.now a.count a.out.now in
    let a = c.args in
    run-unversioned run a.version a.end.now a.out.now c.from_u8.result c.from_u8.ensures c.in_default.is
