use Rattle.std.proofs.Common.{◌∙◌, sym}
use Rattle.std.proofs.lemmas.Result.{IfErr-weaker, IfOk-weaker}
use Rattle.clap.specs.Words.{found_of}
use Rattle.clap.proofs.WalkLemmas.{first_value-rows}
use Rattle.cli_arguments.proofs.Faults.{out_of_memory}
use Rattle.cli_arguments.proofs.found.text.Goals as goal

pub returns-in-Some-clause-ok : goal.returns-in-Some-clause-ok
returns-in-Some-clause-ok c =
    let rows = first_value-rows (found_of c.args.found.now) c.args.id.now in
    let given = c.in-Some.ensures in
    IfOk-weaker c.copied.result _ _ (λ s same. cc) c.copied.ensures.ok

pub returns-in-Some-clause-err : goal.returns-in-Some-clause-err
returns-in-Some-clause-err c = IfErr-weaker c.copied.result _ _ (λ e memory. out_of_memory _ e memory) c.copied.ensures.err

pub returns-in-None-clause-err : goal.returns-in-None-clause-err
returns-in-None-clause-err c = sym (first_value-rows (found_of c.args.found.now) c.args.id.now) ∙ sym c.in-None.ensures
