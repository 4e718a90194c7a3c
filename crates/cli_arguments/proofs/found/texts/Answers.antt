use Rattle.std.proofs.Common.{refl, sym}
use Rattle.std.proofs.lemmas.Result.{IfOk-weaker}
use Rattle.clap.specs.Words.{found_of}
use Rattle.clap.proofs.WalkLemmas.{raw_values-rows}
use Rattle.cli_arguments.proofs.found.texts.Goals as goal

pub returns-in-Some-clause-ok : goal.returns-in-Some-clause-ok
returns-in-Some-clause-ok c =
    let rows = raw_values-rows (found_of c.args.found.now) c.args.id.now in
    let given = c.in-Some.ensures in
    IfOk-weaker c.copies_of.result _ _ (λ v same. rw (← rows, ← given) (sym same)) c.copies_of.ensures.ok

pub returns-in-None-clause-ok : goal.returns-in-None-clause-ok
returns-in-None-clause-ok c =
    let rows = raw_values-rows (found_of c.args.found.now) c.args.id.now in
    let given = c.in-None.ensures in
    rw (← rows, ← given, c.new.ensures.items) refl
