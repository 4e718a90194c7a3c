use Rattle.std.proofs.Common.{◌∙◌, Some, ap, sym}
use Rattle.clap.specs.Words.{found_of, rows_of}
use Rattle.clap.proofs.WalkLemmas.{first_value-rows}
use Rattle.cli_arguments.proofs.Faults.{no_control_of}
use Rattle.cli_arguments.proofs.words.control_of.Goals as goal

pub returns-in-None-clause-ok : goal.returns-in-None-clause-ok
returns-in-None-clause-ok c = sym (first_value-rows (found_of c.args.found.now) _) ∙ sym c.in-None.ensures

pub returns-in-Some-on-clause-ok : goal.returns-in-Some-on-clause-ok
returns-in-Some-on-clause-ok c = sym (first_value-rows (found_of c.args.found.now) _) ∙ sym c.in-Some-on.ensures ∙ ap Some c.in-Some-on.is-on

pub returns-in-Some-clause-err : goal.returns-in-Some-clause-err
returns-in-Some-clause-err c =
    let is = sym (first_value-rows (found_of c.args.found.now) _) ∙ sym c.in-Some.ensures in
    no_control_of (rows_of (found_of c.args.found.now)) c.in-Some.field-0.now is c.in-Some.not-on
