use Rattle.std.proofs.Common.{◌∙◌, ap, sym, Some}
use Rattle.clap.specs.Words.{found_of}
use Rattle.clap.proofs.WalkLemmas.{first_value-rows}
use Rattle.cli_arguments.proofs.found.optional.Goals as goal

pub returns-in_ok-copy-in-Some-clause-ok : goal.returns-in_ok-copy-in-Some-clause-ok
returns-in_ok-copy-in-Some-clause-ok c =
    sym (first_value-rows (found_of c.args.found.now) c.args.id.now) ∙ sym c.in-Some.ensures ∙ sym (ap Some c.in_ok-copy-in-Some.ensures.ok)

pub returns-in-None-clause-ok : goal.returns-in-None-clause-ok
returns-in-None-clause-ok c = sym (first_value-rows (found_of c.args.found.now) c.args.id.now) ∙ sym c.in-None.ensures
