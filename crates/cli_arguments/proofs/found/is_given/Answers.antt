use Rattle.std.proofs.Common.{◌≡◌, ◌∙◌, None, sym}
use Rattle.clap.specs.Words.{first_of, found_of, rows_of}
use Rattle.clap.proofs.WalkLemmas.{first_value-rows}
use Rattle.cli_arguments.proofs.Numbers.{given, no_first, no_one, not_given}
use Rattle.cli_arguments.proofs.found.is_given.Goals as goal

pub returns-clause-absent : goal.returns-clause-absent
returns-clause-absent c = λ is_none.
    let rows = rows_of (found_of c.args.found.now) in
    let first = c.get_str.ensures ∙ first_value-rows (found_of c.args.found.now) c.args.id.now in
    let none : first_of c.args.id.now rows ≡ None = sym first ∙ not_given _ c.get_str.result (sym c.is_some.ensures ∙ is_none) in
    (none, no_one c.args.id.now rows none)

pub returns-clause-given : goal.returns-clause-given
returns-clause-given c = λ is_some.
    let rows = rows_of (found_of c.args.found.now) in
    let first = c.get_str.ensures ∙ first_value-rows (found_of c.args.found.now) c.args.id.now in
    let some = given _ c.get_str.result (sym c.is_some.ensures ∙ is_some) in
    (λ none. some (first ∙ none), λ none. some (first ∙ no_first c.args.id.now rows none))
