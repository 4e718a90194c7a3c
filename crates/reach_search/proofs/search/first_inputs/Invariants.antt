-- What was listed so far, and what is from here on, are what is asked about.
use Rattle.std.proofs.Common.{◌≡◌, ◌++◌, drop, map}
use Rattle.diagram_declarations.specs.Decls.{is_input}
use Rattle.reach_runs.specs.Asking.{question_of}
use Rattle.reach_search.specs.Searches.{input_value}
use Rattle.reach_search.proofs.AskingLaws.{asked_from}
use Rattle.reach_search.proofs.search.first_inputs.Given as goal

abbrev pub invariant-loop-var : goal.invariant-loop-var
invariant-loop-var l =
    l.inputs.items ++ asked_from (input_value (question_of l.query)) l.var (drop l.var (map is_input l.vars))
    ≡ asked_from (input_value (question_of l.query)) 0 (map is_input l.vars)
