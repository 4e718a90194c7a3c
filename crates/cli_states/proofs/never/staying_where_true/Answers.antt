use Rattle.std.proofs.Common.{◌≡◌, ◌∙◌, ap, map, option_map, subst, List}
use Rattle.std.proofs.lemmas.Result.{IfOk-weaker}
use Rattle.std.specs.Prelude.{IfOk}
use Rattle.diagram_declarations.specs.Decls.{Declared, is_input}
use Rattle.diagram_declarations.specs.declared.decls.Var.{Var}
use Rattle.scan_cycle.specs.Programs.{diagram_of}
use Rattle.scan_cycle.specs.Runs.{OneScan, after_each}
use Rattle.causes_query.specs.Assignment.{input_variables}
use Rattle.invariant_cases.specs.Allowing.{AreApart}
use Rattle.invariant_cases.specs.Assuming.{Assumed}
use Rattle.invariant_sets.specs.Invariants.{AreAllowed, IsStayingAssuming}
use Rattle.invariant_sets.specs.Never.{IsSo}
use Rattle.cli_states.specs.Never.{of_inputs}
use Rattle.cli_states.proofs.Allowing.{are_inputs, so_where_given}
use Rattle.cli_states.proofs.never.staying_where_true.Goals as goal

-- What is assumed is of the inputs of the program.
inputs_are : (c : goal.After-drop-inputs) → record { inputs = c.deref.result.now; expression = option_map (λ e. e.now) c.args.assumed }
    ≡ of_inputs c.args.setting.now.program (option_map (λ e. e.now) c.args.assumed)
inputs_are c =
    are_inputs c.args.setting.now.program c.deref.result.now (option_map (λ e. e.now) c.args.assumed)
    (c.deref.ensures.value ∙ c.in_ok-inputs.ensures
    ∙ ap (λ (vs : List Var). input_variables (map is_input vs)) (c.vars.ensures.value ∙ ap (λ (d : Declared). d.vars) c.decls.ensures))

pub returns-clause-stays : goal.returns-clause-stays
returns-clause-stays c =
    subst (λ (a : Assumed). IfOk c.staying_assuming.result (λ staying. IsStayingAssuming c.args.setting.now.program a c.args.setting.now.state staying)) (inputs_are c)
    c.staying_assuming.ensures.stays

pub returns-clause-so : goal.returns-clause-so
returns-clause-so c =
    let p = c.args.setting.now.program in
    let s = c.args.setting.now.state in
    IfOk-weaker c.staying_assuming.result _ _
    (λ staying so. so_where_given p s (option_map (λ e. e.now) c.args.assumed) c.allowed_where_given.ensures c.requires.fits staying so)
    (subst (λ (a : Assumed). IfOk c.staying_assuming.result (λ staying. (scans : List OneScan) → AreAllowed p a scans s.held
    → IsSo staying.steady (after_each (diagram_of p) scans s.held) × AreApart staying.apart (after_each (diagram_of p) scans s.held))) (inputs_are c)
    c.staying_assuming.ensures.so)
