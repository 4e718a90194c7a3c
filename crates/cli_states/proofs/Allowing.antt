-- What is assumed of the inputs of a program, in the runs of which something stays so.
use Rattle.std.proofs.Common.{◌≡◌, ◌∙◌, ap, refl, sym, Bool, List, map, ℕ, Option}
use Rattle.std.specs.Prelude.{All}
use Rattle.st_expression.specs.declared.expression.Expression.{Expression}
use Rattle.diagram_declarations.specs.Decls.{is_input}
use Rattle.diagram_program.specs.Program.{Drawing}
use Rattle.scan_cycle.specs.Programs.{diagram_of}
use Rattle.scan_cycle.specs.Runs.{OneScan, after_each}
use Rattle.scan_cycle.specs.Standing.{Fits, Standing}
use Rattle.causes_query.specs.Assignment.{input_variables}
use Rattle.causes_query.proofs.Asking.{inputs_of}
use Rattle.invariant_cases.specs.Allowing.{AreApart}
use Rattle.invariant_sets.specs.Invariants.{AllowsGiven, AreAllowed, IsGivenAllowed}
use Rattle.invariant_sets.specs.Never.{IsSo}
use Rattle.invariant_sets.specs.declared.staying.Staying.{Staying}
use Rattle.cli_states.specs.Never.{of_inputs}

-- They are those of the program.
pub are_inputs : (p : Drawing) (inputs : List ℕ) (assumed : Option Expression) → inputs ≡ input_variables (map is_input p.decls.vars)
    → record { inputs = inputs; expression = assumed } ≡ of_inputs p assumed
are_inputs p inputs assumed are =
    ap (λ (ns : List ℕ). record { inputs = ns; expression = assumed }) (are ∙ ap (λ (flags : List Bool). input_variables flags) (sym (inputs_of p)))

-- It is so in scans that give each input a value with which that is true.
pub so_where_given : (p : Drawing) (s : Standing) (assumed : Option Expression) → AllowsGiven p → Fits p s → (staying : Staying)
    → ((scans : List OneScan) → AreAllowed p (of_inputs p assumed) scans s.held
    → IsSo staying.steady (after_each (diagram_of p) scans s.held) × AreApart staying.apart (after_each (diagram_of p) scans s.held))
    → (scans : List OneScan) → All (IsGivenAllowed (of_inputs p assumed)) scans
    → IsSo staying.steady (after_each (diagram_of p) scans s.held) × AreApart staying.apart (after_each (diagram_of p) scans s.held)
so_where_given p s assumed law fits staying so scans all = so scans (law (of_inputs p assumed) refl s fits scans all)
