-- The inputs of a program, in order of declaration.
use Rattle.std.proofs.Common.{◌≡◌, map, refl}
use Rattle.diagram_declarations.specs.Decls.{is_input}
use Rattle.diagram_program.specs.Program.{Drawing}
use Rattle.scan_cycle.specs.Programs.{diagram_of}
use Rattle.causes_query.specs.Assignment.{input_variables}
use Rattle.invariant_sets.specs.Invariants.{input_numbers}

pub numbers_of : (p : Drawing) → input_variables (map is_input p.decls.vars) ≡ input_numbers p
unfolding diagram_of
numbers_of p = refl
