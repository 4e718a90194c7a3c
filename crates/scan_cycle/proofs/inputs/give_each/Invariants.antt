use Rattle.std.proofs.Common.{◌≡◌, ◌≤◌, ◌++◌, take, drop, map, length}
use Rattle.diagram_declarations.specs.Decls.{is_input}
use Rattle.scan_cycle.specs.Scan.{given}
use Rattle.scan_cycle.proofs.inputs.give_each.Given as goal

abbrev pub invariant-loop-number : goal.invariant-loop-number
invariant-loop-number g l = record {
  within : l.next ≤ length l.inputs;
  rest : take l.number l.values ++ given (drop l.number (map is_input l.vars)) (drop l.next l.inputs) (drop l.number l.values)
      ≡ given (map is_input l.vars) l.inputs l.fn.values;
}
