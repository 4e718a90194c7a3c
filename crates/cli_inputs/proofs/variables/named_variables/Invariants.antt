use Rattle.std.proofs.Common.{take, map, string_bytes}
use Rattle.cli_inputs.specs.Variables.{AreVariables}
use Rattle.cli_inputs.proofs.variables.named_variables.Given as goal

abbrev pub invariant-loop-word : goal.invariant-loop-word
invariant-loop-word l = AreVariables l.decls (map string_bytes (take l.word-index l.words)) l.variables.items
