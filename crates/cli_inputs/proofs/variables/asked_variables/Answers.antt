use Rattle.std.proofs.Common.{sym, refl, [], ◌∷◌, map, string_bytes}
use Rattle.cli_inputs.proofs.UnknownWords.{unknown_first}
use Rattle.cli_inputs.proofs.variables.asked_variables.Goals as goal

pub returns-in_default-clause-fault : goal.returns-in_default-clause-fault
returns-in_default-clause-fault c = unknown_first c.args.decls.now c.args.coil.now (map string_bytes c.args.inputs.now) (sym c.in_default.ensures)

pub returns-in-Err-clause-fault : goal.returns-in-Err-clause-fault
returns-in-Err-clause-fault c = c.in-Err.ensures.fault (c.args.coil.now ∷ []) (c.in-Some.coil ∷ []) (rw (sym c.in-Some.ensures) refl) refl
