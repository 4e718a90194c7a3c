use Rattle.std.proofs.Common.{◌≡◌, map, string_bytes}
use Rattle.cli_perform.proofs.Names.{names_before}
use Rattle.cli_perform.proofs.coils.coil_names.Given as goal

abbrev pub invariant-loop-var : goal.invariant-loop-var
invariant-loop-var l = map string_bytes l.names.items ≡ names_before l.program l.var
