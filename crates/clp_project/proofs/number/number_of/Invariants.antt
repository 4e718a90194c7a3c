use Rattle.std.proofs.Common.{◌≡◌, drop}
use Rattle.clp_project.specs.Format.{number_of}
use Rattle.clp_project.proofs.Numbers.{value_from}
use Rattle.clp_project.proofs.number.number_of.Given as goal

abbrev pub invariant-loop-digit : goal.invariant-loop-digit
invariant-loop-digit l = value_from l.number (drop l.digit-index l.digits) ≡ number_of l.digits
