use Rattle.std.proofs.Common.{◌↔◌, ◌<◌, ℕ, IsTrue}
use Rattle.diagram_program.specs.Program.{feeds}
use Rattle.clp_meaning.specs.Sheets.{IsFed}
use Rattle.clp_meaning.proofs.check.are_fed_alike.Given as goal

abbrev pub invariant-loop-from : goal.invariant-loop-from
invariant-loop-from l = (q : ℕ) → q < l.from → IsTrue (feeds l.program l.at.rung l.at.row l.at.column q) ↔ IsFed l.reading l.elements l.at.row l.at.column q
