use Rattle.std.proofs.Common.{List, subst, ◌+◌, ◌*◌}
use Rattle.std.specs.Prelude.{IsTrue}
use Rattle.diagram_program.specs.declared.gates.Action.{Action}
use Rattle.diagram_program.specs.declared.geometry.TheConstants.{ROWS}
use Rattle.export_rungs.specs.Steps.{Shows}
use Rattle.export_rungs.proofs.jumps.shows_jump.Goals as goal

pub returns-then-column-lt-COLUMNS : goal.returns-then-column-lt-COLUMNS
returns-then-column-lt-COLUMNS c =
    subst (λ (xs : List Action). IsTrue c.shows.result → Shows c.args.at.scan.program.now c.args.at.rung xs c.args.at.known.now (ROWS * c.args.column + c.args.row) c.args.expression.now)
    c.actions.ensures c.shows.ensures
