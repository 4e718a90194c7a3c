use Rattle.std.proofs.Common.{refl}
use Rattle.export_rungs.proofs.Standing.{falling_by}
use Rattle.export_rungs.proofs.meanings.is_falling.Goals as goal

pub returns-then-is_variable : goal.returns-then-is_variable
returns-then-is_variable c = λ is.
    falling_by c.args.at.scan.program.now c.args.at.scan.variables c.args.at.scan.jumps c.args.at.rung c.args.at.known.now c.in-Some.operand c.in-Some.memory c.in-Some-variable_of.own
    c.args.expression.now c.in-Some-inverse_of.read.now c.in-Some-both_of.kept.now c.in-Some-both_of.inverse.now c.args.cell c.in-Some.ensures c.in-Some-variable_of.ensures
    c.in-Some-both_of.ensures c.in-Some-inverse_of.ensures (c.if-is_variable.ensures refl) (c.begins.ensures is)
