use Rattle.diagram_reader.proofs.FaultLaws.{declared_right, right, no_program}
use Rattle.diagram_reader.proofs.OneProgram.{makes_program}
use Rattle.diagram_reader.proofs.OneProgram.{one_program}
use Rattle.diagram_reader.proofs.read.read_program.Goals as goal

pub returns-in-Ok-read_drawing-clause-found : goal.returns-in-Ok-read_drawing-clause-found
returns-in-Ok-read_drawing-clause-found c =
    makes_program c.args.text.now c.in-Ok.read.0 _ c.in-Ok.ensures.found.1 _ (rw c.behind.ensures at c.in-Ok-read_drawing.ensures.found)

pub returns-in-Err-clause-none : goal.returns-in-Err-clause-none
returns-in-Err-clause-none c = λ other d program. c.in-Err.ensures.none other program.page.decls program.rest program.read

pub returns-in-Err-clause-broken : goal.returns-in-Err-clause-broken
returns-in-Err-clause-broken c = declared_right c.args.text.now _ _ c.in-Err.ensures.none c.in-Err.ensures.broken

pub returns-in-Err-read_drawing-clause-none : goal.returns-in-Err-read_drawing-clause-none
returns-in-Err-read_drawing-clause-none c =
    no_program c.args.text.now c.in-Ok.read.0 c.in-Ok.read.1 c.in-Ok.ensures.found.0 c.in-Ok.ensures.found.1 c.in-Ok.ensures.only _ _
    (rw c.behind.ensures at c.in-Err-read_drawing.ensures.broken) (c.fault_of.ensures.memory, c.fault_of.ensures.broken)

pub returns-in-Err-read_drawing-clause-broken : goal.returns-in-Err-read_drawing-clause-broken
returns-in-Err-read_drawing-clause-broken c =
    right c.args.text.now c.in-Ok.read.0 c.in-Ok.read.1 c.in-Ok.ensures.found.0 c.in-Ok.ensures.found.1 _ _
    (rw c.behind.ensures at c.in-Err-read_drawing.ensures.broken) (c.fault_of.ensures.memory, c.fault_of.ensures.broken)

pub returns-in-Ok-read_drawing-clause-only : goal.returns-in-Ok-read_drawing-clause-only
returns-in-Ok-read_drawing-clause-only c =
    one_program c.args.text.now c.in-Ok.read.0 c.in-Ok.read.1 c.in-Ok.ensures.only _ (rw c.behind.ensures at c.in-Ok-read_drawing.ensures.found)
