use Rattle.diff_rungs.proofs.Ending.{instances_alike, memories_alike, variables_alike}
use Rattle.diff_rungs.proofs.leaving.common.Goals as goal

pub returns-clause-variables : goal.returns-clause-variables
returns-clause-variables c =
    variables_alike c.args.old.now c.args.new.now c.args.matching.now c.checked.ensures c.checked-2.ensures c.in_ok-walk.field-0 c.in_ok-walk.ensures.reached.0 c.walk.new.marks
    c.in_ok-walk.ensures.end.0 c.in_ok-walk.ensures.end.1 c.in_ok-walk.ensures.reached.1

pub returns-clause-instances : goal.returns-clause-instances
returns-clause-instances c =
    instances_alike c.args.old.now c.args.new.now c.args.matching.now c.checked.ensures c.checked-2.ensures c.in_ok-walk.field-0 c.in_ok-walk.ensures.reached.0 c.walk.new.marks
    c.in_ok-walk.ensures.end.0 c.in_ok-walk.ensures.end.1 c.in_ok-walk.ensures.reached.1

pub returns-clause-memories : goal.returns-clause-memories
returns-clause-memories c =
    memories_alike c.args.old.now c.args.new.now c.args.matching.now c.checked.ensures c.checked-2.ensures c.in_ok-walk.field-0 c.in_ok-walk.ensures.reached.0 c.walk.new.marks
    c.in_ok-walk.ensures.end.0 c.in_ok-walk.ensures.end.1 c.in_ok-walk.ensures.reached.1
