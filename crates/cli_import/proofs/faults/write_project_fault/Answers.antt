use Rattle.std.proofs.Common.{◌∙◌, ap}
use Rattle.std.specs.Prelude.{codes}
use Rattle.cli_import.specs.Lines.{explained, project_explanation}
use Rattle.cli_import.proofs.Saying.{same_text}
use Rattle.cli_import.proofs.faults.write_project_fault.Goals as goal

pub returns-in-NotLadder : goal.returns-in-NotLadder
returns-in-NotLadder g c =
    let said = c.explained-said.ensures ∙ ap (explained c.args.why) (c.project_explanation.ensures ∙ ap project_explanation c.in-NotLadder.is) in
    rw c.in-NotLadder.is (same_text _ _ _ (codes "fault P4 section ") _ _ _ _ c.from-in-NotLadder.ensures said c.put_numbered-in-NotLadder.ensures)

pub returns-in-BrokenWay : goal.returns-in-BrokenWay
returns-in-BrokenWay g c =
    let said = c.explained-said.ensures ∙ ap (explained c.args.why) (c.project_explanation.ensures ∙ ap project_explanation c.in-BrokenWay.is) in
    rw c.in-BrokenWay.is (same_text _ _ _ (codes "fault P5 section ") _ _ _ _ c.from-in-BrokenWay.ensures said c.put_numbered-in-BrokenWay.ensures)
