use Rattle.text_reasons.proofs.advice.add_grid.Goals as goal

pub returns-in-BadCell : goal.returns-in-BadCell
returns-in-BadCell g c = rw c.in-BadCell.is (rw (c.cell_in.ensures, c.line_in-here.ensures) at c.add_nearest.ensures)

pub returns-in-BadJoint : goal.returns-in-BadJoint
returns-in-BadJoint g c = rw c.in-BadJoint.is (rw c.line_in-here.ensures at c.add_joint.ensures)
