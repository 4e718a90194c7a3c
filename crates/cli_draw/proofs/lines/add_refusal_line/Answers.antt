use Rattle.std.proofs.Common.{inl, inr}
use Rattle.cli_draw.proofs.lines.add_refusal_line.Goals as goal

pub returns-in-Due : goal.returns-in-Due
returns-in-Due g c = rw c.in-Due.is c.add_lined.ensures

pub returns-in-Name : goal.returns-in-Name
returns-in-Name g c = rw c.in-Name.is c.add_worded.ensures

pub returns-in-Type : goal.returns-in-Type
returns-in-Type g c = rw c.in-Type.is c.add_worded-in-Type.ensures

pub returns-in-Undrawable : goal.returns-in-Undrawable
returns-in-Undrawable g c = rw c.in-Undrawable.is c.add_worded-in-Undrawable.ensures

pub returns-in-Integer : goal.returns-in-Integer
returns-in-Integer g c = rw c.in-Integer.is c.add_worded-in-Integer.ensures

pub returns-in-Member : goal.returns-in-Member
returns-in-Member g c = rw c.in-Member.is c.add_worded-in-Member.ensures

pub returns-in-Input : goal.returns-in-Input
returns-in-Input g c = rw c.in-Input.is c.add_worded-in-Input.ensures

pub returns-in-Call : goal.returns-in-Call
returns-in-Call g c = rw c.in-Call.is c.add_worded-in-Call.ensures

pub returns-in-TooMany : goal.returns-in-TooMany
returns-in-TooMany g c = elim c.in-TooMany.is [ inl e ↦ rw e c.add_lined-in-TooMany.ensures | inr e ↦ rw e c.add_lined-in-TooMany.ensures ]
