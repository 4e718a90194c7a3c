use Rattle.cli_draw.proofs.sentences.add_refusal_sentence.Goals as goal

pub returns-in-Name : goal.returns-in-Name
returns-in-Name g c = rw c.in-Name.is c.add-in-Name.ensures

pub returns-in-Type : goal.returns-in-Type
returns-in-Type g c = rw c.in-Type.is c.add-in-Type.ensures

pub returns-in-Undrawable : goal.returns-in-Undrawable
returns-in-Undrawable g c = rw c.in-Undrawable.is c.add-in-Undrawable.ensures

pub returns-in-Integer : goal.returns-in-Integer
returns-in-Integer g c = rw c.in-Integer.is c.add-in-Integer.ensures

pub returns-in-Member : goal.returns-in-Member
returns-in-Member g c = rw c.in-Member.is c.add-in-Member.ensures

pub returns-in-Input : goal.returns-in-Input
returns-in-Input g c = rw c.in-Input.is c.add-in-Input.ensures

pub returns-in-Call : goal.returns-in-Call
returns-in-Call g c = rw c.in-Call.is c.add-in-Call.ensures

pub returns-in-TooMany : goal.returns-in-TooMany
returns-in-TooMany g c = rw c.in-TooMany.is c.add-in-TooMany.ensures

pub returns-in-TooDeep : goal.returns-in-TooDeep
returns-in-TooDeep g c = rw c.in-TooDeep.is c.add-in-TooDeep.ensures
