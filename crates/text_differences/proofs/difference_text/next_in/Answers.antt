use Rattle.text_differences.proofs.RowLaws.{part_next}
use Rattle.text_differences.proofs.difference_text.next_in.Goals as goal

pub returns-in-Some-clause-part : goal.returns-in-Some-clause-part
returns-in-Some-clause-part c =
    part_next c.args.upto c.in-Some.last c.next_to.result c.args.differences.now.rest c.next_to.new.self.rest c.in-Some.is c.next_to.ensures.gives c.next_to.ensures.within
