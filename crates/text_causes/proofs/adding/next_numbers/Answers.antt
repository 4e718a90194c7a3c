use Rattle.std.proofs.Common.{◌≡◌, ◌∙◌, ◌++◌, [], sym}
use Rattle.search_tree.specs.Marked.{marked}
use Rattle.search_tree.specs.declared.marked.Marked.{Marked}
use Rattle.causes_one_scan.specs.Cursor.{looks_of, searched}
use Rattle.text_causes.proofs.PartLaws.{next_gives, next_stays, part_next, part_settled, whole_next, whole_settled}
use Rattle.text_causes.proofs.adding.next_numbers.Goals as goal

pub returns-in-Some-clause-gives : goal.returns-in-Some-clause-gives
returns-in-Some-clause-gives c = next_gives (c.next_to.new.self.rest ≡ c.args.causes.now.rest) (λ (m : Marked). c.args.causes.now.rest ≡ marked m.number m.mask ++ c.next_to.new.self.rest) c.next_to.result c.next_to.ensures.gives

pub returns-in-Some-clause-part : goal.returns-in-Some-clause-part
returns-in-Some-clause-part c = part_next c.args.last c.next_to.result c.args.causes.now.rest c.next_to.new.self.rest c.in-Some.last c.in-Some.is c.next_to.ensures.gives c.next_to.ensures.within

pub returns-in-Some-clause-stays : goal.returns-in-Some-clause-stays
returns-in-Some-clause-stays c = λ none. next_stays (c.next_to.new.self.rest ≡ c.args.causes.now.rest) (λ (m : Marked). c.args.causes.now.rest ≡ marked m.number m.mask ++ c.next_to.new.self.rest) c.next_to.result c.next_to.ensures.gives none

pub returns-in-Some-clause-looks : goal.returns-in-Some-clause-looks
returns-in-Some-clause-looks c =
    part_settled c.args.last c.in-Some.last c.next_to.result (searched c.args.causes.now) (looks_of c.args.causes.now) (looks_of c.next_to.new.self) _ c.in-Some.is c.next_to.ensures.looks

pub returns-in-None-clause-gives : goal.returns-in-None-clause-gives
returns-in-None-clause-gives c = next_gives (c.args.causes.now.rest ≡ []) (λ (m : Marked). c.args.causes.now.rest ≡ marked m.number m.mask ++ c.next_many.new.self.rest) c.next_many.result c.next_many.ensures.gives

pub returns-in-None-clause-part : goal.returns-in-None-clause-part
returns-in-None-clause-part c = whole_next c.args.last c.next_many.result c.args.causes.now.rest c.next_many.new.self.rest c.in-None.is c.next_many.ensures.gives

pub returns-in-None-clause-stays : goal.returns-in-None-clause-stays
returns-in-None-clause-stays c = λ none. c.next_many.ensures.end none ∙ sym (next_stays (c.args.causes.now.rest ≡ []) (λ (m : Marked). c.args.causes.now.rest ≡ marked m.number m.mask ++ c.next_many.new.self.rest) c.next_many.result c.next_many.ensures.gives none)

pub returns-in-None-clause-looks : goal.returns-in-None-clause-looks
returns-in-None-clause-looks c =
    whole_settled c.args.last c.next_many.result (searched c.args.causes.now) (looks_of c.args.causes.now) (looks_of c.next_many.new.self) _ c.in-None.is c.next_many.ensures.looks
