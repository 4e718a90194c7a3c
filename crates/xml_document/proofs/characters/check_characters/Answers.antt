use Rattle.std.proofs.Common.{◌≡◌, subst, true}
use Rattle.std.specs.List.{list_all}
use Rattle.std.proofs.lemmas.Iterator.{YieldsList-from_chars}
use Rattle.std.proofs.lemmas.Iterator.Consumers.{YieldsList-end}
use Rattle.xml_document.specs.Characters.{is_char}
use Rattle.xml_document.proofs.Productions.{all_map}
use Rattle.xml_document.proofs.characters.check_characters.Goals as goal

pub returns : goal.returns
returns c =
    let same = c.in-Ok.ensures.cases.0 in
    let utf8 = c.in-Ok.ensures.cases.1 in
    let end = YieldsList-end (YieldsList-from_chars c.args.text.now utf8 cc) c.loop-c.yielded _ c.loop-c.yielded_by _ _ c.in-None.is c.next.ensures.steps in
    record { is_utf8 = utf8; allowed = subst (λ cs. list_all is_char cs ≡ true) end.0 (all_map is_char c.loop-c.yielded c.loop-c.invariant) }
