use Rattle.std.proofs.Common.{◌≡◌, true}
use Rattle.std.specs.List.{list_all}
use Rattle.xml_document.specs.Characters.{is_char}
use Rattle.xml_document.proofs.characters.check_characters.Given as goal

abbrev pub invariant-loop-c : goal.invariant-loop-c
invariant-loop-c l = list_all is_char l.yielded ≡ true
