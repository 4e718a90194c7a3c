use Rattle.std.proofs.Common.{refl, sym}
use Rattle.std.proofs.lemmas.List.{append-nil}
use Rattle.xml_document.specs.declared.document.Event.TheVariants as event
use Rattle.xml_document.specs.Items.{closes}
use Rattle.xml_document.proofs.Growing.{grows_one}
use Rattle.xml_document.proofs.element.close.Goals as goal

pub returns : goal.returns
returns c = grows_one _ _ _ _ event.Close closes (sym (append-nil _)) c.in_ok-push.ensures.items tt refl
