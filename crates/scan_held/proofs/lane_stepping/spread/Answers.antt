use Rattle.std.proofs.Common.{◌∙◌, ap, sym}
use Rattle.std.proofs.lemmas.List.{get_or-replicate}
use Rattle.diagram_declarations.specs.declared.kind.BlockKind.TheVariants.{Ton}
use Rattle.scan_signals.specs.Blocks.{new_block}
use Rattle.scan_held.specs.Lanes.{stored_in}
use Rattle.scan_held.specs.declared.lanes.Lanes.{Lanes}
use Rattle.scan_held.proofs.lane_stepping.spread.Goals as goal

pub returns-in-Alike : goal.returns-in-Alike
returns-in-Alike c = λ i h. get_or-replicate 64 i c.in-Alike.stored (new_block Ton) h ∙ sym (ap (λ (b : Lanes). stored_in b i) c.in-Alike.is)

pub returns-in-Two : goal.returns-in-Two
returns-in-Two c = λ i h. c.choices.ensures i h ∙ sym (ap (λ (b : Lanes). stored_in b i) c.in-Two.is)
