use Rattle.diagram_page.specs.Page.{instance_at}
use Rattle.diagram_reader.proofs.BlockLaws.{drawn_told}
use Rattle.diagram_reader.proofs.rules.drawn_at.Goals as goal

pub returns : goal.returns
unfolding instance_at
returns c = drawn_told _ _ _ _ _ c.form_at.ensures c.name_over.ensures c.block_drawn.result c.block_drawn.ensures
