use Rattle.std.proofs.Common.{sym}
use Rattle.diagram_reader.proofs.firsts.block_in.Goals as goal

pub returns : goal.returns
returns c = rw (sym c.read_at.ensures.0, sym c.read_at.ensures.1, sym c.read_at.ensures.2, sym c.number-at.ensures) (rw (sym c.form_in.ensures, sym c.name_in.ensures) c.block_drawn.ensures)
