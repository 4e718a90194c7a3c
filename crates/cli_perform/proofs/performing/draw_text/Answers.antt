use Rattle.std.proofs.Common.{List, ℕ, subst}
use Rattle.io_text.specs.Log.{PutsAll}
use Rattle.cli_draw.specs.Drawing.{BreaksDrawing, Draws}
use Rattle.cli_perform.proofs.performing.draw_text.Goals as goal

pub returns-clause-done : goal.returns-clause-done
returns-clause-done g c = λ done.
    let drawn = c.write_drawing.ensures.done done in (
      subst (λ (t : List ℕ). Draws t (PutsAll (g.O.Sink.log c.args.out.now) (g.O.Sink.log c.write_drawing.new.out))) c.deref.ensures.value drawn.0,
      drawn.1,
    )
