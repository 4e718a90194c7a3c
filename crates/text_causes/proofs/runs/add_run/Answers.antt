use Rattle.std.proofs.Common.{◌++◌, [], List, refl, subst, sym, ℕ}
use Rattle.search_tree.specs.Marked.{marked}
use Rattle.io_text.proofs.Sending.{sends_err, sends_more, sends_none, sends_prefix}
use Rattle.io_text.specs.Buffer.{SendsAll}
use Rattle.text_causes.specs.Rows.{rows}
use Rattle.text_causes.proofs.RunLaws.{buffered}
use Rattle.text_causes.proofs.runs.add_run.Goals as goal

pub returns-in_err-make_room-clause-sends : goal.returns-in_err-make_room-clause-sends
returns-in_err-make_room-clause-sends g c =
    let waited = c.args.buffer.now ++ c.args.row_buffer.now in
    let text = rows c.args.listed (marked c.args.run.number c.args.run.mask) in
    sends_err _ _ _ _ _ _ c.from_residual.ensures.0
    (sends_prefix _ _ _ waited waited text [] [] text refl (sends_none _ waited) c.in_err-make_room.ensures.sends)

pub returns-clause-sends : goal.returns-clause-sends
returns-clause-sends g c =
    let text = rows c.args.listed (marked c.args.run.number c.args.run.mask) in
    subst (λ (ys : List ℕ). SendsAll (g.W.Sink.log c.args.writer.now) (g.W.Sink.log c.make_room.new.writer) (c.args.buffer.now ++ c.args.row_buffer.now) (c.make_room.new.buffer ++ ys) text) (sym c.take_run.ensures)
    (sends_more _ _ _ _ _ _ [] text c.in_ok-make_room.ensures.sends (buffered (g.W.Sink.log c.make_room.new.writer) c.make_room.new.buffer c.make_room.new.self text))
