use Rattle.std.proofs.Common.{codes, subst, sym}
use Rattle.std.specs.Prelude.{if◌then◌else◌}
use Rattle.io_text.specs.Buffer.{Sends}
use Rattle.text_power.specs.Why.{dead_notes, evaluated_above, passed_note}
use Rattle.text_power.proofs.why.add_power_notes.Goals as goal

pub returns-then-mark-2 : goal.returns-then-mark-2
returns-then-mark-2 g c =
    let x = c.args.rung in
    let dead = dead_notes x.program.now x.marks.now x.number c.args.at in
    let passed = passed_note (evaluated_above x.marks.now x.number) in
    subst (λ b. Sends (g.W.Sink.log c.args.writer.now) (g.W.Sink.log c.add.new.writer) c.args.buffer.now c.add.new.self c.add.result
    (if b then (if c.args.mark.left then codes ": power *)\n" else dead) else passed)) (sym c.if-mark.true)
    (subst (λ b. Sends (g.W.Sink.log c.args.writer.now) (g.W.Sink.log c.add.new.writer) c.args.buffer.now c.add.new.self c.add.result
    (if b then codes ": power *)\n" else dead)) (sym c.if-mark-2.true) c.add.ensures)
