use Rattle.std.proofs.Common.{◌≡◌, ◌∙◌, ◌+◌, ◌-◌, ◌<◌, ◌^◌, ◌++◌, [], ap, arith, bit_and, refl, rules, subst, sym, List, ℕ}
use Rattle.search_tree.proofs.Marks.{none_marked}
use Rattle.search_tree.specs.Marked.{marked}
use Rattle.io_text.proofs.Sending.{sends_err}
use Rattle.text_causes.specs.Rows.{row, rows}
use Rattle.text_causes.proofs.RunLaws.{Sent, buffered, lowest_of, rows_lowest, sent_all, sent_more, sent_prefix}
use Rattle.text_causes.proofs.runs.add_singly.Goals as goal

pub returns-in_err-make_room : goal.returns-in_err-make_room
returns-in_err-make_room g c =
    sends_err _ _ _ _ _ _ c.from_residual.ensures.0
    (sent_prefix _ _ _ _ _ _ (rows c.args.listed (marked c.args.run.number c.loop-left.left)) [] _ c.loop-left.invariant refl c.in_err-make_room.ensures.sends)

pub loop-left-preserved : goal.loop-left-preserved
loop-left-preserved g c =
    let left = c.loop-left.left in
    let k = c.args.listed in
    let number = c.args.run.number in
    let fits : left < 2 ^ 64 = search rules in
    let l = lowest_of number left c.from.result (omega (arith, c.loop-left-test.true)) fits c.from.ensures in
    let one = row k (number + c.from.result) in
    let rest = rows k (marked number (bit_and left (left - 1))) in
    let room = sent_more _ _ _ _ _ _ _ (rows k (marked number left)) [] (rows k (marked number left)) c.loop-left.invariant refl c.in_ok-make_room.ensures.sends in
    subst (λ (ys : List ℕ). Sent (g.W.Sink.log c.args.writer.now) (g.W.Sink.log c.make_room.new.writer) (c.args.buffer.now ++ c.args.row_buffer.now) (c.make_room.new.buffer ++ ys) (rows k (marked number c.args.run.mask)) rest) (sym c.take_row.ensures)
    (sent_more _ _ _ _ _ _ _ (rows k (marked number left)) one rest room (rows_lowest k number left c.from.result l)
    (buffered (g.W.Sink.log c.make_room.new.writer) c.make_room.new.buffer c.make_room.new.self one))

pub returns : goal.returns
returns g c =
    let none : c.loop-left.left ≡ 0 = omega (arith, c.loop-left-test.false) in
    sent_all _ _ _ _ _ (rows c.args.listed (marked c.args.run.number c.loop-left.left)) c.loop-left.invariant
    (ap (λ m. rows c.args.listed (marked c.args.run.number m)) none ∙ ap (rows c.args.listed) (none_marked c.args.run.number))
