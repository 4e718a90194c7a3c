use Rattle.std.proofs.Common.{◌+◌, ◌∙◌, [], arith, length, refl}
use Rattle.text_causes.specs.Rows.{rows}
use Rattle.text_causes.proofs.TellLaws.{asked_of, head_of, headed, last_breaks, last_counted, last_sent, listed_same, step_breaks, rows_few, step_on, step_told, step_took, step_untold, takes_both, text_of, way_short, within_end}
use Rattle.io_text.proofs.Puts.{puts_none}
use Rattle.io_text.proofs.Sending.{sends_none, sends_prefix}
use Rattle.text_causes.proofs.progress.tell_rows.Goals as goal

pub returns-in_default-clause-told : goal.returns-in_default-clause-told
returns-in_default-clause-told g c =
    let old = c.args.causes.now in (
      [],
      sends_prefix _ _ _ [] [] (text_of c.args.extent.last c.args.extent.limit old) [] (head_of old) (rows (length old.listed) (asked_of c.args.extent.last c.args.extent.limit old)) refl (sends_none _ [])
          (rw (c.requires.no_block, c.program.ensures, c.free.ensures.listed) at c.in_default.ensures),
      (λ none. refl, puts_none _),
    )

pub loop-pace-init : goal.loop-pace-init
loop-pace-init g c = record {
  stands = headed c.args.lines c.args.extent.last c.args.extent.limit c.args.causes.now _ _ _ c.args.buffer.now c.add_header.new.buffer c.args.row_buffer.now c.requires.no_block c.requires.no_row
      (rw (c.program.ensures, c.free.ensures.listed) at c.in-Ok.ensures);
  kept = rw c.free-3.ensures.listed at c.new-kept.ensures;
  small = omega arith;
}

pub returns-in_default-buffer_rows-clause-told : goal.returns-in_default-buffer_rows-clause-told
returns-in_default-buffer_rows-clause-told g c =
    let st = c.loop-pace.invariant.stands in
    last_breaks c.args.lines c.args.extent.last c.args.extent.limit c.args.causes.now c.loop-pace.causes c.loop-pace.rows c.loop-pace.reached 0 _ _ _ _ _ st c.left_of-left.result c.free-listed.result.now c.left_of-left.ensures
    (c.free-listed.ensures.listed ∙ listed_same c.args.causes.now c.loop-pace.causes c.loop-pace.rows st.way.takes) _ c.in_default-buffer_rows.ensures.sends

pub overflow_add-result : goal.overflow_add-result
overflow_add-result g c =
    let st = c.loop-pace.invariant.stands in
    let counted = last_counted c.args.lines c.args.extent.last c.args.extent.limit c.args.causes.now c.loop-pace.causes c.loop-pace.rows c.loop-pace.reached 0 _ _ _ _ _ st c.left_of-left.result c.free-listed.result.now c.left_of-left.ensures
    (c.free-listed.ensures.listed ∙ listed_same c.args.causes.now c.loop-pace.causes c.loop-pace.rows st.way.takes) c.in-Ok-buffer_rows.more c.in-Ok-buffer_rows.ensures.count in
    let short = way_short c.args.extent.last c.args.extent.limit c.args.causes.now c.loop-pace.causes c.loop-pace.rows c.loop-pace.reached st.way in
    record { fits = omega (arith, counted, short, c.free.ensures.finite) }

pub returns-then-end-stop-clause-told : goal.returns-then-end-stop-clause-told
returns-then-end-stop-clause-told g c =
    let st = c.loop-pace.invariant.stands in
    last_sent c.args.lines c.args.extent.last c.args.extent.limit c.args.causes.now c.loop-pace.causes c.loop-pace.rows c.loop-pace.reached 0 _ _ _ _ _ st c.left_of-left.result c.free-listed.result.now c.left_of-left.ensures
    (c.free-listed.ensures.listed ∙ listed_same c.args.causes.now c.loop-pace.causes c.loop-pace.rows st.way.takes) _ _ c.in-Ok-buffer_rows.ensures.sends

pub returns-in_default-buffer_rows-2-clause-told : goal.returns-in_default-buffer_rows-2-clause-told
returns-in_default-buffer_rows-2-clause-told g c =
    let st = c.loop-pace.invariant.stands in
    let n = c.next_stop-stop.result in
    step_breaks c.args.lines c.args.extent.last c.args.extent.limit c.args.causes.now c.loop-pace.causes c.loop-pace.rows c.loop-pace.reached n _ _ _ _ _ st c.left_of-left.result c.free-listed.result.now c.left_of-left.ensures
    (c.free-listed.ensures.listed ∙ listed_same c.args.causes.now c.loop-pace.causes c.loop-pace.rows st.way.takes)
    (within_end c.args.extent.last c.end_of-end.result n c.end_of-end.ensures.part c.if-end-stop.false) (c.free-listed.ensures.order n) _ c.in_default-buffer_rows-2.ensures.sends

pub returns-in_default-buffer_rows-2-clause-taken : goal.returns-in_default-buffer_rows-2-clause-taken
returns-in_default-buffer_rows-2-clause-taken g c =
    let st = c.loop-pace.invariant.stands in
    let n = c.next_stop-stop.result in
    step_took c.args.lines c.args.extent.last c.args.extent.limit c.args.causes.now c.loop-pace.causes c.loop-pace.rows c.loop-pace.reached n _ _ _ _ _ st c.left_of-left.result c.free-listed.result.now c.left_of-left.ensures
    (c.free-listed.ensures.listed ∙ listed_same c.args.causes.now c.loop-pace.causes c.loop-pace.rows st.way.takes)
    (within_end c.args.extent.last c.end_of-end.result n c.end_of-end.ensures.part c.if-end-stop.false) (c.free-listed.ensures.order n) c.buffer_rows-in-loop-pace.new.causes c.in_default-buffer_rows-2.ensures.taken

pub overflow_add-rows : goal.overflow_add-rows
overflow_add-rows g c =
    let st = c.loop-pace.invariant.stands in
    let n = c.next_stop-stop.result in
    let few = rows_few c.args.lines c.args.extent.last c.args.extent.limit c.args.causes.now c.loop-pace.causes c.loop-pace.rows c.loop-pace.reached n _ _ _ _ _ st c.left_of-left.result c.free-listed.result.now c.left_of-left.ensures
    (c.free-listed.ensures.listed ∙ listed_same c.args.causes.now c.loop-pace.causes c.loop-pace.rows st.way.takes)
    (within_end c.args.extent.last c.end_of-end.result n c.end_of-end.ensures.part c.if-end-stop.false) (c.free-listed.ensures.order n) in
    let short = way_short c.args.extent.last c.args.extent.limit c.args.causes.now c.loop-pace.causes c.loop-pace.rows c.loop-pace.reached st.way in
    record { fits = omega (arith, few, short, c.free.ensures.finite, c.in-Ok-buffer_rows-2.ensures.count) }

pub returns-in-Err-clause-told : goal.returns-in-Err-clause-told
returns-in-Err-clause-told g c =
    let st = c.loop-pace.invariant.stands in
    let n = c.next_stop-stop.result in
    step_untold c.args.lines c.args.extent.last c.args.extent.limit c.args.causes.now c.loop-pace.causes c.loop-pace.rows c.loop-pace.reached n _ _ _ _ _ st c.left_of-left.result c.free-listed.result.now c.left_of-left.ensures
    (c.free-listed.ensures.listed ∙ listed_same c.args.causes.now c.loop-pace.causes c.loop-pace.rows st.way.takes)
    (within_end c.args.extent.last c.end_of-end.result n c.end_of-end.ensures.part c.if-end-stop.false) (c.free-listed.ensures.order n)
    c.buffer_rows-in-loop-pace.new.causes _ _ c.in-Ok-buffer_rows-2.more (omega (arith, c.next_stop-stop.ensures.more)) c.in-Ok-buffer_rows-2.ensures.count c.in-Ok-buffer_rows-2.ensures.taken
    c.in-Ok-buffer_rows-2.ensures.looks c.in-Ok-buffer_rows-2.ensures.sends c.in-Err.fault _ _ (c.if-not-is_reached.ensures.no refl) c.in-Err.ensures.told

pub returns-in-Err-clause-taken : goal.returns-in-Err-clause-taken
returns-in-Err-clause-taken g c =
    let st = c.loop-pace.invariant.stands in
    let n = c.next_stop-stop.result in
    let few = rows_few c.args.lines c.args.extent.last c.args.extent.limit c.args.causes.now c.loop-pace.causes c.loop-pace.rows c.loop-pace.reached n _ _ _ _ _ st c.left_of-left.result c.free-listed.result.now c.left_of-left.ensures
    (c.free-listed.ensures.listed ∙ listed_same c.args.causes.now c.loop-pace.causes c.loop-pace.rows st.way.takes)
    (within_end c.args.extent.last c.end_of-end.result n c.end_of-end.ensures.part c.if-end-stop.false) (c.free-listed.ensures.order n) in (
      c.loop-pace.rows + c.in-Ok-buffer_rows-2.more,
      omega (arith, few, c.in-Ok-buffer_rows-2.ensures.count),
      takes_both c.args.causes.now c.loop-pace.causes c.buffer_rows-in-loop-pace.new.causes c.loop-pace.rows c.in-Ok-buffer_rows-2.more st.way.takes c.in-Ok-buffer_rows-2.ensures.taken,
    )

pub loop-pace-preserved-then-is_due : goal.loop-pace-preserved-then-is_due
loop-pace-preserved-then-is_due g c =
    let st = c.loop-pace.invariant.stands in
    let n = c.next_stop-stop.result in
    let same = c.free-listed.ensures.listed ∙ listed_same c.args.causes.now c.loop-pace.causes c.loop-pace.rows st.way.takes in
    record {
      stands = step_told c.args.lines c.args.extent.last c.args.extent.limit c.args.causes.now c.loop-pace.causes c.loop-pace.rows c.loop-pace.reached n _ _ _ _ _ st c.left_of-left.result c.free-listed.result.now c.left_of-left.ensures same
          (within_end c.args.extent.last c.end_of-end.result n c.end_of-end.ensures.part c.if-end-stop.false) (c.free-listed.ensures.order n)
          c.buffer_rows-in-loop-pace.new.causes _ _ c.in-Ok-buffer_rows-2.more (omega (arith, c.next_stop-stop.ensures.more)) c.in-Ok-buffer_rows-2.ensures.count c.in-Ok-buffer_rows-2.ensures.taken
          c.in-Ok-buffer_rows-2.ensures.looks c.in-Ok-buffer_rows-2.ensures.sends _ _ c.tell.new.buffer c.tell.new.row_buffer (c.if-not-is_reached.ensures.no refl)
          c.in_default-tell.ensures.told.0 c.in_default-tell.ensures.told.1 c.in_default-tell.ensures.no_block c.in_default-tell.ensures.no_row;
      kept = rw same at c.in-Ok-buffer_rows-2.ensures.kept;
      small = omega (arith, c.if-end-stop.false);
    }

pub loop-pace-preserved : goal.loop-pace-preserved
loop-pace-preserved g c =
    let st = c.loop-pace.invariant.stands in
    let n = c.next_stop-stop.result in
    let same = c.free-listed.ensures.listed ∙ listed_same c.args.causes.now c.loop-pace.causes c.loop-pace.rows st.way.takes in
    record {
      stands = step_on c.args.lines c.args.extent.last c.args.extent.limit c.args.causes.now c.loop-pace.causes c.loop-pace.rows c.loop-pace.reached n _ _ _ _ _ st c.left_of-left.result c.free-listed.result.now c.left_of-left.ensures same
          (within_end c.args.extent.last c.end_of-end.result n c.end_of-end.ensures.part c.if-end-stop.false) (c.free-listed.ensures.order n)
          c.buffer_rows-in-loop-pace.new.causes _ _ c.in-Ok-buffer_rows-2.more (omega (arith, c.next_stop-stop.ensures.more)) c.in-Ok-buffer_rows-2.ensures.count c.in-Ok-buffer_rows-2.ensures.taken
          c.in-Ok-buffer_rows-2.ensures.looks c.in-Ok-buffer_rows-2.ensures.sends;
      kept = rw same at c.in-Ok-buffer_rows-2.ensures.kept;
      small = omega (arith, c.if-end-stop.false);
    }
