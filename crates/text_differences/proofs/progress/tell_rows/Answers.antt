use Rattle.std.proofs.Common.{◌+◌, [], arith, refl}
use Rattle.io_text.proofs.Puts.{puts_none}
use Rattle.io_text.proofs.Sending.{sends_none, sends_prefix}
use Rattle.text_differences.proofs.TellLaws.{above_left, asked_of, head_of, headed, last_breaks, last_sent, listed_same, rows_few, rows_text, step_breaks, step_further, step_made, step_on, takes_both, text_of, told_here, took_some, untold_here, way_long, within_end}
use Rattle.text_differences.proofs.progress.tell_rows.Goals as goal

pub returns-in_default-clause-told : goal.returns-in_default-clause-told
returns-in_default-clause-told g c =
    let old = c.args.differences.now in (
      [],
      sends_prefix (g.O.Sink.log c.args.out.now) (g.O.Sink.log c.args.out.now) (g.O.Sink.log c.add_header.new.writer) [] [] (text_of c.args.upto c.args.limit old) [] (head_of old) (rows_text old (asked_of c.args.upto c.args.limit old)) refl (sends_none _ [])
          (rw (c.requires.empty, c.old_program-old.ensures, c.free.ensures.listed) at c.in_default.ensures),
      puts_none _,
    )

pub loop-limit-init : goal.loop-limit-init
loop-limit-init g c = record {
  stands = headed c.args.upto c.args.limit c.args.differences.now _ _ _ c.args.buffer.now c.add_header.new.buffer c.requires.empty
      (rw (c.old_program-old.ensures, c.free.ensures.listed) at c.in-Ok.ensures);
  small = omega arith;
}

pub returns-in_default-add_rows-clause-told : goal.returns-in_default-add_rows-clause-told
returns-in_default-add_rows-clause-told g c =
    let st = c.loop-limit.invariant.stands in
    let same = listed_same st.way c.free-listed.result.now c.free-listed.ensures.listed in
    last_breaks st (rw (same, c.left_of-left.ensures) at c.in_default-add_rows.ensures.sends)

pub returns-in_default-add_rows-clause-taken : goal.returns-in_default-add_rows-clause-taken
returns-in_default-add_rows-clause-taken g c =
    let way = c.loop-limit.invariant.stands.way in
    took_some way c.add_rows.new.differences _ (omega (arith, way_long way)) (rw c.left_of-left.ensures at c.in_default-add_rows.ensures.taken)

pub returns-then-end-stop-clause-told : goal.returns-then-end-stop-clause-told
returns-then-end-stop-clause-told g c =
    let st = c.loop-limit.invariant.stands in
    let same = listed_same st.way c.free-listed.result.now c.free-listed.ensures.listed in
    last_sent st _ (rw (same, c.left_of-left.ensures) at c.in-Ok-add_rows.ensures.sends)

pub returns-then-end-stop-clause-rows : goal.returns-then-end-stop-clause-rows
returns-then-end-stop-clause-rows g c =
    let counted = rw c.left_of-left.ensures at c.in-Ok-add_rows.ensures.rows in
    omega (arith, counted, way_long c.loop-limit.invariant.stands.way)

pub returns-in_default-add_rows-2-clause-told : goal.returns-in_default-add_rows-2-clause-told
returns-in_default-add_rows-2-clause-told g c =
    let st = c.loop-limit.invariant.stands in
    let n = c.next_stop-stop.result in
    let same = listed_same st.way c.free-listed.result.now c.free-listed.ensures.listed in
    let step = step_further c.args.upto c.args.limit c.loop-limit.differences c.loop-limit.rows c.loop-limit.reached n c.next_stop-stop.ensures.more
    (within_end c.args.upto _ c.end_of-end.result n c.end_of-end.ensures.part c.if-end-stop.false) (c.free-listed.ensures.order n) in
    step_breaks st step (rw (same, c.left_of-left.ensures) at c.in_default-add_rows-2.ensures.sends)

pub returns-in_default-add_rows-2-clause-taken : goal.returns-in_default-add_rows-2-clause-taken
returns-in_default-add_rows-2-clause-taken g c =
    let way = c.loop-limit.invariant.stands.way in
    let n = c.next_stop-stop.result in
    let step = step_further c.args.upto c.args.limit c.loop-limit.differences c.loop-limit.rows c.loop-limit.reached n c.next_stop-stop.ensures.more
    (within_end c.args.upto _ c.end_of-end.result n c.end_of-end.ensures.part c.if-end-stop.false) (c.free-listed.ensures.order n) in
    took_some way c.add_rows-in-loop-limit.new.differences _ (rows_few way step) (rw c.left_of-left.ensures at c.in_default-add_rows-2.ensures.taken)

pub returns-in-Err-clause-told : goal.returns-in-Err-clause-told
returns-in-Err-clause-told g c =
    let st = c.loop-limit.invariant.stands in
    let n = c.next_stop-stop.result in
    let step = step_made c.args.upto c.args.limit c.loop-limit.differences c.add_rows-in-loop-limit.new.differences c.loop-limit.rows c.loop-limit.reached n c.in-Ok-add_rows-2.more c.left_of-left.result
    c.left_of-left.ensures c.next_stop-stop.ensures.more (within_end c.args.upto _ c.end_of-end.result n c.end_of-end.ensures.part c.if-end-stop.false) (c.free-listed.ensures.order n)
    c.in-Ok-add_rows-2.ensures.rows c.in-Ok-add_rows-2.ensures.taken in
    let same = listed_same st.way c.free-listed.result.now c.free-listed.ensures.listed in
    let on = step_on st step _ (rw (same, c.left_of-left.ensures) at c.in-Ok-add_rows-2.ensures.sends) in
    untold_here c.in-Err.fault (g.O.Sink.log c.tell.new.out) (g.E.Sink.log c.tell.new.err) on (above_left st.way step (c.if-not-is_reached.ensures.no refl)) c.in-Err.ensures.told

pub returns-in-Err-clause-taken : goal.returns-in-Err-clause-taken
returns-in-Err-clause-taken g c =
    let st = c.loop-limit.invariant.stands in
    let n = c.next_stop-stop.result in
    let step = step_made c.args.upto c.args.limit c.loop-limit.differences c.add_rows-in-loop-limit.new.differences c.loop-limit.rows c.loop-limit.reached n c.in-Ok-add_rows-2.more c.left_of-left.result
    c.left_of-left.ensures c.next_stop-stop.ensures.more (within_end c.args.upto _ c.end_of-end.result n c.end_of-end.ensures.part c.if-end-stop.false) (c.free-listed.ensures.order n)
    c.in-Ok-add_rows-2.ensures.rows c.in-Ok-add_rows-2.ensures.taken in (
      c.loop-limit.rows + c.in-Ok-add_rows-2.more,
      rows_few st.way step,
      takes_both c.args.differences.now c.loop-limit.differences c.add_rows-in-loop-limit.new.differences c.loop-limit.rows c.in-Ok-add_rows-2.more st.way.takes c.in-Ok-add_rows-2.ensures.taken,
    )

pub loop-limit-preserved-then-is_due : goal.loop-limit-preserved-then-is_due
loop-limit-preserved-then-is_due g c =
    let st = c.loop-limit.invariant.stands in
    let n = c.next_stop-stop.result in
    let step = step_made c.args.upto c.args.limit c.loop-limit.differences c.add_rows-in-loop-limit.new.differences c.loop-limit.rows c.loop-limit.reached n c.in-Ok-add_rows-2.more c.left_of-left.result
    c.left_of-left.ensures c.next_stop-stop.ensures.more (within_end c.args.upto _ c.end_of-end.result n c.end_of-end.ensures.part c.if-end-stop.false) (c.free-listed.ensures.order n)
    c.in-Ok-add_rows-2.ensures.rows c.in-Ok-add_rows-2.ensures.taken in
    let same = listed_same st.way c.free-listed.result.now c.free-listed.ensures.listed in
    let on = step_on st step _ (rw (same, c.left_of-left.ensures) at c.in-Ok-add_rows-2.ensures.sends) in
    record {
      stands = told_here on _ c.tell.new.buffer (above_left st.way step (c.if-not-is_reached.ensures.no refl)) c.in_default-tell.ensures.told.0 c.in_default-tell.ensures.told.1
          c.in_default-tell.ensures.empty;
      small = omega (arith, c.if-end-stop.false);
    }

pub loop-limit-preserved : goal.loop-limit-preserved
loop-limit-preserved g c =
    let st = c.loop-limit.invariant.stands in
    let n = c.next_stop-stop.result in
    let step = step_made c.args.upto c.args.limit c.loop-limit.differences c.add_rows-in-loop-limit.new.differences c.loop-limit.rows c.loop-limit.reached n c.in-Ok-add_rows-2.more c.left_of-left.result
    c.left_of-left.ensures c.next_stop-stop.ensures.more (within_end c.args.upto _ c.end_of-end.result n c.end_of-end.ensures.part c.if-end-stop.false) (c.free-listed.ensures.order n)
    c.in-Ok-add_rows-2.ensures.rows c.in-Ok-add_rows-2.ensures.taken in
    let same = listed_same st.way c.free-listed.result.now c.free-listed.ensures.listed in
    let on = step_on st step _ (rw (same, c.left_of-left.ensures) at c.in-Ok-add_rows-2.ensures.sends) in
    record { stands = on; small = omega (arith, c.if-end-stop.false) }
