use Rattle.std.proofs.Common.{◌≡◌, ◌+◌, ◌≤◌, ◌<◌, ◌^◌, ℕ, List, [], ◌∷◌, ◌++◌, ap, arith, length, refl, subst, sym}
use Rattle.std.proofs.lemmas.List.Sums.{count_by-le-length}
use Rattle.causes_in_runs.specs.Rows.{RunCursor}
use Rattle.causes_in_runs.specs.declared.row.RunCause.{RunCause}
use Rattle.io_text.specs.Text.{line_text}
use Rattle.io_text.specs.Buffer.{SendsAll}
use Rattle.causes_in_runs.proofs.RunRows.{no_run_rows}
use Rattle.io_text.proofs.Sending.{sends_none}
use Rattle.io_text.specs.Log.{PutsPrefix}
use Rattle.text_runs.specs.CauseText.{is_open, run_record}
use Rattle.text_runs.proofs.AddingRows.{ends, ends_cut, ends_there, more_added, none_within, one_more_within}
use Rattle.text_runs.proofs.cause_rows.add_rows.Goals as goal

pub loop-limit-init : goal.loop-limit-init
loop-limit-init g c =
    let asked = c.args.causes.now in
    record {
      added = record {
        rows = [];
        gave = record { later = omega arith; rows_are = no_run_rows asked.assumed asked.program asked.state asked.coil asked.listed asked.states asked.from; same = refl };
        sends = sends_none _ c.args.buffer.now;
        counts = (refl, refl);
      };
      rows = omega arith;
      unsettled = omega arith;
      few = none_within c.args.limit;
      within = c.requires.within;
    }

pub returns-then-is_reached : goal.returns-then-is_reached
returns-then-is_reached g c =
    ends_there _ _ _ _ c.args.causes.now c.loop-limit.causes c.loop-limit.count c.args.limit c.loop-limit.invariant.added c.loop-limit.invariant.few
    (c.is_reached.ensures.yes c.if-is_reached.true)

pub returns-in_default : goal.returns-in_default
returns-in_default g c =
    let added = c.loop-limit.invariant.added in
    let listed = ap (λ (x : RunCursor). x.listed) added.gave.same in
    ends _ _ _ _ c.args.causes.now c.loop-limit.causes c.next.new.self c.loop-limit.count c.args.limit added c.loop-limit.invariant.few
    (subst (λ (xs : List ℕ). c.loop-limit.causes.from ≤ 2 ^ length xs) (sym listed) c.loop-limit.invariant.within)
    (c.in_default.ensures.end refl) (c.in_default.ensures.same refl)

pub returns-in_err-add_row : goal.returns-in_err-add_row
returns-in_err-add_row g c =
    ends_cut _ _ _ _ _ _ c.args.causes.now c.loop-limit.causes c.next.new.self c.loop-limit.count c.in-Some.cause c.args.limit _
    c.from_residual.ensures.0 c.loop-limit.invariant.added
    (one_more_within c.args.limit c.loop-limit.count.rows c.loop-limit.invariant.few (c.is_reached.ensures.no c.if-is_reached.false)) c.in-Some.ensures.row
    (subst (λ (k : ℕ). PutsPrefix (g.W.Sink.log c.loop-limit.writer) (g.W.Sink.log c.add_row.new.writer) (c.loop-limit.buffer ++ line_text (run_record k c.in-Some.cause)))
    c.requires.listed c.in_err-add_row.ensures)

pub loop-limit-preserved : goal.loop-limit-preserved
loop-limit-preserved g c =
    let inv = c.loop-limit.invariant in
    let cause = c.in-Some.cause in
    let gives = c.in-Some.ensures.row in
    let from : c.next.new.self.from ≡ cause.number + 1 = ap (λ (x : RunCursor). x.from) gives.then in
    let listed = ap (λ (x : RunCursor). x.listed) inv.added.gave.same in
    let within : cause.number < 2 ^ length c.args.causes.now.listed = subst (λ (xs : List ℕ). cause.number < 2 ^ length xs) listed gives.within in
    let one = count_by-le-length (λ (r : RunCause). is_open r.reached) (cause ∷ []) in
    record {
      added = more_added _ _ _ _ _ _ c.args.causes.now c.loop-limit.causes c.next.new.self c.loop-limit.count cause c.unsettled.result inv.added gives
          (subst (λ (k : ℕ). SendsAll (g.W.Sink.log c.loop-limit.writer) (g.W.Sink.log c.add_row.new.writer) c.loop-limit.buffer c.add_row.new.buffer (line_text (run_record k cause)))
          c.requires.listed c.in_ok-add_row.ensures) c.unsettled.ensures;
      rows = omega (arith, inv.rows, gives.from, from);
      unsettled = omega (arith, inv.unsettled, one, c.unsettled.ensures);
      few = one_more_within c.args.limit c.loop-limit.count.rows inv.few (c.is_reached.ensures.no c.if-is_reached.false);
      within = omega (arith, from, within);
    }
