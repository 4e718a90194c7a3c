use Rattle.std.proofs.Common.{◌≡◌, ◌+◌, ◌/◌, ◌^◌, ◌≤◌, ◌++◌}
use Rattle.search_tree.specs.Marked.{marked}
use Rattle.text_causes.specs.Kept.{IsKept}
use Rattle.text_causes.specs.Rows.{rows}
use Rattle.text_causes.proofs.RunLaws.{Sent}
use Rattle.text_causes.proofs.runs.add_marked.Given as goal

abbrev pub invariant-loop-mask : goal.invariant-loop-mask
invariant-loop-mask g l = record {
  sent : Sent (g.W.Sink.log l.fn.writer) (g.W.Sink.log l.writer) (l.fn.buffer ++ l.fn.row_buffer) (l.buffer ++ l.row_buffer)
      (rows l.listed (marked l.numbers.number l.numbers.mask)) (rows l.listed (marked (l.numbers.number + l.place) l.mask));
  kept : IsKept l.listed l.kept;
  shifted : l.mask ≡ l.numbers.mask / 2 ^ l.place;
  few : l.place ≤ 128;
}

abbrev pub decreases-loop-mask : goal.decreases-loop-mask
decreases-loop-mask g l = l.mask
