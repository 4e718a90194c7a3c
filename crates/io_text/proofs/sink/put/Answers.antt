use Rattle.std.proofs.Common.{◌++◌, take}
use Rattle.io_text.proofs.Bytes.{cut_more}
use Rattle.io_text.proofs.Puts.{puts_more, call_puts}
use Rattle.io_text.proofs.sink.put.Goals as goal

pub loop-rest-preserved : goal.loop-rest-preserved
loop-rest-preserved g c =
    let inv = c.loop-rest.invariant in
    let rest = c.loop-rest.rest.now in
    let n = c.in-Ok.count in
    let front = inv.0 in
    let wrote = call_puts _ _ _ c.in-Ok.ensures.bytes c.in-Ok.ensures.passes in
    (front ++ take n rest, cut_more c.args.text.now front rest n inv.1, puts_more _ _ _ front (take n rest) inv.2 wrote)
