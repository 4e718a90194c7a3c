use Rattle.std.proofs.Common.{◌≤◌, length, arith, rules}
use Rattle.io_text.proofs.Bytes.{taken}
use Rattle.text_causes.proofs.rows.RowBuffer.take_run.Goals as goal

pub returns : goal.returns
returns c =
    let part_long : 5120 ≤ length c.write_run-long.new.text = search rules in
    taken c.self.inside.bytes c.write_run-long.new.text c.self.inside.used _ c.write_run-long.result _ _
    (search rules) (omega (arith, part_long, c.write_run-long.ensures.short)) c.self.view_is c.write_run-long.ensures.rows
