-- There are as many rows as are counted.
use Rattle.std.proofs.Common.{sym}
use Rattle.reach_search.proofs.RowLaws.{length-rows_of}
use Rattle.reach_search.proofs.rows.Rows.count.Goals as goal

pub returns : goal.returns
returns g c = rw (← c.self.view_is) (sym (length-rows_of c.self.inside.width c.self.inside.count c.self.inside.items.items))
