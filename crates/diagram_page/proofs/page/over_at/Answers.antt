use Rattle.std.proofs.Common.{map, length, ap, arith}
use Rattle.diagram_page.proofs.OverLaws.{overs_count, over_at}
use Rattle.diagram_page.proofs.page.over_at.Goals as goal

pub bounds-page-number : goal.bounds-page-number
bounds-page-number c =
    let size = overs_count c.args.page.decls.now (map (λ l. l.now) c.args.page.lines.now) c.args.page.parts.now in
    omega (arith, ap length c.args.page.told, size, c.number.ensures, c.requires, c.args.at.few, c.args.at.rows, c.args.at.columns)

pub returns : goal.returns
returns c =
    over_at c.args.page.decls.now (map (λ l. l.now) c.args.page.lines.now) c.args.page.parts.now c.args.page.overs.now c.number.result _
    c.args.at.rung c.args.at.row c.args.at.column c.args.page.told c.number.ensures c.requires c.args.at.few c.args.at.rows c.args.at.columns
