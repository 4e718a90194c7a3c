use Rattle.std.proofs.Common.{map}
use Rattle.diagram_reader.proofs.FirstLaws.{drawn_by}
use Rattle.diagram_reader.proofs.rules.is_drawn_before.Goals as goal

pub returns : goal.returns
returns c =
    let page = c.args.page in
    drawn_by page.decls.now (map (λ l. l.now) page.lines.now) page.unclosed page.parts.now page.forms.now page.overs.now page.told page.firsts.now page.drawn
    c.args.inst c.args.at.rung c.args.at.row c.args.at.column c.requires c.args.at.few c.args.at.rows c.args.at.columns
    c.first_of.result c.reading_number.result c.first_of.ensures c.reading_number.ensures c.is_before.result c.is_before.ensures
