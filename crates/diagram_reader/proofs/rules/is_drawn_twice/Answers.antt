use Rattle.diagram_page.specs.Seen.{seen}
use Rattle.diagram_reader.specs.Rules.{IsDrawnAt}
use Rattle.diagram_reader.specs.Checks.{IsDrawnBefore}
use Rattle.diagram_reader.proofs.BlockLaws.{before_told, none_told}
use Rattle.diagram_reader.proofs.rules.is_drawn_twice.Goals as goal

pub returns-in-Some : goal.returns-in-Some
returns-in-Some c =
    let page = seen c.args.page in
    before_told (λ n. IsDrawnAt page n c.args.at.rung c.args.at.row c.args.at.column) (λ n. IsDrawnBefore page n c.args.at.rung c.args.at.row c.args.at.column)
    _ c.in-Some.inst _ c.drawn_at.ensures c.in-Some.is c.is_drawn_before.ensures

pub returns-in-None : goal.returns-in-None
returns-in-None c =
    let page = seen c.args.page in
    none_told (λ n. IsDrawnAt page n c.args.at.rung c.args.at.row c.args.at.column) (λ n. IsDrawnBefore page n c.args.at.rung c.args.at.row c.args.at.column)
    _ c.drawn_at.ensures c.in-None.is
