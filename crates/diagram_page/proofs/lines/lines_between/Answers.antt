use Rattle.std.proofs.Common.{◌-◌, ◌∙◌, take, drop, sym, ap}
use Rattle.std.proofs.lemmas.List.{take-map, drop-map}
use Rattle.diagram_page.proofs.lines.lines_between.Goals as goal

pub returns-clause-value : goal.returns-clause-value
returns-clause-value c = sym (ap (λ z. take (c.args.end - c.args.start) z) (drop-map _ c.args.start c.args.lines.now) ∙ take-map _ (c.args.end - c.args.start) (drop c.args.start c.args.lines.now))
