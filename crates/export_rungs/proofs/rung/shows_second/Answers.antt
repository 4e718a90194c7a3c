use Rattle.std.proofs.Common.{Bool, ap, sym, ◌∙◌, ◌+◌}
use Rattle.scan_signals.specs.Truth.{plain}
use Rattle.scan_cycle.specs.Programs.{diagram_of}
use Rattle.scan_cycle.specs.Rung.{link, lower}
use Rattle.export_rungs.proofs.rung.shows_second.Goals as goal

pub returns-then-is_linked : goal.returns-then-is_linked
returns-then-is_linked c = λ is k now f s sees.
    ap (λ (b : Bool). lower plain b (link plain (diagram_of c.args.at.scan.program.now) k now c.args.at.rung f (c.args.place + 1))) (sym c.is_linked.ensures ∙ c.if-is_linked.true)
    ∙ c.shows.ensures is k now f s sees
