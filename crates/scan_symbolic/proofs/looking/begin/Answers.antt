use Rattle.std.proofs.Common.{◌∙◌, ap, map}
use Rattle.diagram_declarations.specs.Decls.{Declared, is_input}
use Rattle.scan_cycle.specs.Cells.{frame}
use Rattle.scan_cycle.specs.Scan.{given}
use Rattle.scan_symbolic.proofs.Starts.{begins}
use Rattle.scan_symbolic.proofs.looking.begin.Goals as goal

pub returns : goal.returns
returns g c =
    begins g.S.Operations.algebra c.args.program.now c.args.inputs.now c.args.storage.now c.know.new.self c.give.new.self c.know.ensures
    (c.give.ensures ∙ ap (λ (d : Declared). frame (given (map is_input d.vars) c.args.inputs.now c.know.new.self.values) c.know.new.self.ends) c.decls.ensures)
