use Rattle.clp_import.proofs.Faults.{of_text}
use Rattle.clp_import.proofs.importing.drawn.Goals as goal

pub returns-in-Err-checked-clause-fault : goal.returns-in-Err-checked-clause-fault
returns-in-Err-checked-clause-fault g c =
    of_text (g.D.Drafting.answers c.args.drafting.now c.args.reading c.args.project.now) c.args.reading c.args.project.now c.in-Ok.field-0 c.in-Err-checked.fault
    c.in-Ok.ensures (rw (c.deref.ensures.value, c.deref-in-Ok.ensures.value) at c.in-Err-checked.ensures.fault)
