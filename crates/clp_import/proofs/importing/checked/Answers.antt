use Rattle.clp_import.proofs.Faults.{compared_as, unread}
use Rattle.clp_import.proofs.importing.checked.Goals as goal

pub returns-in-Ok-clause-fault : goal.returns-in-Ok-clause-fault
returns-in-Ok-clause-fault c = compared_as c.args.reading c.args.project.now c.args.blocks.now c.args.text.now c.in-Ok.program c.compared.result
    c.in-Ok.ensures.only c.compared.ensures.fault

pub returns-in-Err-clause-fault : goal.returns-in-Err-clause-fault
returns-in-Err-clause-fault c = unread c.args.reading c.args.project.now c.args.blocks.now c.args.text.now c.text_fault.result c.in-Err.fault c.in-Err.ensures.none
    c.text_fault.ensures
