use Rattle.cli_inputs.proofs.setting.read_given_program.Goals as goal

pub returns-in-Err-Grid-clause-fault : goal.returns-in-Err-Grid-clause-fault
returns-in-Err-Grid-clause-fault c = rw (c.in-Err-Grid.field-0-is, c.deref.ensures.value) at c.in-Err-Grid.ensures.refused

pub returns-in-Err-Title-clause-fault : goal.returns-in-Err-Title-clause-fault
returns-in-Err-Title-clause-fault c =
    let taken = rw (c.in-Err-Title.field-0-is, c.deref.ensures.value) at c.in-Err-Title.ensures.refused in
    (c.if-texts.true, taken.0, taken.1, taken.2)

pub returns-in-Err-clause-fault : goal.returns-in-Err-clause-fault
returns-in-Err-clause-fault c = (rw c.deref-2.ensures.value at c.in-Err.ensures.none, rw c.deref-2.ensures.value at c.in-Err.ensures.broken)
