use Rattle.cli_questions.proofs.asking.read_request.Goals as goal

pub returns-clause-asked : goal.returns-clause-asked
returns-clause-asked c = rw (c.as_str-coil.ensures.value, c.as_slice-inputs.ensures.value) at c.read_question.ensures.asked

pub returns-clause-fault : goal.returns-clause-fault
returns-clause-fault c = rw (c.as_str-coil.ensures.value, c.as_slice-inputs.ensures.value) at c.read_question.ensures.fault
