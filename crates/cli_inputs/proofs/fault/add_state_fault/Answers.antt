use Rattle.cli_inputs.proofs.fault.add_state_fault.Goals as goal

pub returns-in-BadRow : goal.returns-in-BadRow
returns-in-BadRow g c = rw c.in-BadRow.is c.add_numbered.ensures
