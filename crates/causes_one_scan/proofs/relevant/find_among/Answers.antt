use Rattle.std.specs.Prelude.{option_map}
use Rattle.causes_one_scan.proofs.Deciding.{are_inputs, decided, decided_truth}
use Rattle.causes_one_scan.proofs.relevant.find_among.Goals as goal

pub returns-clause-inputs : goal.returns-clause-inputs
returns-clause-inputs c = rw c.in_ok-found.ensures (are_inputs c.args.scan.program.now c.open_inputs.new.image c.args.inputs.now c.requires.inputs)

pub returns-clause-decide : goal.returns-clause-decide
returns-clause-decide c =
    let a = c.args.scan in
    rw c.in_ok-found.ensures
    (decided a.program.now a.state.now a.now a.coil c.open_inputs.new.image c.args.inputs.now c.open_inputs.ensures.image c.requires.inputs (rw c.open_inputs.ensures.length c.requires.as_many))

pub returns-clause-truth : goal.returns-clause-truth
returns-clause-truth c =
    let a = c.args.scan in
    rw c.in_ok-found.ensures
    (decided_truth a.program.now a.state.now a.now a.coil (option_map (λ e. e.now) c.args.assumed) c.open_inputs.new.image c.args.inputs.now c.open_inputs.ensures.named c.requires.inputs
    (rw c.open_inputs.ensures.length c.requires.as_many))
