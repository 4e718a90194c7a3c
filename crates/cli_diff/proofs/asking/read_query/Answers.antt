use Rattle.cli_inputs.specs.Setting.{given_by}
use Rattle.cli_diff.specs.Faults.{words_of}
use Rattle.cli_diff.proofs.Naming.{own_fault}
use Rattle.cli_diff.proofs.asking.read_query.Goals as goal

pub returns-in-Err-read_variables-clause-fault : goal.returns-in-Err-read_variables-clause-fault
returns-in-Err-read_variables-clause-fault c =
    let set = c.in-Ok.ensures.set in
    let e = c.in-Err-read_variables in
    own_fault (given_by c.args.texts.now.old) (given_by c.args.texts.now.new) _ _ (words_of c.args.request.now) e.fault.side e.fault.fault set.old.drawn set.drawn e.ensures.fault
