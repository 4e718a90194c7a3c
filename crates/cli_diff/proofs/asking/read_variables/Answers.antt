use Rattle.std.proofs.Common.{◌∙◌, map, sym}
use Rattle.std.specs.Prelude.{string_bytes}
use Rattle.cli_diff.proofs.Naming.{as_many}
use Rattle.cli_diff.proofs.asking.read_variables.Goals as goal

pub returns-clause-same : goal.returns-clause-same
returns-clause-same c =
    let words = map string_bytes c.args.request.now.inputs.items in
    as_many c.args.old.now.decls words _ c.in-Ok.ensures.inputs ∙ sym (as_many c.args.new.now.decls words _ c.in-Ok-named_in.ensures.inputs)

pub returns-in-Ok-common_inputs-clause-listed : goal.returns-in-Ok-common_inputs-clause-listed
returns-in-Ok-common_inputs-clause-listed c =
    rw (c.if-request.true) (c.in-Ok-common_inputs.ensures.listed (map string_bytes c.args.request.now.inputs.items))

pub returns-clause-listed : goal.returns-clause-listed
returns-clause-listed c = rw (c.if-request.false) (c.in-Ok.ensures.inputs, c.in-Ok-named_in.ensures.inputs)
