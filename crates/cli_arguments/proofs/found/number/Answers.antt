use Rattle.std.proofs.Common.{sym}
use Rattle.std.specs.Str.Parse.{ExplainsUnsignedError, HasUnsignedDigitsIfOk}
use Rattle.clap.specs.Words.{found_of, one_text, rows_of}
use Rattle.clap.proofs.WalkLemmas.{one_text-rows}
use Rattle.cli_arguments.proofs.Numbers.{no_number, number_at, ok_same}
use Rattle.cli_arguments.proofs.found.number.Goals as goal

pub returns-in-Ok-clause-ok : goal.returns-in-Ok-clause-ok
returns-in-Ok-clause-ok c =
    let f = found_of c.args.found.now in
    let id = c.args.id.now in
    number_at (λ bs r. ExplainsUnsignedError 10 bs r) (λ bs r. HasUnsignedDigitsIfOk bs r) id (rows_of f) (one_text f id) c.in-Ok.number (sym (one_text-rows f id)) (λ e. ok_same (c.in-Ok.ensures.none e)) c.in-Ok.ensures.value

pub returns-in-Err-clause-err : goal.returns-in-Err-clause-err
returns-in-Err-clause-err c =
    let f = found_of c.args.found.now in
    let id = c.args.id.now in
    no_number (λ bs r. ExplainsUnsignedError 10 bs r) (λ bs r. HasUnsignedDigitsIfOk bs r) id (rows_of f) (one_text f id) c.in-Err.field-0 (sym (one_text-rows f id)) c.in-Err.ensures.none c.in-Err.ensures.value
