use Rattle.io_text.proofs.Steps.{takes_first}
use Rattle.io_text.proofs.records.next.Goals as goal

pub returns-in-Ok-clause-takes : goal.returns-in-Ok-clause-takes
returns-in-Ok-clause-takes c = λ rows left.
    let plain = c.requires in
    takes_first c.args.records.now c.read_byte_record.new.self c.in-Ok.found _ rows plain (c.in-Ok.ensures.reads plain.0 plain.1) left
