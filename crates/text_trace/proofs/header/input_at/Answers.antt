use Rattle.std.proofs.Common.{◌∙◌, ap, sym}
use Rattle.csv.specs.Records.{fields_of}
use Rattle.csv.proofs.RecordFacts.{field-get, field-there}
use Rattle.text_trace.specs.Stimulus.{input_named}
use Rattle.text_trace.proofs.header.input_at.Goals as goal

pub returns-in-Some-clause-place : goal.returns-in-Some-clause-place
returns-in-Some-clause-place c =
    c.input_named.ensures.place ∙ ap (input_named c.args.decls.now) (sym (field-get (fields_of c.args.row.now) c.args.number c.in-Some.word.now (sym c.in-Some.ensures.value)))

pub returns-in-None-clause-place : goal.returns-in-None-clause-place
returns-in-None-clause-place c = absurd (field-there (fields_of c.args.row.now) c.args.number c.requires (sym c.in-None.ensures.value))
