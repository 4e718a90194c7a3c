use Rattle.std.proofs.Common.{◌<◌, length, refl, rules}
use Rattle.std.proofs.lemmas.Option.{slice_get_read}
use Rattle.cli_witnesses.proofs.Named.{named}
use Rattle.cli_witnesses.proofs.judged.Judged.name.Goals as goal

pub returns-in-Ok : goal.returns-in-Ok
returns-in-Ok c =
    let j = c.args.self.now in
    let within : c.args.number < length j.witnesses = search rules in
    named j c.args.number c.index-witnesses-number.result _ _
    (slice_get_read j.witnesses _ c.args.number _ refl within (rw c.witnesses-witnesses.ensures at c.index-witnesses-number.is))
    (rw (c.old.ensures, c.new.ensures, c.witnesses-witnesses.ensures) at c.count_named-before.ensures)
    (rw c.new-name.ensures.items at c.in-Ok.ensures)
