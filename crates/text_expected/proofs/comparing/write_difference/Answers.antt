use Rattle.io_text.specs.Text.{records_of}
use Rattle.text_expected.proofs.comparing.write_difference.Goals as goal

pub returns : goal.returns
returns g c = c.compare.ensures (records_of c.args.expected.now) (records_of c.args.found.now) c.read_from.ensures.all c.read_from-2.ensures.all
