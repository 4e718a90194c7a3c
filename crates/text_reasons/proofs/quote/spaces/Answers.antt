use Rattle.std.proofs.lemmas.List.{take-replicate}
use Rattle.diagram_program.specs.Bytes.{space}
use Rattle.text_reasons.specs.declared.quote.TheConstants.{WIDEST}
use Rattle.text_reasons.proofs.quote.spaces.Goals as goal

pub returns : goal.returns
returns c = take-replicate c.args.count WIDEST space c.requires
