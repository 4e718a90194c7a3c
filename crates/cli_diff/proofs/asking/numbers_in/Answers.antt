use Rattle.std.proofs.Common.{arith}
use Rattle.std.proofs.lemmas.List.{map_more}
use Rattle.cli_diff.specs.Asking.{number_in}
use Rattle.cli_diff.proofs.asking.numbers_in.Goals as goal

pub loop-pair-preserved : goal.loop-pair-preserved
loop-pair-preserved c = grind (arith, map_more (number_in c.args.side) c.args.pairs.now c.loop-pair.pair-index)
