use Rattle.std.proofs.Common.{arith, length-take}
use Rattle.draw_program.proofs.matching.shown_of.Goals as goal

pub slice_bounds-result-end : goal.slice_bounds-result-end
slice_bounds-result-end c = omega (arith, length-take 32 c.args.word.now, c.if-word-le-LONGEST_TITLE.false)
