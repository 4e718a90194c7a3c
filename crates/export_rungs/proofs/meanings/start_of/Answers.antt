use Rattle.std.proofs.Common.{refl}
use Rattle.scan_cycle.specs.Rung.{frame_of}
use Rattle.export_rungs.proofs.meanings.start_of.Goals as goal

pub returns-then-begins : goal.returns-then-begins
returns-then-begins c = λ now g h flags size between. c.if-begins.ensures refl g.kept now (frame_of g) (frame_of h) between.sees
