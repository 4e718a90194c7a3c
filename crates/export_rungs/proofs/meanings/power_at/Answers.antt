use Rattle.std.proofs.Common.{refl, sym}
use Rattle.scan_cycle.specs.Rung.{frame_of}
use Rattle.export_rungs.proofs.meanings.power_at.Goals as goal

pub returns-then-is_power : goal.returns-then-is_power
returns-then-is_power c = λ now g h flags size between. sym (c.if-is_power.ensures refl g.kept now (frame_of g) (frame_of h) between.sees)
