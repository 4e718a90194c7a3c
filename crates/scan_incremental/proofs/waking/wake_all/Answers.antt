use Rattle.std.proofs.Common.{◌≡◌, true, false}
use Rattle.scan_incremental.proofs.waking.wake_all.Goals as goal

on_off : true ≡ false → ⊥
on_off e = cc

pub returns : goal.returns
returns c = λ d moment h. record {
  within = λ j n k. absurd (on_off (c.wake.ensures j n k).1);
  rests = λ j n k. absurd (on_off (c.wake.ensures j n k).1);
}
