use Rattle.std.proofs.Common.{◌≡◌, [], length}
use Rattle.std.specs.Prelude.{option_map}
use Rattle.causes_query.specs.Causes.{question}
use Rattle.scan_symbolic.specs.Sheets.{HasRoom}
use Rattle.causes_one_scan.specs.Looking.{AreNamedAlike, LeavesAlike}
use Rattle.causes_one_scan.proofs.relevant.open_inputs.Given as goal

abbrev pub invariant-loop-input : goal.invariant-loop-input
invariant-loop-input l = record {
  image : LeavesAlike (question l.program l.state l.now l.coil []) l.image;
  named : AreNamedAlike (option_map (λ e. e.now) l.assumed) l.image;
  length : length l.image ≡ length l.fn.image;
  room : HasRoom l.program l.work;
}
