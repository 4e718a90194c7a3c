-- Helpers that are told of one after the other.
use Rattle.std.proofs.Common.{List, [], ◌∷◌, ◌++◌, Bool, arith}
use Rattle.std.proofs.lemmas.List.Elements.{All-append, All-nil}
use Rattle.std.proofs.lemmas.Grind.{common_steps}
use Rattle.scan_cycle.specs.Cells.{Frame}
use Rattle.draw_power.specs.declared.helpers.Helper.{Helper}
use Rattle.draw_power.specs.Helpers.{AreHelpers, IsHelper}

pub no_helpers : (f : Frame Bool) → AreHelpers [] f
no_helpers f = All-nil (IsHelper f)

one_helper : (f : Frame Bool) (x : Helper) → IsHelper f x → AreHelpers (x ∷ []) f
one_helper f x h = grind (arith, common_steps)

pub one_more : (helpers : List Helper) (f : Frame Bool) (x : Helper) → AreHelpers helpers f → IsHelper f x → AreHelpers (helpers ++ x ∷ []) f
one_more helpers f x are h = All-append (IsHelper f) helpers (x ∷ []) are (one_helper f x h)
