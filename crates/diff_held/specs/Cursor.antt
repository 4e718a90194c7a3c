-- What a caller sees of a cursor over differences of several scans.
use Rattle.std.specs.Prelude.{◌≡◌, List}
use Rattle.causes_query.specs.Causes.{Question}
use Rattle.diff_held.specs.declared.row.HeldDifference.{HeldDifference}

-- It was asked this of the old program and of the new one, and has these differences still to give.
pub record HeldDifferenceCursor : Type 0 where
  pub asked_old : Question
  pub asked_new : Question
  pub rest : List HeldDifference

-- It goes on with what it was asked.
abbrev pub KeepsQuestions : HeldDifferenceCursor → HeldDifferenceCursor → Type 0
KeepsQuestions before after = (after.asked_old ≡ before.asked_old) × (after.asked_new ≡ before.asked_new)
