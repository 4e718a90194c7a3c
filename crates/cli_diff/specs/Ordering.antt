-- Private: questions with their inputs in an order.
use Rattle.std.specs.Prelude.{◌≡◌, None, length}
use Rattle.causes_query.specs.Causes.{Question}
use Rattle.causes_query.specs.Refusal.{refusal}
use Rattle.cli_arguments.specs.declared.request.InputOrder.{InputOrder}
use Rattle.cli_diff.specs.Listing.{new_ordered, old_ordered}

-- The second two questions are the first two with their inputs in the order; as many inputs are listed in each, and the same rules are broken.
pub record ArePutInOrder (order : InputOrder) (old new old' new' : Question) : Type 0 where
  pub of_old : old' ≡ old_ordered order old
  pub of_new : new' ≡ new_ordered order old new
  pub old_alike : refusal old' None ≡ refusal old None
  pub new_alike : refusal new' None ≡ refusal new None
  pub many : length old'.listed ≡ length new'.listed
