-- Private: what is drawn, and its value.
use Rattle.std.specs.Prelude.{◌≡◌, ℕ, ◌+◌, max, Bool, not, ◌&&◌, ◌||◌}
use Rattle.scan_cycle.specs.Cells.{Frame}
use Rattle.st_expression.specs.declared.expression.Expression.{Expression}
use Rattle.st_expression.specs.declared.expression.Expression.TheVariants as tree
use Rattle.st_statements.specs.Run.{seen}
use Rattle.draw_power.specs.declared.part.Pair.{Pair}
use Rattle.draw_power.specs.declared.part.Part.{Part}
use Rattle.draw_power.specs.Helpers.{value_as}

-- the value that a part has
abbrev pub shown : Part → Frame Bool → Bool
shown part f = value_as part.on (seen f) part.expression.now

-- both parts
abbrev pub both_of : Pair → Frame Bool → Bool
both_of pair f = shown pair.first f && shown pair.second f

-- one of them at least
abbrev pub any_of : Pair → Frame Bool → Bool
any_of pair f = shown pair.first f || shown pair.second f

-- none of them
abbrev pub none_of : Pair → Frame Bool → Bool
none_of pair f = not (shown pair.first f) && not (shown pair.second f)

-- both or none
abbrev pub same_of : Pair → Frame Bool → Bool
same_of pair f = both_of pair f || none_of pair f

-- The pair is these two expressions, each or its inverse.
pub record IsPair (pair : Pair) (a : Expression) (a_on : Bool) (b : Expression) (b_on : Bool) : Type 0 where
  pub first : pair.first.expression.now ≡ a
  pub first_on : pair.first.on ≡ a_on
  pub second : pair.second.expression.now ≡ b
  pub second_on : pair.second.on ≡ b_on

-- how many operators are within one another
unfoldable pub depth : Expression → ℕ
depth (tree.Constant on) = 0
depth (tree.Operand o) = 0
depth (tree.Not' p a) = depth a + 1
depth (tree.Equal' p a q b) = max (depth a) (depth b) + 1
depth (tree.And' p a q b) = max (depth a) (depth b) + 1
depth (tree.Exclusive' p a q b) = max (depth a) (depth b) + 1
depth (tree.Or' p a q b) = max (depth a) (depth b) + 1

-- that of the deeper part
abbrev pub depth_of : Pair → ℕ
depth_of pair = max (depth pair.first.expression.now) (depth pair.second.expression.now)
