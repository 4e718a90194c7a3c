-- How many of the numbers of the rows that were written aren't settled.
use Rattle.std.proofs.Common.{◌≡◌, ◌∙◌, ◌⊎◌, ◌≤◌, ◌==◌, if◌then◌else◌, Bool, true, false, ℕ, ◌+◌, List, [], ◌∷◌, Option, Some, ap, arith, filter, not, refl}
use Rattle.std.proofs.lemmas.List.Sums.{sum_by-cons}
use Rattle.search_groups.specs.Classes.{numbers_in}
use Rattle.search_groups.specs.declared.class_walk.ClassGroup.{ClassGroup}
use Rattle.search_groups.specs.Groups.{cells, size}
use Rattle.causes_any_state.specs.declared.table.TheConstants.{SETTLED}
use Rattle.text_causes.specs.CauseText.{limited}
use Rattle.text_causes.specs.Limit.{limit_left}
use Rattle.text_lists.specs.ClassText.{unsettled_in}
use Rattle.text_lists.proofs.Counting.{limited_first, nothing_left}

-- So many were counted, after so many rows, and the others are in the rows that are left.
pub record Counted (k : ℕ) (limit : Option ℕ) (all left : List ClassGroup) (rows unsettled : ℕ) : Type 0 where
  pub summed : unsettled + unsettled_in k (limited (limit_left limit rows) left) ≡ unsettled_in k (limited limit all)

pub counted_none : (k : ℕ) (limit : Option ℕ) (all : List ClassGroup) → Counted k limit all all 0 0
counted_none k limit all = record { summed = omega (arith, ap (unsettled_in k) (limited_first limit all)) }

-- a group is counted where it isn't settled
chosen : (k : ℕ) (r : ClassGroup) (rest : List ClassGroup) (settled : Bool)
    → numbers_in k (if not settled then r ∷ rest else rest) ≡ (if settled then 0 else size (cells k r.group)) + numbers_in k rest
chosen k r rest true = omega arith
chosen k r rest false = sum_by-cons (λ (r : ClassGroup). size (cells k r.group)) r rest

pub counted_more : (k : ℕ) (limit : Option ℕ) (all left : List ClassGroup) (rows unsettled : ℕ) (r : ClassGroup) (rest : List ClassGroup) → Counted k limit all left rows unsettled
    → limited (limit_left limit rows) left ≡ r ∷ limited (limit_left limit (rows + 1)) rest
    → Counted k limit all rest (rows + 1) (unsettled + (if r.class == SETTLED then 0 else size (cells k r.group)))
counted_more k limit all left rows unsettled r rest so_far next =
    let after = limited (limit_left limit (rows + 1)) rest in
    let one = ap (unsettled_in k) next ∙ chosen k r (filter (λ (r : ClassGroup). not (r.class == SETTLED)) after) (r.class == SETTLED) in
    record { summed = omega (arith, so_far.summed, one) }

-- No more are counted than the group has.
pub some_of : (settled : Bool) (numbers : ℕ) → (if settled then 0 else numbers) ≤ numbers
some_of true numbers = omega arith
some_of false numbers = omega arith
