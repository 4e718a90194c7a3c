-- The truth of what is assumed in a state.
use Rattle.std.proofs.Common.{◌≡◌, ◌∙◌, Bool, false, List, [], ◌∷◌, Option, ap, refl, slice_index_or, zero, suc, ℕ}
use Rattle.std.proofs.Math.Path.{fun_ext}
use Rattle.st_expression.specs.declared.expression.Expression.{Expression}
use Rattle.st_expression.specs.Value.{held}
use Rattle.scan_signals.specs.Truth.{plain}
use Rattle.assume_truth.specs.Truth.{assumed_truth, is_allowed}
use Rattle.assume_truth.proofs.Kept.{allowed_is}

held_is : (values : List Bool) (i : ℕ) → slice_index_or values i false ≡ held values i
held_is [] i = refl
held_is (v ∷ vs) zero = refl
held_is (v ∷ vs) (suc i) = held_is vs i

pub truth_stored : (values : List Bool) (assumed : Option Expression) → assumed_truth plain (λ place. slice_index_or values place false) assumed ≡ is_allowed assumed values
truth_stored values assumed = ap (λ f. assumed_truth plain f assumed) (fun_ext λ place. held_is values place) ∙ allowed_is values assumed
