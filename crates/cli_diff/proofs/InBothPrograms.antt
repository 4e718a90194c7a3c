-- What is assumed of both programs: how it is counted, and whether some combination makes it true.
use Rattle.std.proofs.Common.{◌≡◌, ◌∙◌, ap, ap₂, inl, inr, refl, subst, sym, ℕ, ◌<◌, Bool, true, false, List, Option, None, Some, length, map}
use Rattle.std.specs.Prelude.{◌&&◌, ◌^◌}
use Rattle.st_expression.specs.declared.expression.Expression.{Expression}
use Rattle.diagram_declarations.specs.Decls.{is_input}
use Rattle.causes_query.specs.Causes.{Question}
use Rattle.causes_query.specs.Sources.{image_of, sources_of}
use Rattle.causes_query.specs.declared.source.InputSource.{InputSource}
use Rattle.causes_query.proofs.Asking.{inputs_are}
use Rattle.assume_truth.specs.Truth.{is_allowed}
use Rattle.assume_search.specs.Counted.{is_counted}
use Rattle.assume_possible.specs.Possible.{IsImpossibleInBoth, IsPossibleInBoth}
use Rattle.cli_assumed.specs.Assumed.{IsEverTrue, IsNeverTrue}
use Rattle.cli_diff.specs.Assumed.{IsEverTrueInBoth, IsImpossibleBy, IsNeverTrueInBoth}
use Rattle.cli_diff.specs.declared.sided.SidedFault.{SidedFault}

both_true : (a b : Bool) → a ≡ true → b ≡ true → (a && b) ≡ true
both_true true b h k = k
both_true false b h k = h

with_true : (a : Bool) → (a && true) ≡ a
with_true true = refl
with_true false = refl

counted_is : (e : Expression) (q : Question) (sources : List InputSource) → sources ≡ sources_of (map is_input q.program.decls.vars) q.listed q.state.held.values
    → (n : ℕ) → is_allowed (Some e) (image_of n sources) ≡ is_counted (Some e) q n
counted_is e q sources are n = ap (λ (xs : List Bool). is_allowed (Some e) xs) (inputs_are q.program q.state q.listed n sources are)

-- ---- of both something is assumed

module _ (e f : Expression) (old new : Question) (xs ys : List InputSource)
    (of_old : xs ≡ sources_of (map is_input old.program.decls.vars) old.listed old.state.held.values)
    (of_new : ys ≡ sources_of (map is_input new.program.decls.vars) new.listed new.state.held.values) where
  pub ever_both : IsPossibleInBoth e xs f ys (length old.listed) → IsEverTrueInBoth (Some e) (Some f) old new
  ever_both h = (h.0, h.1, both_true _ _ (sym (counted_is e old xs of_old h.0) ∙ h.2) (sym (counted_is f new ys of_new h.0) ∙ h.3))

  pub never_both : IsImpossibleInBoth e xs f ys (length old.listed) → IsNeverTrueInBoth (Some e) (Some f) old new
  never_both h = λ n low. ap₂ (λ (a b : Bool). a && b) (sym (counted_is e old xs of_old n)) (sym (counted_is f new ys of_new n)) ∙ h n low

-- ---- of one alone

module _ (assumed : Option Expression) (old new : Question) where
  pub ever_old : IsEverTrue assumed old → IsEverTrueInBoth assumed None old new
  ever_old h = (h.0, h.1, with_true (is_counted assumed old h.0) ∙ h.2)

  pub never_old : IsNeverTrue assumed old → IsNeverTrueInBoth assumed None old new
  never_old h = λ n low. with_true (is_counted assumed old n) ∙ h n low

  pub ever_new : length old.listed ≡ length new.listed → IsEverTrue assumed new → IsEverTrueInBoth None assumed old new
  ever_new same h = (h.0, subst (λ (k : ℕ). h.0 < 2 ^ k) (sym same) h.1, h.2)

  pub never_new : length old.listed ≡ length new.listed → IsNeverTrue assumed new → IsNeverTrueInBoth None assumed old new
  never_new same h = λ n low. h n (subst (λ (k : ℕ). n < 2 ^ k) same low)

pub impossible_as : (P Q : Type 0) (e : SidedFault) → (P → Q) → IsImpossibleBy P e → IsImpossibleBy Q e
impossible_as P Q e says (inl h) = inl h
impossible_as P Q e says (inr h) = inr (h.0, says h.1)
