-- Texts one after the other, and what they say together.
use Rattle.std.proofs.Common.{◌≡◌, ℕ, ◌+◌, ◌-◌, List, [], ◌∷◌, ◌++◌, length, Option, Some, None, refl, sym, ap, subst, ◌∙◌, arith}
use Rattle.std.proofs.lemmas.List.{append_assoc, length-append}
use Rattle.diagram_declarations.specs.Decls.{Declared}
use Rattle.st_expression.specs.declared.expression.Expression.{Expression}
use Rattle.assume_reading.specs.declared.fault.AssumptionFault.{AssumptionFault}
use Rattle.assume_reading.specs.Reading.{IsAssumption, Refuses}
use Rattle.assume_reading.specs.Several.{AreAssumptions, AreWith, IsFirstRefused, IsWith}

-- The texts before the rest are read.
pub record SoFar (decls : Declared) (texts rest : List (List ℕ)) (all : Option Expression) : Type 0 where
  pub front : List (List ℕ)
  pub whole : texts ≡ front ++ rest
  pub read : AreAssumptions decls front all

with_more : (decls : Declared) (before all : Option Expression) (texts : List (List ℕ)) (text : List ℕ) (next more : Expression)
    → AreWith decls before texts all → IsAssumption decls text next → IsWith all next more → AreWith decls before (texts ++ text ∷ []) (Some more)
with_more decls before all [] text next more are is with = (next, more, is, subst (λ b. IsWith b next more) are with, refl)
with_more decls before all (t ∷ ts) text next more are is with =
    (are.0, are.1, are.2, are.3, with_more decls (Some are.1) all ts text next more are.4 is with)

pub one_more : (decls : Declared) (texts rest behind : List (List ℕ)) (text : List ℕ) (all : Option Expression) (next more : Expression)
    → SoFar decls texts rest all → rest ≡ text ∷ behind → IsAssumption decls text next → IsWith all next more
    → SoFar decls texts behind (Some more)
one_more decls texts rest behind text all next more so_far first is with = record {
  front = so_far.front ++ text ∷ [];
  whole = so_far.whole ∙ ap (λ r. so_far.front ++ r) first ∙ sym (append_assoc so_far.front (text ∷ []) behind);
  read = with_more decls None all so_far.front text next more so_far.read is with;
}

number_of : (texts front behind : List (List ℕ)) (text : List ℕ) (number : ℕ) → texts ≡ front ++ text ∷ behind
    → number ≡ length texts - length behind → number ≡ length front + 1
number_of texts front behind text number whole count = omega (arith, ap length whole, length-append front (text ∷ behind), count)

pub one_refused : (decls : Declared) (texts rest behind : List (List ℕ)) (text : List ℕ) (all : Option Expression) (number : ℕ)
    (fault : AssumptionFault) → SoFar decls texts rest all → rest ≡ text ∷ behind → number ≡ length texts - length behind
    → Refuses decls text fault → IsFirstRefused decls texts number fault
one_refused decls texts rest behind text all number fault so_far first count refused = record {
  before = so_far.front;
  text = text;
  behind = behind;
  whole = so_far.whole ∙ ap (λ r. so_far.front ++ r) first;
  count = number_of _ _ _ _ _ (so_far.whole ∙ ap (λ r. so_far.front ++ r) first) count;
  all = all;
  read = so_far.read;
  refused = refused;
}
