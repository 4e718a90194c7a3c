-- Whether some combination counts, and words that are refused.
use Rattle.std.proofs.Common.{◌≡◌, ◌∙◌, ap, sym, refl, ℕ, ◌<◌, Bool, List, [], ◌∷◌, ◌++◌, length, map, Option, Some, None}
use Rattle.std.proofs.lemmas.Nat.{pow_pos}
use Rattle.st_expression.specs.declared.expression.Expression.{Expression}
use Rattle.diagram_declarations.specs.Decls.{Declared, is_input}
use Rattle.causes_query.specs.Causes.{Question}
use Rattle.causes_query.specs.Sources.{image_of, sources_of}
use Rattle.causes_query.specs.declared.source.InputSource.{InputSource}
use Rattle.causes_query.proofs.Asking.{inputs_are}
use Rattle.assume_search.specs.Counted.{is_counted}
use Rattle.assume_truth.specs.Truth.{is_allowed}
use Rattle.assume_possible.specs.Possible.{IsImpossible, IsPossible}
use Rattle.st_words.specs.Places.{AreBetween}
use Rattle.st_words.specs.declared.word.Word.{Word}
use Rattle.assume_reading.specs.Reading.{Refuses}
use Rattle.assume_reading.specs.declared.fault.AssumptionFault.{AssumptionFault}
use Rattle.assume_reading.specs.declared.fault.AssumptionFault.TheVariants as assumption
use Rattle.cli_assumed.specs.Assumed.{IsEverTrue, IsNeverTrue, IsWordAt}

-- ---- whether some combination counts

module _ (e : Expression) (q : Question) (sources : List InputSource)
    (are : sources ≡ sources_of (map is_input q.program.decls.vars) q.listed q.state.held.values) where
  counted_is : (n : ℕ) → is_allowed (Some e) (image_of n sources) ≡ is_counted (Some e) q n
  counted_is n = ap (λ (xs : List Bool). is_allowed (Some e) xs) (inputs_are q.program q.state q.listed n sources are)

  pub ever_true : IsPossible e sources (length q.listed) → IsEverTrue (Some e) q
  ever_true h = (h.0, h.1, sym (counted_is h.0) ∙ h.2)

  pub never_true : IsImpossible e sources (length q.listed) → IsNeverTrue (Some e) q
  never_true h = λ n low. sym (counted_is n) ∙ h n low

pub nothing_assumed : (q : Question) → IsEverTrue None q
nothing_assumed q = (0, pow_pos (length q.listed), refl)

-- ---- a word that is refused

word_between : (from to : ℕ) (before behind : List Word) (word : Word) → AreBetween from to (before ++ word ∷ behind) → word.start < word.end
word_between from to [] behind word h = h.1
word_between from to (w ∷ ws) behind word h = word_between w.end to ws behind word h.2

pub word_at : (decls : Declared) (text : List ℕ) (f : AssumptionFault) → Refuses decls text f → IsWordAt f
word_at decls text (assumption.NotAnInput start end) h = word_between 0 (length text) h.before h.behind _ h.places
word_at decls text assumption.Memory h = tt
word_at decls text (assumption.Character at) h = tt
word_at decls text assumption.NoExpression h = tt
word_at decls text assumption.TooDeep h = tt
