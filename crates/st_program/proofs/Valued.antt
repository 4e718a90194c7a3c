-- The values of INTs, found in words one after the other.
use Rattle.std.proofs.Common.{◌≡◌, ℕ, List, [], ◌∷◌, ◌++◌, Option, Some, subst, sym, ◌∙◌, ap}
use Rattle.std.proofs.lemmas.List.{map-append}
use Rattle.st_integers.specs.declared.value.IntegerValue.{IntegerValue}
use Rattle.st_words.specs.declared.word.Word.{Word}
use Rattle.st_program.specs.declared.symbols.StVariable.{StVariable}
use Rattle.st_program.specs.Items.{AreValues, no_words_left, value_then, other_word, IsNewValue, values_in, with_value}
use Rattle.st_program.specs.Symbols.{Table, integer_value}

-- What the table is with the values of the words that are left is what it is with those of all words.
abbrev pub Valued : List ℕ → (words rest : List Word) → (before now : Table) → Type 0
Valued text words rest before now = (u : Table) → AreValues text rest now u → AreValues text words before u

pub value_next : (text : List ℕ) (words rest behind : List Word) (word : Word) (t u w : Table) (v : StVariable) (integer n : ℕ)
    → Valued text words rest t u → rest ≡ word ∷ behind → IsNewValue text u rest v integer n → w ≡ with_value u v integer n
    → Valued text words behind t w
value_next text words rest behind word t u w v integer n so_far first is grows x are =
    so_far x (rw first (value_then word behind u x v integer n (subst (λ r. IsNewValue text u r v integer n) first is)
    (subst (λ y. AreValues text behind y x) grows are)))

pub word_passed : (text : List ℕ) (words rest behind : List Word) (word : Word) (t u : Table) → Valued text words rest t u → rest ≡ word ∷ behind
    → Valued text words behind t u
word_passed text words rest behind word t u so_far first x are = so_far x (rw first (other_word word behind u x are))

pub all_passed : (text : List ℕ) (words rest : List Word) (t u : Table) → Valued text words rest t u → rest ≡ [] → AreValues text words t u
all_passed text words rest t u so_far none = so_far u (rw none (no_words_left u))

pub one_value_more : (values more : List (Option IntegerValue)) (t u : Table) (v : StVariable) (of : IntegerValue) → values ≡ values_in t
    → u ≡ with_value t v of.integer of.value → more ≡ values ++ Some of ∷ [] → more ≡ values_in u
one_value_more values more t u v of are grows is =
    is ∙ ap (λ vs. vs ++ Some of ∷ []) are ∙ sym (map-append (λ x. integer_value x.sort) t.variables _) ∙ ap values_in (sym grows)
