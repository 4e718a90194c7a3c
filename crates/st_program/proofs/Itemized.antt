-- Words one after the other, and all that they are.
use Rattle.std.proofs.Common.{◌≡◌, ℕ, Bool, true, List, [], ◌∷◌, ◌++◌, Option, subst}
use Rattle.std.proofs.lemmas.List.{append_assoc, append-nil}
use Rattle.st_words.specs.declared.word.Word.{Word}
use Rattle.st_program.specs.declared.item.Item.{Item}
use Rattle.st_program.specs.Items.{AreItems, no_words, word_then, comparison_then, IsCompared, IsItem, comparison, is_loose}
use Rattle.st_program.specs.Symbols.{Table}

-- The items so far, before those of the words that are left, are those of all words.
abbrev pub SoFar : List ℕ → Table → (may : Bool) → (words rest : List Word) → List Item → Type 0
SoFar text t may words rest items = (others : List Item) → AreItems text t may rest others → AreItems text t true words (items ++ others)

pub item_next : (text : List ℕ) (t : Table) (may then_may : Bool) (words rest behind : List Word) (items : List Item) (word : Word) (item : Item)
    → SoFar text t may words rest items → rest ≡ word ∷ behind → IsItem text t word item → then_may ≡ is_loose item.mark
    → SoFar text t then_may words behind (items ++ item ∷ [])
item_next text t may then_may words rest behind items word item so_far first is loose others are =
    rw append_assoc (so_far (item ∷ others) (rw first (word_then may word behind item others is (subst (λ m. AreItems text t m behind others) loose are))))

pub comparison_next : (text : List ℕ) (t : Table) (may : Bool) (words rest behind : List Word) (items : List Item) (name : Word) (equal : Bool)
    (number : Option ℕ) → SoFar text t may words rest items → may ≡ true → IsCompared text t rest behind name equal number
    → SoFar text t true words behind (items ++ comparison name equal number)
comparison_next text t may words rest behind items name equal number so_far may_be is others are =
    rw append_assoc (so_far (comparison name equal number ++ others)
    (rw may_be (comparison_then rest behind name equal number others is are)))

pub items_all : (text : List ℕ) (t : Table) (may : Bool) (words rest : List Word) (items : List Item) → SoFar text t may words rest items → rest ≡ []
    → AreItems text t true words items
items_all text t may words rest items so_far none = subst (AreItems text t true words) (append-nil items) (so_far [] (rw none (no_words may)))
