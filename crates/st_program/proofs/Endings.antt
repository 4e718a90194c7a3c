-- Where a program ends and begins.
use Rattle.std.proofs.Common.{◌≡◌, ℕ, true, ◌==◌, List, [], ◌∷◌, length, refl, subst, sym, arith}
use Rattle.std.proofs.lemmas.Bool.{eqb-true}
use Rattle.st_words.specs.declared.word.Word.{Word}
use Rattle.st_words.specs.Places.{spelled}
use Rattle.st_program.specs.declared.item.Item.{Item}
use Rattle.st_program.specs.declared.mark.Mark.TheVariants as mark
use Rattle.st_program.specs.Phrases.{Marked}
use Rattle.st_program.specs.Programs.{Finish, at_once, semicolon, Ending, unmarked, Heading, titled}
use Rattle.st_program.specs.Statements.{Has}
use Rattle.st_program.specs.Symbols.{IsName}

is_nil : (items : List Item) → (length items == 0) ≡ true → items ≡ []
is_nil [] h = refl
is_nil (i ∷ is) h = absurd (omega (arith, eqb-true (length (i ∷ is)) 0 h))

pub finish_at : (items rest : List Item) → Has mark.Semicolon items rest → (length rest == 0) ≡ true → Finish items
finish_at items rest has empty = semicolon items (subst (Has mark.Semicolon items) (is_nil rest empty) has)

pub finish_once : (items : List Item) → (length items == 0) ≡ true → Finish items
finish_once items empty = subst Finish (sym (is_nil items empty)) at_once

pub ending_once : (items : List Item) → (length items == 0) ≡ true → Ending items
ending_once items empty = subst Ending (sym (is_nil items empty)) unmarked

pub titled_by : (text : List ℕ) (words named rest : List Word) (name : Word) (bytes : List ℕ) → Marked text mark.Program words named → named ≡ name ∷ rest
    → bytes ≡ spelled text name → IsName bytes → Heading text words rest
titled_by text words named rest name bytes opens first are is =
    titled words rest name (subst (Marked text mark.Program words) first opens) (subst IsName are is)
