-- Words in a row.
use Rattle.std.specs.Prelude.{◌≡◌, ℕ, List, ◌∷◌}
use Rattle.st_words.specs.declared.word.Word.{Word}
use Rattle.st_words.specs.Places.{spelled}
use Rattle.st_program.specs.declared.mark.Mark.{Mark}
use Rattle.st_program.specs.Marks.{mark_of}

-- The words begin with this keyword or symbol, and the rest is behind it.
pub record Marked (text : List ℕ) (mark : Mark) (words rest : List Word) : Type 0 where
  pub word : Word
  pub whole : words ≡ word ∷ rest
  pub is : mark_of (spelled text word) ≡ mark
