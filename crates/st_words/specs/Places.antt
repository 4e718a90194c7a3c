-- Where words stand in a text.
use Rattle.std.specs.Prelude.{ℕ, ◌<◌, ◌≤◌, List, [], ◌∷◌, map, slice_range}
use Rattle.st_words.specs.declared.word.Word.{Word}

-- the bytes of a word
abbrev pub spelled : List ℕ → Word → List ℕ
spelled text word = slice_range text word.start word.end

-- the bytes of each word
abbrev pub spellings : List ℕ → List Word → List (List ℕ)
spellings text words = map (spelled text) words

-- The words are between two places, in this order.
abbrev pub AreBetween : (from to : ℕ) → List Word → Type 0
AreBetween from to [] = from ≤ to
AreBetween from to (word ∷ words) = (from ≤ word.start) × (word.start < word.end) × AreBetween word.end to words
