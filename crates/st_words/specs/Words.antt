-- The words of Structured Text (IEC 61131-3:2013, 6.1): names, numbers and symbols, with blanks and comments between them.
use Rattle.std.specs.Prelude.{◌≡◌, ℕ, Bool, true, false, not, ◌&&◌, ◌||◌, ◌==◌, List, [], ◌∷◌, ◌++◌, codes}
use Rattle.std.specs.List.{list_all, list_any}
use Rattle.std.specs.Char.{is_ascii_alphanumeric}

abbrev pub is_one_of : List ℕ → ℕ → Bool
is_one_of bytes b = list_any (λ other. b == other) bytes

-- a space (32), a tab (9), CR (13) or LF (10)
abbrev pub is_blank : ℕ → Bool
is_blank = is_one_of (32 ∷ 9 ∷ 13 ∷ 10 ∷ [])

-- `T1.Q`, `T#1.5s` and `%IX0.0` are one word each
abbrev pub is_word_byte : ℕ → Bool
is_word_byte b = is_ascii_alphanumeric b || is_one_of (codes "_#%.") b

abbrev pub is_symbol : ℕ → Bool
is_symbol = is_one_of (codes "()*+,-/:;<=>[]&")

abbrev pub are_one_of : List (ℕ × ℕ) → ℕ → ℕ → Bool
are_one_of pairs a b = list_any (λ other. a == other.0 && b == other.1) pairs

-- two bytes of one symbol: `:=` `=>` `<>` `<=` `>=`
abbrev pub is_pair : ℕ → ℕ → Bool
is_pair = are_one_of ((58, 61) ∷ (61, 62) ∷ (60, 62) ∷ (60, 61) ∷ (62, 61) ∷ [])

-- two bytes that open a comment: `(*` and `//`
abbrev pub is_opening : ℕ → ℕ → Bool
is_opening = are_one_of ((40, 42) ∷ (47, 47) ∷ [])

abbrev pub begins : (ℕ → Bool) → List ℕ → Bool
begins test text = elim text [ b ∷ bs ↦ test b | [] ↦ false ]

-- whether `*)` is in it
abbrev pub closes : List ℕ → Bool
closes [] = false
closes (b ∷ bs) = (b == 42 && begins (λ c. c == 41) bs) || closes bs

abbrev pub is_in_line : ℕ → Bool
is_in_line b = not (b == 10)

-- The text begins with a blank or with a comment, and the rest is behind it. A comment is `(*` to the first `*)`, or `//` to the end of its line or
-- of the text.
pub data Gap : (text rest : List ℕ) → Type 0 where
  blank : (b : ℕ) (rest : List ℕ) → is_blank b ≡ true → Gap (b ∷ rest) rest
  comment : (inside rest : List ℕ) → closes inside ≡ false → Gap (40 ∷ 42 ∷ (inside ++ (42 ∷ 41 ∷ rest))) rest
  line_comment : (inside rest : List ℕ) → list_all is_in_line inside ≡ true → begins is_in_line rest ≡ false → Gap (47 ∷ 47 ∷ (inside ++ rest)) rest

-- The word, right before the rest, is as long as it can be.
pub data IsWord : (word rest : List ℕ) → Type 0 where
  run : (b : ℕ) (bs rest : List ℕ) → list_all is_word_byte (b ∷ bs) ≡ true → begins is_word_byte rest ≡ false → IsWord (b ∷ bs) rest
  pair : (a b : ℕ) (rest : List ℕ) → is_pair a b ≡ true → IsWord (a ∷ b ∷ []) rest
  single : (a : ℕ) (rest : List ℕ) → is_symbol a ≡ true → begins (λ b. is_pair a b || is_opening a b) rest ≡ false → IsWord (a ∷ []) rest

-- The text is these words, with blanks and comments before and between them, and then the rest.
pub data Words : (text : List ℕ) → (words : List (List ℕ)) → (rest : List ℕ) → Type 0 where
  nothing : (rest : List ℕ) → Words rest [] rest
  after_gap : (text after rest : List ℕ) (words : List (List ℕ)) → Gap text after → Words after words rest → Words text words rest
  after_word : (word after rest : List ℕ) (words : List (List ℕ)) → IsWord word after → Words after words rest → Words (word ++ after) (word ∷ words) rest

-- The text is these words.
abbrev pub AreWords : (text : List ℕ) → (words : List (List ℕ)) → Type 0
AreWords text words = Words text words []

-- The text isn't empty, and neither a word nor a blank nor a comment begins it.
abbrev pub BeginsNone : List ℕ → Type 0
BeginsNone text =
    (text ≡ [] → ⊥) × ((rest : List ℕ) → Gap text rest → ⊥) × ((word rest : List ℕ) → text ≡ word ++ rest → IsWord word rest → ⊥)

-- A text has one list of words.
abbrev pub IsUnambiguous : Type 0
IsUnambiguous = (text : List ℕ) (words others : List (List ℕ)) → AreWords text words → AreWords text others → words ≡ others
