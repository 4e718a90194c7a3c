-- Comments, processing instructions, references and character data (XML 1.0, 2.4 to 2.7 and 4.1).
use Rattle.std.specs.Prelude.{◌≡◌, ℕ, ◌+◌, ◌*◌, ◌<◌, Bool, true, false, nat_eq, List, [], ◌∷◌, ◌++◌, map, codes, encode_utf8}
use Rattle.std.specs.List.{starts_with}
use Rattle.std.specs.Char.{digit_value, to_ascii_lowercase}
use Rattle.xml_document.specs.Characters.{is_char, is_blank, is_one_of, Name, UpTo}

-- [15] Comment
pub data Comment : (text rest : List ℕ) → Type 0 where
  comment : (text inside rest : List ℕ) → UpTo (codes "--") text (codes ">" ++ rest) inside → Comment (codes "<!--" ++ text) rest

-- nothing, or something behind a blank
abbrev pub is_apart : List ℕ → Bool
is_apart [] = true
is_apart (b ∷ bs) = is_blank b

-- [16] PI, [17] PITarget
pub data Instruction : (text rest : List ℕ) → Type 0 where
  instruction : (text target after inside rest : List ℕ) → Name text after target → (map to_ascii_lowercase target ≡ codes "xml" → ⊥)
      → UpTo (codes "?>") after rest inside → is_apart inside ≡ true → Instruction (codes "<?" ++ text) rest

-- digits in base 10 or 16, and their number; no digits stand for 0, which is no character
pub data Digits (base : ℕ) : (text rest : List ℕ) → ℕ → Type 0 where
  nothing : (text : List ℕ) → Digits base text text 0
  digit : (text rest : List ℕ) (b n : ℕ) → Digits base text (b ∷ rest) n → digit_value b < base
      → Digits base text rest (n * base + digit_value b)

-- [66] CharRef, [67] Reference, and the character that it stands for; the entities are those of 4.6
pub data Reference : (text rest : List ℕ) → ℕ → Type 0 where
  less : (rest : List ℕ) → Reference (codes "&lt;" ++ rest) rest 60
  greater : (rest : List ℕ) → Reference (codes "&gt;" ++ rest) rest 62
  ampersand : (rest : List ℕ) → Reference (codes "&amp;" ++ rest) rest 38
  apostrophe : (rest : List ℕ) → Reference (codes "&apos;" ++ rest) rest 39
  quotation : (rest : List ℕ) → Reference (codes "&quot;" ++ rest) rest 34
  decimal : (text rest : List ℕ) (c : ℕ) → Digits 10 text (codes ";" ++ rest) c → is_char c ≡ true → Reference (codes "&#" ++ text) rest c
  hexadecimal : (text rest : List ℕ) (c : ℕ) → Digits 16 text (codes ";" ++ rest) c → is_char c ≡ true → Reference (codes "&#x" ++ text) rest c

-- [18] CDSect
pub data Section : (text rest inside : List ℕ) → Type 0 where
  section : (text rest inside : List ℕ) → UpTo (codes "]]>") text rest inside → Section (codes "<![CDATA[" ++ text) rest inside

-- `<` or `&`
abbrev pub is_markup : ℕ → Bool
is_markup = is_one_of (codes "<&")

-- a byte of [14] CharData, a reference, a CDATA section, a comment or a processing instruction, and the bytes that it stands for
pub data Piece : (text rest bytes : List ℕ) → Type 0 where
  byte : (rest : List ℕ) (b : ℕ) → is_markup b ≡ false → starts_with nat_eq (b ∷ rest) (codes "]]>") ≡ false → Piece (b ∷ rest) rest (b ∷ [])
  reference : (text rest : List ℕ) (c : ℕ) → Reference text rest c → Piece text rest (encode_utf8 c)
  section : (text rest inside : List ℕ) → Section text rest inside → Piece text rest inside
  comment : (text rest : List ℕ) → Comment text rest → Piece text rest []
  instruction : (text rest : List ℕ) → Instruction text rest → Piece text rest []

-- what may stand between two tags
pub data Text : (text rest bytes : List ℕ) → Type 0 where
  nothing : (text : List ℕ) → Text text text []
  one_more : (text after rest bytes more : List ℕ) → Text text after bytes → Piece after rest more → Text text rest (bytes ++ more)
