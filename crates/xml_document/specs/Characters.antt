-- Characters and names (XML 1.0, 2.2 and 2.3). A production in brackets is that of the recommendation.
use Rattle.std.specs.Prelude.{◌≡◌, ℕ, Bool, true, false, ◌&&◌, ◌||◌, ◌==◌, nat_eq, nat_le, List, [], ◌∷◌, ◌++◌, codes}
use Rattle.std.specs.List.{list_all, list_any, starts_with}
use Rattle.std.specs.Char.{is_ascii_alphabetic, is_ascii_alphanumeric}
use Rattle.std.specs.Str.{IsUtf8, chars}

abbrev pub is_one_of : List ℕ → ℕ → Bool
is_one_of bytes b = list_any (λ other. b == other) bytes

abbrev pub is_between : (from to c : ℕ) → Bool
is_between from to c = nat_le from c && nat_le c to

-- [2] Char
unfoldable pub is_char : ℕ → Bool
is_char c = is_one_of (9 ∷ 10 ∷ 13 ∷ []) c || is_between 32 0xD7FF c || is_between 0xE000 0xFFFD c || is_between 0x10000 0x10FFFF c

-- The bytes are UTF-8 of characters that XML allows.
pub record IsText (text : List ℕ) : Type 0 where
  pub is_utf8 : IsUtf8 text
  pub allowed : list_all is_char (chars text) ≡ true

-- The text begins with some bytes that pass a test, and the rest is behind them.
pub record Run (test : ℕ → Bool) (text rest run : List ℕ) : Type 0 where
  pub whole : text ≡ run ++ rest
  pub passes : list_all test run ≡ true

-- [3] S, of which each byte is a blank
abbrev pub is_blank : ℕ → Bool
is_blank = is_one_of (32 ∷ 9 ∷ 13 ∷ 10 ∷ [])

-- `S?`
abbrev pub Blanks : (text rest : List ℕ) → Type 0
Blanks text rest = (run : List ℕ) × Run is_blank text rest run

-- `S`
pub record Space (text rest : List ℕ) : Type 0 where
  pub blanks : Blanks text rest
  pub some : text ≡ rest → ⊥

-- [4] NameStartChar, [4a] NameChar: those of ASCII alone
abbrev pub is_name_start : ℕ → Bool
is_name_start b = is_ascii_alphabetic b || is_one_of (codes ":_") b

abbrev pub is_name_byte : ℕ → Bool
is_name_byte b = is_ascii_alphanumeric b || is_one_of (codes ":_-.") b

-- [5] Name
abbrev pub is_name : List ℕ → Bool
is_name [] = false
is_name (b ∷ bs) = is_name_start b && list_all is_name_byte (b ∷ bs)

pub record Name (text rest name : List ℕ) : Type 0 where
  pub whole : text ≡ name ++ rest
  pub is_name : is_name name ≡ true

-- The mark begins at none of the bytes between the text and the rest.
pub data Passes (mark : List ℕ) : (text rest inside : List ℕ) → Type 0 where
  nothing : (text : List ℕ) → Passes mark text text []
  one_more : (text rest inside : List ℕ) (b : ℕ) → Passes mark text (b ∷ rest) inside → starts_with nat_eq (b ∷ rest) mark ≡ false
      → Passes mark text rest (inside ++ b ∷ [])

-- The first mark in the text is behind these bytes, and the rest behind it.
abbrev pub UpTo : (mark text rest inside : List ℕ) → Type 0
UpTo mark text rest inside = Passes mark text (mark ++ rest) inside
