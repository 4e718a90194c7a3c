-- What a block of declarations is made of (IEC 61131-3, printed characters and comments): spaces, comments and tokens.
use Rattle.std.specs.Prelude.{◌≡◌, ℕ, ◌+◌, ◌<◌, Bool, true, false, not, ◌&&◌, ◌||◌, ◌==◌, nat_le, ◌⊎◌, List, [], ◌∷◌, ◌++◌, length, codes, if◌then◌else◌}
use Rattle.std.specs.List.{prefix_len, list_all}
use Rattle.std.specs.Char.{is_ascii_alphanumeric}

abbrev pub begins : (ℕ → Bool) → List ℕ → Bool
begins test text = elim text [ b ∷ bs ↦ test b | [] ↦ false ]

abbrev pub begins_with : ℕ → List ℕ → Bool
begins_with byte = begins (λ b. b == byte)

-- A space (32), a tab (9) or a line end, which is LF (10) or CR LF (13, 10).
abbrev pub is_blank : ℕ → List ℕ → Bool
is_blank b after = b == 32 || (b == 9 || (b == 10 || (b == 13 && begins_with 10 after)))

-- A letter, a digit, `_`, `#` or `.`: durations such as T#1m_5.. are words too.
abbrev pub is_word_byte : ℕ → Bool
is_word_byte b = is_ascii_alphanumeric b || (b == 95 || (b == 35 || b == 46))

-- The token is a word, or begins with the percent sign (37).
abbrev pub begins_word : List ℕ → Bool
begins_word = begins (λ b. is_word_byte b || b == 37)

-- How long the token at the start is: a word with its longest run, `%` with the longest run of an address after it,
-- `:=`, or one of `:` `;` `(` `)`, but `(*` begins a comment. It is 0 where there is no token.
abbrev pub token_len : List ℕ → ℕ
token_len [] = 0
token_len (b ∷ bs) =
    if is_word_byte b then 1 + prefix_len is_word_byte bs
    else (if b == 37 then 1 + prefix_len (λ c. is_ascii_alphanumeric c || c == 46) bs
    else (if b == 58 then (if begins_with 61 bs then 2 else 1)
    else (if b == 40 then (if begins_with 42 bs then 0 else 1)
    else (if b == 59 || b == 41 then 1 else 0))))

-- whether `*)` is in it
abbrev pub closes : List ℕ → Bool
closes [] = false
closes (b ∷ bs) = (b == 42 && begins_with 41 bs) || closes bs

-- What is between tokens, before the rest: blanks, and comments. A comment is `(*` to the first `*)`, or `//` to the end of its line.
pub data Gap : List ℕ → List ℕ → Type 0 where
  Nothing : {rest : List ℕ} → Gap rest rest
  Blank : {b : ℕ} {after rest : List ℕ} → is_blank b after ≡ true → Gap after rest → Gap (b ∷ after) rest
  Comment : (inside : List ℕ) {after rest : List ℕ} → closes inside ≡ false → Gap after rest → Gap (codes "(*" ++ (inside ++ (codes "*)" ++ after))) rest
  LineComment : (inside : List ℕ) {after rest : List ℕ} → list_all (λ b. not (b == 10)) inside ≡ true → (after ≡ []) ⊎ (begins_with 10 after ≡ true)
      → Gap after rest → Gap (codes "//" ++ (inside ++ after)) rest

-- The text is these tokens, each after a gap and as long as it can be, and then the rest, right after the last token.
abbrev pub AreTokens : List (List ℕ) → List ℕ → List ℕ → Type 0
AreTokens [] text rest = text ≡ rest
AreTokens (t ∷ ts) text rest =
    (start after : List ℕ) × Gap text start × (start ≡ t ++ after) × (0 < length t) × (token_len start ≡ length t) × AreTokens ts after rest

-- The text ends where a token is due, or inside a comment (40, 42 open it).
abbrev pub IsUnfinished : List ℕ → Type 0
IsUnfinished [] = Unit {0}
IsUnfinished (a ∷ []) = ⊥
IsUnfinished (a ∷ b ∷ inside) = (a ≡ 40) × (b ≡ 42) × (closes inside ≡ false)

-- a byte from 0x21 to 0x7E
abbrev pub is_printed : ℕ → Bool
is_printed b = nat_le 33 b && nat_le b 126

-- Neither a blank nor such a byte is at the start.
abbrev pub IsBadByte : List ℕ → Type 0
IsBadByte [] = ⊥
IsBadByte (b ∷ after) = (is_blank b after ≡ false) × (is_printed b ≡ false)

-- `(*` or `//` is at the start.
abbrev pub begins_comment : List ℕ → Bool
begins_comment text = elim text [ b ∷ after ↦ (b == 40 && begins_with 42 after) || (b == 47 && begins_with 47 after) | [] ↦ false ]

-- A printed byte is at the start, and begins neither a token nor a comment.
abbrev pub IsStray : List ℕ → Type 0
IsStray [] = ⊥
IsStray (b ∷ after) = (is_printed b ≡ true) × (token_len (b ∷ after) ≡ 0) × (begins_comment (b ∷ after) ≡ false)
