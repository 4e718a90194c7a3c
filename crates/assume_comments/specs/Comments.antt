-- What an engineer assumes of the inputs in comments of a block of declarations: `(* assume: NOT (Full AND Empty) *)`.
use Rattle.std.specs.Prelude.{◌≡◌, ℕ, ◌<◌, ◌⊎◌, Bool, true, false, not, ◌==◌, Option, Some, None, List, [], ◌∷◌, ◌++◌, length, take, drop, map, codes, if◌then◌else◌}
use Rattle.std.specs.List.{filter_map, list_all, list_any, prefix_len}
use Rattle.std.specs.Str.Lossy.{utf8_lossy}
use Rattle.diagram_declarations.specs.Decls.{Declared}
use Rattle.diagram_declarations.specs.Grammar.{HasDecls}
use Rattle.diagram_declarations.specs.Name.{same_letters}
use Rattle.diagram_declarations.specs.Text.{begins, closes, is_blank, token_len}

-- ---- the comments of a block

-- The token, right before the rest, is as long as it can be.
pub record IsToken (word rest : List ℕ) : Type 0 where
  pub some : 0 < length word
  pub longest : token_len (word ++ rest) ≡ length word

-- Letter case makes no difference.
abbrev pub is_end : List ℕ → Bool
is_end word = same_letters word (codes "END_VAR")

-- the byte is before the end of a line
abbrev pub is_in_line : ℕ → Bool
is_in_line b = not (b == 10)

-- The text, from a place between tokens of a block of declarations on, has these comments `(* .. *)` up to its END_VAR, in this order. A comment
-- ends with the first `*)`. A comment `//`, to the end of its line or of the text, is none of these.
pub data Comments : (text : List ℕ) → (comments : List (List ℕ)) → Type 0 where
  ended : (word after : List ℕ) → IsToken word after → is_end word ≡ true → Comments (word ++ after) []
  token : (word after : List ℕ) (comments : List (List ℕ)) → IsToken word after → is_end word ≡ false → Comments after comments
      → Comments (word ++ after) comments
  blank : (b : ℕ) (after : List ℕ) (comments : List (List ℕ)) → is_blank b after ≡ true → Comments after comments → Comments (b ∷ after) comments
  comment : (inside after : List ℕ) (comments : List (List ℕ)) → closes inside ≡ false → Comments after comments
      → Comments (40 ∷ 42 ∷ (inside ++ (42 ∷ 41 ∷ after))) (inside ∷ comments)
  line_comment : (inside after : List ℕ) (comments : List (List ℕ)) → list_all is_in_line inside ≡ true → begins is_in_line after ≡ false
      → Comments after comments → Comments (47 ∷ 47 ∷ (inside ++ after)) comments

-- A text has one list of comments.
abbrev pub IsUnambiguous : Type 0
IsUnambiguous = (text : List ℕ) (comments others : List (List ℕ)) → Comments text comments → Comments text others → comments ≡ others

-- A text that begins with declarations has one.
abbrev pub HaveComments : Type 0
HaveComments = (text rest : List ℕ) (declared : Declared) → HasDecls text declared rest → (comments : List (List ℕ)) × Comments text comments

-- ---- what a comment assumes

-- a space (32), a tab (9), CR (13) or LF (10)
abbrev pub is_space : ℕ → Bool
is_space b = list_any (λ other. b == other) (32 ∷ 9 ∷ 13 ∷ 10 ∷ [])

-- what is behind the spaces at the start
abbrev pub behind_spaces : List ℕ → List ℕ
behind_spaces text = drop (prefix_len is_space text) text

-- what is behind spaces and this word at the start, in any letter case
abbrev pub behind_word : (word text : List ℕ) → Option (List ℕ)
behind_word word text =
    let start = behind_spaces text in
    if same_letters (take (length word) start) word then Some (drop (length word) start) else None

-- What is behind `assume` and a colon at the start of a comment; None where it begins otherwise.
abbrev pub assumption_of : (comment : List ℕ) → Option (List ℕ)
assumption_of inside = elim (behind_word (codes "assume") inside) [ Some behind ↦ behind_word (codes ":") behind | None ↦ None ]

-- What each comment assumes, where it does, as text: what isn't UTF-8 is replaced.
abbrev pub assumed_by : (comments : List (List ℕ)) → List (List ℕ)
assumed_by comments = map utf8_lossy (filter_map assumption_of comments)

-- The texts are what the comments of the block assume. A text with something else than tokens, blanks and comments before an END_VAR, or with no
-- END_VAR, has none.
abbrev pub AreAssumed : (text : List ℕ) → (texts : List (List ℕ)) → Type 0
AreAssumed text texts =
    ((comments : List (List ℕ)) × Comments text comments × (texts ≡ assumed_by comments))
    ⊎ (((comments : List (List ℕ)) → Comments text comments → ⊥) × (texts ≡ []))
