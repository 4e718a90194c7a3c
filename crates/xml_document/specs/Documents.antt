-- Documents without a document type (XML 1.0, 2.1 and 2.8), in UTF-8.
use Rattle.std.specs.Prelude.{◌≡◌, ℕ, true, not, ◌==◌, ◌⊎◌, List, [], ◌∷◌, ◌++◌, map, codes}
use Rattle.std.specs.List.{list_all}
use Rattle.std.specs.Char.{to_ascii_lowercase, is_ascii_digit}
use Rattle.xml_document.specs.Items.{Item}
use Rattle.xml_document.specs.Characters.{IsText, is_blank, Run, Blanks, Space}
use Rattle.xml_document.specs.Markup.{Comment, Instruction}
use Rattle.xml_document.specs.Elements.{is_quote, Equals, Element}

-- a word of the XML declaration, and its value between quotes
pub data Declared (word : List ℕ) : (text rest value : List ℕ) → Type 0 where
  declared : (text after value_text rest value : List ℕ) (quote : ℕ) → Space text (word ++ after) → Equals after (quote ∷ value_text) → is_quote quote ≡ true
      → Run (λ b. not (b == quote)) value_text (quote ∷ rest) value → Declared word text rest value

-- [26] VersionNum
abbrev pub IsVersion : List ℕ → Type 0
IsVersion value = (digit : ℕ) × (digits : List ℕ) × (value ≡ codes "1." ++ digit ∷ digits) × (list_all is_ascii_digit (digit ∷ digits) ≡ true)

-- UTF-8, whatever the case of the letters
abbrev pub IsUtf8Name : List ℕ → Type 0
IsUtf8Name value = map to_ascii_lowercase value ≡ codes "utf-8"

abbrev pub IsYesOrNo : List ℕ → Type 0
IsYesOrNo value = (value ≡ codes "yes") ⊎ (value ≡ codes "no")

-- a word with a value of this kind, or nothing
pub data Maybe (word : List ℕ) (Is : List ℕ → Type 0) : (text rest : List ℕ) → Type 0 where
  left_out : (text : List ℕ) → Maybe word Is text text
  there : (text rest value : List ℕ) → Declared word text rest value → Is value → Maybe word Is text rest

-- [23] XMLDecl, or nothing
pub data Declaration : (text rest : List ℕ) → Type 0 where
  left_out : (text : List ℕ) → Declaration text text
  there : (text behind_version behind_encoding behind_standalone rest version : List ℕ) → Declared (codes "version") text behind_version version
      → IsVersion version → Maybe (codes "encoding") IsUtf8Name behind_version behind_encoding
      → Maybe (codes "standalone") IsYesOrNo behind_encoding behind_standalone → Blanks behind_standalone (codes "?>" ++ rest)
      → Declaration (codes "<?xml" ++ text) rest

-- a blank of [27] Misc, a comment or a processing instruction
pub data One : (text rest : List ℕ) → Type 0 where
  blank : (rest : List ℕ) (b : ℕ) → is_blank b ≡ true → One (b ∷ rest) rest
  comment : (text rest : List ℕ) → Comment text rest → One text rest
  instruction : (text rest : List ℕ) → Instruction text rest → One text rest

-- `Misc*`
pub data Misc : (text rest : List ℕ) → Type 0 where
  nothing : (text : List ℕ) → Misc text text
  one_more : (text after rest : List ℕ) → Misc text after → One after rest → Misc text rest

-- a byte order mark, or nothing
pub data OrderMark : (text rest : List ℕ) → Type 0 where
  left_out : (text : List ℕ) → OrderMark text text
  there : (rest : List ℕ) → OrderMark (0xEF ∷ 0xBB ∷ 0xBF ∷ rest) rest

-- [22] prolog
pub record Prolog (text rest : List ℕ) : Type 0 where
  pub marked : List ℕ
  pub declared : List ℕ
  pub mark : OrderMark text marked
  pub declaration : Declaration marked declared
  pub before : Misc declared rest

-- `element Misc*`
pub record Root (text : List ℕ) (items : List Item) : Type 0 where
  pub behind : List ℕ
  pub element : Element text behind items
  pub after : Misc behind []

-- [1] document
pub record IsDocument (text : List ℕ) (items : List Item) : Type 0 where
  pub is_text : IsText text
  pub root : List ℕ
  pub prolog : Prolog text root
  pub document : Root root items
