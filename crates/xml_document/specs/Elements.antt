-- Elements (XML 1.0, 3 and 3.1).
use Rattle.std.specs.Prelude.{◌≡◌, ℕ, Bool, true, false, ◌||◌, ◌==◌, List, [], ◌∷◌, ◌++◌, codes, encode_utf8}
use Rattle.xml_document.specs.Items.{Item, opens, has, says, closes}
use Rattle.xml_document.specs.Characters.{Blanks, Space, Name}
use Rattle.xml_document.specs.Markup.{Reference, Text, is_markup}

-- an apostrophe or a quotation mark
abbrev pub is_quote : ℕ → Bool
is_quote q = q == 39 || q == 34

-- a byte of a value, or a reference, and the bytes that it stands for
pub data Given (quote : ℕ) : (text rest bytes : List ℕ) → Type 0 where
  byte : (rest : List ℕ) (b : ℕ) → is_markup b ≡ false → (b == quote) ≡ false → Given quote (b ∷ rest) rest (b ∷ [])
  reference : (text rest : List ℕ) (c : ℕ) → Reference text rest c → Given quote text rest (encode_utf8 c)

-- what may stand in a value up to its quote
pub data Value (quote : ℕ) : (text rest bytes : List ℕ) → Type 0 where
  nothing : (text : List ℕ) → Value quote text text []
  one_more : (text after rest bytes more : List ℕ) → Value quote text after bytes → Given quote after rest more → Value quote text rest (bytes ++ more)

-- [10] AttValue
pub data Quoted : (text rest value : List ℕ) → Type 0 where
  quoted : (quote : ℕ) (text rest value : List ℕ) → is_quote quote ≡ true → Value quote text (quote ∷ rest) value → Quoted (quote ∷ text) rest value

-- [25] Eq
pub data Equals : (text rest : List ℕ) → Type 0 where
  equals : (text after rest : List ℕ) → Blanks text (codes "=" ++ after) → Blanks after rest → Equals text rest

-- [41] Attribute
pub data Attribute : (text rest name value : List ℕ) → Type 0 where
  attribute : (text after value_text rest name value : List ℕ) → Name text after name → Equals after value_text → Quoted value_text rest value
      → Attribute text rest name value

-- No attribute has this name.
abbrev pub IsNew : List Item → List ℕ → Type 0
IsNew [] name = Unit {0}
IsNew (has other value ∷ items) name = (other ≡ name → ⊥) × IsNew items name
IsNew (_ ∷ items) name = IsNew items name

-- `(S Attribute)*`, where no two have one name
pub data Attributes : (text rest : List ℕ) → List Item → Type 0 where
  none : (text : List ℕ) → Attributes text text []
  one_more : (text after start rest name value : List ℕ) (before : List Item) → Attributes text after before → Space after start
      → Attribute start rest name value → IsNew before name → Attributes text rest (before ++ has name value ∷ [])

-- the start of [40] STag and of [44] EmptyElemTag, up to `>` or `/>`
pub data TagHead : (text rest name : List ℕ) → List Item → Type 0 where
  tag : (text name after behind rest : List ℕ) (attributes : List Item) → Name text after name → Attributes after behind attributes
      → Blanks behind rest → TagHead (codes "<" ++ text) rest name attributes

-- [42] ETag
pub data EndTag : (text rest name : List ℕ) → Type 0 where
  tag : (text name after rest : List ℕ) → Name text after name → Blanks after (codes ">" ++ rest) → EndTag (codes "</" ++ text) rest name

-- no item for no bytes
abbrev pub said : List ℕ → List Item
said [] = []
said (b ∷ bs) = says (b ∷ bs) ∷ []

mutual
  -- [39] element: the end tag has the name of the start tag
  pub data Element : (text rest : List ℕ) → List Item → Type 0 where
    empty : (text rest name : List ℕ) (attributes : List Item) → TagHead text (codes "/>" ++ rest) name attributes
        → Element text rest (opens name ∷ attributes ++ closes ∷ [])
    whole : (text inside after rest name : List ℕ) (attributes items : List Item) → TagHead text (codes ">" ++ inside) name attributes
        → Content inside after items → EndTag after rest name → Element text rest (opens name ∷ attributes ++ items ++ closes ∷ [])

  -- [43] content
  pub data Content : (text rest : List ℕ) → List Item → Type 0 where
    only : (text rest bytes : List ℕ) → Text text rest bytes → Content text rest (said bytes)
    child : (text start behind rest bytes : List ℕ) (before items : List Item) → Content text start before → Element start behind items
        → Text behind rest bytes → Content text rest (before ++ items ++ said bytes)
