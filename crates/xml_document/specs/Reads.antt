-- Private: what the reader adds to what it has read.
use Rattle.std.specs.Prelude.{◌≡◌, ℕ, Bool, true, false, List, [], ◌∷◌, ◌++◌, length, codes, drop}
use Rattle.xml_document.specs.declared.document.Span.{Span}
use Rattle.xml_document.specs.declared.document.Event.{Event}
use Rattle.xml_document.specs.declared.document.Event.TheVariants as event
use Rattle.xml_document.specs.declared.document.Document.{Document}
use Rattle.xml_document.specs.Characters.{Name}
use Rattle.xml_document.specs.Elements.{Attribute, IsNew, TagHead, said}
use Rattle.xml_document.specs.Markup.{Text}
use Rattle.xml_document.specs.Items.{Item, opens, has, says, closes, bytes_at, IsSpan}

-- The range is one of the bytes, and these are in it.
pub record Stands (bytes : List ℕ) (span : Span) (word : List ℕ) : Type 0 where
  pub is_span : IsSpan (length bytes) span
  pub are : bytes_at bytes span ≡ word

abbrev pub StandsFor : List ℕ → Event → Item → Type 0
StandsFor bytes (event.Open name) (opens word) = Stands bytes name word
StandsFor bytes (event.Attribute name value) (has word given) = Stands bytes name word × Stands bytes value given
StandsFor bytes (event.Characters text) (says given) = Stands bytes text given
StandsFor bytes event.Close closes = Unit {0}
StandsFor bytes _ _ = ⊥

-- The events are these items.
abbrev pub Are : List ℕ → List Event → List Item → Type 0
Are bytes [] [] = Unit {0}
Are bytes (e ∷ es) (i ∷ is) = StandsFor bytes e i × Are bytes es is
Are bytes _ _ = ⊥

-- The new bytes are the old ones and some that are such ones.
pub record Decodes (Is : List ℕ → Type 0) (old new : List ℕ) : Type 0 where
  pub bytes : List ℕ
  pub are : Is bytes
  pub whole : new ≡ old ++ bytes

-- The new document is the old one and some events that are such items.
pub record Grows (Is : List Item → Type 0) (old new : Document) : Type 0 where
  pub bytes : List ℕ
  pub events : List Event
  pub items : List Item
  pub are : Is items
  pub all_bytes : new.bytes.items ≡ old.bytes.items ++ bytes
  pub all_events : new.events.items ≡ old.events.items ++ events
  pub spelled : Are new.bytes.items events items

-- one attribute more, whose name none of the events from a place on has
pub record OneAttribute (text rest : List ℕ) (first : ℕ) (old : Document) (items : List Item) : Type 0 where
  pub name : List ℕ
  pub value : List ℕ
  pub one : items ≡ has name value ∷ []
  pub is : Attribute text rest name value
  pub is_new : (before : List Item) → Are old.bytes.items (drop first old.events.items) before → IsNew before name

abbrev pub tag_end : Bool → List ℕ
tag_end true = codes "/>"
tag_end false = codes ">"

-- the name of a tag
pub record OpenedName (text rest name : List ℕ) : Type 0 where
  pub start : List ℕ
  pub opens : text ≡ codes "<" ++ start
  pub is : Name start rest name

-- a start tag, or an empty element's tag
pub record OpensTag (text rest name : List ℕ) (is_empty : Bool) (items : List Item) : Type 0 where
  pub attributes : List Item
  pub whole : items ≡ opens name ∷ attributes
  pub head : TagHead text (tag_end is_empty ++ rest) name attributes

-- what stands between two tags
pub record Gap (text rest : List ℕ) (items : List Item) : Type 0 where
  pub bytes : List ℕ
  pub whole : items ≡ said bytes
  pub is : Text text rest bytes

-- The text begins with this byte.
abbrev pub Begins : List ℕ → ℕ → Type 0
Begins text b = (rest : List ℕ) × (text ≡ b ∷ rest)
