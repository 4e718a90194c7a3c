-- What a document says, in its order.
use Rattle.std.specs.Prelude.{ℕ, ◌≤◌, List, map, slice_range}
use Rattle.xml_document.specs.declared.document.Span.{Span}
use Rattle.xml_document.specs.declared.document.Event.{Event}
use Rattle.xml_document.specs.declared.document.Event.TheVariants as event
use Rattle.xml_document.specs.declared.document.Document.{Document}

-- An element opens; an attribute of it; characters in it; it closes. Names, values and characters are bytes.
pub data Item : Type 0 where
  opens : (name : List ℕ) → Item
  has : (name value : List ℕ) → Item
  says : (text : List ℕ) → Item
  closes : Item

-- the bytes of a range
abbrev pub bytes_at : List ℕ → Span → List ℕ
bytes_at bytes span = slice_range bytes span.start span.end

abbrev pub item_of : List ℕ → Event → Item
item_of bytes (event.Open name) = opens (bytes_at bytes name)
item_of bytes (event.Attribute name value) = has (bytes_at bytes name) (bytes_at bytes value)
item_of bytes (event.Characters text) = says (bytes_at bytes text)
item_of bytes event.Close = closes

-- what the events of a document are
abbrev pub items_of : Document → List Item
items_of document = map (item_of document.bytes.items) document.events.items

-- The range is one of so many bytes.
pub record IsSpan (count : ℕ) (span : Span) : Type 0 where
  pub ordered : span.start ≤ span.end
  pub within : span.end ≤ count

abbrev pub HasSpans : ℕ → Event → Type 0
HasSpans count (event.Open name) = IsSpan count name
HasSpans count (event.Attribute name value) = IsSpan count name × IsSpan count value
HasSpans count (event.Characters text) = IsSpan count text
HasSpans count event.Close = Unit {0}
