-- What is added to a document.
use Rattle.std.proofs.Common.{◌≡◌, ℕ, ◌+◌, ◌-◌, ◌≤◌, Bool, true, false, nat_eq, zero, suc, List, [], ◌∷◌, ◌++◌, length, take, drop, map, All, codes, refl, sym, ap, ◌∙◌, subst, arith, append_assoc, length-append}
use Rattle.std.proofs.lemmas.List.{append-nil, take_all, length-drop, take-append-le, drop-append-le}
use Rattle.std.specs.List.{starts_with}
use Rattle.std.proofs.Math.Seq.{drop-append_seam}
use Rattle.xml_document.proofs.Ends.{prolog_ends, place_of}
use Rattle.xml_document.specs.declared.document.Span.{Span}
use Rattle.xml_document.specs.declared.document.Event.{Event}
use Rattle.xml_document.specs.declared.document.Event.TheVariants as event
use Rattle.xml_document.specs.declared.document.Document.{Document}
use Rattle.xml_document.specs.Characters.{IsText, Name, Blanks, Space}
use Rattle.xml_document.specs.Items.{Item, opens, has, says, closes, bytes_at, item_of, items_of, HasSpans}
use Rattle.xml_document.specs.Markup.{Text}
use Rattle.xml_document.specs.Elements.{Equals, Quoted, attribute, IsNew, Attributes, one_more, TagHead, tag, EndTag, Element, empty, whole, Content, only, child}
use Rattle.xml_document.specs.Documents.{Prolog, Root, IsDocument}
use Rattle.xml_document.specs.Refusals.{DoctypeAt}
use Rattle.xml_document.specs.Reads.{Stands, StandsFor, Are, Decodes, Grows, OneAttribute, OpenedName, tag_end, OpensTag, Gap}

-- ---- what stands in the bytes still does when some are appended

stands_more : (bytes more : List ℕ) (span : Span) (word : List ℕ) → Stands bytes span word → Stands (bytes ++ more) span word
stands_more bytes more span word s =
    let ordered : span.start ≤ span.end = s.is_span.ordered in
    let within : span.end ≤ length bytes = s.is_span.within in
    let begins : span.start ≤ length bytes = omega arith in
    let long : span.end - span.start ≤ length (drop span.start bytes) = omega (arith, length-drop span.start bytes) in
    let same : bytes_at (bytes ++ more) span ≡ bytes_at bytes span =
    ap (take (span.end - span.start)) (drop-append-le span.start bytes more begins) ∙ take-append-le (span.end - span.start) (drop span.start bytes) more long in
    record { is_span = record { ordered = ordered; within = omega (arith, length-append bytes more) }; are = same ∙ s.are }

stands_for_more : (bytes more : List ℕ) (e : Event) (i : Item) → StandsFor bytes e i → StandsFor (bytes ++ more) e i
stands_for_more bytes more (event.Open name) (opens word) h = stands_more bytes more name word h
stands_for_more bytes more (event.Attribute name value) (has word given) h = (stands_more bytes more name word h.0, stands_more bytes more value given h.1)
stands_for_more bytes more (event.Characters text) (says given) h = stands_more bytes more text given h
stands_for_more bytes more event.Close closes h = h
stands_for_more bytes more _ _ h = absurd h

are_more : (bytes more : List ℕ) (es : List Event) (is : List Item) → Are bytes es is → Are (bytes ++ more) es is
are_more bytes more [] [] h = h
are_more bytes more (e ∷ es) (i ∷ is) h = (stands_for_more bytes more e i h.0, are_more bytes more es is h.1)
are_more bytes more [] (i ∷ is) h = absurd h
are_more bytes more (e ∷ es) [] h = absurd h

are_append : (bytes : List ℕ) (es fs : List Event) (is js : List Item) → Are bytes es is → Are bytes fs js → Are bytes (es ++ fs) (is ++ js)
are_append bytes [] fs [] js h k = k
are_append bytes (e ∷ es) fs (i ∷ is) js h k = (h.0, are_append bytes es fs is js h.1 k)
are_append bytes [] fs (i ∷ is) js h k = absurd h
are_append bytes (e ∷ es) fs [] js h k = absurd h

-- a word that ends the bytes
pub stands_last : (old new word : List ℕ) (start end : ℕ) → new ≡ old ++ word → start ≡ length old → end ≡ length new
    → Stands new (record { start = start; end = end }) word
stands_last old new word start end e s f =
    let n : length new ≡ length old + length word = ap length e ∙ length-append old word in
    let count : end - start ≡ length word = omega arith in
    let behind : drop start new ≡ word = rw (s, e) (drop-append_seam old word) in
    record {
      is_span = record { ordered = omega arith; within = omega arith };
      are = rw (behind, count) (take_all (length word) word (omega arith));
    }

-- ---- documents that grow

pub grows_nothing : (Is : List Item → Type 0) (document : Document) → Is [] → Grows Is document document
grows_nothing Is document is = record {
  bytes = [];
  events = [];
  items = [];
  are = is;
  all_bytes = sym (append-nil document.bytes.items);
  all_events = sym (append-nil document.events.items);
  spelled = tt;
}

pub grows_one : (Is : List Item → Type 0) (old new : Document) (bytes : List ℕ) (e : Event) (i : Item) → new.bytes.items ≡ old.bytes.items ++ bytes
    → new.events.items ≡ old.events.items ++ e ∷ [] → StandsFor new.bytes.items e i → Is (i ∷ []) → Grows Is old new
grows_one Is old new bytes e i b f s is = record {
  bytes = bytes;
  events = e ∷ [];
  items = i ∷ [];
  are = is;
  all_bytes = b;
  all_events = f;
  spelled = (s, tt);
}

pub grows_then : (Is Also Both : List Item → Type 0) (a b c : Document) → ((v w : List Item) → Is v → Also w → Both (v ++ w)) → Grows Is a b → Grows Also b c
    → Grows Both a c
grows_then Is Also Both a b c both g h = record {
  bytes = g.bytes ++ h.bytes;
  events = g.events ++ h.events;
  items = g.items ++ h.items;
  are = both g.items h.items g.are h.are;
  all_bytes = h.all_bytes ∙ ap (λ t. t ++ h.bytes) g.all_bytes ∙ append_assoc a.bytes.items g.bytes h.bytes;
  all_events = h.all_events ∙ ap (λ t. t ++ h.events) g.all_events ∙ append_assoc a.events.items g.events h.events;
  spelled = are_append c.bytes.items g.events h.events g.items h.items
      (subst (λ t. Are t g.events g.items) (sym h.all_bytes) (are_more b.bytes.items h.bytes g.events g.items g.spelled)) h.spelled;
}

pub grows_as : (Is Also : List Item → Type 0) (a b : Document) → ((v : List Item) → Is v → Also v) → Grows Is a b → Grows Also a b
grows_as Is Also a b f g = record {
  bytes = g.bytes;
  events = g.events;
  items = g.items;
  are = f g.items g.are;
  all_bytes = g.all_bytes;
  all_events = g.all_events;
  spelled = g.spelled;
}

-- ---- attributes

pub new_more : (bytes : List ℕ) (e : Event) (es : List Event) (name : List ℕ) → ((word value : List ℕ) → StandsFor bytes e (has word value) → word ≡ name → ⊥)
    → ((items : List Item) → Are bytes es items → IsNew items name) → (items : List Item) → Are bytes (e ∷ es) items → IsNew items name
new_more bytes e es name other rest [] h = absurd h
new_more bytes e es name other rest (has word value ∷ items) h = (other word value h.0, rest items h.1)
new_more bytes e es name other rest (opens word ∷ items) h = rest items h.1
new_more bytes e es name other rest (says word ∷ items) h = rest items h.1
new_more bytes e es name other rest (closes ∷ items) h = rest items h.1

pub new_none : (bytes name : List ℕ) (items : List Item) → Are bytes [] items → IsNew items name
new_none bytes name [] h = tt
new_none bytes name (i ∷ items) h = absurd h

pub attribute_grows : (text after value_text rest name middle : List ℕ) (first start end : ℕ) (old new : Document) (span : Span) → Name text after name
    → Equals after value_text → middle ≡ old.bytes.items ++ name → Stands middle span name → Decodes (Quoted value_text rest) middle new.bytes.items
    → start ≡ length middle → end ≡ length new.bytes.items
    → new.events.items ≡ old.events.items ++ event.Attribute span (record { start = start; end = end }) ∷ []
    → ((items : List Item) → Are old.bytes.items (drop first old.events.items) items → IsNew items name)
    → Grows (OneAttribute text rest first old) old new
attribute_grows text after value_text rest name middle first start end old new span n q b s d st en ev is_new =
    let all : new.bytes.items ≡ old.bytes.items ++ (name ++ d.bytes) = d.whole ∙ ap (λ t. t ++ d.bytes) b ∙ append_assoc old.bytes.items name d.bytes in
    grows_one (OneAttribute text rest first old) old new (name ++ d.bytes) (event.Attribute span (record { start = start; end = end })) (has name d.bytes) all ev
    (subst (λ t. Stands t span name) (sym d.whole) (stands_more middle d.bytes span name s), stands_last middle new.bytes.items d.bytes start end d.whole st en)
    (record { name = name; value = d.bytes; one = refl; is = attribute text after value_text rest name d.bytes n q d.are; is_new = is_new })

pub attributes_more : (text rest start after : List ℕ) (first : ℕ) (init document new : Document) → first ≡ length init.events.items
    → Grows (Attributes text rest) init document → Space rest start → Grows (OneAttribute start after first document) document new
    → Grows (Attributes text after) init new
attributes_more text rest start after first init document new f g space h =
    grows_then (λ v. v ≡ g.items) (OneAttribute start after first document) (Attributes text after) init document new
    (λ v w e one.
    let fresh : IsNew v one.name = one.is_new v (rw (f, g.all_events, drop-append_seam init.events.items g.events, e) g.spelled) in
    let so_far : Attributes text rest v = subst (Attributes text rest) (sym e) g.are in
    rw one.one (one_more text rest start after one.name one.value v so_far space one.is fresh))
    (record {
      bytes = g.bytes;
      events = g.events;
      items = g.items;
      are = refl;
      all_bytes = g.all_bytes;
      all_events = g.all_events;
      spelled = g.spelled;
    }) h

-- the events from a place on, as a slice has them
pub from_first : (bytes view : List ℕ) (events seen : List Event) (first : ℕ) (items : List Item) → view ≡ bytes → seen ≡ events
    → Are bytes (drop first events) items → Are view (take (length seen - first) (drop first seen)) items
from_first bytes view events seen first items e f are =
    rw (e, f, take_all (length events - first) (drop first events) (omega (arith, length-drop first events))) are

-- ---- tags

pub tag_grows : (text rest name after behind end : List ℕ) (is_empty : Bool) (old middle new : Document) (span : Span) → OpenedName text after name
    → middle.bytes.items ≡ old.bytes.items ++ name → Stands middle.bytes.items span name
    → middle.events.items ≡ old.events.items ++ event.Open span ∷ [] → Grows (Attributes after behind) middle new → Blanks behind end
    → end ≡ tag_end is_empty ++ rest → Grows (OpensTag text rest name is_empty) old new
tag_grows text rest name after behind end is_empty old middle new span n b s e g blanks close =
    grows_then (λ v. v ≡ opens name ∷ []) (Attributes after behind) (OpensTag text rest name is_empty) old middle new
    (λ v w one attributes. record {
      attributes = w;
      whole = ap (λ t. t ++ w) one;
      head = subst (λ t. TagHead t (tag_end is_empty ++ rest) name w) (sym n.opens)
          (tag n.start name after behind (tag_end is_empty ++ rest) w n.is attributes (subst (Blanks behind) close blanks));
    })
    (grows_one (λ v. v ≡ opens name ∷ []) old middle name (event.Open span) (opens name) b e s refl) g

-- ---- what stands between two tags

pub gap_nothing : (text rest : List ℕ) (old new : Document) → Decodes (Text text rest) old.bytes.items new.bytes.items
    → length old.bytes.items ≡ length new.bytes.items → new.events.items ≡ old.events.items → Grows (Gap text rest) old new
gap_nothing text rest old new d same e = at d.bytes d.are d.whole (omega (arith, ap length d.whole, length-append old.bytes.items d.bytes))
  where
    at : (bytes : List ℕ) → Text text rest bytes → new.bytes.items ≡ old.bytes.items ++ bytes → length bytes ≡ 0 → Grows (Gap text rest) old new
    at [] t b n = record {
      bytes = [];
      events = [];
      items = [];
      are = record { bytes = []; whole = refl; is = t };
      all_bytes = b;
      all_events = e ∙ sym (append-nil old.events.items);
      spelled = tt;
    }
    at (x ∷ xs) t b n = absurd (omega arith)

pub gap_something : (text rest : List ℕ) (start end : ℕ) (old new : Document) → Decodes (Text text rest) old.bytes.items new.bytes.items
    → start ≡ length old.bytes.items → end ≡ length new.bytes.items → (start ≡ end → ⊥)
    → new.events.items ≡ old.events.items ++ event.Characters (record { start = start; end = end }) ∷ [] → Grows (Gap text rest) old new
gap_something text rest start end old new d s f other e = at d.bytes d.are d.whole
  where
    at : (bytes : List ℕ) → Text text rest bytes → new.bytes.items ≡ old.bytes.items ++ bytes → Grows (Gap text rest) old new
    at [] t b = absurd (other (s ∙ ap length (sym (append-nil old.bytes.items)) ∙ sym (ap length b) ∙ sym f))
    at (x ∷ xs) t b =
        grows_one (Gap text rest) old new (x ∷ xs) (event.Characters (record { start = start; end = end })) (says (x ∷ xs)) b e
        (stands_last old.bytes.items new.bytes.items (x ∷ xs) start end b s f) (record { bytes = x ∷ xs; whole = refl; is = t })

-- ---- elements

-- an element up to its end tag
record Opened (text inside after name : List ℕ) (all : List Item) : Type 0 where
  attributes : List Item
  items : List Item
  whole : all ≡ opens name ∷ attributes ++ items
  head : TagHead text (codes ">" ++ inside) name attributes
  content : Content inside after items

-- content, and an element behind it
record Both (text start behind : List ℕ) (all : List Item) : Type 0 where
  before : List Item
  items : List Item
  whole : all ≡ before ++ items
  content : Content text start before
  element : Element start behind items

pub element_empty : (text rest name : List ℕ) (is_empty : Bool) (a b c : Document) → Grows (OpensTag text rest name is_empty) a b → is_empty ≡ true
    → Grows (λ items. items ≡ closes ∷ []) b c → Grows (Element text rest) a c
element_empty text rest name is_empty a b c g e h =
    grows_then (OpensTag text rest name is_empty) (λ items. items ≡ closes ∷ []) (Element text rest) a b c
    (λ v w t close. rw (t.whole, close) (empty text rest name t.attributes (subst (λ x. TagHead text (tag_end x ++ rest) name t.attributes) e t.head))) g h

pub element_whole : (text inside after rest name : List ℕ) (is_empty : Bool) (a b c d : Document) → Grows (OpensTag text inside name is_empty) a b
    → is_empty ≡ false → Grows (Content inside after) b c → EndTag after rest name → Grows (λ items. items ≡ closes ∷ []) c d
    → Grows (Element text rest) a d
element_whole text inside after rest name is_empty a b c d g e h end k =
    grows_then (Opened text inside after name) (λ items. items ≡ closes ∷ []) (Element text rest) a c d
    (λ v w o close. rw (o.whole, close) (whole text inside after rest name o.attributes o.items o.head o.content end))
    (grows_then (OpensTag text inside name is_empty) (Content inside after) (Opened text inside after name) a b c
    (λ v w t content. record {
      attributes = t.attributes;
      items = w;
      whole = ap (λ x. x ++ w) t.whole;
      head = subst (λ x. TagHead text (tag_end x ++ inside) name t.attributes) e t.head;
      content = content;
    }) g h) k

pub content_first : (text rest : List ℕ) (a b : Document) → Grows (Gap text rest) a b → Grows (Content text rest) a b
content_first text rest a b g = grows_as (Gap text rest) (Content text rest) a b (λ v gap. rw gap.whole (only text rest gap.bytes gap.is)) g

pub content_more : (text start behind rest : List ℕ) (a b c d : Document) → Grows (Content text start) a b → Grows (Element start behind) b c
    → Grows (Gap behind rest) c d → Grows (Content text rest) a d
content_more text start behind rest a b c d g h k =
    grows_then (Both text start behind) (Gap behind rest) (Content text rest) a c d
    (λ v w both gap. rw (both.whole, gap.whole) (child text start behind rest gap.bytes both.before both.items both.content both.element gap.is))
    (grows_then (Content text start) (Element start behind) (Both text start behind) a b c
    (λ v w content element. record { before = v; items = w; whole = refl; content = content; element = element }) g h) k

-- ---- documents

item_is : (bytes : List ℕ) (e : Event) (i : Item) → StandsFor bytes e i → item_of bytes e ≡ i
item_is bytes (event.Open name) (opens word) h = ap opens h.are
item_is bytes (event.Attribute name value) (has word given) h = ap (λ n. has n (bytes_at bytes value)) h.0.are ∙ ap (has word) h.1.are
item_is bytes (event.Characters text) (says given) h = ap says h.are
item_is bytes event.Close closes h = refl
item_is bytes _ _ h = absurd h

items_are : (bytes : List ℕ) (es : List Event) (is : List Item) → Are bytes es is → map (item_of bytes) es ≡ is
items_are bytes [] [] h = refl
items_are bytes (e ∷ es) (i ∷ is) h = ap (λ x. x ∷ map (item_of bytes) es) (item_is bytes e i h.0) ∙ ap (λ xs. i ∷ xs) (items_are bytes es is h.1)
items_are bytes [] (i ∷ is) h = absurd h
items_are bytes (e ∷ es) [] h = absurd h

has_spans : (bytes : List ℕ) (e : Event) (i : Item) → StandsFor bytes e i → HasSpans (length bytes) e
has_spans bytes (event.Open name) (opens word) h = h.is_span
has_spans bytes (event.Attribute name value) (has word given) h = (h.0.is_span, h.1.is_span)
has_spans bytes (event.Characters text) (says given) h = h.is_span
has_spans bytes event.Close closes h = tt
has_spans bytes _ _ h = absurd h

spans : (bytes : List ℕ) (es : List Event) (is : List Item) → Are bytes es is → All (HasSpans (length bytes)) es
spans bytes [] is h k d less = absurd (omega arith)
spans bytes (e ∷ es) [] h k d less = absurd h
spans bytes (e ∷ es) (i ∷ is) h zero d less = has_spans bytes e i h.0
spans bytes (e ∷ es) (i ∷ is) h (suc k) d less = spans bytes es is h.1 k d (omega arith)

all_new : (Is : List Item → Type 0) (old new : Document) → old.events.items ≡ [] → (g : Grows Is old new) → new.events.items ≡ g.events
all_new Is old new e g = g.all_events ∙ ap (λ t. t ++ g.events) e

pub document_read : (text root : List ℕ) (old new : Document) → old.events.items ≡ [] → IsText text → Prolog text root → Grows (Root root) old new
    → IsDocument text (items_of new)
document_read text root old new e is prolog g =
    let same : items_of new ≡ g.items =
    ap (map (item_of new.bytes.items)) (all_new (Root root) old new e g) ∙ items_are new.bytes.items g.events g.items g.spelled in
    record { is_text = is; root = root; prolog = prolog; document = rw same g.are }

pub document_spans : (root : List ℕ) (old new : Document) → old.events.items ≡ [] → Grows (Root root) old new
    → All (HasSpans (length new.bytes.items)) new.events.items
document_spans root old new e g =
    subst (All (HasSpans (length new.bytes.items))) (sym (all_new (Root root) old new e g)) (spans new.bytes.items g.events g.items g.spelled)

pub doctype_at : (text root : List ℕ) → Prolog text root → starts_with nat_eq root (codes "<!DOCTYPE") ≡ true → DoctypeAt text (length text - length root)
doctype_at text root p h =
    let ends = prolog_ends text root p in
    let place = place_of text root ends in
    record { within = omega arith; prolog = rw place p; doctype = rw place h }
