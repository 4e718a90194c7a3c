-- What is left of a text ends it, and is shorter.
use Rattle.std.proofs.Common.{◌≡◌, ℕ, ◌-◌, ◌≤◌, ◌<◌, List, [], ◌∷◌, ◌++◌, length, drop, codes, refl, sym, ap, ◌∙◌, subst, arith, append_assoc, length-append}
use Rattle.xml_document.specs.Characters.{Blanks, Space, Name, UpTo}
use Rattle.xml_document.specs.Markup.{Comment, comment, Instruction, instruction, Digits, nothing, digit, Reference, less, greater, ampersand, apostrophe, quotation, decimal, hexadecimal, Section, section, Piece, byte, reference, Text, one_more}
use Rattle.xml_document.specs.Elements.{Given, byte as given_byte, reference as given_reference, Value, nothing as no_value, one_more as value_one_more, Quoted, quoted, Equals, equals, Attribute, attribute, Attributes, none, one_more as attributes_one_more, TagHead, tag, EndTag, tag as end_tag, Element, empty, whole, Content, only, child}
use Rattle.xml_document.specs.Items.{Item}
use Rattle.xml_document.specs.Documents.{One, blank, comment as one_comment, instruction as one_instruction, Misc, nothing as no_misc, one_more as misc_one_more, Declared, declared, Maybe, left_out as maybe_left_out, there as maybe_there, Declaration, left_out as no_declaration, there as declaration, OrderMark, left_out as no_mark, there as mark_there, Prolog}
use Rattle.std.proofs.Math.Seq.{drop-append_seam}
use Rattle.xml_document.proofs.Runs.{passes_whole}

-- the rest ends the text
pub record Ends (text rest : List ℕ) : Type 0 where
  pub front : List ℕ
  pub whole : text ≡ front ++ rest

pub ends_within : (text rest : List ℕ) → Ends text rest → length rest ≤ length text
ends_within text rest e = omega (arith, ap length e.whole, length-append e.front rest)

pub ends_same : (text : List ℕ) → Ends text text
ends_same text = record { front = []; whole = refl }

pub ends_then : (text after rest : List ℕ) → Ends text after → Ends after rest → Ends text rest
ends_then text after rest e f = record { front = e.front ++ f.front; whole = e.whole ∙ ap (λ t. e.front ++ t) f.whole ∙ sym (append_assoc e.front f.front rest) }

pub ends_behind : (mark text rest : List ℕ) → Ends text rest → Ends (mark ++ text) rest
ends_behind mark text rest e = record { front = mark ++ e.front; whole = ap (λ t. mark ++ t) e.whole ∙ sym (append_assoc mark e.front rest) }

pub ends_past : (mark text rest : List ℕ) → Ends text (mark ++ rest) → Ends text rest
ends_past mark text rest e = ends_then text (mark ++ rest) rest e (record { front = mark; whole = refl })

-- the rest ends the text behind its first byte
pub record Behind (text rest : List ℕ) : Type 0 where
  pub first : ℕ
  pub after : List ℕ
  pub whole : text ≡ first ∷ after
  pub ends : Ends after rest

pub behind_less : (text rest : List ℕ) → Behind text rest → length rest < length text
behind_less text rest b = let n = ends_within b.after rest b.ends in omega (arith, ap length b.whole)

pub behind_ends : (text rest : List ℕ) → Behind text rest → Ends text rest
behind_ends text rest b = subst (λ t. Ends t rest) (sym b.whole) (ends_behind (b.first ∷ []) b.after rest b.ends)

-- behind a mark, which begins with a byte
pub behind_mark : (b : ℕ) (mark text rest : List ℕ) → Ends text rest → Behind (b ∷ (mark ++ text)) rest
behind_mark b mark text rest e = record { first = b; after = mark ++ text; whole = refl; ends = ends_behind mark text rest e }

pub behind_then : (text after rest : List ℕ) → Behind text after → Ends after rest → Behind text rest
behind_then text after rest b e = record { first = b.first; after = b.after; whole = b.whole; ends = ends_then b.after after rest b.ends e }

pub up_to_ends : (mark text rest inside : List ℕ) → UpTo mark text rest inside → Ends text rest
up_to_ends mark text rest inside u = ends_past mark text rest (record { front = inside; whole = passes_whole mark text (mark ++ rest) inside u })

pub name_ends : (text rest name : List ℕ) → Name text rest name → Ends text rest
name_ends text rest name n = record { front = name; whole = n.whole }

pub blanks_end : (text rest : List ℕ) → Blanks text rest → Ends text rest
blanks_end text rest b = record { front = b.0; whole = b.1.whole }

digits_end : (base : ℕ) (text rest : List ℕ) (n : ℕ) → Digits base text rest n → Ends text rest
digits_end base _ _ _ (nothing text) = ends_same text
digits_end base _ _ _ (digit text rest b n ds h) = ends_past (b ∷ []) text rest (digits_end base text (b ∷ rest) n ds)

pub comment_behind : (text rest : List ℕ) → Comment text rest → Behind text rest
comment_behind _ _ (comment text inside rest u) =
    behind_mark 60 (33 ∷ 45 ∷ 45 ∷ []) text rest (ends_past (62 ∷ []) text rest (up_to_ends (codes "--") text (62 ∷ rest) inside u))

pub instruction_behind : (text rest : List ℕ) → Instruction text rest → Behind text rest
instruction_behind _ _ (instruction text target after inside rest n x u apart) =
    behind_mark 60 (63 ∷ []) text rest (ends_then text after rest (name_ends text after target n) (up_to_ends (codes "?>") after rest inside u))

pub section_behind : (text rest inside : List ℕ) → Section text rest inside → Behind text rest
section_behind _ _ _ (section text rest inside u) = behind_mark 60 (codes "![CDATA[") text rest (up_to_ends (codes "]]>") text rest inside u)

pub reference_behind : (text rest : List ℕ) (c : ℕ) → Reference text rest c → Behind text rest
reference_behind _ _ _ (less rest) = behind_mark 38 (codes "lt;") rest rest (ends_same rest)
reference_behind _ _ _ (greater rest) = behind_mark 38 (codes "gt;") rest rest (ends_same rest)
reference_behind _ _ _ (ampersand rest) = behind_mark 38 (codes "amp;") rest rest (ends_same rest)
reference_behind _ _ _ (apostrophe rest) = behind_mark 38 (codes "apos;") rest rest (ends_same rest)
reference_behind _ _ _ (quotation rest) = behind_mark 38 (codes "quot;") rest rest (ends_same rest)
reference_behind _ _ _ (decimal text rest c ds h) =
    behind_mark 38 (codes "#") text rest (ends_past (codes ";") text rest (digits_end 10 text (codes ";" ++ rest) c ds))
reference_behind _ _ _ (hexadecimal text rest c ds h) =
    behind_mark 38 (codes "#x") text rest (ends_past (codes ";") text rest (digits_end 16 text (codes ";" ++ rest) c ds))

pub piece_behind : (text rest bytes : List ℕ) → Piece text rest bytes → Behind text rest
piece_behind _ _ _ (byte rest b h g) = behind_mark b [] rest rest (ends_same rest)
piece_behind _ _ _ (reference text rest c r) = reference_behind text rest c r
piece_behind _ _ _ (section text rest inside s) = section_behind text rest inside s
piece_behind _ _ _ (comment text rest c) = comment_behind text rest c
piece_behind _ _ _ (instruction text rest i) = instruction_behind text rest i

pub text_ends : (text rest bytes : List ℕ) → Text text rest bytes → Ends text rest
text_ends _ _ _ (nothing text) = ends_same text
text_ends _ _ _ (one_more text after rest bytes more t p) =
    ends_then text after rest (text_ends text after bytes t) (behind_ends after rest (piece_behind after rest more p))

pub given_behind : (quote : ℕ) (text rest bytes : List ℕ) → Given quote text rest bytes → Behind text rest
given_behind quote _ _ _ (given_byte rest b h g) = behind_mark b [] rest rest (ends_same rest)
given_behind quote _ _ _ (given_reference text rest c r) = reference_behind text rest c r

value_ends : (quote : ℕ) (text rest bytes : List ℕ) → Value quote text rest bytes → Ends text rest
value_ends quote _ _ _ (no_value text) = ends_same text
value_ends quote _ _ _ (value_one_more text after rest bytes more v g) =
    ends_then text after rest (value_ends quote text after bytes v) (behind_ends after rest (given_behind quote after rest more g))

quoted_behind : (text rest value : List ℕ) → Quoted text rest value → Behind text rest
quoted_behind _ _ _ (quoted quote text rest value q v) = behind_mark quote [] text rest (ends_past (quote ∷ []) text rest (value_ends quote text (quote ∷ rest) value v))

equals_end : (text rest : List ℕ) → Equals text rest → Ends text rest
equals_end _ _ (equals text after rest b c) = ends_then text after rest (ends_past (codes "=") text after (blanks_end text (codes "=" ++ after) b)) (blanks_end after rest c)

pub attribute_ends : (text rest name value : List ℕ) → Attribute text rest name value → Ends text rest
attribute_ends _ _ _ _ (attribute text after value_text rest name value n e q) =
    ends_then text after rest (name_ends text after name n)
    (ends_then after value_text rest (equals_end after value_text e) (behind_ends value_text rest (quoted_behind value_text rest value q)))

space_less : (text rest : List ℕ) → Space text rest → length rest < length text
space_less text rest s = shorter s.blanks.0 text rest s.blanks.1.whole s.some
  where
    shorter : (run text rest : List ℕ) → text ≡ run ++ rest → (text ≡ rest → ⊥) → length rest < length text
    shorter [] text rest e some = absurd (some e)
    shorter (b ∷ run) text rest e some = omega (arith, ap length e, length-append run rest)

-- an attribute and the blanks before it
pub spaced_less : (text start rest name value : List ℕ) → Space text start → Attribute start rest name value → length rest < length text
spaced_less text start rest name value s a = let n = ends_within start rest (attribute_ends start rest name value a) in let m = space_less text start s in omega arith

attributes_end : (text rest : List ℕ) (items : List Item) → Attributes text rest items → Ends text rest
attributes_end _ _ _ (none text) = ends_same text
attributes_end _ _ _ (attributes_one_more text after start rest name value before a s b n) =
    ends_then text after rest (attributes_end text after before a)
    (ends_then after start rest (blanks_end after start s.blanks) (attribute_ends start rest name value b))

tag_behind : (text rest name : List ℕ) (items : List Item) → TagHead text rest name items → Behind text rest
tag_behind _ _ _ _ (tag text name after behind rest items n a b) =
    behind_mark 60 [] text rest
    (ends_then text after rest (name_ends text after name n) (ends_then after behind rest (attributes_end after behind items a) (blanks_end behind rest b)))

end_tag_ends : (text rest name : List ℕ) → EndTag text rest name → Ends text rest
end_tag_ends _ _ _ (end_tag text name after rest n b) =
    ends_behind (codes "</") text rest (ends_then text after rest (name_ends text after name n) (ends_past (codes ">") after rest (blanks_end after (codes ">" ++ rest) b)))

behind_past : (mark text rest : List ℕ) → Behind text (mark ++ rest) → Behind text rest
behind_past mark text rest b = record { first = b.first; after = b.after; whole = b.whole; ends = ends_past mark b.after rest b.ends }

mutual
  pub element_behind : (text rest : List ℕ) (items : List Item) → Element text rest items → Behind text rest
  element_behind _ _ _ (empty text rest name items h) = behind_past (codes "/>") text rest (tag_behind text (codes "/>" ++ rest) name items h)
  element_behind _ _ _ (whole text inside after rest name attributes items h c e) =
      behind_then text inside rest (behind_past (codes ">") text inside (tag_behind text (codes ">" ++ inside) name attributes h))
      (ends_then inside after rest (content_ends inside after items c) (end_tag_ends after rest name e))

  content_ends : (text rest : List ℕ) (items : List Item) → Content text rest items → Ends text rest
  content_ends _ _ _ (only text rest bytes t) = text_ends text rest bytes t
  content_ends _ _ _ (child text start behind rest bytes before items c e t) =
      ends_then text start rest (content_ends text start before c)
      (ends_then start behind rest (behind_ends start behind (element_behind start behind items e)) (text_ends behind rest bytes t))

-- an element and what stands behind it
pub child_less : (text behind rest bytes : List ℕ) (items : List Item) → Element text behind items → Text behind rest bytes → length rest < length text
child_less text behind rest bytes items e t =
    let n = behind_less text behind (element_behind text behind items e) in
    let m = ends_within behind rest (text_ends behind rest bytes t) in
    omega arith

pub one_behind : (text rest : List ℕ) → One text rest → Behind text rest
one_behind _ _ (blank rest b h) = behind_mark b [] rest rest (ends_same rest)
one_behind _ _ (one_comment text rest c) = comment_behind text rest c
one_behind _ _ (one_instruction text rest i) = instruction_behind text rest i

misc_ends : (text rest : List ℕ) → Misc text rest → Ends text rest
misc_ends _ _ (no_misc text) = ends_same text
misc_ends _ _ (misc_one_more text after rest m o) = ends_then text after rest (misc_ends text after m) (behind_ends after rest (one_behind after rest o))

declared_ends : (word text rest value : List ℕ) → Declared word text rest value → Ends text rest
declared_ends word _ _ _ (declared text after value_text rest value quote s e q r) =
    ends_then text after rest (ends_past word text after (blanks_end text (word ++ after) s.blanks))
    (ends_then after value_text rest (ends_past (quote ∷ []) after value_text (equals_end after (quote ∷ value_text) e))
    (ends_past (quote ∷ []) value_text rest (record { front = value; whole = r.whole })))

maybe_ends : (word : List ℕ) (Is : List ℕ → Type 0) (text rest : List ℕ) → Maybe word Is text rest → Ends text rest
maybe_ends word Is _ _ (maybe_left_out text) = ends_same text
maybe_ends word Is _ _ (maybe_there text rest value d is) = declared_ends word text rest value d

declaration_ends : (text rest : List ℕ) → Declaration text rest → Ends text rest
declaration_ends _ _ (no_declaration text) = ends_same text
declaration_ends _ _ (declaration text a b c rest version d v m n blanks) =
    ends_behind (codes "<?xml") text rest
    (ends_then text a rest (declared_ends (codes "version") text a version d)
    (ends_then a b rest (maybe_ends (codes "encoding") _ a b m)
    (ends_then b c rest (maybe_ends (codes "standalone") _ b c n) (ends_past (codes "?>") c rest (blanks_end c (codes "?>" ++ rest) blanks)))))

mark_ends : (text rest : List ℕ) → OrderMark text rest → Ends text rest
mark_ends _ _ (no_mark text) = ends_same text
mark_ends _ _ (mark_there rest) = ends_behind (0xEF ∷ 0xBB ∷ 0xBF ∷ []) rest rest (ends_same rest)

pub prolog_ends : (text rest : List ℕ) → Prolog text rest → Ends text rest
prolog_ends text rest p =
    ends_then text p.marked rest (mark_ends text p.marked p.mark)
    (ends_then p.marked p.declared rest (declaration_ends p.marked p.declared p.declaration) (misc_ends p.declared rest p.before))

-- where the rest begins
pub place_of : (text rest : List ℕ) → Ends text rest → drop (length text - length rest) text ≡ rest
place_of text rest e =
    let n : length text - length rest ≡ length e.front = omega (arith, ap length e.whole, length-append e.front rest) in
    rw n (ap (drop (length e.front)) e.whole ∙ drop-append_seam e.front rest)
