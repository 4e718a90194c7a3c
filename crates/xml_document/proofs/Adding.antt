-- What is appended.
use Rattle.std.proofs.Common.{◌≡◌, ◌≢◌, ℕ, true, false, nat_eq, List, [], ◌∷◌, ◌++◌, codes, refl, sym, ap, ◌∙◌, subst, append_assoc}
use Rattle.std.specs.List.{starts_with}
use Rattle.std.proofs.lemmas.List.{append-nil}
use Rattle.std.proofs.lemmas.Bool.{ne_eqb}
use Rattle.xml_document.specs.Markup.{Piece, byte, Text, one_more, is_markup}
use Rattle.xml_document.specs.Elements.{Given, byte as given_byte, Value, one_more as value_one_more, Quoted, quoted, is_quote}
use Rattle.xml_document.specs.Reads.{Decodes, Begins}

-- nothing is appended
pub decodes_nothing : (Is : List ℕ → Type 0) (old new : List ℕ) → Is [] → new ≡ old → Decodes Is old new
decodes_nothing Is old new is e = record { bytes = []; are = is; whole = e ∙ sym (append-nil old) }

pub joined : (Is Also Both : List ℕ → Type 0) (a b c : List ℕ) → ((v w : List ℕ) → Is v → Also w → Both (v ++ w)) → Decodes Is a b → Decodes Also b c
    → Decodes Both a c
joined Is Also Both a b c both d e = record {
  bytes = d.bytes ++ e.bytes;
  are = both d.bytes e.bytes d.are e.are;
  whole = e.whole ∙ ap (λ t. t ++ e.bytes) d.whole ∙ append_assoc a d.bytes e.bytes;
}

pub text_more : (text rest after a b c : List ℕ) → Decodes (Text text rest) a b → Decodes (Piece rest after) b c → Decodes (Text text after) a c
text_more text rest after a b c d e = joined (Text text rest) (Piece rest after) (Text text after) a b c (λ v w t p. one_more text rest after v w t p) d e

pub value_more : (quote : ℕ) (text rest after a b c : List ℕ) → Decodes (Value quote text rest) a b → Decodes (Given quote rest after) b c
    → Decodes (Value quote text after) a c
value_more quote text rest after a b c d e =
    joined (Value quote text rest) (Given quote rest after) (Value quote text after) a b c (λ v w t p. value_one_more text rest after v w t p) d e

is_no_markup : (b : ℕ) → b ≢ 60 → b ≢ 38 → is_markup b ≡ false
is_no_markup b h k = rw (ne_eqb b 60 h, ne_eqb b 38 k) refl

pub byte_piece : (text rest old new : List ℕ) (b : ℕ) → text ≡ b ∷ rest → b ≢ 60 → b ≢ 38 → starts_with nat_eq text (codes "]]>") ≡ false
    → new ≡ old ++ b ∷ [] → Decodes (Piece text rest) old new
byte_piece text rest old new b e h k m whole = record {
  bytes = b ∷ [];
  are = subst (λ t. Piece t rest (b ∷ [])) (sym e) (byte rest b (is_no_markup b h k) (subst (λ t. starts_with nat_eq t (codes "]]>") ≡ false) e m));
  whole = whole;
}

pub byte_given : (quote : ℕ) (text rest old new : List ℕ) (b : ℕ) → text ≡ b ∷ rest → b ≢ 60 → b ≢ 38 → b ≢ quote
    → new ≡ old ++ b ∷ [] → Decodes (Given quote text rest) old new
byte_given quote text rest old new b e h k q whole = record {
  bytes = b ∷ [];
  are = subst (λ t. Given quote t rest (b ∷ [])) (sym e) (given_byte rest b (is_no_markup b h k) (ne_eqb b quote q));
  whole = whole;
}

pub value_quoted : (quote other : ℕ) (text start end rest old new after : List ℕ) → text ≡ quote ∷ start → is_quote quote ≡ true
    → Decodes (Value quote start end) old after → Begins end quote → new ≡ after → end ≡ other ∷ rest → Decodes (Quoted text rest) old new
value_quoted quote other text start end rest old new after e q d b same f = record {
  bytes = d.bytes;
  are = subst (λ t. Quoted t rest d.bytes) (sym e) (quoted quote start rest d.bytes q (subst (λ t. Value quote start t d.bytes) ends d.are));
  whole = same ∙ d.whole;
}
  where
    ends : end ≡ quote ∷ rest
    ends = cc b.1
