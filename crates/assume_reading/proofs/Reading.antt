-- Words one after the other, and what they are in an expression.
use Rattle.std.proofs.Common.{◌≡◌, ℕ, false, List, [], ◌∷◌, ◌++◌, map, refl, sym, ap, ◌∙◌}
use Rattle.std.proofs.lemmas.List.{append_assoc, map-append}
use Rattle.std.proofs.lemmas.List.Folds.{list_any-append}
use Rattle.causes_query.specs.Assignment.{input_variables}
use Rattle.diagram_declarations.specs.declared.decls.Var.{Var}
use Rattle.diagram_declarations.specs.Decls.{Declared, is_input}
use Rattle.st_expression.specs.declared.token.Token.{Token}
use Rattle.st_words.specs.declared.word.Word.{Word}
use Rattle.st_words.specs.Places.{spelled, spellings}
use Rattle.assume_reading.specs.Reading.{AreKnown, inputs_of, is_other, token_of, tokens_of}
use Rattle.assume_reading.specs.Words.{BeginAs, token_among}

-- one more token that an expression has
known_more : (tokens : List Token) (t : Token) → AreKnown tokens → is_other t ≡ false → AreKnown (tokens ++ t ∷ [])
known_more tokens t known is = list_any-append is_other tokens (t ∷ []) ∙ rw (known, is) refl

-- What a word is, by how the code finds it.
pub token_is : (decls : Declared) (vars : List Var) (inputs used bytes word : List ℕ) (t : Token) → t ≡ token_among used decls bytes → used ≡ inputs
    → inputs ≡ input_variables (map is_input vars) → vars ≡ decls.vars → bytes ≡ word → t ≡ token_of decls word
token_is decls vars inputs used bytes word t is same are all spelled =
    is ∙ ap (λ vs. token_among vs decls bytes) (same ∙ are ∙ ap (λ vs. input_variables (map is_input vs)) all)
    ∙ ap (λ w. token_among (inputs_of decls) decls w) spelled

pub begin_more : (decls : Declared) (text : List ℕ) (words rest behind : List Word) (tokens more : List Token) (word : Word) (t : Token)
    → BeginAs decls text words rest tokens → rest ≡ word ∷ behind → t ≡ token_of decls (spelled text word) → is_other t ≡ false
    → more ≡ tokens ++ t ∷ [] → BeginAs decls text words behind more
begin_more decls text words rest behind tokens more word t begins first found known is = record {
  front = begins.front ++ word ∷ [];
  whole = begins.whole ∙ ap (λ r. begins.front ++ r) first ∙ sym (append_assoc begins.front (word ∷ []) behind);
  are = is ∙ ap (λ u. tokens ++ u ∷ []) found ∙ ap (λ ts. ts ++ token_of decls (spelled text word) ∷ []) begins.are
      ∙ sym (map-append (token_of decls) (spellings text begins.front) (spelled text word ∷ []))
      ∙ ap (tokens_of decls) (sym (map-append (spelled text) begins.front (word ∷ [])));
  known = rw is (known_more tokens t begins.known known);
}
