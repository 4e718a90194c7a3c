-- The items of an expression.
use Rattle.std.proofs.Common.{◌≡◌, ◌-◌, List, [], ◌∷◌, ◌++◌, length, map, take, drop, refl, sym, ap, subst, ◌∙◌, arith}
use Rattle.std.proofs.lemmas.List.{append_assoc, length-append, map-append, take-append-drop}
use Rattle.st_expression.specs.declared.expression.Expression.{Expression}
use Rattle.st_expression.specs.declared.token.Token.{Token}
use Rattle.st_expression.specs.Grammar.{IsExpression}
use Rattle.st_expression.specs.Laws.{HasTokens}
use Rattle.st_program.specs.declared.item.Item.{Item}
use Rattle.st_program.specs.Expressions.{BeginsAs}
use Rattle.st_program.specs.Statements.{Expressed}

abbrev tokens : List Item → List Token
tokens items = map (λ i. i.token) items

same_heads : (t u : Token) (ts us : List Token) → ◌≡◌ {A = List Token} (t ∷ ts) (u ∷ us) → t ≡ u
same_heads t u ts us e = cc

same_tails : (t u : Token) (ts us : List Token) → ◌≡◌ {A = List Token} (t ∷ ts) (u ∷ us) → ts ≡ us
same_tails t u ts us e = cc

-- the first tokens of some first items
front_tokens : (items rest : List Item) (own behind : List Token) → tokens items ≡ own ++ behind → own ≡ tokens (take (length own) (items ++ rest))
front_tokens items rest [] behind e = refl
front_tokens [] rest (t ∷ ts) behind e = absurd cc
front_tokens (i ∷ is) rest (t ∷ ts) behind e =
    let others = front_tokens is rest ts behind (same_tails _ _ _ _ e) in
    let head : i.token ≡ t = same_heads _ _ _ _ e in
    ap (λ us. t ∷ us) others ∙ ap (λ u. u ∷ tokens (take (length ts) (is ++ rest))) (sym head)

expressed_before : (front rest : List Item) (behind : List Token) (e : Expression) → HasTokens → IsExpression (tokens front) behind e
    → Expressed (front ++ rest) (drop (length (tokens front) - length behind) (front ++ rest)) e
expressed_before front rest behind e law read =
    let found = law (tokens front) behind e read in
    let own = found.0 in
    let k = length own in
    let items = front ++ rest in
    let count : length (tokens front) - length behind ≡ k = omega (arith, ap length found.1, length-append own behind) in
    let same = front_tokens front rest own behind found.1 in
    let split : own ++ tokens (drop k items) ≡ tokens items =
    ap (λ ts. ts ++ tokens (drop k items)) same ∙ sym (map-append (λ i. i.token) (take k items) (drop k items)) ∙ ap tokens (take-append-drop k items) in
    rw count (record {
      own = take k items;
      whole = sym (take-append-drop k items);
      is = subst (λ ts. IsExpression ts (tokens (drop k items)) e) split (found.2 (tokens (drop k items)));
    })

pub expressed : (items rest : List Item) (all behind : List Token) (e : Expression) → HasTokens → BeginsAs items rest all → IsExpression all behind e
    → Expressed items (drop (length all - length behind) items) e
expressed items rest all behind e law begins read =
    rw (begins.whole, begins.are) (expressed_before begins.front rest behind e law (subst (λ ts. IsExpression ts behind e) begins.are read))

pub begins_more : (items rest behind : List Item) (all more : List Token) (item : Item) → BeginsAs items rest all → rest ≡ item ∷ behind
    → more ≡ all ++ item.token ∷ [] → BeginsAs items behind more
begins_more items rest behind all more item begins first is = record {
  front = begins.front ++ item ∷ [];
  whole = begins.whole ∙ ap (λ r. begins.front ++ r) first ∙ sym (append_assoc begins.front (item ∷ []) behind);
  are = is ∙ ap (λ ts. ts ++ item.token ∷ []) begins.are ∙ sym (map-append (λ i. i.token) begins.front (item ∷ []));
}

pub begins_empty : (items : List Item) (all : List Token) → all ≡ [] → BeginsAs items items all
begins_empty items all none = record { front = []; whole = refl; are = none }
