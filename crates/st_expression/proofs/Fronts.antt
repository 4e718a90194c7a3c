-- The tokens of an expression.
use Rattle.std.proofs.Common.{◌≡◌, ◌∙◌, List, [], ◌∷◌, ◌++◌, ap, sym, refl, subst, append_assoc}
use Rattle.st_expression.specs.declared.expression.Expression.{Expression}
use Rattle.st_expression.specs.declared.level.Level.{Level}
use Rattle.st_expression.specs.declared.level.Level.TheVariants.{Disjunction}
use Rattle.st_expression.specs.declared.token.Token.{Token}
use Rattle.st_expression.specs.declared.token.Token.TheVariants as token
use Rattle.st_expression.specs.Grammar.{Reads, operand, constant, parentheses, complement, joined, alone}

pub record Own (l : Level) (ts rest : List Token) (e : Expression) : Type 0 where
  pub own : List Token
  pub whole : ts ≡ own ++ rest
  pub any : (other : List Token) → Reads l (own ++ other) other e

pub own_of : (l : Level) (ts rest : List Token) (e : Expression) → Reads l ts rest e → Own l ts rest e
own_of _ _ _ _ (operand o rest) = record { own = token.Operand o ∷ []; whole = refl; any = λ other. operand o other }
own_of _ _ _ _ (constant on rest) = record { own = token.Constant on ∷ []; whole = refl; any = λ other. constant on other }
own_of _ _ _ _ (parentheses inside rest e d) =
    let i = own_of Disjunction inside (token.Close ∷ rest) e d in
    record {
      own = token.Open ∷ (i.own ++ token.Close ∷ []);
      whole = ap (λ ts. token.Open ∷ ts) (i.whole ∙ sym (append_assoc i.own (token.Close ∷ []) rest));
      any = λ other. parentheses ((i.own ++ token.Close ∷ []) ++ other) other e
          (subst (λ ts. Reads Disjunction ts (token.Close ∷ other) e) (sym (append_assoc i.own (token.Close ∷ []) other)) (i.any (token.Close ∷ other)));
    }
own_of _ _ _ _ (complement inside rest a e d is) =
    let i = own_of _ inside rest a d in
    record {
      own = token.Not ∷ i.own;
      whole = ap (λ ts. token.Not ∷ ts) i.whole;
      any = λ other. complement (i.own ++ other) other a e (i.any other) is;
    }
own_of _ _ _ _ (joined loose tight ts others rest x a b e c o d d' j) =
    let one = own_of tight ts (x ∷ others) a d in
    let two = own_of loose others rest b d' in
    record {
      own = one.own ++ x ∷ two.own;
      whole = one.whole ∙ ap (λ xs. one.own ++ x ∷ xs) two.whole ∙ sym (append_assoc one.own (x ∷ two.own) rest);
      any = λ other. joined loose tight ((one.own ++ x ∷ two.own) ++ other) (two.own ++ other) other x a b e c o
          (subst (λ xs. Reads tight xs (x ∷ (two.own ++ other)) a) (sym (append_assoc one.own (x ∷ two.own) other)) (one.any (x ∷ (two.own ++ other))))
          (two.any other) j;
    }
own_of _ _ _ _ (alone loose tight ts rest e c d) =
    let i = own_of tight ts rest e d in
    record { own = i.own; whole = i.whole; any = λ other. alone loose tight (i.own ++ other) other e c (i.any other) }
