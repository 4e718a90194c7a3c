-- The longest expression that begins the tokens is one, with one value.
use Rattle.std.proofs.Common.{◌≡◌, ◌∙◌, ◌<◌, ◌≤◌, Bool, not, ◌&&◌, ◌||◌, List, [], ◌∷◌, Some, ap, arith, sym, refl, subst}
use Rattle.std.proofs.lemmas.Option.{same_Some, none-some}
use Rattle.st_expression.specs.declared.expression.Operand.{Operand}
use Rattle.st_expression.specs.declared.expression.Expression.{Expression}
use Rattle.st_expression.specs.declared.expression.Expression.TheVariants as tree
use Rattle.st_expression.specs.declared.level.Level.{Level}
use Rattle.st_expression.specs.declared.level.Level.TheVariants.{Primary, Complement, Disjunction}
use Rattle.st_expression.specs.declared.token.Token.{Token}
use Rattle.st_expression.specs.declared.token.Token.TheVariants as token
use Rattle.st_expression.specs.Grammar.{closer, level_of, Reads, operand, constant, parentheses, complement, joined, alone, IsNot, Joins}
use Rattle.st_expression.specs.Steps.{looseness, Ends}
use Rattle.st_expression.specs.Value.{value, differ}
use Rattle.st_expression.proofs.Levels.{ends_closer, ends_operator, ends_not, operator_loose}
use Rattle.st_expression.proofs.Shapes.{Shape, shape, of_operand, of_constant, of_parentheses, of_complement, of_joined, of_alone}

-- ---- values

abbrev pub Alike : (a b : Expression) → Type 0
Alike a b = (env : Operand → Bool) → value env a ≡ value env b

-- what an operator makes of two values
abbrev pub meant : Token → Bool → Bool → Bool
meant token.Equal x y = not (differ x y)
meant token.Unequal x y = differ x y
meant token.And x y = x && y
meant token.Exclusive x y = differ x y
meant _ x y = x || y

pub value-joined : (t : Token) (a b e : Expression) (env : Operand → Bool) → Joins t a b e → value env e ≡ meant t (value env a) (value env b)
unfolding value
value-joined token.Equal a b e env j = ap (value env) j.2
value-joined token.Unequal a b e env j = ap (value env) j.2
value-joined token.And a b e env j = ap (value env) j.2
value-joined token.Exclusive a b e env j = ap (value env) j.2
value-joined token.Or a b e env j = ap (value env) j.2
value-joined (token.Operand o) a b e env j = absurd j
value-joined (token.Constant on) a b e env j = absurd j
value-joined token.Not a b e env j = absurd j
value-joined token.Open a b e env j = absurd j
value-joined token.Close a b e env j = absurd j
value-joined token.Other a b e env j = absurd j

value-not : (a e : Expression) (env : Operand → Bool) → IsNot a e → value env e ≡ not (value env a)
unfolding value
value-not a e env is = ap (value env) is.1

alike_not : (a b e f : Expression) → Alike a b → IsNot a e → IsNot b f → Alike e f
alike_not a b e f h i j env = value-not a e env i ∙ ap not (h env) ∙ sym (value-not b f env j)

alike_joined : (t u : Token) (a b c d e f : Expression) → t ≡ u → Alike a c → Alike b d → Joins t a b e → Joins u c d f → Alike e f
alike_joined t u a b c d e f same h k i j env =
    value-joined t a b e env i
    ∙ ap (λ x. meant t x (value env b)) (h env)
    ∙ ap (λ y. meant t (value env c) y) (k env)
    ∙ ap (λ w. meant w (value env c) (value env d)) same
    ∙ sym (value-joined u c d f env j)

-- ---- one expression

pub record Same (r s : List Token) (a b : Expression) : Type 0 where
  pub rest : r ≡ s
  pub alike : Alike a b

-- an expression that has been read is the only one at its level
abbrev Only : (l : Level) (ts r : List Token) (a : Expression) → Type 0
Only l ts r a = (s : List Token) (b : Expression) → Reads l ts s b → Ends l r → Ends l s → Same r s a b

pub primary_none : (l t : Level) → l ≡ Primary → closer l ≡ Some t → ⊥
primary_none l t e c = none-some t (ap closer (sym e) ∙ c)

only_operand : (l : Level) (ts r s : List Token) (o : Operand) (b : Expression) → l ≡ Primary → ts ≡ token.Operand o ∷ r → Shape l ts s b
    → Same r s (tree.Operand o) b
only_operand l ts r s o b p w (of_operand q p' w' e') =
    let both : token.Operand o ∷ r ≡ token.Operand q ∷ s = sym w ∙ w' in
    let same : o ≡ q = cc in
    record { rest = cc; alike = λ env. ap (λ x. value env (tree.Operand x)) same ∙ ap (value env) (sym e') }
only_operand l ts r s o b p w (of_constant q p' w' e') = let both : token.Operand o ∷ r ≡ token.Constant q ∷ s = sym w ∙ w' in absurd cc
only_operand l ts r s o b p w (of_parentheses q p' w' d) = let both : token.Operand o ∷ r ≡ token.Open ∷ q = sym w ∙ w' in absurd cc
only_operand l ts r s o b p w (of_complement q a p' w' d is) = let both : token.Operand o ∷ r ≡ token.Not ∷ q = sym w ∙ w' in absurd cc
only_operand l ts r s o b p w (of_joined t others op a c cl o' d d' j) = absurd (primary_none l t p cl)
only_operand l ts r s o b p w (of_alone t cl d) = absurd (primary_none l t p cl)

only_constant : (l : Level) (ts r s : List Token) (o : Bool) (b : Expression) → l ≡ Primary → ts ≡ token.Constant o ∷ r → Shape l ts s b
    → Same r s (tree.Constant o) b
only_constant l ts r s o b p w (of_constant q p' w' e') =
    let both : token.Constant o ∷ r ≡ token.Constant q ∷ s = sym w ∙ w' in
    let same : o ≡ q = cc in
    record { rest = cc; alike = λ env. ap (λ x. value env (tree.Constant x)) same ∙ ap (value env) (sym e') }
only_constant l ts r s o b p w (of_operand q p' w' e') = let both : token.Constant o ∷ r ≡ token.Operand q ∷ s = sym w ∙ w' in absurd cc
only_constant l ts r s o b p w (of_parentheses q p' w' d) = let both : token.Constant o ∷ r ≡ token.Open ∷ q = sym w ∙ w' in absurd cc
only_constant l ts r s o b p w (of_complement q a p' w' d is) = let both : token.Constant o ∷ r ≡ token.Not ∷ q = sym w ∙ w' in absurd cc
only_constant l ts r s o b p w (of_joined t others op a c cl o' d d' j) = absurd (primary_none l t p cl)
only_constant l ts r s o b p w (of_alone t cl d) = absurd (primary_none l t p cl)

tail_of : List Token → List Token
tail_of [] = []
tail_of (x ∷ xs) = xs

pub tails : (x y : Token) (xs ys : List Token) → x ∷ xs ≡ y ∷ ys → xs ≡ ys
unfolding tail_of
tails x y xs ys e = ap tail_of e

head_of : List Token → Token
head_of [] = token.Other
head_of (x ∷ xs) = x

pub heads : (x y : Token) (xs ys : List Token) → x ∷ xs ≡ y ∷ ys → x ≡ y
unfolding head_of
heads x y xs ys e = ap head_of e

only_parentheses : (l : Level) (ts inside r s : List Token) (a b : Expression) → l ≡ Primary → ts ≡ token.Open ∷ inside
    → Only Disjunction inside (token.Close ∷ r) a → Shape l ts s b → Same r s a b
only_parentheses l ts inside r s a b p w only (of_parentheses q p' w' d) =
    let same : inside ≡ q = tails token.Open token.Open inside q (sym w ∙ w') in
    let inner = only (token.Close ∷ s) b (subst (λ is. Reads Disjunction is (token.Close ∷ s) b) (sym same) d) tt tt in
    record { rest = tails token.Close token.Close r s inner.rest; alike = inner.alike }
only_parentheses l ts inside r s a b p w only (of_operand q p' w' e') = let both : token.Open ∷ inside ≡ token.Operand q ∷ s = sym w ∙ w' in absurd cc
only_parentheses l ts inside r s a b p w only (of_constant q p' w' e') = let both : token.Open ∷ inside ≡ token.Constant q ∷ s = sym w ∙ w' in absurd cc
only_parentheses l ts inside r s a b p w only (of_complement q c p' w' d is) = let both : token.Open ∷ inside ≡ token.Not ∷ q = sym w ∙ w' in absurd cc
only_parentheses l ts inside r s a b p w only (of_joined t others op c d cl o' e e' j) = absurd (primary_none l t p cl)
only_parentheses l ts inside r s a b p w only (of_alone t cl d) = absurd (primary_none l t p cl)

pub complement_closer : (l t : Level) → l ≡ Complement → closer l ≡ Some t → Primary ≡ t
complement_closer l t e c = same_Some Primary t (ap closer (sym e) ∙ c)

pub complement_operator : (l : Level) (x : Token) → l ≡ Complement → level_of x ≡ Some l → ⊥
complement_operator l x e o = let loose : 2 ≤ looseness l = operator_loose x l o in let is : looseness l ≡ 1 = ap looseness e in omega (arith, loose, is)

-- NOT begins no operand and no parentheses
pub not_primary : (t : Level) (ts inside s : List Token) (b : Expression) → t ≡ Primary → ts ≡ token.Not ∷ inside → Shape t ts s b → ⊥
not_primary t ts inside s b p w (of_operand q p' w' e') = let both : token.Not ∷ inside ≡ token.Operand q ∷ s = sym w ∙ w' in cc
not_primary t ts inside s b p w (of_constant q p' w' e') = let both : token.Not ∷ inside ≡ token.Constant q ∷ s = sym w ∙ w' in cc
not_primary t ts inside s b p w (of_parentheses q p' w' d) = let both : token.Not ∷ inside ≡ token.Open ∷ q = sym w ∙ w' in cc
not_primary t ts inside s b p w (of_complement q c p' w' d is) = let both : Primary ≡ Complement = sym p ∙ p' in cc
not_primary t ts inside s b p w (of_joined u others op c d cl o' e e' j) = primary_none t u p cl
not_primary t ts inside s b p w (of_alone u cl d) = primary_none t u p cl

only_complement : (l : Level) (ts inside r s : List Token) (a e b : Expression) → l ≡ Complement → ts ≡ token.Not ∷ inside
    → Only Complement inside r a → IsNot a e → Ends l r → Ends l s → Shape l ts s b → Same r s e b
only_complement l ts inside r s a e b p w only is er es (of_complement q c p' w' d is') =
    let same : inside ≡ q = tails token.Not token.Not inside q (sym w ∙ w') in
    let inner = only s c (subst (λ i. Reads Complement i s c) (sym same) d) (subst (λ k. Ends k r) p er) (subst (λ k. Ends k s) p es) in
    record { rest = inner.rest; alike = alike_not a c e b inner.alike is is' }
only_complement l ts inside r s a e b p w only is er es (of_operand q p' w' e') = let both : Primary ≡ Complement = sym p' ∙ p in absurd cc
only_complement l ts inside r s a e b p w only is er es (of_constant q p' w' e') = let both : Primary ≡ Complement = sym p' ∙ p in absurd cc
only_complement l ts inside r s a e b p w only is er es (of_parentheses q p' w' d) = let both : Primary ≡ Complement = sym p' ∙ p in absurd cc
only_complement l ts inside r s a e b p w only is er es (of_joined t others op c d cl o' f f' j) = absurd (complement_operator l op p o')
only_complement l ts inside r s a e b p w only is er es (of_alone t cl d) =
    absurd (not_primary t ts inside s b (sym (complement_closer l t p cl)) w (shape t ts s b d))

-- an expression with an operator, or alone, is the only one if its first part is
only_joined : (l t : Level) (ts others r s : List Token) (x : Token) (a b e f : Expression) → closer l ≡ Some t → level_of x ≡ Some l
    → Only t ts (x ∷ others) a → Only l others r b → Joins x a b e → Ends l r → Ends l s → Shape l ts s f → Same r s e f
only_joined l t ts others r s x a b e f c o first second j er es (of_joined t' others' y a' b' c' o' d d' j') =
    let tight : t' ≡ t = same_Some t' t (sym c' ∙ c) in
    let one = first (y ∷ others') a' (subst (λ k. Reads k ts (y ∷ others') a') tight d) (ends_operator l t x others c o) (ends_operator l t y others' c o') in
    let behind : others' ≡ others = sym (tails x y others others' one.rest) in
    let two = second s b' (subst (λ os. Reads l os s b') behind d') er es in
    record { rest = two.rest; alike = alike_joined x y a b a' b' e f (heads x y others others' one.rest) one.alike two.alike j j' }
only_joined l t ts others r s x a b e f c o first second j er es (of_alone t' c' d) =
    let tight : t' ≡ t = same_Some t' t (sym c' ∙ c) in
    let one = first s f (subst (λ k. Reads k ts s f) tight d) (ends_operator l t x others c o) (ends_closer l t s c es) in
    let more : looseness l < looseness l = ends_not l l x others (subst (Ends l) (sym one.rest) es) o in
    absurd (omega (arith, more))
only_joined l t ts others r s x a b e f c o first second j er es (of_operand q p w i) = absurd (primary_none l t p c)
only_joined l t ts others r s x a b e f c o first second j er es (of_constant q p w i) = absurd (primary_none l t p c)
only_joined l t ts others r s x a b e f c o first second j er es (of_parentheses q p w d) = absurd (primary_none l t p c)
only_joined l t ts others r s x a b e f c o first second j er es (of_complement q g p w d is) = absurd (complement_operator l x p o)

only_alone : (l t : Level) (ts r s : List Token) (a b : Expression) → closer l ≡ Some t → Reads t ts r a → Only t ts r a → Ends l r → Ends l s → Shape l ts s b → Same r s a b
only_alone l t ts r s a b c had only er es (of_alone t' c' d) =
    let tight : t' ≡ t = same_Some t' t (sym c' ∙ c) in
    only s b (subst (λ k. Reads k ts s b) tight d) (ends_closer l t r c er) (ends_closer l t s c es)
only_alone l t ts r s a b c had only er es (of_joined t' others y a' b' c' o' d d' j') =
    let tight : t' ≡ t = same_Some t' t (sym c' ∙ c) in
    let one = only (y ∷ others) a' (subst (λ k. Reads k ts (y ∷ others) a') tight d) (ends_closer l t r c er) (ends_operator l t y others c o') in
    let more : looseness l < looseness l = ends_not l l y others (subst (Ends l) one.rest er) o' in
    absurd (omega (arith, more))
only_alone l t ts r s a b c had only er es (of_operand q p w i) = absurd (primary_none l t p c)
only_alone l t ts r s a b c had only er es (of_constant q p w i) = absurd (primary_none l t p c)
only_alone l t ts r s a b c had only er es (of_parentheses q p w d) = absurd (primary_none l t p c)
only_alone l t ts r s a b c had only er es (of_complement q g p w d is) =
    absurd (not_primary t ts q r a (sym (complement_closer l t p c)) w (shape t ts r a had))

pub only : (l : Level) (ts r : List Token) (a : Expression) → Reads l ts r a → Only l ts r a
only _ _ _ _ (operand o rest) s b second er es = only_operand _ _ rest s o b refl refl (shape _ _ s b second)
only _ _ _ _ (constant on rest) s b second er es = only_constant _ _ rest s on b refl refl (shape _ _ s b second)
only _ _ _ _ (parentheses inside rest e d) s b second er es =
    only_parentheses _ _ inside rest s e b refl refl (only Disjunction inside (token.Close ∷ rest) e d) (shape _ _ s b second)
only _ _ _ _ (complement inside rest a e d is) s b second er es =
    only_complement _ _ inside rest s a e b refl refl (only Complement inside rest a d) is er es (shape _ _ s b second)
only _ _ _ _ (joined loose tight tokens others rest operator a b e c o d d' j) s f second er es =
    only_joined loose tight tokens others rest s operator a b e f c o (only tight tokens (operator ∷ others) a d) (only loose others rest b d') j er es (shape _ _ s f second)
only _ _ _ _ (alone loose tight tokens rest e c d) s b second er es =
    only_alone loose tight tokens rest s e b c d (only tight tokens rest e d) er es (shape _ _ s b second)
