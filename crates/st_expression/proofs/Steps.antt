-- What is at the start of the tokens, step by step.
use Rattle.std.proofs.Common.{◌≡◌, ◌∙◌, ℕ, ◌+◌, ◌<◌, ◌≤◌, Bool, true, false, List, [], ◌∷◌, Some, None, ap, arith, sym, refl, subst}
use Rattle.std.proofs.lemmas.Option.{same_Some, none-some}
use Rattle.st_expression.specs.declared.expression.Operand.{Operand}
use Rattle.st_expression.specs.declared.expression.Expression.{Expression}
use Rattle.st_expression.specs.declared.expression.Expression.TheVariants as tree
use Rattle.st_expression.specs.declared.fault.ReadFault.{ReadFault}
use Rattle.st_expression.specs.declared.fault.ReadFault.TheVariants as fault
use Rattle.st_expression.specs.declared.level.Level.{Level}
use Rattle.st_expression.specs.declared.level.Level.TheVariants.{Primary, Complement, Equality, Conjunction, Exclusion, Disjunction}
use Rattle.st_expression.specs.declared.token.Token.{Token}
use Rattle.st_expression.specs.declared.token.Token.TheVariants as token
use Rattle.st_expression.specs.Grammar.{closer, level_of, nesting, Reads, operand, constant, parentheses, complement, joined, alone, IsNot, Joins}
use Rattle.st_expression.specs.Steps.{looseness, Begins, Ends, Fails, NotAt}
use Rattle.st_expression.proofs.Levels.{ends_closer, ends_closest, ends_next, ends_not, ends_operator}
use Rattle.st_expression.proofs.Shapes.{Shape, shape, of_operand, of_constant, of_parentheses, of_complement, of_joined, of_alone}
use Rattle.st_expression.proofs.Uniqueness.{complement_closer, complement_operator, heads, not_primary, only, primary_none, tails}

-- ---- what begins

primary : (l : Level) → closer l ≡ None → l ≡ Primary
primary Primary c = refl
primary Complement c = absurd (none-some Primary (sym c))
primary Equality c = absurd (none-some Complement (sym c))
primary Conjunction c = absurd (none-some Equality (sym c))
primary Exclusion c = absurd (none-some Conjunction (sym c))
primary Disjunction c = absurd (none-some Exclusion (sym c))

at_primary : (l : Level) (ts rest : List Token) (e : Expression) → closer l ≡ None → Reads Primary ts rest e → Begins l ts rest e
at_primary l ts rest e c r = subst (λ k. Begins k ts rest e) (sym (primary l c))
    (record { reads = r; ends = ends_closest Primary rest (omega arith) })

pub begins_operand : (l : Level) (ts rest : List Token) (o : Operand) → closer l ≡ None → ts ≡ token.Operand o ∷ rest → Begins l ts rest (tree.Operand o)
begins_operand l ts rest o c w = at_primary l ts rest (tree.Operand o) c
    (subst (λ xs. Reads Primary xs rest (tree.Operand o)) (sym w) (operand o rest))

pub begins_constant : (l : Level) (ts rest : List Token) (on : Bool) → closer l ≡ None → ts ≡ token.Constant on ∷ rest → Begins l ts rest (tree.Constant on)
begins_constant l ts rest on c w = at_primary l ts rest (tree.Constant on) c
    (subst (λ xs. Reads Primary xs rest (tree.Constant on)) (sym w) (constant on rest))

pub begins_open : (l : Level) (ts inside after rest : List Token) (e : Expression) → closer l ≡ None → ts ≡ token.Open ∷ inside
    → Begins Disjunction inside after e → after ≡ token.Close ∷ rest → Begins l ts rest e
begins_open l ts inside after rest e c w b close = at_primary l ts rest e c
    (subst (λ xs. Reads Primary xs rest e) (sym w) (parentheses inside rest e (subst (λ xs. Reads Disjunction inside xs e) close b.reads)))

pub begins_not : (l : Level) (ts inside rest : List Token) (a e : Expression) → l ≡ Complement → ts ≡ token.Not ∷ inside
    → Begins Complement inside rest a → IsNot a e → Begins l ts rest e
begins_not l ts inside rest a e same w b is = subst (λ k. Begins k ts rest e) (sym same)
    (record { reads = subst (λ xs. Reads Complement xs rest e) (sym w) (complement inside rest a e b.reads is); ends = b.ends })

pub begins_alone : (l tight : Level) (ts after : List Token) (e : Expression) → closer l ≡ Some tight → Begins tight ts after e → NotAt l after
    → Begins l ts after e
begins_alone l tight ts after e c b not_at = record { reads = alone l tight ts after e c b.reads; ends = ends_next l tight after c b.ends not_at }

pub begins_joined : (l tight : Level) (ts after others rest : List Token) (x : Token) (a b e : Expression) → closer l ≡ Some tight
    → Begins tight ts after a → after ≡ x ∷ others → level_of x ≡ Some l → Begins l others rest b → Joins x a b e → Begins l ts rest e
begins_joined l tight ts after others rest x a b e c one w o two j = record {
  reads = joined l tight ts others rest x a b e c o (subst (λ xs. Reads tight ts xs a) w one.reads) two.reads j;
  ends = two.ends;
}

-- ---- how deep

nesting-operator : (l : Level) (x : Token) (ts : List Token) → level_of x ≡ Some l → nesting (x ∷ ts) ≡ nesting ts + 1
unfolding nesting
nesting-operator l token.Equal ts o = refl
nesting-operator l token.Unequal ts o = refl
nesting-operator l token.And ts o = refl
nesting-operator l token.Exclusive ts o = refl
nesting-operator l token.Or ts o = refl
nesting-operator l (token.Operand v) ts o = absurd (none-some l o)
nesting-operator l (token.Constant on) ts o = absurd (none-some l o)
nesting-operator l token.Not ts o = absurd (none-some l o)
nesting-operator l token.Open ts o = absurd (none-some l o)
nesting-operator l token.Close ts o = absurd (none-some l o)
nesting-operator l token.Other ts o = absurd (none-some l o)

nesting-open : (ts : List Token) → nesting (token.Open ∷ ts) ≡ nesting ts + 1
unfolding nesting
nesting-open ts = refl

nesting-not : (ts : List Token) → nesting (token.Not ∷ ts) ≡ nesting ts + 1
unfolding nesting
nesting-not ts = refl

nesting-close : (ts : List Token) → nesting (token.Close ∷ ts) ≡ nesting ts
unfolding nesting
nesting-close ts = refl

nesting-operand : (o : Operand) (ts : List Token) → nesting ts ≤ nesting (token.Operand o ∷ ts)
unfolding nesting
nesting-operand o ts = omega arith

nesting-constant : (on : Bool) (ts : List Token) → nesting ts ≤ nesting (token.Constant on ∷ ts)
unfolding nesting
nesting-constant on ts = omega arith

-- what is behind an expression nests no more
nesting-rest : (l : Level) (ts rest : List Token) (e : Expression) → Reads l ts rest e → nesting rest ≤ nesting ts
nesting-rest _ _ _ _ (operand o rest) = nesting-operand o rest
nesting-rest _ _ _ _ (constant on rest) = nesting-constant on rest
nesting-rest _ _ _ _ (parentheses inside rest e d) =
    let inner = nesting-rest Disjunction inside (token.Close ∷ rest) e d in
    let close = nesting-close rest in
    let more = nesting-open inside in
    omega (arith, inner, close, more)
nesting-rest _ _ _ _ (complement inside rest a e d is) =
    let inner = nesting-rest Complement inside rest a d in
    let more = nesting-not inside in
    omega (arith, inner, more)
nesting-rest _ _ _ _ (joined loose tight ts others rest x a b e c o d d' j) =
    let one = nesting-rest tight ts (x ∷ others) a d in
    let two = nesting-rest loose others rest b d' in
    let more = nesting-operator loose x others o in
    omega (arith, one, two, more)
nesting-rest _ _ _ _ (alone loose tight ts rest e c d) = nesting-rest tight ts rest e d

-- nothing more may stand within
nothing_left : (l : Level) (left : ℕ) (ts : List Token) (f : ReadFault) → (f ≡ fault.TooDeep) × (left ≡ 0) → 0 < nesting ts → Fails l left ts f
nothing_left l left ts f is some = subst (Fails l left ts) (sym is.0) (let none = is.1 in omega (arith, none, some))

pub deep_open : (l : Level) (left : ℕ) (ts inside : List Token) (f : ReadFault) → (f ≡ fault.TooDeep) × (left ≡ 0) → ts ≡ token.Open ∷ inside → Fails l left ts f
deep_open l left ts inside f is w = nothing_left l left ts f is
    (let more = nesting-open inside in let same = ap nesting w in omega (arith, more, same))

pub deep_not : (l : Level) (left : ℕ) (ts inside : List Token) (f : ReadFault) → (f ≡ fault.TooDeep) × (left ≡ 0) → ts ≡ token.Not ∷ inside → Fails l left ts f
deep_not l left ts inside f is w = nothing_left l left ts f is
    (let more = nesting-not inside in let same = ap nesting w in omega (arith, more, same))

pub deep_second : (l tight : Level) (left : ℕ) (ts after others : List Token) (x : Token) (a : Expression) (f : ReadFault) → (f ≡ fault.TooDeep) × (left ≡ 0)
    → Begins tight ts after a → after ≡ x ∷ others → level_of x ≡ Some l → Fails l left ts f
deep_second l tight left ts after others x a f is had w o = nothing_left l left ts f is
    (let more = nesting-operator l x others o in
    let same = ap nesting w in
    let behind = nesting-rest tight ts after a had.reads in
    omega (arith, more, same, behind))

-- ---- why nothing does

some_token : (l : Level) (ts rest : List Token) (e : Expression) → Reads l ts rest e → ts ≡ [] → ⊥
some_token _ _ _ _ (operand o rest) w = cc
some_token _ _ _ _ (constant on rest) w = cc
some_token _ _ _ _ (parentheses inside rest e d) w = cc
some_token _ _ _ _ (complement inside rest a e d is) w = cc
some_token _ _ _ _ (joined loose tight ts others rest x a b e c o d d' j) w = some_token tight ts (x ∷ others) a d w
some_token _ _ _ _ (alone loose tight ts rest e c d) w = some_token tight ts rest e d w

pub fails_empty : (l : Level) (left : ℕ) (ts : List Token) (f : ReadFault) → f ≡ fault.NoExpression → ts ≡ [] → Fails l left ts f
fails_empty l left ts f is w = subst (Fails l left ts) (sym is) (λ rest e b. some_token l ts rest e b.reads w)

-- behind an opening parenthesis there is an expression, and a closing one behind it
pub record Closed (inside rest : List Token) (e : Expression) : Type 0 where
  pub reads : Reads Disjunction inside (token.Close ∷ rest) e

closed : (l : Level) (ts inside rest : List Token) (e : Expression) → l ≡ Primary → ts ≡ token.Open ∷ inside → Shape l ts rest e → Closed inside rest e
closed l ts inside rest e p w (of_parentheses q p' w' d) =
    record { reads = subst (λ xs. Reads Disjunction xs (token.Close ∷ rest) e) (sym (tails token.Open token.Open inside q (sym w ∙ w'))) d }
closed l ts inside rest e p w (of_operand q p' w' e') = let both : token.Open ∷ inside ≡ token.Operand q ∷ rest = sym w ∙ w' in absurd cc
closed l ts inside rest e p w (of_constant q p' w' e') = let both : token.Open ∷ inside ≡ token.Constant q ∷ rest = sym w ∙ w' in absurd cc
closed l ts inside rest e p w (of_complement q a p' w' d is) = let both : Primary ≡ Complement = sym p ∙ p' in absurd cc
closed l ts inside rest e p w (of_joined t others op a b c o d d' j) = absurd (primary_none l t p c)
closed l ts inside rest e p w (of_alone t c d) = absurd (primary_none l t p c)

pub fails_open : (l : Level) (left within : ℕ) (ts inside : List Token) (f : ReadFault) → closer l ≡ None → ts ≡ token.Open ∷ inside
    → within + 1 ≡ left → Fails Disjunction within inside f → Fails l left ts f
fails_open l left within ts inside fault.Memory c w n h = tt
fails_open l left within ts inside fault.NoExpression c w n h = λ rest e b.
    let is = closed l ts inside rest e (primary l c) w (shape l ts rest e b.reads) in
    h (token.Close ∷ rest) e (record { reads = is.reads; ends = tt })
fails_open l left within ts inside fault.TooDeep c w n h = let more = nesting-open inside in let same = ap nesting w in omega (arith, more, same, h, n)

pub fails_close : (l : Level) (left : ℕ) (ts inside after : List Token) (a : Expression) (f : ReadFault) → f ≡ fault.NoExpression → closer l ≡ None
    → ts ≡ token.Open ∷ inside → Begins Disjunction inside after a → ((rest : List Token) → after ≡ token.Close ∷ rest → ⊥) → Fails l left ts f
fails_close l left ts inside after a f is c w had not_closed = subst (Fails l left ts) (sym is) (λ rest e b.
    let inner = closed l ts inside rest e (primary l c) w (shape l ts rest e b.reads) in
    let same = only Disjunction inside after a had.reads (token.Close ∷ rest) e inner.reads had.ends tt in
    not_closed rest same.rest)

pub record Negated (inside rest : List Token) : Type 0 where
  pub a : Expression
  pub reads : Reads Complement inside rest a

negated : (l : Level) (ts inside rest : List Token) (e : Expression) → l ≡ Complement → ts ≡ token.Not ∷ inside → Shape l ts rest e → Negated inside rest
negated l ts inside rest e p w (of_complement q a p' w' d is) =
    record { a = a; reads = subst (λ xs. Reads Complement xs rest a) (sym (tails token.Not token.Not inside q (sym w ∙ w'))) d }
negated l ts inside rest e p w (of_operand q p' w' e') = let both : Primary ≡ Complement = sym p' ∙ p in absurd cc
negated l ts inside rest e p w (of_constant q p' w' e') = let both : Primary ≡ Complement = sym p' ∙ p in absurd cc
negated l ts inside rest e p w (of_parentheses q p' w' d) = let both : Primary ≡ Complement = sym p' ∙ p in absurd cc
negated l ts inside rest e p w (of_joined t others op a b c o d d' j) = absurd (complement_operator l op p o)
negated l ts inside rest e p w (of_alone t c d) = absurd (not_primary t ts inside rest e (sym (complement_closer l t p c)) w (shape t ts rest e d))

pub fails_not : (l : Level) (left within : ℕ) (ts inside : List Token) (f : ReadFault) → l ≡ Complement → ts ≡ token.Not ∷ inside
    → within + 1 ≡ left → Fails Complement within inside f → Fails l left ts f
fails_not l left within ts inside fault.Memory p w n h = tt
fails_not l left within ts inside fault.NoExpression p w n h = λ rest e b.
    let is = negated l ts inside rest e p w (shape l ts rest e b.reads) in
    h rest is.a (record { reads = is.reads; ends = ends_closest Complement rest (omega arith) })
fails_not l left within ts inside fault.TooDeep p w n h = let more = nesting-not inside in let same = ap nesting w in omega (arith, more, same, h, n)

-- an expression of the next closer level begins, if it is no NOT
pub record Firstly (tight : Level) (ts : List Token) : Type 0 where
  pub rest : List Token
  pub e : Expression
  pub begins : Begins tight ts rest e

firstly : (l tight : Level) (ts inside rest : List Token) (x : Token) (e : Expression) → closer l ≡ Some tight → ts ≡ x ∷ inside
    → ((l ≡ Complement) × (x ≡ token.Not) → ⊥) → Ends l rest → Shape l ts rest e → Firstly tight ts
firstly l tight ts inside rest x e c w other ends (of_joined t others op a b c' o d d' j) =
    let same : t ≡ tight = same_Some t tight (sym c' ∙ c) in
    record {
      rest = op ∷ others;
      e = a;
      begins = record {
        reads = subst (λ k. Reads k ts (op ∷ others) a) same d;
        ends = ends_operator l tight op others c o;
      };
    }
firstly l tight ts inside rest x e c w other ends (of_alone t c' d) =
    let same : t ≡ tight = same_Some t tight (sym c' ∙ c) in
    record { rest = rest; e = e; begins = record { reads = subst (λ k. Reads k ts rest e) same d; ends = ends_closer l tight rest c ends } }
firstly l tight ts inside rest x e c w other ends (of_complement q a p' w' d is) = absurd (other (p', heads x token.Not inside q (sym w ∙ w')))
firstly l tight ts inside rest x e c w other ends (of_operand q p' w' e') = absurd (primary_none l tight p' c)
firstly l tight ts inside rest x e c w other ends (of_constant q p' w' e') = absurd (primary_none l tight p' c)
firstly l tight ts inside rest x e c w other ends (of_parentheses q p' w' d) = absurd (primary_none l tight p' c)

pub fails_closer : (l tight : Level) (left : ℕ) (ts inside : List Token) (x : Token) (f : ReadFault) → closer l ≡ Some tight → ts ≡ x ∷ inside
    → ((l ≡ Complement) × (x ≡ token.Not) → ⊥) → Fails tight left ts f → Fails l left ts f
fails_closer l tight left ts inside x fault.Memory c w other h = tt
fails_closer l tight left ts inside x fault.NoExpression c w other h = λ rest e b.
    let is = firstly l tight ts inside rest x e c w other b.ends (shape l ts rest e b.reads) in h is.rest is.e is.begins
fails_closer l tight left ts inside x fault.TooDeep c w other h = h

-- an expression of the level is behind the operator
pub record Secondly (l : Level) (others rest : List Token) : Type 0 where
  pub b : Expression
  pub reads : Reads l others rest b

secondly : (l tight : Level) (ts after others rest : List Token) (x : Token) (a e : Expression) → closer l ≡ Some tight → Begins tight ts after a
    → after ≡ x ∷ others → level_of x ≡ Some l → Ends l rest → Shape l ts rest e → Secondly l others rest
secondly l tight ts after others rest x a e c had w o ends (of_joined t others' op a' b' c' o' d d' j) =
    let same : t ≡ tight = same_Some t tight (sym c' ∙ c) in
    let one = only tight ts after a had.reads (op ∷ others') a' (subst (λ k. Reads k ts (op ∷ others') a') same d) had.ends (ends_operator l tight op others' c o') in
    let behind : others' ≡ others = sym (tails x op others others' (sym w ∙ one.rest)) in
    record { b = b'; reads = subst (λ os. Reads l os rest b') behind d' }
secondly l tight ts after others rest x a e c had w o ends (of_alone t c' d) =
    let same : t ≡ tight = same_Some t tight (sym c' ∙ c) in
    let one = only tight ts after a had.reads rest e (subst (λ k. Reads k ts rest e) same d) had.ends (ends_closer l tight rest c ends) in
    let more : looseness l < looseness l = ends_not l l x others (subst (Ends l) (sym one.rest ∙ w) ends) o in
    absurd (omega (arith, more))
secondly l tight ts after others rest x a e c had w o ends (of_complement q g p' w' d is) = absurd (complement_operator l x p' o)
secondly l tight ts after others rest x a e c had w o ends (of_operand q p' w' e') = absurd (primary_none l tight p' c)
secondly l tight ts after others rest x a e c had w o ends (of_constant q p' w' e') = absurd (primary_none l tight p' c)
secondly l tight ts after others rest x a e c had w o ends (of_parentheses q p' w' d) = absurd (primary_none l tight p' c)

pub fails_second : (l tight : Level) (left within : ℕ) (ts after others : List Token) (x : Token) (a : Expression) (f : ReadFault) → closer l ≡ Some tight
    → Begins tight ts after a → after ≡ x ∷ others → level_of x ≡ Some l → within + 1 ≡ left → Fails l within others f → Fails l left ts f
fails_second l tight left within ts after others x a fault.Memory c had w o n h = tt
fails_second l tight left within ts after others x a fault.NoExpression c had w o n h = λ rest e b.
    let is = secondly l tight ts after others rest x a e c had w o b.ends (shape l ts rest e b.reads) in
    h rest is.b (record { reads = is.reads; ends = b.ends })
fails_second l tight left within ts after others x a fault.TooDeep c had w o n h =
    let more = nesting-operator l x others o in
    let same = ap nesting w in
    let behind = nesting-rest tight ts after a had.reads in
    omega (arith, more, same, behind, h, n)

-- the first token, once it is known which one it is
pub with_first : (ts inside : List Token) (x y : Token) → ts ≡ x ∷ inside → x ≡ y → ts ≡ y ∷ inside
with_first ts inside x y w same = w ∙ ap (λ z. z ∷ inside) same

pub off_on : (b : Bool) → b ≡ false → b ≡ true → ⊥
off_on b off on = cc
