-- The levels, by their numbers.
use Rattle.std.proofs.Common.{◌≡◌, ◌∙◌, ℕ, zero, suc, ◌+◌, ◌<◌, ◌≤◌, List, [], ◌∷◌, Option, Some, None, IfSome, ap, arith, sym, refl, subst}
use Rattle.std.proofs.lemmas.Option.{same_Some, none-some}
use Rattle.st_expression.specs.declared.level.Level.{Level}
use Rattle.st_expression.specs.declared.level.Level.TheVariants.{Primary, Complement, Equality, Conjunction, Exclusion, Disjunction}
use Rattle.st_expression.specs.declared.token.Token.{Token}
use Rattle.st_expression.specs.declared.token.Token.TheVariants as token
use Rattle.st_expression.specs.Grammar.{closer, level_of, NoOperator}
use Rattle.st_expression.specs.Steps.{looseness, Ends, NotAt}

abbrev level_with : ℕ → Level
level_with zero = Primary
level_with (suc zero) = Complement
level_with (suc (suc zero)) = Equality
level_with (suc (suc (suc zero))) = Conjunction
level_with (suc (suc (suc (suc zero)))) = Exclusion
level_with (suc (suc (suc (suc (suc n))))) = Disjunction

level_with-looseness : (l : Level) → level_with (looseness l) ≡ l
level_with-looseness Primary = refl
level_with-looseness Complement = refl
level_with-looseness Equality = refl
level_with-looseness Conjunction = refl
level_with-looseness Exclusion = refl
level_with-looseness Disjunction = refl

same_level : (l m : Level) → looseness l ≡ looseness m → l ≡ m
same_level l m e = sym (level_with-looseness l) ∙ ap level_with e ∙ level_with-looseness m

looseness-most : (l : Level) → looseness l ≤ 5
looseness-most Primary = omega arith
looseness-most Complement = omega arith
looseness-most Equality = omega arith
looseness-most Conjunction = omega arith
looseness-most Exclusion = omega arith
looseness-most Disjunction = omega arith

next : (l t : Level) → closer l ≡ Some t → looseness l ≡ looseness t + 1
next Primary t e = absurd (none-some t e)
next Complement t e = rw (ap looseness (sym (same_Some _ _ e))) refl
next Equality t e = rw (ap looseness (sym (same_Some _ _ e))) refl
next Conjunction t e = rw (ap looseness (sym (same_Some _ _ e))) refl
next Exclusion t e = rw (ap looseness (sym (same_Some _ _ e))) refl
next Disjunction t e = rw (ap looseness (sym (same_Some _ _ e))) refl

abbrev pub OfOperator : Option Level → Type 0
OfOperator o = IfSome o (λ l. 2 ≤ looseness l)

of_operator : (t : Token) → OfOperator (level_of t)
of_operator (token.Operand o) = tt
of_operator (token.Constant b) = tt
of_operator token.Not = tt
of_operator token.Equal = omega arith
of_operator token.Unequal = omega arith
of_operator token.And = omega arith
of_operator token.Exclusive = omega arith
of_operator token.Or = omega arith
of_operator token.Open = tt
of_operator token.Close = tt
of_operator token.Other = tt

-- an operator's level is none of the two closest
pub operator_loose : (t : Token) (l : Level) → level_of t ≡ Some l → 2 ≤ looseness l
operator_loose t l e = subst OfOperator e (of_operator t)

-- ---- what no operator begins

abbrev pub Above : ℕ → Option Level → Type 0
Above n o = IfSome o (λ m. n < looseness m)

above_at : (n : ℕ) (o : Option Level) (m : Level) → o ≡ Some m → Above n o → n < looseness m
above_at n o m e h = subst (Above n) e h

pub ends_not : (l m : Level) (t : Token) (ts : List Token) → Ends l (t ∷ ts) → level_of t ≡ Some m → looseness l < looseness m
ends_not l m t ts h e = above_at (looseness l) (level_of t) m e h

above_next : (l t : Level) (o : Option Level) → closer l ≡ Some t → Above (looseness t) o → (o ≡ Some l → ⊥) → Above (looseness l) o
above_next l t None c h not_at = tt
above_next l t (Some m) c h not_at =
    let is = next l t c in
    let other : looseness l ≡ looseness m → ⊥ = λ e. not_at (ap Some (sym (same_level l m e))) in
    omega (arith, is, h, other)

pub ends_next : (l t : Level) (ts : List Token) → closer l ≡ Some t → Ends t ts → NotAt l ts → Ends l ts
ends_next l t [] c h not_at = tt
ends_next l t (x ∷ ts) c h not_at = above_next l t (level_of x) c h not_at

above_closer : (l t : Level) (o : Option Level) → closer l ≡ Some t → Above (looseness l) o → Above (looseness t) o
above_closer l t None c h = tt
above_closer l t (Some m) c h = let is = next l t c in omega (arith, is, h)

pub ends_closer : (l t : Level) (ts : List Token) → closer l ≡ Some t → Ends l ts → Ends t ts
ends_closer l t [] c h = tt
ends_closer l t (x ∷ ts) c h = above_closer l t (level_of x) c h

above_operator : (l t : Level) (o : Option Level) → closer l ≡ Some t → o ≡ Some l → Above (looseness t) o
above_operator l t o c e = let is = next l t c in subst (Above (looseness t)) (sym e) (omega (arith, is))

-- behind an expression of the next closer level an operator of a level ends it
pub ends_operator : (l t : Level) (x : Token) (ts : List Token) → closer l ≡ Some t → level_of x ≡ Some l → Ends t (x ∷ ts)
ends_operator l t x ts c e = above_operator l t (level_of x) c e

-- no operator of the closest levels is there
pub ends_closest : (l : Level) (ts : List Token) → looseness l ≤ 1 → Ends l ts
ends_closest l [] few = tt
ends_closest l (x ∷ ts) few = above_few (looseness l) (level_of x) few (of_operator x)
  where
    above_few : (n : ℕ) (o : Option Level) → n ≤ 1 → OfOperator o → Above n o
    above_few n None few h = tt
    above_few n (Some m) few h = omega (arith, few, h)

none_above : (o : Option Level) → Above 5 o → o ≡ None
none_above None h = refl
none_above (Some m) h = let most = looseness-most m in absurd (omega (arith, most, h))

pub ends_all : (ts : List Token) → Ends Disjunction ts → NoOperator ts
ends_all [] h = tt
ends_all (x ∷ ts) h = none_above (level_of x) h

above_none : (o : Option Level) → o ≡ None → Above 5 o
above_none o e = subst (Above 5) (sym e) tt

pub all_ends : (ts : List Token) → NoOperator ts → Ends Disjunction ts
all_ends [] h = tt
all_ends (x ∷ ts) h = above_none (level_of x) h
