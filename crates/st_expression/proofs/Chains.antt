-- Chains of operators of one level.
use Rattle.std.proofs.Common.{◌≡◌, ◌∙◌, Bool, true, false, not, ◌&&◌, ◌||◌, Some, ap, sym, refl}
use Rattle.std.proofs.lemmas.Option.{same_Some, none-some}
use Rattle.st_expression.specs.declared.expression.Expression.{Expression}
use Rattle.st_expression.specs.declared.level.Level.TheVariants.{Equality, Conjunction, Exclusion, Disjunction}
use Rattle.st_expression.specs.declared.token.Token.{Token}
use Rattle.st_expression.specs.declared.token.Token.TheVariants as token
use Rattle.st_expression.specs.Grammar.{Joins, level_of}
use Rattle.st_expression.specs.Laws.{IsEitherWay}
use Rattle.st_expression.specs.Value.{value, differ}
use Rattle.st_expression.proofs.Uniqueness.{meant, value-joined}

and_way : (x y z : Bool) → ((x && y) && z) ≡ (x && (y && z))
and_way true y z = refl
and_way false y z = refl

or_way : (x y z : Bool) → ((x || y) || z) ≡ (x || (y || z))
or_way true y z = refl
or_way false y z = refl

not_twice : (x : Bool) → not (not x) ≡ x
not_twice true = refl
not_twice false = refl

differ_way : (x y z : Bool) → differ (differ x y) z ≡ differ x (differ y z)
differ_way false y z = refl
differ_way true true z = sym (not_twice z)
differ_way true false z = refl

not_differ : (x y : Bool) → differ (not x) y ≡ not (differ x y)
not_differ true y = sym (not_twice y)
not_differ false y = refl

differ_not : (x y : Bool) → differ x (not y) ≡ not (differ x y)
differ_not true y = refl
differ_not false y = refl

abbrev Way : Token → Token → Type 0
Way f g = (x y z : Bool) → meant g (meant f x y) z ≡ meant f x (meant g y z)

equal_equal : Way token.Equal token.Equal
equal_equal x y z = ap not (not_differ (differ x y) z ∙ ap not (differ_way x y z) ∙ sym (differ_not x (differ y z)))

equal_unequal : Way token.Equal token.Unequal
equal_unequal x y z = not_differ (differ x y) z ∙ ap not (differ_way x y z)

unequal_equal : Way token.Unequal token.Equal
unequal_equal x y z = ap not (differ_way x y z) ∙ sym (differ_not x (differ y z))

-- an operator behind one of equality
after_equality : (f g : Token) → Way f token.Equal → Way f token.Unequal → Some Equality ≡ level_of g → Way f g
after_equality f token.Equal h k e = h
after_equality f token.Unequal h k e = k
after_equality f token.And h k e = let same = same_Some _ _ e in let both : Equality ≡ Conjunction = same in absurd cc
after_equality f token.Exclusive h k e = let both : Equality ≡ Exclusion = same_Some _ _ e in absurd cc
after_equality f token.Or h k e = let both : Equality ≡ Disjunction = same_Some _ _ e in absurd cc
after_equality f (token.Operand o) h k e = absurd (none-some _ (sym e))
after_equality f (token.Constant on) h k e = absurd (none-some _ (sym e))
after_equality f token.Not h k e = absurd (none-some _ (sym e))
after_equality f token.Open h k e = absurd (none-some _ (sym e))
after_equality f token.Close h k e = absurd (none-some _ (sym e))
after_equality f token.Other h k e = absurd (none-some _ (sym e))

after_and : (g : Token) → Some Conjunction ≡ level_of g → Way token.And g
after_and token.And e = and_way
after_and token.Equal e = let both : Conjunction ≡ Equality = same_Some _ _ e in absurd cc
after_and token.Unequal e = let both : Conjunction ≡ Equality = same_Some _ _ e in absurd cc
after_and token.Exclusive e = let both : Conjunction ≡ Exclusion = same_Some _ _ e in absurd cc
after_and token.Or e = let both : Conjunction ≡ Disjunction = same_Some _ _ e in absurd cc
after_and (token.Operand o) e = absurd (none-some _ (sym e))
after_and (token.Constant on) e = absurd (none-some _ (sym e))
after_and token.Not e = absurd (none-some _ (sym e))
after_and token.Open e = absurd (none-some _ (sym e))
after_and token.Close e = absurd (none-some _ (sym e))
after_and token.Other e = absurd (none-some _ (sym e))

after_exclusive : (g : Token) → Some Exclusion ≡ level_of g → Way token.Exclusive g
after_exclusive token.Exclusive e = differ_way
after_exclusive token.Equal e = let both : Exclusion ≡ Equality = same_Some _ _ e in absurd cc
after_exclusive token.Unequal e = let both : Exclusion ≡ Equality = same_Some _ _ e in absurd cc
after_exclusive token.And e = let both : Exclusion ≡ Conjunction = same_Some _ _ e in absurd cc
after_exclusive token.Or e = let both : Exclusion ≡ Disjunction = same_Some _ _ e in absurd cc
after_exclusive (token.Operand o) e = absurd (none-some _ (sym e))
after_exclusive (token.Constant on) e = absurd (none-some _ (sym e))
after_exclusive token.Not e = absurd (none-some _ (sym e))
after_exclusive token.Open e = absurd (none-some _ (sym e))
after_exclusive token.Close e = absurd (none-some _ (sym e))
after_exclusive token.Other e = absurd (none-some _ (sym e))

after_or : (g : Token) → Some Disjunction ≡ level_of g → Way token.Or g
after_or token.Or e = or_way
after_or token.Equal e = let both : Disjunction ≡ Equality = same_Some _ _ e in absurd cc
after_or token.Unequal e = let both : Disjunction ≡ Equality = same_Some _ _ e in absurd cc
after_or token.And e = let both : Disjunction ≡ Conjunction = same_Some _ _ e in absurd cc
after_or token.Exclusive e = let both : Disjunction ≡ Exclusion = same_Some _ _ e in absurd cc
after_or (token.Operand o) e = absurd (none-some _ (sym e))
after_or (token.Constant on) e = absurd (none-some _ (sym e))
after_or token.Not e = absurd (none-some _ (sym e))
after_or token.Open e = absurd (none-some _ (sym e))
after_or token.Close e = absurd (none-some _ (sym e))
after_or token.Other e = absurd (none-some _ (sym e))

way : (f g : Token) (a b e : Expression) → Joins f a b e → level_of f ≡ level_of g → Way f g
way token.Equal g a b e j same = after_equality token.Equal g equal_equal equal_unequal same
way token.Unequal g a b e j same = after_equality token.Unequal g unequal_equal differ_way same
way token.And g a b e j same = after_and g same
way token.Exclusive g a b e j same = after_exclusive g same
way token.Or g a b e j same = after_or g same
way (token.Operand o) g a b e j same = absurd j
way (token.Constant on) g a b e j same = absurd j
way token.Not g a b e j same = absurd j
way token.Open g a b e j same = absurd j
way token.Close g a b e j same = absurd j
way token.Other g a b e j same = absurd j

pub either_way : IsEitherWay
either_way f g a b c ab bc left right same one two three four env =
    value-joined g ab c left env two
    ∙ ap (λ x. meant g x (value env c)) (value-joined f a b ab env one)
    ∙ way f g a b ab one same (value env a) (value env b) (value env c)
    ∙ ap (λ x. meant f (value env a) x) (sym (value-joined g b c bc env three))
    ∙ sym (value-joined f a bc right env four)
