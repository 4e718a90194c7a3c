-- Numbers within a limit.
use Rattle.std.proofs.Common.{◌≡◌, ◌∙◌, ℕ, zero, suc, ◌-◌, ◌≤◌, ◌<◌, List, [], ◌∷◌, ◌++◌, Option, Some, None, Bool, true, false, slice_get, unwrap_or, drop, get_or, length, take, ap, arith, refl, subst, sym}
use Rattle.std.proofs.Math.Seq.{take-length}
use Rattle.std.specs.Option.{option_map_or}
use Rattle.network_power.specs.declared.network.Element.{Element}
use Rattle.network_power.specs.declared.network.Links.{Links}
use Rattle.network_power.specs.declared.network.Network.{Network}
use Rattle.network_power.specs.Network.{Among, here, further, left_of}
use Rattle.network_check.specs.declared.effect.Effect.{Effect}
use Rattle.network_routes.specs.Routes.{Leads, LeadsTo, LeadsToNone, fed_by, left_in, one, through}
use Rattle.network_routes.specs.Firsts.{AllWithin, AreNoLarger, AreOrdered, AreWithin, IsWithin, before, first_of}

-- ---- lists of elements

pub none_within : (firsts : List ℕ) (limit : ℕ) → AreWithin firsts limit []
none_within firsts limit = record { within = λ id among. elim among [ ] }

more_at : (firsts : List ℕ) (limit x : ℕ) (xs : List ℕ) → first_of firsts x ≤ limit → AreWithin firsts limit xs → (id : ℕ) → Among id (x ∷ xs)
    → first_of firsts id ≤ limit
more_at firsts limit x xs h more id (here _) = h
more_at firsts limit x xs h more id (further _ _ among) = more.within id among

pub more_within : (firsts : List ℕ) (limit x : ℕ) (xs : List ℕ) → first_of firsts x ≤ limit → AreWithin firsts limit xs → AreWithin firsts limit (x ∷ xs)
more_within firsts limit x xs h more = record { within = more_at firsts limit x xs h more }

pub both_within : (firsts : List ℕ) (limit : ℕ) (xs ys : List ℕ) → AreWithin firsts limit xs → AreWithin firsts limit ys → AreWithin firsts limit (xs ++ ys)
both_within firsts limit [] ys first second = second
both_within firsts limit (x ∷ xs) ys first second =
    more_within firsts limit x (xs ++ ys) (first.within x (here xs))
    (both_within firsts limit xs ys (record { within = λ id among. first.within id (further x xs among) }) second)

pub further_within : (firsts : List ℕ) (limit more : ℕ) (xs : List ℕ) → limit ≤ more → AreWithin firsts limit xs → AreWithin firsts more xs
further_within firsts limit more xs h all = record { within = λ id among. let l = all.within id among in omega (arith, l, h) }

-- ---- among lists

pub first_among : (id first : ℕ) (rest : List ℕ) → first ≡ id → Among id (first ∷ rest)
first_among id first rest same = subst (λ x. Among id (x ∷ rest)) (sym same) (here rest)

pub others_among : (id first : ℕ) (rest : List ℕ) → Among id rest → Among id (first ∷ rest)
others_among id first rest among = further first rest among

behind_is : (id : ℕ) (ids : List ℕ) → take (length (id ∷ ids) - 1) ids ≡ ids
behind_is id ids = let all : length (id ∷ ids) - 1 ≡ length ids = omega arith in ap (λ n. take n ids) all ∙ take-length ids

pub others_in : (ids : List ℕ) (id : ℕ) → 1 ≤ length ids → Among id (take (length ids - 1) (drop 1 ids)) → Among id ids
others_in [] id some among = absurd (omega (arith, some))
others_in (first ∷ rest) id some among = further first rest (subst (λ (xs : List ℕ). Among id xs) (behind_is first rest) among)

pub among_first : (id : ℕ) (xs ys : List ℕ) → Among id xs → Among id (xs ++ ys)
among_first id [] ys among = elim among [ ]
among_first id (x ∷ xs) ys (here _) = here (xs ++ ys)
among_first id (x ∷ xs) ys (further _ _ among) = further x (xs ++ ys) (among_first id xs ys among)

pub among_second : (id : ℕ) (xs ys : List ℕ) → Among id ys → Among id (xs ++ ys)
among_second id [] ys among = among
among_second id (x ∷ xs) ys among = further x (xs ++ ys) (among_second id xs ys among)

-- ---- routes

number_at : (net : Network) (firsts : List ℕ) (es : List Element) (own : List ℕ) (n : ℕ) (e : Element) → AreNoLarger net firsts es own
    → slice_get es n ≡ Some e → AreWithin firsts (first_of own n) (before net e)
number_at net firsts [] own n e all at = cc
number_at net firsts (x ∷ es) [] n e all at = absurd all
number_at net firsts (x ∷ es) (f ∷ own) zero e all at =
    let same : x ≡ e = cc in subst (λ y. AreWithin firsts f (before net y)) same (all.0)
number_at net firsts (x ∷ es) (f ∷ own) (suc n) e all at = number_at net firsts es own n e all.1 at

pub led_within : (net : Network) (firsts : List ℕ) (limit : ℕ) (ids : List ℕ) → AreOrdered net firsts → AreWithin firsts limit ids → (id : ℕ) → Leads net ids id
    → first_of firsts id ≤ limit
led_within net firsts limit ids ordered all id (one _ among) = all.within id among
led_within net firsts limit ids ordered all id (through _ next e left at is among leads) =
    let own = number_at net firsts net.elements.now firsts next e ordered.ordered at in
    let P : Option Links → Type 0 = λ o. AreWithin firsts (first_of firsts next) (option_map_or (left_of net) o []) in
    let in_left : AreWithin firsts (first_of firsts next) (left_of net left) = subst P is own in
    let near = in_left.within id among in
    let last = led_within net firsts limit ids ordered all next leads in
    omega (arith, near, last)

pub to_none : (net : Network) (firsts : List ℕ) (limit id : ℕ) (effects : List Effect) → limit < first_of firsts id → AreOrdered net firsts
    → AllWithin net firsts limit effects → LeadsToNone net effects id
to_none net firsts limit id [] h ordered all = tt
to_none net firsts limit id (effect ∷ effects) h ordered all = (
  (λ leads. let near = led_within net firsts limit (fed_by net effect) ordered all.0 id leads in omega (arith, near, h)),
  to_none net firsts limit id effects h ordered all.1,
)

pub all_further : (net : Network) (firsts : List ℕ) (limit more : ℕ) (effects : List Effect) → limit ≤ more → AllWithin net firsts limit effects
    → AllWithin net firsts more effects
all_further net firsts limit more [] h all = tt
all_further net firsts limit more (effect ∷ effects) h all =
    (further_within firsts limit more (fed_by net effect) h all.0, all_further net firsts limit more effects h all.1)
