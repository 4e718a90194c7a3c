-- The values and the depths of parts, by their trees.
use Rattle.std.proofs.Common.{◌≡◌, ◌∙◌, ◌+◌, max, Bool, true, false, not, cond, ◌&&◌, ◌||◌, Option, Some, None, IfSome, Box, Global, ap, ap₂, sym, refl, subst, arith}
use Rattle.std.proofs.Math.Bool.{or-false}
use Rattle.scan_cycle.specs.Cells.{Frame}
use Rattle.st_expression.specs.declared.expression.Expression.{Expression}
use Rattle.st_expression.specs.declared.expression.Expression.TheVariants as tree
use Rattle.st_expression.specs.Value.{differ, value}
use Rattle.st_statements.specs.Run.{seen}
use Rattle.draw_power.specs.declared.ends.Ends.{Ends}
use Rattle.draw_power.specs.declared.network.Network.{Network}
use Rattle.draw_power.specs.declared.part.Pair.{Pair}
use Rattle.draw_power.specs.declared.part.Part.{Part}
use Rattle.draw_power.specs.Helpers.{value_as}
use Rattle.draw_power.specs.Parts.{IsPair, any_of, both_of, depth, depth_of, none_of, same_of, shown}
use Rattle.draw_power.specs.Power.{Carries, Joins}
use Rattle.draw_power.proofs.Flow.{carries_as, carries_beside, carries_from}

-- ---- truth values

not_both : (a b : Bool) → (not a || not b) ≡ not (a && b)
not_both true b = refl
not_both false b = refl

not_either : (a b : Bool) → (not a && not b) ≡ not (a || b)
not_either true b = refl
not_either false b = refl

not_twice : (a : Bool) → not (not a) ≡ a
not_twice true = refl
not_twice false = refl

both_or_none : (on a b : Bool) → ((a && cond on b (not b)) || (not a && not (cond on b (not b)))) ≡ cond on (not (differ a b)) (not (not (differ a b)))
both_or_none true true true = refl
both_or_none true true false = refl
both_or_none true false true = refl
both_or_none true false false = refl
both_or_none false true true = refl
both_or_none false true false = refl
both_or_none false false true = refl
both_or_none false false false = refl

one_alone : (on a b : Bool) → ((a && cond (not on) b (not b)) || (not a && not (cond (not on) b (not b)))) ≡ cond on (differ a b) (not (differ a b))
one_alone true true true = refl
one_alone true true false = refl
one_alone true false true = refl
one_alone true false false = refl
one_alone false true true = refl
one_alone false true false = refl
one_alone false false true = refl
one_alone false false false = refl

pub alone_first : (on first second part : Bool) → first ≡ on → part ≡ cond on second (not second) → part ≡ ((first && second) || (not first && not second))
alone_first on first second part e h = grind arith

pub alone_second : (on first second part : Bool) → second ≡ on → part ≡ cond on first (not first) → part ≡ ((first && second) || (not first && not second))
alone_second on first second part e h = grind arith

-- ---- what a pair shows

-- the memory that a part of a tree is in
abbrev pub Held : Type 0
Held = Box (Unit {0}) Global

module _ (pair : Pair) (x y a b : Expression) (on other : Bool) (is : IsPair pair x on y other) (at_a : x ≡ a) (at_b : y ≡ b) where
  first_is : (f : Frame Bool) → shown pair.first f ≡ value_as on (seen f) a
  first_is f = ap₂ (λ o t. value_as o (seen f) t) is.first_on (is.first ∙ at_a)

  second_is : (f : Frame Bool) → shown pair.second f ≡ value_as other (seen f) b
  second_is f = ap₂ (λ o t. value_as o (seen f) t) is.second_on (is.second ∙ at_b)

  depths_are : depth_of pair ≡ max (depth a) (depth b)
  depths_are = ap₂ (λ s t. max (depth s) (depth t)) (is.first ∙ at_a) (is.second ∙ at_b)

part_is : (part : Part) (whole : Expression) (on : Bool) → part.expression.now ≡ whole → part.on ≡ on → (f : Frame Bool) → value_as on (seen f) whole ≡ shown part f
part_is part whole on e o f = sym (ap₂ (λ u t. value_as u (seen f) t) o e)

-- A pair of two parts, each on or off as the whole is.
module _ (part : Part) (a b x y : Expression) (p q : Held) (pair : Pair) (is : IsPair pair x part.on y part.on) (at_a : x ≡ a) (at_b : y ≡ b) where
  pub and_on : part.expression.now ≡ tree.And' p a q b → part.on ≡ true → (f : Frame Bool) → both_of pair f ≡ shown part f
  unfolding value
  and_on e o f =
      ap₂ (λ u v. u && v)
      (first_is pair x y a b part.on part.on is at_a at_b f ∙ ap (λ u. value_as u (seen f) a) o)
      (second_is pair x y a b part.on part.on is at_a at_b f ∙ ap (λ u. value_as u (seen f) b) o)
      ∙ part_is part (tree.And' p a q b) true e o f

  pub and_off : part.expression.now ≡ tree.And' p a q b → part.on ≡ false → (f : Frame Bool) → any_of pair f ≡ shown part f
  unfolding value
  and_off e o f =
      ap₂ (λ u v. u || v)
      (first_is pair x y a b part.on part.on is at_a at_b f ∙ ap (λ u. value_as u (seen f) a) o)
      (second_is pair x y a b part.on part.on is at_a at_b f ∙ ap (λ u. value_as u (seen f) b) o)
      ∙ not_both (value (seen f) a) (value (seen f) b)
      ∙ part_is part (tree.And' p a q b) false e o f

  pub or_on : part.expression.now ≡ tree.Or' p a q b → part.on ≡ true → (f : Frame Bool) → any_of pair f ≡ shown part f
  unfolding value
  or_on e o f =
      ap₂ (λ u v. u || v)
      (first_is pair x y a b part.on part.on is at_a at_b f ∙ ap (λ u. value_as u (seen f) a) o)
      (second_is pair x y a b part.on part.on is at_a at_b f ∙ ap (λ u. value_as u (seen f) b) o)
      ∙ part_is part (tree.Or' p a q b) true e o f

  pub or_off : part.expression.now ≡ tree.Or' p a q b → part.on ≡ false → (f : Frame Bool) → both_of pair f ≡ shown part f
  unfolding value
  or_off e o f =
      ap₂ (λ u v. u && v)
      (first_is pair x y a b part.on part.on is at_a at_b f ∙ ap (λ u. value_as u (seen f) a) o)
      (second_is pair x y a b part.on part.on is at_a at_b f ∙ ap (λ u. value_as u (seen f) b) o)
      ∙ not_either (value (seen f) a) (value (seen f) b)
      ∙ part_is part (tree.Or' p a q b) false e o f

pub equal_is : (part : Part) (a b x y : Expression) (p q : Held) (pair : Pair) → IsPair pair x true y part.on → x ≡ a → y ≡ b
    → part.expression.now ≡ tree.Equal' p a q b → (f : Frame Bool) → same_of pair f ≡ shown part f
unfolding value
equal_is part a b x y p q pair is at_a at_b e f =
    ap₂ (λ u v. (u && v) || (not u && not v)) (first_is pair x y a b true part.on is at_a at_b f) (second_is pair x y a b true part.on is at_a at_b f)
    ∙ both_or_none part.on (value (seen f) a) (value (seen f) b)
    ∙ part_is part (tree.Equal' p a q b) part.on e refl f

pub exclusive_is : (part : Part) (a b x y : Expression) (p q : Held) (pair : Pair) → IsPair pair x true y (not part.on) → x ≡ a → y ≡ b
    → part.expression.now ≡ tree.Exclusive' p a q b → (f : Frame Bool) → same_of pair f ≡ shown part f
unfolding value
exclusive_is part a b x y p q pair is at_a at_b e f =
    ap₂ (λ u v. (u && v) || (not u && not v)) (first_is pair x y a b true (not part.on) is at_a at_b f) (second_is pair x y a b true (not part.on) is at_a at_b f)
    ∙ one_alone part.on (value (seen f) a) (value (seen f) b)
    ∙ part_is part (tree.Exclusive' p a q b) part.on e refl f

pub not_is : (part inverse : Part) (a : Expression) (p : Held) → part.expression.now ≡ tree.Not' p a → inverse.expression.now ≡ a → inverse.on ≡ not part.on
    → (f : Frame Bool) → shown inverse f ≡ shown part f
unfolding value
not_is part inverse a p e at o f =
    sym (part_is inverse a (not part.on) at o f) ∙ turned part.on (value (seen f) a) ∙ part_is part (tree.Not' p a) part.on e refl f
  where
    turned : (on v : Bool) → cond (not on) v (not v) ≡ cond on (not v) (not (not v))
    turned true v = refl
    turned false v = sym (not_twice v)

-- ---- depths

module _ (whole a b x y : Expression) (p q : Held) (pair : Pair) (on other : Bool) (is : IsPair pair x on y other) (at_a : x ≡ a) (at_b : y ≡ b) where
  pub and_deeper : whole ≡ tree.And' p a q b → depth whole ≡ depth_of pair + 1
  unfolding depth
  and_deeper e = ap depth e ∙ ap (λ n. n + 1) (sym (depths_are pair x y a b on other is at_a at_b))

  pub or_deeper : whole ≡ tree.Or' p a q b → depth whole ≡ depth_of pair + 1
  unfolding depth
  or_deeper e = ap depth e ∙ ap (λ n. n + 1) (sym (depths_are pair x y a b on other is at_a at_b))

  pub equal_deeper : whole ≡ tree.Equal' p a q b → depth whole ≡ depth_of pair + 1
  unfolding depth
  equal_deeper e = ap depth e ∙ ap (λ n. n + 1) (sym (depths_are pair x y a b on other is at_a at_b))

  pub exclusive_deeper : whole ≡ tree.Exclusive' p a q b → depth whole ≡ depth_of pair + 1
  unfolding depth
  exclusive_deeper e = ap depth e ∙ ap (λ n. n + 1) (sym (depths_are pair x y a b on other is at_a at_b))

pub not_deeper : (whole a x : Expression) (p : Held) → whole ≡ tree.Not' p a → x ≡ a → depth whole ≡ depth x + 1
unfolding depth
not_deeper whole a x p e at = ap depth e ∙ ap (λ t. depth t + 1) (sym at)

-- ---- what a call answers

pub again : (net : Network) (from : Ends) (o : Option Ends) (first second : Frame Bool → Bool)
    → ((f : Frame Bool) → first f ≡ second f) → IfSome o (λ to. Carries net from to first) → IfSome o (λ to. Carries net from to second)
again net from (Some to) first second same h = carries_as net from to first second (λ f are. same f) h
again net from None first second same h = h

pub nothing_drawn : (net : Network) (from : Ends) (through : Frame Bool → Bool) → ((f : Frame Bool) → through f ≡ true)
    → Carries net from from through
nothing_drawn net from through always =
    carries_as net from from (λ f. true) through (λ f are. sym (always f)) (carries_from net from)

pub first_never : (pair : Pair) → ((f : Frame Bool) → shown pair.first f ≡ false) → (f : Frame Bool) → shown pair.second f ≡ any_of pair f
first_never pair never f = sym (ap (λ a. a || shown pair.second f) (never f))

pub second_never : (pair : Pair) → ((f : Frame Bool) → shown pair.second f ≡ false) → (f : Frame Bool) → shown pair.first f ≡ any_of pair f
second_never pair never f = sym (ap (λ b. shown pair.first f || b) (never f) ∙ or-false (shown pair.first f))

pub both_drawn : (net : Network) (from other upper lower : Ends) (pair inverse : Pair) (o : Option Ends) → other ≡ from
    → ((f : Frame Bool) → both_of inverse f ≡ none_of pair f) → Carries net from upper (both_of pair) → Carries net other lower (both_of inverse)
    → IfSome o (λ to. Joins net upper lower to) → IfSome o (λ to. Carries net from to (same_of pair))
both_drawn net from other upper lower pair inverse None e same one two join = join
both_drawn net from other upper lower pair inverse (Some to) e same one two join =
    carries_beside net from upper lower to (both_of pair) (none_of pair) one
    (subst (λ start. Carries net start lower (none_of pair)) e (carries_as net other lower (both_of inverse) (none_of pair) (λ f are. same f) two)) join
