-- Jumps by the links of gates, and guards by the list of jumps.
use Rattle.std.proofs.Common.{◌≡◌, ℕ, ◌+◌, ◌-◌, ◌<◌, ◌≤◌, ◌&&◌, Bool, true, false, cond, List, [], ◌∷◌, ◌++◌, get_or, drop, length, zero, suc, nat_lt, refl, sym, ap, ◌∙◌, arith, Option, Some, None}
use Rattle.std.proofs.lemmas.Bool.Decides.{nat_tests}
use Rattle.std.proofs.lemmas.List.{drop_more, drop_all}
use Rattle.std.proofs.lemmas.Option.{same_Some}
use Rattle.std.proofs.lemmas.Bool.{le-ltb}
use Rattle.diagram_program.specs.declared.gates.Exit.{Exit}
use Rattle.diagram_program.specs.declared.gates.Leap.{Leap}
use Rattle.diagram_program.specs.Program.{Drawing, jump_of}
use Rattle.diagram_program.specs.Gates.{left_of, exit_by, exit_of, leap_by, leaps_below}
use Rattle.scan_signals.specs.Algebra.{Algebra}
use Rattle.scan_symbolic.specs.KnownScan.{meet_where, passes_over, guard_of, taken_by}
use Rattle.scan_cycle.specs.Programs.{diagram_of}
use Rattle.scan_cycle.proofs.Sound.{placed}
use Rattle.scan_cycle.specs.Gating.{among}
use Rattle.scan_symbolic.specs.Gating.{guard_by, taken_by_exit}

-- ---- the jump of a rung
by_exit : {S : Type 0} (o : Algebra S) (p : Drawing) (j : ℕ) (guard : S) (links : ℕ → S) (jump : Option (ℕ × ℕ × ℕ)) (exit : Exit) → exit_by p j jump ≡ Some exit
    → o.meet guard (links exit.left) ≡ taken_by o (placed jump) guard (λ place. links (left_of p j place))
by_exit o p j guard links None exit h = cc
by_exit o p j guard links (Some (row, column, target)) exit h = ap (λ (e : Exit). o.meet guard (links e.left)) (sym (same_Some _ exit h))

by_none : {S : Type 0} (o : Algebra S) (p : Drawing) (j : ℕ) (guard : S) (links : ℕ → S) (jump : Option (ℕ × ℕ × ℕ)) → exit_by p j jump ≡ None
    → o.known false ≡ taken_by o (placed jump) guard (λ place. links (left_of p j place))
by_none o p j guard links None h = refl
by_none o p j guard links (Some (row, column, target)) h = cc

module _ (p : Drawing) (j : ℕ) where
  pub taken_exit : {S : Type 0} (o : Algebra S) (guard : S) (links : ℕ → S) (exit : Exit) → exit_of p j ≡ Some exit
      → o.meet guard (links exit.left) ≡ taken_by o ((diagram_of p).jump j) guard (λ place. links (left_of p j place))
  unfolding diagram_of
  taken_exit o guard links exit h = by_exit o p j guard links (jump_of p j) exit h

  pub taken_none : {S : Type 0} (o : Algebra S) (guard : S) (links : ℕ → S) → exit_of p j ≡ None
      → o.known false ≡ taken_by o ((diagram_of p).jump j) guard (λ place. links (left_of p j place))
  unfolding diagram_of
  taken_none o guard links h = by_none o p j guard links (jump_of p j) h

module _ (p : Drawing) (j : ℕ) where
  pub taken_of : {S : Type 0} (o : Algebra S) (guard : S) (links : List S) (exit : Option Exit) → exit ≡ exit_of p j
      → taken_by_exit o exit guard links ≡ taken_by o ((diagram_of p).jump j) guard (λ place. among o links (left_of p j place))
  taken_of o guard links None h = taken_none p j o guard (among o links) (sym h)
  taken_of o guard links (Some exit) h = taken_exit p j o guard (among o links) exit (sym h)

-- ---- guards
pub guard_more : {S : Type 0} (o : Algebra S) (taken : List S) (j : ℕ) (all next : S) (ls : List Leap) (i : ℕ) (l : Leap) → i < length ls
    → next ≡ cond (nat_lt (get_or ls i l).rung j && nat_lt j (get_or ls i l).target) (o.meet all (o.inverse (among o taken (get_or ls i l).rung))) all
    → guard_by o taken j (drop (i + 1) ls) next ≡ guard_by o taken j (drop i ls) all
unfolding guard_by
guard_more o taken j all next ls i l h e =
    ap (guard_by o taken j (drop (i + 1) ls)) e ∙ sym (ap (λ xs. guard_by o taken j xs all) (drop_more ls i l h))

pub guard_end : {S : Type 0} (o : Algebra S) (taken : List S) (j : ℕ) (all : S) (ls : List Leap) (i : ℕ) → length ls ≤ i → guard_by o taken j (drop i ls) all ≡ all
unfolding guard_by
guard_end o taken j all ls i h = ap (λ xs. guard_by o taken j xs all) (drop_all i ls h)

pub ruleset guard_step = (guard_more, guard_end)

module _ {S : Type 0} (o : Algebra S) (p : Drawing) (taken : List S) (j : ℕ) where
  guard_append : (xs ys : List Leap) (all : S) → guard_by o taken j (xs ++ ys) all ≡ guard_by o taken j ys (guard_by o taken j xs all)
  unfolding guard_by
  guard_append [] ys all = refl
  guard_append (x ∷ xs) ys all = guard_append xs ys _

  abbrev not_taken : ℕ → S
  not_taken i = o.inverse (get_or taken i (o.known false))

  abbrev passes : ℕ → Bool
  passes i = passes_over ((diagram_of p).jump i) j

  is_less : (a b : ℕ) → a < b → nat_lt a b ≡ true
  is_less a b h = grind (arith, nat_tests)

  -- one rung's jump
  one_leap : (n : ℕ) (b : Bool) (jump : Option (ℕ × ℕ × ℕ)) (all : S) → nat_lt n j ≡ b
      → guard_by o taken j (leap_by n jump) all ≡ cond (b && passes_over (placed jump) j) (o.meet all (not_taken n)) all
  unfolding guard_by
  one_leap n true None all h = refl
  one_leap n false None all h = refl
  one_leap n b (Some (row, column, target)) all h = ap (λ (t : Bool). cond (t && nat_lt j target) (o.meet all (not_taken n)) all) h

  jump_is : (n : ℕ) → (diagram_of p).jump n ≡ placed (jump_of p n)
  unfolding diagram_of
  jump_is n = refl

  before : (n : ℕ) → n ≤ j → guard_by o taken j (leaps_below p n) (o.known true) ≡ meet_where o passes not_taken n
  unfolding guard_by leaps_below meet_where
  before zero h = refl
  before (suc n) h =
      guard_append (leaps_below p n) (leap_by n (jump_of p n)) (o.known true)
      ∙ one_leap n true (jump_of p n) _ (is_less n j h)
      ∙ ap (λ (t : Option (ℕ × ℕ)). cond (passes_over t j) (o.meet (guard_by o taken j (leaps_below p n) (o.known true)) (not_taken n)) (guard_by o taken j (leaps_below p n) (o.known true))) (sym (jump_is n))
      ∙ ap (λ (x : S). cond (passes n) (o.meet x (not_taken n)) x) (before n (omega arith))

  behind : (m : ℕ) → guard_by o taken j (leaps_below p (j + m)) (o.known true) ≡ meet_where o passes not_taken j
  unfolding guard_by leaps_below
  behind zero =
      let none : j + 0 ≡ j = omega arith in
      ap (λ n. guard_by o taken j (leaps_below p n) (o.known true)) none ∙ before j (omega arith)
  behind (suc m) =
      let next : j + suc m ≡ suc (j + m) = omega arith in
      ap (λ n. guard_by o taken j (leaps_below p n) (o.known true)) next
      ∙ guard_append (leaps_below p (j + m)) (leap_by (j + m) (jump_of p (j + m))) (o.known true)
      ∙ one_leap (j + m) false (jump_of p (j + m)) _ (le-ltb (j + m) j (omega arith))
      ∙ behind m

  pub guard_is : j < p.rungs → guard_by o taken j (leaps_below p p.rungs) (o.known true) ≡ guard_of o (diagram_of p) taken j
  guard_is h =
      let all : j + (p.rungs - j) ≡ p.rungs = omega arith in
      ap (λ n. guard_by o taken j (leaps_below p n) (o.known true)) (sym all) ∙ behind (p.rungs - j)
