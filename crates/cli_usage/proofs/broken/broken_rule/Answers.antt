use Rattle.std.proofs.Common.{◌≡◌, ◌∙◌, ◌∷◌, [], Bool, List, None, Some, cond, find, refl, sym, true, false}
use Rattle.clap.specs.Words.{found_of, rows_of}
use Rattle.cli_usage.specs.Rules.{is_broken}
use Rattle.cli_usage.proofs.broken.broken_rule.Goals as goal

found_so : {A : Type 0} (p : A → Bool) (xs : List A) (x : A) → find p xs ≡ Some x → p x ≡ true
found_so p [] x is = cc
found_so p (y ∷ ys) x is = go (p y) refl is (found_so p ys x) where
  go : (b : Bool) → p y ≡ b → cond b (Some y) (find p ys) ≡ Some x → (find p ys ≡ Some x → p x ≡ true) → p x ≡ true
  go true passes is later = let same : y ≡ x = cc in rw (← same) passes
  go false passes is later = later is

pub returns-in-Some-clause-breaks : goal.returns-in-Some-clause-breaks
returns-in-Some-clause-breaks c =
    (found_so (is_broken (rows_of (found_of c.args.found.now))) c.args.rules.now c.in-Some.rule.now (sym c.in-Some.ensures), c.excluded_by.ensures)
