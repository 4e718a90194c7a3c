-- Statements that keep one value of each INT, by their first one.
use Rattle.std.proofs.Common.{◌≡◌, ◌∙◌, ℕ, Bool, true, false, not, ◌&&◌, if◌then◌else◌, List, Option, None, get_or, set, sym, subst}
use Rattle.st_expression.specs.declared.expression.Expression.{Expression}
use Rattle.st_statements.specs.declared.statement.StatementList.{StatementList}
use Rattle.st_statements.specs.declared.statement.StatementList.TheVariants.{End, Assign', Trigger', Call', Select', Return'}
use Rattle.st_statements.specs.Run.{Ran, assigned, called, run, triggered, value_in}
use Rattle.st_integers.specs.declared.value.IntegerValue.{IntegerValue}
use Rattle.st_integers.specs.Values.{HaveOne, KeepOne}
use Rattle.st_integers.specs.Settings.{BySettings, Sets, at_end, at_setting, at_assign, at_trigger, at_call, at_select, at_return}
use Rattle.st_integers.proofs.Places.{at_other, is_other}
use Rattle.st_integers.proofs.Settings.{after, runs, sets_one}

-- a variable is written that stands for no value
elsewhere : (values : List (Option IntegerValue)) (variable : ℕ) (x : Bool) (on : List Bool) → get_or values variable None ≡ None → HaveOne values on → HaveOne values (set on variable x)
elsewhere values variable x on none one = λ integer k t.
    let was = one integer k t in
    record {
      variable = was.variable;
      is_one = was.is_one;
      each = λ j s. at_other on variable j x (is_other values integer variable j none s) ∙ was.each j s;
    }

module _ (values : List (Option IntegerValue)) where
  pub keep_end : KeepOne values End
  unfolding run
  keep_end = λ instances now h one. one

  pub keep_return : (p : _) (next : StatementList) → KeepOne values (Return' p next)
  unfolding run
  keep_return p next = λ instances now h one. one

  pub keep_assign : (variable : ℕ) (e : Expression) (p : _) (next : StatementList) → get_or values variable None ≡ None → KeepOne values next → KeepOne values (Assign' variable e p next)
  unfolding run
  keep_assign variable e p next none keeps = λ instances now h one.
      keeps instances now (assigned variable (value_in h e) h) (elsewhere values variable (value_in h e) h.values none one)

  pub keep_trigger : (output memory : ℕ) (e : Expression) (p : _) (next : StatementList) → get_or values output None ≡ None → KeepOne values next
      → KeepOne values (Trigger' output memory e p next)
  unfolding run
  keep_trigger output memory e p next none keeps = λ instances now h one.
      keeps instances now (triggered output memory (value_in h e) h)
      (elsewhere values output (value_in h e && not (get_or h.kept.memories memory false)) h.values none one)

  pub keep_call : (i : ℕ) (x y : Expression) (p : _) (next : StatementList) → KeepOne values next → KeepOne values (Call' i x y p next)
  unfolding run
  keep_call i x y p next keeps = λ instances now h one. keeps instances now (called instances now i (value_in h x) (value_in h y) h) one

  arm_keeps : (b : Bool) (first second : Ran) → HaveOne values first.held.values → HaveOne values second.held.values → HaveOne values (if b then first else second).held.values
  arm_keeps true first second one two = one
  arm_keeps false first second one two = two

  pub keep_select : (e : Expression) (p q r : _) (accepted otherwise next : StatementList) → KeepOne values accepted → KeepOne values otherwise → KeepOne values next
      → KeepOne values (Select' e p accepted q otherwise r next)
  unfolding run
  keep_select e p q r accepted otherwise next one two three = λ instances now h was.
      let first = run instances now accepted h in
      let second = run instances now otherwise h in
      let arm = if value_in h e then first else second in
      let kept = arm_keeps (value_in h e) first second (one instances now h was) (two instances now h was) in
      arm_keeps arm.has_returned arm (run instances now next arm.held) kept (three instances now arm.held kept)

  pub keep_sets : (integer : ℕ) (others whole : StatementList) → Sets values integer others whole → KeepOne values others → KeepOne values whole
  keep_sets integer others whole sets keeps = λ instances now h one.
      subst (λ (r : Ran). HaveOne values r.held.values) (sym (runs instances now values integer sets.chosen 0 others whole h sets.setting))
      (keeps instances now (after values integer sets.chosen 0 h) (sets_one values integer sets.chosen h sets.is_value one))

  pub keep_by_settings : (list : StatementList) → BySettings values list → KeepOne values list
  keep_by_settings _ at_end = keep_end
  keep_by_settings _ (at_setting integer others whole sets more) = keep_sets integer others whole sets (keep_by_settings others more)
  keep_by_settings _ (at_assign variable e p next none more) = keep_assign variable e p next none (keep_by_settings next more)
  keep_by_settings _ (at_trigger output memory e p next none more) = keep_trigger output memory e p next none (keep_by_settings next more)
  keep_by_settings _ (at_call i x y p next more) = keep_call i x y p next (keep_by_settings next more)
  keep_by_settings _ (at_select e p q r accepted otherwise next one two three) =
      keep_select e p q r accepted otherwise next (keep_by_settings accepted one) (keep_by_settings otherwise two) (keep_by_settings next three)
  keep_by_settings _ (at_return p next) = keep_return p next
