use Rattle.std.specs.Bool.{beq}
use Rattle.std.proofs.Common.{◌≡◌, Bool, true, false, refl, sym, ◌∙◌}
use Rattle.diff_matching.proofs.names.one_of_sort.Goals as goal

same_value : (a b : Bool) → beq a b ≡ true → a ≡ b
same_value true true h = refl
same_value true false h = cc
same_value false true h = cc
same_value false false h = refl

other_value : (a b : Bool) → beq a b ≡ false → a ≡ b → ⊥
other_value true true h e = cc
other_value true false h e = cc
other_value false true h e = cc
other_value false false h e = cc

pub returns-then-is_input_at-inputs : goal.returns-then-is_input_at-inputs
returns-then-is_input_at-inputs c = λ n. (
  λ e. ((c.variable_in.ensures n).0 e, sym c.is_input_at.ensures ∙ same_value _ _ c.if-is_input_at-inputs.true),
  λ h. (c.variable_in.ensures n).1 h.0,
)

pub returns-else-is_input_at-inputs : goal.returns-else-is_input_at-inputs
returns-else-is_input_at-inputs c = λ n. (
  λ e. cc e,
  λ h. absurd (other_value c.is_input_at.result c.args.inputs c.if-is_input_at-inputs.false (c.is_input_at.ensures ∙ h.1)),
)
