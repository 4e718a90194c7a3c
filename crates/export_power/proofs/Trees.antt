-- What is on the left of an expression, by its tree.
use Rattle.std.proofs.Common.{◌≡◌, ◌∙◌, ◌+◌, max, Bool, true, false, not, ◌&&◌, ◌||◌, Option, Some, None, IfSome, Box, Global, ap, ap₂, subst, sym}
use Rattle.std.specs.Bool.{then_some}
use Rattle.scan_cycle.specs.Cells.{Frame}
use Rattle.st_expression.specs.declared.expression.Expression.{Expression}
use Rattle.st_expression.specs.declared.expression.Expression.TheVariants as tree
use Rattle.st_expression.specs.declared.expression.Operand.{Operand}
use Rattle.st_expression.specs.Value.{value}
use Rattle.st_statements.specs.Run.{seen}
use Rattle.draw_power.specs.Parts.{depth}
use Rattle.export_power.specs.declared.ends.Ends.{Ends}
use Rattle.export_power.specs.declared.network.Network.{Network}
use Rattle.export_power.specs.Carried.{Carries}
use Rattle.export_power.proofs.Back.{carries_as, carries_on, wire_behind}

-- the memory that a part of a tree is in
abbrev pub Held : Type 0
Held = Box (Unit {0}) Global

-- ---- values

pub operand_is : (whole : Expression) (operand : Operand) → whole ≡ tree.Operand operand → (s : Frame Bool) → seen s operand ≡ value (seen s) whole
unfolding value
operand_is whole operand e s = sym (ap (value (seen s)) e)

pub not_is : (whole a x : Expression) (p : Held) → whole ≡ tree.Not' p a → x ≡ a → (s : Frame Bool) → not (value (seen s) x) ≡ value (seen s) whole
unfolding value
not_is whole a x p e at s = ap (λ t. not (value (seen s) t)) at ∙ sym (ap (value (seen s)) e)

module _ (whole a b x y : Expression) (p q : Held) (at_a : x ≡ a) (at_b : y ≡ b) where
  pub and_is : whole ≡ tree.And' p a q b → (s : Frame Bool) → (value (seen s) x && value (seen s) y) ≡ value (seen s) whole
  unfolding value
  and_is e s = ap₂ (λ t u. value (seen s) t && value (seen s) u) at_a at_b ∙ sym (ap (value (seen s)) e)

  pub or_is : whole ≡ tree.Or' p a q b → (s : Frame Bool) → (value (seen s) x || value (seen s) y) ≡ value (seen s) whole
  unfolding value
  or_is e s = ap₂ (λ t u. value (seen s) t || value (seen s) u) at_a at_b ∙ sym (ap (value (seen s)) e)

  pub and_deeper : whole ≡ tree.And' p a q b → depth whole ≡ max (depth x) (depth y) + 1
  unfolding depth
  and_deeper e = ap depth e ∙ sym (ap₂ (λ t u. max (depth t) (depth u) + 1) at_a at_b)

  pub or_deeper : whole ≡ tree.Or' p a q b → depth whole ≡ max (depth x) (depth y) + 1
  unfolding depth
  or_deeper e = ap depth e ∙ sym (ap₂ (λ t u. max (depth t) (depth u) + 1) at_a at_b)

-- ---- what a call answers

pub led_to : (net : Network) (near to : Ends) (o : Option Ends) (first second : Frame Bool → Bool) → ((s : Frame Bool) → first s ≡ second s)
    → Carries net near to (λ s. true) → IfSome o (λ from. Carries net from near first) → IfSome o (λ from. Carries net from to second)
led_to net near to (Some from) first second same wires h = carries_as net from to first second same (wire_behind net from near to first h wires)
led_to net near to None first second same wires h = h

pub again : (net : Network) (to : Ends) (o : Option Ends) (first second : Frame Bool → Bool) → ((s : Frame Bool) → first s ≡ second s)
    → IfSome o (λ from. Carries net from to first) → IfSome o (λ from. Carries net from to second)
again net to (Some from) first second same h = carries_as net from to first second same h
again net to None first second same h = h

pub in_series : (net : Network) (middle near to : Ends) (o : Option Ends) (first second both : Frame Bool → Bool) → ((s : Frame Bool) → (first s && second s) ≡ both s)
    → Carries net near to (λ s. true) → Carries net middle near second → IfSome o (λ from. Carries net from middle first) → IfSome o (λ from. Carries net from to both)
in_series net middle near to (Some from) first second both same wires behind h =
    carries_as net from to (λ s. first s && second s) both same
    (wire_behind net from near to (λ s. first s && second s) (carries_on net from middle near first second h behind) wires)
in_series net middle near to None first second both same wires behind h = h

pub constant_on : (net : Network) (near to : Ends) (whole : Expression) (on : Bool) (o : Option Ends) → whole ≡ tree.Constant on → o ≡ then_some on near
    → Carries net near to (λ s. true) → IfSome o (λ from. Carries net from to (λ s. value (seen s) whole))
unfolding value
constant_on net near to whole true o at is wires =
    let P : Option Ends → Type 0 = λ x. IfSome x (λ from. Carries net from to (λ s. value (seen s) whole)) in
    subst P (sym is) (carries_as net near to (λ s. true) (λ s. value (seen s) whole) (λ s. sym (ap (value (seen s)) at)) wires)
constant_on net near to whole false o at is wires =
    let P : Option Ends → Type 0 = λ x. IfSome x (λ from. Carries net from to (λ s. value (seen s) whole)) in
    subst P (sym is) tt
