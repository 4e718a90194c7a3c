use Rattle.std.proofs.Common.{◌≡◌, ◌∙◌, ℕ, Bool, true, false, refl, sym, ap, ap₂, is_some}
use Rattle.diagram_declarations.specs.declared.kind.BlockKind.{BlockKind}
use Rattle.diagram_declarations.specs.declared.kind.BlockKind.TheVariants.{Ton, Tof, Tp, Ctu, Ctd, Sr, Rs}
use Rattle.diagram_declarations.specs.Kind.{traits_of}
use Rattle.scan_signals.specs.declared.block.Stored.{Stored}
use Rattle.scan_signals.specs.declared.block.Stored.TheVariants.{Timer}
use Rattle.scan_signals.specs.Blocks.{step, q_of}
use Rattle.scan_cycle.proofs.gates.q_from.Goals as goal

-- a block without a second input
one_input : (kind : BlockKind) → is_some (traits_of kind).second_input ≡ false → (preset : ℕ) (s : Stored) (first a b : Bool) (now : ℕ)
    → step kind preset s first a now ≡ step kind preset s first b now
unfolding step
one_input Ton h preset (Timer last running start q) first a b now = refl
one_input Tof h preset (Timer last running start q) first a b now = refl
one_input Tp h preset (Timer last running start q) first a b now = refl
one_input Ctu h preset s first a b now = cc
one_input Ctd h preset s first a b now = cc
one_input Sr h preset s first a b now = cc
one_input Rs h preset s first a b now = cc
one_input _ h preset _ first a b now = refl

pub returns-else-has_second : goal.returns-else-has_second
returns-else-has_second g c =
    let a = c.args in
    let o = g.S.Operations.algebra in
    let none : is_some (traits_of a.kind).second_input ≡ false = sym c.has_second.ensures ∙ c.if-has_second.false in
    let same : (x y : Bool) → x ≡ y → o.known y ≡ o.choice a.second (o.known x) (o.known y) =
    λ x y e. sym (ap (λ z. o.choice a.second (o.known z) (o.known y)) e ∙ g.S.Operations.choice_known a.second y c.is_value-is_value.ensures.is) in
    let on = c.known-else-has_second.ensures ∙ ap o.known c.q_after-on.ensures
    ∙ same (q_of (step a.kind a.preset a.stored true true a.now)) _ (ap q_of (one_input a.kind none a.preset a.stored true true false a.now)) in
    let off = c.known-else-has_second-2.ensures ∙ ap o.known c.q_after-off.ensures
    ∙ same (q_of (step a.kind a.preset a.stored false true a.now)) _ (ap q_of (one_input a.kind none a.preset a.stored false true false a.now)) in
    c.choose-else-has_second.ensures ∙ ap₂ (o.choice a.first) on off
