-- What the elements of a network do (IEC 61131-3:2013, LD), one after the other: each acts by the power that it has in the state
-- that those before it left. A jump that has power passes over some of those behind it.
use Rattle.std.specs.Prelude.{◌≡◌, ◌↔◌, ℕ, Bool, true, false, not, if◌then◌else◌, List, [], ◌∷◌, drop}
use Rattle.diagram_declarations.specs.declared.decls.Instance.{Instance}
use Rattle.scan_cycle.specs.Rung.{Held, frame_of}
use Rattle.st_statements.specs.Run.{Ran, ran, assigned, called, seen, triggered}
use Rattle.network_power.specs.declared.network.Links.{Links}
use Rattle.network_power.specs.declared.network.Network.{Network}
use Rattle.network_power.specs.Network.{IsFedBy, left_of}
use Rattle.network_check.specs.declared.effect.Effect.{Effect}
use Rattle.network_check.specs.declared.effect.Effect.TheVariants.{Coil, Trigger, Call, Return, Jump, Label}
use Rattle.network_check.specs.declared.effect.CoilKind.{CoilKind}
use Rattle.network_check.specs.declared.effect.CoilKind.TheVariants.{Plain, Negated, Set, Reset}

-- Whether there is power on the left of something, in a state.
abbrev pub Has : Network → Held → Links → Bool → Type 0
Has net h left on = (on ≡ true) ↔ IsFedBy net (seen (frame_of h)) (left_of net left)

abbrev pub inverse_if : (inverse on : Bool) → Bool
inverse_if inverse on = if inverse then not on else on

-- what a coil leaves
abbrev pub stored : CoilKind → (variable : ℕ) → (on : Bool) → Held → Held
stored Plain variable on h = assigned variable on h
stored Negated variable on h = assigned variable (not on) h
stored Set variable on h = if on then assigned variable true h else h
stored Reset variable on h = if on then assigned variable false h else h

-- From a state, at a moment, the elements lead to what is left at the end.
pub data Runs (net : Network) (instances : List Instance) (now : ℕ) : List Effect → Held → Ran → Type 0 where
  end : (h : Held) → Runs net instances now [] h (ran false h)
  coil : (variable : ℕ) (kind : CoilKind) (left : Links) (effects : List Effect) (h : Held) (on : Bool) (r : Ran) → Has net h left on
      → Runs net instances now effects (stored kind variable on h) r → Runs net instances now (Coil variable kind left ∷ effects) h r
  trigger : (output memory : ℕ) (falling : Bool) (left : Links) (effects : List Effect) (h : Held) (on : Bool) (r : Ran) → Has net h left on
      → Runs net instances now effects (triggered output memory (inverse_if falling on) h) r
      → Runs net instances now (Trigger output memory falling left ∷ effects) h r
  call : (instance : ℕ) (first second : Links) (effects : List Effect) (h : Held) (on also_on : Bool) (r : Ran) → Has net h first on
      → Has net h second also_on → Runs net instances now effects (called instances now instance on also_on h) r
      → Runs net instances now (Call instance first second ∷ effects) h r
  returned : (left : Links) (effects : List Effect) (h : Held) → Has net h left true → Runs net instances now (Return left ∷ effects) h (ran true h)
  passed : (left : Links) (effects : List Effect) (h : Held) (r : Ran) → Has net h left false → Runs net instances now effects h r
      → Runs net instances now (Return left ∷ effects) h r
  jumped : (over : ℕ) (left : Links) (effects : List Effect) (h : Held) (r : Ran) → Has net h left true
      → Runs net instances now (drop over effects) h r → Runs net instances now (Jump over left ∷ effects) h r
  not_jumped : (over : ℕ) (left : Links) (effects : List Effect) (h : Held) (r : Ran) → Has net h left false → Runs net instances now effects h r
      → Runs net instances now (Jump over left ∷ effects) h r
  label : (effects : List Effect) (h : Held) (r : Ran) → Runs net instances now effects h r → Runs net instances now (Label ∷ effects) h r
