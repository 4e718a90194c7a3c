-- A state of OLD that is carried over to NEW.
use Rattle.std.specs.Prelude.{◌≡◌, ◌≢◌, ℕ, false, List, Some, slice_get, slice_index_or}
use Rattle.diagram_declarations.specs.declared.kind.BlockKind.TheVariants.{Ton}
use Rattle.diagram_program.specs.Program.{Drawing}
use Rattle.scan_signals.specs.Blocks.{new_block}
use Rattle.scan_cycle.specs.Standing.{Fits, Standing, fresh}
use Rattle.diff_matching.specs.declared.matching.Pair.{Pair}
use Rattle.diff_matching.specs.Matching.{Agree, AgreeOnInputs, Matching}
use Rattle.diff_matching.specs.Suited.{IsSuited}

-- A number of NEW is in no pair.
abbrev pub IsAlone : List Pair → ℕ → Type 0
IsAlone pairs n = (k : ℕ) (x : Pair) → slice_get pairs k ≡ Some x → x.new ≢ n

-- What belongs together is as in the state of OLD, inputs too. What NEW alone has is as in its fresh state. The moment is that of OLD's state.
pub record IsCarried (m : Matching) (q : Drawing) (s t : Standing) : Type 0 where
  pub agree : Agree m s.held t.held
  pub inputs : AgreeOnInputs m s.held t.held
  pub values : (n : ℕ) → IsAlone m.inputs n → IsAlone m.variables n → slice_index_or t.held.values n false ≡ slice_index_or (fresh q).held.values n false
  pub instances : (n : ℕ) → IsAlone m.instances n
      → slice_index_or t.held.kept.blocks n (new_block Ton) ≡ slice_index_or (fresh q).held.kept.blocks n (new_block Ton)
  pub memories : (n : ℕ) → IsAlone m.memories n → slice_index_or t.held.kept.memories n false ≡ slice_index_or (fresh q).held.kept.memories n false
  pub moment : t.moment ≡ s.moment

-- The state is one of a program that the matching suits.
abbrev pub CanCarry : Matching → Drawing → Standing → Type 0
CanCarry m q s = (p : Drawing) × IsSuited m p q × Fits p s
