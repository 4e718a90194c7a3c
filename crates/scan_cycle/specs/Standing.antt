-- The state that is kept from scan to scan.
use Rattle.std.specs.Prelude.{◌≡◌, ℕ, ◌<◌, ◌≤◌, ◌^◌, Bool, false, List, length, map, replicate, FitsSigned, pos, Some, slice_get}
use Rattle.std.specs.Int.{w16}
use Rattle.diagram_declarations.specs.declared.kind.BlockKind.{BlockKind}
use Rattle.diagram_program.specs.Program.{Drawing, memories_of}
use Rattle.scan_signals.specs.declared.block.Stored.{Stored}
use Rattle.scan_signals.specs.declared.block.Stored.TheVariants.{Timer, Counter, Bistable}
use Rattle.scan_signals.specs.Blocks.{new_block}
use Rattle.scan_cycle.specs.Rung.{Held, held}

-- What a scan changes, the kind of each instance, and the moment of the last scan.
pub record Standing : Type 0 where
  pub held : Held
  pub kinds : List BlockKind
  pub moment : ℕ

-- Before the first scan the variables have their initial values; all else is OFF or 0.
abbrev pub fresh : Drawing → Standing
fresh p = record {
  held = held (map (λ v. v.initial) p.decls.vars) (replicate (memories_of p) false) (map (λ i. new_block i.kind) p.decls.instances);
  kinds = map (λ i. i.kind) p.decls.instances;
  moment = 0;
}

-- It has as many variables and memories as the program, and instances of the same kinds in the same order.
pub record Fits (p : Drawing) (s : Standing) : Type 0 where
  pub values : length s.held.values ≡ length p.decls.vars
  pub memories : length s.held.kept.memories ≡ memories_of p
  pub kinds : s.kinds ≡ map (λ i. i.kind) p.decls.instances

-- What an instance of a kind can store at a moment. It is in the form of a new block of the kind; a timer that runs did not begin to after
-- the moment, and one that does not run has start 0; CV is a whole number of 16 bits.
abbrev pub CanStore : BlockKind → ℕ → Stored → Type 0
CanStore kind moment (Timer last running start q) = (new_block kind ≡ Timer false false 0 false) × (start ≤ moment) × (running ≡ false → start ≡ 0)
CanStore kind moment (Counter last cv q) = (new_block kind ≡ Counter false (pos 0) false) × FitsSigned w16 cv
CanStore kind moment (Bistable q) = new_block kind ≡ Bistable false

-- There are as many stored blocks as instances, and each instance stores what it can at the moment.
pub record AreSound (kinds : List BlockKind) (blocks : List Stored) (moment : ℕ) : Type 0 where
  pub as_many : length blocks ≡ length kinds
  pub each : (i : ℕ) (kind : BlockKind) (s : Stored) → slice_get kinds i ≡ Some kind → slice_get blocks i ≡ Some s → CanStore kind moment s

-- What holds of every state.
pub record IsStanding (s : Standing) : Type 0 where
  pub sound : AreSound s.kinds s.held.kept.blocks s.moment
  pub small : s.moment < 2 ^ 64

-- ---- a state with one part replaced

abbrev pub with_values : Standing → List Bool → Standing
with_values s values = record s { held = record s.held { values = values } }

abbrev pub with_memories : Standing → List Bool → Standing
with_memories s memories = record s { held = record s.held { kept = record s.held.kept { memories = memories } } }

abbrev pub with_blocks : Standing → List Stored → Standing
with_blocks s blocks = record s { held = record s.held { kept = record s.held.kept { blocks = blocks } } }

abbrev pub with_moment : Standing → ℕ → Standing
with_moment s moment = record s { moment = moment }
