-- What never changes: sets of variables and of Qs of which some stay OFF and some stay ON, together, whatever the inputs do.
use Rattle.std.specs.Prelude.{◌≡◌, ℕ, Bool, true, false, List, [], length, map, replicate, slice_index_or}
use Rattle.diagram_declarations.specs.declared.kind.BlockKind.TheVariants.{Ton}
use Rattle.diagram_declarations.specs.Decls.{is_input}
use Rattle.diagram_program.specs.Program.{Drawing, memories_of}
use Rattle.scan_signals.specs.Blocks.{q_of, new_block}
use Rattle.scan_cycle.specs.Programs.{diagram_of}
use Rattle.scan_cycle.specs.Rung.{Held}
use Rattle.scan_symbolic.specs.KnownScan.{Known, after_known, kept_at}
use Rattle.scan_signals.specs.Three.{three, three_known}
use Rattle.scan_signals.specs.declared.tri.Tri.{Tri}
use Rattle.scan_signals.specs.declared.tri.Tri.TheVariants.{Unsure}
use Rattle.invariant_cases.specs.Outcomes.{outcomes, q_known}
use Rattle.invariant_cases.specs.declared.answer.Answer.TheVariants.{Open}
use Rattle.invariant_cases.specs.declared.outcome.Outcome.{Outcome}
use Rattle.invariant_cases.specs.declared.outcome.Outcome.TheVariants.{OfKind}

-- A set of what is claimed: of each variable, and of the Q of each instance, that it is OFF, that it is ON, or nothing.
pub record Bits : Type 0 where
  pub variables : List Tri
  pub instances : List Tri

-- What is claimed of one of them, by its number.
abbrev pub claims : List Tri → ℕ → Tri
claims bits i = slice_index_or bits i Unsure

-- It claims something of the program's variables and instances, and nothing of an input.
pub record IsSetOf (p : Drawing) (z : Bits) : Type 0 where
  pub variables : length z.variables ≡ length p.decls.vars
  pub instances : length z.instances ≡ length p.decls.instances
  pub no_input : (var : ℕ) → slice_index_or (map is_input p.decls.vars) var false ≡ true → claims z.variables var ≡ Unsure

-- In this state all that is claimed is so.
pub record IsSo (z : Bits) (h : Held) : Type 0 where
  pub variables : (var : ℕ) (value : Bool) → claims z.variables var ≡ three_known value → slice_index_or h.values var false ≡ value
  pub instances : (inst : ℕ) (value : Bool) → claims z.instances inst ≡ three_known value → q_of (slice_index_or h.kept.blocks inst (new_block Ton)) ≡ value

-- All that is known of a state in which it is so: the other variables, the other Qs, all memories and all answers are open, and an instance
-- stores anything that belongs to its kind.
abbrev pub knowing : Drawing → Bits → Known Tri Outcome
knowing p z = record {
  values = z.variables;
  memories = replicate (memories_of p) Unsure;
  blocks = map (λ t. OfKind t Open) z.instances;
}

-- What is known after one scan from there. It gives no input a value, so that all inputs are open; its moment makes no difference.
abbrev pub after_knowing : Drawing → Bits → Known Tri Outcome
after_knowing p z = after_known three outcomes (diagram_of p) 0 [] (knowing p z)

-- One scan from there leaves it so.
pub record Stays (p : Drawing) (z : Bits) : Type 0 where
  pub variables : (var : ℕ) (value : Bool) → claims z.variables var ≡ three_known value → slice_index_or (after_knowing p z).values var Unsure ≡ three_known value
  pub instances : (inst : ℕ) (value : Bool) → claims z.instances inst ≡ three_known value → q_known (kept_at outcomes (after_knowing p z) inst) ≡ three_known value

-- What the one claims the other claims too.
pub record IsWithin (z w : Bits) : Type 0 where
  pub variables : (var : ℕ) (value : Bool) → claims z.variables var ≡ three_known value → claims w.variables var ≡ three_known value
  pub instances : (inst : ℕ) (value : Bool) → claims z.instances inst ≡ three_known value → claims w.instances inst ≡ three_known value
