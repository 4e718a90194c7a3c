-- What a cell changes, one part of the state after the other: its variable, its memory and its instance.
use Rattle.std.proofs.Common.{◌≡◌, ℕ, Bool, false, List, get_or, Option, Some, None, refl, sym, ap, get_or-set_other}
use Rattle.diagram_program.specs.declared.cell.Cell.{Cell}
use Rattle.diagram_program.specs.declared.cell.Cell.TheVariants.{Empty, Contact, Block}
use Rattle.diagram_program.specs.Program.{memory_in, block_in}
use Rattle.scan_signals.specs.declared.block.Stored.{Stored}
use Rattle.scan_signals.specs.Blocks.{step}
use Rattle.scan_signals.specs.Truth.{plain}
use Rattle.scan_cycle.specs.Cells.{Diagram, Frame, at, put_in, var_in, memory_of, operand_value, coil_value}
use Rattle.scan_cycle.specs.Rung.{Held, held, changed}
use Rattle.scan_cycle.proofs.Kept.{stored_of}

-- what the memory of a cell becomes
abbrev pub remembered : Frame Bool → Bool → Cell → Bool
remembered start x (Contact mode operand memory) = operand_value plain start operand
remembered start x other = x

-- what the instance of a cell stores then
abbrev pub stepped : Diagram → ℕ → Cell → Stored → Bool → Bool → Stored
stepped d now (Block inst) s x y = step (d.kind inst) (d.preset inst) s x y now
stepped d now other s x y = s

abbrev pub changed_by : Diagram → ℕ → Frame Bool → Cell → Bool → Bool → Held → Held
changed_by d now start c x y h =
    held (put_in h.values (var_in c) (coil_value plain c x (memory_of h.kept c) (at h.values (var_in c) false)))
    (put_in h.kept.memories (memory_in c) (remembered start x c))
    (put_in h.kept.blocks (block_in c) (stepped d now c (stored_of h.kept c) x y))

pub changed_is : (d : Diagram) (now : ℕ) (start : Frame Bool) (c : Cell) (x y : Bool) (h : Held) → changed d now start c x y h ≡ changed_by d now start c x y h
changed_is d now start Empty x y h = refl
changed_is d now start _ x y h = refl

-- ---- what may be nowhere
pub at_same : {A : Type 0} (xs ys : List A) (m : Option ℕ) (d : A) → ((i : ℕ) → m ≡ Some i → get_or xs i d ≡ get_or ys i d) → at xs m d ≡ at ys m d
at_same xs ys None d h = refl
at_same xs ys (Some i) d h = h i refl

pub put_other : {A : Type 0} (xs : List A) (m : Option ℕ) (v d : A) (i : ℕ) → (m ≡ Some i → ⊥) → get_or (put_in xs m v) i d ≡ get_or xs i d
put_other xs None v d i h = refl
put_other xs (Some n) v d i h = get_or-set_other xs n i v d (λ e. h (ap Some (sym e)))
