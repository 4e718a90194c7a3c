-- States of which all is the same that is marked.
use Rattle.std.proofs.Common.{◌≡◌, ◌∙◌, ℕ, Bool, false, Option, Some, None, ap, refl, slice_index_or, subst, sym, inl, inr}
use Rattle.std.proofs.Math.ListN.{get_or-map}
use Rattle.diagram_declarations.specs.declared.kind.BlockKind.TheVariants.{Ton}
use Rattle.diagram_program.specs.declared.cell.Cell.{Cell}
use Rattle.diagram_program.specs.declared.cell.Operand.{Operand}
use Rattle.diagram_program.specs.declared.cell.Operand.TheVariants.{Var, Output}
use Rattle.diagram_program.specs.Program.{block_in, memory_in}
use Rattle.scan_signals.specs.declared.block.Stored.{Stored}
use Rattle.scan_signals.specs.Blocks.{new_block, q_of}
use Rattle.scan_signals.specs.Truth.{plain}
use Rattle.scan_cycle.specs.Cells.{Diagram, Frame, at, operand_value, put_in, var_in}
use Rattle.scan_cycle.specs.Rung.{Held, changed, frame_of, held}
use Rattle.scan_cycle.proofs.Changes.{changed_is}
use Rattle.diff_matching.specs.Matching.{Matching}
use Rattle.diff_rungs.specs.declared.marks.Marks.{Marks}
use Rattle.diff_rungs.specs.declared.marks.Side.{Side}
use Rattle.diff_rungs.specs.declared.marks.Side.TheVariants.{Old, New}
use Rattle.diff_rungs.specs.Marks.{AreCellsRestored, AreNarrowed, HaveSameMarks, IsCellSpoiled, IsMarked, IsNarrowed}
use Rattle.diff_rungs.specs.Reading.{IsMarkedMemory, IsMarkedVariable, ReadSame}
use Rattle.diff_rungs.specs.Same.{AreSame, From, IsSame}
use Rattle.diff_rungs.proofs.Lists.{fewer, marked, restored, subset, written}

-- ---- what is read

module _ (m : Matching) (c : Marks) (h g : Held) (same : AreSame m c h g) where
  pub variable_same : (a b : ℕ) → IsMarkedVariable m c a b → slice_index_or h.values a false ≡ slice_index_or g.values b false
  variable_same a b (inl is) = marked false m.inputs c.inputs.items h.values g.values (record { old = a; new = b }) same.inputs is
  variable_same a b (inr is) = marked false m.variables c.variables.items h.values g.values (record { old = a; new = b }) same.variables is

  pub instance_same : (a b : ℕ) → IsMarked m.instances c.instances.items (record { old = a; new = b })
      → slice_index_or h.kept.blocks a (new_block Ton) ≡ slice_index_or g.kept.blocks b (new_block Ton)
  instance_same a b is = marked (new_block Ton) m.instances c.instances.items h.kept.blocks g.kept.blocks (record { old = a; new = b }) same.instances is

  pub memory_same : (x y : Option ℕ) → IsMarkedMemory m c x y → at h.kept.memories x false ≡ at g.kept.memories y false
  memory_same None None is = refl
  memory_same (Some a) (Some b) is = marked false m.memories c.memories.items h.kept.memories g.kept.memories (record { old = a; new = b }) same.memories is
  memory_same None (Some b) is = absurd is
  memory_same (Some a) None is = absurd is

  pub operand_same : (x y : Operand) → ReadSame m c x y → operand_value plain (frame_of h) x ≡ operand_value plain (frame_of g) y
  operand_same (Var a) (Var b) is = variable_same a b is
  operand_same (Output a) (Output b) is =
      get_or-map q_of h.kept.blocks a (new_block Ton) ∙ ap q_of (instance_same a b is) ∙ sym (get_or-map q_of g.kept.blocks b (new_block Ton))
  operand_same (Var a) (Output b) is = absurd is
  operand_same (Output a) (Var b) is = absurd is

-- ---- what is written

-- a state with what a cell writes
abbrev pub put : Cell → Bool → Bool → Stored → Held → Held
put c value memory stored h = held (put_in h.values (var_in c) value) (put_in h.kept.memories (memory_in c) memory) (put_in h.kept.blocks (block_in c) stored)

module _ (m : Matching) (cell : Cell) (c d : Marks) where
  pub fewer_same : (side : Side) (h g : Held) → IsCellSpoiled side cell m c d → From side (AreSame m c) h g → From side (AreSame m d) h g
  fewer_same Old h g s same = record {
    inputs = fewer false m.inputs (var_in cell) c.inputs.items d.inputs.items Old h.values g.values s.inputs same.inputs;
    variables = fewer false m.variables (var_in cell) c.variables.items d.variables.items Old h.values g.values s.variables same.variables;
    instances = fewer (new_block Ton) m.instances (block_in cell) c.instances.items d.instances.items Old h.kept.blocks g.kept.blocks s.instances same.instances;
    memories = fewer false m.memories (memory_in cell) c.memories.items d.memories.items Old h.kept.memories g.kept.memories s.memories same.memories;
  }
  fewer_same New h g s same = record {
    inputs = fewer false m.inputs (var_in cell) c.inputs.items d.inputs.items New h.values g.values s.inputs same.inputs;
    variables = fewer false m.variables (var_in cell) c.variables.items d.variables.items New h.values g.values s.variables same.variables;
    instances = fewer (new_block Ton) m.instances (block_in cell) c.instances.items d.instances.items New h.kept.blocks g.kept.blocks s.instances same.instances;
    memories = fewer false m.memories (memory_in cell) c.memories.items d.memories.items New h.kept.memories g.kept.memories s.memories same.memories;
  }

  put_same : (side : Side) (h g : Held) (value memory : Bool) (stored : Stored) → IsCellSpoiled side cell m c d → From side (AreSame m c) h g
      → From side (AreSame m d) (put cell value memory stored h) g
  put_same Old h g value memory stored s same = record {
    inputs = written false m.inputs (var_in cell) c.inputs.items d.inputs.items Old h.values g.values value s.inputs same.inputs;
    variables = written false m.variables (var_in cell) c.variables.items d.variables.items Old h.values g.values value s.variables same.variables;
    instances = written (new_block Ton) m.instances (block_in cell) c.instances.items d.instances.items Old h.kept.blocks g.kept.blocks stored s.instances same.instances;
    memories = written false m.memories (memory_in cell) c.memories.items d.memories.items Old h.kept.memories g.kept.memories memory s.memories same.memories;
  }
  put_same New h g value memory stored s same = record {
    inputs = written false m.inputs (var_in cell) c.inputs.items d.inputs.items New h.values g.values value s.inputs same.inputs;
    variables = written false m.variables (var_in cell) c.variables.items d.variables.items New h.values g.values value s.variables same.variables;
    instances = written (new_block Ton) m.instances (block_in cell) c.instances.items d.instances.items New h.kept.blocks g.kept.blocks stored s.instances same.instances;
    memories = written false m.memories (memory_in cell) c.memories.items d.memories.items New h.kept.memories g.kept.memories memory s.memories same.memories;
  }

  pub changed_same : (side : Side) (h g : Held) (x : Diagram) (now : ℕ) (start : Frame Bool) (left below : Bool) → IsCellSpoiled side cell m c d
      → From side (AreSame m c) h g → From side (AreSame m d) (changed x now start cell left below h) g
  changed_same side h g x now start left below s same =
      subst (λ (k : Held). From side (AreSame m d) k g) (sym (changed_is x now start cell left below h)) (put_same side h g _ _ _ s same)

-- what two cells write that write the same
pub restored_same : (m : Matching) (a b : Cell) (c d : Marks) (h g : Held) (u v r s : Bool) (x y : Stored) → AreCellsRestored a b m c d → u ≡ v → r ≡ s → x ≡ y
    → AreSame m c (put a u r x h) (put b v s y g) → AreSame m d (put a u r x h) (put b v s y g)
restored_same m a b c d h g u v r s x y again values memories blocks same = record {
  inputs = restored false m.inputs (var_in a) (var_in b) c.inputs.items d.inputs.items h.values g.values u v again.inputs values same.inputs;
  variables = restored false m.variables (var_in a) (var_in b) c.variables.items d.variables.items h.values g.values u v again.variables values same.variables;
  instances = restored (new_block Ton) m.instances (block_in a) (block_in b) c.instances.items d.instances.items h.kept.blocks g.kept.blocks x y again.instances blocks same.instances;
  memories = restored false m.memories (memory_in a) (memory_in b) c.memories.items d.memories.items h.kept.memories g.kept.memories r s again.memories memories same.memories;
}

-- the marks again
pub copied_same : (m : Matching) (c d : Marks) (h g : Held) → HaveSameMarks c d → AreSame m c h g → AreSame m d h g
copied_same m c d h g e same = record {
  inputs = subst (λ xs. IsSame false m.inputs xs h.values g.values) (sym e.inputs) same.inputs;
  variables = subst (λ xs. IsSame false m.variables xs h.values g.values) (sym e.variables) same.variables;
  instances = subst (λ xs. IsSame (new_block Ton) m.instances xs h.kept.blocks g.kept.blocks) (sym e.instances) same.instances;
  memories = subst (λ xs. IsSame false m.memories xs h.kept.memories g.kept.memories) (sym e.memories) same.memories;
}

-- fewer marks
pub narrowed_same : (surely : Bool) (m : Matching) (c d e : Marks) (h g : Held) → IsNarrowed surely c d e → AreSame m d h g → AreSame m e h g
narrowed_same surely m c d e h g narrow same = record {
  inputs = subset false m.inputs d.inputs.items e.inputs.items h.values g.values (λ n mark. (narrow.inputs n mark).1) same.inputs;
  variables = subset false m.variables d.variables.items e.variables.items h.values g.values (λ n mark. (narrow.variables n mark).1) same.variables;
  instances = subset (new_block Ton) m.instances d.instances.items e.instances.items h.kept.blocks g.kept.blocks (λ n mark. (narrow.instances n mark).1) same.instances;
  memories = subset false m.memories d.memories.items e.memories.items h.kept.memories g.kept.memories (λ n mark. (narrow.memories n mark).1) same.memories;
}

pub first_same : (surely : Bool) → surely ≡ false → (m : Matching) (c d e : Marks) (h g : Held) → IsNarrowed surely c d e → AreSame m c h g → AreSame m e h g
first_same surely not m c d e h g narrow same = record {
  inputs = subset false m.inputs c.inputs.items e.inputs.items h.values g.values (λ n mark. (narrow.inputs n mark).0 not) same.inputs;
  variables = subset false m.variables c.variables.items e.variables.items h.values g.values (λ n mark. (narrow.variables n mark).0 not) same.variables;
  instances = subset (new_block Ton) m.instances c.instances.items e.instances.items h.kept.blocks g.kept.blocks (λ n mark. (narrow.instances n mark).0 not) same.instances;
  memories = subset false m.memories c.memories.items e.memories.items h.kept.memories g.kept.memories (λ n mark. (narrow.memories n mark).0 not) same.memories;
}

pub narrowed_first : (surely : Bool) (b c d e : Marks) → HaveSameMarks b c → IsNarrowed surely c d e → IsNarrowed surely b d e
narrowed_first surely b c d e again narrow = record {
  inputs = subst (λ xs. AreNarrowed surely xs d.inputs.items e.inputs.items) again.inputs narrow.inputs;
  variables = subst (λ xs. AreNarrowed surely xs d.variables.items e.variables.items) again.variables narrow.variables;
  instances = subst (λ xs. AreNarrowed surely xs d.instances.items e.instances.items) again.instances narrow.instances;
  memories = subst (λ xs. AreNarrowed surely xs d.memories.items e.memories.items) again.memories narrow.memories;
  many = narrow.many;
}
