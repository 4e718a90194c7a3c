-- What a cell changes disturbs no rung that does not use it.
use Rattle.std.proofs.Common.{◌≡◌, ℕ, Bool, true, false, List, ◌∷◌, map, get_or, set, zero, suc, refl, sym, ap, ◌∙◌, subst}
use Rattle.diagram_program.specs.declared.cell.Cell.{Cell}
use Rattle.diagram_program.specs.Program.{memory_in, block_in}
use Rattle.scan_signals.specs.Blocks.{q_of, new_block}
use Rattle.diagram_declarations.specs.declared.kind.BlockKind.TheVariants.{Ton}
use Rattle.scan_cycle.proofs.Kept.{stored_of}
use Rattle.scan_cycle.specs.Cells.{Diagram, Frame, var_in, memory_of}
use Rattle.scan_cycle.specs.Rung.{Held, changed, SameLengths}
use Rattle.scan_cycle.specs.Laws.{Once}
use Rattle.scan_cycle.proofs.Changes.{changed_is, at_same, put_other}
use Rattle.scan_cycle.proofs.Sizes.{size-put_in}
use Rattle.scan_incremental.specs.Resting.{UsedBy, marked}
use Rattle.scan_incremental.proofs.Frames.{IsUndisturbed}

-- an entry that is set to what it was, as far as it is read, leaves all entries
pub set_quiet : {A : Type 0} (xs : List A) (i : ℕ) (x : A) (j : ℕ) (d : A) → get_or (set xs i x) i d ≡ get_or xs i d → get_or (set xs i x) j d ≡ get_or xs j d
set_quiet (y ∷ xs) zero x zero d e = e
set_quiet (y ∷ xs) (suc i) x (suc j) d e = set_quiet xs i x j d e
set_quiet _ _ x _ d e = refl

pub same_lengths : (d : Diagram) (now : ℕ) (start : Frame Bool) (c : Cell) (x y : Bool) (h : Held) → SameLengths (changed d now start c x y h) h
same_lengths d now start c x y h =
    subst (λ (z : Held). SameLengths z h) (sym (changed_is d now start c x y h)) (record {
      values = size-put_in h.values (var_in c) _;
      memories = size-put_in h.kept.memories (memory_in c) _;
      blocks = size-put_in h.kept.blocks (block_in c) _;
    })

-- the memories and instances of other rungs stay
other_memories : (d : Diagram) → Once d → (now j e i f : ℕ) (start : Frame Bool) (x y : Bool) (h : Held) → (i ≡ j → ⊥)
    → memory_of (changed d now start (d.cell j e) x y h).kept (d.cell i f) ≡ memory_of h.kept (d.cell i f)
other_memories d once now j e i f start x y h apart =
    ap (λ (z : Held). memory_of z.kept (d.cell i f)) (changed_is d now start (d.cell j e) x y h)
    ∙ at_same _ h.kept.memories (memory_in (d.cell i f)) false (λ k is. put_other h.kept.memories (memory_in (d.cell j e)) _ false k
    (λ has. apart (once.memory k i f j e is has).0))

other_blocks : (d : Diagram) → Once d → (now j e i f : ℕ) (start : Frame Bool) (x y : Bool) (h : Held) → (i ≡ j → ⊥)
    → stored_of (changed d now start (d.cell j e) x y h).kept (d.cell i f) ≡ stored_of h.kept (d.cell i f)
other_blocks d once now j e i f start x y h apart =
    ap (λ (z : Held). stored_of z.kept (d.cell i f)) (changed_is d now start (d.cell j e) x y h)
    ∙ at_same _ h.kept.blocks (block_in (d.cell i f)) (new_block Ton) (λ k is. put_other h.kept.blocks (block_in (d.cell j e)) _ (new_block Ton) k
    (λ has. apart (once.block k i f j e is has).0))

-- An action that leaves what a rung uses, by the marks, doesn't disturb it.
pub undisturbed : (d : Diagram) → Once d → (u : UsedBy) (now j e i : ℕ) (start : Frame Bool) (x y : Bool) (h g : Held) → g ≡ changed d now start (d.cell j e) x y h → (i ≡ j → ⊥)
    → ((v : ℕ) → marked u.variables v i ≡ true → get_or g.values v false ≡ get_or h.values v false)
    → ((k : ℕ) → marked u.outputs k i ≡ true → get_or (map q_of g.kept.blocks) k false ≡ get_or (map q_of h.kept.blocks) k false)
    → IsUndisturbed d u i h g
undisturbed d once u now j e i start x y h g is apart values outputs = record {
  lengths = subst (λ (z : Held). SameLengths z h) (sym is) (same_lengths d now start (d.cell j e) x y h);
  values = values;
  outputs = outputs;
  memories = λ f. ap (λ (z : Held). memory_of z.kept (d.cell i f)) is ∙ other_memories d once now j e i f start x y h apart;
  blocks = λ f. ap (λ (z : Held). stored_of z.kept (d.cell i f)) is ∙ other_blocks d once now j e i f start x y h apart;
}
