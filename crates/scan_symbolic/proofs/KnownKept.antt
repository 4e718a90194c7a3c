-- The scan over what is known keeps the relations that its operations and steps keep.
use Rattle.std.proofs.Common.{ℕ, ◌+◌, ◌*◌, ◌/◌, ◌%◌, false, List, [], ◌∷◌, map, set, zero, suc}
use Rattle.diagram_program.specs.declared.geometry.TheConstants.{ROWS, PLACES}
use Rattle.scan_signals.specs.Algebra.{Algebra}
use Rattle.scan_signals.specs.Relations.{IsKept, Both}
use Rattle.diagram_declarations.specs.declared.kind.BlockKind.TheVariants.{Ton}
use Rattle.diagram_program.specs.declared.cell.Operand.{Operand}
use Rattle.diagram_program.specs.declared.cell.Operand.TheVariants.{Var, Output}
use Rattle.diagram_program.specs.declared.cell.Cell.{Cell}
use Rattle.diagram_program.specs.declared.cell.Cell.TheVariants.{Empty, Wire, Contact, Coil, Block, Lower, Jump, Return}
use Rattle.diagram_program.specs.Program.{is_block, memory_in}
use Rattle.scan_signals.specs.Blocks.{new_block}
use Rattle.scan_cycle.specs.Cells.{Diagram, Frame, operand_value}
use Rattle.scan_cycle.specs.Scan.{given}
use Rattle.scan_symbolic.specs.KnownScan.{Keeping, Known, frame_in, kept_at, q_in, link_in, changed_in, changes_in, passed}
use Rattle.scan_symbolic.specs.KnownLaws.{StepsKeep, BothAt, BothKnown, ScanKeeps}
use Rattle.scan_cycle.proofs.Kept.{BothFrames, get_kept, either, cell_kept, left_link_kept}
use Rattle.scan_symbolic.proofs.KeptParts.{set_kept, at_kept, put_kept, coil_kept, given_kept}
use Rattle.scan_symbolic.proofs.Guards.{guard_kept, taken_kept}
use Rattle.scan_symbolic.proofs.Lists.{get_both, push_both}

set_both : {B C : Type 0} (Q : ℕ → B → C → Type 0) (xs : List B) (ys : List C) → BothAt Q xs ys → (i : ℕ) (x : B) (y : C) → Q i x y → BothAt Q (set xs i x) (set ys i y)
set_both Q [] [] h i x y r = tt
set_both Q [] (w ∷ ys) h i x y r = absurd h
set_both Q (v ∷ xs) [] h i x y r = absurd h
set_both Q (v ∷ xs) (w ∷ ys) h zero x y r = (r, h.1)
set_both Q (v ∷ xs) (w ∷ ys) h (suc i) x y r = (h.0, set_both (λ k. Q (suc k)) xs ys h.1 i x y r)

map_both : {B C S T : Type 0} (Q : ℕ → B → C → Type 0) (R : S → T → Type 0) (f : B → S) (g : C → T) → ((i : ℕ) (x : B) (y : C) → Q i x y → R (f x) (g y))
    → (xs : List B) (ys : List C) → BothAt Q xs ys → Both R (map f xs) (map g ys)
map_both Q R f g h [] [] r = tt
map_both Q R f g h [] (y ∷ ys) r = absurd r
map_both Q R f g h (x ∷ xs) [] r = absurd r
map_both Q R f g h (x ∷ xs) (y ∷ ys) r = (h 0 x y r.0, map_both (λ k. Q (suc k)) R f g (λ i. h (suc i)) xs ys r.1)

module _ {S T B C : Type 0} (a : Algebra S) (b : Algebra T) (v : Keeping S B) (w : Keeping T C) (R : S → T → Type 0) (Q : ℕ → B → C → Type 0) (now then : ℕ) (d : Diagram)
    (o : IsKept a b R) (p : StepsKeep d v w R Q now then) where
  frames_both : (k : Known S B) (l : Known T C) → BothKnown R Q k l → BothFrames R (frame_in v k) (frame_in w l)
  frames_both k l h = (h.values, map_both Q R v.q w.q p.q k.blocks l.blocks h.blocks)

  operand_kept : (f : Frame S) (g : Frame T) → BothFrames R f g → (x : Operand) → R (operand_value a f x) (operand_value b g x)
  operand_kept f g h (Var var) = get_kept a b R o f.values g.values h.0 (a.known false) (b.known false) (o.known false) var
  operand_kept f g h (Output inst) = get_kept a b R o f.ends g.ends h.1 (a.known false) (b.known false) (o.known false) inst

  kept_both : (k : Known S B) (l : Known T C) → BothKnown R Q k l → (inst : ℕ) → Q inst (kept_at v k inst) (kept_at w l inst)
  kept_both k l h inst = get_both Q k.blocks l.blocks h.blocks (v.stored (new_block Ton)) (w.stored (new_block Ton)) p.past inst

  q_both : (k : Known S B) (l : Known T C) → BothKnown R Q k l → (c : Cell) (x y : S) (s t : T) → R x s → R y t
      → R (q_in a v d now k c x y) (q_in b w d then l c s t)
  q_both k l h (Block inst) x y s t e f = p.q inst _ _ (p.step inst _ _ x y s t (kept_both k l h inst) e f)
  q_both k l h _ x y s t e f = o.known false

  link_both : (j : ℕ) (k : Known S B) (l : Known T C) → BothKnown R Q k l → (e : ℕ) → R (link_in a v d now j k e) (link_in b w d then j l e)
  link_both j k l h e =
      left_link_kept a b R o (d.feeds j) (λ row column. is_block (d.cell j (ROWS * column + row))) _ _ _ _
      (λ row column. cell_kept a b R o (frame_in v k) (frame_in w l) (frames_both k l h) _ _
      (at_kept a b R o k.memories l.memories h.memories (memory_in (d.cell j (ROWS * column + row)))) (d.cell j (ROWS * column + row)))
      (λ row column x y s t e f. q_both k l h (d.cell j (ROWS * column + row)) x _ s _ e (either a b R o (d.linked j (ROWS * column + row)) _ _ _ _ f (o.known false)))
      (e % ROWS) (e / ROWS)

  changed_both : (f : Frame S) (g : Frame T) → BothFrames R f g → (m : S) (n : T) → R m n → (c : Cell) (x y : S) (s t : T) → R x s → R y t
      → (k : Known S B) (l : Known T C) → BothKnown R Q k l → BothKnown R Q (changed_in a v d now f m c x y k) (changed_in b w d then g n c s t l)
  changed_both f g r m n q Empty x y s t e u k l h = h
  changed_both f g r m n q Wire x y s t e u k l h = h
  changed_both f g r m n q (Contact mode operand memory) x y s t e u k l h = record {
    values = h.values;
    memories = put_kept a b R o k.memories l.memories h.memories memory _ _
        (o.choice _ _ _ _ _ _ q (operand_kept f g r operand) (at_kept a b R o k.memories l.memories h.memories memory));
    blocks = h.blocks;
  }
  changed_both f g r m n q (Coil mode var memory) x y s t e u k l h =
      let old = get_kept a b R o k.values l.values h.values (a.known false) (b.known false) (o.known false) var in
      let was = at_kept a b R o k.memories l.memories h.memories memory in
      record {
        values = set_kept a b R o k.values l.values h.values var _ _ (o.choice _ _ _ _ _ _ q (coil_kept a b R o (Coil mode var memory) _ _ _ _ _ _ e was old) old);
        memories = put_kept a b R o k.memories l.memories h.memories memory _ _ (o.choice _ _ _ _ _ _ q e was);
        blocks = h.blocks;
      }
  changed_both f g r m n q (Block inst) x y s t e u k l h = record {
    values = h.values;
    memories = h.memories;
    blocks = set_both Q k.blocks l.blocks h.blocks inst _ _
        (p.choice inst m n _ _ _ _ q (p.step inst _ _ x y s t (kept_both k l h inst) e u) (kept_both k l h inst));
  }
  changed_both f g r m n q (Lower inst linked) x y s t e u k l h = h
  changed_both f g r m n q (Jump target) x y s t e u k l h = h
  changed_both f g r m n q Return x y s t e u k l h = h

  changes_both : (j : ℕ) (f : Frame S) (g : Frame T) → BothFrames R f g → (m : S) (n : T) → R m n → (us : ℕ → S) (vs : ℕ → T)
      → ((e : ℕ) → R (us e) (vs e)) → (top : ℕ) (k : Known S B) (l : Known T C) → BothKnown R Q k l
      → BothKnown R Q (changes_in a v d now j f m us top k) (changes_in b w d then j g n vs top l)
  unfolding changes_in
  changes_both j f g r m n q us vs links zero k l h = h
  changes_both j f g r m n q us vs links (suc top) k l h =
      changed_both f g r m n q (d.cell j top) _ _ _ _ (links top) (either a b R o (d.linked j top) _ _ _ _ (links (top + 1)) (o.known false)) _ _
      (changes_both j f g r m n q us vs links top k l h)

  passed_both : (k : Known S B) (l : Known T C) → BothKnown R Q k l → (n : ℕ)
      → BothKnown R Q (passed a v d now k n).known (passed b w d then l n).known × Both R (passed a v d now k n).taken (passed b w d then l n).taken
  unfolding passed
  passed_both k l h zero = (h, tt)
  passed_both k l h (suc n) =
      let e = passed_both k l h n in
      let guard = guard_kept a b R o d _ _ e.1 n in
      let links = link_both n _ _ e.0 in (
        changes_both n _ _ (frames_both _ _ e.0) _ _ guard _ _ links PLACES _ _ e.0,
        push_both R _ _ e.1 _ _ (taken_kept a b R o (d.jump n) _ _ guard _ _ links),
      )

pub scan_keeps : {S T B C : Type 0} (a : Algebra S) (b : Algebra T) (v : Keeping S B) (w : Keeping T C) (R : S → T → Type 0) (Q : ℕ → B → C → Type 0) (now then : ℕ) (d : Diagram)
    → IsKept a b R → StepsKeep d v w R Q now then → ScanKeeps d a b v w R Q now then
scan_keeps a b v w R Q now then d o p xs ys r k l h =
    (passed_both a b v w R Q now then d o p (record k { values = given d.inputs xs k.values }) (record l { values = given d.inputs ys l.values })
    (record { values = given_kept a b R o d.inputs xs ys r k.values l.values h.values; memories = h.memories; blocks = h.blocks }) d.rungs).0
