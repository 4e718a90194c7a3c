-- A look as the code makes it leaves what the scan over what is known leaves: memories and instances are found as they were stored, since
-- each belongs to one cell.
use Rattle.std.proofs.Common.{◌≡◌, ℕ, ◌+◌, ◌*◌, ◌/◌, ◌%◌, ◌<◌, ◌≤◌, false, List, [], ◌∷◌, ◌++◌, get_or, map, set, zero, suc, Option, Some, None, refl, sym, ap, ap₂, ◌∙◌, arith}
use Rattle.std.proofs.Math.ListN.{get_or-map}
use Rattle.std.proofs.lemmas.List.{map-set}
use Rattle.diagram_program.specs.declared.geometry.TheConstants.{ROWS, PLACES}
use Rattle.diagram_declarations.specs.declared.kind.BlockKind.{BlockKind}
use Rattle.diagram_declarations.specs.declared.kind.BlockKind.TheVariants.{Ton}
use Rattle.diagram_program.specs.declared.cell.Cell.{Cell}
use Rattle.diagram_program.specs.declared.cell.Cell.TheVariants.{Contact, Coil, Block}
use Rattle.diagram_program.specs.Program.{memory_in, block_in, is_block}
use Rattle.scan_signals.specs.declared.block.Stored.{Stored}
use Rattle.scan_signals.specs.Algebra.{Algebra}
use Rattle.scan_signals.specs.Blocks.{q_of, new_block}
use Rattle.scan_cycle.specs.Cells.{Diagram, Frame, frame, Kept, at, put_in, memory_of, stored_by, closed, q_from, q_here}
use Rattle.scan_cycle.specs.Rung.{Held, link, lower, second}
use Rattle.scan_cycle.specs.Scan.{given}
use Rattle.scan_cycle.specs.Laws.{Once}
use Rattle.scan_cycle.proofs.Kept.{left_link_kept, stored_of}
use Rattle.scan_symbolic.specs.KnownScan.{Keeping, Known, all_known, after_known, frame_in, kept_at, q_in, link_in, changed_in, changes_in, guard_of, passed, taken_by}
use Rattle.scan_symbolic.proofs.Guards.{taken_same}
use Rattle.scan_symbolic.proofs.Lists.{same_kept}
use Rattle.scan_symbolic.specs.ByFrames.{written, effects, looked, look_frame, framed_look}
use Rattle.scan_cycle.proofs.Changes.{at_same, put_other}

-- An instance that is kept as it was stored shows the stored Q, and its step that of a look; a choice shows the choice.
pub record Shows {S B : Type 0} (o : Algebra S) (w : Keeping S B) : Type 0 where
  pub stored : (s : Stored) → w.q (w.stored s) ≡ o.known (q_of s)
  pub step : (kind : BlockKind) (preset : ℕ) (s : Stored) (x y : S) (now : ℕ) → w.q (w.step kind preset (w.stored s) x y now) ≡ q_from o kind preset s now x y
  pub choice : (g : S) (b e : B) → w.q (w.choice g b e) ≡ o.choice g (w.q b) (w.q e)

-- ---- lists
at-map : {A B : Type 0} (f : A → B) (xs : List A) (m : Option ℕ) (d : A) → at (map f xs) m (f d) ≡ f (at xs m d)
at-map f xs None d = refl
at-map f xs (Some i) d = get_or-map f xs i d

map_twice : {A B C : Type 0} (f : A → B) (g : B → C) (h : A → C) → ((x : A) → g (f x) ≡ h x) → (xs : List A) → map g (map f xs) ≡ map h xs
map_twice f g h same [] = refl
map_twice f g h same (x ∷ xs) = ap₂ (λ y ys. y ∷ ys) (same x) (map_twice f g h same xs)

module _ {S B : Type 0} (o : Algebra S) (w : Keeping S B) (shows : Shows o w) (d : Diagram) (now : ℕ) (h : Kept) where
  -- ---- what a cell finds is what the state has
  abbrev CellKnown : Known S B → Cell → Type 0
  CellKnown k c =
      (at k.memories (memory_in c) (o.known false) ≡ o.known (memory_of h c)) × (at k.blocks (block_in c) (w.stored (new_block Ton)) ≡ w.stored (stored_of h c))

  abbrev RungKnown : ℕ → Known S B → Type 0
  RungKnown j k = (e : ℕ) → CellKnown k (d.cell j e)

  -- ---- a cell writes its own memory and its own instance alone
  changed_memories : (start : Frame S) (guard : S) (c : Cell) (x y : S) (k : Known S B)
      → (v : S) × ((changed_in o w d now start guard c x y k).memories ≡ put_in k.memories (memory_in c) v)
  changed_memories start guard (Contact mode operand memory) x y k = (_, refl)
  changed_memories start guard (Coil mode var memory) x y k = (_, refl)
  changed_memories start guard _ x y k = (x, refl)

  changed_blocks : (start : Frame S) (guard : S) (c : Cell) (x y : S) (k : Known S B)
      → (b : B) × ((changed_in o w d now start guard c x y k).blocks ≡ put_in k.blocks (block_in c) b)
  changed_blocks start guard (Block inst) x y k = (_, refl)
  changed_blocks start guard _ x y k = (w.stored (new_block Ton), refl)

  memory_stays : (j : ℕ) (start : Frame S) (guard : S) (links : ℕ → S) (k : Known S B) (n i : ℕ) → ((e : ℕ) → e < n → memory_in (d.cell j e) ≡ Some i → ⊥)
      → get_or (changes_in o w d now j start guard links n k).memories i (o.known false) ≡ get_or k.memories i (o.known false)
  unfolding changes_in
  memory_stays j start guard links k zero i away = refl
  memory_stays j start guard links k (suc n) i away =
      let m = changes_in o w d now j start guard links n k in
      let is = changed_memories start guard (d.cell j n) (links n) (second o d j links n) m in
      ap (λ (ms : List S). get_or ms i (o.known false)) is.1
      ∙ put_other m.memories (memory_in (d.cell j n)) is.0 (o.known false) i (away n (omega arith))
      ∙ memory_stays j start guard links k n i (λ e lt. away e (omega (arith, lt)))

  block_stays : (j : ℕ) (start : Frame S) (guard : S) (links : ℕ → S) (k : Known S B) (n i : ℕ) → ((e : ℕ) → e < n → block_in (d.cell j e) ≡ Some i → ⊥)
      → get_or (changes_in o w d now j start guard links n k).blocks i (w.stored (new_block Ton)) ≡ get_or k.blocks i (w.stored (new_block Ton))
  unfolding changes_in
  block_stays j start guard links k zero i away = refl
  block_stays j start guard links k (suc n) i away =
      let m = changes_in o w d now j start guard links n k in
      let is = changed_blocks start guard (d.cell j n) (links n) (second o d j links n) m in
      ap (λ (bs : List B). get_or bs i (w.stored (new_block Ton))) is.1
      ∙ put_other m.blocks (block_in (d.cell j n)) is.0 (w.stored (new_block Ton)) i (away n (omega arith))
      ∙ block_stays j start guard links k n i (λ e lt. away e (omega (arith, lt)))

  -- a cell that isn't one of these finds what it found before
  stays : Once d → (j : ℕ) (start : Frame S) (guard : S) (links : ℕ → S) (k : Known S B) (n i e : ℕ) → ((f : ℕ) → f < n → j ≡ i → f ≡ e → ⊥)
      → CellKnown k (d.cell i e) → CellKnown (changes_in o w d now j start guard links n k) (d.cell i e)
  stays once j start guard links k n i e apart known = (
    at_same (changes_in o w d now j start guard links n k).memories k.memories (memory_in (d.cell i e)) (o.known false)
        (λ m is. memory_stays j start guard links k n m (λ f lt t. let s : (j ≡ i) × (f ≡ e) = once.memory m j f i e t is in apart f lt s.0 s.1))
        ∙ known.0,
    at_same (changes_in o w d now j start guard links n k).blocks k.blocks (block_in (d.cell i e)) (w.stored (new_block Ton))
        (λ m is. block_stays j start guard links k n m (λ f lt t. let s : (j ≡ i) × (f ≡ e) = once.block m j f i e t is in apart f lt s.0 s.1))
        ∙ known.1,
  )

  -- ---- one cell
  q_same : (k : Known S B) (c : Cell) → CellKnown k c → (x y u v : S) → x ≡ u → y ≡ v → q_in o w d now k c x y ≡ q_here o d h now c u v
  q_same k (Block inst) known x y u v e f =
      ap (λ b. w.q (w.step (d.kind inst) (d.preset inst) b x y now)) known.1
      ∙ shows.step (d.kind inst) (d.preset inst) (stored_of h (Block inst)) x y now
      ∙ ap₂ (λ s t. q_from o (d.kind inst) (d.preset inst) (stored_of h (Block inst)) now s t) e f
  q_same k _ known x y u v e f = refl

  cell_same : (start : Frame S) (guard : S) (c : Cell) (x y : S) (k : Known S B) → CellKnown k c
      → frame_in w (changed_in o w d now start guard c x y k) ≡ written o d h now guard c x y (frame_in w k)
  cell_same start guard (Coil mode var memory) x y k known =
      let old = get_or k.values var (o.known false) in
      ap (λ m. frame (set k.values var (o.choice guard (stored_by o mode x m old) old)) (map w.q k.blocks)) known.0
  cell_same start guard (Block inst) x y k known =
      let was = kept_at w k inst in
      let now_q = w.step (d.kind inst) (d.preset inst) was x y now in
      let out : w.q was ≡ get_or (map w.q k.blocks) inst (o.known false) =
      sym (get_or-map w.q k.blocks inst (w.stored (new_block Ton))) ∙ ap (get_or (map w.q k.blocks) inst) (shows.stored (new_block Ton)) in
      ap (frame k.values) (map-set w.q k.blocks inst (w.choice guard now_q was)
      ∙ ap (set (map w.q k.blocks) inst) (shows.choice guard now_q was
      ∙ ap₂ (o.choice guard) (q_same k (Block inst) known x y x y refl refl) out))
  cell_same start guard _ x y k known = refl

  -- ---- one rung
  link_same : (j : ℕ) (k : Known S B) → RungKnown j k → (e : ℕ) → link_in o w d now j k e ≡ link o d h now j (frame_in w k) e
  link_same j k known e =
      left_link_kept o o (λ x y. x ≡ y) (same_kept o) (d.feeds j) (λ row column. is_block (d.cell j (ROWS * column + row))) _ _ _ _
      (λ row column. ap (λ m. closed o (frame_in w k) m (d.cell j (ROWS * column + row))) (known (ROWS * column + row)).0)
      (λ row column x y u v s t. q_same k (d.cell j (ROWS * column + row)) (known (ROWS * column + row)) x _ u _ s (ap (lower o (d.linked j (ROWS * column + row))) t))
      (e % ROWS) (e / ROWS)

  in_rung : Once d → (j : ℕ) (start : Frame S) (guard : S) (links us : ℕ → S) → ((e : ℕ) → links e ≡ us e) → (k : Known S B) → RungKnown j k → (n : ℕ)
      → frame_in w (changes_in o w d now j start guard links n k) ≡ effects o d h now j guard us n (frame_in w k)
  unfolding changes_in effects
  in_rung once j start guard links us same k known zero = refl
  in_rung once j start guard links us same k known (suc n) =
      let m = changes_in o w d now j start guard links n k in
      let found : CellKnown m (d.cell j n) = stays once j start guard links k n j n (λ f lt a b. absurd (omega (arith, lt, b))) (known n) in
      cell_same start guard (d.cell j n) (links n) (second o d j links n) m found
      ∙ ap₂ (λ x y. written o d h now guard (d.cell j n) x y (frame_in w m)) (same n) (ap (lower o (d.linked j n)) (same (n + 1)))
      ∙ ap (written o d h now guard (d.cell j n) (us n) (second o d j us n)) (in_rung once j start guard links us same k known n)

  -- ---- all rungs
  record Agree (k : Known S B) (f : Frame S) (n : ℕ) : Type 0 where
    frames : frame_in w (passed o w d now k n).known ≡ (looked o d h now f n).frame
    jumps : (passed o w d now k n).taken ≡ (looked o d h now f n).taken
    later : (j : ℕ) → n ≤ j → RungKnown j (passed o w d now k n).known

  agree : Once d → (k : Known S B) (f : Frame S) → frame_in w k ≡ f → ((j : ℕ) → RungKnown j k) → (n : ℕ) → Agree k f n
  unfolding passed looked
  agree once k f begins known zero = record { frames = begins; jumps = refl; later = λ j le. known j }
  agree once k f begins known (suc n) =
      let ih = agree once k f begins known n in
      let p = passed o w d now k n in
      let l = looked o d h now f n in
      let here = ih.later n (omega arith) in
      let links : (e : ℕ) → link_in o w d now n p.known e ≡ link o d h now n l.frame e = λ e.
      link_same n p.known here e ∙ ap (λ g. link o d h now n g e) ih.frames in
      let guards : guard_of o d p.taken n ≡ guard_of o d l.taken n = ap (λ ts. guard_of o d ts n) ih.jumps in
      record {
        frames =
            in_rung once n (frame_in w p.known) (guard_of o d p.taken n) (link_in o w d now n p.known) (link o d h now n l.frame) links p.known here PLACES
            ∙ ap₂ (λ g x. effects o d h now n g (link o d h now n l.frame) PLACES x) guards ih.frames;
        jumps =
            ap₂ (λ ts t. ts ++ (t ∷ [])) ih.jumps
            (ap (λ g. taken_by o (d.jump n) g (link_in o w d now n p.known)) guards
            ∙ taken_same o (d.jump n) (guard_of o d l.taken n) (link_in o w d now n p.known) (link o d h now n l.frame) (λ place target e. links place));
        later = λ j le e.
            stays once n (frame_in w p.known) (guard_of o d p.taken n) (link_in o w d now n p.known) p.known PLACES j e
            (λ g lt a b. absurd (omega (arith, le, a))) (ih.later j (omega (arith, le)) e);
      }

pub framed_is_known : {S B : Type 0} (o : Algebra S) (w : Keeping S B) → Shows o w → (d : Diagram) → Once d → (now : ℕ) (inputs : List S) (h : Held)
    → framed_look o d now inputs h ≡ (after_known o w d now inputs (all_known o w h)).values
framed_is_known o w shows d once now inputs h =
    let start : Known _ _ = record {
      values = given d.inputs inputs (map o.known h.values);
      memories = map o.known h.kept.memories;
      blocks = map w.stored h.kept.blocks;
    } in
    let begins : frame_in w start ≡ look_frame o d inputs h =
    ap (frame (given d.inputs inputs (map o.known h.values))) (map_twice w.stored w.q (λ s. o.known (q_of s)) shows.stored h.kept.blocks) in
    let known : (j e : ℕ) → CellKnown o w shows d now h.kept start (d.cell j e) = λ j e. (
      at-map o.known h.kept.memories (memory_in (d.cell j e)) false,
      at-map w.stored h.kept.blocks (block_in (d.cell j e)) (new_block Ton),
    ) in
    sym (ap (λ (f : Frame _). f.values) (agree o w shows d now h.kept once start (look_frame o d inputs h) begins known d.rungs).frames)
