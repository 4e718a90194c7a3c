-- The relational law for the power flow of a rung, definition by definition; memories and blocks may differ where no cell of the rung
-- reads them.
use Rattle.std.proofs.Common.{◌≡◌, ℕ, ◌+◌, ◌*◌, Bool, true, false, cond, List, [], ◌∷◌, map, get_or, zero, suc, nat_eq, subst}
use Rattle.scan_signals.specs.Algebra.{Algebra}
use Rattle.scan_signals.specs.Relations.{IsKept, Both}
use Rattle.scan_cycle.specs.Routes.{join_all, Route, rail, block_end, through, routes, route_value, ends_below, left_link}
use Rattle.diagram_declarations.specs.declared.kind.BlockKind.{BlockKind}
use Rattle.diagram_declarations.specs.declared.kind.BlockKind.TheVariants.{Ton}
use Rattle.scan_signals.specs.declared.block.Stored.{Stored}
use Rattle.diagram_program.specs.declared.geometry.TheConstants.{ROWS}
use Rattle.diagram_program.specs.declared.mode.Mode.{Mode}
use Rattle.diagram_program.specs.declared.mode.Mode.TheVariants.{Plain, Negated, Rising, Falling}
use Rattle.diagram_program.specs.declared.cell.Operand.{Operand}
use Rattle.diagram_program.specs.declared.cell.Operand.TheVariants.{Var, Output}
use Rattle.diagram_program.specs.declared.cell.Cell.{Cell}
use Rattle.diagram_program.specs.declared.cell.Cell.TheVariants.{Wire, Contact, Coil, Block}
use Rattle.diagram_program.specs.Program.{block_in, is_block}
use Rattle.scan_cycle.specs.Cells.{Diagram, Frame, Kept, at, memory_of, operand_value, closed, contact, q_here, q_from}
use Rattle.scan_cycle.specs.Rung.{circuit}
use Rattle.scan_signals.specs.Blocks.{new_block}

-- two frames are related value by value, and Q by Q
abbrev pub BothFrames : {A B : Type 0} → (A → B → Type 0) → Frame A → Frame B → Type 0
BothFrames R f g = Both R f.values g.values × Both R f.ends g.ends

-- what the instance of a cell stores
abbrev pub stored_of : Kept → Cell → Stored
stored_of k c = at k.blocks (block_in c) (new_block Ton)

-- a cell finds the same memory and the same stored block in both
abbrev pub AlikeCell : Kept → Kept → Cell → Type 0
AlikeCell k h c = (memory_of k c ≡ memory_of h c) × (stored_of k c ≡ stored_of h c)

abbrev pub Alike : Diagram → ℕ → Kept → Kept → Type 0
Alike d j k h = (e : ℕ) → AlikeCell k h (d.cell j e)

module _ {A B : Type 0} (a : Algebra A) (b : Algebra B) (R : A → B → Type 0) (k : IsKept a b R) where
  -- ---- lists
  pub get_kept : (xs : List A) (vs : List B) → Both R xs vs → (d : A) (e : B) → R d e → (i : ℕ) → R (get_or xs i d) (get_or vs i e)
  get_kept [] [] h d e r i = r
  get_kept [] (v ∷ vs) h d e r i = absurd h
  get_kept (x ∷ xs) [] h d e r i = absurd h
  get_kept (x ∷ xs) (v ∷ vs) h d e r zero = h.0
  get_kept (x ∷ xs) (v ∷ vs) h d e r (suc i) = get_kept xs vs h.1 d e r i

  pub either : (c : Bool) (x y : A) (u v : B) → R x u → R y v → R (cond c x y) (cond c u v)
  either true x y u v r s = r
  either false x y u v r s = s

  -- ---- flow
  joins_kept : {W : Type 0} (v : W → A) (u : W → B) → ((w : W) → R (v w) (u w)) → (ws : List W) → R (join_all a (map v ws)) (join_all b (map u ws))
  unfolding join_all
  joins_kept v u h [] = k.known false
  joins_kept v u h (w ∷ ws) = k.join _ _ _ _ (h w) (joins_kept v u h ws)

  module _ (fe : ℕ → ℕ → ℕ → Bool) (bl : ℕ → ℕ → Bool) (ca : ℕ → ℕ → A) (cb : ℕ → ℕ → B) (qa : ℕ → ℕ → A → A → A) (qb : ℕ → ℕ → B → B → B)
      (closed_kept : (row column : ℕ) → R (ca row column) (cb row column)) (q_kept : (row column : ℕ) (x y : A) (u v : B) → R x u → R y v → R (qa row column x y) (qb row column u v)) where
    route_kept : (e : ℕ → ℕ → A) (f : ℕ → ℕ → B) → ((row column : ℕ) → R (e row column) (f row column)) → (w : Route) → R (route_value a (record { feeds = fe; is_block = bl; closed = ca; q = qa }) e w) (route_value b (record { feeds = fe; is_block = bl; closed = cb; q = qb }) f w)
    unfolding route_value
    route_kept e f h rail = k.known true
    route_kept e f h (block_end row column) = h row column
    route_kept e f h (through w row column) = k.meet _ _ _ _ (route_kept e f h w) (closed_kept row column)

    ends_kept : (n row column : ℕ) → R (ends_below a (record { feeds = fe; is_block = bl; closed = ca; q = qa }) n row column) (ends_below b (record { feeds = fe; is_block = bl; closed = cb; q = qb }) n row column)
    unfolding ends_below
    ends_kept zero row column = k.known false
    ends_kept (suc n) row column =
        either (nat_eq column n) _ _ _ _
        (q_kept row column _ _ _ _ (joins_kept _ _ (route_kept _ _ (ends_kept n)) (routes fe bl row n)) (joins_kept _ _ (route_kept _ _ (ends_kept n)) (routes fe bl (row + 1) n)))
        (ends_kept n row column)

    pub left_link_kept : (row column : ℕ) → R (left_link a (record { feeds = fe; is_block = bl; closed = ca; q = qa }) row column) (left_link b (record { feeds = fe; is_block = bl; closed = cb; q = qb }) row column)
    left_link_kept row column = joins_kept _ _ (route_kept _ _ (ends_kept column)) (routes fe bl row column)

  -- ---- cells
  operand_kept : (f : Frame A) (g : Frame B) → BothFrames R f g → (x : Operand) → R (operand_value a f x) (operand_value b g x)
  operand_kept f g h (Var var) = get_kept f.values g.values h.0 (a.known false) (b.known false) (k.known false) var
  operand_kept f g h (Output inst) = get_kept f.ends g.ends h.1 (a.known false) (b.known false) (k.known false) inst

  contact_kept : (mode : Mode) (x m : A) (u n : B) → R x u → R m n → R (contact a mode x m) (contact b mode u n)
  contact_kept Plain x m u n r s = r
  contact_kept Negated x m u n r s = k.inverse _ _ r
  contact_kept Rising x m u n r s = k.meet _ _ _ _ r (k.inverse _ _ s)
  contact_kept Falling x m u n r s = k.meet _ _ _ _ (k.inverse _ _ r) s

  pub cell_kept : (f : Frame A) (g : Frame B) → BothFrames R f g → (m : A) (n : B) → R m n → (c : Cell) → R (closed a f m c) (closed b g n c)
  cell_kept f g h m n r Wire = k.known true
  cell_kept f g h m n r (Contact mode operand memory) = contact_kept mode _ _ _ _ (operand_kept f g h operand) r
  cell_kept f g h m n r (Coil mode var memory) = k.known true
  cell_kept f g h m n r _ = k.known false

  pub known_same : (x y : Bool) → x ≡ y → R (a.known x) (b.known y)
  known_same x y e = subst (λ (z : Bool). R (a.known x) (b.known z)) e (k.known x)

  pub from_kept : (kind : BlockKind) (preset : ℕ) (s t : Stored) (now : ℕ) → s ≡ t → (x y : A) (u v : B) → R x u → R y v → R (q_from a kind preset s now x y) (q_from b kind preset t now u v)
  from_kept kind preset s t now e x y u v r w =
      subst (λ (z : Stored). R (q_from a kind preset s now x y) (q_from b kind preset z now u v)) e
      (k.choice _ _ _ _ _ _ r (k.choice _ _ _ _ _ _ w (k.known _) (k.known _)) (k.choice _ _ _ _ _ _ w (k.known _) (k.known _)))

  pub q_kept : (d : Diagram) (p h : Kept) (now : ℕ) (c : Cell) → AlikeCell p h c → (x y : A) (u v : B) → R x u → R y v → R (q_here a d p now c x y) (q_here b d h now c u v)
  q_kept d p h now (Block inst) e x y u v r s = from_kept (d.kind inst) (d.preset inst) _ _ now e.1 x y u v r s
  q_kept d p h now _ e x y u v r s = k.known false

  -- ---- one rung
  pub left_kept : (d : Diagram) (p h : Kept) (now j : ℕ) → Alike d j p h → (f : Frame A) (g : Frame B) → BothFrames R f g → (row column : ℕ) →
      R (left_link a (circuit a d p now j f) row column) (left_link b (circuit b d h now j g) row column)
  left_kept d p h now j al f g r row column =
      left_link_kept (d.feeds j) (λ row column. is_block (d.cell j (ROWS * column + row))) _ _ _ _
      (λ row column. cell_kept f g r _ _ (known_same _ _ (al (ROWS * column + row)).0) (d.cell j (ROWS * column + row)))
      (λ row column x y u v s t. q_kept d p h now (d.cell j (ROWS * column + row)) (al (ROWS * column + row)) x _ u _ s (either (d.linked j (ROWS * column + row)) _ _ _ _ t (k.known false)))
      row column
