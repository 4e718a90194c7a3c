-- A rung that rests still rests where what it uses is as it was.
use Rattle.std.proofs.Common.{◌≡◌, ℕ, ◌+◌, ◌*◌, ◌/◌, ◌%◌, ◌<◌, ◌≤◌, Bool, true, false, cond, subst, List, [], ◌∷◌, length, map, get_or, set, zero, suc, Option, Some, None, refl, sym, ap, ap₂, ◌∙◌, nat_eq, arith}
use Rattle.std.proofs.lemmas.Bool.Decides.{nat_tests}
use Rattle.std.proofs.lemmas.List.{set-get_or}
use Rattle.diagram_program.specs.declared.geometry.TheConstants.{ROWS, PLACES}
use Rattle.diagram_program.specs.declared.cell.Operand.TheVariants.{Var, Output}
use Rattle.diagram_program.specs.declared.cell.Cell.{Cell}
use Rattle.diagram_program.specs.declared.cell.Cell.TheVariants.{Empty, Wire, Contact, Coil, Block, Lower, Jump, Return}
use Rattle.diagram_program.specs.Program.{is_block}
use Rattle.diagram_declarations.specs.declared.kind.BlockKind.TheVariants.{Ton}
use Rattle.scan_signals.specs.declared.block.Stored.{Stored}
use Rattle.scan_signals.specs.Truth.{plain, AnyBool}
use Rattle.scan_signals.specs.TruthLaws.{plain_lattice}
use Rattle.scan_signals.specs.Blocks.{step, q_of, new_block}
use Rattle.scan_cycle.specs.Cells.{Diagram, Frame, q_from, at, put_in, var_in, memory_of, operand_value, closed, contact, q_here, stored_by}
use Rattle.scan_cycle.specs.Rung.{Held, held, frame_of, circuit, lower, second, link_at, changed, changes, evaluated, SameLengths}
use Rattle.scan_cycle.specs.Scan.{next_rung}
use Rattle.scan_cycle.specs.Routes.{left_link, routes, route_value, join_all}
use Rattle.scan_cycle.specs.Programs.{IsSound}
use Rattle.scan_cycle.specs.Gating.{AreValues}
use Rattle.scan_cycle.proofs.Kept.{stored_of}
use Rattle.scan_cycle.proofs.Links.{column_next, fed_same}
use Rattle.scan_cycle.proofs.Exits.{after_same}
use Rattle.scan_incremental.specs.Resting.{Rests, Stays, uses_variable, uses_output, UsedBy, marked, AreUsers}

-- what the operand of a contact has
abbrev pub read_by : Held → Cell → Bool
read_by h (Contact mode operand memory) = operand_value plain (frame_of h) operand
read_by h other = false

-- what the variable of a coil has
abbrev pub written_by : Held → Cell → Bool
written_by h c = at h.values (var_in c) false

-- a cell finds the same in both
pub record AlikeAt (h g : Held) (c : Cell) : Type 0 where
  pub read : read_by g c ≡ read_by h c
  pub written : written_by g c ≡ written_by h c
  pub memory : memory_of g.kept c ≡ memory_of h.kept c
  pub stored : stored_of g.kept c ≡ stored_of h.kept c

-- ---- power flow
closed_same : (h g : Held) (c : Cell) → AlikeAt h g c → closed plain (frame_of g) (memory_of g.kept c) c ≡ closed plain (frame_of h) (memory_of h.kept c) c
closed_same h g (Contact mode operand memory) a = ap₂ (contact plain mode) a.read a.memory
closed_same h g _ a = refl

-- the Q of a block whose step leaves it as it is
q_stays : (d : Diagram) (now inst : ℕ) (s : Stored) (x y : Bool) → step (d.kind inst) (d.preset inst) s x y now ≡ s → q_from plain (d.kind inst) (d.preset inst) s now x y ≡ q_of s
q_stays d now inst s true true e = ap q_of e
q_stays d now inst s true false e = ap q_of e
q_stays d now inst s false true e = ap q_of e
q_stays d now inst s false false e = ap q_of e

-- what a cell lets through, as far as its inputs are the same
through_same : (d : Diagram) (now since : ℕ) (h g : Held) (c : Cell) (x y u v : Bool) → u ≡ x → v ≡ y → AlikeAt h g c
    → Stays d now (frame_of h) h c x y → Stays d since (frame_of h) h c x y
    → cond (is_block c) (q_here plain d g.kept now c u v) (plain.meet u (closed plain (frame_of g) (memory_of g.kept c) c))
    ≡ cond (is_block c) (q_here plain d h.kept since c x y) (plain.meet x (closed plain (frame_of h) (memory_of h.kept c) c))
through_same d now since h g Empty x y u v e f a s t = ap₂ plain.meet e (closed_same h g Empty a)
through_same d now since h g Wire x y u v e f a s t = ap₂ plain.meet e (closed_same h g Wire a)
through_same d now since h g (Contact mode operand memory) x y u v e f a s t = ap₂ plain.meet e (closed_same h g (Contact mode operand memory) a)
through_same d now since h g (Coil mode var memory) x y u v e f a s t = ap₂ plain.meet e (closed_same h g (Coil mode var memory) a)
through_same d now since h g (Block inst) x y u v e f a s t =
    ap (λ z. q_from plain (d.kind inst) (d.preset inst) z now u v) a.stored
    ∙ ap₂ (λ m n. q_from plain (d.kind inst) (d.preset inst) (get_or h.kept.blocks inst (new_block Ton)) now m n) e f
    ∙ q_stays d now inst (get_or h.kept.blocks inst (new_block Ton)) x y s
    ∙ sym (q_stays d since inst (get_or h.kept.blocks inst (new_block Ton)) x y t)
through_same d now since h g (Lower inst linked) x y u v e f a s t = ap₂ plain.meet e (closed_same h g (Lower inst linked) a)
through_same d now since h g (Jump target) x y u v e f a s t = ap₂ plain.meet e (closed_same h g (Jump target) a)
through_same d now since h g Return x y u v e f a s t = ap₂ plain.meet e (closed_same h g Return a)

all_values : (f : Frame Bool) → AreValues plain AnyBool f
all_values f = record { values = λ i. tt; ends = λ i. tt }

the_column : (row column : ℕ) → row < ROWS → (ROWS * column + row) / ROWS ≡ column
the_column row column h = omega arith

the_row : (row column : ℕ) → row < ROWS → (ROWS * column + row) % ROWS ≡ row
the_row row column h = omega arith

next_column : (row column : ℕ) → row + 1 < ROWS → (ROWS * column + row + 1) / ROWS ≡ column
next_column row column h = omega arith

next_row : (row column : ℕ) → row + 1 < ROWS → (ROWS * column + row + 1) % ROWS ≡ row + 1
next_row row column h = omega arith

lower_same : (b : Bool) (x y : Bool) → (b ≡ true → x ≡ y) → lower plain b x ≡ lower plain b y
lower_same true x y h = h refl
lower_same false x y h = refl

-- where nothing changes at either moment power flows alike
module _ (d : Diagram) (sound : IsSound d) (now since j : ℕ) (h g : Held) (alike : (e : ℕ) → AlikeAt h g (d.cell j e))
    (s : (e : ℕ) → Stays d now (frame_of h) h (d.cell j e) (link_at d since j h e) (second plain d j (link_at d since j h) e))
    (t : (e : ℕ) → Stays d since (frame_of h) h (d.cell j e) (link_at d since j h e) (second plain d j (link_at d since j h) e)) where
  abbrev was : ℕ → ℕ → Bool
  was = left_link plain (circuit plain d h.kept since j (frame_of h))

  abbrev is : ℕ → ℕ → Bool
  is = left_link plain (circuit plain d g.kept now j (frame_of g))

  link_is : (row column : ℕ) → row < ROWS → link_at d since j h (ROWS * column + row) ≡ was row column
  link_is row column lt = ap₂ was (the_row row column lt) (the_column row column lt)

  second_is : (row column : ℕ) → row < ROWS → second plain d j (link_at d since j h) (ROWS * column + row) ≡ lower plain (d.linked j (ROWS * column + row)) (was (row + 1) column)
  second_is row column lt =
      lower_same (d.linked j (ROWS * column + row)) _ _ (λ on.
      let below : (ROWS * column + row) % ROWS + 1 < ROWS = (sound.linked j (ROWS * column + row) on).0 in
      let inside : row + 1 < ROWS = omega (arith, below, the_row row column lt) in
      ap₂ was (next_row row column inside) (next_column row column inside))

  stays_at : (moment : ℕ) → ((e : ℕ) → Stays d moment (frame_of h) h (d.cell j e) (link_at d since j h e) (second plain d j (link_at d since j h) e)) → (row column : ℕ) → row < ROWS
      → Stays d moment (frame_of h) h (d.cell j (ROWS * column + row)) (was row column) (lower plain (d.linked j (ROWS * column + row)) (was (row + 1) column))
  stays_at moment each row column lt =
      subst (λ y. Stays d moment (frame_of h) h (d.cell j (ROWS * column + row)) (was row column) y) (second_is row column lt)
      (subst (λ x. Stays d moment (frame_of h) h (d.cell j (ROWS * column + row)) x (second plain d j (link_at d since j h) (ROWS * column + row))) (link_is row column lt)
      (each (ROWS * column + row)))

  columns_same : (column row : ℕ) → is row column ≡ was row column
  unfolding routes route_value join_all
  columns_same zero row = refl
  columns_same (suc column) row =
      column_next plain AnyBool plain_lattice d g.kept now j (frame_of g) (all_values (frame_of g)) row column
      ∙ fed_same plain AnyBool plain_lattice (d.feeds j row (suc column)) (d.feeds j row (suc column)) _ _ ROWS (λ q lt. refl)
      (λ q lt on. through_same d now since h g (d.cell j (ROWS * column + q)) _ _ _ _ (columns_same column q)
      (ap (lower plain (d.linked j (ROWS * column + q))) (columns_same column (q + 1))) (alike (ROWS * column + q)) (stays_at now s q column lt) (stays_at since t q column lt))
      ∙ sym (column_next plain AnyBool plain_lattice d h.kept since j (frame_of h) (all_values (frame_of h)) row column)

  pub links_same : (e : ℕ) → link_at d now j g e ≡ link_at d since j h e
  links_same e = columns_same (e / ROWS) (e % ROWS)

-- ---- effects
set_still : {A : Type 0} (xs ys : List A) (i : ℕ) (x d : A) → length ys ≡ length xs → get_or ys i d ≡ get_or xs i d → set xs i x ≡ xs → set ys i x ≡ ys
set_still xs [] i x d l e s = refl
set_still [] (y ∷ ys) i x d l e s = cc
set_still (z ∷ xs) (y ∷ ys) zero x d l e s = cc
set_still (z ∷ xs) (y ∷ ys) (suc i) x d l e s = ap (λ zs. y ∷ zs) (set_still xs ys i x d (omega arith) e cc)

put_still : {A : Type 0} (xs ys : List A) (m : Option ℕ) (x d : A) → length ys ≡ length xs → at ys m d ≡ at xs m d → put_in xs m x ≡ xs → put_in ys m x ≡ ys
put_still xs ys None x d l e s = refl
put_still xs ys (Some i) x d l e s = set_still xs ys i x d l e s

-- a cell that changes nothing in one of two alike states changes nothing in the other
stays_same : (d : Diagram) (now : ℕ) (h g : Held) (c : Cell) (x y u v : Bool) → SameLengths g h → AlikeAt h g c
    → u ≡ x → v ≡ y → Stays d now (frame_of h) h c x y → Stays d now (frame_of g) g c u v
stays_same d now h g (Contact mode operand memory) x y u v l a e f k =
    ap (λ z. held g.values (put_in g.kept.memories memory z) g.kept.blocks) a.read
    ∙ ap (λ ms. held g.values ms g.kept.blocks) (put_still h.kept.memories g.kept.memories memory (operand_value plain (frame_of h) operand) false l.memories a.memory (ap (λ (z : Held). z.kept.memories) k))
stays_same d now h g (Coil mode var memory) x y u v l a e f k =
    let old = stored_by plain mode x (at h.kept.memories memory false) (get_or h.values var false) in
    let new : stored_by plain mode u (at g.kept.memories memory false) (get_or g.values var false) ≡ old =
    ap (λ z. stored_by plain mode z (at g.kept.memories memory false) (get_or g.values var false)) e
    ∙ ap₂ (λ m o. stored_by plain mode x m o) a.memory a.written in
    ap (λ z. held (set g.values var z) (put_in g.kept.memories memory u) g.kept.blocks) new
    ∙ ap (λ vs. held vs (put_in g.kept.memories memory u) g.kept.blocks) (set_still h.values g.values var old false l.values a.written (ap (λ (z : Held). z.values) k))
    ∙ ap (λ z. held g.values (put_in g.kept.memories memory z) g.kept.blocks) e
    ∙ ap (λ ms. held g.values ms g.kept.blocks) (put_still h.kept.memories g.kept.memories memory x false l.memories a.memory (ap (λ (z : Held). z.kept.memories) k))
stays_same d now h g (Block inst) x y u v l a e f k =
    ap (λ z. step (d.kind inst) (d.preset inst) z u v now) a.stored
    ∙ ap₂ (λ m n. step (d.kind inst) (d.preset inst) (get_or h.kept.blocks inst (new_block Ton)) m n now) e f
    ∙ k ∙ sym a.stored
stays_same d now h g _ x y u v l a e f k = refl

stays_changed : (d : Diagram) (now : ℕ) (start : Frame Bool) (h : Held) (c : Cell) (x y : Bool) → Stays d now start h c x y → changed d now start c x y h ≡ h
stays_changed d now start h (Contact mode operand memory) x y k = k
stays_changed d now start h (Coil mode var memory) x y k = k
stays_changed d now start h (Block inst) x y k =
    ap (λ z. held h.values h.kept.memories (set h.kept.blocks inst z)) k ∙ ap (held h.values h.kept.memories) (set-get_or h.kept.blocks inst (new_block Ton))
stays_changed d now start h _ x y k = refl

next_same : (d : Diagram) (now then j : ℕ) (h g : Held) → ((e : ℕ) → link_at d now j g e ≡ link_at d then j h e) → next_rung d now j g ≡ next_rung d then j h
next_same d now then j h g same = after_same j (d.jump j) (link_at d now j g) (link_at d then j h) (λ place target e. same place)

-- a rung that rests in one of two alike states rests in the other
pub rests_alike : (d : Diagram) → IsSound d → (moment j n : ℕ) (h g : Held) → SameLengths g h → ((e : ℕ) → AlikeAt h g (d.cell j e)) → Rests d moment h j n → Rests d moment g j n
rests_alike d sound moment j n h g l alike r =
    let first : (e : ℕ) → Stays d r.since (frame_of h) h (d.cell j e) (link_at d r.since j h e) (second plain d j (link_at d r.since j h) e) = λ e. r.still r.since e (omega arith) in
    let same : (e : ℕ) → link_at d r.since j g e ≡ link_at d r.since j h e = links_same d sound r.since r.since j h g alike first first in
    record {
      since = r.since;
      begun = r.begun;
      still = λ now e le. stays_same d now h g (d.cell j e) _ _ _ _ l (alike e) (same e) (ap (lower plain (d.linked j e)) (same (e + 1))) (r.still now e le);
      next = next_same d r.since r.since j h g same ∙ r.next;
    }

-- ---- a rung whose cells change nothing leaves the state as it was
changes_still : (d : Diagram) (now j : ℕ) (h : Held) (links : ℕ → Bool) → ((e : ℕ) → changed d now (frame_of h) (d.cell j e) (links e) (second plain d j links e) h ≡ h)
    → (n : ℕ) → changes d now j (frame_of h) links n h ≡ h
unfolding changes
changes_still d now j h links still zero = refl
changes_still d now j h links still (suc n) =
    ap (λ z. changed d now (frame_of h) (d.cell j n) (links n) (second plain d j links n) z) (changes_still d now j h links still n) ∙ still n

module _ (d : Diagram) (sound : IsSound d) (moment now j n : ℕ) (h : Held) (le : moment ≤ now) (r : Rests d moment h j n) where
  same_links : (e : ℕ) → link_at d now j h e ≡ link_at d r.since j h e
  same_links =
      let begun = r.begun in
      let later : r.since ≤ now = omega arith in
      links_same d sound now r.since j h h (λ e. record { read = refl; written = refl; memory = refl; stored = refl })
      (λ e. r.still now e later) (λ e. r.still r.since e (omega arith))

  pub rest_is_still : evaluated d now j h ≡ h
  rest_is_still =
      let begun = r.begun in
      let later : r.since ≤ now = omega arith in
      changes_still d now j h (link_at d now j h) (λ e.
      stays_changed d now (frame_of h) h (d.cell j e) _ _
      (stays_same d now h h (d.cell j e) _ _ _ _ (record { values = refl; memories = refl; blocks = refl }) (record { read = refl; written = refl; memory = refl; stored = refl })
      (same_links e) (ap (lower plain (d.linked j e)) (same_links (e + 1))) (r.still now e later))) PLACES

  pub rest_goes_on : next_rung d now j h ≡ n
  rest_goes_on = next_same d now r.since j h h same_links ∙ r.next

pub rests_later : (d : Diagram) (moment now j n : ℕ) (h : Held) → moment ≤ now → Rests d moment h j n → Rests d now h j n
rests_later d moment now j n h le r = let begun = r.begun in record { since = r.since; begun = omega arith; still = r.still; next = r.next }

-- what changes nothing from now on rests
pub comes_to_rest : (d : Diagram) (now j : ℕ) (h : Held)
    → ((e later : ℕ) → now ≤ later → Stays d later (frame_of h) h (d.cell j e) (link_at d now j h e) (second plain d j (link_at d now j h) e))
    → Rests d now h j (next_rung d now j h)
comes_to_rest d now j h still = record { since = now; begun = omega arith; still = λ later e le. still e later le; next = refl }

-- ---- what was not disturbed is alike

-- What a rung uses, by the marks, and what is its own, is in g as it was in h.
pub record IsUndisturbed (d : Diagram) (u : UsedBy) (j : ℕ) (h g : Held) : Type 0 where
  pub lengths : SameLengths g h
  pub values : (v : ℕ) → marked u.variables v j ≡ true → get_or g.values v false ≡ get_or h.values v false
  pub outputs : (i : ℕ) → marked u.outputs i j ≡ true → get_or (map q_of g.kept.blocks) i false ≡ get_or (map q_of h.kept.blocks) i false
  pub memories : (e : ℕ) → memory_of g.kept (d.cell j e) ≡ memory_of h.kept (d.cell j e)
  pub blocks : (e : ℕ) → stored_of g.kept (d.cell j e) ≡ stored_of h.kept (d.cell j e)

same_number : (n : ℕ) → nat_eq n n ≡ true
same_number n = grind (arith, nat_tests)

alike_cell : (h g : Held) (c : Cell) → ((v : ℕ) → uses_variable v c ≡ true → get_or g.values v false ≡ get_or h.values v false)
    → ((i : ℕ) → uses_output i c ≡ true → get_or (map q_of g.kept.blocks) i false ≡ get_or (map q_of h.kept.blocks) i false)
    → memory_of g.kept c ≡ memory_of h.kept c → stored_of g.kept c ≡ stored_of h.kept c → AlikeAt h g c
alike_cell h g (Contact mode (Var var) memory) v o m s = record { read = v var (same_number var); written = refl; memory = m; stored = s }
alike_cell h g (Contact mode (Output inst) memory) v o m s = record { read = o inst (same_number inst); written = refl; memory = m; stored = s }
alike_cell h g (Coil mode var memory) v o m s = record { read = refl; written = v var (same_number var); memory = m; stored = s }
alike_cell h g _ v o m s = record { read = refl; written = refl; memory = m; stored = s }

pub rests_on : (d : Diagram) → IsSound d → (u : UsedBy) → AreUsers d u → (moment j n : ℕ) → j < d.rungs → (h g : Held) → IsUndisturbed d u j h g → Rests d moment h j n → Rests d moment g j n
rests_on d sound u users moment j n lt h g is r =
    rests_alike d sound moment j n h g is.lengths
    (λ e. alike_cell h g (d.cell j e) (λ v t. is.values v (users.variables v j e lt t)) (λ i t. is.outputs i (users.outputs i j e lt t)) (is.memories e) (is.blocks e)) r
