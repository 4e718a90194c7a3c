-- There is power where it ends nowhere on one of the routes.
use Rattle.std.proofs.Common.{◌≡◌, ◌∙◌, ℕ, ◌+◌, ◌*◌, ◌/◌, ◌%◌, ◌<◌, Bool, true, false, ◌&&◌, ◌||◌, cond, List, [], ◌∷◌, Option, Some, None, suc, zero, refl, ap, ap₂, sym, arith, is_none, nat_lt}
use Rattle.std.specs.List.{list_any}
use Rattle.diagram_program.specs.declared.geometry.TheConstants.{ROWS, COLUMNS, PLACES}
use Rattle.diagram_program.specs.declared.cell.Cell.{Cell}
use Rattle.diagram_program.specs.declared.cell.Cell.TheVariants.{Contact}
use Rattle.diagram_program.specs.Program.{Drawing, feeds, is_block}
use Rattle.scan_signals.specs.Truth.{AnyBool, plain}
use Rattle.scan_signals.specs.TruthLaws.{plain_lattice}
use Rattle.scan_cycle.specs.declared.seen.Mark.{Mark}
use Rattle.scan_cycle.specs.Cells.{Diagram, Frame, closed, memory_of, q_here}
use Rattle.scan_cycle.specs.Gating.{AreValues, join_where}
use Rattle.scan_cycle.specs.Marking.{mark_of}
use Rattle.scan_cycle.specs.Programs.{diagram_of, IsSound}
use Rattle.scan_cycle.specs.Routes.{Route, left_link}
use Rattle.scan_cycle.specs.Rung.{Held, circuit, evaluated, frame_of, link_at, lower, second}
use Rattle.scan_cycle.specs.RungByRung.{Scanned, scanned}
use Rattle.scan_cycle.specs.Seen.{AreMarks, is_on, lets_through, mark_at, mark_in, mark_passed}
use Rattle.scan_cycle.proofs.Feeders.{cell_is, feeds_is}
use Rattle.scan_cycle.proofs.Links.{column_next, first_column}
use Rattle.text_power.specs.Cuts.{PowerComesByRoutes}
use Rattle.text_power.specs.Ends.{any_below, any_past, any_to, is_live, is_nowhere}
use Rattle.text_power.specs.Why.{end_of, is_closed}
use Rattle.text_power.proofs.RouteEnds.{any_before, live_first, past_live, to_place, row_of, column_of}
use Rattle.text_power.proofs.Told.{begun, told}

-- ---- places

-- ---- a rung that is evaluated

-- The marks of rung j are those of its evaluation from the state `start`.
abbrev pub AreOf : Drawing → ℕ → ℕ → Held → List Mark → Type 0
AreOf p now j start marks = (place : ℕ) → place < PLACES → mark_at marks j place ≡ mark_in (diagram_of p) now j start place

is_evaluated : (b : Bool) (passed seen : Mark) → passed.evaluated ≡ false → (cond b passed seen).evaluated ≡ true → b ≡ false
is_evaluated true passed seen is_not is = cc
is_evaluated false passed seen is_not is = refl

evaluated_one : (d : Diagram) (now j : ℕ) (s : Scanned) (place : ℕ) → (mark_of d now j s place).evaluated ≡ true → nat_lt j s.resume ≡ false
evaluated_one d now j s place is =
    is_evaluated (nat_lt j s.resume) (mark_passed s.held (d.cell j place)) (mark_in d now j s.held place) refl is

evaluated_all : (d : Diagram) (now j : ℕ) (s : Scanned) (place : ℕ) → nat_lt j s.resume ≡ false → mark_of d now j s place ≡ mark_in d now j s.held place
evaluated_all d now j s place reached = ap (λ b. cond b (mark_passed s.held (d.cell j place)) (mark_in d now j s.held place)) reached

pub evaluated_from : (p : Drawing) → IsSound (diagram_of p) → (now : ℕ) (inputs : List Bool) (h : Held) (marks : List Mark) → AreMarks (diagram_of p) now inputs h marks
    → (j place : ℕ) → j < p.rungs → place < PLACES → (mark_at marks j place).evaluated ≡ true → (start : Held) × AreOf p now j start marks
evaluated_from p sound now inputs h marks seen j place below within is =
    let d = diagram_of p in
    let s = scanned d now (begun p inputs h) j in
    let here = told p sound now inputs h marks seen j place below within in
    let reached = evaluated_one d now j s place (sym (ap (λ (m : Mark). m.evaluated) here) ∙ is) in
    (s.held, λ at lt. told p sound now inputs h marks seen j at below lt ∙ evaluated_all d now j s at reached)

-- ---- one cell

-- A mark tells whether its cell is closed.
closed_is : (f : Frame Bool) (memory : Bool) (h : Held) (c : Cell) (m : Mark) → m.on ≡ is_on (closed plain f memory c) h c → is_closed m c ≡ closed plain f memory c
closed_is f memory h (Contact mode operand number) m e = e
closed_is f memory h _ m e = refl

pick_same : (b x y z : Bool) → y ≡ z → cond b (cond b x y) z ≡ cond b x y
pick_same true x y z e = refl
pick_same false x y z e = sym e

where_linked : (b x y : Bool) → (b ≡ true → x ≡ y) → cond b x false ≡ cond b y false
where_linked true x y e = e refl
where_linked false x y e = refl

-- the OR over the rows that feed a cell
column_same : (passes feeding f g : ℕ → Bool) (n : ℕ) → ((q : ℕ) → passes q ≡ feeding q) → ((q : ℕ) → q < n → f q ≡ g q)
    → join_where plain passes f n ≡ any_below (λ q. feeding q && g q) n
unfolding join_where any_below
column_same passes feeding f g zero fed e = refl
column_same passes feeding f g (suc n) fed e =
    ap₂ (λ b c. cond (passes n) (b || c) b) (column_same passes feeding f g n fed (λ q lt. e q (omega (arith, lt)))) (e n (omega arith))
    ∙ ap (λ b. cond b (any_below (λ q. feeding q && g q) n || g n) (any_below (λ q. feeding q && g q) n)) (fed n)
    ∙ add (feeding n) (any_below (λ q. feeding q && g q) n) (g n)
  where
    add : (b x y : Bool) → cond b (x || y) x ≡ (x || (b && y))
    add true x y = refl
    add false true y = refl
    add false false y = refl

any_values : (f : Frame Bool) → AreValues plain AnyBool f
any_values f = record { values = λ i. tt; ends = λ i. tt }

-- ---- from column to column

module _ (p : Drawing) (sound : IsSound (diagram_of p)) (now j : ℕ) (start : Held) (marks : List Mark) (seen : AreOf p now j start marks) where
  abbrev d : Diagram
  d = diagram_of p

  -- the left link at a row and a column
  abbrev left : ℕ → ℕ → Bool
  left row column = left_link plain (circuit plain d start.kept now j (frame_of start)) row column

  left_is : (row column : ℕ) → row < ROWS → link_at d now j start (ROWS * column + row) ≡ left row column
  left_is row column rows = ap₂ left (row_of row column rows) (column_of row column rows)

  second_is : (row column : ℕ) → row < ROWS → second plain d j (link_at d now j start) (ROWS * column + row) ≡ lower plain (d.linked j (ROWS * column + row)) (left (row + 1) column)
  second_is row column rows =
      where_linked (d.linked j (ROWS * column + row)) _ _ (λ linked.
      let next = (sound.linked j (ROWS * column + row) linked).0 in
      let row_below : (ROWS * column + row + 1) % ROWS ≡ row + 1 = omega (arith, rows, next) in
      let column_below : (ROWS * column + row + 1) / ROWS ≡ column = omega (arith, rows, next) in
      ap₂ left row_below column_below)

  -- what a cell lets through
  past_is : (column row : ℕ) → row < ROWS
      → cond (is_block (d.cell j (ROWS * column + row)))
      (q_here plain d start.kept now (d.cell j (ROWS * column + row)) (left row column) (lower plain (d.linked j (ROWS * column + row)) (left (row + 1) column)))
      (left row column && closed plain (frame_of start) (memory_of start.kept (d.cell j (ROWS * column + row))) (d.cell j (ROWS * column + row)))
      ≡ lets_through d now j start (ROWS * column + row)
  past_is column row rows =
      let cell = d.cell j (ROWS * column + row) in
      let passes = closed plain (frame_of start) (memory_of start.kept cell) cell in
      ap₂ (λ x y. cond (is_block cell) (q_here plain d start.kept now cell x y) (x && passes)) (sym (left_is row column rows)) (sym (second_is row column rows))

  live_past : (column row : ℕ) → row < ROWS → column < COLUMNS → link_at d now j start (ROWS * column + row) ≡ any_to (is_live p marks j) p j (ROWS * column + row)
      → any_past (is_live p marks j) p j row column ≡ lets_through d now j start (ROWS * column + row)
  live_past column row rows columns e =
      let place = ROWS * column + row in
      let within : place < PLACES = omega (arith, rows, columns) in
      let cell = d.cell j place in
      let m = mark_in d now j start place in
      past_live p marks j row column m cell (is_block cell) (link_at d now j start place) rows (cell_is p j place within) (sym (seen place within)) refl e
      ∙ pick_same (is_block cell) _ _ _ (ap (λ b. link_at d now j start place && b) (sym (closed_is (frame_of start) (memory_of start.kept cell) (evaluated d now j start) cell m refl)))

  pub by_routes : (column : ℕ) → column < COLUMNS → (row : ℕ) → row < ROWS → link_at d now j start (ROWS * column + row) ≡ any_to (is_live p marks j) p j (ROWS * column + row)
  by_routes zero columns row rows =
      let first : ROWS * 0 + row < ROWS = omega (arith, rows) in
      first_column plain AnyBool plain_lattice d start.kept now j (frame_of start) (any_values (frame_of start)) (ROWS * 0 + row) first
      ∙ live_first p marks j (ROWS * 0 + row) first
  by_routes (suc column) columns row rows =
      let before : column < COLUMNS = omega (arith, columns) in
      left_is row (suc column) rows
      ∙ column_next plain AnyBool plain_lattice d start.kept now j (frame_of start) (any_values (frame_of start)) row column
      ∙ column_same (d.feeds j row (suc column)) (feeds p j row (suc column)) _ (λ from. any_past (is_live p marks j) p j from column) ROWS (feeds_is p j row (suc column))
      (λ from lt. past_is column from lt ∙ sym (live_past column from lt before (by_routes column before from lt)))
      ∙ sym (any_before (is_live p marks j) p j row column)
      ∙ sym (to_place (is_live p marks j) p j row (suc column) rows)

-- ---- at a place

nowhere_is : (o : Option ℕ) → is_nowhere o ≡ is_none o
nowhere_is None = refl
nowhere_is (Some m) = refl

live_none : (p : Drawing) (marks : List Mark) (j : ℕ) (rs : List Route) → list_any (is_live p marks j) rs ≡ list_any (λ r. is_none (end_of p marks j r)) rs
live_none p marks j [] = refl
live_none p marks j (r ∷ rs) = ap₂ (λ a b. a || b) (nowhere_is (end_of p marks j r)) (live_none p marks j rs)

-- There is power exactly where one of the routes is live.
pub power_at : (p : Drawing) → IsSound (diagram_of p) → (now : ℕ) (inputs : List Bool) (h : Held) (marks : List Mark) → AreMarks (diagram_of p) now inputs h marks
    → (j row column : ℕ) → j < p.rungs → row < ROWS → column < COLUMNS → (mark_at marks j (ROWS * column + row)).evaluated ≡ true
    → (mark_at marks j (ROWS * column + row)).left ≡ any_to (is_live p marks j) p j (ROWS * column + row)
power_at p sound now inputs h marks seen j row column below rows columns is =
    let within : ROWS * column + row < PLACES = omega (arith, rows, columns) in
    let from = evaluated_from p sound now inputs h marks seen j (ROWS * column + row) below within is in
    ap (λ (m : Mark). m.left) (from.1 (ROWS * column + row) within) ∙ by_routes p sound now j from.0 marks from.1 column columns row rows

pub power_comes : (p : Drawing) → IsSound (diagram_of p) → PowerComesByRoutes p
power_comes p sound = λ now inputs h marks seen rung row column below rows columns is.
    power_at p sound now inputs h marks seen rung row column below rows columns is
    ∙ to_place (is_live p marks rung) p rung row column rows
    ∙ live_none p marks rung _
