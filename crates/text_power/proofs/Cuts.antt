-- As long as the places where power ends let none through, there is none.
use Rattle.std.proofs.Common.{◌≡◌, ◌∙◌, ℕ, ◌+◌, ◌*◌, ◌<◌, ◌==◌, Bool, true, false, ◌&&◌, ◌||◌, cond, not, List, inl, inr, suc, zero, ap, arith, refl, subst, sym, nat_lt}
use Rattle.std.proofs.lemmas.Bool.{and_from, cases_lt}
use Rattle.std.proofs.lemmas.Bool.Decides.{nat_tests}
use Rattle.diagram_program.specs.declared.geometry.TheConstants.{ROWS, PLACES}
use Rattle.diagram_program.specs.Program.{Drawing, cell_of, feeds, is_block}
use Rattle.scan_cycle.specs.declared.seen.Mark.{Mark}
use Rattle.scan_cycle.specs.Cells.{Diagram}
use Rattle.scan_cycle.specs.Marking.{mark_of}
use Rattle.scan_cycle.specs.Programs.{diagram_of, IsSound}
use Rattle.scan_cycle.specs.Rung.{Held}
use Rattle.scan_cycle.specs.RungByRung.{Scanned, scanned}
use Rattle.scan_cycle.specs.Seen.{AreMarks, mark_at, mark_in, mark_passed}
use Rattle.text_power.specs.Cuts.{CutsHold, is_cut}
use Rattle.text_power.specs.Ends.{any_below, any_past, any_to, is_ended, is_live}
use Rattle.text_power.specs.Why.{is_closed}
use Rattle.text_power.proofs.PowerRoutes.{power_at}
use Rattle.text_power.proofs.RouteEnds.{any_before, live_first, past_ended, past_live, to_place}
use Rattle.text_power.proofs.Told.{begun, told}

-- ---- tests of the numbers below n

none_below : (f g : ℕ → Bool) (n : ℕ) → ((q : ℕ) → q < n → f q ≡ false → g q ≡ false) → any_below f n ≡ false → any_below g n ≡ false
unfolding any_below
none_below f g zero each none = refl
none_below f g (suc n) each none =
    both (any_below g n) (g n)
    (none_below f g n (λ q lt. each q (omega (arith, lt))) (first (any_below f n) (f n) none))
    (each n (omega arith) (second (any_below f n) (f n) none))
  where
    first : (a b : Bool) → (a || b) ≡ false → a ≡ false
    first true b e = e
    first false b e = refl

    second : (a b : Bool) → (a || b) ≡ false → b ≡ false
    second true b e = cc
    second false b e = e

    both : (a b : Bool) → a ≡ false → b ≡ false → (a || b) ≡ false
    both a b x y = cc

found_below : (f : ℕ → Bool) (n q : ℕ) → q < n → f q ≡ true → any_below f n ≡ true
unfolding any_below
found_below f zero q lt e = absurd (omega arith)
found_below f (suc n) q lt e =
    elim (cases_lt q n) [
      | inl before ↦ left (any_below f n) (f n) (found_below f n q before e)
      | inr past ↦
          let here : n ≡ q = omega (arith, lt, past) in right (any_below f n) (f n) (ap f here ∙ e)
    ]
  where
    left : (a b : Bool) → a ≡ true → (a || b) ≡ true
    left a b x = cc

    right : (a b : Bool) → b ≡ true → (a || b) ≡ true
    right true b x = refl
    right false b x = x

fed_only : (fed x y : Bool) → (fed ≡ true → x ≡ false → y ≡ false) → (fed && x) ≡ false → (fed && y) ≡ false
fed_only true x y h e = h refl e
fed_only false x y h e = refl

-- ---- past a cell

-- Past a cell: whether one of the routes is live, and whether power ends at a place on one of them, `here` where that is the cell's own.
abbrev live_of : Bool → Bool → Bool → Bool → Bool
live_of block right closed live = cond block right (live && closed)

abbrev ended_of : Bool → Bool → Bool → Bool → Bool → Bool → Bool
ended_of block right closed live ended here = cond block (not right && here) (ended || ((live && not closed) && here))

-- Where no route past a cell is live in one scan, and each place where power ends on these is cut in another, none is live there.
past_cut : (block right closed live other_right other_closed other_live : Bool) (ended here : ℕ → Bool) (cut : ℕ → Bool) (place : ℕ)
    → here place ≡ true → cut place ≡ cond block (not other_right) (not other_closed)
    → live_of block right closed live ≡ false
    → ((n : ℕ) → ended_of block right closed live (ended n) (here n) ≡ true → cut n ≡ true)
    → ((block ≡ false) → live ≡ false → ((n : ℕ) → ended n ≡ true → cut n ≡ true) → other_live ≡ false)
    → live_of block other_right other_closed other_live ≡ false
past_cut true true closed live x y z ended here cut place at is dead ends before = cc
past_cut true false closed live x y z ended here cut place at is dead ends before = off x (sym is ∙ ends place at)
  where
    off : (b : Bool) → not b ≡ true → b ≡ false
    off true e = cc
    off false e = refl
past_cut false right true true x y z ended here cut place at is dead ends before = cc
past_cut false right false true x y z ended here cut place at is dead ends before =
    none z y (sym is ∙ ends place (last (ended place) (here place) at))
  where
    none : (a b : Bool) → not b ≡ true → (a && b) ≡ false
    none true true e = cc
    none true false e = refl
    none false b e = refl

    last : (a b : Bool) → b ≡ true → (a || b) ≡ true
    last true b e = refl
    last false b e = e
past_cut false right closed false x y z ended here cut place at is dead ends before =
    ap (λ b. b && y) (before refl refl (λ n e. ends n (ap (λ b. b || (false && here n)) e)))

same_number : (n : ℕ) → (n == n) ≡ true
same_number n = grind (arith, nat_tests)

-- ---- two scans, from column to column

module _ (p : Drawing) (j : ℕ) (marks others : List Mark) where
  -- The places where power ends on the way to a place are cut in the other scan.
  abbrev AreCut : ℕ → Type 0
  AreCut at = (n : ℕ) → any_to (is_ended n p marks j) p j at ≡ true → is_cut (mark_at others j n) (cell_of p j n) ≡ true

  cuts_past : (column row : ℕ) → row < ROWS
      → (any_to (is_live p marks j) p j (ROWS * column + row) ≡ false → AreCut (ROWS * column + row) → any_to (is_live p others j) p j (ROWS * column + row) ≡ false)
      → any_past (is_live p marks j) p j row column ≡ false
      → ((n : ℕ) → any_past (is_ended n p marks j) p j row column ≡ true → is_cut (mark_at others j n) (cell_of p j n) ≡ true)
      → any_past (is_live p others j) p j row column ≡ false
  cuts_past column row rows before dead ends =
      let place = ROWS * column + row in
      let cell = cell_of p j place in
      let m = mark_at marks j place in
      let o = mark_at others j place in
      let live = any_to (is_live p marks j) p j place in
      let ended = λ (n : ℕ). any_to (is_ended n p marks j) p j place in
      past_live p others j row column o cell (is_block cell) (any_to (is_live p others j) p j place) rows refl refl refl refl
      ∙ past_cut (is_block cell) m.right (is_closed m cell) live o.right (is_closed o cell) (any_to (is_live p others j) p j place) ended (λ n. place == n)
      (λ n. is_cut (mark_at others j n) (cell_of p j n)) place (same_number place) refl
      (sym (past_live p marks j row column m cell (is_block cell) live rows refl refl refl refl) ∙ dead)
      (λ n e. ends n (past_ended p marks j n row column m cell (is_block cell) live (ended n) rows refl refl refl refl refl ∙ e))
      (λ b none cut. before none cut)

  cuts_to : (column row : ℕ) → row < ROWS → any_to (is_live p marks j) p j (ROWS * column + row) ≡ false → AreCut (ROWS * column + row)
      → any_to (is_live p others j) p j (ROWS * column + row) ≡ false
  cuts_to zero row rows dead cut =
      let first : ROWS * 0 + row < ROWS = omega (arith, rows) in
      let power = live_first p marks j (ROWS * 0 + row) first in
      cc
  cuts_to (suc column) row rows dead cut =
      to_place (is_live p others j) p j row (suc column) rows
      ∙ any_before (is_live p others j) p j row column
      ∙ none_below (λ from. feeds p j row (suc column) from && any_past (is_live p marks j) p j from column) _ ROWS
      (λ from lt. fed_only (feeds p j row (suc column) from) _ _ (λ fed none.
      cuts_past column from lt (cuts_to column from lt) none (λ n ended.
      cut n (to_place (is_ended n p marks j) p j row (suc column) rows
      ∙ any_before (is_ended n p marks j) p j row column
      ∙ found_below (λ q. feeds p j row (suc column) q && any_past (is_ended n p marks j) p j q column) ROWS from lt (and_from _ _ fed ended)))))
      (sym (to_place (is_live p marks j) p j row (suc column) rows ∙ any_before (is_live p marks j) p j row column) ∙ dead)

-- ---- at a place

dead_unless : (b : Bool) (passed seen : Mark) → passed.left ≡ false → seen.evaluated ≡ true
    → ((cond b passed seen).evaluated ≡ true → (cond b passed seen).left ≡ false) → (cond b passed seen).left ≡ false
dead_unless true passed seen off is h = off
dead_unless false passed seen off is h = h is

none_left : (d : Diagram) (now j : ℕ) (s : Scanned) (place : ℕ) → ((mark_of d now j s place).evaluated ≡ true → (mark_of d now j s place).left ≡ false)
    → (mark_of d now j s place).left ≡ false
none_left d now j s place h = dead_unless (nat_lt j s.resume) (mark_passed s.held (d.cell j place)) (mark_in d now j s.held place) refl refl h

-- A rung that is passed over has no power.
unless_evaluated : (p : Drawing) → IsSound (diagram_of p) → (now : ℕ) (inputs : List Bool) (h : Held) (marks : List Mark) → AreMarks (diagram_of p) now inputs h marks
    → (j place : ℕ) → j < p.rungs → place < PLACES → ((mark_at marks j place).evaluated ≡ true → (mark_at marks j place).left ≡ false)
    → (mark_at marks j place).left ≡ false
unless_evaluated p sound now inputs h marks seen j place below within e =
    let is = told p sound now inputs h marks seen j place below within in
    let s = scanned (diagram_of p) now (begun p inputs h) j in
    subst (λ (m : Mark). m.left ≡ false) (sym is)
    (none_left (diagram_of p) now j s place (subst (λ (m : Mark). m.evaluated ≡ true → m.left ≡ false) is e))

pub cuts_hold : (p : Drawing) → IsSound (diagram_of p) → CutsHold p
cuts_hold p sound = λ now inputs h marks seen other_now other_inputs other_h others other_seen rung row column below rows columns is dead cut.
    let place = ROWS * column + row in
    let within : place < PLACES = omega (arith, rows, columns) in
    let before = power_at p sound now inputs h marks seen rung row column below rows columns is in
    unless_evaluated p sound other_now other_inputs other_h others other_seen rung place below within (λ evaluated.
    power_at p sound other_now other_inputs other_h others other_seen rung row column below rows columns evaluated
    ∙ cuts_to p rung marks others column row rows (sym before ∙ dead)
    (λ n ended. cut n (sym (to_place (is_ended n p marks rung) p rung row column rows) ∙ ended)))
