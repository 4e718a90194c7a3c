-- Power through a network, step by step.
use Rattle.std.proofs.Common.{◌≡◌, ◌∙◌, ℕ, zero, suc, ◌+◌, ◌/◌, ◌%◌, ◌<◌, Bool, true, false, not, cond, ◌&&◌, ◌||◌, ◌==◌, List, Option, ap, ap₂, sym, refl, subst, add-one, arith, inl, inr}
use Rattle.std.proofs.Math.Bool.{and-true}
use Rattle.std.proofs.lemmas.Bool.{cases_eq, cond-true, cond-false, eq-eqb, ne_eqb}
use Rattle.std.specs.Bool.{beq}
use Rattle.diagram_program.specs.declared.geometry.TheConstants.{ROWS, COLUMNS}
use Rattle.diagram_program.specs.declared.cell.Cell.{Cell}
use Rattle.diagram_program.specs.declared.cell.Cell.TheVariants.{Wire, Contact}
use Rattle.diagram_program.specs.declared.cell.Operand as diagram
use Rattle.diagram_program.specs.declared.mode.Mode.{Mode}
use Rattle.diagram_program.specs.declared.mode.Mode.TheVariants.{Plain, Negated}
use Rattle.diagram_program.specs.Program.{Drawing, feeds, is_block, site_at}
use Rattle.scan_signals.specs.Truth.{AnyBool, plain}
use Rattle.scan_signals.specs.TruthLaws.{plain_lattice}
use Rattle.scan_cycle.specs.Cells.{Frame, Kept, closed, contact, memory_of, operand_value, place_at}
use Rattle.scan_cycle.specs.Gating.{AreValues, join_where, own}
use Rattle.scan_cycle.specs.Programs.{diagram_of}
use Rattle.scan_cycle.specs.Routes.{routes, route_value, join_all}
use Rattle.scan_cycle.specs.Rung.{link, lower}
use Rattle.scan_cycle.proofs.Feeders.{cell_is, feeds_is}
use Rattle.scan_cycle.proofs.Links.{column_next, fed_same}
use Rattle.st_expression.specs.declared.expression.Operand.{Operand}
use Rattle.st_statements.specs.Run.{seen}
use Rattle.draw_power.specs.declared.ends.Ends.{Ends}
use Rattle.draw_power.specs.declared.network.Network.{Network}
use Rattle.draw_power.specs.Helpers.{AreHelpers}
use Rattle.draw_power.specs.Power.{Carries, IsBehind, IsClosedWhere, IsFed, Joins, Leads, has_row, is_seen, left, power, power_at, right}

-- ---- where a cell is fed

any_values : (f : Frame Bool) → AreValues plain AnyBool f
any_values f = record { values = λ i. tt; ends = λ i. tt }

pub fed_at : (p : Drawing) (j : ℕ) (k : Kept) (now : ℕ) (f : Frame Bool) (row column : ℕ) (rows : List Bool)
    → ((q : ℕ) → q < ROWS → feeds p j row (suc column) q ≡ has_row rows q) → left p j k now f row (suc column) ≡ power p j k now f (suc column) rows
unfolding power right
fed_at p j k now f row column rows same =
    column_next plain AnyBool plain_lattice (diagram_of p) k now j f (any_values f) row column
    ∙ fed_same plain AnyBool plain_lattice ((diagram_of p).feeds j row (suc column)) (has_row rows) (right p j k now f column) (right p j k now f column) ROWS
    (λ q lt. feeds_is p j row (suc column) q ∙ same q lt) (λ q lt t. refl)

pub first_at : (p : Drawing) (j : ℕ) (k : Kept) (now : ℕ) (f : Frame Bool) (row : ℕ) (rows : List Bool) → left p j k now f row zero ≡ power p j k now f zero rows
unfolding routes route_value join_all power
first_at p j k now f row rows = refl

pub fed_first : (net : Network) (row : ℕ) (from : Ends) → from.column ≡ 0 → IsFed net row from
fed_first net row from e = record {
  fed = λ k now f. subst (λ c. left net.program.now net.rung k now f row c ≡ power net.program.now net.rung k now f c from.rows) (sym e) (first_at net.program.now net.rung k now f row from.rows);
}

fed_any : (p : Drawing) (j : ℕ) (k : Kept) (now : ℕ) (f : Frame Bool) (row column : ℕ) (rows : List Bool)
    → ((q : ℕ) → q < ROWS → feeds p j row column q ≡ has_row rows q) → (column ≡ 0 → ⊥) → left p j k now f row column ≡ power p j k now f column rows
fed_any p j k now f row zero rows same some = absurd (some refl)
fed_any p j k now f row (suc column) rows same some = fed_at p j k now f row column rows same

pub fed_by : (net : Network) (row : ℕ) (from : Ends) → ((q : ℕ) → q < ROWS → feeds net.program.now net.rung row from.column q ≡ has_row from.rows q) → (from.column ≡ 0 → ⊥)
    → IsFed net row from
fed_by net row from same some = record { fed = λ k now f. fed_any net.program.now net.rung k now f row from.column from.rows same some }

pub flags_same : (a b : Bool) → not (beq a b) ≡ false → a ≡ b
flags_same true true e = refl
flags_same true false e = cc
flags_same false true e = cc
flags_same false false e = refl

-- ---- sets of rows

none_of : (t f : ℕ → Bool) (n : ℕ) → ((q : ℕ) → q < n → t q ≡ false) → join_where plain t f n ≡ false
unfolding join_where
none_of t f zero h = refl
none_of t f (suc n) h = cond-false (t n) _ _ (h n (omega arith)) ∙ none_of t f n (λ q lt. h q (omega arith))

one_of : (t f : ℕ → Bool) (n row : ℕ) → row < n → ((q : ℕ) → q < n → t q ≡ (q == row)) → join_where plain t f n ≡ f row
unfolding join_where
one_of t f zero row lt h = absurd (omega arith)
one_of t f (suc n) row lt h = elim (cases_eq n row) [
  | inl same ↦
      cond-true (t n) _ _ (h n (omega arith) ∙ eq-eqb n row same)
      ∙ ap (λ b. b || f n) (none_of t f n (λ q less. h q (omega arith) ∙ ne_eqb q row (λ e. omega (arith, same, e, less))))
      ∙ ap f same
  | inr other ↦ cond-false (t n) _ _ (h n (omega arith) ∙ ne_eqb n row other) ∙ one_of t f n row (omega (arith, other)) (λ q less. h q (omega arith))
]

either_one : (a b x y v : Bool) → cond (a || b) ((x || y) || v) (x || y) ≡ (cond a (x || v) x || cond b (y || v) y)
either_one a b x y v = grind arith

either_of : (t a b f : ℕ → Bool) (n : ℕ) → ((q : ℕ) → q < n → t q ≡ (a q || b q)) → join_where plain t f n ≡ (join_where plain a f n || join_where plain b f n)
unfolding join_where
either_of t a b f zero h = refl
either_of t a b f (suc n) h =
    ap₂ (λ u x. cond u (x || f n) x) (h n (omega arith)) (either_of t a b f n (λ q less. h q (omega arith)))
    ∙ either_one (a n) (b n) (join_where plain a f n) (join_where plain b f n) (f n)

-- ---- one cell

closed_on : (on x m : Bool) → contact plain (cond on Plain Negated) x m ≡ cond on x (not x)
closed_on true x m = refl
closed_on false x m = refl

pub closed_by : (on : Bool) (mode : Mode) (read : diagram.Operand) (memory : Option ℕ) (sought : Operand) → mode ≡ cond on Plain Negated
    → ((f : Frame Bool) → operand_value plain f read ≡ seen f sought) → IsClosedWhere (is_seen on sought) (Contact mode read memory)
closed_by on mode read memory sought e same = record {
  no_block = refl;
  closed_is = λ m f. ap (λ x. contact plain x (operand_value plain f read) m) e ∙ closed_on on (operand_value plain f read) m ∙ ap (λ x. cond on x (not x)) (same f);
}

passed_cell : (p : Drawing) (j : ℕ) (k : Kept) (now : ℕ) (f : Frame Bool) (through : Frame Bool → Bool) (c : Cell) (x y : Bool) → IsClosedWhere through c
    → own plain (diagram_of p) k now f c x y ≡ (x && through f)
passed_cell p j k now f through c x y h =
    cond-false (is_block c) _ (x && closed plain f (memory_of k c) c) h.no_block ∙ ap (λ b. x && b) (h.closed_is (memory_of k c) f)

right_is : (p : Drawing) (j : ℕ) (k : Kept) (now : ℕ) (f : Frame Bool) (through : Frame Bool → Bool) (row column : ℕ) (c : Cell) → row < ROWS → column < COLUMNS
    → c ≡ (site_at p j row column).cell → IsClosedWhere through c → right p j k now f column row ≡ (left p j k now f row column && through f)
unfolding right
right_is p j k now f through row column c rows columns at h =
    let x = left p j k now f row column in
    let y = lower plain ((diagram_of p).linked j (place_at row column)) (left p j k now f (row + 1) column) in
    ap (λ o. own plain (diagram_of p) k now f o x y) (cell_is p j (place_at row column) (omega (arith, rows, columns)) ∙ sym at)
    ∙ passed_cell p j k now f through c x y h

pub power_of_one : (p : Drawing) (j : ℕ) (k : Kept) (now : ℕ) (f : Frame Bool) (row column : ℕ) (rows : List Bool) → row < ROWS
    → ((q : ℕ) → q < ROWS → has_row rows q ≡ (q == row)) → power p j k now f (column + 1) rows ≡ right p j k now f column row
unfolding power
power_of_one p j k now f row column rows less h = rw add-one (one_of (has_row rows) (right p j k now f column) ROWS row less h)

pub through_cell : (net : Network) (row : ℕ) (from to : Ends) (through : Frame Bool → Bool) (c : Cell)
    → c ≡ (site_at net.program.now net.rung row from.column).cell → IsFed net row from → row < ROWS → from.column < COLUMNS → IsClosedWhere through c → IsBehind row from to
    → Carries net from to through
through_cell net row from to through c at fed rows columns h behind = record {
  carried = λ k now f are.
      ap (λ n. power net.program.now net.rung k now f n to.rows) behind.next
      ∙ power_of_one net.program.now net.rung k now f row from.column to.rows rows behind.only
      ∙ right_is net.program.now net.rung k now f through row from.column c rows columns at h
      ∙ ap (λ b. b && through f) (fed.fed k now f);
}

pub through_wire : (net : Network) (row : ℕ) (from to : Ends)
    → Wire ≡ (site_at net.program.now net.rung row from.column).cell → IsFed net row from → row < ROWS → from.column < COLUMNS → IsBehind row from to
    → Carries net from to (λ f. true)
through_wire net row from to at fed rows columns behind =
    through_cell net row from to (λ f. true) Wire at fed rows columns (record { no_block = refl; closed_is = λ m f. refl }) behind

-- ---- networks

pub and_assoc : (p a b : Bool) → ((p && a) && b) ≡ (p && (a && b))
and_assoc true a b = refl
and_assoc false a b = refl

pub and_either : (p a b : Bool) → ((p && a) || (p && b)) ≡ (p && (a || b))
and_either true a b = refl
and_either false a b = refl

pub carries_from : (net : Network) (from : Ends) → Carries net from from (λ f. true)
carries_from net from = record { carried = λ k now f are. sym (and-true (power_at net k now f from)) }

pub carries_on : (net : Network) (from middle to : Ends) (first second : Frame Bool → Bool)
    → Carries net from middle first → Carries net middle to second → Carries net from to (λ f. first f && second f)
carries_on net from middle to first second one two = record {
  carried = λ k now f are.
      two.carried k now f are ∙ ap (λ b. b && second f) (one.carried k now f are)
      ∙ and_assoc (power_at net k now f from) (first f) (second f);
}

pub carries_as : (net : Network) (from to : Ends) (first second : Frame Bool → Bool)
    → ((f : Frame Bool) → AreHelpers net.helpers.now f → first f ≡ second f) → Carries net from to first → Carries net from to second
carries_as net from to first second same one = record {
  carried = λ k now f are. one.carried k now f are ∙ ap (λ b. power_at net k now f from && b) (same f are);
}

pub wire_more : (net : Network) (from middle to : Ends) → Carries net from middle (λ f. true)
    → Carries net middle to (λ f. true) → Carries net from to (λ f. true)
wire_more net from middle to one two = carries_on net from middle to (λ f. true) (λ f. true) one two

pub carries_beside : (net : Network) (from one two to : Ends) (first second : Frame Bool → Bool)
    → Carries net from one first → Carries net from two second → Joins net one two to → Carries net from to (λ f. first f || second f)
carries_beside net from one two to first second upper lower join = record {
  carried = λ k now f are.
      join.joined k now f are ∙ ap₂ (λ a b. a || b) (upper.carried k now f are) (lower.carried k now f are)
      ∙ and_either (power_at net k now f from) (first f) (second f);
}

pub power_of_either : (p : Drawing) (j : ℕ) (k : Kept) (now : ℕ) (f : Frame Bool) (column : ℕ) (first second rows : List Bool)
    → ((q : ℕ) → q < ROWS → has_row rows q ≡ (has_row first q || has_row second q))
    → power p j k now f column rows ≡ (power p j k now f column first || power p j k now f column second)
unfolding power
power_of_either p j k now f zero first second rows h = refl
power_of_either p j k now f (suc column) first second rows h = either_of (has_row rows) (has_row first) (has_row second) (right p j k now f column) ROWS h

pub joins : (net : Network) (first second upper lower to : Ends) → Carries net first upper (λ f. true)
    → Carries net second lower (λ f. true) → upper.column ≡ lower.column → to.column ≡ upper.column
    → ((q : ℕ) → q < ROWS → has_row to.rows q ≡ (has_row upper.rows q || has_row lower.rows q)) → Joins net first second to
joins net first second upper lower to one two same end h = record {
  joined = λ k now f are.
      ap (λ n. power net.program.now net.rung k now f n to.rows) end
      ∙ power_of_either net.program.now net.rung k now f upper.column upper.rows lower.rows to.rows h
      ∙ ap₂ (λ a b. a || b)
      (one.carried k now f are ∙ and-true (power_at net k now f first))
      (ap (λ n. power net.program.now net.rung k now f n lower.rows) same ∙ two.carried k now f are ∙ and-true (power_at net k now f second));
}

-- ---- to a place

pub leads : (net : Network) (from to : Ends) (place : ℕ) → Carries net from to (λ f. true)
    → IsFed net (place % ROWS) to → to.column ≡ place / ROWS → Leads net from place
leads net from to place one fed same = record {
  led = λ k now f are.
      ap (left net.program.now net.rung k now f (place % ROWS)) (sym same) ∙ fed.fed k now f ∙ one.carried k now f are ∙ and-true (power_at net k now f from);
}

pub drawn : (net : Network) (from to : Ends) (place : ℕ) (through : Frame Bool → Bool) → from.column ≡ 0
    → Carries net from to through → Leads net to place
    → (k : Kept) (now : ℕ) (f : Frame Bool) → AreHelpers net.helpers.now f → link plain (diagram_of net.program.now) k now net.rung f place ≡ through f
unfolding power
drawn net from to place through first one led k now f are =
    led.led k now f are ∙ one.carried k now f are ∙ ap (λ n. power net.program.now net.rung k now f n from.rows && through f) first
