-- What is known of a rung gives values of the signal, and the left links of a column by those of the column before.
use Rattle.std.proofs.Common.{◌≡◌, ℕ, ◌+◌, ◌*◌, ◌%◌, ◌<◌, true, false, List, [], ◌∷◌, Option, Some, None, map, get_or, zero, suc, nat_eq, ap, ◌∙◌}
use Rattle.diagram_program.specs.declared.geometry.TheConstants.{ROWS}
use Rattle.diagram_program.specs.declared.cell.Cell.{Cell}
use Rattle.diagram_program.specs.declared.cell.Cell.TheVariants.{Block}
use Rattle.diagram_program.specs.Program.{Drawing, memory_in}
use Rattle.scan_signals.specs.Algebra.{Algebra, LatticeLaws}
use Rattle.scan_cycle.specs.Routes.{Circuit, Route, rail, block_end, through, join_all, left_link, routes, route_value, ends_below}
use Rattle.scan_cycle.specs.Cells.{at, closed}
use Rattle.scan_cycle.specs.Rung.{lower}
use Rattle.scan_cycle.specs.Programs.{diagram_of}
use Rattle.scan_cycle.specs.Gating.{join_where, AreValues}
use Rattle.scan_cycle.proofs.Flow.{left_link-next}
use Rattle.scan_cycle.proofs.Joins.{join_all-value}
use Rattle.scan_cycle.proofs.Links.{either_value, closed-value, no_column}
use Rattle.scan_symbolic.specs.KnownScan.{Keeping, Known, frame_in, circuit_in, link_in, q_in}
use Rattle.scan_partial.specs.KeepsValues.{KeepsValues}
use Rattle.scan_partial.specs.Evaluating.{AreSure, own_in}

-- ---- of any circuit
module _ {S : Type 0} (o : Algebra S) (V : S → Type 0) (l : LatticeLaws S V o) (g : Circuit S) (closed_value : (row column : ℕ) → V (g.closed row column))
    (q_value : (row column : ℕ) (x y : S) → V x → V y → V (g.q row column x y)) where
  route_is : (e : ℕ → ℕ → S) → ((row column : ℕ) → V (e row column)) → (r : Route) → V (route_value o g e r)
  unfolding route_value
  route_is e ve rail = l.known_value true
  route_is e ve (block_end row column) = ve row column
  route_is e ve (through r row column) = l.meet_value _ _ (route_is e ve r) (closed_value row column)

  ends_are : (n row column : ℕ) → V (ends_below o g n row column)
  unfolding ends_below
  ends_are zero row column = l.known_value false
  ends_are (suc n) row column =
      either_value o V l (nat_eq column n) _ _
      (q_value row column _ _ (join_all-value o V l _ (route_is _ (ends_are n)) (routes g.feeds g.is_block row n)) (join_all-value o V l _ (route_is _ (ends_are n)) (routes g.feeds g.is_block (row + 1) n)))
      (ends_are n row column)

  pub left_is_value : (row column : ℕ) → V (left_link o g row column)
  left_is_value row column = join_all-value o V l _ (route_is _ (ends_are column)) (routes g.feeds g.is_block row column)

-- ---- of a rung over what is known
module _ {S B : Type 0} (o : Algebra S) (V : S → Type 0) (l : LatticeLaws S V o) (w : Keeping S B) (K : B → Type 0) (keeps : KeepsValues V K w) (p : Drawing)
    (now j : ℕ) (k : Known S B) (sure : AreSure o V K w k) where
  ends_values : (bs : List B) (d : B) → ((i : ℕ) → K (get_or bs i d)) → (i : ℕ) → V (get_or (map w.q bs) i (o.known false))
  ends_values [] d h i = l.known_value false
  ends_values (b ∷ bs) d h zero = keeps.q b (h 0)
  ends_values (b ∷ bs) d h (suc i) = ends_values bs d (λ n. h (suc n)) i

  frame_values : AreValues o V (frame_in w k)
  frame_values = record { values = sure.values; ends = ends_values k.blocks _ sure.blocks }

  memory_value : (m : Option ℕ) → V (at k.memories m (o.known false))
  memory_value None = l.known_value false
  memory_value (Some i) = sure.memories i

  pub closed_is : (c : Cell) → V (closed o (frame_in w k) (at k.memories (memory_in c) (o.known false)) c)
  closed_is c = closed-value o V l (frame_in w k) frame_values _ (memory_value (memory_in c)) c

  pub q_is : (c : Cell) (x y : S) → V x → V y → V (q_in o w (diagram_of p) now k c x y)
  q_is (Block inst) x y vx vy = keeps.q _ (keeps.step ((diagram_of p).kind inst) ((diagram_of p).preset inst) _ x y now (sure.blocks inst) vx vy)
  q_is _ x y vx vy = l.known_value false

  through_block : (row column : ℕ) (x y : S) → V x → V y
      → V (q_in o w (diagram_of p) now k ((diagram_of p).cell j (ROWS * column + row)) x (lower o ((diagram_of p).linked j (ROWS * column + row)) y))
  through_block row column x y vx vy =
      q_is ((diagram_of p).cell j (ROWS * column + row)) x _ vx (either_value o V l ((diagram_of p).linked j (ROWS * column + row)) _ _ vy (l.known_value false))

  pub link_value : (row column : ℕ) → V (left_link o (circuit_in o w (diagram_of p) now j k) row column)
  link_value row column =
      left_is_value o V l (circuit_in o w (diagram_of p) now j k) (λ r c. closed_is ((diagram_of p).cell j (ROWS * c + r))) through_block row column

  pub column_next : (row column : ℕ) → left_link o (circuit_in o w (diagram_of p) now j k) row (suc column) ≡
      join_where o ((diagram_of p).feeds j row (suc column)) (λ q. own_in o w (diagram_of p) now (frame_in w k) k ((diagram_of p).cell j (ROWS * column + q))
      (left_link o (circuit_in o w (diagram_of p) now j k) q column)
      (lower o ((diagram_of p).linked j (ROWS * column + q)) (left_link o (circuit_in o w (diagram_of p) now j k) (q + 1) column))) ROWS
  column_next row column =
      left_link-next o V l (circuit_in o w (diagram_of p) now j k) (λ r c. closed_is ((diagram_of p).cell j (ROWS * c + r))) through_block row column

  pub first_column : (e : ℕ) → e < ROWS → link_in o w (diagram_of p) now j k e ≡ o.known true
  unfolding routes route_value join_all
  first_column e h =
      ap (λ c. left_link o (circuit_in o w (diagram_of p) now j k) (e % ROWS) c) (no_column e h)
      ∙ l.join_comm (o.known true) (o.known false) (l.known_value true) (l.known_value false) ∙ l.join_off (o.known true) (l.known_value true)
