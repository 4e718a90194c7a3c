-- The left links of a column by those of the column before, over any signal and from its laws alone.
use Rattle.std.proofs.Common.{◌≡◌, ℕ, ◌+◌, ◌*◌, ◌/◌, ◌%◌, ◌<◌, Bool, true, false, cond, zero, suc, refl, ap, ◌∙◌, arith}
use Rattle.diagram_declarations.specs.declared.kind.BlockKind.{BlockKind}
use Rattle.diagram_program.specs.declared.geometry.TheConstants.{ROWS}
use Rattle.diagram_program.specs.declared.mode.Mode.{Mode}
use Rattle.diagram_program.specs.declared.mode.Mode.TheVariants.{Plain, Negated, Rising, Falling}
use Rattle.diagram_program.specs.declared.cell.Operand.{Operand}
use Rattle.diagram_program.specs.declared.cell.Operand.TheVariants.{Var, Output}
use Rattle.diagram_program.specs.declared.cell.Cell.{Cell}
use Rattle.diagram_program.specs.declared.cell.Cell.TheVariants.{Wire, Contact, Coil, Block}
use Rattle.scan_signals.specs.declared.block.Stored.{Stored}
use Rattle.scan_signals.specs.Algebra.{Algebra, LatticeLaws}
use Rattle.scan_cycle.specs.Routes.{join_all, left_link, routes, route_value}
use Rattle.diagram_program.specs.Program.{is_block}
use Rattle.scan_cycle.specs.Cells.{Diagram, Frame, Kept, memory_of, closed, contact, operand_value, q_here, q_from}
use Rattle.scan_cycle.specs.Rung.{lower, circuit, link}
use Rattle.scan_cycle.specs.Gating.{join_where, AreValues}
use Rattle.scan_cycle.proofs.Flow.{left_link-next}

pub no_column : (e : ℕ) → e < ROWS → e / ROWS ≡ 0
no_column e h = omega arith

module _ {S : Type 0} (o : Algebra S) (V : S → Type 0) (l : LatticeLaws S V o) where
  pub either_value : (b : Bool) (x y : S) → V x → V y → V (cond b x y)
  either_value true x y vx vy = vx
  either_value false x y vx vy = vy

  operand-value : (f : Frame S) → AreValues o V f → (x : Operand) → V (operand_value o f x)
  operand-value f h (Var var) = h.values var
  operand-value f h (Output inst) = h.ends inst

  contact-value : (mode : Mode) (x m : S) → V x → V m → V (contact o mode x m)
  contact-value Plain x m vx vm = vx
  contact-value Negated x m vx vm = l.inverse_value x vx
  contact-value Rising x m vx vm = l.meet_value _ _ vx (l.inverse_value m vm)
  contact-value Falling x m vx vm = l.meet_value _ _ (l.inverse_value x vx) vm

  pub closed-value : (f : Frame S) → AreValues o V f → (m : S) → V m → (c : Cell) → V (closed o f m c)
  closed-value f h m vm Wire = l.known_value true
  closed-value f h m vm (Contact mode operand memory) = contact-value mode _ m (operand-value f h operand) vm
  closed-value f h m vm (Coil mode var memory) = l.known_value true
  closed-value f h m vm _ = l.known_value false

  from-value : (kind : BlockKind) (preset : ℕ) (s : Stored) (now : ℕ) (x y : S) → V x → V y → V (q_from o kind preset s now x y)
  from-value kind preset s now x y vx vy =
      l.choice_value _ _ _ vx (l.choice_value _ _ _ vy (l.known_value _) (l.known_value _)) (l.choice_value _ _ _ vy (l.known_value _) (l.known_value _))

  pub q-value : (d : Diagram) (k : Kept) (now : ℕ) (c : Cell) (x y : S) → V x → V y → V (q_here o d k now c x y)
  q-value d k now (Block inst) x y vx vy = from-value (d.kind inst) (d.preset inst) _ now x y vx vy
  q-value d k now _ x y vx vy = l.known_value false

  last_row : (b : Bool) (s x y : S) → (b ≡ true → x ≡ y) → cond b (o.join s x) s ≡ cond b (o.join s y) s
  last_row true s x y h = ap (o.join s) (h refl)
  last_row false s x y h = refl

  -- rows that feed alone count
  pub fed_same : (p t : ℕ → Bool) (f h : ℕ → S) (n : ℕ) → ((q : ℕ) → q < n → p q ≡ t q) → ((q : ℕ) → q < n → t q ≡ true → f q ≡ h q) → join_where o p f n ≡ join_where o t h n
  unfolding join_where
  fed_same p t f h zero e same = refl
  fed_same p t f h (suc n) e same =
      ap (λ b. cond b (o.join (join_where o p f n) (f n)) (join_where o p f n)) (e n (omega arith))
      ∙ ap (λ s. cond (t n) (o.join s (f n)) s) (fed_same p t f h n (λ q k. e q (omega arith)) (λ q k. same q (omega arith)))
      ∙ last_row (t n) (join_where o t h n) (f n) (h n) (λ b. same n (omega arith) b)

  module _ (d : Diagram) (k : Kept) (now j : ℕ) (f : Frame S) (vs : AreValues o V f) where
    pub column_next : (row column : ℕ) → left_link o (circuit o d k now j f) row (suc column) ≡
        join_where o (d.feeds j row (suc column)) (λ q. cond (is_block (d.cell j (ROWS * column + q)))
        (q_here o d k now (d.cell j (ROWS * column + q)) (left_link o (circuit o d k now j f) q column) (lower o (d.linked j (ROWS * column + q)) (left_link o (circuit o d k now j f) (q + 1) column)))
        (o.meet (left_link o (circuit o d k now j f) q column) (closed o f (o.known (memory_of k (d.cell j (ROWS * column + q)))) (d.cell j (ROWS * column + q))))) ROWS
    column_next row column =
        left_link-next o V l (circuit o d k now j f)
        (λ r c. closed-value f vs _ (l.known_value _) (d.cell j (ROWS * c + r)))
        (λ r c x y vx vy. q-value d k now (d.cell j (ROWS * c + r)) x _ vx (either_value (d.linked j (ROWS * c + r)) _ _ vy (l.known_value false)))
        row column

    pub first_column : (e : ℕ) → e < ROWS → link o d k now j f e ≡ o.known true
    unfolding routes route_value join_all
    first_column e h =
        ap (λ c. left_link o (circuit o d k now j f) (e % ROWS) c) (no_column e h)
        ∙ l.join_comm (o.known true) (o.known false) (l.known_value true) (l.known_value false) ∙ l.join_off (o.known true) (l.known_value true)
