-- The gates of a rung find the left links of its cells over what is known, from the laws of the signal alone.
use Rattle.std.proofs.Common.{◌≡◌, ℕ, ◌+◌, ◌*◌, ◌/◌, ◌%◌, ◌<◌, ◌≤◌, Bool, true, false, cond, List, [], ◌∷◌, ◌++◌, get_or, drop, length, zero, suc, nat_lt, refl, sym, ap, ap₂, subst, ◌∙◌, arith, inl, inr}
use Rattle.std.proofs.lemmas.Bool.{cases_Bool, cond-true, cond-false, or_parts}
use Rattle.std.proofs.lemmas.List.{drop_more, drop_all}
use Rattle.diagram_program.specs.declared.geometry.TheConstants.{ROWS, PLACES}
use Rattle.diagram_program.specs.declared.mode.Mode.{Mode}
use Rattle.diagram_program.specs.declared.mode.Mode.TheVariants.{Plain, Negated, Rising, Falling}
use Rattle.diagram_program.specs.declared.gates.TheConstants.{ON, OFF, LINKS}
use Rattle.diagram_program.specs.declared.cell.Operand.{Operand}
use Rattle.diagram_program.specs.declared.cell.Operand.TheVariants.{Var, Output}
use Rattle.diagram_program.specs.declared.cell.Cell.{Cell}
use Rattle.diagram_program.specs.declared.cell.Cell.TheVariants.{Contact}
use Rattle.diagram_program.specs.declared.gates.Gate.{Gate}
use Rattle.diagram_program.specs.declared.gates.Literal.TheVariants.{Is, Not, Other}
use Rattle.diagram_program.specs.Program.{Drawing, cell_of, is_block}
use Rattle.diagram_program.specs.Gates.{literal_on, literal_of, left_of, other_of, below_of, gate_at, feeds_on, has_gate, gates_before, gates_of}
use Rattle.scan_signals.specs.Algebra.{Algebra, LatticeLaws}
use Rattle.scan_cycle.specs.Routes.{left_link}
use Rattle.scan_cycle.specs.Cells.{Diagram, Frame}
use Rattle.scan_cycle.specs.Rung.{lower}
use Rattle.scan_cycle.specs.Programs.{diagram_of}
use Rattle.scan_cycle.specs.Gating.{join_where}
use Rattle.scan_cycle.proofs.Links.{either_value}
use Rattle.scan_cycle.proofs.Feeders.{Feeding, fed_more, fed_without, left_is, other_is, below_is, second_is, place_is, cell_is}
use Rattle.scan_symbolic.specs.KnownScan.{Keeping, Known, frame_in, circuit_in}
use Rattle.scan_partial.specs.KeepsValues.{KeepsValues}
use Rattle.scan_partial.specs.Evaluating.{AreSure, own_in, through_in, let_in, passed_in, ran_in, AreLinksIn}
use Rattle.scan_partial.proofs.LinkValues.{closed_is, q_is, link_value, column_next, first_column}

-- ---- one turn of the loop
pub run_more : {S B : Type 0} (o : Algebra S) (w : Keeping S B) (d : Diagram) (now j : ℕ) (f : Frame S) (k : Known S B) (links next : List S) (gs : List Gate) (i : ℕ) (g : Gate)
    → i < length gs → next ≡ passed_in o w d now j f k links (get_or gs i g)
    → ran_in o w d now j f k (drop (i + 1) gs) next ≡ ran_in o w d now j f k (drop i gs) links
unfolding ran_in
run_more o w d now j f k links next gs i g h e =
    ap (ran_in o w d now j f k (drop (i + 1) gs)) e ∙ sym (ap (λ xs. ran_in o w d now j f k xs links) (drop_more gs i g h))

pub run_end : {S B : Type 0} (o : Algebra S) (w : Keeping S B) (d : Diagram) (now j : ℕ) (f : Frame S) (k : Known S B) (links : List S) (gs : List Gate) (i : ℕ)
    → length gs ≤ i → ran_in o w d now j f k (drop i gs) links ≡ links
unfolding ran_in
run_end o w d now j f k links gs i h = ap (λ xs. ran_in o w d now j f k xs links) (drop_all i gs h)

pub ruleset run_step = (run_more, run_end)

module _ {S B : Type 0} (o : Algebra S) (V : S → Type 0) (l : LatticeLaws S V o) (w : Keeping S B) (K : B → Type 0) (keeps : KeepsValues V K w) (p : Drawing)
    (now j : ℕ) (k : Known S B) (sure : AreSure o V K w k) where
  abbrev f : Frame S
  f = frame_in w k

  abbrev lk : ℕ → ℕ → S
  lk row column = left_link o (circuit_in o w (diagram_of p) now j k) row column

  abbrev cl : ℕ → Cell
  cl e = (diagram_of p).cell j e

  -- the second input of a cell
  abbrev low : ℕ → ℕ → S
  low column q = lower o ((diagram_of p).linked j (ROWS * column + q)) (lk (q + 1) column)

  -- the right link of a cell
  abbrev right : ℕ → ℕ → S
  right column q = own_in o w (diagram_of p) now f k (cl (ROWS * column + q)) (lk q column) (low column q)

  abbrev here : ℕ → S
  here e = right (e / ROWS) (e % ROWS)

  lk_value : (row column : ℕ) → V (lk row column)
  lk_value row column = link_value o V l w K keeps p now j k sure row column

  low_value : (column q : ℕ) → V (low column q)
  low_value column q = either_value o V l ((diagram_of p).linked j (ROWS * column + q)) _ _ (lk_value (q + 1) column) (l.known_value false)

  right_value : (column q : ℕ) → V (right column q)
  right_value column q =
      either_value o V l (is_block (cl (ROWS * column + q))) _ _
      (q_is o V l w K keeps p now j k sure (cl (ROWS * column + q)) _ _ (lk_value q column) (low_value column q))
      (l.meet_value _ _ (lk_value q column) (closed_is o V l w K keeps p now j k sure (cl (ROWS * column + q))))

  -- ---- what a gate lets through is what its cell does
  contact_through : (mode : Mode) (operand : Operand) (memory : _) (x y : S) → through_in o w (diagram_of p) now f k (literal_on mode operand) (Contact mode operand memory) x y ≡ own_in o w (diagram_of p) now f k (Contact mode operand memory) x y
  contact_through Plain (Var var) memory x y = elim (cases_Bool (nat_lt var 65536)) [
    | inl t ↦ ap (λ (b : Bool). through_in o w (diagram_of p) now f k (cond b (Is var) Other) (Contact Plain (Var var) memory) x y) t
    | inr t ↦ ap (λ (b : Bool). through_in o w (diagram_of p) now f k (cond b (Is var) Other) (Contact Plain (Var var) memory) x y) t
  ]
  contact_through Plain (Output inst) memory x y = refl
  contact_through Negated (Var var) memory x y = elim (cases_Bool (nat_lt var 65536)) [
    | inl t ↦ ap (λ (b : Bool). through_in o w (diagram_of p) now f k (cond b (Not var) Other) (Contact Negated (Var var) memory) x y) t
    | inr t ↦ ap (λ (b : Bool). through_in o w (diagram_of p) now f k (cond b (Not var) Other) (Contact Negated (Var var) memory) x y) t
  ]
  contact_through Negated (Output inst) memory x y = refl
  contact_through Rising operand memory x y = refl
  contact_through Falling operand memory x y = refl

  cell_through : (c : Cell) (x y : S) → through_in o w (diagram_of p) now f k (literal_of c) c x y ≡ own_in o w (diagram_of p) now f k c x y
  cell_through (Contact mode operand memory) x y = contact_through mode operand memory x y
  cell_through _ x y = refl

  -- ---- links so far
  first : (e : ℕ) → e < ROWS → lk (e % ROWS) (e / ROWS) ≡ o.known true
  first e h = first_column o V l w K keeps p now j k sure e h

  next : (row column : ℕ) → lk row (suc column) ≡ join_where o ((diagram_of p).feeds j row (suc column)) (right column) ROWS
  next row column = column_next o V l w K keeps p now j k sure row column

  -- The gates of the cells before place n gave what they must.
  abbrev Good : ℕ → List S → Type 0
  Good n R = Feeding o p j right n R

  -- ---- one gate
  same_place : (e : ℕ) (g : ℕ → S) → g (ROWS * (e / ROWS) + e % ROWS) ≡ g e
  same_place e g = ap g (place_is e)

  gate_is : (e : ℕ) → e < PLACES → (R : List S) → Good e R → let_in o w (diagram_of p) now j f k R (gate_at p j e) ≡ here e
  gate_is e h R good =
      ap (λ c. through_in o w (diagram_of p) now f k (literal_of c) (cl e) (get_or R (left_of p j e) (o.known false)) (get_or R (below_of p j e) (o.known false))) (sym (cell_is p j e h))
      ∙ ap₂ (λ x y. through_in o w (diagram_of p) now f k (literal_of (cl e)) (cl e) x y) (left_is o V l p j lk right right_value first next e h e (omega arith) R good) (below_is o V l p j lk right right_value first next e h e (omega arith) R good)
      ∙ cell_through (cl e) (lk (e % ROWS) (e / ROWS)) (lower o ((diagram_of p).linked j e) (lk (e % ROWS + 1) (e / ROWS)))
      ∙ sym (same_place e (λ i. own_in o w (diagram_of p) now f k (cl i) (lk (e % ROWS) (e / ROWS)) (lower o ((diagram_of p).linked j i) (lk (e % ROWS + 1) (e / ROWS)))))

  one_gate : (e : ℕ) → e < PLACES → (R : List S) → Good e R → Good (suc e) (passed_in o w (diagram_of p) now j f k R (gate_at p j e))
  one_gate e h R good =
      fed_more o p j right e h R good (o.join (let_in o w (diagram_of p) now j f k R (gate_at p j e)) (get_or R (other_of p j e) (o.known false)))
      (ap₂ o.join (gate_is e h R good) (other_is o V l p j lk right right_value first next e h R good))

  no_gate : (e : ℕ) → has_gate p j e ≡ false → (R : List S) → Good e R → Good (suc e) R
  no_gate e none R good = fed_without o p j right e (or_parts (is_block (cell_of p j e)) (feeds_on p j e) none).1 R good

  ran_append : (gs hs : List Gate) (R : List S) → ran_in o w (diagram_of p) now j f k (gs ++ hs) R ≡ ran_in o w (diagram_of p) now j f k hs (ran_in o w (diagram_of p) now j f k gs R)
  unfolding ran_in
  ran_append [] hs R = refl
  ran_append (g ∷ gs) hs R = ran_append gs hs _

  all_good : (n : ℕ) → n ≤ PLACES → (R : List S) → length R ≡ LINKS → get_or R ON (o.known false) ≡ o.known true → get_or R OFF (o.known false) ≡ o.known false
      → Good n (ran_in o w (diagram_of p) now j f k (gates_before p j n) R)
  unfolding gates_before ran_in
  all_good zero h R long on off = record { long = long; on = on; off = off; fed = λ e lt t. absurd (omega arith) }
  all_good (suc n) h R long on off =
      let before = all_good n (omega arith) R long on off in
      elim (cases_Bool (has_gate p j n)) [
        | inl b ↦ subst (λ (gs : List Gate). Good (suc n) (ran_in o w (diagram_of p) now j f k gs R)) (sym (cond-true (has_gate p j n) _ _ b))
            (subst (λ (xs : List S). Good (suc n) xs) (sym (ran_append (gates_before p j n) (gate_at p j n ∷ []) R)) (one_gate n (omega arith) _ before))
        | inr b ↦ subst (λ (gs : List Gate). Good (suc n) (ran_in o w (diagram_of p) now j f k gs R)) (sym (cond-false (has_gate p j n) _ _ b)) (no_gate n b _ before)
      ]

  -- ---- all gates
  pub links_are : (R : List S) → length R ≡ LINKS → get_or R ON (o.known false) ≡ o.known true → get_or R OFF (o.known false) ≡ o.known false
      → AreLinksIn o w p now j k (ran_in o w (diagram_of p) now j f k (gates_of p j) R)
  unfolding gates_of
  links_are R long on off =
      let good = all_good PLACES (omega arith) R long on off in
      record {
        left = λ e h. left_is o V l p j lk right right_value first next e h PLACES (omega arith) _ good;
        below = λ e h. below_is o V l p j lk right right_value first next e h PLACES (omega arith) _ good ∙ sym (second_is o V l p j lk right right_value first next e h);
      }
