-- The gates of a rung find the left links of its cells, over any signal and from its laws alone.
use Rattle.std.proofs.Common.{◌≡◌, ℕ, ◌+◌, ◌-◌, ◌*◌, ◌/◌, ◌%◌, ◌<◌, ◌≤◌, ◌&&◌, Bool, true, false, cond, List, [], ◌∷◌, ◌++◌, All, get_or, set, drop, length, zero, suc, nat_eq, nat_lt, refl, sym, ap, ap₂, subst, ◌∙◌, arith, get_or-set_other, get_or-set_same, length-set, inl, inr}
use Rattle.std.proofs.lemmas.Bool.{cases_eq, cases_Bool, cond-true, cond-false, or_parts, ltb-true, and_parts}
use Rattle.std.proofs.lemmas.List.{drop_more, drop_all}
use Rattle.std.proofs.lemmas.List.Elements.{All-append, All-nil}
use Rattle.std.proofs.lemmas.Grind.{common_steps}
use Rattle.diagram_program.specs.declared.geometry.TheConstants.{ROWS, COLUMNS, PLACES}
use Rattle.diagram_program.specs.declared.mode.Mode.{Mode}
use Rattle.diagram_program.specs.declared.mode.Mode.TheVariants.{Plain, Negated, Rising, Falling}
use Rattle.diagram_program.specs.declared.gates.TheConstants.{ON, OFF, OWN, LINKS}
use Rattle.diagram_program.specs.declared.cell.Operand.{Operand}
use Rattle.diagram_program.specs.declared.cell.Operand.TheVariants.{Var, Output}
use Rattle.diagram_program.specs.declared.cell.Cell.{Cell}
use Rattle.diagram_program.specs.declared.cell.Cell.TheVariants.{Contact, Block}
use Rattle.diagram_program.specs.declared.gates.Gate.{Gate}
use Rattle.diagram_program.specs.declared.gates.Literal.TheVariants.{Is, Not, Other}
use Rattle.diagram_program.specs.Program.{Drawing, feeds, cell_of, is_block, is_linked}
use Rattle.diagram_program.specs.Gates.{literal_on, literal_of, last_of, left_of, other_of, below_of, gate_at, feeds_on, has_gate, gates_before, gates_of}
use Rattle.scan_signals.specs.Algebra.{Algebra, LatticeLaws}
use Rattle.scan_cycle.specs.Routes.{left_link}
use Rattle.scan_cycle.specs.Cells.{Diagram, Frame, Kept, q_here}
use Rattle.scan_cycle.specs.Rung.{lower, circuit}
use Rattle.scan_cycle.specs.Programs.{diagram_of}
use Rattle.scan_cycle.specs.Gating.{join_where, own, through, is_other, let_through, passed, ran, IsInside, AreLinks, AreValues}
use Rattle.scan_cycle.proofs.Values.{left_value}
use Rattle.scan_cycle.proofs.Links.{column_next, first_column, either_value, closed-value, q-value}
use Rattle.scan_cycle.proofs.Feeders.{Feeding, fed_more, fed_without, left_is, other_is, below_is, second_is, on_off, place_is, cell_is}

-- ---- one turn of the loop
pub run_more : {S : Type 0} (o : Algebra S) (d : Diagram) (k : Kept) (now j : ℕ) (f : Frame S) (links next : List S) (gs : List Gate) (i : ℕ) (g : Gate)
    → i < length gs → next ≡ passed o d k now j f links (get_or gs i g)
    → ran o d k now j f (drop (i + 1) gs) next ≡ ran o d k now j f (drop i gs) links
unfolding ran
run_more o d k now j f links next gs i g h e =
    ap (ran o d k now j f (drop (i + 1) gs)) e ∙ sym (ap (λ xs. ran o d k now j f xs links) (drop_more gs i g h))

pub run_end : {S : Type 0} (o : Algebra S) (d : Diagram) (k : Kept) (now j : ℕ) (f : Frame S) (links : List S) (gs : List Gate) (i : ℕ)
    → length gs ≤ i → ran o d k now j f (drop i gs) links ≡ links
unfolding ran
run_end o d k now j f links gs i h = ap (λ xs. ran o d k now j f xs links) (drop_all i gs h)

pub ruleset run_step = (run_more, run_end)

-- ---- where the links of gates are
last_inside : (f : ℕ → Bool) (base n : ℕ) → base + n ≤ PLACES → last_of f base n < OWN
unfolding last_of
last_inside f base zero h = omega arith
last_inside f base (suc n) h = elim (cases_Bool (f n)) [
  | inl t ↦ subst (λ (x : ℕ). x < OWN) (sym (cond-true (f n) (base + n) (last_of f base n) t)) (omega arith)
  | inr t ↦ subst (λ (x : ℕ). x < OWN) (sym (cond-false (f n) (base + n) (last_of f base n) t)) (last_inside f base n (omega arith))
]

either_inside : (b : Bool) (x y : ℕ) → (b ≡ true → x < OWN) → y < OWN → cond b x y < OWN
either_inside true x y h k = h refl
either_inside false x y h k = k

pub left_inside : (p : Drawing) (rung e : ℕ) → e < PLACES → left_of p rung e < OWN
left_inside p rung e h = either_inside (nat_eq (e / ROWS) 0) ON _ (λ t. omega arith) (last_inside (feeds p rung (e % ROWS) (e / ROWS)) (ROWS * (e / ROWS - 1)) ROWS (omega arith))

other_inside : (p : Drawing) (rung e : ℕ) → e < PLACES → other_of p rung e < OWN
other_inside p rung e h =
    either_inside (nat_lt (e / ROWS + 1) COLUMNS) _ OFF
    (λ t. let k : e / ROWS + 1 < COLUMNS = ltb-true _ _ t in last_inside (feeds p rung (e % ROWS) (e / ROWS + 1)) (ROWS * (e / ROWS + 1 - 1)) (e % ROWS) (omega arith)) (omega arith)

pub below_inside : (p : Drawing) (rung e : ℕ) → e < PLACES → below_of p rung e < OWN
below_inside p rung e h =
    either_inside (nat_lt (e % ROWS + 1) ROWS && is_linked (cell_of p rung (e + 1))) _ OFF
    (λ t. let k : e % ROWS + 1 < ROWS = ltb-true _ _ (and_parts _ _ t).0 in left_inside p rung (e + 1) (omega arith)) (omega arith)

pub all_one : {A : Type 0} (P : A → Type 0) (x : A) → P x → All P (x ∷ [])
all_one P x h = grind (arith, common_steps)

inside_before : (p : Drawing) (rung n : ℕ) → n ≤ PLACES → All IsInside (gates_before p rung n)
unfolding gates_before
inside_before p rung zero h = All-nil _
inside_before p rung (suc n) h = elim (cases_Bool (has_gate p rung n)) [
  | inl t ↦ subst (λ (xs : List Gate). All IsInside xs) (sym (cond-true (has_gate p rung n) _ _ t))
      (All-append IsInside (gates_before p rung n) _ (inside_before p rung n (omega arith))
      (all_one IsInside (gate_at p rung n) (omega arith, left_inside p rung n (omega arith), below_inside p rung n (omega arith), other_inside p rung n (omega arith))))
  | inr t ↦ subst (λ (xs : List Gate). All IsInside xs) (sym (cond-false (has_gate p rung n) _ _ t)) (inside_before p rung n (omega arith))
]

pub gates_inside : (p : Drawing) (rung : ℕ) → All IsInside (gates_of p rung)
unfolding gates_of
gates_inside p rung = inside_before p rung PLACES (omega arith)

-- ON and OFF are where the gates look for them.
pub record AreRailed {S : Type 0} (o : Algebra S) (R : List S) : Type 0 where
  pub long : length R ≡ LINKS
  pub on : get_or R ON (o.known false) ≡ o.known true
  pub off : get_or R OFF (o.known false) ≡ o.known false

module _ {S : Type 0} (o : Algebra S) (V : S → Type 0) (l : LatticeLaws S V o) (p : Drawing) (k : Kept) (now j : ℕ) (f : Frame S) (vs : AreValues o V f) where
  abbrev lk : ℕ → ℕ → S
  lk row column = left_link o (circuit o (diagram_of p) k now j f) row column

  abbrev cl : ℕ → Cell
  cl e = (diagram_of p).cell j e

  -- the second input of a cell
  abbrev low : ℕ → ℕ → S
  low column q = lower o ((diagram_of p).linked j (ROWS * column + q)) (lk (q + 1) column)

  -- the right link of a cell
  abbrev right : ℕ → ℕ → S
  right column q = own o (diagram_of p) k now f (cl (ROWS * column + q)) (lk q column) (low column q)

  abbrev here : ℕ → S
  here e = right (e / ROWS) (e % ROWS)

  lk_value : (row column : ℕ) → V (lk row column)
  lk_value row column = left_value o V l (diagram_of p) k now j f vs row column

  low_value : (column q : ℕ) → V (low column q)
  low_value column q = either_value o V l ((diagram_of p).linked j (ROWS * column + q)) _ _ (lk_value (q + 1) column) (l.known_value false)

  right_value : (column q : ℕ) → V (right column q)
  right_value column q =
      either_value o V l (is_block (cl (ROWS * column + q))) _ _
      (q-value o V l (diagram_of p) k now (cl (ROWS * column + q)) _ _ (lk_value q column) (low_value column q))
      (l.meet_value _ _ (lk_value q column) (closed-value o V l f vs _ (l.known_value _) (cl (ROWS * column + q))))

  -- ---- what a gate lets through is what its cell does
  contact_through : (mode : Mode) (operand : Operand) (memory : _) (x y : S) → through o (diagram_of p) k now f (literal_on mode operand) (Contact mode operand memory) x y ≡ own o (diagram_of p) k now f (Contact mode operand memory) x y
  contact_through Plain (Var var) memory x y = elim (cases_Bool (nat_lt var 65536)) [
    | inl t ↦ ap (λ (b : Bool). through o (diagram_of p) k now f (cond b (Is var) Other) (Contact Plain (Var var) memory) x y) t
    | inr t ↦ ap (λ (b : Bool). through o (diagram_of p) k now f (cond b (Is var) Other) (Contact Plain (Var var) memory) x y) t
  ]
  contact_through Plain (Output inst) memory x y = refl
  contact_through Negated (Var var) memory x y = elim (cases_Bool (nat_lt var 65536)) [
    | inl t ↦ ap (λ (b : Bool). through o (diagram_of p) k now f (cond b (Not var) Other) (Contact Negated (Var var) memory) x y) t
    | inr t ↦ ap (λ (b : Bool). through o (diagram_of p) k now f (cond b (Not var) Other) (Contact Negated (Var var) memory) x y) t
  ]
  contact_through Negated (Output inst) memory x y = refl
  contact_through Rising operand memory x y = refl
  contact_through Falling operand memory x y = refl

  cell_through : (c : Cell) (x y : S) → through o (diagram_of p) k now f (literal_of c) c x y ≡ own o (diagram_of p) k now f c x y
  cell_through (Contact mode operand memory) x y = contact_through mode operand memory x y
  cell_through _ x y = refl

  -- the gate of a block keeps its Q by itself
  block_other : (c : Cell) → is_block c ≡ true → is_other (literal_of c) ≡ true
  block_other (Block inst) h = refl
  block_other _ h = cc

  -- ---- links so far
  first : (e : ℕ) → e < ROWS → lk (e % ROWS) (e / ROWS) ≡ o.known true
  first e h = first_column o V l (diagram_of p) k now j f vs e h

  next : (row column : ℕ) → lk row (suc column) ≡ join_where o ((diagram_of p).feeds j row (suc column)) (right column) ROWS
  next row column = column_next o V l (diagram_of p) k now j f vs row column

  -- The gates of the cells before place n gave what they must, those of blocks also by themselves.
  record Good (n : ℕ) (R : List S) : Type 0 where
    feeding : Feeding o p j right n R
    alone : (e : ℕ) → e < n → is_block (cl e) ≡ true → get_or R (OWN + e) (o.known false) ≡ here e

  -- ---- one gate
  same_place : (e : ℕ) (g : ℕ → S) → g (ROWS * (e / ROWS) + e % ROWS) ≡ g e
  same_place e g = ap g (place_is e)

  gate_is : (e : ℕ) → e < PLACES → (R : List S) → Feeding o p j right e R → let_through o (diagram_of p) k now j f R (gate_at p j e) ≡ here e
  gate_is e h R good =
      ap (λ c. through o (diagram_of p) k now f (literal_of c) (cl e) (get_or R (left_of p j e) (o.known false)) (get_or R (below_of p j e) (o.known false))) (sym (cell_is p j e h))
      ∙ ap₂ (λ x y. through o (diagram_of p) k now f (literal_of (cl e)) (cl e) x y) (left_is o V l p j lk right right_value first next e h e (omega arith) R good) (below_is o V l p j lk right right_value first next e h e (omega arith) R good)
      ∙ cell_through (cl e) (lk (e % ROWS) (e / ROWS)) (lower o ((diagram_of p).linked j e) (lk (e % ROWS + 1) (e / ROWS)))
      ∙ sym (same_place e (λ i. own o (diagram_of p) k now f (cl i) (lk (e % ROWS) (e / ROWS)) (lower o ((diagram_of p).linked j i) (lk (e % ROWS + 1) (e / ROWS)))))

  first_other : (b : Bool) (R : List S) (e i : ℕ) (x : S) → (i ≡ OWN + e → ⊥) → get_or (cond b (set R (OWN + e) x) R) i (o.known false) ≡ get_or R i (o.known false)
  first_other true R e i x h = get_or-set_other R (OWN + e) i x (o.known false) h
  first_other false R e i x h = refl

  first_same : (b : Bool) (R : List S) (e : ℕ) (x : S) → b ≡ true → OWN + e < length R → get_or (cond b (set R (OWN + e) x) R) (OWN + e) (o.known false) ≡ x
  first_same true R e x h lt = get_or-set_same R (OWN + e) x (o.known false) lt
  first_same false R e x h lt = cc

  first_length : (b : Bool) (R : List S) (e : ℕ) (x : S) → length (cond b (set R (OWN + e) x) R) ≡ length R
  first_length true R e x = length-set R (OWN + e) x
  first_length false R e x = refl

  one_gate : (e : ℕ) → e < PLACES → (R : List S) → Good e R → Good (suc e) (passed o (diagram_of p) k now j f R (gate_at p j e))
  one_gate e h R good =
      let b = is_other (literal_of (cell_of p j e)) in
      let x : S = let_through o (diagram_of p) k now j f R (gate_at p j e) in
      let y : S = o.join x (get_or R (other_of p j e) (o.known false)) in
      let R1 : List S = cond b (set R (OWN + e) x) R in
      let long : OWN + e < length R = omega (arith, good.feeding.long) in
      let so_far : Feeding o p j right e R1 = record {
        long = first_length b R e x ∙ good.feeding.long;
        on = first_other b R e ON x (λ t. omega arith) ∙ good.feeding.on;
        off = first_other b R e OFF x (λ t. omega arith) ∙ good.feeding.off;
        fed = λ i lt t. first_other b R e i x (λ t. omega arith) ∙ good.feeding.fed i lt t;
      } in
      let given = ap₂ o.join (gate_is e h R good.feeding) (other_is o V l p j lk right right_value first next e h R good.feeding) in
      record {
        feeding = fed_more o p j right e h R1 so_far y given;
        alone = λ i lt t. elim (cases_eq i e) [
          | inl same ↦
              let block : is_block (cl e) ≡ true = ap (λ n. is_block (cl n)) (sym same) ∙ t in
              ap (λ n. get_or (set R1 e y) (OWN + n) (o.known false)) same
              ∙ get_or-set_other R1 e (OWN + e) y (o.known false) (λ t. omega arith)
              ∙ first_same b R e x (ap (λ c. is_other (literal_of c)) (sym (cell_is p j e h)) ∙ block_other (cl e) block) long
              ∙ gate_is e h R good.feeding ∙ ap here (sym same)
          | inr other ↦
              get_or-set_other R1 e (OWN + i) y (o.known false) (λ t. omega arith) ∙ first_other b R e (OWN + i) x (λ t. omega (arith, other)) ∙ good.alone i (omega (arith, other)) t
        ];
      }

  no_gate : (e : ℕ) → e < PLACES → has_gate p j e ≡ false → (R : List S) → Good e R → Good (suc e) R
  no_gate e h none R good =
      let w = or_parts (is_block (cell_of p j e)) (feeds_on p j e) none in
      record {
        feeding = fed_without o p j right e w.1 R good.feeding;
        alone = λ i lt t. elim (cases_eq i e) [
          | inl same ↦ absurd (on_off (is_block (cl i)) t (ap (λ n. is_block (cl n)) same ∙ ap is_block (cell_is p j e h) ∙ w.0))
          | inr other ↦ good.alone i (omega (arith, other)) t
        ];
      }

  ran_append : (gs hs : List Gate) (R : List S) → ran o (diagram_of p) k now j f (gs ++ hs) R ≡ ran o (diagram_of p) k now j f hs (ran o (diagram_of p) k now j f gs R)
  unfolding ran
  ran_append [] hs R = refl
  ran_append (g ∷ gs) hs R = ran_append gs hs _

  all_good : (n : ℕ) → n ≤ PLACES → (R : List S) → length R ≡ LINKS → get_or R ON (o.known false) ≡ o.known true → get_or R OFF (o.known false) ≡ o.known false
      → Good n (ran o (diagram_of p) k now j f (gates_before p j n) R)
  unfolding gates_before ran
  all_good zero h R long on off = record { feeding = record { long = long; on = on; off = off; fed = λ e lt t. absurd (omega arith) }; alone = λ e lt t. absurd (omega arith) }
  all_good (suc n) h R long on off =
      let before = all_good n (omega arith) R long on off in
      elim (cases_Bool (has_gate p j n)) [
        | inl b ↦ subst (λ (gs : List Gate). Good (suc n) (ran o (diagram_of p) k now j f gs R)) (sym (cond-true (has_gate p j n) _ _ b))
            (subst (λ (xs : List S). Good (suc n) xs) (sym (ran_append (gates_before p j n) (gate_at p j n ∷ []) R)) (one_gate n (omega arith) _ before))
        | inr b ↦ subst (λ (gs : List Gate). Good (suc n) (ran o (diagram_of p) k now j f gs R)) (sym (cond-false (has_gate p j n) _ _ b)) (no_gate n (omega arith) b _ before)
      ]

  -- ---- all gates
  pub links_are : (R : List S) → length R ≡ LINKS → get_or R ON (o.known false) ≡ o.known true → get_or R OFF (o.known false) ≡ o.known false
      → AreLinks o p k now j f (ran o (diagram_of p) k now j f (gates_of p j) R)
  unfolding gates_of
  links_are R long on off =
      let good = all_good PLACES (omega arith) R long on off in
      record {
        left = λ e h. left_is o V l p j lk right right_value first next e h PLACES (omega arith) _ good.feeding;
        below = λ e h. below_is o V l p j lk right right_value first next e h PLACES (omega arith) _ good.feeding ∙ sym (second_is o V l p j lk right right_value first next e h);
        own = λ e h block.
            good.alone e h block
            ∙ same_place e (λ i. own o (diagram_of p) k now f (cl i) (lk (e % ROWS) (e / ROWS)) (lower o ((diagram_of p).linked j i) (lk (e % ROWS + 1) (e / ROWS))))
            ∙ cond-true (is_block (cl e)) _ _ block
            ∙ ap (q_here o (diagram_of p) k now (cl e) (lk (e % ROWS) (e / ROWS))) (sym (second_is o V l p j lk right right_value first next e h));
      }

  -- the gates leave the rails as they are
  pub rails_stay : (R : List S) → AreRailed o R → AreRailed o (ran o (diagram_of p) k now j f (gates_of p j) R)
  unfolding gates_of
  rails_stay R rails =
      let good = all_good PLACES (omega arith) R rails.long rails.on rails.off in
      record { long = good.feeding.long; on = good.feeding.on; off = good.feeding.off }
