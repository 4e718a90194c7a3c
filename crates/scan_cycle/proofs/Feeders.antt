-- The links of a rung, as far as they were found: what comes from the cells of a column is at the place of the last one that feeds a cell.
-- It holds of any left links and right links of cells of which each column's come from those before.
use Rattle.std.proofs.Common.{◌≡◌, ℕ, ◌+◌, ◌-◌, ◌*◌, ◌/◌, ◌%◌, ◌<◌, ◌≤◌, ◌&&◌, Bool, true, false, cond, List, get_or, set, length, zero, suc, nat_eq, nat_lt, refl, sym, ap, ap₂, ◌∙◌, arith, get_or-set_other, get_or-set_same, length-set, inl, inr}
use Rattle.std.proofs.lemmas.Bool.Decides.{nat_tests}
use Rattle.std.proofs.lemmas.Bool.{cases_eq, cases_Bool, cond-true, cond-false, eqb-true, lt-ltb, ltb-true, and_parts}
use Rattle.diagram_program.specs.declared.geometry.TheConstants.{ROWS, COLUMNS, PLACES}
use Rattle.diagram_program.specs.declared.gates.TheConstants.{ON, OFF, LINKS}
use Rattle.diagram_program.specs.declared.cell.Cell.{Cell}
use Rattle.diagram_program.specs.declared.cell.Cell.TheVariants.{Empty}
use Rattle.diagram_program.specs.Program.{Drawing, feeds, cell_of, is_linked}
use Rattle.diagram_program.specs.Gates.{last_of, last_feeder, left_of, other_of, below_of, feeds_on}
use Rattle.scan_signals.specs.Algebra.{Algebra, LatticeLaws}
use Rattle.scan_cycle.specs.Rung.{lower, second}
use Rattle.scan_cycle.specs.Programs.{cell_at, diagram_of}
use Rattle.scan_cycle.specs.Gating.{join_where}
use Rattle.scan_cycle.proofs.Groups.{fed_on, group}
use Rattle.scan_cycle.proofs.Links.{fed_same, either_value}

-- ---- numbers and tests
pub on_off : (b : Bool) → b ≡ true → b ≡ false → ⊥
on_off true h k = cc
on_off false h k = cc

pub the_column : (column row : ℕ) → row < ROWS → (ROWS * column + row) / ROWS ≡ column
the_column column row h = omega arith

pub the_row : (column row : ℕ) → row < ROWS → (ROWS * column + row) % ROWS ≡ row
the_row column row h = omega arith

pub place_is : (e : ℕ) → ROWS * (e / ROWS) + e % ROWS ≡ e
place_is e = omega arith

pub row_small : (e : ℕ) → e % ROWS < ROWS
row_small e = omega arith

-- ---- the diagram of a drawing
pub cell_is : (p : Drawing) (j place : ℕ) → place < PLACES → (diagram_of p).cell j place ≡ cell_of p j place
unfolding diagram_of
cell_is p j place h = cond-true (nat_lt place PLACES) (cell_of p j place) Empty (lt-ltb place PLACES h)

pub feeds_is : (p : Drawing) (j row column q : ℕ) → (diagram_of p).feeds j row column q ≡ feeds p j row column q
unfolding diagram_of
feeds_is p j row column q = refl

pub linked_is : (p : Drawing) (j e : ℕ) → e < PLACES → (diagram_of p).linked j e ≡ (nat_lt (e % ROWS + 1) ROWS && is_linked (cell_of p j (e + 1)))
unfolding diagram_of
linked_is p j e h = elim (cases_Bool (nat_lt (e % ROWS + 1) ROWS)) [
  | inl t ↦
      let k : e % ROWS + 1 < ROWS = ltb-true _ _ t in
      ap (λ (c : Cell). nat_lt (e % ROWS + 1) ROWS && is_linked c) (cond-true (nat_lt (e + 1) PLACES) (cell_of p j (e + 1)) Empty (lt-ltb (e + 1) PLACES (omega arith)))
  | inr t ↦ ap (λ b. b && is_linked (cell_at p j (e + 1))) t ∙ sym (ap (λ b. b && is_linked (cell_of p j (e + 1))) t)
]

-- What the gates of a rung give, from the right links of cells.
module _ {S : Type 0} (o : Algebra S) (p : Drawing) (j : ℕ) (right : ℕ → ℕ → S) where
  -- the OR of what comes from the rows above into the group on the right
  abbrev pub above : ℕ → ℕ → S
  above column row = cond (nat_lt (column + 1) COLUMNS) (join_where o (feeds p j row (column + 1)) (right column) row) (o.known false)

  abbrev pub want : ℕ → S
  want e = o.join (right (e / ROWS) (e % ROWS)) (above (e / ROWS) (e % ROWS))

  -- The gates of the cells before place n gave what they must.
  pub record Feeding (n : ℕ) (R : List S) : Type 0 where
    pub long : length R ≡ LINKS
    pub on : get_or R ON (o.known false) ≡ o.known true
    pub off : get_or R OFF (o.known false) ≡ o.known false
    pub fed : (e : ℕ) → e < n → feeds_on p j e ≡ true → get_or R e (o.known false) ≡ want e

  -- one gate more, or a cell that has none
  pub fed_more : (e : ℕ) → e < PLACES → (R : List S) → Feeding e R → (x : S) → x ≡ want e → Feeding (suc e) (set R e x)
  fed_more e h R good x is =
      let long : e < length R = omega (arith, good.long) in
      record {
        long = length-set R e x ∙ good.long;
        on = get_or-set_other R e ON x (o.known false) (λ t. omega arith) ∙ good.on;
        off = get_or-set_other R e OFF x (o.known false) (λ t. omega arith) ∙ good.off;
        fed = λ i lt t. elim (cases_eq i e) [
          | inl same ↦ ap (λ n. get_or (set R e x) n (o.known false)) same ∙ get_or-set_same R e x (o.known false) long ∙ is ∙ ap want (sym same)
          | inr other ↦ get_or-set_other R e i x (o.known false) other ∙ good.fed i (omega (arith, other)) t
        ];
      }

  pub fed_without : (e : ℕ) → feeds_on p j e ≡ false → (R : List S) → Feeding e R → Feeding (suc e) R
  fed_without e silent R good = record {
    long = good.long;
    on = good.on;
    off = good.off;
    fed = λ i lt t. elim (cases_eq i e) [
      | inl same ↦ absurd (on_off (feeds_on p j i) t (ap (feeds_on p j) same ∙ silent))
      | inr other ↦ good.fed i (omega (arith, other)) t
    ];
  }

module _ {S : Type 0} (o : Algebra S) (V : S → Type 0) (l : LatticeLaws S V o) (p : Drawing) (j : ℕ) (lk right : ℕ → ℕ → S)
    (right_value : (column q : ℕ) → V (right column q))
    (first : (e : ℕ) → e < ROWS → lk (e % ROWS) (e / ROWS) ≡ o.known true)
    (next_column : (row column : ℕ) → lk row (suc column) ≡ join_where o ((diagram_of p).feeds j row (suc column)) (right column) ROWS) where
  joined_value : (t : ℕ → Bool) (g : ℕ → S) (n : ℕ) → ((q : ℕ) → V (g q)) → V (join_where o t g n)
  unfolding join_where
  joined_value t g zero h = l.known_value false
  joined_value t g (suc n) h = either_value o V l (t n) _ _ (l.join_value _ _ (joined_value t g n h) (h n)) (joined_value t g n h)

  want_is : (column q : ℕ) → column + 1 < COLUMNS → q < ROWS → want o p j right (ROWS * column + q) ≡ o.join (right column q) (join_where o (feeds p j q (column + 1)) (right column) q)
  want_is column q c h =
      ap₂ (λ a b. o.join (right a b) (above o p j right a b)) (the_column column q h) (the_row column q h)
      ∙ ap (o.join (right column q)) (cond-true (nat_lt (column + 1) COLUMNS) _ _ (lt-ltb (column + 1) COLUMNS c))

  feeds_there : (row column q : ℕ) → row < ROWS → column + 1 < COLUMNS → q < ROWS → feeds p j row (column + 1) q ≡ true → feeds_on p j (ROWS * column + q) ≡ true
  feeds_there row column q r c h fed =
      ap₂ (λ a b. nat_lt (a + 1) COLUMNS && feeds p j b (a + 1) b) (the_column column q h) (the_row column q h)
      ∙ ap (λ b. b && feeds p j q (column + 1) q) (lt-ltb (column + 1) COLUMNS c)
      ∙ fed_on p j column row q r h fed

  -- The last of the first n rows that feeds a cell has the OR over these rows.
  at_last : (row column n : ℕ) → row < ROWS → column + 1 < COLUMNS → n ≤ ROWS → (m : ℕ) → ROWS * column + n ≤ m → (R : List S) → Feeding o p j right m R
      → get_or R (last_of (feeds p j row (column + 1)) (ROWS * (column + 1 - 1)) n) (o.known false) ≡ join_where o (feeds p j row (column + 1)) (right column) n
  unfolding last_of join_where
  at_last row column zero r c h m le R good = good.off
  at_last row column (suc n) r c h m le R good = elim (cases_Bool (feeds p j row (column + 1) n)) [
    | inl b ↦
        let base : ROWS * (column + 1 - 1) + n ≡ ROWS * column + n = omega arith in
        ap (λ e. get_or R e (o.known false)) (cond-true (feeds p j row (column + 1) n) (ROWS * (column + 1 - 1) + n) _ b)
        ∙ ap (λ e. get_or R e (o.known false)) base
        ∙ good.fed (ROWS * column + n) (omega arith) (feeds_there row column n r c (omega arith) b)
        ∙ want_is column n c (omega arith)
        ∙ ap (o.join (right column n)) (fed_same o V l (feeds p j n (column + 1)) (feeds p j row (column + 1)) (right column) (right column) n (λ q lt. group p j column row n r (omega arith) b q (omega arith)) (λ q lt t. refl))
        ∙ l.join_comm _ _ (right_value column n) (joined_value (feeds p j row (column + 1)) (right column) n (λ q. right_value column q))
        ∙ sym (cond-true (feeds p j row (column + 1) n) (o.join (join_where o (feeds p j row (column + 1)) (right column) n) (right column n)) _ b)
    | inr b ↦
        ap (λ e. get_or R e (o.known false)) (cond-false (feeds p j row (column + 1) n) (ROWS * (column + 1 - 1) + n) _ b)
        ∙ at_last row column n r c (omega arith) m (omega arith) R good
        ∙ sym (cond-false (feeds p j row (column + 1) n) (o.join (join_where o (feeds p j row (column + 1)) (right column) n) (right column n)) _ b)
  ]

  -- ---- what a gate looks at
  pub left_is : (e : ℕ) → e < PLACES → (m : ℕ) → ROWS * (e / ROWS) ≤ m → (R : List S) → Feeding o p j right m R → get_or R (left_of p j e) (o.known false) ≡ lk (e % ROWS) (e / ROWS)
  left_is e h m le R good = elim (cases_Bool (nat_eq (e / ROWS) 0)) [
    | inl b ↦
        let none : e / ROWS ≡ 0 = eqb-true (e / ROWS) 0 b in
        ap (λ n. get_or R n (o.known false)) (cond-true (nat_eq (e / ROWS) 0) ON (last_feeder p j (e % ROWS) (e / ROWS) ROWS) b) ∙ good.on
        ∙ sym (first e (omega (arith, none)))
    | inr b ↦
        let some : 1 ≤ e / ROWS = grind (arith, nat_tests) in
        let column = e / ROWS - 1 in
        let there : column + 1 ≡ e / ROWS = omega arith in
        let next : suc column ≡ e / ROWS = omega arith in
        ap (λ n. get_or R n (o.known false)) (cond-false (nat_eq (e / ROWS) 0) ON (last_feeder p j (e % ROWS) (e / ROWS) ROWS) b)
        ∙ ap (λ c. get_or R (last_feeder p j (e % ROWS) c ROWS) (o.known false)) (sym there)
        ∙ at_last (e % ROWS) column ROWS (row_small e) (omega arith) (omega arith) m (omega arith) R good
        ∙ ap (λ c. join_where o (feeds p j (e % ROWS) c) (right column) ROWS) (there ∙ sym next)
        ∙ sym (fed_same o V l ((diagram_of p).feeds j (e % ROWS) (suc column)) (feeds p j (e % ROWS) (suc column)) (right column) (right column) ROWS (λ q lt. feeds_is p j (e % ROWS) (suc column) q) (λ q lt t. refl))
        ∙ sym (next_column (e % ROWS) column)
        ∙ ap (λ c. lk (e % ROWS) c) next
  ]

  pub other_is : (e : ℕ) → e < PLACES → (R : List S) → Feeding o p j right e R → get_or R (other_of p j e) (o.known false) ≡ above o p j right (e / ROWS) (e % ROWS)
  other_is e h R good = elim (cases_Bool (nat_lt (e / ROWS + 1) COLUMNS)) [
    | inl b ↦
        ap (λ n. get_or R n (o.known false)) (cond-true (nat_lt (e / ROWS + 1) COLUMNS) (last_feeder p j (e % ROWS) (e / ROWS + 1) (e % ROWS)) OFF b)
        ∙ at_last (e % ROWS) (e / ROWS) (e % ROWS) (row_small e) (ltb-true _ _ b) (omega arith) e (omega arith) R good
        ∙ sym (cond-true (nat_lt (e / ROWS + 1) COLUMNS) _ _ b)
    | inr b ↦
        ap (λ n. get_or R n (o.known false)) (cond-false (nat_lt (e / ROWS + 1) COLUMNS) (last_feeder p j (e % ROWS) (e / ROWS + 1) (e % ROWS)) OFF b)
        ∙ good.off ∙ sym (cond-false (nat_lt (e / ROWS + 1) COLUMNS) _ _ b)
  ]

  pub below_is : (e : ℕ) → e < PLACES → (m : ℕ) → ROWS * (e / ROWS) ≤ m → (R : List S) → Feeding o p j right m R → get_or R (below_of p j e) (o.known false) ≡ lower o ((diagram_of p).linked j e) (lk (e % ROWS + 1) (e / ROWS))
  below_is e h m le R good = elim (cases_Bool (nat_lt (e % ROWS + 1) ROWS && is_linked (cell_of p j (e + 1)))) [
    | inl b ↦
        let row : e % ROWS + 1 < ROWS = ltb-true _ _ (and_parts _ _ b).0 in
        let next_row : (e + 1) % ROWS ≡ e % ROWS + 1 = omega arith in
        let same_column : (e + 1) / ROWS ≡ e / ROWS = omega arith in
        ap (λ n. get_or R n (o.known false)) (cond-true _ (left_of p j (e + 1)) OFF b)
        ∙ left_is (e + 1) (omega arith) m (omega (arith, same_column)) R good
        ∙ ap₂ lk next_row same_column
        ∙ sym (cond-true ((diagram_of p).linked j e) (lk (e % ROWS + 1) (e / ROWS)) (o.known false) (linked_is p j e h ∙ b))
    | inr b ↦
        ap (λ n. get_or R n (o.known false)) (cond-false _ (left_of p j (e + 1)) OFF b)
        ∙ good.off
        ∙ sym (cond-false ((diagram_of p).linked j e) (lk (e % ROWS + 1) (e / ROWS)) (o.known false) (linked_is p j e h ∙ b))
  ]

  pub second_is : (e : ℕ) → e < PLACES → second o (diagram_of p) j (λ i. lk (i % ROWS) (i / ROWS)) e ≡ lower o ((diagram_of p).linked j e) (lk (e % ROWS + 1) (e / ROWS))
  second_is e h = elim (cases_Bool ((diagram_of p).linked j e)) [
    | inl b ↦
        let row : e % ROWS + 1 < ROWS = ltb-true _ _ (and_parts _ _ (sym (linked_is p j e h) ∙ b)).0 in
        let next_row : (e + 1) % ROWS ≡ e % ROWS + 1 = omega arith in
        let same_column : (e + 1) / ROWS ≡ e / ROWS = omega arith in
        ap (lower o ((diagram_of p).linked j e)) (ap₂ lk next_row same_column)
    | inr b ↦ cond-false ((diagram_of p).linked j e) _ (o.known false) b ∙ sym (cond-false ((diagram_of p).linked j e) _ (o.known false) b)
  ]
