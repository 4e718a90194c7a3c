-- The cells that a sound page is read as are well formed.
use Rattle.std.proofs.Common.{if◌then◌else◌, ◌≡◌, ℕ, ◌+◌, ◌-◌, ◌*◌, ◌/◌, ◌%◌, ◌<◌, ◌≤◌, inl, inr, Bool, true, false, ◌==◌, cond, List, length, get_or, count_by, nat_lt, position, zero, suc, take, add-one, Option, Some, None, refl, sym, ap, ap₂, subst, ◌∙◌, arith, slice_get}
use Rattle.std.specs.Prelude.{option_map}
use Rattle.std.proofs.lemmas.Bool.{cases_lt, ltb-true, eqb-false, ne_eqb}
use Rattle.std.proofs.lemmas.List.Quantifiers.{position-Some}
use Rattle.std.proofs.lemmas.List.{get_or_past, length-map, take_all}
use Rattle.std.proofs.lemmas.Option.{none-some, same_Some}
use Rattle.diagram_program.specs.declared.geometry.TheConstants.{ROWS, COLUMNS, PLACES}
use Rattle.diagram_program.specs.declared.cell.Cell.{Cell}
use Rattle.diagram_program.specs.declared.cell.Cell.TheVariants as cell
use Rattle.diagram_program.specs.declared.site.Site.{Site}
use Rattle.diagram_declarations.specs.declared.kind.Pin.{Pin}
use Rattle.diagram_page.specs.declared.form.Form.TheVariants.{Lower}
use Rattle.diagram_reader.specs.declared.grid_rule.Rule.TheVariants.{Grid}
use Rattle.diagram_reader.specs.declared.grid_rule.GridRule.TheVariants as rule
use Rattle.diagram_page.specs.declared.picture.Half.TheVariants as half
use Rattle.diagram_page.specs.declared.operand.Reference.{Reference}
use Rattle.diagram_page.specs.Gap.{Labels, is_named}
use Rattle.diagram_reader.proofs.BlockLaws.{drawn_back}
use Rattle.diagram_reader.specs.Rules.{wants_name, IsDrawnAt, IsTorn}
use Rattle.diagram_page.specs.Page.{Page, rung_at, labels_of, form_at, name_over, instance_at}
use Rattle.diagram_page.specs.Picture.{has_text}
use Rattle.diagram_page.specs.Texts.{text_over}
use Rattle.diagram_program.specs.AllPlaces.{reading_place}
use Rattle.diagram_page.specs.Form.{leaps}
use Rattle.diagram_reader.specs.Checks.{label_of, later, target_to, jump_label}
use Rattle.diagram_reader.specs.PageRules.{target_of}
use Rattle.diagram_reader.specs.Rung.{IsSoundRung}
use Rattle.diagram_reader.proofs.TargetLaws.{target_is}
use Rattle.diagram_program.specs.Sheet.{blank_site}
use Rattle.diagram_program.specs.Program.{Drawing, site_in, cell_in, memory_in, block_in, goes_to, has_memory, Fits, has_second, IsWellFormed}
use Rattle.diagram_program.specs.Geometry.{place}
use Rattle.diagram_reader.specs.Reading.{is_edge, cell_with, cell_drawn, memories_before, IsDrawn}
use Rattle.diagram_page.proofs.FitLaws.{SymbolFits, refer_fits, instance_fits}
use Rattle.diagram_reader.proofs.CellFits.{cell_fits, edge_has}
use Rattle.diagram_reader.proofs.LowerLaws.{FitsName, block_may, block_of, lower_found, second_input}
use Rattle.diagram_page.proofs.ReadingOrder.{rung_of_place, row_of_place, column_of_place, earlier}
use Rattle.diagram_reader.proofs.DrawnCell.{Tells, lower_in, told, is_block}
use Rattle.diagram_reader.proofs.NumberLaws.{count_more, next_memory, before_more}
use Rattle.diagram_reader.proofs.SoundRungs.{sound_rung}

-- ---- targets
later_is : (k t : ℕ) (o : Option ℕ) → later k o ≡ Some t → (k < t) × (o ≡ Some t)
later_is k t None h = absurd (none-some _ h)
later_is k t (Some target) h =
    elim (nat_lt k target) as (λ b. nat_lt k target ≡ b → cond b (Some target) None ≡ Some t → (k < t) × (Some target ≡ Some t)) [
      | true ↦ λ test same.
          let below : k < target = ltb-true k target test in
          let e : target ≡ t = same_Some target t same in
          (subst (λ x. k < x) e below, same)
      | false ↦ λ test same. absurd (none-some _ same)
    ] refl h

target_within : (labels : Labels) (k t : ℕ) (label : Option (List ℕ)) → target_to labels k label ≡ Some t → (k < t) × (t < length labels)
target_within labels k t None h = absurd (none-some _ h)
target_within labels k t (Some word) h =
    let l = later_is k t (position (is_named word) labels) h in
    (l.0, (position-Some (is_named word) labels t None l.1).0)

-- ---- cells of a sound page
abbrev instance_above : Page → ℕ → ℕ → ℕ → Option ℕ
instance_above page k r c = if r == 0 then None else instance_at page k (r - 1) c

abbrev number_at : Page → ℕ → ℕ → ℕ → ℕ
number_at page k r c = memories_before page (place k r c)

abbrev drawn : Page → ℕ → ℕ → ℕ → Cell
drawn page k r c = cell_drawn page (number_at page k r c) k r c

abbrev keeps : Site → Bool
keeps s = has_memory s.cell

module _ (page : Page) (d : Drawing) (read : IsDrawn page d) where
  -- what is so at the place i
  record Stands (i : ℕ) (P : ℕ → ℕ → ℕ → Type 0) : Type 0 where
    rung : ℕ
    row : ℕ
    column : ℕ
    below : rung < d.rungs
    in_rung : row < ROWS
    in_row : column < COLUMNS
    at : i ≡ place rung row column
    holds : P rung row column

  restated : {P Q : ℕ → ℕ → ℕ → Type 0} (i : ℕ) → ((k r c : ℕ) → k < d.rungs → P k r c → Q k r c) → Stands i P → Stands i Q
  restated i f s = record {
    rung = s.rung;
    row = s.row;
    column = s.column;
    below = s.below;
    in_rung = s.in_rung;
    in_row = s.in_row;
    at = s.at;
    holds = f s.rung s.row s.column s.below s.holds;
  }

  -- what the cell at a place says
  says : (k r c : ℕ) → Tells (number_at page k r c) d.rungs (form_at page k r c) (option_map (λ (x : Reference). x.symbol) (name_over page k r c)) (instance_above page k r c)
      (target_of (labels_of page.lines page.parts) k (form_at page k r c)) (drawn page k r c)
  says k r c = told (number_at page k r c) d.rungs (form_at page k r c) _ _ _

  cell_there : (k r c : ℕ) → k < d.rungs → r < ROWS → c < COLUMNS → cell_in d (place k r c) ≡ drawn page k r c
  cell_there k r c below rows columns = ap (λ s. s.cell) (read.sites k r c below rows columns)

  cell_is : (i : ℕ) → i < PLACES * d.rungs → Stands i (λ k r c. cell_in d i ≡ drawn page k r c)
  cell_is i within =
      let rung : i / PLACES < d.rungs = omega arith in
      let row : i % PLACES % ROWS < ROWS = omega arith in
      let column : i % PLACES / ROWS < COLUMNS = omega arith in
      let is : i ≡ place (i / PLACES) (i % PLACES % ROWS) (i % PLACES / ROWS) = omega arith in
      record {
        rung = i / PLACES;
        row = i % PLACES % ROWS;
        column = i % PLACES / ROWS;
        below = rung;
        in_rung = row;
        in_row = column;
        at = is;
        holds = ap (cell_in d) is ∙ cell_there (i / PLACES) (i % PLACES % ROWS) (i % PLACES / ROWS) rung row column;
      }

  past_end : (i : ℕ) → PLACES * d.rungs ≤ i → cell_in d i ≡ cell.Empty
  past_end i past = ap (λ x. x.cell) (get_or_past d.sites i blank_site (omega (arith, past, read.size)))

  -- a memory has the number of those before it
  memory_is : (i number : ℕ) → memory_in (cell_in d i) ≡ Some number → (i < PLACES * d.rungs) × (memories_before page i ≡ number)
      × (memories_before page (i + 1) ≡ number + 1)
  memory_is i number h =
      elim (cases_lt i (PLACES * d.rungs)) [
        | inl below ↦
            let s = cell_is i below in
            let m = (says s.rung s.row s.column).memory number (ap memory_in (sym s.holds) ∙ h) in
            let first : memories_before page i ≡ number = ap (memories_before page) s.at ∙ m.0 in
            let edge : is_edge (get_or page.forms i None) ≡ true = ap (λ n. is_edge (get_or page.forms n None)) s.at ∙ m.1 in
            (below, first, rw edge at (next_memory page i) ∙ ap (λ n. n + 1) first)
        | inr past ↦ absurd (none-some _ (ap memory_in (sym (past_end i past)) ∙ h))
      ]

  one_memory : (number i j : ℕ) → memory_in (cell_in d i) ≡ Some number → memory_in (cell_in d j) ≡ Some number → i ≡ j
  one_memory number i j h k =
      let a = memory_is i number h in
      let b = memory_is j number k in
      elim (cases_lt i j) [
        | inl first ↦ absurd (omega (arith, a.2, b.1, before_more page j (i + 1) (omega (arith, first))))
        | inr more ↦ elim (cases_lt j i) [
          | inl second ↦ absurd (omega (arith, b.2, a.1, before_more page i (j + 1) (omega (arith, second))))
          | inr less ↦ omega (arith, more, less)
        ]
      ]

  -- what a part of the cells says, that nothing has past the end
  stands : (f : Cell → Option ℕ) → f cell.Empty ≡ None → (i number : ℕ) → f (cell_in d i) ≡ Some number → Stands i (λ k r c. f (drawn page k r c) ≡ Some number)
  stands f empty i number h =
      elim (cases_lt i (PLACES * d.rungs)) [
        | inl below ↦ restated i (λ k r c _ is. ap f (sym is) ∙ h) (cell_is i below)
        | inr past ↦ absurd (none-some _ (sym (ap f (past_end i past) ∙ empty) ∙ h))
      ]

  sound_at : (k : ℕ) → k < d.rungs → IsSoundRung page k
  sound_at k below = sound_rung page read.sound k (omega (arith, below, read.rungs))

  -- G10: no name is one that its symbol can't have
  never_odd : (k r c : ℕ) → k < d.rungs → r < ROWS → c < COLUMNS → FitsName page.decls (form_at page k r c) (name_over page k r c)
  never_odd k r c below rows columns x name wants odd =
      sound_at k below (Grid rule.WrongKind) (2 * r) (r, half.Name, rows, refl, (c, omega (arith, columns), (columns, (wants, x, name, odd))))

  -- G7 and G9: a cell that wants a name has one
  never_nameless : (k r c : ℕ) → k < d.rungs → r < ROWS → c < COLUMNS → wants_name (form_at page k r c) ≡ true → name_over page k r c ≡ None → ⊥
  never_nameless k r c below rows columns wants none =
      elim (has_text (text_over (rung_at page k) r c)) as (λ b. has_text (text_over (rung_at page k) r c) ≡ b → ⊥) [
        | true ↦ λ text. sound_at k below (Grid rule.Undeclared) (2 * r) (r, half.Name, rows, refl, (c, omega (arith, columns), (columns, (wants, text, none))))
        | false ↦ λ text. sound_at k below (Grid rule.NameMissing) (2 * r) (r, half.Name, rows, refl, (c, omega (arith, columns), (columns, (wants, text))))
      ] refl

  -- an edge has a memory
  edge_keeps : (i : ℕ) → i < PLACES * d.rungs → is_edge (get_or page.forms i None) ≡ true → keeps (site_in d i) ≡ true
  edge_keeps i within edge =
      let s = cell_is i within in
      ap has_memory s.holds
      ∙ edge_has page.decls (number_at page s.rung s.row s.column) (form_at page s.rung s.row s.column) (name_over page s.rung s.row s.column) _ _
      (ap (λ n. is_edge (get_or page.forms n None)) (sym s.at) ∙ edge)
      (never_nameless s.rung s.row s.column s.below s.in_rung s.in_row)
      (never_odd s.rung s.row s.column s.below s.in_rung s.in_row)

  counted : (n : ℕ) → n ≤ PLACES * d.rungs → memories_before page n ≤ count_by keeps (take n d.sites)
  counted zero within = omega arith
  counted (suc n) within =
      let before : memories_before page n ≤ count_by keeps (take n d.sites) = counted n (omega (arith, within)) in
      let more = count_more keeps d.sites n blank_site refl in
      rw (sym (add-one n)) (elim (is_edge (get_or page.forms n None)) as (λ b. is_edge (get_or page.forms n None) ≡ b → memories_before page (n + 1) ≤ count_by keeps (take (n + 1) d.sites)) [
        | true ↦ λ edge. omega (arith, before, rw edge at (next_memory page n), rw (edge_keeps n (omega (arith, within)) edge) at more)
        | false ↦ λ plain. omega (arith, before, rw plain at (next_memory page n), more)
      ] refl)

  memories_below : (number i : ℕ) → memory_in (cell_in d i) ≡ Some number → number < count_by keeps d.sites
  memories_below number i h =
      let a = memory_is i number h in
      let all : count_by keeps (take (PLACES * d.rungs) d.sites) ≡ count_by keeps d.sites = ap (count_by keeps) (take_all (PLACES * d.rungs) d.sites (omega (arith, read.size))) in
      omega (arith, all, a.2, before_more page (PLACES * d.rungs) (i + 1) (omega (arith, a.0)), counted (PLACES * d.rungs) (omega arith))

  -- a block is drawn by a name that it may have
  drawn_at : (k r c inst : ℕ) → k < d.rungs → r < ROWS → c < COLUMNS → instance_at page k r c ≡ Some inst → IsDrawnAt page inst k r c
  unfolding instance_at
  drawn_at k r c inst below rows columns h = block_may page.decls (form_at page k r c) (name_over page k r c) inst h (never_odd k r c below rows columns)

  -- G12: an instance is drawn once
  never_twice : (number k r c j q b : ℕ) → k < d.rungs → r < ROWS → c < COLUMNS → j < d.rungs → q < ROWS → b < COLUMNS
      → instance_at page k r c ≡ Some number → instance_at page j q b ≡ Some number → reading_place j q b < reading_place k r c → ⊥
  never_twice number k r c j q b below rows columns other_below other_rows other_columns here there less =
      sound_at k below (Grid rule.DrawnTwice) (2 * r) (
        r,
        half.Name,
        rows,
        refl,
        (
          c,
          omega (arith, columns),
          (
            columns,
            (
              number,
              drawn_at k r c number below rows columns here,
              (j, q, b, other_rows, other_columns, earlier j q b k r c other_columns columns other_rows rows less, drawn_at j q b number other_below other_rows other_columns there),
            ),
          ),
        ),
      )

  -- G14: a rung has one jump
  never_two : (k r c q b : ℕ) → k < d.rungs → r < ROWS → c < COLUMNS → q < ROWS → b < COLUMNS
      → leaps (form_at page k r c) ≡ true → leaps (form_at page k q b) ≡ true → COLUMNS * q + b < COLUMNS * r + c → ⊥
  never_two k r c q b below rows columns other_rows other_columns here there less =
      let before : reading_place k q b < reading_place k r c = omega (arith, less) in
      sound_at k below (Grid rule.TwoJumps) (2 * r + 1) (r, half.Wire, rows, refl, (c, omega (arith, columns), (columns, (here, (k, q, b, other_rows, other_columns, earlier k q b k r c other_columns columns other_rows rows before, (refl, there))))))

  block_place : (i number : ℕ) → block_in (cell_in d i) ≡ Some number → Stands i (λ k r c. instance_at page k r c ≡ Some number)
  unfolding instance_at
  block_place i number h =
      restated i (λ k r c _ is. sym (says k r c).block ∙ is) (stands block_in refl i number h)

  one_block : (number i j : ℕ) → block_in (cell_in d i) ≡ Some number → block_in (cell_in d j) ≡ Some number → i ≡ j
  one_block number i j h k =
      let a = block_place i number h in
      let b = block_place j number k in
      elim (cases_lt (reading_place a.rung a.row a.column) (reading_place b.rung b.row b.column)) [
        | inl first ↦ absurd (never_twice number b.rung b.row b.column a.rung a.row a.column b.below b.in_rung b.in_row a.below a.in_rung a.in_row b.holds a.holds first)
        | inr more ↦ elim (cases_lt (reading_place b.rung b.row b.column) (reading_place a.rung a.row a.column)) [
          | inl second ↦ absurd (never_twice number a.rung a.row a.column b.rung b.row b.column a.below a.in_rung a.in_row b.below b.in_rung b.in_row a.holds b.holds second)
          | inr less ↦
              let e : reading_place a.rung a.row a.column ≡ reading_place b.rung b.row b.column = omega (arith, more, less) in
              let rung : a.rung ≡ b.rung
              = sym (rung_of_place a.rung a.row a.column a.in_rung a.in_row) ∙ ap (λ n. n / PLACES) e ∙ rung_of_place b.rung b.row b.column b.in_rung b.in_row in
              let row : a.row ≡ b.row
              = sym (row_of_place a.rung a.row a.column a.in_rung a.in_row) ∙ ap (λ n. n % PLACES / COLUMNS) e ∙ row_of_place b.rung b.row b.column b.in_rung b.in_row in
              let column : a.column ≡ b.column
              = sym (column_of_place a.rung a.row a.column a.in_rung a.in_row) ∙ ap (λ n. n % PLACES % COLUMNS) e ∙ column_of_place b.rung b.row b.column b.in_rung b.in_row in
              omega (arith, a.at, b.at, rung, row, column)
        ]
      ]

  jump_place : (i t : ℕ) → goes_to d.rungs (cell_in d i) ≡ Some t
      → Stands i (λ k r c. (leaps (form_at page k r c) ≡ true) × (k < t) × (t ≤ d.rungs))
  jump_place i t h =
      restated i
      (λ k r c below is.
      let g = (says k r c).goal t is in
      elim g.1 [
        | inl past ↦ (g.0, omega (arith, past, below), omega (arith, past))
        | inr known ↦
            let w = target_within (labels_of page.lines page.parts) k t (jump_label (form_at page k r c)) (sym (target_is (labels_of page.lines page.parts) k (form_at page k r c)) ∙ known) in
            (g.0, w.0, omega (arith, w.1, read.rungs, length-map page.parts (label_of page.lines)))
      ])
      (stands (goes_to d.rungs) refl i t h)

  jumps_down : (rung i target : ℕ) → i < PLACES → goes_to d.rungs (cell_in d (PLACES * rung + i)) ≡ Some target → (rung < target) × (target ≤ d.rungs)
  jumps_down rung i target within h =
      let s = jump_place (PLACES * rung + i) target h in
      let here : s.rung ≡ rung = omega (arith, s.at, s.in_rung, s.in_row, within) in
      (omega (arith, here, s.holds.1), s.holds.2)

  one_jump : (rung i j s t : ℕ) → i < PLACES → j < PLACES → goes_to d.rungs (cell_in d (PLACES * rung + i)) ≡ Some s
      → goes_to d.rungs (cell_in d (PLACES * rung + j)) ≡ Some t → i ≡ j
  one_jump rung i j s t i_within j_within h k =
      let a = jump_place (PLACES * rung + i) s h in
      let b = jump_place (PLACES * rung + j) t k in
      let a_here : a.rung ≡ rung = omega (arith, a.at, a.in_rung, a.in_row, i_within) in
      let b_here : b.rung ≡ rung = omega (arith, b.at, b.in_rung, b.in_row, j_within) in
      let together : a.rung ≡ b.rung = a_here ∙ sym b_here in
      elim (cases_lt (COLUMNS * a.row + a.column) (COLUMNS * b.row + b.column)) [
        | inl first ↦ absurd (never_two b.rung b.row b.column a.row a.column b.below b.in_rung b.in_row a.in_rung a.in_row b.holds.0
            (subst (λ x. leaps (form_at page x a.row a.column) ≡ true) together a.holds.0) first)
        | inr more ↦ elim (cases_lt (COLUMNS * b.row + b.column) (COLUMNS * a.row + a.column)) [
          | inl second ↦ absurd (never_two a.rung a.row a.column b.row b.column a.below a.in_rung a.in_row b.in_rung b.in_row a.holds.0
              (subst (λ x. leaps (form_at page x b.row b.column) ≡ true) (sym together) b.holds.0) second)
          | inr less ↦
              let row : a.row ≡ b.row = omega (arith, more, less, a.in_row, b.in_row) in
              let column : a.column ≡ b.column = omega (arith, more, less, row) in
              omega (arith, a.at, b.at, together, row, column)
        ]
      ]

  lower_place : (i inst : ℕ) → lower_in (cell_in d i) ≡ Some inst → Stands i (λ k r c. instance_above page k r c ≡ Some inst)
  lower_place i inst h =
      restated i (λ k r c _ is. (says k r c).lower inst is) (stands lower_in refl i inst h)

  above_is : (k r c inst : ℕ) → instance_above page k r c ≡ Some inst → (1 ≤ r) × (instance_at page k (r - 1) c ≡ Some inst)
  above_is k r c inst h =
      elim (r == 0) as (λ b. (r == 0) ≡ b → cond b None (instance_at page k (r - 1) c) ≡ Some inst → (1 ≤ r) × (instance_at page k (r - 1) c ≡ Some inst)) [
        | true ↦ λ test same. absurd (none-some _ same)
        | false ↦ λ test same.
            let some : 1 ≤ r = elim (cases_lt 0 r) [
              | inl more ↦ omega (arith, more)
              | inr none ↦ absurd (eqb-false r 0 test (omega (arith, none)))
            ] in
            (some, same)
      ] refl h

  block_cell : (k r c inst : ℕ) → k < d.rungs → r < ROWS → c < COLUMNS → instance_at page k r c ≡ Some inst → cell_in d (place k r c) ≡ cell.Block inst
  unfolding instance_at
  block_cell k r c inst below rows columns h =
      cell_there k r c below rows columns
      ∙ is_block (drawn page k r c) inst ((says k r c).block ∙ h)

  under_block : (i inst : ℕ) (linked : Bool) → cell_in d i ≡ cell.Lower inst linked
      → (1 ≤ i % ROWS) × (cell_in d (i - 1) ≡ cell.Block inst)
  under_block i inst linked h =
      let s = lower_place i inst (ap lower_in h) in
      let up = above_is s.rung s.row s.column inst s.holds in
      let row : s.row - 1 < ROWS = omega (arith, s.in_rung) in
      let before : i - 1 ≡ place s.rung (s.row - 1) s.column = omega (arith, s.at, up.0) in
      (omega (arith, s.at, up.0, s.in_rung), ap (cell_in d) before ∙ block_cell s.rung (s.row - 1) s.column inst s.below row s.in_row up.1)

  name_fits : (k r c : ℕ) (x : Reference) → name_over page k r c ≡ Some x → SymbolFits page.decls x.symbol
  name_fits k r c x h = refer_fits page.decls _ x h

  over_fits : (k r c n : ℕ) → instance_above page k r c ≡ Some n → n < length page.decls.instances
  unfolding instance_at
  over_fits k r c n h =
      let up = above_is k r c n h in
      instance_fits page.decls (form_at page k (r - 1) c) (name_over page k (r - 1) c) n (name_fits k (r - 1) c) up.1

  fits : (i : ℕ) → Fits page.decls (cell_in d i)
  fits i =
      elim (cases_lt i (PLACES * d.rungs)) [
        | inl below ↦
            let s = cell_is i below in
            subst (Fits page.decls) (sym s.holds)
            (cell_fits (number_at page s.rung s.row s.column) page.decls _ _ _ _ (name_fits s.rung s.row s.column) (over_fits s.rung s.row s.column)
            (never_odd s.rung s.row s.column s.below s.in_rung s.in_row))
        | inr past ↦ subst (Fits page.decls) (sym (past_end i past)) tt
      ]

  -- G11: a block has its lower cell
  never_torn : (k r c : ℕ) → k < d.rungs → r < ROWS → c < COLUMNS → IsTorn page k r c → ⊥
  never_torn k r c below rows columns torn =
      sound_at k below (Grid rule.BlockShape) (2 * r + 1) (r, half.Wire, rows, refl, (c, omega (arith, columns), (columns, torn)))

  lower_cell : (k r c inst : ℕ) (q : Pin) (linked : Bool) → k < d.rungs → r + 1 < ROWS → c < COLUMNS → instance_at page k r c ≡ Some inst
      → form_at page k (r + 1) c ≡ Some (Lower q linked) → cell_in d (place k (r + 1) c) ≡ cell.Lower inst linked
  lower_cell k r c inst q linked below rows columns here form =
      let test : (r + 1 == 0) ≡ false = ne_eqb (r + 1) 0 (λ e. absurd (omega (arith, e))) in
      let up : r + 1 - 1 ≡ r = omega arith in
      let above : instance_above page k (r + 1) c ≡ Some inst = rw (test, up) here in
      let name = option_map (λ (x : Reference). x.symbol) (name_over page k (r + 1) c) in
      let target = target_of (labels_of page.lines page.parts) k (form_at page k (r + 1) c) in
      let is : drawn page k (r + 1) c ≡ cell.Lower inst linked
      = ap₂ (λ f o. cell_with (number_at page k (r + 1) c) f name o target) form above in
      cell_there k (r + 1) c below rows columns ∙ is

  has_lower : (i inst : ℕ) → cell_in d i ≡ cell.Block inst → has_second (slice_get page.decls.instances inst) ≡ true
      → (linked : Bool) × (i % ROWS + 1 < ROWS) × (cell_in d (i + 1) ≡ cell.Lower inst linked)
  unfolding instance_at
  has_lower i inst h second =
      let s = block_place i inst (ap block_in h) in
      let b = block_of page.decls (form_at page s.rung s.row s.column) (name_over page s.rung s.row s.column) inst
      (drawn_back page.decls _ _ inst (drawn_at s.rung s.row s.column inst s.below s.in_rung s.in_row s.holds)) in
      let p = second_input b.0 (slice_get page.decls.instances inst) b.2 second in
      let low = lower_found page s.rung s.row s.column p.0 (b.0, b.1, p.1) (never_torn s.rung s.row s.column s.below s.in_rung s.in_row) in
      let next : i + 1 ≡ place s.rung (s.row + 1) s.column = omega (arith, s.at) in (
        low.1,
        omega (arith, s.at, low.2),
        ap (cell_in d) next
            ∙ lower_cell s.rung s.row s.column inst low.0 low.1 s.below low.2 s.in_row s.holds low.3,
      )

  pub read_well_formed : IsWellFormed d
  read_well_formed = record {
    one_memory = one_memory;
    memories_below = memories_below;
    one_block = one_block;
    one_jump = one_jump;
    jumps_down = jumps_down;
    under_block = under_block;
    fits = λ i. subst (λ x. Fits x (cell_in d i)) (sym read.declared) (fits i);
    has_lower = λ i inst block second. has_lower i inst block (ap (λ x. has_second (slice_get x.instances inst)) (sym read.declared) ∙ second);
  }
