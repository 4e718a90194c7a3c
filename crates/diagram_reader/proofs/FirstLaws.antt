-- The table of where each instance is drawn first has that place, and an instance was drawn before a place where it has an earlier one.
use Rattle.std.proofs.Common.{◌≡◌, ◌↔◌, inl, inr, ℕ, suc, ◌+◌, ◌*◌, ◌/◌, ◌%◌, ◌<◌, ◌≤◌, min, Bool, false, IsTrue, List, length, set, replicate, get_or, slice_index_or, Option, Some, None, add-one, arith, refl, sym, ap, subst, ◌∙◌}
use Rattle.std.proofs.lemmas.Bool.{cases_lt}
use Rattle.std.proofs.Math.ListN.{get_or-eq_default}
use Rattle.std.proofs.lemmas.List.{get_or-replicate, get_or_default, get_or-set_same, get_or-set_other, length-set, length-replicate}
use Rattle.std.proofs.lemmas.Option.{none-some, same_Some}
use Rattle.diagram_program.specs.declared.geometry.TheConstants.{RUNGS, ROWS, COLUMNS, PLACES}
use Rattle.diagram_declarations.specs.Decls.{Declared}
use Rattle.diagram_page.specs.declared.form.Form.{Form}
use Rattle.diagram_page.specs.declared.lines.Part.{Part}
use Rattle.diagram_page.specs.declared.operand.NameOver.{NameOver}
use Rattle.diagram_program.specs.Geometry.{place}
use Rattle.diagram_program.specs.AllPlaces.{reading_place}
use Rattle.diagram_page.specs.Suiting.{DrawsBlock}
use Rattle.diagram_reader.specs.Rules.{IsDrawnAt}
use Rattle.diagram_page.specs.Page.{Page, form_at, name_over, instance_at}
use Rattle.diagram_page.specs.Picture.{Lines}
use Rattle.diagram_page.specs.ReadLines.{page}
use Rattle.diagram_reader.specs.Checks.{IsDrawnBefore}
use Rattle.diagram_page.specs.Tables.{AreFirsts, FirstIn, HasBlock, IsBefore, noted, noted_at, overs_of, place_read}
use Rattle.diagram_reader.proofs.BlockLaws.{drawn_is}
use Rattle.diagram_page.proofs.FitLaws.{refer_fits, instance_fits}
use Rattle.diagram_page.proofs.OverLaws.{over_at}
use Rattle.diagram_page.proofs.ReadingOrder.{rung_of_place, row_of_place, column_of_place, earlier, less_place}

-- ---- the table

entry_length : (n j : ℕ) (o : Option ℕ) (xs : List (Option ℕ)) → length (noted_at n j o xs) ≡ length xs
entry_length n j (Some first) xs = refl
entry_length n j None xs = length-set xs j (Some n)

noted_length : (n : ℕ) (block : Option ℕ) (xs : List (Option ℕ)) → length (noted n block xs) ≡ length xs
noted_length n None xs = refl
noted_length n (Some j) xs = entry_length n j (slice_index_or xs j (Some n)) xs

-- one place more, where it isn't drawn first
stays : (Has : ℕ → ℕ → Type 0) (n inst : ℕ) (o : Option ℕ) → (Has n inst → o ≡ None → ⊥) → FirstIn Has n inst o → FirstIn Has (suc n) inst o
stays Has n inst o other h = record {
  none = λ e m below has. elim (cases_lt m n) [
    | inl less ↦ h.none e m less has
    | inr more ↦ let here : m ≡ n = omega (arith, below, more) in other (subst (λ k. Has k inst) here has) e
  ];
  some = λ at e. let says = h.some at e in (omega (arith, says.0), says.1, says.2);
}

-- one place more, where it is
begins : (Has : ℕ → ℕ → Type 0) (n inst : ℕ) (o : Option ℕ) → Has n inst → o ≡ None → FirstIn Has n inst o → FirstIn Has (suc n) inst (Some n)
begins Has n inst o has none h = record {
  none = λ e m below drawn. none-some _ (sym e);
  some = λ at e.
      let here : n ≡ at = same_Some n at e in
      (omega (arith, here), subst (λ k. Has k inst) here has, λ m less drawn. h.none none m (omega (arith, here, less)) drawn);
}

-- one place more, where another one is
apart : (Has : ℕ → ℕ → Type 0) (n inst j : ℕ) (xs : List (Option ℕ)) → (Has n inst → ⊥) → (inst ≡ j → ⊥) → FirstIn Has n inst (get_or xs inst None)
    → FirstIn Has (suc n) inst (get_or (set xs j (Some n)) inst None)
apart Has n inst j xs not_here other h =
    subst (FirstIn Has (suc n) inst) (sym (get_or-set_other xs j inst (Some n) None other)) (stays Has n inst (get_or xs inst None) (λ drawn none. not_here drawn) h)

step : (Has : ℕ → ℕ → Type 0) (n inst : ℕ) (xs : List (Option ℕ)) (block : Option ℕ) → ((i : ℕ) → (block ≡ Some i) ↔ Has n i) → inst < length xs
    → FirstIn Has n inst (get_or xs inst None) → FirstIn Has (suc n) inst (get_or (noted n block xs) inst None)
step Has n inst xs None is below h = stays Has n inst (get_or xs inst None) (λ drawn none. none-some _ ((is inst).1 drawn)) h
step Has n inst xs (Some j) is below h =
    let entry : (d e : Option ℕ) → get_or xs inst d ≡ get_or xs inst e = λ d e. get_or_default xs inst d e below in
    let drawn_is : Has n inst → j ≡ inst = λ drawn. same_Some j inst ((is inst).1 drawn) in
    elim (slice_index_or xs j (Some n)) as (λ o. slice_index_or xs j (Some n) ≡ o → FirstIn Has (suc n) inst (get_or (noted_at n j o xs) inst None)) [
      | Some first ↦ λ e.
          stays Has n inst (get_or xs inst None) (λ drawn none.
          none-some _ (sym none ∙ entry None (Some n) ∙ ap (λ i. get_or xs i (Some n)) (sym (drawn_is drawn)) ∙ e)) h
      | None ↦ λ e. elim (cases_lt j inst) [
        | inl less ↦ apart Has n inst j xs (λ drawn. omega (arith, drawn_is drawn, less)) (λ same. absurd (omega (arith, same, less))) h
        | inr more ↦ elim (cases_lt inst j) [
          | inl less ↦ apart Has n inst j xs (λ drawn. omega (arith, drawn_is drawn, less)) (λ same. absurd (omega (arith, same, less))) h
          | inr least ↦
              let same : inst ≡ j = omega (arith, more, least) in
              let none : get_or xs inst None ≡ None = entry None (Some n) ∙ ap (λ i. get_or xs i (Some n)) same ∙ e in
              let at : j < length xs = omega (arith, same, below) in
              let here : get_or (set xs j (Some n)) inst None ≡ Some n = ap (λ i. get_or (set xs j (Some n)) i None) same ∙ get_or-set_same xs j (Some n) None at in
              let has : Has n inst = (is inst).0 (ap Some (sym same)) in
              subst (FirstIn Has (suc n) inst) (sym here) (begins Has n inst (get_or xs inst None) has none h)
        ]
      ]
    ] refl

pub none_noted : (Has : ℕ → ℕ → Type 0) (instances : ℕ) (xs : List (Option ℕ)) → xs ≡ replicate instances None → AreFirsts Has instances 0 xs
none_noted Has instances xs h = record {
  size = ap length h ∙ length-replicate instances None;
  each = λ inst below.
      let is : slice_index_or xs inst None ≡ None = ap (λ z. slice_index_or z inst None) h ∙ get_or-replicate instances inst None None below in
      record {
        none = λ e m less has. absurd (omega (arith, less));
        some = λ at e. absurd (none-some _ (sym is ∙ e));
      };
}

pub one_noted : (Has : ℕ → ℕ → Type 0) (instances n : ℕ) (xs ys : List (Option ℕ)) (block : Option ℕ) → AreFirsts Has instances n xs
    → ((i : ℕ) → (block ≡ Some i) ↔ Has n i) → ys ≡ noted n block xs → AreFirsts Has instances (n + 1) ys
one_noted Has instances n xs ys block before is more = record {
  size = ap length more ∙ noted_length n block xs ∙ before.size;
  each = λ inst below.
      rw (add-one, more) (step Has n inst xs block is (omega (arith, before.size, below)) (before.each inst below));
}

-- ---- what is drawn before

module _ (decls : Declared) (lines : Lines) (unclosed : Option ℕ) (parts : List Part) (forms : List (Option Form)) (overs : List NameOver)
    (told : overs ≡ overs_of decls lines parts) where
  abbrev drawn_on : Page
  drawn_on = page decls lines unclosed parts forms

  abbrev has : ℕ → ℕ → Type 0
  has = HasBlock decls forms overs

  abbrev count : ℕ
  count = PLACES * min (length parts) RUNGS

  -- the tables have a block of the instance exactly where it is drawn
  block_is : (k r c inst : ℕ) → k < length parts → k < RUNGS → r < ROWS → c < COLUMNS
      → has (reading_place k r c) inst ↔ IsDrawnAt drawn_on inst k r c
  unfolding instance_at
  block_is k r c inst below few rows columns =
      let here : place_read (reading_place k r c) ≡ place k r c
      = rw (rung_of_place k r c rows columns, row_of_place k r c rows columns, column_of_place k r c rows columns) refl in
      let over : (slice_index_or overs (place k r c) (record { written = false; name = None })).name ≡ name_over drawn_on k r c
      = ap (λ o. o.name) (over_at decls lines parts overs (place k r c) (record { written = false; name = None }) k r c told refl below few rows columns) in
      let law = drawn_is decls (form_at drawn_on k r c) (name_over drawn_on k r c) inst in
      let same : has (reading_place k r c) inst ↔ DrawsBlock decls (form_at drawn_on k r c) (name_over drawn_on k r c) inst = rw (here, over) (λ h. h, λ h. h) in
      (λ h. law.0 (same.0 h), λ d. same.1 (law.1 d))

  declared_only : (k r c inst : ℕ) → instance_at drawn_on k r c ≡ Some inst → inst < length decls.instances
  unfolding instance_at
  declared_only k r c inst is = instance_fits decls (form_at drawn_on k r c) (name_over drawn_on k r c) inst (λ x e. refer_fits decls _ x e) is

  drawn_there : (k r c inst first : ℕ) → r < ROWS → c < COLUMNS → first < count → first < reading_place k r c → has first inst → IsDrawnBefore drawn_on inst k r c
  drawn_there k r c inst first rows columns below before is =
      let rung : first / PLACES < length parts = omega (arith, below) in
      let few : first / PLACES < RUNGS = omega (arith, below) in
      let row : first % PLACES / COLUMNS < ROWS = omega arith in
      let column : first % PLACES % COLUMNS < COLUMNS = omega arith in
      let here : reading_place (first / PLACES) (first % PLACES / COLUMNS) (first % PLACES % COLUMNS) ≡ first = omega arith in
      let less : reading_place (first / PLACES) (first % PLACES / COLUMNS) (first % PLACES % COLUMNS) < reading_place k r c = omega (arith, here, before) in (
        first / PLACES,
        first % PLACES / COLUMNS,
        first % PLACES % COLUMNS,
        row,
        column,
        earlier (first / PLACES) (first % PLACES / COLUMNS) (first % PLACES % COLUMNS) k r c column columns row rows less,
        (block_is (first / PLACES) (first % PLACES / COLUMNS) (first % PLACES % COLUMNS) inst rung few row column).0 (subst (λ n. has n inst) (sym here) is),
      )

  before_here : (k r c inst : ℕ) (o : Option ℕ) → r < ROWS → c < COLUMNS → FirstIn has count inst o → IsBefore o (reading_place k r c) → IsDrawnBefore drawn_on inst k r c
  before_here k r c inst None rows columns says before = absurd before
  before_here k r c inst (Some first) rows columns says before =
      let at = says.some first refl in drawn_there k r c inst first rows columns at.0 before at.1

  found_before : (inst n here : ℕ) (o : Option ℕ) → FirstIn has count inst o → n < count → n < here → has n inst → IsBefore o here
  found_before inst n here None says within before is = absurd (says.none refl n within is)
  found_before inst n here (Some first) says within before is = elim (cases_lt first here) [
    | inl less ↦ less
    | inr more ↦ absurd ((says.some first refl).2 n (omega (arith, before, more)) is)
  ]

  -- an instance that isn't declared has no entry
  no_entry : (firsts : List (Option ℕ)) → length firsts ≡ length decls.instances → (inst here : ℕ) → length decls.instances ≤ inst
      → IsBefore (slice_index_or firsts inst None) here → ⊥
  no_entry firsts size inst here past before =
      subst (λ o. IsBefore o here) (get_or-eq_default firsts None (omega (arith, past, size))) before

  drawn_before : (firsts : List (Option ℕ)) → AreFirsts has (length decls.instances) count firsts
      → (inst k r c : ℕ) → k < length parts → k < RUNGS → r < ROWS → c < COLUMNS
      → IsBefore (slice_index_or firsts inst None) (reading_place k r c) ↔ IsDrawnBefore drawn_on inst k r c
  drawn_before firsts table inst k r c below few rows columns = (
    λ before. elim (cases_lt inst (length decls.instances)) [
      | inl declared ↦ before_here k r c inst _ rows columns (table.each inst declared) before
      | inr past ↦ absurd (no_entry firsts table.size inst _ past before)
    ],
    λ d.
        let declared : inst < length decls.instances = declared_only d.0 d.1 d.2 inst d.6.0 in
        let less : reading_place d.0 d.1 d.2 < reading_place k r c = less_place d.0 d.1 d.2 k r c d.4 d.3 d.5 in
        let rung : d.0 ≤ k = omega (arith, less, d.3, d.4, rows, columns) in
        let in_parts : d.0 < length parts = omega (arith, rung, below) in
        let in_limit : d.0 < RUNGS = omega (arith, rung, few) in
        let within : reading_place d.0 d.1 d.2 < count = omega (arith, in_parts, in_limit, d.3, d.4) in
        let is : has (reading_place d.0 d.1 d.2) inst = (block_is d.0 d.1 d.2 inst in_parts in_limit d.3 d.4).1 d.6 in
        found_before inst (reading_place d.0 d.1 d.2) (reading_place k r c) _ (table.each inst declared) within less is,
  )

  pub drawn_by : (firsts : List (Option ℕ)) → AreFirsts has (length decls.instances) count firsts
      → (inst k r c : ℕ) → k < length parts → k < RUNGS → r < ROWS → c < COLUMNS
      → (first : Option ℕ) (here : ℕ) → first ≡ slice_index_or firsts inst None → here ≡ reading_place k r c
      → (b : Bool) → IsTrue b ↔ IsBefore first here → IsTrue b ↔ IsDrawnBefore drawn_on inst k r c
  drawn_by firsts table inst k r c below few rows columns first here entry place b test =
      let law : IsBefore first here ↔ IsDrawnBefore drawn_on inst k r c = rw (entry, place) (drawn_before firsts table inst k r c below few rows columns) in
      (λ h. law.0 (test.0 h), λ d. test.1 (law.1 d))
