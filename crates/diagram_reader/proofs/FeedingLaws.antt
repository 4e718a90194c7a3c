-- Power flow in a picture and in its program, and G6.
use Rattle.std.proofs.Common.{◌≡◌, ℕ, zero, suc, ◌+◌, ◌-◌, ◌*◌, ◌<◌, ◌≤◌, ◌⊎◌, inl, inr, min, max, Bool, true, false, cond, ◌&&◌, ◌||◌, ◌==◌, not, nat_le, List, [], ◌∷◌, ◌++◌, length, replicate, Option, Some, refl, sym, ap, subst, ◌∙◌, arith}
use Rattle.std.specs.List.{list_all}
use Rattle.std.proofs.lemmas.Bool.{cases_lt, ne_eqb, and_parts, or_cases, leb-true, le-leb, eqb-true, true≢false}
use Rattle.diagram_declarations.specs.Text.{begins_with}
use Rattle.diagram_program.specs.declared.geometry.TheConstants.{RUNGS, ROWS, COLUMNS, PITCH}
use Rattle.diagram_program.specs.Bytes.{space, dash, plus, bar}
use Rattle.diagram_page.specs.declared.form.Form.{Form}
use Rattle.diagram_page.specs.declared.form.Form.TheVariants.{Empty, Wire, Contact, Coil, Block, Lower, Jump, Return}
use Rattle.diagram_reader.specs.declared.grid_rule.Rule.TheVariants.{Grid}
use Rattle.diagram_reader.specs.declared.grid_rule.GridRule.TheVariants as rule
use Rattle.diagram_page.specs.declared.picture.Half.TheVariants as half
use Rattle.diagram_declarations.specs.declared.decls.Symbol.{Symbol}
use Rattle.diagram_reader.proofs.DrawingLaws.{few_rungs}
use Rattle.diagram_page.specs.Form.{whole_cells, HasForm}
use Rattle.diagram_page.specs.ReadForm.{Table, Lists}
use Rattle.diagram_page.proofs.FormLaws.{lists_of}
use Rattle.diagram_page.specs.Picture.{Lines, char_at, joint, vertical, text_at, SameGroup}
use Rattle.diagram_page.specs.Texts.{cell_text}
use Rattle.diagram_page.specs.Page.{Page, rung_at, form_at}
use Rattle.diagram_reader.specs.Feeding.{right_link, enters, IsFed}
use Rattle.diagram_reader.specs.Rules.{is_joint, fits_joint}
use Rattle.diagram_reader.specs.Rung.{IsSoundRung}
use Rattle.diagram_reader.proofs.SoundRungs.{sound_rung}
use Rattle.diagram_program.specs.Program.{Drawing, takes_power, site_at, joined, feeds}
use Rattle.diagram_reader.specs.Reading.{joint_of, cell_with, IsDrawn, IsProgram}
use Rattle.diagram_program.proofs.JoinLaws.{joined_more, joined_none}
use Rattle.diagram_reader.specs.Agreement.{SameGroups, SameFeeding, FeedsDashes, has_left_link, FeedsCells}

off_on : false ≡ true → ⊥
off_on h = true≢false (sym h)

-- ---- joints and links

takes_joint : (b : ℕ) → takes_power (joint_of b) ≡ (b == dash || b == plus)
takes_joint b =
    elim (b == dash) as (λ t. (b == dash) ≡ t → takes_power (joint_of b) ≡ (t || b == plus)) [
      | true ↦ λ e. rw e refl
      | false ↦ λ e. elim (b == plus) as (λ t. (b == plus) ≡ t → takes_power (joint_of b) ≡ t) [
        | true ↦ λ f. rw (e, f) refl
        | false ↦ λ f. elim (b == bar) as (λ t. (b == bar) ≡ t → takes_power (joint_of b) ≡ false) [ true ↦ λ g. rw (e, f, g) refl | false ↦ λ g. rw (e, f, g) refl ] refl
      ] refl
    ] refl

module _ (page : Page) (d : Drawing) (drawn : IsDrawn page d) where
  vertical_is : (k r c : ℕ) → k < d.rungs → r < ROWS → c < COLUMNS → (site_at d k r c).vertical ≡ vertical (rung_at page k) r c
  vertical_is k r c below rows columns = ap (λ s. s.vertical) (drawn.sites k r c below rows columns)

  link_is : (k r c : ℕ) → k < d.rungs → r < ROWS → c < COLUMNS → (site_at d k r c).right_link ≡ right_link page k r c
  link_is k r c below rows columns = ap (λ s. s.right_link) (drawn.sites k r c below rows columns)

  joint_is : (k r c : ℕ) → k < d.rungs → r < ROWS → c < COLUMNS
      → takes_power (site_at d k r c).joint ≡ (joint (rung_at page k) r c == dash || joint (rung_at page k) r c == plus)
  joint_is k r c below rows columns =
      ap (λ s. takes_power s.joint) (drawn.sites k r c below rows columns) ∙ takes_joint (joint (rung_at page k) r c)

  -- ---- groups

  joined_links : (k c row n : ℕ) → k < d.rungs → c < COLUMNS → row + n ≤ ROWS → joined d k row c n ≡ true
      → (m : ℕ) → row ≤ m → m < row + n → vertical (rung_at page k) m c ≡ true
  joined_links k c row zero below columns rows h m from to = absurd (omega (arith, from, to))
  joined_links k c row (suc n) below columns rows h m from to =
      let parts = and_parts (joined d k row c n) (site_at d k (row + n) c).vertical (sym (joined_more d k row c n) ∙ h) in
      elim (cases_lt m (row + n)) [
        | inl before ↦ joined_links k c row n below columns (omega (arith, rows)) parts.0 m from before
        | inr past ↦
            let here : row + n ≡ m = omega (arith, past, to) in
            let inside : row + n < ROWS = omega (arith, rows) in
            subst (λ x. vertical (rung_at page k) x c ≡ true) here (sym (vertical_is k (row + n) c below inside columns) ∙ parts.1)
      ]

  links_joined : (k c row n : ℕ) → k < d.rungs → c < COLUMNS → row + n ≤ ROWS
      → ((m : ℕ) → row ≤ m → m < row + n → vertical (rung_at page k) m c ≡ true) → joined d k row c n ≡ true
  links_joined k c row zero below columns rows h = sym (joined_none d k row c)
  links_joined k c row (suc n) below columns rows h =
      let inside : row + n < ROWS = omega (arith, rows) in
      let before : joined d k row c n ≡ true
      = links_joined k c row n below columns (omega (arith, rows)) (λ m from to. h m from (omega (arith, to))) in
      let last : (site_at d k (row + n) c).vertical ≡ true
      = vertical_is k (row + n) c below inside columns ∙ h (row + n) (omega arith) (omega arith) in
      joined_more d k row c n ∙ rw (before, last) refl

  pub same_groups : SameGroups page d
  same_groups k r q c below rows other_rows columns =
      let size : min r q + (max r q - min r q) ≤ ROWS = omega (arith, rows, other_rows) in (
        λ h m from to. joined_links k c (min r q) (max r q - min r q) below columns size h m from (omega (arith, to)),
        λ h. links_joined k c (min r q) (max r q - min r q) below columns size (λ m from to. h m from (omega (arith, to))),
      )

  -- ---- feeding

  pub same_feeding : SameFeeding page d
  same_feeding k r c q below rows columns other_rows =
      let before : c - 1 < COLUMNS = omega (arith, columns) in
      let link = link_is k q (c - 1) below other_rows before in
      let takes = joint_is k q c below other_rows columns in
      let groups = same_groups k r q c below rows other_rows columns in (
        λ h.
            let a = and_parts (nat_le 1 c) _ h in
            let b = and_parts (site_at d k q (c - 1)).right_link _ a.1 in
            let e = and_parts (takes_power (site_at d k q c).joint) _ b.1 in
            let right : right_link page k q (c - 1) ≡ true = sym link ∙ b.0 in
            let meets : (joint (rung_at page k) q c == dash || joint (rung_at page k) q c == plus) ≡ true = sym takes ∙ e.0 in
            (leb-true 1 c a.0, groups.0 e.1, rw (right, meets) refl),
        λ h.
            let e = and_parts (right_link page k q (c - 1)) _ h.2 in
            let some : nat_le 1 c ≡ true = le-leb 1 c h.0 in
            let right : (site_at d k q (c - 1)).right_link ≡ true = link ∙ e.0 in
            let meets : takes_power (site_at d k q c).joint ≡ true = takes ∙ e.1 in
            let group : joined d k (min r q) c (max r q - min r q) ≡ true = groups.1 h.1 in
            rw (some, right, meets, group) refl,
      )

  -- ---- G6

  find_below : (p : ℕ → Bool) (n : ℕ) → ((q : ℕ) × (q < n) × (p q ≡ true)) ⊎ ((q : ℕ) → q < n → p q ≡ true → ⊥)
  find_below p zero = inr (λ q below h. absurd (omega (arith, below)))
  find_below p (suc n) =
      elim (find_below p n) [
        | inl (q, below, h) ↦ let more : q < suc n = omega (arith, below) in inl (q, more, h)
        | inr none ↦ elim (p n) as (λ t. p n ≡ t → ((q : ℕ) × (q < suc n) × (p q ≡ true)) ⊎ ((q : ℕ) → q < suc n → p q ≡ true → ⊥)) [
          | true ↦ λ e. let last : n < suc n = omega arith in inl (n, last, e)
          | false ↦ λ e. inr (λ q below h. elim (cases_lt q n) [
            | inl before ↦ none q before h
            | inr past ↦ let here : q ≡ n = omega (arith, past, below) in off_on (sym e ∙ ap p (sym here) ∙ h)
          ])
        ] refl
      ]

  -- a joint on the left of a dash that G4 allows
  wire_joint : (b : ℕ) (linked : Bool) → (b == space || is_joint half.Wire linked b dash) ≡ true → (b ≡ space) ⊎ (((b ≡ dash) × (linked ≡ true)) ⊎ (b ≡ plus))
  wire_joint b linked h = elim (or_cases (b == space) _ h) [
    | inl e ↦ inl (eqb-true b space e)
    | inr other ↦ elim (or_cases (b == plus) _ other) [
      | inl e ↦ inr (inr (eqb-true b plus e))
      | inr rest ↦ elim linked as (λ l. linked ≡ l → cond l (b == dash) (b == bar && false) ≡ true → (b ≡ space) ⊎ (((b ≡ dash) × (linked ≡ true)) ⊎ (b ≡ plus))) [
        | true ↦ λ l e. inr (inl (eqb-true b dash e, l))
        | false ↦ λ l e. absurd (off_on (and_parts (b == bar) false e).1)
      ] refl rest
    ]
  ]

  sound_at : (k : ℕ) → k < d.rungs → IsSoundRung page k
  sound_at k below = sound_rung page drawn.sound k (omega (arith, below, drawn.rungs))

  -- G4 holds at a joint
  never_odd_joint : (k r c : ℕ) → k < d.rungs → r < ROWS → 1 ≤ c → c < COLUMNS → fits_joint page k r half.Wire c (joint (rung_at page k) r c) ≡ true
  never_odd_joint k r c below rows some columns =
      elim (fits_joint page k r half.Wire c (joint (rung_at page k) r c)) as
      (λ t. fits_joint page k r half.Wire c (joint (rung_at page k) r c) ≡ t → t ≡ true) [
        | true ↦ λ e. refl
        | false ↦ λ e.
            absurd (sound_at k below (Grid rule.BadJoint) (2 * r + 1) (r, half.Wire, rows, refl, (c, omega (arith, columns), (some, e))))
      ] refl

  -- G6 holds at a cell that begins with a dash
  never_unfed : (k r c : ℕ) → k < d.rungs → r < ROWS → 1 ≤ c → c < COLUMNS → char_at (rung_at page k) (2 * r + 1) (PITCH * c + 1) ≡ dash
      → (joint (rung_at page k) r c ≡ space) ⊎ ((joint (rung_at page k) r c ≡ plus) × ¬ (IsFed page k r c)) → ⊥
  never_unfed k r c below rows some columns dashed unfed =
      sound_at k below (Grid rule.Unfed) (2 * r + 1) (r, half.Wire, rows, refl, (c, omega (arith, columns), (columns, (some, dashed, unfed))))

  pub feeds_dashes : FeedsDashes page d
  feeds_dashes k r c below rows some columns dashed =
      elim (find_below (feeds d k r c) ROWS) [
        | inl found ↦ found
        | inr none ↦
            let no_feed : IsFed page k r c → ⊥ = λ (f : IsFed page k r c).
            none f.0 f.1 ((same_feeding k r c f.0 below rows columns f.1).1 (some, f.2, f.3)) in
            let linked : Bool = right_link page k r (c - 1) in
            let inner : (c == COLUMNS) ≡ false = ne_eqb c COLUMNS (λ is. absurd (omega (arith, is, columns))) in
            let fits : (joint (rung_at page k) r c == space || is_joint half.Wire linked (joint (rung_at page k) r c) (char_at (rung_at page k) (2 * r + 1) (PITCH * c + 1))) ≡ true
            = rw inner at (never_odd_joint k r c below rows some columns) in
            let dashes : (joint (rung_at page k) r c == space || is_joint half.Wire linked (joint (rung_at page k) r c) dash) ≡ true
            = ap (λ x. joint (rung_at page k) r c == space || is_joint half.Wire linked (joint (rung_at page k) r c) x) (sym dashed) ∙ fits in
            elim (wire_joint (joint (rung_at page k) r c) (right_link page k r (c - 1)) dashes) [
              | inl blank ↦ absurd (never_unfed k r c below rows some columns dashed (inl blank))
              | inr (inr branch) ↦ absurd (never_unfed k r c below rows some columns dashed (inr (branch, no_feed)))
              | inr (inl (straight, linked)) ↦
                  let alone : SameGroup (rung_at page k) c r r = λ m from to. absurd (omega (arith, from, to)) in
                  let meets : (joint (rung_at page k) r c == dash) ≡ true = rw straight refl in
                  let entered : enters page k r c ≡ true = rw (linked, meets) refl in
                  absurd (no_feed (r, rows, alone, entered))
            ]
      ]

-- ---- cells

wants_left : Form → Bool
wants_left Empty = false
wants_left (Lower pin linked) = linked
wants_left _ = true

dashed_table : Table → Bool
dashed_table table = list_all (λ e. not (wants_left e.1) || begins_with dash e.0) table

implied : (a b : Bool) → (not a || b) ≡ true → a ≡ true → b ≡ true
implied true b h e = h
implied false b h e = absurd (off_on e)

listed_dash : (table : Table) (chars : List ℕ) (form : Form) → dashed_table table ≡ true → Lists table chars form → wants_left form ≡ true
    → begins_with dash chars ≡ true
unfolding dashed_table
listed_dash [] chars form all listed wants = absurd listed
listed_dash (e ∷ es) chars form all (inl (same, is)) wants =
    let here = and_parts (not (wants_left e.1) || begins_with dash e.0) _ all in
    ap (begins_with dash) same ∙ implied (wants_left e.1) (begins_with dash e.0) here.0 (ap wants_left (sym is) ∙ wants)
listed_dash (e ∷ es) chars form all (inr later) wants =
    listed_dash es chars form (and_parts (not (wants_left e.1) || begins_with dash e.0) _ all).1 later wants

dashes_first : (n : ℕ) (chars tail : List ℕ) → 1 ≤ n → chars ≡ replicate n dash ++ tail → begins_with dash chars ≡ true
dashes_first zero chars tail some spelled = absurd (omega (arith, some))
dashes_first (suc n) chars tail some spelled = rw spelled refl

-- a form with a left link begins with a dash
form_dash : (chars : List ℕ) (form : Form) → HasForm chars form → wants_left form ≡ true → begins_with dash chars ≡ true
unfolding dashed_table wants_left
form_dash chars form (inl listed) wants = listed_dash whole_cells chars form refl (lists_of whole_cells chars form listed) wants
form_dash chars form (inr h) wants = dashes_first h.0 chars _ h.4 h.5

-- a cell with a left link has such a form
form_wants : (n : ℕ) (form : Option Form) (name : Option Symbol) (above target : Option ℕ)
    → has_left_link (cell_with n form name above target) ≡ true → (f : Form) × (form ≡ Some f) × (wants_left f ≡ true)
unfolding wants_left
form_wants n (Some Wire) name above target h = (Wire, refl, refl)
form_wants n (Some (Contact mode)) name above target h = (Contact mode, refl, refl)
form_wants n (Some (Coil mode)) name above target h = (Coil mode, refl, refl)
form_wants n (Some (Block kind)) name above target h = (Block kind, refl, refl)
form_wants n (Some (Lower pin linked)) name (Some inst) target h = (Lower pin linked, refl, h)
form_wants n (Some (Jump label)) name above target h = (Jump label, refl, refl)
form_wants n (Some Return) name above target h = (Return, refl, refl)
form_wants n _ name _ target h = absurd (off_on h)

first_dash : (rung : Lines) (r c : ℕ) → begins_with dash (cell_text rung r c) ≡ true → char_at rung (2 * r + 1) (PITCH * c + 1) ≡ dash
unfolding text_at
first_dash rung r c h = eqb-true (char_at rung (2 * r + 1) (PITCH * c + 1)) dash h

pub feeds_cells : (text : List ℕ) (d : Drawing) → IsProgram text d → FeedsCells d
feeds_cells text d p k r c below rows some columns linked =
    let page : Page = p.page in
    let inside : k < min (length page.parts) RUNGS = omega (arith, below, p.drawn.rungs, few_rungs page p.drawn.sound) in
    let f = form_wants _ (form_at page k r c) _ _ _ (ap (λ s. has_left_link s.cell) (sym (p.drawn.sites k r c below rows columns)) ∙ linked) in
    let has : HasForm (cell_text (rung_at page k) r c) f.0
    = (p.reads.forms k r c inside rows columns f.0).0 f.1 in
    feeds_dashes page d p.drawn k r c below rows some columns (first_dash (rung_at page k) r c (form_dash _ f.0 has f.2))
