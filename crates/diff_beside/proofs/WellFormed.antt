-- Two programs that stand side by side are well formed.
use Rattle.std.proofs.Common.{◌≡◌, ◌∙◌, ◌⊎◌, ◌+◌, ◌-◌, ◌*◌, ◌%◌, ◌<◌, ◌≤◌, ◌==◌, if◌then◌else◌, ℕ, Bool, true, false, List, Option, Some, None, ap, arith, length, map, ◌++◌, refl, sym, subst, slice_get, inl, inr}
use Rattle.std.specs.Prelude.{option_map}
use Rattle.std.proofs.lemmas.Bool.{cases_lt, eqb-true}
use Rattle.diagram_declarations.specs.Decls.{Declared}
use Rattle.diagram_program.specs.declared.cell.Cell.{Cell}
use Rattle.diagram_program.specs.declared.cell.Cell.TheVariants as cell
use Rattle.diagram_program.specs.declared.geometry.TheConstants.{PLACES, ROWS}
use Rattle.diagram_program.specs.Program.{Drawing, Fits, drawing, IsWellFormed, IsWhole, block_in, cell_in, cell_of, goes_to, has_second, memories_of, memory_in}
use Rattle.diagram_program.specs.declared.site.Site.{Site}
use Rattle.diff_beside.specs.Fitting.{FitIn}
use Rattle.diff_beside.specs.Moving.{Shift, cell_of_return, moved, moved_site}
use Rattle.diff_beside.specs.Standing.{after, before}
use Rattle.diff_beside.proofs.Moved.{ReturnsTo, before_block, block_fits, before_lower, before_moved, moved_block, moved_fits, moved_goal, moved_memory}
use Rattle.diff_beside.proofs.Placed.{both, both_memories, in_new, in_old}

-- a number belongs to one cell
abbrev IsOne : (Cell → Option ℕ) → Drawing → Type 0
IsOne f d = (number i j : ℕ) → f (cell_in d i) ≡ Some number → f (cell_in d j) ≡ Some number → i ≡ j

-- A cell of a program tells a number; the cell is at the place i where so many places stand before it.
record Told (f : Cell → Option ℕ) (d : Drawing) (places i : ℕ) (by number : ℕ) : Type 0 where
  at : ℕ
  told : ℕ
  here : i ≡ places + at
  is : f (cell_in d at) ≡ Some told
  sum : number ≡ by + told

module _ (p q : Drawing) (decls : Declared) (olds news : List ℕ) (old_whole : IsWhole p) (new_whole : IsWhole q) (old_formed : IsWellFormed p)
    (new_formed : IsWellFormed q) (old_fits : FitIn (before p q olds) p.decls decls) (new_fits : FitIn (after p news) q.decls decls) where
  abbrev a : Shift
  a = before p q olds

  abbrev b : Shift
  b = after p news

  abbrev d : Drawing
  d = both p q decls a b

  abbrev first : ℕ
  first = PLACES * p.rungs

  old_cell : (i : ℕ) → i < first → cell_in d i ≡ moved a (cell_in p i)
  old_cell i below = in_old p q decls a b old_whole new_whole i below

  new_cell : (i : ℕ) → first ≤ i → cell_in d i ≡ moved b (cell_in q (i - first))
  new_cell i past = in_new p q decls a b old_whole new_whole i past

  -- ---- memories and blocks

  module _ (f : Cell → Option ℕ) (by : Shift → ℕ) (law : (s : Shift) (c : Cell) → f (moved s c) ≡ option_map (λ k. by s + k) (f c)) where
    told : (i number : ℕ) → f (cell_in d i) ≡ Some number → Told f p 0 i (by a) number ⊎ Told f q first i (by b) number
    told i number h =
        elim (cases_lt i first) [
          | inl below ↦
              let m = before_moved (by a) (f (cell_in p i)) number (sym (law a (cell_in p i)) ∙ sym (ap f (old_cell i below)) ∙ h) in
              inl (record { at = i; told = m.0; here = omega arith; is = m.1; sum = m.2 })
          | inr past ↦
              let at = i - first in
              let m = before_moved (by b) (f (cell_in q at)) number (sym (law b (cell_in q at)) ∙ sym (ap f (new_cell i past)) ∙ h) in
              inr (record { at = at; told = m.0; here = omega (arith, past); is = m.1; sum = m.2 })
        ]

    same_told : (x : Drawing) (places i j n number : ℕ) → IsOne f x → Told f x places i n number → Told f x places j n number → i ≡ j
    same_told x places i j n number one s t =
        let e : t.told ≡ s.told = omega (arith, s.sum, t.sum) in
        let at : s.at ≡ t.at = one s.told s.at t.at s.is (t.is ∙ ap Some e) in
        omega (arith, s.here, t.here, at)

    apart : (i j number : ℕ) → ((k n : ℕ) → f (cell_in p k) ≡ Some n → by a + n < by b) → Told f p 0 i (by a) number → Told f q first j (by b) number → ⊥
    apart i j number few s t = absurd (omega (arith, few s.at s.told s.is, s.sum, t.sum))

    one_number : IsOne f p → IsOne f q → ((k n : ℕ) → f (cell_in p k) ≡ Some n → by a + n < by b) → IsOne f d
    one_number in_p in_q few number i j h k =
        elim (told i number h) [
          | inl s ↦ elim (told j number k) [
            | inl t ↦ same_told p 0 i j (by a) number in_p s t
            | inr t ↦ absurd (apart i j number few s t)
          ]
          | inr s ↦ elim (told j number k) [
            | inl t ↦ absurd (apart j i number few t s)
            | inr t ↦ same_told q first i j (by b) number in_q s t
          ]
        ]

  one_memory : IsOne memory_in d
  one_memory =
      one_number memory_in (λ s. s.memories) moved_memory old_formed.one_memory new_formed.one_memory
      (λ k n h. omega (arith, old_formed.memories_below n k h))

  block_below : (k n : ℕ) → block_in (cell_in p k) ≡ Some n → n < length p.decls.instances
  block_below k n h = block_fits p.decls (cell_in p k) n h (old_formed.fits k)

  one_block : IsOne block_in d
  one_block =
      one_number block_in (λ s. s.instances) moved_block old_formed.one_block new_formed.one_block (λ k n h. omega (arith, block_below k n h))

  memories_below : (number i : ℕ) → memory_in (cell_in d i) ≡ Some number → number < memories_of d
  memories_below number i h =
      let all = both_memories p q decls a b in
      elim (told memory_in (λ s. s.memories) moved_memory i number h) [
        | inl s ↦ omega (arith, all, s.sum, old_formed.memories_below s.told s.at s.is)
        | inr s ↦ omega (arith, all, s.sum, new_formed.memories_below s.told s.at s.is)
      ]

  -- ---- jumps

  old_returns : ReturnsTo p.rungs a d.rungs
  old_returns =
      elim (q.rungs == 0) as (λ t. (q.rungs == 0) ≡ t → goes_to d.rungs (cell_of_return (if t then None else Some p.rungs)) ≡ Some (0 + p.rungs)) [
        | true ↦ λ none. let e : q.rungs ≡ 0 = eqb-true q.rungs 0 none in ap Some (omega arith)
        | false ↦ λ some. ap Some (omega arith)
      ] refl

  new_returns : ReturnsTo q.rungs b d.rungs
  new_returns = refl

  -- Where a rung of one of the two leads, and the rung is there after so many others.
  record Leads (x : Drawing) (rungs rung i target : ℕ) : Type 0 where
    own : ℕ
    leads_to : ℕ
    here : rung ≡ rungs + own
    is : goes_to x.rungs (cell_of x own i) ≡ Some leads_to
    sum : target ≡ rungs + leads_to

  leads : (rung i target : ℕ) → i < PLACES → goes_to d.rungs (cell_of d rung i) ≡ Some target → Leads p 0 rung i target ⊎ Leads q p.rungs rung i target
  leads rung i target within h =
      elim (cases_lt rung p.rungs) [
        | inl below ↦
            let place : PLACES * rung + i < first = omega (arith, below, within) in
            let goal = moved_goal a p.rungs d.rungs old_returns (cell_of p rung i) in
            let m = before_moved 0 (goes_to p.rungs (cell_of p rung i)) target (sym goal ∙ sym (ap (goes_to d.rungs) (old_cell (PLACES * rung + i) place)) ∙ h) in
            inl (record { own = rung; leads_to = m.0; here = omega arith; is = m.1; sum = m.2 })
        | inr past ↦
            let place : first ≤ PLACES * rung + i = omega (arith, past) in
            let own = rung - p.rungs in
            let there : PLACES * rung + i - first ≡ PLACES * own + i = omega (arith, past) in
            let goal = moved_goal b q.rungs d.rungs new_returns (cell_of q own i) in
            let same : cell_in d (PLACES * rung + i) ≡ moved b (cell_of q own i) = new_cell (PLACES * rung + i) place ∙ ap (λ n. moved b (cell_in q n)) there in
            let m = before_moved p.rungs (goes_to q.rungs (cell_of q own i)) target (sym goal ∙ sym (ap (goes_to d.rungs) same) ∙ h) in
            inr (record { own = own; leads_to = m.0; here = omega (arith, past); is = m.1; sum = m.2 })
      ]

  jumps_down : (rung i target : ℕ) → i < PLACES → goes_to d.rungs (cell_of d rung i) ≡ Some target → (rung < target) × (target ≤ d.rungs)
  jumps_down rung i target within h =
      elim (leads rung i target within h) [
        | inl s ↦
            let down = old_formed.jumps_down s.own i s.leads_to within s.is in
            (omega (arith, s.here, s.sum, down.0), omega (arith, s.here, s.sum, down.1))
        | inr s ↦
            let down = new_formed.jumps_down s.own i s.leads_to within s.is in
            (omega (arith, s.here, s.sum, down.0), omega (arith, s.here, s.sum, down.1))
      ]

  leads_within : (rung i target : ℕ) → i < PLACES → Leads p 0 rung i target → rung < p.rungs
  leads_within rung i target within s =
      let down = old_formed.jumps_down s.own i s.leads_to within s.is in
      omega (arith, s.here, down.0, down.1)

  one_jump : (rung i j s t : ℕ) → i < PLACES → j < PLACES → goes_to d.rungs (cell_of d rung i) ≡ Some s → goes_to d.rungs (cell_of d rung j) ≡ Some t → i ≡ j
  one_jump rung i j s t i_within j_within h k =
      elim (leads rung i s i_within h) [
        | inl x ↦ elim (leads rung j t j_within k) [
          | inl y ↦
              let e : y.own ≡ x.own = omega (arith, x.here, y.here) in
              old_formed.one_jump x.own i j x.leads_to y.leads_to i_within j_within x.is (ap (λ n. goes_to p.rungs (cell_of p n j)) (sym e) ∙ y.is)
          | inr y ↦ absurd (omega (arith, leads_within rung i s i_within x, y.here))
        ]
        | inr x ↦ elim (leads rung j t j_within k) [
          | inl y ↦ absurd (omega (arith, leads_within rung j t j_within y, x.here))
          | inr y ↦
              let e : y.own ≡ x.own = omega (arith, x.here, y.here) in
              new_formed.one_jump x.own i j x.leads_to y.leads_to i_within j_within x.is (ap (λ n. goes_to q.rungs (cell_of q n j)) (sym e) ∙ y.is)
        ]
      ]

  -- ---- blocks and their lower cells

  old_from : (i : ℕ) (c : Cell) → i < first → cell_in p i ≡ c → cell_in d i ≡ moved a c
  old_from i c below e = old_cell i below ∙ ap (moved a) e

  new_from : (i j : ℕ) (c : Cell) → i ≡ first + j → cell_in q j ≡ c → cell_in d i ≡ moved b c
  new_from i j c here e =
      let past : first ≤ i = omega (arith, here) in
      let there : i - first ≡ j = omega (arith, here) in
      new_cell i past ∙ ap (λ n. moved b (cell_in q n)) there ∙ ap (moved b) e

  under_block : (i inst : ℕ) (linked : Bool) → cell_in d i ≡ cell.Lower inst linked → (1 ≤ i % ROWS) × (cell_in d (i - 1) ≡ cell.Block inst)
  under_block i inst linked h =
      elim (cases_lt i first) [
        | inl below ↦
            let low = before_lower a (cell_in p i) inst linked (sym (old_cell i below) ∙ h) in
            let up = old_formed.under_block i low.0 linked low.1 in
            let before : i - 1 < first = omega (arith, below) in
            (up.0, old_from (i - 1) (cell.Block low.0) before up.1 ∙ ap (λ n. cell.Block n) (sym low.2))
        | inr past ↦
            let low = before_lower b (cell_in q (i - first)) inst linked (sym (new_cell i past) ∙ h) in
            let up = new_formed.under_block (i - first) low.0 linked low.1 in
            let here : i - 1 ≡ first + (i - first - 1) = omega (arith, past, up.0) in
            (omega (arith, past, up.0), new_from (i - 1) (i - first - 1) (cell.Block low.0) here up.1 ∙ ap (λ n. cell.Block n) (sym low.2))
      ]

  fits : (i : ℕ) → Fits decls (cell_in d i)
  fits i =
      elim (cases_lt i first) [
        | inl below ↦ subst (Fits decls) (sym (old_cell i below)) (moved_fits a p.decls decls old_fits (cell_in p i) (old_formed.fits i))
        | inr past ↦ subst (Fits decls) (sym (new_cell i past)) (moved_fits b q.decls decls new_fits (cell_in q (i - first)) (new_formed.fits (i - first)))
      ]

  second_of : (s : Shift) (part : Declared) (k inst : ℕ) → FitIn s part decls → k < length part.instances → inst ≡ s.instances + k
      → has_second (slice_get decls.instances inst) ≡ true → has_second (slice_get part.instances k) ≡ true
  second_of s part k inst fit within e second =
      let there : has_second (slice_get decls.instances (s.instances + k)) ≡ true = ap (λ n. has_second (slice_get decls.instances n)) (sym e) ∙ second in
      sym (fit.instances k within).1 ∙ there

  has_lower : (i inst : ℕ) → cell_in d i ≡ cell.Block inst → has_second (slice_get decls.instances inst) ≡ true
      → (linked : Bool) × (i % ROWS + 1 < ROWS) × (cell_in d (i + 1) ≡ cell.Lower inst linked)
  has_lower i inst h second =
      elim (cases_lt i first) [
        | inl below ↦
            let block = before_block a (cell_in p i) inst (sym (old_cell i below) ∙ h) in
            let within = block_fits p.decls (cell_in p i) block.0 (ap block_in block.1) (old_formed.fits i) in
            let low = old_formed.has_lower i block.0 block.1 (second_of a p.decls block.0 inst old_fits within block.2 second) in
            let next : i + 1 < first = omega (arith, below, low.1) in
            let there : cell_in d (i + 1) ≡ cell.Lower (0 + block.0) low.0 = old_from (i + 1) (cell.Lower block.0 low.0) next low.2 in
            (low.0, low.1, subst (λ n. cell_in d (i + 1) ≡ cell.Lower n low.0) (sym block.2) there)
        | inr past ↦
            let block = before_block b (cell_in q (i - first)) inst (sym (new_cell i past) ∙ h) in
            let within = block_fits q.decls (cell_in q (i - first)) block.0 (ap block_in block.1) (new_formed.fits (i - first)) in
            let low = new_formed.has_lower (i - first) block.0 block.1 (second_of b q.decls block.0 inst new_fits within block.2 second) in
            let here : i + 1 ≡ first + (i - first + 1) = omega (arith, past) in
            let there : cell_in d (i + 1) ≡ cell.Lower (length p.decls.instances + block.0) low.0
            = new_from (i + 1) (i - first + 1) (cell.Lower block.0 low.0) here low.2 in
            (low.0, omega (arith, past, low.1), subst (λ n. cell_in d (i + 1) ≡ cell.Lower n low.0) (sym block.2) there)
      ]

  pub both_well_formed : IsWellFormed d
  both_well_formed = record {
    one_memory = one_memory;
    memories_below = memories_below;
    one_block = one_block;
    one_jump = one_jump;
    jumps_down = jumps_down;
    under_block = under_block;
    fits = fits;
    has_lower = has_lower;
  }

-- The same, where the numbers, the rungs and the sites are known by equations.
pub joined_well_formed : (p q : Drawing) (decls : Declared) (a b : Shift) (olds news : List ℕ) (rungs : ℕ) (sites : List Site) → IsWhole p → IsWhole q
    → IsWellFormed p → IsWellFormed q → a ≡ before p q olds → b ≡ after p news → FitIn a p.decls decls → FitIn b q.decls decls → rungs ≡ p.rungs + q.rungs
    → sites ≡ map (moved_site a) p.sites ++ map (moved_site b) q.sites → IsWellFormed (drawing decls rungs sites)
joined_well_formed p q decls a b olds news rungs sites old_whole new_whole old_formed new_formed is_a is_b old_fits new_fits is_rungs is_sites =
    let old : FitIn (before p q olds) p.decls decls = subst (λ s. FitIn s p.decls decls) is_a old_fits in
    let new : FitIn (after p news) q.decls decls = subst (λ s. FitIn s q.decls decls) is_b new_fits in
    let formed : IsWellFormed (both p q decls (before p q olds) (after p news))
    = both_well_formed p q decls olds news old_whole new_whole old_formed new_formed old new in
    let with_a : IsWellFormed (both p q decls a (after p news)) = subst (λ s. IsWellFormed (both p q decls s (after p news))) (sym is_a) formed in
    let with_b : IsWellFormed (both p q decls a b) = subst (λ s. IsWellFormed (both p q decls a s)) (sym is_b) with_a in
    let with_rungs : IsWellFormed (drawing decls rungs (map (moved_site a) p.sites ++ map (moved_site b) q.sites))
    = subst (λ n. IsWellFormed (drawing decls n (map (moved_site a) p.sites ++ map (moved_site b) q.sites))) (sym is_rungs) with_b in
    subst (λ x. IsWellFormed (drawing decls rungs x)) (sym is_sites) with_rungs
