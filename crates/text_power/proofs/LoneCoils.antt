-- A coil that is alone on its variable in its rung obeys its wire.
use Rattle.std.proofs.Common.{◌≡◌, ◌∙◌, ℕ, ◌+◌, ◌*◌, ◌<◌, ◌≤◌, ◌&&◌, inl, inr, Bool, true, false, cond, not, List, Option, ap, arith, get_or, get_or-set_other, get_or-set_same, length, refl, subst, sym, suc, zero}
use Rattle.std.proofs.lemmas.Bool.{cases_lt, eqb-false}
use Rattle.diagram_program.specs.declared.geometry.TheConstants.{PLACES}
use Rattle.diagram_program.specs.declared.mode.CoilMode.{CoilMode}
use Rattle.diagram_program.specs.declared.mode.CoilMode.TheVariants as coil
use Rattle.diagram_program.specs.declared.cell.Cell.{Cell}
use Rattle.diagram_program.specs.declared.cell.Cell.TheVariants.{Coil}
use Rattle.diagram_program.specs.Program.{Drawing, Fits, IsWellFormed, is_coil_of}
use Rattle.scan_signals.specs.Truth.{plain}
use Rattle.scan_cycle.specs.declared.seen.Mark.{Mark}
use Rattle.scan_cycle.specs.Cells.{Diagram, Frame, at, closed, coil_value, memory_of, put_in, stored_by, var_in}
use Rattle.scan_cycle.specs.Programs.{diagram_of}
use Rattle.scan_cycle.specs.Rung.{Held, changes, evaluated, frame_of, link_at, second}
use Rattle.scan_cycle.specs.Scan.{given}
use Rattle.scan_cycle.specs.Seen.{Comes, at_first, goes_on, is_on, mark_in}
use Rattle.scan_cycle.proofs.Changes.{changed_is}
use Rattle.scan_cycle.proofs.Scanned.{rungs_back}
use Rattle.scan_cycle.proofs.Sizes.{rung_sizes, size-given, size-put_in}
use Rattle.text_power.specs.Marks.{LoneCoilsObey, Obeys}
use Rattle.scan_cycle.proofs.Feeders.{cell_is}

-- ---- what the places of a rung do to a variable

-- the values after the places below n
values_after : Diagram → ℕ → ℕ → Frame Bool → (ℕ → Bool) → Held → ℕ → List Bool
values_after d now j start links h n = (changes d now j start links n h).values

-- after one place more
written_at : Diagram → ℕ → (ℕ → Bool) → ℕ → Held → List Bool
written_at d j links n before = put_in before.values (var_in (d.cell j n)) (coil_value plain (d.cell j n) (links n) (memory_of before.kept (d.cell j n)) (at before.values (var_in (d.cell j n)) false))

values_next : (d : Diagram) (now j : ℕ) (start : Frame Bool) (links : ℕ → Bool) (h : Held) (n : ℕ)
    → values_after d now j start links h (suc n) ≡ written_at d j links n (changes d now j start links n h)
unfolding changes values_after written_at
values_next d now j start links h n =
    ap (λ (x : Held). x.values) (changed_is d now start (d.cell j n) (links n) (second plain d j links n) (changes d now j start links n h))

as_many : (d : Diagram) (now j : ℕ) (start : Frame Bool) (links : ℕ → Bool) (h : Held) (n : ℕ) → length (values_after d now j start links h n) ≡ length h.values
unfolding changes values_after written_at
as_many d now j start links h zero = refl
as_many d now j start links h (suc n) =
    ap length (values_next d now j start links h n)
    ∙ size-put_in (changes d now j start links n h).values (var_in (d.cell j n)) _
    ∙ as_many d now j start links h n

-- a place with no coil of the variable
other_place : (c : Cell) (var : ℕ) (xs : List Bool) (x : Bool) → is_coil_of var c ≡ false → get_or (put_in xs (var_in c) x) var false ≡ get_or xs var false
other_place (Coil mode v memory) var xs x h = get_or-set_other xs v var x false (λ e. eqb-false v var h (sym e))
other_place _ var xs x h = refl

-- the place of the coil
coil_place : (c : Cell) (mode : CoilMode) (var : ℕ) (memory : Option ℕ) (xs : List Bool) (x m : Bool) → c ≡ Coil mode var memory → var < length xs
    → get_or (put_in xs (var_in c) (coil_value plain c x m (at xs (var_in c) false))) var false ≡ stored_by plain mode x m (get_or xs var false)
coil_place c mode var memory xs x m e within =
    ap (λ (t : Cell). get_or (put_in xs (var_in t) (coil_value plain t x m (at xs (var_in t) false))) var false) e
    ∙ get_or-set_same xs var (stored_by plain mode x m (get_or xs var false)) false within

-- what is written is by the link, and by some memory and some old value
abbrev IsStored : CoilMode → Bool → Bool → Type 0
IsStored mode link value = (m : Bool) × (old : Bool) × (value ≡ stored_by plain mode link m old)

after_coil : (d : Diagram) (now j : ℕ) (start : Frame Bool) (links : ℕ → Bool) (h : Held) (place var : ℕ) (mode : CoilMode) (memory : Option ℕ) (n : ℕ)
    → d.cell j place ≡ Coil mode var memory → ((other : ℕ) → other < PLACES → (other ≡ place → ⊥) → is_coil_of var (d.cell j other) ≡ false)
    → var < length h.values → place < n → n ≤ PLACES → IsStored mode (links place) (get_or (values_after d now j start links h n) var false)
unfolding written_at values_after
after_coil d now j start links h place var mode memory zero e alone within below most = absurd (omega arith)
after_coil d now j start links h place var mode memory (suc n) e alone within below most =
    let before = changes d now j start links n h in
    let next = ap (λ (xs : List Bool). get_or xs var false) (values_next d now j start links h n) in
    elim (cases_lt place n) [
      | inl past ↦
          let i = after_coil d now j start links h place var mode memory n e alone within past (omega arith) in
          (i.0, i.1, next ∙ other_place (d.cell j n) var before.values _ (alone n (omega arith) (λ s. omega arith)) ∙ i.2)
      | inr now_here ↦
          let here : n ≡ place = omega arith in
          let long : var < length before.values = omega (arith, as_many d now j start links h n, within) in (
            memory_of before.kept (d.cell j n),
            get_or before.values var false,
            next ∙ coil_place (d.cell j n) mode var memory before.values (links n) (memory_of before.kept (d.cell j n)) (ap (d.cell j) here ∙ e) long
                ∙ ap (λ k. stored_by plain mode (links k) (memory_of before.kept (d.cell j n)) (get_or before.values var false)) here,
          )
    ]

-- ---- what the mark says

obeys : (mode : CoilMode) (m : Mark) → IsStored mode m.left m.on → Obeys mode m
obeys coil.Store m (memory, old, e) = e
obeys coil.Inverse m (memory, old, e) = e
obeys coil.Set m (memory, old, e) = λ h. e ∙ ap (λ b. cond b true old) h
obeys coil.Reset m (memory, old, e) = λ h. e ∙ ap (λ b. cond b false old) h
obeys coil.Rising m (memory, old, e) = λ h. e ∙ ap (λ b. b && not memory) h
obeys coil.Falling m (memory, old, e) = λ h. e ∙ ap (λ b. not b && memory) h

comes_sizes : (d : Diagram) (now : ℕ) (first : Held) (j : ℕ) (start : Held) → Comes d now first j start → length start.values ≡ length first.values
comes_sizes d now first _ _ at_first = refl
comes_sizes d now first _ _ (goes_on j start comes) =
    sym (rung_sizes d now j start (evaluated d now j start) (frame_of start) refl refl).values ∙ comes_sizes d now first j start comes

-- a coil in a rung that is evaluated from a state
obeys_here : (d : Diagram) (now j : ℕ) (start : Held) (place var : ℕ) (mode : CoilMode) (memory : Option ℕ) → d.cell j place ≡ Coil mode var memory
    → ((other : ℕ) → other < PLACES → (other ≡ place → ⊥) → is_coil_of var (d.cell j other) ≡ false) → var < length start.values → place < PLACES
    → Obeys mode (mark_in d now j start place)
unfolding values_after
obeys_here d now j start place var mode memory e alone held within =
    let i = after_coil d now j (frame_of start) (link_at d now j start) start place var mode memory PLACES e alone held within (omega arith) in
    let closed = closed plain (frame_of start) (memory_of start.kept (d.cell j place)) (d.cell j place) in
    obeys mode (mark_in d now j start place) (i.0, i.1, ap (is_on closed (evaluated d now j start)) e ∙ i.2)

pub lone_coils : (p : Drawing) → IsWellFormed p → LoneCoilsObey p
lone_coils p well = λ now inputs h marks sized seen rung place var mode memory below within is alone done.
    let d = diagram_of p in
    let first : Held = record { values = given d.inputs inputs h.values; kept = h.kept } in
    let declared : var < length p.decls.vars = (subst (Fits p.decls) is (well.fits (PLACES * rung + place))).0 in
    elim (seen.each rung place (subst (λ (n : ℕ). rung < n) (rungs_back p) below) within) [
      | inl (start, comes, e) ↦
          let held : var < length start.values = omega (arith, declared, sized, comes_sizes d now first rung start comes, size-given d.inputs inputs h.values) in
          subst (Obeys mode) (sym e)
          (obeys_here d now rung start place var mode memory (cell_is p rung place within ∙ is)
          (λ other there no. ap (is_coil_of var) (cell_is p rung other there) ∙ alone other there no) held within)
      | inr (kept, over, e) ↦
          let bad : false ≡ true = sym (ap (λ (m : Mark). m.evaluated) e) ∙ done in cc
    ]
