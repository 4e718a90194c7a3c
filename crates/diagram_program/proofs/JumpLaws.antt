-- Where the jump of a rung is.
use Rattle.std.proofs.Common.{◌≡◌, ℕ, ◌+◌, ◌*◌, ◌/◌, ◌%◌, ◌<◌, ◌≤◌, ◌++◌, List, [], ◌∷◌, Option, Some, None, zero, suc, slice_get, add-one, arith, refl, sym, ap, subst, ◌∙◌}
use Rattle.std.specs.Prelude.{option_map}
use Rattle.std.specs.Option.{option_or}
use Rattle.std.specs.List.{cons_option, filter_map, range_with_len}
use Rattle.std.proofs.lemmas.List.Elements.{filter_map-append}
use Rattle.diagram_program.specs.declared.geometry.TheConstants.{ROWS, COLUMNS, PLACES}
use Rattle.diagram_program.specs.Program.{Drawing, cell_of, goes_to, jump_of}
use Rattle.diagram_program.proofs.Ranges.{range_more}

-- where the cell at a place leads
abbrev pub jump_at : Drawing → ℕ → ℕ → Option (ℕ × ℕ × ℕ)
jump_at d rung at = option_map (λ target. (at % ROWS, at / ROWS, target)) (goes_to d.rungs (cell_of d rung at))

-- the jump at the first n places
abbrev pub first_jump : Drawing → ℕ → ℕ → Option (ℕ × ℕ × ℕ)
first_jump d rung n = slice_get (filter_map (jump_at d rung) (range_with_len 0 n)) 0

-- ---- one place more

first_of : {A : Type 0} (xs : List A) (o : Option A) → slice_get (xs ++ cons_option o []) 0 ≡ option_or (slice_get xs 0) o
first_of [] None = refl
first_of [] (Some x) = refl
first_of (x ∷ xs) o = refl

pub next_jump : (d : Drawing) (rung n : ℕ) → first_jump d rung (suc n) ≡ option_or (first_jump d rung n) (jump_at d rung n)
next_jump d rung n =
    let here : 0 + n ≡ n = omega arith in
    ap (λ xs. slice_get (filter_map (jump_at d rung) xs) 0) (range_more 0 n ∙ ap (λ x. range_with_len 0 n ++ x ∷ []) here)
    ∙ ap (λ js. slice_get js 0) (filter_map-append (jump_at d rung) (range_with_len 0 n) (n ∷ []))
    ∙ first_of (filter_map (jump_at d rung) (range_with_len 0 n)) (jump_at d rung n)

pub last_jump : (d : Drawing) (rung : ℕ) → first_jump d rung PLACES ≡ jump_of d rung
unfolding jump_of
last_jump d rung = refl

pub no_jump : (d : Drawing) (rung : ℕ) → None ≡ first_jump d rung 0
no_jump d rung = refl

pub jump_next : (d : Drawing) (rung n : ℕ) → first_jump d rung (n + 1) ≡ option_or (first_jump d rung n) (jump_at d rung n)
jump_next d rung n = ap (first_jump d rung) (add-one n) ∙ next_jump d rung n

pub ruleset jump_step = (no_jump, jump_next)

-- ---- its place

-- the cell at the place of the jump leads to its target
abbrev Leads : Drawing → ℕ → ℕ × ℕ × ℕ → Type 0
Leads d rung j = (j.0 < ROWS) × (j.1 < COLUMNS) × (goes_to d.rungs (cell_of d rung (ROWS * j.1 + j.0)) ≡ Some j.2)

some_same : (a b : ℕ × ℕ × ℕ) → Some a ≡ Some b → a ≡ b
some_same a b h = cc

none_some : (j : ℕ × ℕ × ℕ) → None ≡ Some j → ⊥
none_some j h = cc

leads_here : (d : Drawing) (rung n : ℕ) (goal : Option ℕ) (j : ℕ × ℕ × ℕ) → goes_to d.rungs (cell_of d rung n) ≡ goal → n < PLACES
    → option_map (λ target. (n % ROWS, n / ROWS, target)) goal ≡ Some j → Leads d rung j
leads_here d rung n None j is lt h = absurd (none_some j h)
leads_here d rung n (Some target) j is lt h =
    let row : n % ROWS < ROWS = omega arith in
    let column : n / ROWS < COLUMNS = omega arith in
    let place : ROWS * (n / ROWS) + n % ROWS ≡ n = omega arith in
    subst (Leads d rung) (some_same _ _ h) (row, column, ap (λ m. goes_to d.rungs (cell_of d rung m)) place ∙ is)

one_of : (d : Drawing) (rung n : ℕ) (before : Option (ℕ × ℕ × ℕ)) (j : ℕ × ℕ × ℕ) → n < PLACES
    → ((k : ℕ × ℕ × ℕ) → before ≡ Some k → Leads d rung k) → option_or before (jump_at d rung n) ≡ Some j → Leads d rung j
one_of d rung n (Some k) j lt earlier h = earlier j h
one_of d rung n None j lt earlier h = leads_here d rung n (goes_to d.rungs (cell_of d rung n)) j refl lt h

placed_before : (d : Drawing) (rung n : ℕ) → n ≤ PLACES → (j : ℕ × ℕ × ℕ) → first_jump d rung n ≡ Some j → Leads d rung j
placed_before d rung zero h j e = absurd (none_some j e)
placed_before d rung (suc n) h j e =
    one_of d rung n (first_jump d rung n) j (omega arith) (λ k f. placed_before d rung n (omega arith) k f) (sym (next_jump d rung n) ∙ e)

pub jump_placed : (d : Drawing) (rung : ℕ) (j : ℕ × ℕ × ℕ) → jump_of d rung ≡ Some j
    → (j.0 < ROWS) × (j.1 < COLUMNS) × (goes_to d.rungs (cell_of d rung (ROWS * j.1 + j.0)) ≡ Some j.2)
jump_placed d rung j e = placed_before d rung PLACES (omega arith) j (last_jump d rung ∙ e)
