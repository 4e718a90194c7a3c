-- Which of the values that a scan gives an input has, and what the variables keep.
use Rattle.std.proofs.Common.{◌≡◌, ◌∙◌, ℕ, ◌+◌, ◌<◌, ◌≤◌, Bool, true, false, List, [], ◌∷◌, ◌++◌, length, refl, sym, ap, zero, suc, add-one, arith, slice_index_or, map, inl, inr, None}
use Rattle.std.specs.Prelude.{Contains, filter}
use Rattle.std.specs.List.{range_with_len}
use Rattle.std.proofs.lemmas.Bool.{cases_Bool, cases_lt}
use Rattle.std.proofs.lemmas.List.{length-append, length-map}
use Rattle.std.proofs.lemmas.List.Elements.{filter-append}
use Rattle.diagram_declarations.specs.Decls.{is_input}
use Rattle.diagram_declarations.specs.declared.decls.Var.{Var}
use Rattle.diagram_program.proofs.Ranges.{range_more}
use Rattle.scan_cycle.specs.Programs.{diagram_of}
use Rattle.scan_cycle.specs.Scan.{given}
use Rattle.causes_query.specs.Assignment.{input_variables}
use Rattle.reach_runs.specs.Asking.{Gives, RunQuestion}

-- how many of the first n variables are inputs
pub rank : List Bool → ℕ → ℕ
rank [] n = 0
rank (f ∷ flags) zero = 0
rank (true ∷ flags) (suc n) = suc (rank flags n)
rank (false ∷ flags) (suc n) = rank flags n

pub rank_none : (flags : List Bool) → rank flags 0 ≡ 0
unfolding rank
rank_none [] = refl
rank_none (f ∷ flags) = refl

on : (flags : List Bool) (n : ℕ) → slice_index_or flags n false ≡ true → rank flags (suc n) ≡ suc (rank flags n)
unfolding rank
on [] n h = cc
on (true ∷ flags) zero h = ap suc (rank_none flags)
on (false ∷ flags) zero h = cc
on (true ∷ flags) (suc n) h = ap suc (on flags n h)
on (false ∷ flags) (suc n) h = on flags n h

off : (flags : List Bool) (n : ℕ) → slice_index_or flags n false ≡ false → rank flags (suc n) ≡ rank flags n
unfolding rank
off [] n h = refl
off (true ∷ flags) zero h = cc
off (false ∷ flags) zero h = rank_none flags
off (true ∷ flags) (suc n) h = ap suc (off flags n h)
off (false ∷ flags) (suc n) h = off flags n h

pub rank_on : (flags : List Bool) (n : ℕ) → slice_index_or flags n false ≡ true → rank flags (n + 1) ≡ rank flags n + 1
rank_on flags n h = ap (rank flags) (add-one n) ∙ on flags n h ∙ sym (add-one (rank flags n))

pub rank_off : (flags : List Bool) (n : ℕ) → slice_index_or flags n false ≡ false → rank flags (n + 1) ≡ rank flags n
rank_off flags n h = ap (rank flags) (add-one n) ∙ off flags n h

pub rank_grows : (flags : List Bool) (n m : ℕ) → n ≤ m → rank flags n ≤ rank flags m
unfolding rank
rank_grows [] n m few = omega arith
rank_grows (f ∷ flags) zero m few = omega arith
rank_grows (f ∷ flags) (suc n) zero few = absurd (omega (arith, few))
rank_grows (true ∷ flags) (suc n) (suc m) few = omega (arith, rank_grows flags n m (omega (arith, few)))
rank_grows (false ∷ flags) (suc n) (suc m) few = rank_grows flags n m (omega (arith, few))

-- one of the numbers of the inputs, or none
counted_one : (flags : List Bool) (n : ℕ) → rank flags n + length (filter (λ i. slice_index_or flags i false) (n ∷ [])) ≡ rank flags (suc n)
counted_one flags n = elim (cases_Bool (slice_index_or flags n false)) [
  | inl is ↦ rw is (omega (arith, on flags n is))
  | inr is ↦ rw is (omega (arith, off flags n is))
]

-- the numbers of the inputs among the first n variables
counted : (flags : List Bool) (n : ℕ) → length (filter (λ i. slice_index_or flags i false) (range_with_len 0 n)) ≡ rank flags n
counted flags zero = sym (rank_none flags)
counted flags (suc n) =
    let same : 0 + n ≡ n = omega arith in
    ap (λ ns. length (filter (λ i. slice_index_or flags i false) ns)) (range_more 0 n ∙ ap (λ m. range_with_len 0 n ++ m ∷ []) same)
    ∙ ap length (filter-append (λ i. slice_index_or flags i false) (range_with_len 0 n) (n ∷ []))
    ∙ length-append (filter (λ i. slice_index_or flags i false) (range_with_len 0 n)) (filter (λ i. slice_index_or flags i false) (n ∷ []))
    ∙ ap (λ m. m + length (filter (λ i. slice_index_or flags i false) (n ∷ []))) (counted flags n)
    ∙ counted_one flags n

-- the numbers of all inputs
all_counted : (vars : List Var) → length (input_variables (map is_input vars)) ≡ rank (map is_input vars) (length vars)
all_counted vars = counted (map is_input vars) (length (map is_input vars)) ∙ ap (rank (map is_input vars)) (length-map vars is_input)

-- what is no input keeps its value
pub others_keep : (flags xs values : List Bool) (i : ℕ) → slice_index_or flags i false ≡ false
    → slice_index_or (given flags xs values) i false ≡ slice_index_or values i false
others_keep [] xs values i h = refl
others_keep (true ∷ flags) xs [] i h = refl
others_keep (false ∷ flags) xs [] i h = refl
others_keep (true ∷ flags) [] (v ∷ values) zero h = refl
others_keep (true ∷ flags) [] (v ∷ values) (suc i) h = others_keep flags [] values i h
others_keep (true ∷ flags) (x ∷ xs) (v ∷ values) zero h = absurd cc
others_keep (true ∷ flags) (x ∷ xs) (v ∷ values) (suc i) h = others_keep flags xs values i h
others_keep (false ∷ flags) xs (v ∷ values) zero h = refl
others_keep (false ∷ flags) xs (v ∷ values) (suc i) h = others_keep flags xs values i h

-- an input that is given its own value keeps it
pub same_keeps : (flags xs values : List Bool) (i : ℕ) → slice_index_or flags i false ≡ true → rank flags i < length xs
    → slice_index_or xs (rank flags i) false ≡ slice_index_or values i false
    → slice_index_or (given flags xs values) i false ≡ slice_index_or values i false
unfolding rank
same_keeps [] xs values i h lt same = refl
same_keeps (true ∷ flags) xs [] i h lt same = refl
same_keeps (false ∷ flags) xs [] i h lt same = refl
same_keeps (true ∷ flags) [] (v ∷ values) i h lt same = absurd (omega (arith, lt))
same_keeps (true ∷ flags) (x ∷ xs) (v ∷ values) zero h lt same = same
same_keeps (true ∷ flags) (x ∷ xs) (v ∷ values) (suc i) h lt same = same_keeps flags xs values i h (omega (arith, lt)) same
same_keeps (false ∷ flags) xs (v ∷ values) zero h lt same = absurd cc
same_keeps (false ∷ flags) xs (v ∷ values) (suc i) h lt same = same_keeps flags xs values i h lt same

-- an input has the value that it is given
given_at : (flags xs values : List Bool) (i : ℕ) → slice_index_or flags i false ≡ true → rank flags i < length xs → i < length values
    → slice_index_or (given flags xs values) i false ≡ slice_index_or xs (rank flags i) false
unfolding rank
given_at [] xs values i h lt there = absurd cc
given_at (f ∷ flags) xs [] i h lt there = absurd (omega (arith, there))
given_at (true ∷ flags) [] (v ∷ values) i h lt there = absurd (omega (arith, lt))
given_at (true ∷ flags) (x ∷ xs) (v ∷ values) zero h lt there = refl
given_at (true ∷ flags) (x ∷ xs) (v ∷ values) (suc i) h lt there = given_at flags xs values i h (omega (arith, lt)) (omega (arith, there))
given_at (false ∷ flags) xs (v ∷ values) zero h lt there = absurd cc
given_at (false ∷ flags) xs (v ∷ values) (suc i) h lt there = given_at flags xs values i h lt (omega (arith, there))

pub past_is_off : (flags : List Bool) (i : ℕ) → length flags ≤ i → slice_index_or flags i false ≡ false
past_is_off [] i h = refl
past_is_off (f ∷ flags) zero h = absurd (omega (arith, h))
past_is_off (f ∷ flags) (suc i) h = past_is_off flags i (omega (arith, h))

-- the same question, with nothing assumed
abbrev pub unassumed : RunQuestion → RunQuestion
unassumed q = record q { assumed = None }

module _ (q : RunQuestion) (inputs : List Bool) (vars : List Var) (same : vars ≡ q.program.decls.vars) where
  -- as many values are given as there are inputs, and what isn't listed keeps its value up to the last variable
  pub all_keep : length inputs ≡ rank (map is_input vars) (length vars)
      → ((v : ℕ) → v < length vars → (Contains q.listed v → ⊥)
      → slice_index_or (given (map is_input vars) inputs q.state.held.values) v false ≡ slice_index_or q.state.held.values v false)
      → Gives (unassumed q) inputs
  unfolding diagram_of
  all_keep count kept = record {
    all = count ∙ sym (all_counted vars) ∙ ap (λ (vs : List Var). length (input_variables (map is_input vs))) same;
    stored = λ v other.
        ap (λ (vs : List Var). slice_index_or (given (map is_input vs) inputs q.state.held.values) v false) (sym same)
        ∙ elim (cases_lt v (length vars)) [
          | inl less ↦ kept v less other
          | inr past ↦ others_keep (map is_input vars) inputs q.state.held.values v (past_is_off (map is_input vars) v (omega (arith, past, length-map vars is_input)))
        ];
    allowed = refl;
  }

  -- and so it is where a scan gives what it may
  pub as_many : Gives q inputs → length inputs ≡ rank (map is_input vars) (length vars)
  unfolding diagram_of
  as_many gives = gives.all ∙ ap (λ (vs : List Var). length (input_variables (map is_input vs))) (sym same) ∙ all_counted vars

  pub more_given : (v : ℕ) → slice_index_or (map is_input vars) v false ≡ true → v < length vars → Gives q inputs → rank (map is_input vars) v < length inputs
  more_given v is there gives = omega (arith, as_many gives, rank_on (map is_input vars) v is, rank_grows (map is_input vars) (v + 1) (length vars) (omega (arith, there)))

  pub stored_given : (v : ℕ) → slice_index_or (map is_input vars) v false ≡ true → v < length vars → length q.state.held.values ≡ length vars → Gives q inputs
      → (Contains q.listed v → ⊥) → slice_index_or inputs (rank (map is_input vars) v) false ≡ slice_index_or q.state.held.values v false
  unfolding diagram_of
  stored_given v is there sizes gives other =
      sym (given_at (map is_input vars) inputs q.state.held.values v is (more_given v is there gives) (omega (arith, there, sizes)))
      ∙ ap (λ (vs : List Var). slice_index_or (given (map is_input vs) inputs q.state.held.values) v false) same
      ∙ gives.stored v other
