-- Lists with an entry for each place of each rung.
use Rattle.std.proofs.Common.{◌≡◌, ℕ, zero, suc, ◌+◌, ◌*◌, ◌/◌, ◌%◌, ◌<◌, List, [], ◌∷◌, ◌++◌, length, slice_index_or, get_or, add-one, length-append, arith, refl, sym, ap, subst, ◌∙◌, inl, inr}
use Rattle.std.proofs.lemmas.Bool.{cases_lt}
use Rattle.std.proofs.lemmas.List.{get_or_append_left, get_or_push, ext_get_or}
use Rattle.diagram_program.specs.declared.geometry.TheConstants.{ROWS, COLUMNS, PLACES}
use Rattle.diagram_program.specs.Geometry.{place}
use Rattle.diagram_program.specs.Geometry.{at_place}
use Rattle.diagram_program.specs.AllPlaces.{all_places}
use Rattle.diagram_program.specs.AllPlaces.{first_places}

pub no_place_yet : {A : Type 0} (f : ℕ → A) → [] ≡ first_places f 0
unfolding first_places
no_place_yet f = refl

pub one_place_more : {A : Type 0} (xs : List A) (f : ℕ → A) (n : ℕ) (x : A) → xs ≡ first_places f n → x ≡ f n → xs ++ x ∷ [] ≡ first_places f (n + 1)
unfolding first_places
one_place_more xs f n x h is = rw (add-one, h, is) refl

pub length-first_places : {A : Type 0} (f : ℕ → A) (n : ℕ) → length (first_places f n) ≡ n
unfolding first_places
length-first_places f zero = refl
length-first_places {A} f (suc n) = omega (arith, length-first_places f n, length-append {A = A} (first_places f n) (f n ∷ []))

pub first_places-at : {A : Type 0} (f : ℕ → A) (n i : ℕ) (d : A) → i < n → get_or (first_places f n) i d ≡ f i
unfolding first_places
first_places-at f zero i d below = absurd (omega arith)
first_places-at f (suc n) i d below =
    elim (cases_lt i n) [
      | inl before ↦
          let within : i < length (first_places f n) = omega (arith, before, length-first_places f n) in
          get_or_append_left (first_places f n) (f n ∷ []) d i within ∙ first_places-at f n i d before
      | inr past ↦
          let here : i ≡ n = omega arith in
          let len : length (first_places f n) ≡ i = length-first_places f n ∙ sym here in
          get_or_push (first_places f n) (f n) d i len ∙ ap f (sym here)
    ]

pub length-all_places : {A : Type 0} (f : ℕ → ℕ → ℕ → A) (rungs : ℕ) → length (all_places f rungs) ≡ PLACES * rungs
length-all_places f rungs = length-first_places (at_place f) (PLACES * rungs)

-- by rung, row and column
pub all_places-drawn : {A : Type 0} (f : ℕ → ℕ → ℕ → A) (rungs : ℕ) (d : A) (k r c : ℕ) → k < rungs → r < ROWS → c < COLUMNS
    → slice_index_or (all_places f rungs) (place k r c) d ≡ f k r c
all_places-drawn f rungs d k r c below rows columns =
    let rung : place k r c / PLACES ≡ k = omega arith in
    let row : place k r c % PLACES % ROWS ≡ r = omega arith in
    let column : place k r c % PLACES / ROWS ≡ c = omega arith in
    let within : place k r c < PLACES * rungs = omega arith in
    first_places-at (at_place f) (PLACES * rungs) (place k r c) d within ∙ rw (rung, row, column) refl

-- Two lists with the same at each place are one.
pub same_list : {A : Type 0} (z : A) (rungs : ℕ) (xs ys : List A) → length xs ≡ PLACES * rungs → length ys ≡ PLACES * rungs
    → ((k r c : ℕ) → k < rungs → r < ROWS → c < COLUMNS → slice_index_or xs (place k r c) z ≡ slice_index_or ys (place k r c) z) → xs ≡ ys
same_list z rungs xs ys sx sy same =
    ext_get_or z xs ys (sx ∙ sym sy) (λ i below.
    let k : i / PLACES < rungs = omega (arith, sx, below) in
    let r : i % PLACES % ROWS < ROWS = omega arith in
    let c : i % PLACES / ROWS < COLUMNS = omega arith in
    let here : place (i / PLACES) (i % PLACES % ROWS) (i % PLACES / ROWS) ≡ i = omega arith in
    subst (λ n. get_or xs n z ≡ get_or ys n z) here (same (i / PLACES) (i % PLACES % ROWS) (i % PLACES / ROWS) k r c))
