-- The routes to a place, by those to the column before.
use Rattle.std.proofs.Common.{◌≡◌, ◌∙◌, ℕ, ◌+◌, ◌-◌, ◌*◌, ◌/◌, ◌%◌, ◌<◌, ◌≤◌, Bool, true, false, ◌&&◌, ◌||◌, ◌==◌, cond, not, List, [], ◌∷◌, map, Option, Some, None, suc, inl, inr, add-one, length, length-set, slice_set, refl, ap, ap₂, sym, zero, arith}
use Rattle.std.specs.List.{filter, flat_map, list_any, range_with_len}
use Rattle.std.specs.Option.{option_or}
use Rattle.std.proofs.Math.Bool.{or_assoc}
use Rattle.std.proofs.lemmas.Bool.{cases_lt}
use Rattle.std.proofs.lemmas.List.{get_or-set_other}
use Rattle.std.proofs.lemmas.Grind.{get_or-set_at}
use Rattle.std.proofs.lemmas.List.Folds.{list_any-append}
use Rattle.diagram_program.specs.declared.geometry.TheConstants.{ROWS, PLACES}
use Rattle.diagram_program.specs.Program.{Drawing, feeds, is_block, site_at}
use Rattle.diagram_program.specs.declared.cell.Cell.{Cell}
use Rattle.scan_cycle.specs.declared.seen.Mark.{Mark}
use Rattle.scan_cycle.specs.Cells.{place_at}
use Rattle.scan_cycle.specs.Routes.{Route, block_end, routes, through}
use Rattle.text_power.specs.Show.{mark_in}
use Rattle.text_power.specs.Why.{end_of, end_unless, is_closed, is_some_of, routes_to}
use Rattle.text_power.specs.Ends.{AreAnswers, any_below, any_past, any_to, is_ended, is_live, is_nowhere, routes_past}

-- ---- lists

any_flat : {A B : Type 0} (test : B → Bool) (g : A → List B) (xs : List A) → list_any test (flat_map g xs) ≡ list_any (λ x. list_any test (g x)) xs
any_flat test g [] = refl
any_flat test g (x ∷ xs) = list_any-append test (g x) (flat_map g xs) ∙ ap (λ b. list_any test (g x) || b) (any_flat test g xs)

any_filter : {A : Type 0} (test p : A → Bool) (xs : List A) → list_any test (filter p xs) ≡ list_any (λ x. p x && test x) xs
any_filter test p [] = refl
any_filter test p (x ∷ xs) = pick (p x) (any_filter test p xs)
  where
    pick : (b : Bool) → list_any test (filter p xs) ≡ list_any (λ x. p x && test x) xs → list_any test (cond b (x ∷ filter p xs) (filter p xs)) ≡ ((b && test x) || list_any (λ x. p x && test x) xs)
    pick true e = ap (λ b. test x || b) e
    pick false e = e

any_first : (f : ℕ → Bool) (n : ℕ) → any_below f (suc n) ≡ (f 0 || any_below (λ i. f (suc i)) n)
unfolding any_below
any_first f zero = last (f 0)
  where
    last : (b : Bool) → b ≡ (b || false)
    last true = refl
    last false = refl
any_first f (suc n) = ap (λ b. b || f (suc n)) (any_first f n) ∙ or_assoc (f 0) (any_below (λ i. f (suc i)) n) (f (suc n))

any_from : (f g : ℕ → Bool) (a n : ℕ) → ((i : ℕ) → f (a + i) ≡ g i) → list_any f (range_with_len a n) ≡ any_below g n
unfolding any_below
any_from f g a zero same = refl
any_from f g a (suc n) same =
    let here : a ≡ a + 0 = omega arith in
    let next : (i : ℕ) → a + 1 + i ≡ a + suc i = λ i. omega arith in
    ap₂ (λ x y. x || y) (ap f here ∙ same 0) (any_from f (λ i. g (suc i)) (a + 1) n (λ i. ap f (next i) ∙ same (suc i))) ∙ sym (any_first g n)

any_row : (f : ℕ → Bool) → list_any f (range_with_len 0 ROWS) ≡ any_below f ROWS
any_row f =
    let same : (i : ℕ) → 0 + i ≡ i = λ i. omega arith in
    any_from f f 0 ROWS (λ i. ap f (same i))

-- ---- past a cell

live_pick : (place : ℕ) (o : Option ℕ) (c : Bool) → is_nowhere (option_or o (end_unless c place)) ≡ (is_nowhere o && c)
live_pick place None true = refl
live_pick place None false = refl
live_pick place (Some m) c = refl

live_more : (a l c : Bool) → ((a && c) || (l && c)) ≡ ((a || l) && c)
live_more true true true = refl
live_more true false true = refl
live_more _ _ _ = refl

live_through : (p : Drawing) (marks : List Mark) (j row column : ℕ) (rs : List Route)
    → list_any (is_live p marks j) (map (λ r. through r row column) rs)
    ≡ (list_any (is_live p marks j) rs && is_closed (mark_in marks j row column) (site_at p j row column).cell)
unfolding end_of
live_through p marks j row column [] = refl
live_through p marks j row column (r ∷ rs) =
    let c = is_closed (mark_in marks j row column) (site_at p j row column).cell in
    let l = list_any (is_live p marks j) rs in
    ap (λ b. b || list_any (is_live p marks j) (map (λ r. through r row column) rs)) (live_pick (place_at row column) (end_of p marks j r) c)
    ∙ ap (λ b. (is_nowhere (end_of p marks j r) && c) || b) (live_through p marks j row column rs)
    ∙ live_more (is_nowhere (end_of p marks j r)) l c

ended_pick : (n place : ℕ) (o : Option ℕ) (c : Bool) → is_some_of n (option_or o (end_unless c place)) ≡ (is_some_of n o || ((is_nowhere o && not c) && place == n))
ended_pick n place None true = refl
ended_pick n place None false = refl
ended_pick n place (Some m) c = or_none (m == n)
  where
    or_none : (b : Bool) → b ≡ (b || false)
    or_none true = refl
    or_none false = refl

ended_more : (e a i l k h : Bool) → ((e || ((a && k) && h)) || (i || ((l && k) && h))) ≡ ((e || i) || (((a || l) && k) && h))
ended_more false true true l true true = refl
ended_more false true false l true true = refl
ended_more false true false true true false = refl
ended_more false true false true false h = refl
ended_more _ _ _ _ _ _ = refl

ended_through : (p : Drawing) (marks : List Mark) (j n row column : ℕ) (rs : List Route)
    → list_any (is_ended n p marks j) (map (λ r. through r row column) rs)
    ≡ (list_any (is_ended n p marks j) rs
    || ((list_any (is_live p marks j) rs && not (is_closed (mark_in marks j row column) (site_at p j row column).cell)) && place_at row column == n))
unfolding end_of
ended_through p marks j n row column [] = refl
ended_through p marks j n row column (r ∷ rs) =
    let c = is_closed (mark_in marks j row column) (site_at p j row column).cell in
    let o = end_of p marks j r in
    let rest = list_any (is_ended n p marks j) rs in
    let h = place_at row column == n in
    ap (λ b. b || list_any (is_ended n p marks j) (map (λ r. through r row column) rs)) (ended_pick n (place_at row column) o c)
    ∙ ap (λ b. (is_some_of n o || ((is_nowhere o && not c) && h)) || b) (ended_through p marks j n row column rs)
    ∙ ended_more (is_some_of n o) (is_nowhere o) rest (list_any (is_live p marks j) rs) (not c) h

pub row_of : (row column : ℕ) → row < ROWS → (ROWS * column + row) % ROWS ≡ row
row_of row column h = omega arith

pub column_of : (row column : ℕ) → row < ROWS → (ROWS * column + row) / ROWS ≡ column
column_of row column h = omega arith

pub to_place : (test : Route → Bool) (p : Drawing) (j row column : ℕ) → row < ROWS → any_to test p j (ROWS * column + row) ≡ list_any test (routes_to p j row column)
to_place test p j row column h =
    ap (λ r. list_any test (routes_to p j r ((ROWS * column + row) / ROWS))) (row_of row column h)
    ∙ ap (λ c. list_any test (routes_to p j row c)) (column_of row column h)

or_false : (b : Bool) → (b || false) ≡ b
or_false true = refl
or_false false = refl

live_past : (p : Drawing) (marks : List Mark) (j row column : ℕ) → row < ROWS
    → any_past (is_live p marks j) p j row column
    ≡ cond (is_block (site_at p j row column).cell) (mark_in marks j row column).right
    (any_to (is_live p marks j) p j (ROWS * column + row) && is_closed (mark_in marks j row column) (site_at p j row column).cell)
unfolding end_of
live_past p marks j row column h = by (is_block (site_at p j row column).cell)
  where
    at_block : (b : Bool) → is_nowhere (end_unless b (place_at row column)) ≡ b
    at_block true = refl
    at_block false = refl

    by : (b : Bool) → list_any (is_live p marks j) (cond b (block_end row column ∷ []) (map (λ r. through r row column) (routes_to p j row column)))
        ≡ cond b (mark_in marks j row column).right
        (any_to (is_live p marks j) p j (ROWS * column + row) && is_closed (mark_in marks j row column) (site_at p j row column).cell)
    by true = or_false _ ∙ at_block (mark_in marks j row column).right
    by false = live_through p marks j row column (routes_to p j row column)
        ∙ ap (λ b. b && is_closed (mark_in marks j row column) (site_at p j row column).cell) (sym (to_place (is_live p marks j) p j row column h))

pub past_live : (p : Drawing) (marks : List Mark) (j row column : ℕ) (m : Mark) (cell : Cell) (block live : Bool) → row < ROWS
    → cell ≡ (site_at p j row column).cell → m ≡ mark_in marks j row column → block ≡ is_block cell
    → live ≡ any_to (is_live p marks j) p j (ROWS * column + row)
    → any_past (is_live p marks j) p j row column ≡ cond block m.right (live && is_closed m cell)
past_live p marks j row column m cell block live h ec em eb el =
    let right = mark_in marks j row column in
    let to = any_to (is_live p marks j) p j (ROWS * column + row) in
    live_past p marks j row column h
    ∙ ap (λ c. cond (is_block c) right.right (to && is_closed right c)) (sym ec)
    ∙ ap (λ b. cond b right.right (to && is_closed right cell)) (sym eb)
    ∙ ap (λ (x : Mark). cond block x.right (to && is_closed x cell)) (sym em)
    ∙ ap (λ b. cond block m.right (b && is_closed m cell)) (sym el)

ended_past : (p : Drawing) (marks : List Mark) (j n row column : ℕ) → row < ROWS
    → any_past (is_ended n p marks j) p j row column
    ≡ cond (is_block (site_at p j row column).cell) (not (mark_in marks j row column).right && place_at row column == n)
    (any_to (is_ended n p marks j) p j (ROWS * column + row)
    || ((any_to (is_live p marks j) p j (ROWS * column + row) && not (is_closed (mark_in marks j row column) (site_at p j row column).cell)) && place_at row column == n))
unfolding end_of
ended_past p marks j n row column h = by (is_block (site_at p j row column).cell)
  where
    c : Bool
    c = not (is_closed (mark_in marks j row column) (site_at p j row column).cell)

    here : Bool
    here = place_at row column == n

    at_block : (b : Bool) → is_some_of n (end_unless b (place_at row column)) ≡ (not b && here)
    at_block true = refl
    at_block false = refl

    by : (b : Bool) → list_any (is_ended n p marks j) (cond b (block_end row column ∷ []) (map (λ r. through r row column) (routes_to p j row column)))
        ≡ cond b (not (mark_in marks j row column).right && here)
        (any_to (is_ended n p marks j) p j (ROWS * column + row) || ((any_to (is_live p marks j) p j (ROWS * column + row) && c) && here))
    by true = or_false _ ∙ at_block (mark_in marks j row column).right
    by false = ended_through p marks j n row column (routes_to p j row column)
        ∙ ap (λ b. b || ((list_any (is_live p marks j) (routes_to p j row column) && c) && here)) (sym (to_place (is_ended n p marks j) p j row column h))
        ∙ ap (λ b. any_to (is_ended n p marks j) p j (ROWS * column + row) || ((b && c) && here)) (sym (to_place (is_live p marks j) p j row column h))

pub past_ended : (p : Drawing) (marks : List Mark) (j n row column : ℕ) (m : Mark) (cell : Cell) (block live ended : Bool) → row < ROWS
    → cell ≡ (site_at p j row column).cell → m ≡ mark_in marks j row column → block ≡ is_block cell
    → live ≡ any_to (is_live p marks j) p j (ROWS * column + row)
    → ended ≡ any_to (is_ended n p marks j) p j (ROWS * column + row)
    → any_past (is_ended n p marks j) p j row column
    ≡ cond block (not m.right && place_at row column == n) (ended || ((live && not (is_closed m cell)) && place_at row column == n))
past_ended p marks j n row column m cell block live ended h ec em eb el ee =
    let right = mark_in marks j row column in
    let to = any_to (is_live p marks j) p j (ROWS * column + row) in
    let on = any_to (is_ended n p marks j) p j (ROWS * column + row) in
    let here = place_at row column == n in
    ended_past p marks j n row column h
    ∙ ap (λ c. cond (is_block c) (not right.right && here) (on || ((to && not (is_closed right c)) && here))) (sym ec)
    ∙ ap (λ b. cond b (not right.right && here) (on || ((to && not (is_closed right cell)) && here))) (sym eb)
    ∙ ap (λ (x : Mark). cond block (not x.right && here) (on || ((to && not (is_closed x cell)) && here))) (sym em)
    ∙ ap (λ b. cond block (not m.right && here) (on || ((b && not (is_closed m cell)) && here))) (sym el)
    ∙ ap (λ b. cond block (not m.right && here) (b || ((live && not (is_closed m cell)) && here))) (sym ee)

-- ---- from column to column

-- each route to a place past the first column comes past a cell of the column before
pub any_before : (test : Route → Bool) (p : Drawing) (j row column : ℕ)
    → list_any test (routes_to p j row (suc column)) ≡ any_below (λ from. feeds p j row (suc column) from && any_past test p j from column) ROWS
unfolding routes
any_before test p j row column =
    any_flat test (λ from. routes_past p j from column) (filter (feeds p j row (suc column)) (range_with_len 0 ROWS))
    ∙ any_filter (λ from. any_past test p j from column) (feeds p j row (suc column)) (range_with_len 0 ROWS)
    ∙ any_row (λ from. feeds p j row (suc column) from && any_past test p j from column)

pub any_at : (test : Route → Bool) (p : Drawing) (j at : ℕ) → ROWS ≤ at
    → any_below (λ from. feeds p j (at % ROWS) (at / ROWS) from && any_past test p j from (at / ROWS - 1)) ROWS ≡ any_to test p j at
any_at test p j at le =
    ap (λ c. any_below (λ from. feeds p j (at % ROWS) c from && any_past test p j from (at / ROWS - 1)) ROWS) later
    ∙ sym (any_before test p j (at % ROWS) (at / ROWS - 1))
    ∙ ap (λ c. list_any test (routes_to p j (at % ROWS) c)) (sym later)
  where
    later : at / ROWS ≡ suc (at / ROWS - 1)
    later = omega (arith, le)

-- at the left rail
pub live_first : (p : Drawing) (marks : List Mark) (j at : ℕ) → at < ROWS → true ≡ any_to (is_live p marks j) p j at
unfolding end_of routes
live_first p marks j at lt = ap (λ c. list_any (is_live p marks j) (routes_to p j (at % ROWS) c)) (sym first)
  where
    first : at / ROWS ≡ 0
    first = omega (arith, lt)

pub ended_first : (p : Drawing) (marks : List Mark) (j n at : ℕ) → at < ROWS → false ≡ any_to (is_ended n p marks j) p j at
unfolding end_of routes
ended_first p marks j n at lt = ap (λ c. list_any (is_ended n p marks j) (routes_to p j (at % ROWS) c)) (sym first)
  where
    first : at / ROWS ≡ 0
    first = omega (arith, lt)

pub below_more : (f : ℕ → Bool) (n : ℕ) (found feeding past : Bool) → found ≡ any_below f n → (feeding && past) ≡ f n
    → (found || (feeding && past)) ≡ any_below f (n + 1)
unfolding any_below
below_more f n found feeding past e h =
    ap (λ b. b || (feeding && past)) e ∙ ap (λ b. any_below f n || b) h ∙ sym (ap (any_below f) (add-one n))

pub none_below : (f : ℕ → Bool) → false ≡ any_below f 0
unfolding any_below
none_below f = refl

-- ---- answers

pub answers_none : (test : Route → Bool) (p : Drawing) (j : ℕ) (xs : List Bool) → length xs ≡ PLACES → AreAnswers test p j 0 xs
answers_none test p j xs size = record { size = size; each = λ at lt. absurd (omega (arith, lt)) }

pub answers_more : (test : Route → Bool) (p : Drawing) (j n : ℕ) (xs : List Bool) (x : Bool) → n < PLACES → x ≡ any_to test p j n → AreAnswers test p j n xs
    → AreAnswers test p j (n + 1) (slice_set xs n x)
answers_more test p j n xs x lt e old = record {
  size = length-set xs n x ∙ old.size;
  each = λ at below. elim (cases_lt at n) [
    | inl before ↦ get_or-set_other xs n at x false (λ same. absurd (omega (arith, before, same))) ∙ old.each at before
    | inr past ↦
        let here : at ≡ n = omega (arith, below, past) in
        get_or-set_at xs n at x false here (omega (arith, lt, old.size)) ∙ e ∙ sym (ap (any_to test p j) here)
  ];
}
