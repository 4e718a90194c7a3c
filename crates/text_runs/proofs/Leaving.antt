-- What scans leave, one after the other.
use Rattle.std.proofs.Common.{◌≡◌, ◌∙◌, ◌≤◌, ◌++◌, ◌∷◌, [], ℕ, suc, zero, Bool, true, false, List, Some, ap, arith, cond, filter, length, map, refl, slice_get, take}
use Rattle.std.specs.Prelude.{zip}
use Rattle.std.specs.List.{count_by}
use Rattle.std.proofs.lemmas.List.Sums.{length-filter}
use Rattle.diagram_declarations.specs.declared.decls.Var.{Var}
use Rattle.diagram_program.specs.Program.{Drawing}
use Rattle.scan_cycle.specs.Cells.{Diagram}
use Rattle.scan_cycle.specs.Programs.{diagram_of}
use Rattle.scan_cycle.specs.Rung.{Held}
use Rattle.scan_cycle.specs.Runs.{IsRun, OneScan, after_each}
use Rattle.scan_cycle.specs.Scan.{after_scan}
use Rattle.scan_cycle.specs.Standing.{Standing}
use Rattle.text_runs.specs.Making.{last_moment, left_by}
use Rattle.text_trace.specs.Trace.{scanned, values_of}

-- ---- one scan more

pub take_next : {A : Type 0} (xs : List A) (n : ℕ) (x : A) → slice_get xs n ≡ Some x → take (suc n) xs ≡ take n xs ++ x ∷ []
take_next [] n x e = cc
take_next (y ∷ xs) zero x e = let same : y ≡ x = cc in ap (λ z. z ∷ []) same
take_next (y ∷ xs) (suc n) x e = ap (λ l. y ∷ l) (take_next xs n x e)

last_after : (m : ℕ) (scans : List OneScan) (x : OneScan) → last_moment m (scans ++ x ∷ []) ≡ x.moment
last_after m [] x = refl
last_after m (scan ∷ scans) x = last_after scan.moment scans x

held_after : (d : Diagram) (scans : List OneScan) (x : OneScan) (h : Held) → after_each d (scans ++ x ∷ []) h ≡ after_scan d x.moment x.inputs (after_each d scans h)
unfolding after_each
held_after d [] x h = refl
held_after d (scan ∷ scans) x h = held_after d scans x (after_scan d scan.moment scan.inputs h)

pub none_leave : (p : Drawing) (scans : List OneScan) (s : Standing) → left_by p (take 0 scans) s ≡ s
unfolding after_each
none_leave p scans s = refl

pub one_more : (p : Drawing) (scans : List OneScan) (s : Standing) (n : ℕ) (x : OneScan) → slice_get scans n ≡ Some x
    → left_by p (take (suc n) scans) s ≡ scanned p (left_by p (take n scans) s) x.moment x.inputs
one_more p scans s n x e =
    let front = take n scans in
    ap (λ (l : List OneScan). left_by p l s) (take_next scans n x e)
    ∙ ap (λ (h : Held). record { held = h; kinds = s.kinds; moment = last_moment s.moment (front ++ x ∷ []) }) (held_after (diagram_of p) front x s.held)
    ∙ ap (λ (m : ℕ). record { held = after_scan (diagram_of p) x.moment x.inputs (after_each (diagram_of p) front s.held); kinds = s.kinds; moment = m })
    (last_after s.moment front x)

-- ---- moments

pub not_before : (m from : ℕ) (scans : List OneScan) (n : ℕ) (x : OneScan) → m ≤ from → IsRun from scans → slice_get scans n ≡ Some x → last_moment m (take n scans) ≤ x.moment
not_before m from [] n x h run e = cc
not_before m from (scan ∷ more) zero x h run e =
    let same : scan ≡ x = cc in
    let at : scan.moment ≡ x.moment = ap (λ (y : OneScan). y.moment) same in
    let first = run.0 in
    omega (arith, h, first, at)
not_before m from (scan ∷ more) (suc n) x h run e = let same : scan.moment ≤ scan.moment = omega arith in not_before scan.moment scan.moment more n x same run.2 e

-- ---- how many inputs have a value

kept_both : {A B : Type 0} (b : Bool) (x : A) (y : B) (pairs : List (A × B)) (xs : List A) → length (map (λ pair. pair.1) pairs) ≡ length xs
    → length (map (λ pair. pair.1) (cond b ((x, y) ∷ pairs) pairs)) ≡ length (cond b (x ∷ xs) xs)
kept_both true x y pairs xs e = ap suc e
kept_both false x y pairs xs e = e

as_many : (is_asked : Var → Bool) (vars : List Var) (values : List Bool) → length values ≡ length vars → length (values_of is_asked vars values) ≡ length (filter is_asked vars)
as_many is_asked [] values h = refl
as_many is_asked (v ∷ vars) [] h = absurd (omega (arith, h))
as_many is_asked (v ∷ vars) (b ∷ values) h =
    kept_both (is_asked v) v b (filter (λ pair. is_asked pair.0) (zip vars values)) (filter is_asked vars) (as_many is_asked vars values (omega (arith, h)))

pub values_count : (is_asked : Var → Bool) (vars : List Var) (values : List Bool) → length values ≡ length vars → length (values_of is_asked vars values) ≡ count_by is_asked vars
values_count is_asked vars values h = as_many is_asked vars values h ∙ length-filter is_asked vars
