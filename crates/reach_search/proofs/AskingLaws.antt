-- What is known of the inputs where the listed ones are open and the others have their stored values.
use Rattle.std.proofs.Common.{◌≡◌, ◌∙◌, ◌+◌, ◌<◌, ◌++◌, ℕ, suc, Bool, true, false, List, [], ◌∷◌, length, get_or, map, drop, cond, refl, ap, sym, subst, arith, append_assoc, ◌==◌, ◌≤◌}
use Rattle.std.proofs.lemmas.Bool.{eq-eqb}
use Rattle.std.proofs.lemmas.List.{append-nil, drop_all, drop_more, length-map}
use Rattle.std.proofs.lemmas.List.Folds.{list_any_at}
use Rattle.std.specs.List.{filter, list_any, range_with_len}
use Rattle.std.specs.Prelude.{Contains}
use Rattle.diagram_declarations.specs.Decls.{is_input}
use Rattle.diagram_declarations.specs.declared.decls.Var.{Var}
use Rattle.scan_cycle.specs.Programs.{diagram_of}
use Rattle.scan_cycle.specs.Scan.{given}
use Rattle.scan_signals.specs.Relations.{Both}
use Rattle.scan_signals.specs.Three.{three_allows, three_known}
use Rattle.scan_signals.specs.declared.tri.Tri.{Tri}
use Rattle.scan_signals.specs.declared.tri.Tri.TheVariants.{Unsure}
use Rattle.causes_query.specs.Assignment.{input_variables}
use Rattle.invariant_cases.specs.Allowing.{Allows}
use Rattle.reach_runs.specs.Asking.{RunQuestion}
use Rattle.reach_search.specs.Searches.{AreAsked, input_value}

-- what is known by a function of their numbers, from a variable on
pub asked_from : (ℕ → Tri) → ℕ → List Bool → List Tri
asked_from f n [] = []
asked_from f n (true ∷ flags) = f n ∷ asked_from f (n + 1) flags
asked_from f n (false ∷ flags) = asked_from f (n + 1) flags

pub asked_on : (f : ℕ → Tri) (n : ℕ) (flag : Bool) (flags : List Bool) → flag ≡ true → asked_from f n (flag ∷ flags) ≡ f n ∷ asked_from f (n + 1) flags
unfolding asked_from
asked_on f n true flags e = refl
asked_on f n false flags e = cc

pub asked_off : (f : ℕ → Tri) (n : ℕ) (flag : Bool) (flags : List Bool) → flag ≡ false → asked_from f n (flag ∷ flags) ≡ asked_from f (n + 1) flags
unfolding asked_from
asked_off f n true flags e = cc
asked_off f n false flags e = refl

filter_on : (g : ℕ → Bool) (n : ℕ) (more : List ℕ) → g n ≡ true → length (filter g (n ∷ more)) ≡ suc (length (filter g more))
filter_on g n more e = ap (λ b. length (cond b (n ∷ filter g more) (filter g more))) e

filter_off : (g : ℕ → Bool) (n : ℕ) (more : List ℕ) → g n ≡ false → length (filter g (n ∷ more)) ≡ length (filter g more)
filter_off g n more e = ap (λ b. length (cond b (n ∷ filter g more) (filter g more))) e

counted : (g : ℕ → Bool) (f : ℕ → Tri) (n : ℕ) (flags : List Bool) → ((i : ℕ) → i < length flags → g (n + i) ≡ get_or flags i false)
    → length (filter g (range_with_len n (length flags))) ≡ length (asked_from f n flags)
unfolding asked_from
counted g f n [] h = refl
counted g f n (true ∷ flags) h =
    let here : n + 0 ≡ n = omega arith in
    filter_on g n (range_with_len (n + 1) (length flags)) (ap g (sym here) ∙ h 0 (omega arith))
    ∙ ap suc (counted g f (n + 1) flags (λ i lt. let next : n + 1 + i ≡ n + suc i = omega arith in ap g next ∙ h (suc i) (omega arith)))
counted g f n (false ∷ flags) h =
    let here : n + 0 ≡ n = omega arith in
    filter_off g n (range_with_len (n + 1) (length flags)) (ap g (sym here) ∙ h 0 (omega arith))
    ∙ counted g f (n + 1) flags (λ i lt. let next : n + 1 + i ≡ n + suc i = omega arith in ap g next ∙ h (suc i) (omega arith))

allows_from : (f : ℕ → Tri) (n : ℕ) (flags xs values : List Bool) → length values ≡ length flags → length (asked_from f n flags) ≡ length xs
    → ((i : ℕ) → i < length flags → get_or flags i false ≡ true → Allows (f (n + i)) (get_or (given flags xs values) i false)) → Both Allows (asked_from f n flags) xs
unfolding asked_from
allows_from f n [] [] values long same h = tt
allows_from f n [] (x ∷ xs) values long same h = absurd (omega (arith, same))
allows_from f n (true ∷ flags) xs [] long same h = absurd (omega (arith, long))
allows_from f n (false ∷ flags) xs [] long same h = absurd (omega (arith, long))
allows_from f n (true ∷ flags) [] (v ∷ values) long same h = absurd (omega (arith, same))
allows_from f n (true ∷ flags) (x ∷ xs) (v ∷ values) long same h =
    let here : n + 0 ≡ n = omega arith in (
      subst (λ (m : ℕ). Allows (f m) x) here (h 0 (omega arith) refl),
      allows_from f (n + 1) flags xs values (omega (arith, long)) (omega (arith, same))
          (λ i lt e. let next : n + suc i ≡ n + 1 + i = omega arith in subst (λ (m : ℕ). Allows (f m) (get_or (given flags xs values) i false)) next (h (suc i) (omega arith) e)),
    )
allows_from f n (false ∷ flags) xs (v ∷ values) long same h =
    allows_from f (n + 1) flags xs values (omega (arith, long)) same
    (λ i lt e. let next : n + suc i ≡ n + 1 + i = omega arith in subst (λ (m : ℕ). Allows (f m) (get_or (given flags xs values) i false)) next (h (suc i) (omega arith) e))

-- They allow inputs that give each variable a value that is allowed there.
pub asked_allow : (f : ℕ → Tri) (flags xs values : List Bool) → length values ≡ length flags → length xs ≡ length (input_variables flags)
    → ((i : ℕ) → Allows (f i) (get_or (given flags xs values) i false)) → Both Allows (asked_from f 0 flags) xs
asked_allow f flags xs values long all h =
    let count = counted (λ v. get_or flags v false) f 0 flags (λ i lt. let none : 0 + i ≡ i = omega arith in ap (λ v. get_or flags v false) none) in
    allows_from f 0 flags xs values long (sym count ∙ sym all)
    (λ i lt e. let none : i ≡ 0 + i = omega arith in subst (λ (m : ℕ). Allows (f m) (get_or (given flags xs values) i false)) none (h i))

-- ---- one variable after the other

pub asked_more : (f : ℕ → Tri) (flags : List Bool) (n : ℕ) (done all : List Tri) → n < length flags → get_or flags n false ≡ true
    → done ++ asked_from f n (drop n flags) ≡ all → (done ++ f n ∷ []) ++ asked_from f (n + 1) (drop (n + 1) flags) ≡ all
asked_more f flags n done all lt on e =
    append_assoc done (f n ∷ []) (asked_from f (n + 1) (drop (n + 1) flags))
    ∙ ap (λ rest. done ++ rest) (sym (ap (asked_from f n) (drop_more flags n false lt) ∙ asked_on f n (get_or flags n false) (drop (n + 1) flags) on))
    ∙ e

pub asked_past : (f : ℕ → Tri) (flags : List Bool) (n : ℕ) (done all : List Tri) → n < length flags → get_or flags n false ≡ false
    → done ++ asked_from f n (drop n flags) ≡ all → done ++ asked_from f (n + 1) (drop (n + 1) flags) ≡ all
asked_past f flags n done all lt off e =
    ap (λ rest. done ++ rest) (sym (ap (asked_from f n) (drop_more flags n false lt) ∙ asked_off f n (get_or flags n false) (drop (n + 1) flags) off)) ∙ e

pub asked_end : (f : ℕ → Tri) (flags : List Bool) (n : ℕ) (done all : List Tri) → length flags ≤ n → done ++ asked_from f n (drop n flags) ≡ all → done ≡ all
unfolding asked_from
asked_end f flags n done all le e = sym (append-nil done) ∙ ap (λ (rest : List Bool). done ++ asked_from f n rest) (sym (drop_all n flags le)) ∙ e

-- ---- the inputs that are asked about

not_listed : (listed : List ℕ) (var : ℕ) → list_any (λ v. v == var) listed ≡ false → Contains listed var → ⊥
not_listed listed var e c = let found = list_any_at (λ v. v == var) listed c.0 var c.1 (eq-eqb _ _ c.2) in cc

known_same : (x y : Bool) → y ≡ x → three_allows (three_known x) 0 y
known_same true y e = e
known_same false y e = e

input_allows : (listed : Bool) (stored value : Bool) → (listed ≡ false → value ≡ stored) → Allows (cond listed Unsure (three_known stored)) value
input_allows true stored value same = (tt, λ _. tt)
input_allows false stored value same = (tt, λ _. known_same stored value (same refl))

pub all_asked : (q : RunQuestion) (vars : List Var) (inputs : List Tri) → vars ≡ q.program.decls.vars → length q.state.held.values ≡ length q.program.decls.vars
    → inputs ≡ asked_from (input_value q) 0 (map is_input vars) → AreAsked q inputs
unfolding diagram_of
all_asked q vars inputs same long is xs gives =
    let flags = map is_input q.program.decls.vars in
    let values = q.state.held.values in
    subst (λ (known : List Tri). Both Allows known xs) (sym (is ∙ ap (λ (vs : List Var). asked_from (input_value q) 0 (map is_input vs)) same))
    (asked_allow (input_value q) flags xs values (long ∙ sym (length-map q.program.decls.vars is_input)) gives.all
    (λ i. input_allows (list_any (λ v. v == i) q.listed) (get_or values i false) (get_or (given flags xs values) i false) (λ e. gives.stored i (not_listed q.listed i e))))
