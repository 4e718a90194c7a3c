-- The variables of two programs, numbered jointly, so that inputs that belong together have one number.
use Rattle.std.proofs.Common.{◌≡◌, ◌∙◌, ap, ap₂, arith, refl, subst, sym, ℕ, zero, suc, ◌+◌, ◌<◌, ◌≤◌, ◌==◌, ◌&&◌, Bool, true, false, List, [], ◌∷◌, ◌++◌, Option, Some, None, Result, Ok, Err, IfOk, cond, drop, drop-cons, find, get_or, length, map}
use Rattle.std.specs.Prelude.{slice_get}
use Rattle.std.specs.List.{All, range_with_len}
use Rattle.std.proofs.lemmas.Bool.{eq-eqb}
use Rattle.std.proofs.lemmas.Bool.Decides.{nat_tests}
use Rattle.std.proofs.lemmas.List.{drop_all, get_or-append-add, get_or_append_left, length-map}
use Rattle.std.proofs.lemmas.List.FromFn.{get_or-map-range_with_len, length-map-range_with_len}
use Rattle.std.proofs.lemmas.Option.{get_or_from_slice_get, slice_get_within}
use Rattle.diagram_declarations.specs.Decls.{is_input}
use Rattle.diagram_program.specs.Program.{Drawing}
use Rattle.assume_truth.specs.Truth.{is_allowed}
use Rattle.assume_places.specs.Places.{IsJoint, values_at}
use Rattle.invariant_cases.specs.Assuming.{Assumed, stored_inputs}
use Rattle.diff_matching.specs.declared.matching.Pair.{Pair}
use Rattle.diff_matching.specs.Matching.{AreSame, Matching}
use Rattle.diff_matching.specs.Suited.{AreOnce, IsSuited}
use Rattle.st_expression.specs.declared.expression.Expression.{Expression}
use Rattle.assume_both.specs.Both.{AreVariablesOf, CannotBeTrueInBoth, MayBeTrueInBoth, joint_number}

some_same : {X : Type 0} (x y : X) (o : Option X) → o ≡ Some x → o ≡ Some y → x ≡ y
some_same x y o e f = cc

off_on : false ≡ true → ⊥
off_on e = cc

some_none : {X : Type 0} (x : X) (o : Option X) → o ≡ Some x → o ≡ None → ⊥
some_none x o e f = cc

pub each_ok : {X E : Type 0} (r : Result X E) (P Q : X → Type 0) → ((x : X) → P x → Q x) → IfOk r P → IfOk r Q
each_ok (Ok x) P Q then known = then x known
each_ok (Err e) P Q then known = tt

-- ---- the pair of an input

once_behind : (p : Pair) (pairs : List Pair) → AreOnce (p ∷ pairs) → AreOnce pairs
once_behind p pairs once i j d less within = once (suc i) (suc j) d (omega (arith, less)) (omega (arith, within))

test_true : (b : Bool) (x : Pair) (o : Option Pair) → b ≡ true → cond b (Some x) o ≡ Some x
test_true true x o h = refl
test_true false x o h = absurd (off_on h)

test_false : (b : Bool) (x : Pair) (o : Option Pair) → (b ≡ true → ⊥) → cond b (Some x) o ≡ o
test_false true x o h = absurd (h refl)
test_false false x o h = refl

same_number : (x y : ℕ) → (x == y) ≡ true → x ≡ y
same_number x y h = grind (arith, nat_tests)

-- where no number of NEW is in two pairs, that of a pair is found there
paired : (pairs : List Pair) → AreOnce pairs → (n : ℕ) (x : Pair) → slice_get pairs n ≡ Some x → find (λ y. y.new == x.new) pairs ≡ Some x
paired [] once n x at = cc
paired (p ∷ pairs) once zero x at =
    let same : p ≡ x = some_same p x (Some p) refl at in
    test_true (p.new == x.new) p (find (λ y. y.new == x.new) pairs) (eq-eqb p.new x.new (ap (λ (y : Pair). y.new) same)) ∙ ap (λ (y : Pair). Some y) same
paired (p ∷ pairs) once (suc n) x at =
    let within : n < length pairs = slice_get_within pairs n x at in
    let there : get_or pairs n p ≡ x = get_or_from_slice_get pairs n x p at in
    test_false (p.new == x.new) p (find (λ y. y.new == x.new) pairs)
    (λ is. once 0 (suc n) p (omega arith) (omega (arith, within)) (same_number p.new x.new is ∙ ap (λ (y : Pair). y.new) (sym there)))
    ∙ paired pairs (once_behind p pairs once) n x at

-- a number that is found is that of a pair
found_pair : (pairs : List Pair) (var : ℕ) (x : Pair) → find (λ y. y.new == var) pairs ≡ Some x → (n : ℕ) × (slice_get pairs n ≡ Some x) × (x.new ≡ var)
found_pair [] var x e = cc
found_pair (p ∷ pairs) var x e = by_test (p.new == var) refl e (λ found. found_pair pairs var x found)
  where
    by_test : (b : Bool) → (p.new == var) ≡ b → cond b (Some p) (find (λ y. y.new == var) pairs) ≡ Some x
        → (find (λ y. y.new == var) pairs ≡ Some x → (n : ℕ) × (slice_get pairs n ≡ Some x) × (x.new ≡ var))
        → (n : ℕ) × (slice_get (p ∷ pairs) n ≡ Some x) × (x.new ≡ var)
    by_test true is e more = (zero, e, ap (λ (y : Pair). y.new) (some_same x p (Some p) e refl) ∙ same_number p.new var is)
    by_test false is e more = let there = more e in (suc there.0, there.1, there.2)

-- a search that stops at a pair, or passes all of them
pub found_here : (p : Pair → Bool) (xs : List Pair) (i : ℕ) (x : Pair) → i < length xs → x ≡ get_or xs i x → p x ≡ true
    → find p (drop i xs) ≡ find p xs → find p xs ≡ Some x
found_here p xs i x within at hit same =
    let here : find p (x ∷ drop (suc i) xs) ≡ Some x = test_true (p x) x (find p (drop (suc i) xs)) hit in
    sym same ∙ ap (find p) (drop-cons xs i x within) ∙ ap (λ y. find p (y ∷ drop (suc i) xs)) (sym at) ∙ here

pub found_none : (p : Pair → Bool) (xs : List Pair) (i : ℕ) → length xs ≤ i → find p (drop i xs) ≡ find p xs → find p xs ≡ None
found_none p xs i past same = sym same ∙ ap (find p) (drop_all i xs past)

-- ---- values that are read

-- two lists of numbers that read the same, member by member
same_reading : (xs ys : List Bool) (f : ℕ → ℕ) (numbers : List ℕ) → All (λ n. get_or xs (f n) false ≡ get_or ys n false) numbers
    → map (λ n. get_or xs n false) (map f numbers) ≡ map (λ n. get_or ys n false) numbers
same_reading xs ys f [] each = refl
same_reading xs ys f (n ∷ numbers) each =
    ap₂ (λ b bs. b ∷ bs) (each 0 0 (omega arith)) (same_reading xs ys f numbers (λ k d within. each (suc k) d (omega (arith, within))))

plain_reading : (xs ys : List Bool) (numbers : List ℕ) → All (λ n. get_or xs n false ≡ get_or ys n false) numbers
    → map (λ n. get_or xs n false) numbers ≡ map (λ n. get_or ys n false) numbers
plain_reading xs ys [] each = refl
plain_reading xs ys (n ∷ numbers) each =
    ap₂ (λ b bs. b ∷ bs) (each 0 0 (omega arith)) (plain_reading xs ys numbers (λ k d within. each (suc k) d (omega (arith, within))))

weaker : (P Q : ℕ → Type 0) (numbers : List ℕ) → ((n : ℕ) → P n → Q n) → All P numbers → All Q numbers
weaker P Q numbers then all k d within = then (get_or numbers k d) (all k d within)

input_within : (flags : List Bool) (var : ℕ) → slice_get flags var ≡ Some true → var < length flags
input_within flags var at = slice_get_within flags var true at

and_true : (x y : Bool) → (x && y) ≡ true → (x ≡ true) × (y ≡ true)
and_true true y h = (refl, h)
and_true false y h = absurd (off_on h)

module _ (p q : Drawing) (m : Matching) (suited : IsSuited m p q) where
  abbrev behind : ℕ
  behind = length p.decls.vars

  abbrev number : ℕ → ℕ
  number = joint_number m.inputs behind

  -- the inputs of a pair are variables of the programs
  pair_within : (n : ℕ) (x : Pair) → slice_get m.inputs n ≡ Some x → (x.old < length p.decls.vars) × (x.new < length q.decls.vars)
  pair_within n x at =
      let both = suited.inputs n x (slice_get_within m.inputs n x at) in
      let is = get_or_from_slice_get m.inputs n x x at in
      let old : slice_get (map is_input p.decls.vars) x.old ≡ Some true = subst (λ (y : Pair). slice_get (map is_input p.decls.vars) y.old ≡ Some true) is both.0 in
      let new : slice_get (map is_input q.decls.vars) x.new ≡ Some true = subst (λ (y : Pair). slice_get (map is_input q.decls.vars) y.new ≡ Some true) is both.1 in
      (omega (arith, input_within (map is_input p.decls.vars) x.old old, length-map p.decls.vars is_input), omega (arith, input_within (map is_input q.decls.vars) x.new new, length-map q.decls.vars is_input))

  number_of_pair : (n : ℕ) (x : Pair) → slice_get m.inputs n ≡ Some x → number x.new ≡ x.old
  number_of_pair n x at = ap (λ (o : Option Pair). elim o [ Some y ↦ y.old | None ↦ behind + x.new ]) (paired m.inputs suited.inputs_once n x at)

  -- ---- from values of all to those of each program

  abbrev of_new : List Bool → List Bool
  of_new values = map (λ var. get_or values (number var) false) (range_with_len 0 (length q.decls.vars))

  new_value : (values : List Bool) (var : ℕ) → var < length q.decls.vars → get_or (of_new values) var false ≡ get_or values (number var) false
  new_value values var within = get_or-map-range_with_len (λ n. get_or values (number n) false) 0 (length q.decls.vars) var var false within (omega arith)

  same_values : (values : List Bool) → AreSame false m.inputs values (of_new values)
  same_values values n x at =
      ap (λ i. get_or values i false) (sym (number_of_pair n x at)) ∙ sym (new_value values x.new (pair_within n x at).1)

  module _ (a b : Assumed) (old_inputs : AreVariablesOf p a.inputs) (new_inputs : AreVariablesOf q b.inputs) (joint : Option Expression)
      (places : List ℕ) (at : places ≡ map number b.inputs) (placed : IsJoint a.expression a.inputs b.expression places joint) where
    is : IsJoint a.expression a.inputs b.expression (map number b.inputs) joint
    is = subst (λ (ps : List ℕ). IsJoint a.expression a.inputs b.expression ps joint) at placed

    pub some_together : (values : List Bool) × (is_allowed joint values ≡ true) → MayBeTrueInBoth m a b
    some_together (values, true_there) =
        let both = and_true (is_allowed a.expression (values_at a.inputs values)) (is_allowed b.expression (values_at (map number b.inputs) values)) (sym (is values) ∙ true_there) in
        let read : values_at (map number b.inputs) values ≡ stored_inputs b.inputs (of_new values) =
        same_reading values (of_new values) number b.inputs (weaker (λ var. var < length q.decls.vars) (λ n. get_or values (number n) false ≡ get_or (of_new values) n false) b.inputs (λ var within. sym (new_value values var within)) new_inputs) in
        (values, of_new values, same_values values, both.0, subst (λ (xs : List Bool). is_allowed b.expression xs ≡ true) read both.1)

    -- ---- from values of each program to those of all

    abbrev all_values : List Bool → List Bool → List Bool
    all_values old new = map (λ var. get_or old var false) (range_with_len 0 behind) ++ new

    length_front : (old : List Bool) → length (map (λ var. get_or old var false) (range_with_len 0 behind)) ≡ behind
    length_front old = length-map-range_with_len (λ var. get_or old var false) 0 behind

    in_front : (old new : List Bool) (var : ℕ) → var < behind → get_or (all_values old new) var false ≡ get_or old var false
    in_front old new var within =
        get_or_append_left (map (λ v. get_or old v false) (range_with_len 0 behind)) new false var (omega (arith, within, length_front old))
        ∙ get_or-map-range_with_len (λ v. get_or old v false) 0 behind var var false within (omega arith)

    in_back : (old new : List Bool) (var : ℕ) → get_or (all_values old new) (behind + var) false ≡ get_or new var false
    in_back old new var =
        ap (λ n. get_or (all_values old new) (n + var) false) (sym (length_front old))
        ∙ get_or-append-add (map (λ v. get_or old v false) (range_with_len 0 behind)) new var false

    read_new : (old new : List Bool) → AreSame false m.inputs old new → (var : ℕ) → get_or (all_values old new) (number var) false ≡ get_or new var false
    read_new old new same var = by_pair (find (λ x. x.new == var) m.inputs) refl
      where
        by_pair : (o : Option Pair) → find (λ x. x.new == var) m.inputs ≡ o
            → get_or (all_values old new) (elim o [ Some x ↦ x.old | None ↦ behind + var ]) false ≡ get_or new var false
        by_pair None e = in_back old new var
        by_pair (Some x) e =
            let there = found_pair m.inputs var x e in
            in_front old new x.old (pair_within there.0 x there.1).0 ∙ same there.0 x there.1 ∙ ap (λ n. get_or new n false) there.2

    pub none_together : ((values : List Bool) → is_allowed joint values ≡ false) → CannotBeTrueInBoth m a b
    none_together none old new same =
        let values = all_values old new in
        let of_old : values_at a.inputs values ≡ stored_inputs a.inputs old =
        plain_reading values old a.inputs (weaker (λ var. var < length p.decls.vars) (λ n. get_or values n false ≡ get_or old n false) a.inputs (λ var within. in_front old new var within) old_inputs) in
        let of_both : values_at (map number b.inputs) values ≡ stored_inputs b.inputs new =
        same_reading values new number b.inputs (λ k d within. read_new old new same (get_or b.inputs k d)) in
        ap₂ (λ x y. x && y) (ap (is_allowed a.expression) (sym of_old)) (ap (is_allowed b.expression) (sym of_both)) ∙ sym (is values) ∙ none values
