-- Each input is found by its name, at its place among the inputs.
use Rattle.std.proofs.Common.{◌≡◌, ◌∙◌, ◌+◌, ◌<◌, ◌++◌, ◌∷◌, [], ℕ, suc, Bool, true, false, List, Some, Option, append_assoc, ap, ap₂, arith, cond, filter, length, length-append, map, refl, slice_get, subst, sym, take}
use Rattle.std.specs.Prelude.{option_map, position}
use Rattle.std.specs.List.{AllByRecursion, IsDistinct, count_by, position_or_len, range_with_len}
use Rattle.std.specs.Option.{option_or}
use Rattle.std.specs.Str.{str_to_ascii_lowercase}
use Rattle.std.proofs.Math.Seq.{take-append_seam}
use Rattle.std.proofs.lemmas.Bool.{lt-ltb}
use Rattle.std.proofs.lemmas.Cmp.{nat_list_eq_equiv}
use Rattle.std.proofs.lemmas.List.Sums.{sum_by-append}
use Rattle.diagram_declarations.specs.declared.decls.Symbol.TheVariants as symbol
use Rattle.diagram_declarations.specs.declared.decls.Var.{Var}
use Rattle.diagram_declarations.specs.Decls.{Declared, find, is_input, names_of}
use Rattle.diagram_declarations.specs.Name.{same_letters}
use Rattle.text_runs.specs.Laws.{AreNamed}
use Rattle.text_trace.specs.Stimulus.{input_named}

-- ---- a list, cut at one of its elements

slice_get_seam : {A : Type 0} (before : List A) (x : A) (after : List A) → slice_get (before ++ x ∷ after) (length before) ≡ Some x
slice_get_seam [] x after = refl
slice_get_seam (y ∷ before) x after = slice_get_seam before x after

count_one : {A : Type 0} (p : A → Bool) (before : List A) (x : A) → p x ≡ true → count_by p (before ++ x ∷ []) ≡ count_by p before + 1
count_one p before x holds =
    sum_by-append (λ y. cond (p y) 1 0) before (x ∷ []) ∙ (let one : count_by p (x ∷ []) ≡ 1 = rw holds refl in ap (λ n. count_by p before + n) one)

count_none : {A : Type 0} (p : A → Bool) (before : List A) (x : A) → p x ≡ false → count_by p (before ++ x ∷ []) ≡ count_by p before
count_none p before x lacks =
    sum_by-append (λ y. cond (p y) 1 0) before (x ∷ [])
    ∙ (let none : count_by p (x ∷ []) ≡ 0 = rw lacks refl in ap (λ n. count_by p before + n) none ∙ (let same : count_by p before + 0 ≡ count_by p before = omega arith in same))

count_first : {A : Type 0} (p : A → Bool) (x : A) (after : List A) → p x ≡ true → count_by p (x ∷ after) ≡ suc (count_by p after)
count_first p x after holds =
    let one : count_by p (x ∷ []) ≡ 1 = rw holds refl in
    let parts : count_by p (x ∷ after) ≡ count_by p (x ∷ []) + count_by p after = sum_by-append (λ y. cond (p y) 1 0) (x ∷ []) after in
    omega (arith, parts, one)

count_less : {A : Type 0} (p : A → Bool) (x : A) (after : List A) → p x ≡ false → count_by p (x ∷ after) ≡ count_by p after
count_less p x after lacks =
    let none : count_by p (x ∷ []) ≡ 0 = rw lacks refl in
    let parts : count_by p (x ∷ after) ≡ count_by p (x ∷ []) + count_by p after = sum_by-append (λ y. cond (p y) 1 0) (x ∷ []) after in
    omega (arith, parts, none)

-- ---- the place of a name

same_word : (word : List ℕ) → same_letters word word ≡ true
same_word word = nat_list_eq_equiv.refl (str_to_ascii_lowercase word)

flipped : (a b : List ℕ) → same_letters a b ≡ same_letters b a
flipped a b = nat_list_eq_equiv.symm (str_to_ascii_lowercase a) (str_to_ascii_lowercase b)

abbrev name_of : Var → List ℕ
name_of v = v.name

-- what holds of all names holds of one
at_name : (P : List ℕ → Type 0) (before : List Var) (v : Var) (after : List Var) (others : List (List ℕ)) → AllByRecursion P (map name_of (before ++ v ∷ after) ++ others) → P v.name
at_name P [] v after others h = h.0
at_name P (x ∷ before) v after others h = at_name P before v after others h.1

-- no variable before it has its name
none_before : (before : List Var) (v : Var) (after : List Var) (others : List (List ℕ)) → IsDistinct same_letters (map name_of (before ++ v ∷ after) ++ others)
    → position_or_len (λ x. same_letters v.name x.name) (before ++ v ∷ after) ≡ length before
unfolding IsDistinct
none_before [] v after others h = rw (same_word v.name) refl
none_before (x ∷ before) v after others h =
    let other : same_letters v.name x.name ≡ false = flipped v.name x.name ∙ at_name (λ n. same_letters x.name n ≡ false) before v after others h.0 in
    let rest : 1 + position_or_len (λ y. same_letters v.name y.name) (before ++ v ∷ after) ≡ suc (length before) = omega (arith, none_before before v after others h.1) in
    rw other rest

placed : (before : List Var) (v : Var) (after : List Var) (others : List (List ℕ)) → IsDistinct same_letters (map name_of (before ++ v ∷ after) ++ others)
    → position (λ x. same_letters v.name x.name) (before ++ v ∷ after) ≡ Some (length before)
placed before v after others h =
    let within : length before < length (before ++ v ∷ after) = omega (arith, length-append before (v ∷ after)) in
    rw (none_before before v after others h, lt-ltb (length before) (length (before ++ v ∷ after)) within) refl

found : (d : Declared) (before : List Var) (v : Var) (after : List Var) → d.vars ≡ before ++ v ∷ after → IsDistinct same_letters (names_of d)
    → find d v.name ≡ Some (symbol.Var (length before))
found d before v after e h =
    let others = map (λ i. i.name) d.instances in
    let place : position (λ x. same_letters v.name x.name) d.vars ≡ Some (length before) =
    ap (position (λ x. same_letters v.name x.name)) e ∙ placed before v after others (subst (λ l. IsDistinct same_letters (map name_of l ++ others)) e h) in
    ap (λ at. option_or (option_map symbol.Var at) (option_map symbol.Instance (position (λ i. same_letters v.name i.name) d.instances))) place

-- an input is named by its own name
named_input : (d : Declared) (before : List Var) (v : Var) (after : List Var) → d.vars ≡ before ++ v ∷ after → IsDistinct same_letters (names_of d)
    → AreNamed d.vars → is_input v ≡ true → input_named d v.name ≡ Some (count_by is_input before)
named_input d before v after e h named holds =
    let there : slice_get d.vars (length before) ≡ Some v = ap (λ l. slice_get l (length before)) e ∙ slice_get_seam before v after in
    let front : take (length before) d.vars ≡ before = ap (take (length before)) e ∙ take-append_seam before (v ∷ after) in
    rw (named (length before) v there, found d before v after e h, there, holds, front) refl

-- ---- all of them

pub all_named : (d : Declared) (before after : List Var) → d.vars ≡ before ++ after → IsDistinct same_letters (names_of d) → AreNamed d.vars
    → map (input_named d) (map name_of (filter is_input after)) ≡ map Some (range_with_len (count_by is_input before) (count_by is_input after))
all_named d before [] e h named = refl
all_named d before (v ∷ after) e h named = by_kind (is_input v) refl (all_named d (before ++ v ∷ []) after (e ∙ sym (append_assoc before (v ∷ []) after)) h named)
  where
    by_kind : (b : Bool) → is_input v ≡ b
        → map (input_named d) (map name_of (filter is_input after)) ≡ map Some (range_with_len (count_by is_input (before ++ v ∷ [])) (count_by is_input after))
        → map (input_named d) (map name_of (filter is_input (v ∷ after))) ≡ map Some (range_with_len (count_by is_input before) (count_by is_input (v ∷ after)))
    by_kind true holds more =
        let asked : filter is_input (v ∷ after) ≡ v ∷ filter is_input after = rw holds refl in
        ap (λ l. map (input_named d) (map name_of l)) asked
        ∙ ap₂ (λ (x : Option ℕ) (l : List (Option ℕ)). x ∷ l) (named_input d before v after e h named holds)
        (more ∙ ap (λ n. map Some (range_with_len n (count_by is_input after))) (count_one is_input before v holds))
        ∙ ap (λ n. map Some (range_with_len (count_by is_input before) n)) (sym (count_first is_input v after holds))
    by_kind false lacks more =
        let asked : filter is_input (v ∷ after) ≡ filter is_input after = rw lacks refl in
        ap (λ l. map (input_named d) (map name_of l)) asked
        ∙ more
        ∙ ap (λ n. map Some (range_with_len n (count_by is_input after))) (count_none is_input before v lacks)
        ∙ ap (λ n. map Some (range_with_len (count_by is_input before) n)) (sym (count_less is_input v after lacks))
