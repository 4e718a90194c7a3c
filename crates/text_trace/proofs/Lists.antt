-- Lists that are gone through place by place.
use Rattle.std.proofs.Common.{◌≡◌, ◌∙◌, ◌+◌, ◌-◌, ◌<◌, ◌≤◌, ◌++◌, ◌∷◌, [], ℕ, suc, zero, Bool, true, false, List, Some, if◌then◌else◌, inl, inr, refl, sym, ap, arith, length, add-one, get_or, set, take, drop, take_all, map, slice_get}
use Rattle.std.specs.Prelude.{slice_index_or}
use Rattle.std.specs.List.{count_by, filter, list_all}
use Rattle.std.proofs.lemmas.Bool.{cases_Bool, and_from, and_right, and_parts}
use Rattle.std.proofs.lemmas.List.Sums.{count_by_more_no, count_by_more_yes}
use Rattle.std.proofs.lemmas.Option.{same_Some}
use Rattle.diagram_declarations.specs.declared.decls.Var.{Var}
use Rattle.text_trace.specs.Stimulus.{given_by}
use Rattle.text_trace.specs.Room.{chosen}
use Rattle.text_trace.specs.Trace.{values_of}

-- ---- counts

grows : {A : Type 0} (p : A → Bool) (xs : List A) (d : A) (m k : ℕ) → m + k ≤ length xs → count_by p (take m xs) ≤ count_by p (take (m + k) xs)
grows p xs d m zero h =
    let same : m + 0 ≡ m = omega arith in
    omega (arith, ap (λ j. count_by p (take j xs)) same)
grows p xs d m (suc k) h =
    let before = grows p xs d m k (omega (arith, h)) in
    let within : m + k < length xs = omega (arith, h) in
    let same : m + suc k ≡ (m + k) + 1 = omega arith in
    elim (cases_Bool (p (get_or xs (m + k) d))) [
      | inl holds ↦ omega (arith, before, count_by_more_yes p xs (m + k) d within holds, ap (λ j. count_by p (take j xs)) same)
      | inr lacks ↦ omega (arith, before, count_by_more_no p xs (m + k) d within lacks, ap (λ j. count_by p (take j xs)) same)
    ]

-- before an element that is counted there are fewer than in all
pub count_below : {A : Type 0} (p : A → Bool) (xs : List A) (i : ℕ) (d : A) → i < length xs → p (get_or xs i d) ≡ true → count_by p (take i xs) < count_by p xs
count_below p xs i d h holds =
    let k = length xs - (i + 1) in
    let later = grows p xs d (i + 1) k (omega (arith, h)) in
    let all : take ((i + 1) + k) xs ≡ xs = take_all ((i + 1) + k) xs (omega (arith, h)) in
    omega (arith, later, count_by_more_yes p xs i d h holds, ap (count_by p) all)

-- ---- one place

pub mark_at : {A B : Type 0} (f : A → B) (xs : List A) (i : ℕ) (x : A) → i < length xs → x ≡ get_or xs i x → slice_get (map f xs) i ≡ Some (f x)
mark_at f [] i x h e = absurd (omega (arith, h))
mark_at f (a ∷ xs) zero x h e = ap (λ y. Some (f y)) (sym e)
mark_at f (a ∷ xs) (suc i) x h e = mark_at f xs i x (omega (arith, h)) e

pub some_at : {A : Type 0} (xs : List A) (i : ℕ) (x : A) → i < length xs → x ≡ get_or xs i x → slice_get xs i ≡ Some x
some_at [] i x h e = absurd (omega (arith, h))
some_at (a ∷ xs) zero x h e = ap (λ y. Some y) (sym e)
some_at (a ∷ xs) (suc i) x h e = some_at xs i x (omega (arith, h)) e

pub there_or : {A : Type 0} (xs : List A) (i : ℕ) (d : A) → i < length xs → slice_get xs i ≡ Some (slice_index_or xs i d)
there_or [] i d h = absurd (omega (arith, h))
there_or (a ∷ xs) zero d h = refl
there_or (a ∷ xs) (suc i) d h = there_or xs i d (omega (arith, h))

-- ---- marked elements

pub chosen_more : {A : Type 0} (marks : List Bool) (xs : List A) (i : ℕ) (m : Bool) (x : A) → slice_get marks i ≡ Some m → slice_get xs i ≡ Some x
    → chosen (take (suc i) marks) xs ≡ chosen (take i marks) xs ++ (if m then x ∷ [] else [])
chosen_more [] xs i m x e g = cc
chosen_more (b ∷ marks) [] i m x e g = cc
chosen_more (true ∷ marks) (y ∷ xs) zero true x e g = ap (λ z. z ∷ []) (same_Some _ _ g)
chosen_more (true ∷ marks) (y ∷ xs) zero false x e g = let bad : true ≡ false = same_Some _ _ e in cc
chosen_more (false ∷ marks) (y ∷ xs) zero true x e g = let bad : false ≡ true = same_Some _ _ e in cc
chosen_more (false ∷ marks) (y ∷ xs) zero false x e g = refl
chosen_more (true ∷ marks) (y ∷ xs) (suc i) m x e g = ap (λ l. y ∷ l) (chosen_more marks xs i m x e g)
chosen_more (false ∷ marks) (y ∷ xs) (suc i) m x e g = chosen_more marks xs i m x e g

pub chosen_apart : {A : Type 0} (marks : List Bool) (xs : List A) (i : ℕ) (x : A) → slice_get marks i ≡ Some true → slice_get xs i ≡ Some x
    → chosen marks xs ≡ chosen (take i marks) xs ++ x ∷ chosen (drop (suc i) marks) (drop (suc i) xs)
chosen_apart [] xs i x e g = cc
chosen_apart (b ∷ marks) [] i x e g = cc
chosen_apart (true ∷ marks) (y ∷ xs) zero x e g = ap (λ z. z ∷ chosen marks xs) (same_Some _ _ g)
chosen_apart (false ∷ marks) (y ∷ xs) zero x e g = let bad : false ≡ true = same_Some _ _ e in cc
chosen_apart (true ∷ marks) (y ∷ xs) (suc i) x e g = ap (λ l. y ∷ l) (chosen_apart marks xs i x e g)
chosen_apart (false ∷ marks) (y ∷ xs) (suc i) x e g = chosen_apart marks xs i x e g

pub chosen_next : {A : Type 0} (marks : List Bool) (xs : List A) (i : ℕ) (m : Bool) (x : A) → slice_get marks i ≡ Some m → slice_get xs i ≡ Some x
    → chosen (take (i + 1) marks) xs ≡ chosen (take i marks) xs ++ (if m then x ∷ [] else [])
chosen_next marks xs i m x e g = rw (add-one i) (chosen_more marks xs i m x e g)

pub chosen_filter : {A : Type 0} (p : A → Bool) (xs : List A) → chosen (map p xs) xs ≡ filter p xs
chosen_filter p [] = refl
chosen_filter p (x ∷ xs) = elim (cases_Bool (p x)) [
  | inl holds ↦ rw holds (ap (λ l. x ∷ l) (chosen_filter p xs))
  | inr lacks ↦ rw lacks (chosen_filter p xs)
]

pub chosen_values : (p : Var → Bool) (vars : List Var) (values : List Bool) → chosen (map p vars) values ≡ values_of p vars values
chosen_values p [] values = refl
chosen_values p (v ∷ vars) [] = refl
chosen_values p (v ∷ vars) (b ∷ values) = elim (cases_Bool (p v)) [
  | inl holds ↦ rw holds (ap (λ l. b ∷ l) (chosen_values p vars values))
  | inr lacks ↦ rw lacks (chosen_values p vars values)
]

-- ---- an image

pub given_more : (columns : List ℕ) (bits image : List Bool) (i c : ℕ) (b : Bool) → slice_get columns i ≡ Some c → slice_get bits i ≡ Some b
    → given_by (take (suc i) columns) bits image ≡ set (given_by (take i columns) bits image) c b
given_more [] bits image i c b e g = cc
given_more (k ∷ columns) [] image i c b e g = cc
given_more (k ∷ columns) (a ∷ bits) image zero c b e g = rw (same_Some _ _ e, same_Some _ _ g) refl
given_more (k ∷ columns) (a ∷ bits) image (suc i) c b e g = given_more columns bits (set image k a) i c b e g

pub given_next : (columns : List ℕ) (bits image : List Bool) (i c : ℕ) (b : Bool) → slice_get columns i ≡ Some c → slice_get bits i ≡ Some b
    → given_by (take (i + 1) columns) bits image ≡ set (given_by (take i columns) bits image) c b
given_next columns bits image i c b e g = rw (add-one i) (given_more columns bits image i c b e g)

-- ---- a test of all

pub all_more : {A : Type 0} (p : A → Bool) (xs : List A) (i : ℕ) (x : A) → slice_get xs i ≡ Some x → p x ≡ true → list_all p (take i xs) ≡ true → list_all p (take (suc i) xs) ≡ true
all_more p [] i x e h k = cc
all_more p (a ∷ xs) zero x e h k = and_from (p a) true (ap p (same_Some _ _ e) ∙ h) refl
all_more p (a ∷ xs) (suc i) x e h k = let parts = and_parts (p a) (list_all p (take i xs)) k in and_from (p a) (list_all p (take (suc i) xs)) parts.0 (all_more p xs i x e h parts.1)

pub all_not : {A : Type 0} (p : A → Bool) (xs : List A) (i : ℕ) (x : A) → slice_get xs i ≡ Some x → p x ≡ false → list_all p xs ≡ false
all_not p [] i x e h = cc
all_not p (a ∷ xs) zero x e h = let first : p a ≡ false = ap p (same_Some _ _ e) ∙ h in rw first refl
all_not p (a ∷ xs) (suc i) x e h = and_right (p a) (list_all p xs) (all_not p xs i x e h)
