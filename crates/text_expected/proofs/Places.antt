-- The place at which two lists of records are, and what is read there.
use Rattle.std.proofs.Common.{◌≡◌, ◌∙◌, ◌+◌, ◌++◌, ◌∷◌, [], ℕ, Bool, true, false, List, Option, Some, ap, append_assoc, arith, codes, decimal, length, length-append, refl, slice_get, subst, sym, take}
use Rattle.std.specs.Borrow.{Bor}
use Rattle.std.proofs.lemmas.Option.{same_Some}
use Rattle.csv.specs.Records.{fields_of}
use Rattle.csv.specs.declared.reader.Reader.{Reader}
use Rattle.io_text.specs.Left.{Fields, Left, TakesFirst}
use Rattle.text_expected.specs.declared.comparing.Both.{Both}
use Rattle.text_expected.specs.declared.comparing.Step.{Step}
use Rattle.text_expected.specs.declared.comparing.Step.TheVariants as step
use Rattle.text_expected.specs.Expected.{DiffersAt, row_line}
use Rattle.text_expected.specs.Stepping.{IsAt, IsStepOf, Steps, taken}

at_end : (front xs : List Fields) → slice_get (front ++ xs) (length front) ≡ slice_get xs 0
at_end [] xs = refl
at_end (f ∷ front) xs = at_end front xs

to_end : (front xs : List Fields) → take (length front) (front ++ xs) ≡ front
to_end [] [] = refl
to_end [] (x ∷ xs) = refl
to_end (f ∷ front) xs = ap (λ l. f ∷ l) (to_end front xs)

-- one record more is the same
pub at_more : (all every : List Fields) (n : ℕ) (b c : Both) → IsAt all every n b
    → ((xs ys : List Fields) → Left b.expected xs → Left b.found ys → Steps step.Same xs ys c) → IsAt all every (n + 1) c
at_more all every n b c (front, xs, ys, one, other, long, left, rest) steps =
    let (x, more, behind, same, too, after, next) = steps xs ys left rest in (
      front ++ x ∷ [],
      more,
      behind,
      one ∙ ap (λ l. front ++ l) same ∙ sym (append_assoc front (x ∷ []) more),
      other ∙ ap (λ l. front ++ l) too ∙ sym (append_assoc front (x ∷ []) behind),
      omega (arith, long, length-append front (x ∷ [])),
      after,
      next,
    )

-- there are no more
pub at_last : (all every : List Fields) (n : ℕ) (b c : Both) → IsAt all every n b
    → ((xs ys : List Fields) → Left b.expected xs → Left b.found ys → Steps step.Ended xs ys c) → all ≡ every
at_last all every n b c (front, xs, ys, one, other, long, left, rest) steps =
    let (none, too) = steps xs ys left rest in
    one ∙ ap (λ l. front ++ l) (none ∙ sym too) ∙ sym other

-- the next ones differ
pub at_difference : (all every : List Fields) (n : ℕ) (b c : Both) (is too : Bool) → IsAt all every n b
    → ((xs ys : List Fields) → Left b.expected xs → Left b.found ys → Steps (step.Differs is too) xs ys c)
    → DiffersAt all every n × (slice_get all n ≡ taken is (fields_of c.expected_row)) × (slice_get every n ≡ taken too (fields_of c.found_row))
at_difference all every n b c is too (front, xs, ys, one, other, long, left, rest) steps =
    let (differ, mine, others) = steps xs ys left rest in
    let first : slice_get all n ≡ slice_get xs 0 = ap (λ l. slice_get l n) one ∙ ap (slice_get (front ++ xs)) (sym long) ∙ at_end front xs in
    let second : slice_get every n ≡ slice_get ys 0 = ap (λ l. slice_get l n) other ∙ ap (slice_get (front ++ ys)) (sym long) ∙ at_end front ys in
    let before : take n all ≡ front = ap (take n) one ∙ ap (λ k. take k (front ++ xs)) (sym long) ∙ to_end front xs in
    let behind : take n every ≡ front = ap (take n) other ∙ ap (λ k. take k (front ++ ys)) (sym long) ∙ to_end front ys in (
      record { before = before ∙ sym behind; other = λ e. differ (sym first ∙ e ∙ second) },
      first ∙ mine,
      second ∙ others,
    )

-- ---- what is read of both

pub first_read : (xs : List Fields) (found : Bool) (fields : Fields) (new : Reader (Bor (List ℕ))) → TakesFirst xs found fields new → slice_get xs 0 ≡ taken found fields
first_read [] found fields new h = rw h refl
first_read (x ∷ xs) found fields new (is, same, left) = rw is (ap (λ f. Some f) (sym same))

pub none_read : (xs : List Fields) (found : Bool) (fields : Fields) (new : Reader (Bor (List ℕ))) → found ≡ false → TakesFirst xs found fields new → xs ≡ []
none_read [] found fields new e h = refl
none_read (x ∷ xs) found fields new e h = let bad : true ≡ false = sym h.0 ∙ e in cc

pub one_read : (xs : List Fields) (found : Bool) (fields : Fields) (new : Reader (Bor (List ℕ))) → found ≡ true → TakesFirst xs found fields new
    → (rest : List Fields) × (xs ≡ fields ∷ rest) × Left new rest
one_read [] found fields new e h = let bad : true ≡ false = sym e ∙ h in cc
one_read (x ∷ xs) found fields new e (is, same, left) = (xs, ap (λ f. f ∷ xs) (sym same), left)

same_taken : (one other : Bool) (f g : Fields) → taken one f ≡ taken other g → one ≡ other
same_taken true true f g e = refl
same_taken true false f g e = cc
same_taken false true f g e = cc
same_taken false false f g e = refl

-- both have a record
pub of_two : (s : Step) (xs ys : List Fields) (one other : Bool) (f g : Fields) (b : Both) → one ≡ true → other ≡ true → TakesFirst xs one f b.expected → TakesFirst ys other g b.found
    → fields_of b.expected_row ≡ f → fields_of b.found_row ≡ g → IsStepOf s f g → Steps s xs ys b
of_two step.Same xs ys one other f g b is too first second mine others same =
    let (more, here, left) = one_read xs one f b.expected is first in
    let (rest, there, behind) = one_read ys other g b.found too second in
    (f, more, rest, here, there ∙ ap (λ x. x ∷ rest) (sym same), left, behind)
of_two step.Ended xs ys one other f g b is too first second mine others same = absurd same
of_two (step.Differs a c) xs ys one other f g b is too first second mine others (e1, e2, differ) = (
  λ e. differ (same_Some _ _ (sym (first_read xs one f b.expected first ∙ ap (λ x. taken x f) is) ∙ e ∙ (first_read ys other g b.found second ∙ ap (λ x. taken x g) too))),
  first_read xs one f b.expected first ∙ ap (λ x. taken x f) (is ∙ sym e1) ∙ ap (taken a) (sym mine),
  first_read ys other g b.found second ∙ ap (λ x. taken x g) (too ∙ sym e2) ∙ ap (taken c) (sym others),
)

-- one of them has one
pub of_one : (xs ys : List Fields) (one other : Bool) (f g : Fields) (b : Both) → (one ≡ other → ⊥) → TakesFirst xs one f b.expected → TakesFirst ys other g b.found
    → fields_of b.expected_row ≡ f → fields_of b.found_row ≡ g → Steps (step.Differs one other) xs ys b
of_one xs ys one other f g b apart first second mine others = (
  λ e. apart (same_taken one other f g (sym (first_read xs one f b.expected first) ∙ e ∙ first_read ys other g b.found second)),
  first_read xs one f b.expected first ∙ ap (taken one) (sym mine),
  first_read ys other g b.found second ∙ ap (taken other) (sym others),
)

-- the lines of what both have
pub told : (n : ℕ) (a b x y : Option Fields) (P : List ℕ → Type 0) → a ≡ x → b ≡ y
    → P (codes "row " ++ (decimal (n + 1) ++ (codes "\nexpected " ++ (row_line a ++ (codes "found " ++ row_line b)))))
    → P (codes "row " ++ (decimal (n + 1) ++ (codes "\nexpected " ++ (row_line x ++ (codes "found " ++ row_line y)))))
told n a b x y P e f h =
    subst (λ (v : Option Fields). P (codes "row " ++ (decimal (n + 1) ++ (codes "\nexpected " ++ (row_line x ++ (codes "found " ++ row_line v)))))) f
    (subst (λ (u : Option Fields). P (codes "row " ++ (decimal (n + 1) ++ (codes "\nexpected " ++ (row_line u ++ (codes "found " ++ row_line b)))))) e h)
