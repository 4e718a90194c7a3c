-- How a number option reads.
use Rattle.std.proofs.Common.{◌≡◌, ◌∙◌, ℕ, true, false, List, Option, Some, None, Result, Ok, Err, ap, bytes_eq, find, is_some, option_and_then, option_map, refl, slice_get, sym}
use Rattle.std.specs.Str.Parse.{ParsesUnsigned}
use Rattle.clap.specs.Words.{Row, Text, TriesOne, first_of, one_of}
use Rattle.clap.specs.Walk.{row_text}
use Rattle.cli_arguments.specs.Asking.{HasNumber}

pub number_at : {E : Type 0} (A B : List ℕ → Result ℕ E → Type 0) (id : Text) (rows : List Row) (one : Option Text) (o : Option ℕ) → one_of id rows ≡ one
    → (one ≡ None → o ≡ None)
    → ((t : Text) → one ≡ Some t → TriesOne (λ bs r. ParsesUnsigned 64 10 bs r × A bs r × B bs r) t (Ok o))
    → HasNumber id rows o
number_at A B id rows None None e n s = e
number_at A B id rows None (Some v) e n s = let bad = n refl in cc
number_at A B id rows (Some t) None e n s = absurd (s t refl)
number_at A B id rows (Some t) (Some v) e n s =
    let r = s t refl in
    (t, e, r.0.0.0, r.0.1, rw r.0.1 r.0.0.1)

pub no_number : {E : Type 0} (A B : List ℕ → Result ℕ E → Type 0) (id : Text) (rows : List Row) (one : Option Text) (e : E) → one_of id rows ≡ one
    → (one ≡ None → ◌≡◌ {A = Result (Option ℕ) E} (Err e) (Ok None))
    → ((t : Text) → one ≡ Some t → TriesOne (λ bs r. ParsesUnsigned 64 10 bs r × A bs r × B bs r) t (Err e))
    → (o : Option ℕ) → HasNumber id rows o → ⊥
no_number A B id rows one e is n s None h = let bad = n (sym is ∙ h) in cc
no_number A B id rows one e is n s (Some v) h =
    let refused = s h.0 (sym is ∙ h.1) in
    refused.0 (h.2, rw h.3 at h.4)

pub ok_same : {T E : Type 0} {x y : T} → ◌≡◌ {A = Result T E} (Ok x) (Ok y) → x ≡ y
ok_same e = cc

no_text : (r : Row) → slice_get r.values 0 ≡ None → row_text r ≡ None
no_text r none = ap (option_map _) none

some_text : {A B : Type 0} (f : A → B) (o : Option A) → option_map f o ≡ None → o ≡ None
some_text f None e = refl
some_text f (Some a) e = cc

-- An option that was not given has no number.
pub no_one : (id : Text) (rows : List Row) → first_of id rows ≡ None → one_of id rows ≡ None
no_one id rows none = go (find (λ r. bytes_eq r.id id) rows) none
  where
    go : (o : Option Row) → option_and_then (λ (r : Row). slice_get r.values 0) o ≡ None → option_and_then row_text o ≡ None
    go None e = refl
    go (Some r) e = no_text r e

-- An option of which no number is read was not given.
pub no_first : (id : Text) (rows : List Row) → one_of id rows ≡ None → first_of id rows ≡ None
no_first id rows none = go (find (λ r. bytes_eq r.id id) rows) none
  where
    go : (o : Option Row) → option_and_then row_text o ≡ None → option_and_then (λ (r : Row). slice_get r.values 0) o ≡ None
    go None e = refl
    go (Some r) e = some_text _ (slice_get r.values 0) e

pub not_given : {A B : Type 0} (f : A → B) (o : Option A) → is_some o ≡ false → option_map f o ≡ None
not_given f None none = refl
not_given f (Some a) none = cc

pub given : {A B : Type 0} (f : A → B) (o : Option A) → is_some o ≡ true → option_map f o ≡ None → ⊥
given f None some none = cc
given f (Some a) some none = cc
