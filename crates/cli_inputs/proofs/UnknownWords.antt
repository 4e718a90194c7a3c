-- The first word that names no variable.
use Rattle.std.proofs.Common.{◌≡◌, ◌∙◌, ap, sym, refl, ℕ, zero, suc, Bool, true, ◌+◌, ◌<◌, ◌≤◌, List, [], ◌∷◌, ◌++◌, length, take, map, position, Option, Some, None, get_or, slice_index_or, arith, is_none, nat_lt}
use Rattle.std.specs.List.{position_or_len}
use Rattle.std.proofs.lemmas.Bool.{lt-ltb}
use Rattle.std.proofs.lemmas.List.{get_or-map, length-append, length-map, length-take-le, take-map}
use Rattle.diagram_declarations.specs.Decls.{Declared}
use Rattle.cli_inputs.specs.Variables.{AreVariables, IsUnknownWord, variable_of}

-- what is found of the words before one of which nothing is found: of variables, or of other names
module _ {A : Type 0} (find : List ℕ → Option A) where
  -- as many words are known as there is found for them
  pub known_count : (words : List (List ℕ)) (i : ℕ) (found : List A) → i ≤ length words → map find (take i words) ≡ map Some found → length found ≡ i
  known_count words i found h known = sym (length-map found Some) ∙ sym (ap length known) ∙ length-map (take i words) find ∙ length-take-le i words h

  -- the words before it are known
  pub first_at : (words : List (List ℕ)) (i : ℕ) (found : List A) → i < length words → find (slice_index_or words i []) ≡ None
      → map find (take i words) ≡ map Some found → position_or_len (λ word. is_none (find word)) words ≡ i
  first_at [] i found there unknown known = absurd (omega (arith, there))
  first_at (w ∷ words) zero found there unknown known = rw unknown refl
  first_at (w ∷ words) (suc i) [] there unknown known = cc
  first_at (w ∷ words) (suc i) (x ∷ found) there unknown known =
      let is_known : find w ≡ Some x = cc in
      let others : map find (take i words) ≡ map Some found = cc in
      let one_more : 1 + i ≡ suc i = omega arith in
      rw is_known (ap (λ n. 1 + n) (first_at words i found (omega (arith, there)) unknown others) ∙ one_more)

pub position_there : {A : Type 0} (p : A → Bool) (xs : List A) (i : ℕ) → i < length xs → position_or_len p xs ≡ i → position p xs ≡ Some i
position_there p xs i there is =
    let below : nat_lt i (length xs) ≡ true = lt-ltb i (length xs) there in
    rw (is, below) refl

-- behind words that name variables
first_behind : (decls : Declared) (before : List (List ℕ)) (named : List ℕ) (words : List (List ℕ)) (i : ℕ) (vars : List ℕ)
    → AreVariables decls before named → i < length words → variable_of decls (slice_index_or words i []) ≡ None
    → AreVariables decls (take i words) vars → position_or_len (λ word. is_none (variable_of decls word)) (before ++ words) ≡ length before + i
first_behind decls [] named words i vars are there unknown known =
    let none : i ≡ 0 + i = omega arith in
    first_at (variable_of decls) words i vars there unknown known ∙ none
first_behind decls (b ∷ before) [] words i vars are there unknown known = cc
first_behind decls (b ∷ before) (v ∷ named) words i vars are there unknown known =
    let is_known : variable_of decls b ≡ Some v = cc in
    let others : AreVariables decls before named = cc in
    let one_more : 1 + (length before + i) ≡ suc (length before) + i = omega arith in
    rw is_known (ap (λ n. 1 + n) (first_behind decls before named words i vars others there unknown known) ∙ one_more)

pub unknown_behind : (decls : Declared) (before : List (List ℕ)) (named : List ℕ) (words : List (List ℕ)) (i : ℕ) (vars : List ℕ)
    → AreVariables decls before named → i < length words → variable_of decls (slice_index_or words i []) ≡ None
    → AreVariables decls (take i words) vars → IsUnknownWord decls (before ++ words) (length vars + (length before + 1))
unknown_behind decls before named words i vars are there unknown known =
    let counted = known_count (variable_of decls) words i vars (omega arith) known in
    let all : length (before ++ words) ≡ length before + length words = length-append before words in (
      length before + i,
      position_there (λ word. is_none (variable_of decls word)) (before ++ words) (length before + i) (omega (arith, all, there)) (first_behind decls before named words i vars are there unknown known),
      omega (arith, counted),
    )

-- the same of words that are the texts of items
pub unknown_item : {A : Type 0} (decls : Declared) (before : List (List ℕ)) (named : List ℕ) (show : A → List ℕ) (items : List A) (i : ℕ) (item : A) (vars : List ℕ)
    → AreVariables decls before named → i < length items → item ≡ get_or items i item → variable_of decls (show item) ≡ None
    → AreVariables decls (map show (take i items)) vars → IsUnknownWord decls (before ++ map show items) (length vars + (length before + 1))
unknown_item decls before named show items i item vars are there is unknown known =
    let same : slice_index_or (map show items) i [] ≡ show item = get_or-map show items i item [] there ∙ sym (ap show is) in
    let front : take i (map show items) ≡ map show (take i items) = take-map show i items in
    unknown_behind decls before named (map show items) i vars are (rw (length-map items show) there) (rw same unknown) (rw front known)

-- a first word that names no variable
pub unknown_first : (decls : Declared) (first : List ℕ) (words : List (List ℕ)) → variable_of decls first ≡ None → IsUnknownWord decls (first ∷ words) 1
unknown_first decls first words unknown =
    (0, position_there (λ word. is_none (variable_of decls word)) (first ∷ words) 0 (omega arith) (rw unknown refl), refl)
