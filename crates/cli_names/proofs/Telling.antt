-- What is told of the first of several advices.
use Rattle.std.proofs.Common.{◌≡◌, ◌∙◌, ◌+◌, ◌<◌, ◌≤◌, ◌∷◌, [], ℕ, suc, zero, Bool, true, false, List, Option, Some, None, ap, arith, drop, get_or, length, refl, subst, sym}
use Rattle.std.proofs.lemmas.List.{drop_all}
use Rattle.std.specs.Prelude.{Result, Ok, Err, bytes_eq, slice_get}
use Rattle.std.specs.Option.{option_or}
use Rattle.csv.specs.Records.{field_at}
use Rattle.diagram_declarations.specs.Decls.{Declared}
use Rattle.io_text.specs.Left.{Fields}
use Rattle.io_text.specs.Log.{Puts, WriteLog}
use Rattle.io_text.specs.declared.fault.WriteFault.{WriteFault}
use Rattle.text_names.specs.Nearest.{other_text}
use Rattle.cli_names.specs.declared.fault.AdviceFault.{AdviceFault}
use Rattle.cli_names.specs.declared.fault.AdviceFault.TheVariants as advice_fault
use Rattle.cli_names.specs.Advice.{Advice, NoInput, Other, Says, Tells, Unknown, name_advice, names_advice, record_advice, records_advice}
use Rattle.cli_names.specs.Steps.{told}

-- an advice was written
pub said : (d : Declared) (a : Advice) (old new : WriteLog) (written : Result Unit WriteFault) (r : Result Bool AdviceFault)
    → r ≡ told written → Says d a (Puts old new written) → Tells d (Some a) old new r
said d (Unknown wanted name) old new (Ok u) r e h = rw e h
said d (Unknown wanted name) old new (Err f) r e h = rw e h
said d (NoInput name) old new (Ok u) r e h = rw e h
said d (NoInput name) old new (Err f) r e h = rw e h
said d (Other number found name) old new (Ok u) r e h = rw e h
said d (Other number found name) old new (Err f) r e h = rw e h

-- nothing is told out of memory
pub no_memory : (d : Declared) (x : Option Advice) (old : WriteLog) → Tells d x old old (Err advice_fault.Memory)
no_memory d None old = refl
no_memory d (Some a) old = refl

-- there is nothing to tell
pub nothing : (d : Declared) (x : Option Advice) (old : WriteLog) → x ≡ None → Tells d x old old (Ok false)
nothing d x old e = rw e refl

-- what was told of the first, where that is not that there is none
pub tells_first : (d : Declared) (x y : Option Advice) (old new : WriteLog) (r : Result Bool AdviceFault) → (r ≡ Ok false → ⊥) → Tells d x old new r
    → Tells d (option_or x y) old new r
tells_first d (Some a) y old new r other h = h
tells_first d None y old new (Ok true) other h = absurd h
tells_first d None y old new (Ok false) other h = absurd (other refl)
tells_first d None y old new (Err advice_fault.Write) other h = absurd h
tells_first d None None old new (Err advice_fault.Memory) other h = h
tells_first d None (Some a) old new (Err advice_fault.Memory) other h = h

-- what was told of the second, where there is no first
pub tells_second : (d : Declared) (x y : Option Advice) (old mid new : WriteLog) (r : Result Bool AdviceFault) → Tells d x old mid (Ok false) → Tells d y mid new r
    → Tells d (option_or x y) old new r
tells_second d (Some a) y old mid new r none h = absurd none
tells_second d None y old mid new r none h = subst (λ (l : WriteLog). Tells d y l new r) none h

-- ---- the second field of a record

pub second : (fs : Fields) → field_at fs 1 ≡ slice_get fs 1
unfolding field_at
second [] = refl
second (f ∷ []) = refl
second (f ∷ (g ∷ fs)) = refl

pub missing : (d : Declared) (number : ℕ) (name : List ℕ) (fs : Fields) (old : WriteLog) → None ≡ field_at fs 1
    → Tells d (record_advice number name (slice_get fs 1)) old old (Ok false)
missing d number name fs old e = let none : slice_get fs 1 ≡ None = sym (e ∙ second fs) in rw none refl

pub same_name : (d : Declared) (number : ℕ) (name found : List ℕ) (fs : Fields) (old : WriteLog) → Some found ≡ field_at fs 1 → bytes_eq found name ≡ true
    → Tells d (record_advice number name (slice_get fs 1)) old old (Ok false)
same_name d number name found fs old e same = let is : slice_get fs 1 ≡ Some found = sym (e ∙ second fs) in rw (is, same) refl

pub other_name : (d : Declared) (number : ℕ) (name found : List ℕ) (fs : Fields) (old new : WriteLog) (written : Result Unit WriteFault) (r : Result Bool AdviceFault)
    → Some found ≡ field_at fs 1 → bytes_eq found name ≡ false → r ≡ told written → Puts old new written (other_text number found name)
    → Tells d (record_advice number name (slice_get fs 1)) old new r
other_name d number name found fs old new written r e other ends h =
    let is : slice_get fs 1 ≡ Some found = sym (e ∙ second fs) in
    rw (is, other) (said d (Other number found name) old new written r ends h)

-- ---- one after the other

-- What is told of the second from the second log on is told of the first from the first one on.
abbrev pub GoesOn : Declared → Option Advice → WriteLog → Option Advice → WriteLog → Type 0
GoesOn d x old y mid = (new : WriteLog) (r : Result Bool AdviceFault) → Tells d y mid new r → Tells d x old new r

drop_at : {A : Type 0} (xs : List A) (n : ℕ) (x : A) → n < length xs → drop n xs ≡ get_or xs n x ∷ drop (n + 1) xs
drop_at [] n x h = absurd (omega (arith, h))
drop_at (y ∷ xs) zero x h = refl
drop_at (y ∷ xs) (suc n) x h =
    let next : suc (n + 1) ≡ suc n + 1 = omega arith in
    drop_at xs n x (omega (arith, h)) ∙ ap (λ m. get_or xs n x ∷ drop m (y ∷ xs)) next

module _ (d : Declared) (fs : Fields) (n : ℕ) (name : List ℕ) (there : n < length fs) (is : name ≡ get_or fs n []) where
  pub name_passed : (old mid : WriteLog) (b : Bool) → b ≡ false → Tells d (name_advice d name) old mid (Ok b)
      → GoesOn d (names_advice d (drop n fs)) old (names_advice d (drop (n + 1) fs)) mid
  name_passed old mid b off none = λ new r t.
      let none' : Tells d (name_advice d name) old mid (Ok false) = subst (λ (x : Bool). Tells d (name_advice d name) old mid (Ok x)) off none in
      let all : drop n fs ≡ name ∷ drop (n + 1) fs = drop_at fs n [] there ∙ ap (λ x. x ∷ drop (n + 1) fs) (sym is) in
      rw all (tells_second d (name_advice d name) (names_advice d (drop (n + 1) fs)) old mid new r none' t)

  pub name_told : (old new : WriteLog) (r : Result Bool AdviceFault) → (r ≡ Ok false → ⊥) → Tells d (name_advice d name) old new r → Tells d (names_advice d (drop n fs)) old new r
  name_told old new r other t =
      let all : drop n fs ≡ name ∷ drop (n + 1) fs = drop_at fs n [] there ∙ ap (λ x. x ∷ drop (n + 1) fs) (sym is) in
      rw all (tells_first d (name_advice d name) (names_advice d (drop (n + 1) fs)) old new r other t)

module _ (d : Declared) (names : List (List ℕ)) (n : ℕ) (name : List ℕ) (xs : List Fields) (fs : Fields) (rest : List Fields)
    (there : n < length names) (is : name ≡ get_or names n []) (same : xs ≡ fs ∷ rest) where
  pub record_passed : (old mid : WriteLog) (b : Bool) → b ≡ false → Tells d (record_advice (n + 3) name (slice_get fs 1)) old mid (Ok b)
      → GoesOn d (records_advice (n + 3) (drop n names) xs) old (records_advice (n + 1 + 3) (drop (n + 1) names) rest) mid
  record_passed old mid b off none = λ new r t.
      let next : n + 1 + 3 ≡ n + 3 + 1 = omega arith in
      let none' : Tells d (record_advice (n + 3) name (slice_get fs 1)) old mid (Ok false) = subst (λ (x : Bool). Tells d (record_advice (n + 3) name (slice_get fs 1)) old mid (Ok x)) off none in
      let all : drop n names ≡ name ∷ drop (n + 1) names = drop_at names n [] there ∙ ap (λ x. x ∷ drop (n + 1) names) (sym is) in
      rw (same, all)
      (tells_second d (record_advice (n + 3) name (slice_get fs 1)) (records_advice (n + 3 + 1) (drop (n + 1) names) rest) old mid new r none'
      (subst (λ (m : ℕ). Tells d (records_advice m (drop (n + 1) names) rest) mid new r) next t))

  pub record_told : (old new : WriteLog) (r : Result Bool AdviceFault) → (r ≡ Ok false → ⊥) → Tells d (record_advice (n + 3) name (slice_get fs 1)) old new r
      → Tells d (records_advice (n + 3) (drop n names) xs) old new r
  record_told old new r other t =
      let all : drop n names ≡ name ∷ drop (n + 1) names = drop_at names n [] there ∙ ap (λ x. x ∷ drop (n + 1) names) (sym is) in
      rw (same, all) (tells_first d (record_advice (n + 3) name (slice_get fs 1)) (records_advice (n + 3 + 1) (drop (n + 1) names) rest) old new r other t)

pub no_records : (number : ℕ) (names : List (List ℕ)) → records_advice number names [] ≡ None
no_records number [] = refl
no_records number (name ∷ names) = refl

pub no_names : (number : ℕ) (rows : List Fields) → records_advice number [] rows ≡ None
no_names number [] = refl
no_names number (r ∷ rows) = refl

-- there are no more names
pub goes_past : (number n : ℕ) (names : List (List ℕ)) (rows : List Fields) → length names ≤ n → records_advice number (drop n names) rows ≡ None
goes_past number n names rows h = ap (λ (ns : List (List ℕ)). records_advice number ns rows) (drop_all n names h) ∙ no_names number rows

pub is_told : (b : Bool) → b ≡ true → (r : Result Bool AdviceFault) → r ≡ Ok b → r ≡ Ok false → ⊥
is_told b on r is h = cc

pub is_failed : (f : AdviceFault) (r : Result Bool AdviceFault) → r ≡ Err f → r ≡ Ok false → ⊥
is_failed f r is h = cc

-- the header is the first record
pub on_header : (d : Declared) (rows : List Fields) (fs : Fields) (rest : List Fields) (old new : WriteLog) (r : Result Bool AdviceFault) → rows ≡ fs ∷ rest
    → Tells d (names_advice d (drop 1 fs)) old new r → Tells d (names_advice d (drop 1 (get_or rows 0 []))) old new r
on_header d rows fs rest old new r is t = rw is t
