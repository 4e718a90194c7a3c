-- The records of a list of items, one after the other.
use Rattle.std.proofs.Common.{◌≡◌, ◌≢◌, ◌+◌, ◌<◌, ◌≤◌, ◌∙◌, ◌++◌, ◌∷◌, [], if◌then◌else◌, ℕ, suc, zero, Bool, true, false, List, Option, Some, None, IfSome, refl, sym, ap, subst, arith, append_assoc, append-nil, length, length-append, get_or, set, take, slice_get, add-one, take_all, map}
use Rattle.std.proofs.lemmas.List.{get_or-map, take_at}
use Rattle.diagram_declarations.specs.declared.kind.BlockKind.{BlockKind}
use Rattle.diagram_declarations.specs.declared.kind.BlockKind.TheVariants.{Ton}
use Rattle.std.specs.Prelude.{⊤}
use Rattle.std.specs.Borrow.{Bor}
use Rattle.std.proofs.lemmas.Option.{get_or_from_slice_get}
use Rattle.csv.specs.declared.reader.Reader.{Reader}
use Rattle.io_text.specs.Left.{Fields, Left, TakesFirst}
use Rattle.scan_signals.specs.declared.block.Stored.{Stored}
use Rattle.scan_signals.specs.Blocks.{new_block}
use Rattle.scan_cycle.specs.Standing.{CanStore, Standing, with_blocks, with_memories, with_values}
use Rattle.text_state.specs.Parts.{IsRead, IsStuck, TakesItem, each, every, some}
use Rattle.text_state.specs.StateText.{AreTold, has_record}
use Rattle.text_state.specs.declared.version.Version.{Version}
use Rattle.diagram_declarations.specs.declared.decls.Instance.{Instance}

-- ---- the next record

pub item_missing : {B : Type 0} (item : B → Fields) (can : B → Type 0) (rows : List Fields) (found : Bool) (fields : Fields) (new : Reader (Bor (List ℕ)))
    → found ≡ false → TakesFirst rows found fields new → TakesItem item can rows new None
item_missing item can [] found fields new e t y h = λ q. cc
item_missing item can (r ∷ rows) found fields new e t y h = let bad : true ≡ false = sym t.0 ∙ e in cc

first_same : (a b : Fields) → ◌≡◌ {A = List Fields} (a ∷ []) (b ∷ []) → a ≡ b
first_same a b q = cc

pub always : {B : Type 0} (o : Option B) → IfSome o (λ _. ⊤)
always None = tt
always (Some y) = tt

pub item_read : {B : Type 0} (item : B → Fields) (can : B → Type 0) (rows : List Fields) (found : Bool) (fields : Fields) (new : Reader (Bor (List ℕ))) (o : Option B)
    → found ≡ true → TakesFirst rows found fields new → IfSome o can → IfSome o (λ y. fields ≡ item y) → (o ≡ None → (y : B) → can y → fields ≢ item y)
    → TakesItem item can rows new o
item_read item can [] found fields new o e t c s n = let bad : true ≡ false = sym e ∙ t in cc
item_read item can (r ∷ rows) found fields new None e t c s n = λ y h q. n refl y h (t.1 ∙ first_same r (item y) q)
item_read item can (r ∷ rows) found fields new (Some y) e t c s n = (rows, ap (λ x. x ∷ rows) (sym t.1 ∙ s), t.2, c)

-- ---- all of them

pub some_at : {A : Type 0} (xs : List A) (i : ℕ) (x : A) → i < length xs → x ≡ get_or xs i x → slice_get xs i ≡ Some x
some_at [] i x h e = absurd (omega (arith, h))
some_at (a ∷ xs) zero x h e = ap (λ y. Some y) (sym e)
some_at (a ∷ xs) (suc i) x h e = some_at xs i x (omega (arith, h)) e

pub each_set : {A B : Type 0} (row : A → B → List Fields) (xs : List A) (ys : List B) (i : ℕ) (x : A) (y : B) → i < length xs → i < length ys → x ≡ get_or xs i x
    → each row (take (suc i) xs) (set ys i y) ≡ each row (take i xs) ys ++ row x y
each_set row [] ys i x y h k e = absurd (omega (arith, h))
each_set row (a ∷ xs) [] i x y h k e = absurd (omega (arith, k))
each_set row (a ∷ xs) (b ∷ ys) zero x y h k e = rw e (append-nil (row a y))
each_set row (a ∷ xs) (b ∷ ys) (suc i) x y h k e =
    ap (λ l. row a b ++ l) (each_set row xs ys i x y (omega (arith, h)) (omega (arith, k)) e) ∙ sym (append_assoc (row a b) (each row (take i xs) ys) (row x y))

-- records of which each item has one
abbrev pub one : {A B : Type 0} → (A → B → Fields) → A → B → List Fields
one item = some every item

-- an item without a record adds none
pub each_skip : {A B : Type 0} (has : A → Bool) (item : A → B → Fields) (xs : List A) (ys : List B) (i : ℕ) (x : A) → i < length xs → x ≡ get_or xs i x → has x ≡ false
    → each (some has item) (take (suc i) xs) ys ≡ each (some has item) (take i xs) ys
each_skip has item [] ys i x h e lacks = absurd (omega (arith, h))
each_skip has item (a ∷ xs) [] zero x h e lacks = refl
each_skip has item (a ∷ xs) [] (suc i) x h e lacks = refl
each_skip has item (a ∷ xs) (b ∷ ys) zero x h e lacks = let here : has a ≡ false = ap has (sym e) ∙ lacks in rw here refl
each_skip has item (a ∷ xs) (b ∷ ys) (suc i) x h e lacks = ap (λ l. some has item a b ++ l) (each_skip has item xs ys i x (omega (arith, h)) e lacks)

pub each_count : {A B : Type 0} (item : A → B → Fields) (xs : List A) (ys : List B) (i : ℕ) → i ≤ length xs → i ≤ length ys → length (each (one item) (take i xs) ys) ≡ i
each_count item xs ys zero h k = refl
each_count item [] ys (suc i) h k = absurd (omega (arith, h))
each_count item (a ∷ xs) [] (suc i) h k = absurd (omega (arith, k))
each_count item (a ∷ xs) (b ∷ ys) (suc i) h k = ap suc (each_count item xs ys i (omega (arith, h)) (omega (arith, k)))

pub read_none : {A B : Type 0} (row : A → B → List Fields) (xs : List A) (ys : List B) (rows : List Fields) (r : Reader (Bor (List ℕ))) → Left r rows → IsRead row (take 0 xs) ys rows r
read_none row xs ys rows r h = record { rest = rows; cut = refl; left = h }

-- the record of an item that has one
pub one_more : {A B : Type 0} (has : A → Bool) (item : A → B → Fields) (xs : List A) (ys zs : List B) (i : ℕ) (x : A) (y : B) → has x ≡ true → i < length xs → i < length ys → x ≡ get_or xs i x
    → zs ≡ set ys i y → each (some has item) (take (i + 1) xs) zs ≡ each (some has item) (take i xs) ys ++ item x y ∷ []
one_more has item xs ys zs i x y holds a b e z =
    rw (add-one i, z) (each_set (some has item) xs ys i x y a b e ∙ ap (λ t. each (some has item) (take i xs) ys ++ (if t then item x y ∷ [] else [])) holds)

pub read_more : {A B : Type 0} (has : A → Bool) (item : A → B → Fields) (can : B → Type 0) (xs : List A) (ys zs : List B) (i : ℕ) (x : A) (y : B) (o : Option B) (rows : List Fields)
    (old new : Reader (Bor (List ℕ))) → has x ≡ true → i < length xs → i < length ys → x ≡ get_or xs i x → (h : IsRead (some has item) (take i xs) ys rows old) → o ≡ Some y
    → TakesItem (item x) can h.rest new o → zs ≡ set ys i y → IsRead (some has item) (take (i + 1) xs) zs rows new
read_more has item can xs ys zs i x y o rows old new holds a b e h is t z =
    let t = subst (TakesItem (item x) can h.rest new) is t in
    record {
      rest = t.0;
      cut =
          h.cut
          ∙ ap (λ l. each (some has item) (take i xs) ys ++ l) t.1
          ∙ sym (append_assoc (each (some has item) (take i xs) ys) (item x y ∷ []) t.0)
          ∙ ap (λ l. l ++ t.0) (sym (one_more has item xs ys zs i x y holds a b e z));
      left = t.2;
    }

-- an item without a record is passed over
pub read_skip : {A B : Type 0} (has : A → Bool) (item : A → B → Fields) (xs : List A) (ys : List B) (i : ℕ) (x : A) (rows : List Fields) (r : Reader (Bor (List ℕ)))
    → i < length xs → x ≡ get_or xs i x → has x ≡ false → IsRead (some has item) (take i xs) ys rows r → IsRead (some has item) (take (i + 1) xs) ys rows r
read_skip has item xs ys i x rows r a e lacks h = record {
  rest = h.rest;
  cut = h.cut ∙ ap (λ l. l ++ h.rest) (sym (rw (add-one i) (each_skip has item xs ys i x a e lacks)));
  left = h.left;
}

pub read_stuck : {A B : Type 0} (has : A → Bool) (item : A → B → Fields) (can : A → B → Type 0) (xs : List A) (ys : List B) (i before n : ℕ) (x : A) (o : Option B) (rows : List Fields)
    (old new : Reader (Bor (List ℕ))) → has x ≡ true → i < length xs → x ≡ get_or xs i x → (h : IsRead (some has item) (take i xs) ys rows old) → o ≡ None
    → TakesItem (item x) (can x) h.rest new o → n ≡ before + length (each (some has item) (take i xs) ys) + 1 → IsStuck has item can xs ys rows before n
read_stuck has item can xs ys i before n x o rows old new holds a e h is t count = record {
  at = i;
  next = x;
  here = some_at xs i x a e;
  told = holds;
  rest = h.rest;
  cut = h.cut;
  count = count;
  bad = subst (TakesItem (item x) (can x) h.rest new) is t;
}

pub read_all : {A B : Type 0} (row : A → B → List Fields) (xs : List A) (ys : List B) (i : ℕ) (rows : List Fields) (r : Reader (Bor (List ℕ))) → length xs ≤ i
    → IsRead row (take i xs) ys rows r → IsRead row xs ys rows r
read_all row xs ys i rows r h k = subst (λ l. IsRead row l ys rows r) (take_all i xs h) k

-- ---- the state beside them
pub other_values : (a s n : Standing) (vs : List Bool) → s ≡ with_values a s.held.values → n ≡ with_values s vs → n ≡ with_values a n.held.values
other_values a s n vs e f = f ∙ ap (λ x. with_values x vs) e ∙ ap (with_values a) (sym (ap (λ x. x.held.values) f))

pub other_memories : (a s n : Standing) (vs : List Bool) → s ≡ with_memories a s.held.kept.memories → n ≡ with_memories s vs → n ≡ with_memories a n.held.kept.memories
other_memories a s n vs e f = f ∙ ap (λ x. with_memories x vs) e ∙ ap (with_memories a) (sym (ap (λ x. x.held.kept.memories) f))

pub other_blocks : (a s n : Standing) (vs : List Stored) → s ≡ with_blocks a s.held.kept.blocks → n ≡ with_blocks s vs → n ≡ with_blocks a n.held.kept.blocks
other_blocks a s n vs e f = f ∙ ap (λ x. with_blocks x vs) e ∙ ap (with_blocks a) (sym (ap (λ x. x.held.kept.blocks) f))

-- ---- instances
pub item_some : {B : Type 0} (can : B → Type 0) (o : Option B) (y : B) → o ≡ Some y → IfSome o can → can y
item_some can o y e h = subst (λ x. IfSome x can) e h

pub block_can : (kinds : List BlockKind) (instances : List Instance) (i : ℕ) (x : Instance) (m n : ℕ) (y : Stored) → kinds ≡ map (λ i. i.kind) instances → i < length instances
    → x ≡ get_or instances i x → m ≡ n → CanStore x.kind m y → CanStore (get_or kinds i Ton) n y
block_can kinds instances i x m n y k h e moment can =
    let kind : get_or kinds i Ton ≡ x.kind = ap (λ l. get_or l i Ton) k ∙ get_or-map (λ (j : Instance). j.kind) instances i x Ton h ∙ ap (λ (j : Instance). j.kind) (sym e) in
    subst (λ k. CanStore k n y) (sym kind) (subst (λ t. CanStore x.kind t y) moment can)

-- ---- memories

pub push_each : {A B : Type 0} (row : A → B → List Fields) (xs : List A) (ys : List B) (x : A) (y : B) → length xs < length ys
    → each row (xs ++ x ∷ []) (set ys (length xs) y) ≡ each row xs ys ++ row x y
push_each row [] [] x y h = absurd (omega (arith, h))
push_each row [] (b ∷ ys) x y h = append-nil (row x y)
push_each row (a ∷ xs) [] x y h = absurd (omega (arith, h))
push_each row (a ∷ xs) (b ∷ ys) x y h =
    ap (λ l. row a b ++ l) (push_each row xs ys x y (omega (arith, h))) ∙ sym (append_assoc (row a b) (each row xs ys) (row x y))

pub read_push : {A B : Type 0} (item : A → B → Fields) (can : B → Type 0) (xs : List A) (ys zs : List B) (i : ℕ) (x : A) (y : B) (o : Option B) (rows : List Fields) (old new : Reader (Bor (List ℕ)))
    → length xs ≡ i → i < length ys → (h : IsRead (one item) xs ys rows old) → o ≡ Some y → TakesItem (item x) can h.rest new o → zs ≡ set ys i y
    → IsRead (one item) (xs ++ x ∷ []) zs rows new
read_push item can xs ys zs i x y o rows old new a b h is t z =
    let t = subst (TakesItem (item x) can h.rest new) is t in
    let pushed : each (one item) (xs ++ x ∷ []) zs ≡ each (one item) xs ys ++ item x y ∷ [] = rw (z, ← a) (push_each (one item) xs ys x y (omega (arith, a, b))) in
    record {
      rest = t.0;
      cut =
          h.cut
          ∙ ap (λ l. each (one item) xs ys ++ l) t.1
          ∙ sym (append_assoc (each (one item) xs ys) (item x y ∷ []) t.0)
          ∙ ap (λ l. l ++ t.0) (sym pushed);
      left = t.2;
    }

-- the first of a list of items
slice_get_at : {A : Type 0} (xs : List A) (x : A) (more : List A) (i : ℕ) → length xs ≡ i → slice_get (xs ++ x ∷ more) i ≡ Some x
slice_get_at [] x more zero e = refl
slice_get_at [] x more (suc i) e = absurd (omega (arith, e))
slice_get_at (a ∷ xs) x more zero e = absurd (omega (arith, e))
slice_get_at (a ∷ xs) x more (suc i) e = slice_get_at xs x more i (omega (arith, e))

pub read_stuck_at : {A B : Type 0} (item : A → B → Fields) (can : A → B → Type 0) (all xs more : List A) (ys : List B) (i before n : ℕ) (x : A) (o : Option B) (rows : List Fields) (old new : Reader (Bor (List ℕ)))
    → all ≡ xs ++ x ∷ more → length xs ≡ i → i ≤ length ys → (h : IsRead (one item) xs ys rows old) → o ≡ None → TakesItem (item x) (can x) h.rest new o → n ≡ before + i + 1
    → IsStuck every item can all ys rows before n
read_stuck_at item can all xs more ys i before n x o rows old new a c b h is t count =
    let front : take i all ≡ xs = ap (take i) a ∙ take_at xs (x ∷ more) i c in
    record {
      at = i;
      next = x;
      told = refl;
      here = ap (λ l. slice_get l i) a ∙ slice_get_at xs x more i c;
      rest = h.rest;
      cut = h.cut ∙ ap (λ l. each (one item) l ys ++ h.rest) (sym front);
      count = omega (arith, count, ap length front, each_count item xs ys i (omega (arith, c)) b, ap (λ l. length (each (one item) l ys)) front, ap (λ l. length (each (one item) l ys)) (take_all i xs (omega (arith, c))));
      bad = subst (TakesItem (item x) (can x) h.rest new) is t;
    }

-- ---- what has no record

set_other : {B : Type 0} (ys : List B) (i k : ℕ) (y : B) → i ≢ k → slice_get (set ys i y) k ≡ slice_get ys k
set_other (b ∷ ys) zero zero y h = absurd (h refl)
set_other (b ∷ ys) (suc i) (suc k) y h = set_other ys i k y (λ e. h (ap suc e))
set_other _ _ _ y h = refl

-- a value that is set belongs to an item with a record
pub told_set : (v : Version) (instances : List Instance) (ys zs : List Stored) (i : ℕ) (x : Instance) (y : Stored) → AreTold v instances ys → has_record v (new_block x.kind) ≡ true
    → x ≡ get_or instances i x → zs ≡ set ys i y → AreTold v instances zs
told_set v instances ys zs i x y told holds e z = λ k j here lacks.
    let other : i ≢ k = λ same.
    let found : get_or instances i x ≡ j = ap (λ n. get_or instances n x) same ∙ get_or_from_slice_get instances k j x here in
    let bad : true ≡ false = sym holds ∙ ap (λ (n : Instance). has_record v (new_block n.kind)) (e ∙ found) ∙ lacks in cc in
    ap (λ l. slice_get l k) z ∙ set_other ys i k y other ∙ told k j here lacks

-- before the first scan all is told
pub told_fresh : (v : Version) (instances : List Instance) → AreTold v instances (map (λ i. new_block i.kind) instances)
told_fresh v [] k j here lacks = cc
told_fresh v (a ∷ instances) zero j here lacks = let same : a ≡ j = cc in ap (λ (i : Instance). Some (new_block i.kind)) same
told_fresh v (a ∷ instances) (suc k) j here lacks = told_fresh v instances k j here lacks

-- a record more
pub count_more : {A B : Type 0} (has : A → Bool) (item : A → B → Fields) (xs : List A) (ys zs : List B) (i before last : ℕ) (x : A) (y : B) → has x ≡ true → i < length xs → i < length ys
    → x ≡ get_or xs i x → zs ≡ set ys i y → last ≡ before + length (each (some has item) (take i xs) ys) → last + 1 ≡ before + length (each (some has item) (take (i + 1) xs) zs)
count_more has item xs ys zs i before last x y holds a b e z h =
    omega (arith, h, ap length (one_more has item xs ys zs i x y holds a b e z), length-append (each (some has item) (take i xs) ys) (item x y ∷ []))

pub count_same : {A B : Type 0} (has : A → Bool) (item : A → B → Fields) (xs : List A) (ys : List B) (i before last : ℕ) (x : A) → i < length xs → x ≡ get_or xs i x → has x ≡ false
    → last ≡ before + length (each (some has item) (take i xs) ys) → last ≡ before + length (each (some has item) (take (i + 1) xs) ys)
count_same has item xs ys i before last x a e lacks h = h ∙ ap (λ l. before + length l) (sym (rw (add-one i) (each_skip has item xs ys i x a e lacks)))

pub count_all : {A B : Type 0} (row : A → B → List Fields) (xs : List A) (ys : List B) (i before last : ℕ) → length xs ≤ i → last ≡ before + length (each row (take i xs) ys)
    → last ≡ before + length (each row xs ys)
count_all row xs ys i before last h e = e ∙ ap (λ l. before + length (each row l ys)) (take_all i xs h)
