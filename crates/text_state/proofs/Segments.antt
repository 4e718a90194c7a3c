-- The records of a state, part by part.
use Rattle.std.proofs.Common.{◌≡◌, ◌≢◌, ◌+◌, ◌∙◌, ◌++◌, ◌∷◌, [], ℕ, suc, zero, Bool, true, false, if◌then◌else◌, List, Some, refl, sym, ap, ap₂, subst, arith, append_assoc, append-nil, length, length-append, map, take, slice_get, take_all, inl, inr}
use Rattle.std.specs.Prelude.{filter, zip, ⊤}
use Rattle.std.proofs.lemmas.Bool.{cases_Bool}
use Rattle.std.proofs.lemmas.List.{length-map, take_at}
use Rattle.std.proofs.lemmas.Option.{same_Some}
use Rattle.diagram_declarations.specs.declared.decls.Instance.{Instance}
use Rattle.diagram_program.specs.Program.{Drawing, memories_of}
use Rattle.io_text.specs.Left.{Fields}
use Rattle.scan_signals.specs.declared.block.Stored.{Stored}
use Rattle.scan_cycle.specs.Standing.{CanStore, Standing}
use Rattle.text_state.specs.declared.version.Version.{Version}
use Rattle.text_state.specs.Parts.{CanHold, IsItemsBad, IsStuck, block_item, block_records, each, every, memory_records, some, tells, var_records}
use Rattle.text_state.specs.StateText.{IsStateOf, item_records, memory_places, memory_record, var_record}
use Rattle.text_state.proofs.ItemByItem.{one}
use Rattle.text_state.proofs.Places.{all_places}

-- two lists that agree on one place past two fronts of one length agree on the first behind them
pub same_rest : (k : ℕ) (a b c d : List Fields) → length a ≡ k → length c ≡ k → take (suc k) (a ++ b) ≡ take (suc k) (c ++ d) → take 1 b ≡ take 1 d
same_rest zero [] b [] d h j e = e
same_rest zero (x ∷ a) b c d h j e = absurd (omega (arith, h))
same_rest zero [] b (y ∷ c) d h j e = absurd (omega (arith, j))
same_rest (suc k) [] b c d h j e = absurd (omega (arith, h))
same_rest (suc k) (x ∷ a) b [] d h j e = absurd (omega (arith, j))
same_rest (suc k) (x ∷ a) b (y ∷ c) d h j e =
    let t : take (suc k) (a ++ b) ≡ take (suc k) (c ++ d) = cc in
    same_rest k a b c d (omega (arith, h)) (omega (arith, j)) t

-- a list of items cut at one
pub record IsCut {A B : Type 0} (has : A → Bool) (item : A → B → Fields) (xs : List A) (ys : List B) (at : ℕ) (x : A) : Type 0 where
  pub y : B
  pub more : List Fields
  pub there : slice_get ys at ≡ Some y
  pub cut : each (some has item) xs ys ≡ each (some has item) (take at xs) ys ++ item x y ∷ more

pub each_cut : {A B : Type 0} (has : A → Bool) (item : A → B → Fields) (xs : List A) (ys : List B) (at : ℕ) (x : A) → slice_get xs at ≡ Some x → has x ≡ true → length ys ≡ length xs
    → IsCut has item xs ys at x
each_cut has item [] ys at x e holds h = cc
each_cut has item (a ∷ xs) [] at x e holds h = absurd (omega (arith, h))
each_cut has item (a ∷ xs) (b ∷ ys) zero x e holds h = record {
  y = b;
  more = each (some has item) xs ys;
  there = refl;
  cut = ap (λ (z : _). some has item z b ++ each (some has item) xs ys) (same_Some _ _ e) ∙ ap (λ t. (if t then item x b ∷ [] else []) ++ each (some has item) xs ys) holds;
}
each_cut has item (a ∷ xs) (b ∷ ys) (suc at) x e holds h =
    let r = each_cut has item xs ys at x e holds (omega (arith, h)) in
    record {
      y = r.y;
      more = r.more;
      there = r.there;
      cut = ap (λ l. some has item a b ++ l) r.cut ∙ sym (append_assoc (some has item a b) (each (some has item) (take at xs) ys) (item x r.y ∷ r.more));
    }

-- how many records there are does not depend on the values
width_more : (b : Bool) (r t : Fields) (m n : List Fields) → length m ≡ length n → length ((if b then r ∷ [] else []) ++ m) ≡ length ((if b then t ∷ [] else []) ++ n)
width_more true r t m n h = ap suc h
width_more false r t m n h = h

pub same_width : {A B : Type 0} (has : A → Bool) (item : A → B → Fields) (xs : List A) (ys zs : List B) (i : ℕ) → length ys ≡ length xs → length zs ≡ length xs
    → length (each (some has item) (take i xs) ys) ≡ length (each (some has item) (take i xs) zs)
same_width has item xs ys zs zero h k = refl
same_width has item [] ys zs (suc i) h k = refl
same_width has item (a ∷ xs) [] zs (suc i) h k = absurd (omega (arith, h))
same_width has item (a ∷ xs) (b ∷ ys) [] (suc i) h k = absurd (omega (arith, k))
same_width has item (a ∷ xs) (b ∷ ys) (c ∷ zs) (suc i) h k =
    width_more (has a) (item a b) (item a c) (each (some has item) (take i xs) ys) (each (some has item) (take i xs) zs) (same_width has item xs ys zs i (omega (arith, h)) (omega (arith, k)))

-- a record that is none of its item, behind a prefix of one length
pub none_here : {A B : Type 0} (has : A → Bool) (item : A → B → Fields) (can : A → B → Type 0) (xs : List A) (ys zs : List B) (pre pre2 rows post : List Fields) (before n k : ℕ)
    → (h : IsStuck has item can xs ys rows before n) → length ys ≡ length xs → length zs ≡ length xs → length pre2 ≡ length pre
    → k ≡ length pre + length (each (some has item) (take h.at xs) ys)
    → ((i : ℕ) (x : A) (z : B) → slice_get xs i ≡ Some x → slice_get zs i ≡ Some z → can x z)
    → take (suc k) (pre ++ rows) ≢ take (suc k) (pre2 ++ (each (some has item) xs zs ++ post))
none_here has item can xs ys zs pre pre2 rows post before n k h ly lz lp lk cans = λ e.
    let c = each_cut has item xs zs h.at h.next h.here h.told lz in
    let front = each (some has item) (take h.at xs) ys in
    let front2 = each (some has item) (take h.at xs) zs in
    let l : length (pre ++ front) ≡ k = length-append pre front ∙ sym lk in
    let l2 : length (pre2 ++ front2) ≡ k = omega (arith, lk, lp, length-append pre2 front2, same_width has item xs ys zs h.at ly lz) in
    let a : pre ++ rows ≡ (pre ++ front) ++ h.rest = ap (λ r. pre ++ r) h.cut ∙ sym (append_assoc pre front h.rest) in
    let b : pre2 ++ (each (some has item) xs zs ++ post) ≡ (pre2 ++ front2) ++ (item h.next c.y ∷ (c.more ++ post)) =
    ap (λ r. pre2 ++ (r ++ post)) c.cut ∙ ap (λ r. pre2 ++ r) (append_assoc front2 (item h.next c.y ∷ c.more) post) ∙ sym (append_assoc pre2 front2 (item h.next c.y ∷ (c.more ++ post))) in
    h.bad c.y (cans h.at h.next c.y h.here c.there)
    (same_rest k (pre ++ front) h.rest (pre2 ++ front2) (item h.next c.y ∷ (c.more ++ post)) l l2
    (sym (ap (take (suc k)) a) ∙ e ∙ ap (take (suc k)) b))

-- the records before it are those of the items
pub front_here : {A B : Type 0} (has : A → Bool) (item : A → B → Fields) (can : A → B → Type 0) (xs : List A) (ys : List B) (pre rows post : List Fields) (before n k : ℕ)
    → (h : IsStuck has item can xs ys rows before n) → length ys ≡ length xs → k ≡ length pre + length (each (some has item) (take h.at xs) ys)
    → take k (pre ++ rows) ≡ take k (pre ++ (each (some has item) xs ys ++ post))
front_here has item can xs ys pre rows post before n k h ly lk =
    let c = each_cut has item xs ys h.at h.next h.here h.told ly in
    let front = each (some has item) (take h.at xs) ys in
    let l : length (pre ++ front) ≡ k = length-append pre front ∙ sym lk in
    let a : pre ++ rows ≡ (pre ++ front) ++ h.rest = ap (λ r. pre ++ r) h.cut ∙ sym (append_assoc pre front h.rest) in
    let b : pre ++ (each (some has item) xs ys ++ post) ≡ (pre ++ front) ++ (item h.next c.y ∷ (c.more ++ post)) =
    ap (λ r. pre ++ (r ++ post)) c.cut ∙ ap (λ r. pre ++ r) (append_assoc front (item h.next c.y ∷ c.more) post) ∙ sym (append_assoc pre front (item h.next c.y ∷ (c.more ++ post))) in
    ap (take k) a ∙ take_at (pre ++ front) h.rest k l ∙ sym (ap (take k) b ∙ take_at (pre ++ front) (item h.next c.y ∷ (c.more ++ post)) k l)

-- a part whose reading stopped
pub part_bad : {A B : Type 0} (has : A → Bool) (item : A → B → Fields) (can : A → B → Type 0) (xs : List A) (zs : Standing → List B) (pre post : Standing → List Fields)
    (v : Version) (p : Drawing) (s : Standing) (rows rest : List Fields) (k before n : ℕ)
    → ((t : Standing) → item_records v p t ≡ pre t ++ (each (some has item) xs (zs t) ++ post t))
    → ((t : Standing) → IsStateOf p t → length (pre t) ≡ k)
    → ((t : Standing) → IsStateOf p t → length (zs t) ≡ length xs)
    → ((t : Standing) → IsStateOf p t → t.moment ≡ s.moment → (i : ℕ) (x : A) (z : B) → slice_get xs i ≡ Some x → slice_get (zs t) i ≡ Some z → can x z)
    → IsStateOf p s → before ≡ 2 + k → rows ≡ pre s ++ rest → IsStuck has item can xs (zs s) rest before n → IsItemsBad v p s rows n
part_bad has item can xs zs pre post v p s rows rest k before n shape_is pres counts cans fit b cut h =
    let at = length (pre s) + length (each (some has item) (take h.at xs) (zs s)) in
    record {
      before = at;
      count = omega (arith, h.count, b, pres s fit);
      front = ap (take at) cut ∙ front_here has item can xs (zs s) (pre s) rest (post s) before n at h (counts s fit) refl ∙ sym (ap (take at) (shape_is s));
      none = λ t ok moment e.
          none_here has item can xs (zs s) (zs t) (pre s) (pre t) rest (post t) before n at h (counts s fit) (counts t ok) (pres t ok ∙ sym (pres s fit)) refl (cans t ok moment)
          (sym (ap (take (suc at)) cut) ∙ e ∙ ap (take (suc at)) (shape_is t));
    }

-- ---- the three parts

abbrev pub values_of : Drawing → Standing → List Fields
values_of p t = each var_records p.decls.vars t.held.values

abbrev pub memories_in : Drawing → Standing → List Fields
memories_in p t = each memory_records (memory_places p) t.held.kept.memories

abbrev pub blocks_in : Version → Drawing → Standing → List Fields
blocks_in v p t = each (block_records v) p.decls.instances t.held.kept.blocks

-- ---- the three parts one after the other

each_map : {A B : Type 0} (item : A → B → Fields) (xs : List A) (ys : List B) → map (λ x. item x.0 x.1) (zip xs ys) ≡ each (one item) xs ys
each_map item [] ys = refl
each_map item (a ∷ xs) [] = refl
each_map item (a ∷ xs) (b ∷ ys) = ap (λ l. item a b ∷ l) (each_map item xs ys)

each_filter : {A B : Type 0} (has : A → Bool) (item : A → B → Fields) (xs : List A) (ys : List B)
    → map (λ x. item x.0 x.1) (filter (λ x. has x.0) (zip xs ys)) ≡ each (some has item) xs ys
each_filter has item [] ys = refl
each_filter has item (a ∷ xs) [] = refl
each_filter has item (a ∷ xs) (b ∷ ys) = elim (cases_Bool (has a)) [
  | inl holds ↦ rw holds (ap (λ l. item a b ∷ l) (each_filter has item xs ys))
  | inr lacks ↦ rw lacks (each_filter has item xs ys)
]

pub in_parts : (v : Version) (p : Drawing) (t : Standing) → item_records v p t ≡ values_of p t ++ (memories_in p t ++ blocks_in v p t)
in_parts v p t =
    ap₂ (λ (a b : List Fields). a ++ b) (each_map var_record p.decls.vars t.held.values)
    (ap₂ (λ (a b : List Fields). a ++ b) (each_map memory_record (memory_places p) t.held.kept.memories) (each_filter (tells v) block_item p.decls.instances t.held.kept.blocks))

all_of : {A B : Type 0} (item : A → B → Fields) (xs : List A) (ys : List B) → length ys ≡ length xs → length (each (one item) xs ys) ≡ length xs
all_of item [] ys h = refl
all_of item (a ∷ xs) [] h = absurd (omega (arith, h))
all_of item (a ∷ xs) (b ∷ ys) h = ap suc (all_of item xs ys (omega (arith, h)))

pub value_count : (p : Drawing) (t : Standing) → IsStateOf p t → length (values_of p t) ≡ length p.decls.vars
value_count p t ok = all_of var_record p.decls.vars t.held.values ok.fits.values

pub memory_count : (p : Drawing) (t : Standing) → IsStateOf p t → length t.held.kept.memories ≡ length (memory_places p)
memory_count p t ok = ok.fits.memories ∙ sym (all_places p)

pub memories_count : (p : Drawing) (t : Standing) → IsStateOf p t → length (memories_in p t) ≡ memories_of p
memories_count p t ok = all_of memory_record (memory_places p) t.held.kept.memories (memory_count p t ok) ∙ all_places p

pub block_count : (p : Drawing) (t : Standing) → IsStateOf p t → length t.held.kept.blocks ≡ length p.decls.instances
block_count p t ok =
    ok.standing.sound.as_many ∙ ap length ok.fits.kinds ∙ length-map p.decls.instances (λ i. i.kind)

-- each instance of a state stores what it can
kind_at : (instances : List Instance) (i : ℕ) (x : Instance) → slice_get instances i ≡ Some x → slice_get (map (λ (j : Instance). j.kind) instances) i ≡ Some x.kind
kind_at [] i x e = cc
kind_at (j ∷ js) zero x e = ap (λ (k : Instance). Some k.kind) (same_Some _ _ e)
kind_at (j ∷ js) (suc i) x e = kind_at js i x e

pub can_hold : (p : Drawing) (t : Standing) (m : ℕ) → IsStateOf p t → t.moment ≡ m → (i : ℕ) (x : Instance) (z : Stored)
    → slice_get p.decls.instances i ≡ Some x → slice_get t.held.kept.blocks i ≡ Some z → CanHold m x z
can_hold p t m ok e i x z a b =
    subst (λ k. CanStore x.kind k z) e (ok.standing.sound.each i x.kind z (ap (λ l. slice_get l i) ok.fits.kinds ∙ kind_at p.decls.instances i x a) b)

pub values_bad : (v : Version) (p : Drawing) (s : Standing) (rows : List Fields) (n : ℕ) → IsStateOf p s → IsStuck every var_record (λ _ _. ⊤) p.decls.vars s.held.values rows 2 n
    → IsItemsBad v p s rows n
values_bad v p s rows n ok h =
    part_bad every var_record (λ _ _. ⊤) p.decls.vars (λ t. t.held.values) (λ _. []) (λ t. memories_in p t ++ blocks_in v p t) v p s rows rows 0 2 n
    (in_parts v p) (λ t o. refl) (λ t o. o.fits.values) (λ t o e i x z a b. tt) ok refl refl h

pub memories_bad : (v : Version) (p : Drawing) (s : Standing) (rows rest : List Fields) (n : ℕ) → IsStateOf p s → rows ≡ values_of p s ++ rest
    → IsStuck every memory_record (λ _ _. ⊤) (memory_places p) s.held.kept.memories rest (2 + length p.decls.vars) n → IsItemsBad v p s rows n
memories_bad v p s rows rest n ok cut h =
    part_bad every memory_record (λ _ _. ⊤) (memory_places p) (λ t. t.held.kept.memories) (values_of p) (blocks_in v p) v p s rows rest (length p.decls.vars) _ n
    (in_parts v p) (value_count p) (λ t o. memory_count p t o) (λ t o e i x z a b. tt) ok refl cut h

pub blocks_bad : (v : Version) (p : Drawing) (s : Standing) (rows rest : List Fields) (n : ℕ) → IsStateOf p s
    → rows ≡ (values_of p s ++ memories_in p s) ++ rest
    → IsStuck (tells v) block_item (CanHold s.moment) p.decls.instances s.held.kept.blocks rest (2 + length p.decls.vars + memories_of p) n → IsItemsBad v p s rows n
blocks_bad v p s rows rest n ok cut h =
    part_bad (tells v) block_item (CanHold s.moment) p.decls.instances (λ t. t.held.kept.blocks) (λ t. values_of p t ++ memories_in p t) (λ _. []) v p s rows rest (length p.decls.vars + memories_of p) _ n
    (λ t. in_parts v p t ∙ sym (append_assoc (values_of p t) (memories_in p t) (blocks_in v p t)) ∙ ap (λ l. (values_of p t ++ memories_in p t) ++ l) (sym (append-nil (blocks_in v p t))))
    (λ t o. length-append (values_of p t) (memories_in p t) ∙ ap₂ (λ (a b : ℕ). a + b) (value_count p t o) (memories_count p t o))
    (block_count p) (λ t o e. can_hold p t s.moment o e) ok (omega arith) cut h

-- a record behind the last
pub blocks_width : (v : Version) (p : Drawing) (s t : Standing) → IsStateOf p s → IsStateOf p t → length (blocks_in v p t) ≡ length (blocks_in v p s)
blocks_width v p s t a b =
    let all = take_all (length p.decls.instances) p.decls.instances (omega arith) in
    ap (λ l. length (each (block_records v) l t.held.kept.blocks)) (sym all)
    ∙ same_width (tells v) block_item p.decls.instances t.held.kept.blocks s.held.kept.blocks (length p.decls.instances) (block_count p t b) (block_count p s a)
    ∙ ap (λ l. length (each (block_records v) l s.held.kept.blocks)) all

pub item_count : (v : Version) (p : Drawing) (s t : Standing) → IsStateOf p s → IsStateOf p t
    → length (item_records v p t) ≡ length p.decls.vars + memories_of p + length (blocks_in v p s)
item_count v p s t a b = omega (
  arith,
  ap length (in_parts v p t),
  length-append (values_of p t) (memories_in p t ++ blocks_in v p t),
  length-append (memories_in p t) (blocks_in v p t),
  value_count p t b,
  memories_count p t b,
  blocks_width v p s t a b,
)

no_more : (r : Fields) (more : List Fields) → take 1 (r ∷ more) ≡ take 1 [] → ⊥
no_more r more e = cc

pub further_bad : (v : Version) (p : Drawing) (s : Standing) (rows more : List Fields) (r : Fields) (n : ℕ) → IsStateOf p s
    → rows ≡ item_records v p s ++ r ∷ more → n ≡ 2 + (length p.decls.vars + memories_of p + length (blocks_in v p s)) + 1 → IsItemsBad v p s rows n
further_bad v p s rows more r n ok cut count =
    let k = length p.decls.vars + memories_of p + length (blocks_in v p s) in
    let whole = item_count v p s s ok ok in
    record {
      before = k;
      count = count;
      front = ap (take k) cut ∙ take_at (item_records v p s) (r ∷ more) k whole ∙ sym (take_all k (item_records v p s) (omega (arith, whole)));
      none = λ t o moment e. no_more r more (same_rest k (item_records v p s) (r ∷ more) (item_records v p t) [] whole (item_count v p s t ok o)
          (sym (ap (take (suc k)) cut) ∙ e ∙ ap (take (suc k)) (sym (append-nil (item_records v p t)))));
    }
