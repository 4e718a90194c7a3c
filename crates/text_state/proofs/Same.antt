-- Records tell the state: two states with the same records are one.
use Rattle.std.proofs.Common.{◌≡◌, ◌<◌, ◌∙◌, ◌^◌, ◌∷◌, ◌++◌, inl, inr, [], if◌then◌else◌, ℕ, suc, Bool, true, false, List, Ok, Err, Some, refl, sym, ap, ap₂, subst, arith, drop, get_or, length, slice_get, take}
use Rattle.std.proofs.lemmas.Fmt.{decimal_injective, signed_decimal_injective}
use Rattle.std.proofs.lemmas.Option.{same_Some}
use Rattle.io_text.specs.Left.{Fields}
use Rattle.io_text.specs.Text.{bit_text, records_of}
use Rattle.text_state.specs.declared.fault.StateFault.TheVariants as fault
use Rattle.diagram_declarations.specs.declared.decls.Instance.{Instance}
use Rattle.diagram_declarations.specs.declared.decls.Var.{Var}
use Rattle.diagram_program.specs.Program.{Drawing}
use Rattle.scan_signals.specs.declared.block.Stored.{Stored}
use Rattle.scan_signals.specs.declared.block.Stored.TheVariants.{Timer, Counter, Bistable}
use Rattle.scan_cycle.specs.RungByRung.{IsPossible, shape}
use Rattle.scan_cycle.specs.Standing.{Standing}
use Rattle.scan_cycle.proofs.Possible.{can_possible, can_shape}
use Rattle.text_state.specs.Laws.{ReadsBack, TellsOneState}
use Rattle.text_state.specs.Parts.{block_item, each, every, some, tells}
use Rattle.text_state.specs.StateText.{AreTold, IsStateOf, block_record, memory_places, memory_record, state_records, state_text, var_record}
use Rattle.text_state.specs.declared.version.Version.{Version}
use Rattle.text_state.specs.declared.version.Version.TheVariants.{Second}
use Rattle.text_state.proofs.Heads.{begins, moment_same, told_second, version_same}
use Rattle.text_state.proofs.Segments.{block_count, blocks_in, can_hold, in_parts, memories_count, memories_in, memory_count, value_count, values_of}

-- ---- one record

bit_same : (a b : Bool) → bit_text a ≡ bit_text b → a ≡ b
bit_same true true e = refl
bit_same true false e = let bad : 49 ≡ 48 = ap (λ l. get_or l 0 0) e in absurd (omega (arith, bad))
bit_same false true e = let bad : 48 ≡ 49 = ap (λ l. get_or l 0 0) e in absurd (omega (arith, bad))
bit_same false false e = refl

field_same : (n : ℕ) (a b : Fields) → a ≡ b → get_or a n [] ≡ get_or b n []
field_same n a b e = ap (λ fields. get_or fields n []) e

var_same : (v : Var) (a b : Bool) → var_record v a ≡ var_record v b → a ≡ b
var_same v a b e = bit_same a b (field_same 2 (var_record v a) (var_record v b) e)

memory_same : (place : ℕ) (a b : Bool) → memory_record place a ≡ memory_record place b → a ≡ b
memory_same place a b e = bit_same a b (field_same 4 (memory_record place a) (memory_record place b) e)

block_same : (name : List ℕ) (moment : ℕ) (s t : Stored) → moment < 2 ^ 64 → shape s ≡ shape t → IsPossible moment s → IsPossible moment t
    → block_record name s ≡ block_record name t → s ≡ t
block_same name moment (Timer l r n q) (Timer l2 r2 n2 q2) m k h j e =
    let field = λ (i : ℕ). field_same i (block_record name (Timer l r n q)) (block_record name (Timer l2 r2 n2 q2)) e in
    let last : l ≡ l2 = bit_same l l2 (field 2) in
    let running : r ≡ r2 = bit_same r r2 (field 3) in
    let start : n ≡ n2 = decimal_injective n n2 (omega (arith, h.0)) (omega (arith, j.0)) (field 4) in
    let on : q ≡ q2 = bit_same q q2 (field 5) in
    rw (last, running, start, on) refl
block_same name moment (Counter l z q) (Counter l2 z2 q2) m k h j e =
    let field = λ (i : ℕ). field_same i (block_record name (Counter l z q)) (block_record name (Counter l2 z2 q2)) e in
    let last : l ≡ l2 = bit_same l l2 (field 2) in
    let value : z ≡ z2 = signed_decimal_injective z z2 (omega (arith, h.sfits)) (omega (arith, j.sfits)) (field 3) in
    let on : q ≡ q2 = bit_same q q2 (field 4) in
    rw (last, value, on) refl
block_same name moment (Bistable q) (Bistable q2) m k h j e =
    ap (λ b. Bistable b) (bit_same q q2 (field_same 2 (block_record name (Bistable q)) (block_record name (Bistable q2)) e))
block_same name moment _ _ m k h j e = cc

-- ---- lists of them

-- the first records, if there are any, and the rest
some_split : (b : Bool) (r t : Fields) (m n : List Fields) → (if b then r ∷ [] else []) ++ m ≡ (if b then t ∷ [] else []) ++ n → (b ≡ true → r ≡ t) × (m ≡ n)
some_split true r t m n e = (λ _. ap (λ l. get_or l 0 []) e, ap (drop 1) e)
some_split false r t m n e = (λ h. let bad : true ≡ false = sym h in cc, e)

each_same : {A B : Type 0} (has : A → Bool) (item : A → B → Fields) (xs : List A) (ys zs : List B) → length ys ≡ length xs → length zs ≡ length xs
    → ((i : ℕ) (x : A) (y z : B) → slice_get xs i ≡ Some x → slice_get ys i ≡ Some y → slice_get zs i ≡ Some z → (has x ≡ true → item x y ≡ item x z) → y ≡ z)
    → each (some has item) xs ys ≡ each (some has item) xs zs → ys ≡ zs
each_same has item [] [] [] h k same e = refl
each_same has item [] (y ∷ ys) zs h k same e = absurd (omega (arith, h))
each_same has item [] [] (z ∷ zs) h k same e = absurd (omega (arith, k))
each_same has item (x ∷ xs) [] zs h k same e = absurd (omega (arith, h))
each_same has item (x ∷ xs) (y ∷ ys) [] h k same e = absurd (omega (arith, k))
each_same has item (x ∷ xs) (y ∷ ys) (z ∷ zs) h k same e =
    let parts = some_split (has x) (item x y) (item x z) (each (some has item) xs ys) (each (some has item) xs zs) e in
    ap₂ (λ (a : _) (l : List _). a ∷ l) (same 0 x y z refl refl refl parts.0)
    (each_same has item xs ys zs (omega (arith, h)) (omega (arith, k)) (λ i a b c p q r f. same (suc i) a b c p q r f) parts.1)

same_front : (a b c d : List Fields) → length a ≡ length b → a ++ c ≡ b ++ d → (a ≡ b) × (c ≡ d)
same_front [] [] c d h e = (refl, e)
same_front [] (y ∷ b) c d h e = absurd (omega (arith, h))
same_front (x ∷ a) [] c d h e = absurd (omega (arith, h))
same_front (x ∷ a) (y ∷ b) c d h e =
    let rest = same_front a b c d (omega (arith, h)) (ap (drop 1) e) in
    (ap₂ (λ (r : Fields) (l : List Fields). r ∷ l) (ap (λ l. get_or l 0 []) e) rest.0, rest.1)

-- what an instance stores, by its record or without one
stored_same : (v : Version) (p : Drawing) (s t : Standing) (ok : IsStateOf p s) → IsStateOf p t → t.moment ≡ s.moment
    → AreTold v p.decls.instances s.held.kept.blocks → AreTold v p.decls.instances t.held.kept.blocks → (b : Bool) (i : ℕ) (x : Instance) (y z : Stored) → tells v x ≡ b
    → slice_get p.decls.instances i ≡ Some x → slice_get s.held.kept.blocks i ≡ Some y → slice_get t.held.kept.blocks i ≡ Some z
    → (b ≡ true → block_item x y ≡ block_item x z) → y ≡ z
stored_same v p s t ok fine m told known true i x y z has e f g same =
    let can = can_hold p s s.moment ok refl i x y e f in
    let may = can_hold p t s.moment fine m i x z e g in
    block_same x.name s.moment y z ok.standing.small (can_shape x.kind s.moment y can ∙ sym (can_shape x.kind s.moment z may)) (can_possible x.kind s.moment y can) (can_possible x.kind s.moment z may) (same refl)
stored_same v p s t ok fine m told known false i x y z lacks e f g same =
    same_Some _ _ (sym f ∙ told i x e lacks ∙ sym (known i x e lacks) ∙ g)

-- ---- the state

abbrev pub RecordsTell : Version → Drawing → Standing → Standing → Type 0
RecordsTell v p s t = state_records v p s ≡ state_records v p t

moments_same : (v : Version) (p : Drawing) (s t : Standing) → IsStateOf p s → IsStateOf p t → RecordsTell v p s t → s.moment ≡ t.moment
moments_same v p s t ok fine e = moment_same s.moment t.moment ok.standing.small fine.standing.small (ap (λ rows. get_or rows 1 []) e)

values_same : (v : Version) (p : Drawing) (s t : Standing) → IsStateOf p s → IsStateOf p t → RecordsTell v p s t
    → (s.held.values ≡ t.held.values) × (memories_in p s ++ blocks_in v p s ≡ memories_in p t ++ blocks_in v p t)
values_same v p s t ok fine e =
    let parts = same_front (values_of p s) (values_of p t) (memories_in p s ++ blocks_in v p s) (memories_in p t ++ blocks_in v p t)
    (value_count p s ok ∙ sym (value_count p t fine)) (sym (in_parts v p s) ∙ ap (drop 2) e ∙ in_parts v p t) in
    (each_same every var_record p.decls.vars s.held.values t.held.values ok.fits.values fine.fits.values (λ i x y z a b c same. var_same x y z (same refl)) parts.0, parts.1)

memories_same : (v : Version) (p : Drawing) (s t : Standing) → IsStateOf p s → IsStateOf p t → memories_in p s ++ blocks_in v p s ≡ memories_in p t ++ blocks_in v p t
    → (s.held.kept.memories ≡ t.held.kept.memories) × (blocks_in v p s ≡ blocks_in v p t)
memories_same v p s t ok fine e =
    let parts = same_front (memories_in p s) (memories_in p t) (blocks_in v p s) (blocks_in v p t) (memories_count p s ok ∙ sym (memories_count p t fine)) e in (
      each_same every memory_record (memory_places p) s.held.kept.memories t.held.kept.memories (memory_count p s ok) (memory_count p t fine) (λ i x y z a b c same. memory_same x y z (same refl)) parts.0,
      parts.1,
    )

state_same : (v : Version) (p : Drawing) (s t : Standing) → IsStateOf p s → IsStateOf p t → AreTold v p.decls.instances s.held.kept.blocks
    → AreTold v p.decls.instances t.held.kept.blocks → RecordsTell v p s t → s ≡ t
state_same v p s t ok fine told known e =
    let moment = moments_same v p s t ok fine e in
    let first = values_same v p s t ok fine e in
    let second = memories_same v p s t ok fine first.1 in
    let blocks = each_same (tells v) block_item p.decls.instances s.held.kept.blocks t.held.kept.blocks (block_count p s ok) (block_count p t fine)
    (λ i x y z a b c same. stored_same v p s t ok fine (sym moment) told known (tells v x) i x y z refl a b c same) second.1 in
    let kinds = ok.fits.kinds ∙ sym fine.fits.kinds in
    let whole : s ≡ record { held = record { values = t.held.values; kept = record { memories = t.held.kept.memories; blocks = t.held.kept.blocks } }; kinds = t.kinds; moment = t.moment }
    = rw (← first.0, ← second.0, ← blocks, ← kinds, ← moment) refl in whole

pub one_state : (p : Drawing) → TellsOneState p
one_state p s t rows ok fine h k =
    let e = sym h.same ∙ k.same in
    let version = version_same h.version k.version (ap (λ l. get_or l 0 []) e) in
    state_same k.version p s t ok fine (subst (λ v. AreTold v p.decls.instances s.held.kept.blocks) version h.told) k.told (ap (λ v. state_records v p s) (sym version) ∙ e)

-- ---- what is written is read back

pub read_back : (p : Drawing) → ((s : Standing) → IsStateOf p s → records_of (state_text p s) ≡ state_records Second p s) → ReadsBack p
read_back p rows s (Ok t) ok h =
    inl (ap (λ (u : Standing). Ok u) (one_state p t s (records_of (state_text p s)) h.0 ok h.1 (record { version = Second; told = told_second p.decls.instances s.held.kept.blocks; same = rows s ok })))
read_back p rows s (Err fault.Memory) ok h = inr refl
read_back p rows s (Err (fault.BadRow n)) ok h =
    absurd (h.none (begins p s Second (records_of (state_text p s)) n ok (told_second p.decls.instances s.held.kept.blocks) (ap (take n) (rows s ok))))
