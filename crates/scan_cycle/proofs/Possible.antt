-- What instances store belongs to their kind and is possible at the moment.
use Rattle.std.proofs.Common.{length, slice_get, Some, ◌≡◌, ℕ, ◌≤◌, Bool, true, false, cond, List, [], ◌∷◌, map, get_or, set, zero, suc, nat_lt, sym, subst, ap, ap₂, ◌∙◌, refl, arith, ℤ, pos, negsuc, ◌+ℤ◌, ◌-ℤ◌, int_lt}
use Rattle.std.specs.Prelude.{FitsSigned}
use Rattle.std.specs.Int.{w16}
use Rattle.std.proofs.lemmas.Int.{ints}
use Rattle.std.proofs.lemmas.Bool.Decides.{nat_tests}
use Rattle.std.proofs.lemmas.List.{length-map}
use Rattle.std.proofs.lemmas.Option.{same_Some}
use Rattle.diagram_program.specs.declared.geometry.TheConstants.{PLACES}
use Rattle.diagram_declarations.specs.declared.kind.BlockKind.{BlockKind}
use Rattle.diagram_declarations.specs.declared.kind.BlockKind.TheVariants.{Ton, Tof, Tp, Ctu, Ctd, Sr, Rs}
use Rattle.diagram_declarations.specs.declared.decls.Instance.{Instance}
use Rattle.diagram_declarations.specs.Kind.{largest_preset}
use Rattle.diagram_program.specs.declared.cell.Cell.{Cell}
use Rattle.diagram_program.specs.declared.cell.Cell.TheVariants.{Block}
use Rattle.scan_signals.specs.declared.block.Stored.{Stored}
use Rattle.scan_signals.specs.declared.block.Stored.TheVariants.{Timer, Counter, Bistable}
use Rattle.scan_signals.specs.Truth.{plain}
use Rattle.scan_signals.specs.Blocks.{step, new_block}
use Rattle.scan_signals.proofs.Counters.{counted_up, counted_down}
use Rattle.diagram_program.specs.Program.{Drawing, block_in}
use Rattle.scan_cycle.specs.Cells.{Diagram, Frame, Kept, put_in}
use Rattle.scan_cycle.proofs.Changes.{stepped, changed_is}
use Rattle.scan_cycle.proofs.Kept.{stored_of}
use Rattle.scan_cycle.specs.Rung.{Held, second, changes, frame_of, link_at, evaluated}
use Rattle.scan_cycle.specs.Scan.{next_rung}
use Rattle.scan_cycle.specs.Programs.{IsSound}
use Rattle.scan_cycle.specs.RungByRung.{Scanned, scanned, ArePossible, IsPossible, shape}
use Rattle.scan_cycle.specs.Standing.{fresh, AreSound, CanStore}

-- ---- what an instance can store: its shape, and what is possible

pub can_shape : (kind : BlockKind) (moment : ℕ) (s : Stored) → CanStore kind moment s → shape s ≡ new_block kind
can_shape kind moment (Timer last running start q) h = sym h.0
can_shape kind moment (Counter last cv q) h = sym h.0
can_shape kind moment (Bistable q) h = sym h

pub can_possible : (kind : BlockKind) (moment : ℕ) (s : Stored) → CanStore kind moment s → IsPossible moment s
can_possible kind moment (Timer last running start q) h = (h.1, h.2)
can_possible kind moment (Counter last cv q) h = h.1
can_possible kind moment (Bistable q) h = tt

pub can_store : (kind : BlockKind) (moment : ℕ) (s : Stored) → shape s ≡ new_block kind → IsPossible moment s → CanStore kind moment s
can_store kind moment (Timer last running start q) e p = (sym e, p.0, p.1)
can_store kind moment (Counter last cv q) e p = (sym e, p)
can_store kind moment (Bistable q) e p = sym e

abbrev EachCan : List BlockKind → List Stored → ℕ → Type 0
EachCan kinds blocks moment = (i : ℕ) (kind : BlockKind) (s : Stored) → slice_get kinds i ≡ Some kind → slice_get blocks i ≡ Some s → CanStore kind moment s

each_shape : (kinds : List BlockKind) (blocks : List Stored) (moment : ℕ) → length blocks ≡ length kinds → EachCan kinds blocks moment → map shape blocks ≡ map new_block kinds
each_shape [] [] moment h e = refl
each_shape [] (b ∷ bs) moment h e = absurd (omega (arith, h))
each_shape (k ∷ ks) [] moment h e = absurd (omega (arith, h))
each_shape (k ∷ ks) (b ∷ bs) moment h e =
    ap₂ (λ (a : Stored) (l : List Stored). a ∷ l) (can_shape k moment b (e 0 k b refl refl))
    (each_shape ks bs moment (omega (arith, h)) (λ i x y p q. e (suc i) x y p q))

each_possible : (kinds : List BlockKind) (blocks : List Stored) (moment : ℕ) → length blocks ≡ length kinds → EachCan kinds blocks moment → ArePossible moment blocks
each_possible kinds [] moment h e i = (omega arith, λ o. refl)
each_possible [] (b ∷ bs) moment h e i = absurd (omega (arith, h))
each_possible (k ∷ ks) (b ∷ bs) moment h e zero = can_possible k moment b (e 0 k b refl refl)
each_possible (k ∷ ks) (b ∷ bs) moment h e (suc i) = each_possible ks bs moment (omega (arith, h)) (λ j x y p q. e (suc j) x y p q) i

pub sound_shapes : (kinds : List BlockKind) (blocks : List Stored) (moment : ℕ) → AreSound kinds blocks moment → map shape blocks ≡ map new_block kinds
sound_shapes kinds blocks moment s = each_shape kinds blocks moment s.as_many s.each

pub sound_possible : (kinds : List BlockKind) (blocks : List Stored) (moment : ℕ) → AreSound kinds blocks moment → ArePossible moment blocks
sound_possible kinds blocks moment s = each_possible kinds blocks moment s.as_many s.each

each_can : (kinds : List BlockKind) (blocks : List Stored) (moment : ℕ) → map shape blocks ≡ map new_block kinds → ArePossible moment blocks → EachCan kinds blocks moment
each_can [] blocks moment s p i k b e f = cc
each_can (x ∷ ks) [] moment s p i k b e f = cc
each_can (x ∷ ks) (y ∷ bs) moment s p zero k b e f =
    let t : shape y ≡ new_block x = cc in
    subst (λ z. CanStore z moment b) (same_Some _ _ e) (subst (λ z. CanStore x moment z) (same_Some _ _ f) (can_store x moment y t (p 0)))
each_can (x ∷ ks) (y ∷ bs) moment s p (suc i) k b e f =
    let t : map shape bs ≡ map new_block ks = cc in each_can ks bs moment t (λ j. p (suc j)) i k b e f

pub are_sound : (kinds : List BlockKind) (blocks : List Stored) (moment : ℕ) → map shape blocks ≡ map new_block kinds → ArePossible moment blocks → AreSound kinds blocks moment
are_sound kinds blocks moment s p = record {
  as_many = sym (length-map blocks shape) ∙ ap length s ∙ length-map kinds new_block;
  each = each_can kinds blocks moment s p;
}

-- ---- before the first scan

zero_fits : FitsSigned w16 (pos 0)
zero_fits = grind (arith, ints, nat_tests)

new_one : (kind : BlockKind) → IsPossible 0 (new_block kind)
new_one Ctu = zero_fits
new_one Ctd = zero_fits
new_one Sr = tt
new_one Rs = tt
new_one _ = (omega arith, λ e. refl)

new_possible : (instances : List Instance) → ArePossible 0 (map (λ i. new_block i.kind) instances)
new_possible [] i = (omega arith, λ e. refl)
new_possible (x ∷ xs) zero = new_one x.kind
new_possible (x ∷ xs) (suc i) = new_possible xs i

new_shape : (kind : BlockKind) → shape (new_block kind) ≡ new_block kind
new_shape Ton = refl
new_shape _ = refl

new_shapes : (instances : List Instance) → map shape (map (λ i. new_block i.kind) instances) ≡ map new_block (map (λ i. i.kind) instances)
new_shapes [] = refl
new_shapes (x ∷ xs) = ap₂ (λ (a : Stored) (l : List Stored). a ∷ l) (new_shape x.kind) (new_shapes xs)

pub fresh_sound : (p : Drawing) (h : Held) (kinds : List BlockKind) → h ≡ (fresh p).held → kinds ≡ map (λ i. i.kind) p.decls.instances → AreSound kinds h.kept.blocks 0
fresh_sound p h kinds e k =
    let b : h.kept.blocks ≡ map (λ i. new_block i.kind) p.decls.instances = ap (λ (x : Held). x.kept.blocks) e in
    are_sound kinds h.kept.blocks 0 (rw (b, k) (new_shapes p.decls.instances)) (subst (λ (bs : List Stored). ArePossible 0 bs) (sym b) (new_possible p.decls.instances))

-- ---- a step

below : (b : Bool) (x y now : ℕ) → x ≤ now → y ≤ now → cond b x y ≤ now
below true x y now h k = h
below false x y now h k = k

-- where a timer does not run its start is 0
off_zero : (b : Bool) (x : ℕ) → b ≡ false → cond b x 0 ≡ 0
off_zero true x e = cc
off_zero false x e = refl

start_possible : (runs : Bool) (since now : ℕ) → since ≤ now → (cond runs since 0 ≤ now) × (runs ≡ false → cond runs since 0 ≡ 0)
start_possible runs since now h = (below runs since 0 now h (omega arith), λ e. off_zero runs since e)

ton_possible : (on q : Bool) (since now : ℕ) → since ≤ now → IsPossible now (cond on (Timer true true since q) (Timer false false 0 false))
ton_possible true q since now h = (h, λ e. cc)
ton_possible false q since now h = (omega arith, λ e. refl)

tof_possible : (on runs : Bool) (since now : ℕ) → since ≤ now → IsPossible now (cond on (Timer true false 0 true) (Timer false runs (cond runs since 0) runs))
tof_possible true runs since now h = (omega arith, λ e. refl)
tof_possible false runs since now h = start_possible runs since now h

tp_possible : (stays begins on : Bool) (start now : ℕ) → start ≤ now
    → IsPossible now (cond stays (Timer on true start true) (cond begins (Timer on true now true) (Timer on false 0 false)))
tp_possible true begins on start now h = (h, λ e. cc)
tp_possible false true on start now h = (omega arith, λ e. cc)
tp_possible false false on start now h = (omega arith, λ e. refl)

up_one : (cv : ℤ) → FitsSigned w16 cv → FitsSigned w16 (cond (int_lt cv (pos 32767)) (cv +ℤ pos 1) cv)
up_one cv h = grind (arith, ints, nat_tests)

up_fits : (last on reset : Bool) (cv : ℤ) → FitsSigned w16 cv → FitsSigned w16 (counted_up last cv on reset)
up_fits last on true cv h = zero_fits
up_fits last false false cv h = h
up_fits true true false cv h = h
up_fits false true false cv h = up_one cv h

down_one : (cv : ℤ) → FitsSigned w16 cv → FitsSigned w16 (cond (int_lt (negsuc 32767) cv) (cv -ℤ pos 1) cv)
down_one cv h = grind (arith, ints, nat_tests)

down_fits : (preset : ℕ) (last on load : Bool) (cv : ℤ) → preset ≤ 32767 → FitsSigned w16 cv → FitsSigned w16 (counted_down preset last cv on load)
down_fits preset last on true cv p h = grind (arith, ints, nat_tests)
down_fits preset last false false cv p h = h
down_fits preset true true false cv p h = h
down_fits preset false true false cv p h = down_one cv h

step_possible : (kind : BlockKind) (preset : ℕ) (s : Stored) (on second : Bool) (now : ℕ) → preset ≤ largest_preset kind
    → IsPossible now s → IsPossible now (step kind preset s on second now)
unfolding step
step_possible Ton preset (Timer last running start q) on second now p h = ton_possible on _ _ now (below running start now now h.0 (omega arith))
step_possible Tof preset (Timer last running start q) on second now p h = tof_possible on _ _ now (below last now start now (omega arith) h.0)
step_possible Tp preset (Timer last running start q) on second now p h = tp_possible _ _ on start now h.0
step_possible Ctu preset (Counter last cv q) on second now p h = up_fits last on second cv h
step_possible Ctd preset (Counter last cv q) on second now p h = down_fits preset last on second cv p h
step_possible Ton preset (Bistable q) on second now p h = tt
step_possible Tof preset (Bistable q) on second now p h = tt
step_possible Tp preset (Bistable q) on second now p h = tt
step_possible Ctu preset (Bistable q) on second now p h = tt
step_possible Ctd preset (Bistable q) on second now p h = tt
step_possible Sr preset (Bistable q) on second now p h = tt
step_possible Rs preset (Bistable q) on second now p h = tt
step_possible _ preset _ on second now p h = h

either_shape : (b : Bool) (x y z : Stored) → shape x ≡ z → shape y ≡ z → shape (cond b x y) ≡ z
either_shape true x y z h k = h
either_shape false x y z h k = k

tp_shape : (stays begins on : Bool) (start now : ℕ)
    → shape (cond stays (Timer on true start true) (cond begins (Timer on true now true) (Timer on false 0 false))) ≡ Timer false false 0 false
tp_shape true begins on start now = refl
tp_shape false true on start now = refl
tp_shape false false on start now = refl

-- a step keeps the shape
pub step_shape : (kind : BlockKind) (preset : ℕ) (s : Stored) (on second : Bool) (now : ℕ) → shape (step kind preset s on second now) ≡ shape s
unfolding step
step_shape Ton preset (Timer last running start q) on second now = either_shape on _ _ _ refl refl
step_shape Tof preset (Timer last running start q) on second now = either_shape on _ _ _ refl refl
step_shape Tp preset (Timer last running start q) on second now = tp_shape _ _ on start now
step_shape Ctu preset (Timer last running start q) on second now = refl
step_shape Ctd preset (Timer last running start q) on second now = refl
step_shape Sr preset (Timer last running start q) on second now = refl
step_shape Rs preset (Timer last running start q) on second now = refl
step_shape _ preset _ on second now = refl

pub set_possible : (now : ℕ) (bs : List Stored) (n : ℕ) (s : Stored) → ArePossible now bs → IsPossible now s → ArePossible now (set bs n s)
set_possible now [] n s h t i = h i
set_possible now (b ∷ bs) zero s h t zero = t
set_possible now (b ∷ bs) zero s h t (suc i) = h (suc i)
set_possible now (b ∷ bs) (suc n) s h t zero = h 0
set_possible now (b ∷ bs) (suc n) s h t (suc i) = set_possible now bs n s (λ j. h (suc j)) t i

-- what stands in place of another of its shape
set_shape : (bs : List Stored) (n : ℕ) (s : Stored) → shape s ≡ shape (get_or bs n (new_block Ton)) → map shape (set bs n s) ≡ map shape bs
set_shape [] n s e = refl
set_shape (b ∷ bs) zero s e = ap (λ (a : Stored). a ∷ map shape bs) e
set_shape (b ∷ bs) (suc n) s e = ap (λ (l : List Stored). shape b ∷ l) (set_shape bs n s e)

same_shape : (bs : List Stored) (kinds : List BlockKind) (n : ℕ) → map shape bs ≡ map new_block kinds → shape (get_or bs n (new_block Ton)) ≡ new_block (get_or kinds n Ton)
same_shape [] [] n e = refl
same_shape [] (k ∷ kinds) n e = let bad : 0 ≡ suc (length (map new_block kinds)) = ap length e in absurd (omega (arith, bad))
same_shape (b ∷ bs) [] n e = let bad : suc (length (map shape bs)) ≡ 0 = ap length e in absurd (omega (arith, bad))
same_shape (b ∷ bs) (k ∷ kinds) zero e = cc
same_shape (b ∷ bs) (k ∷ kinds) (suc n) e = let t : map shape bs ≡ map new_block kinds = cc in same_shape bs kinds n t

pub set_shapes : (bs : List Stored) (kinds : List BlockKind) (n : ℕ) (s : Stored) → map shape bs ≡ map new_block kinds → shape s ≡ new_block (get_or kinds n Ton)
    → map shape (set bs n s) ≡ map new_block kinds
set_shapes bs kinds n s e h = set_shape bs n s (h ∙ sym (same_shape bs kinds n e)) ∙ e

cell_possible : (d : Diagram) → IsSound d → (now : ℕ) (k : Kept) (c : Cell) (x y : Bool) → ArePossible now k.blocks
    → ArePossible now (put_in k.blocks (block_in c) (stepped d now c (stored_of k c) x y))
cell_possible d w now k (Block inst) x y h = set_possible now k.blocks inst _ h (step_possible (d.kind inst) (d.preset inst) _ x y now (w.presets inst) (h inst))
cell_possible d w now k _ x y h = h

cell_shapes : (d : Diagram) (now : ℕ) (k : Kept) (c : Cell) (x y : Bool) → map shape (put_in k.blocks (block_in c) (stepped d now c (stored_of k c) x y)) ≡ map shape k.blocks
cell_shapes d now k (Block inst) x y = set_shape k.blocks inst _ (step_shape (d.kind inst) (d.preset inst) (get_or k.blocks inst (new_block Ton)) x y now)
cell_shapes d now k _ x y = refl

changes_possible : (d : Diagram) → IsSound d → (now j : ℕ) (start : Frame Bool) (links : ℕ → Bool) (n : ℕ) (h : Held)
    → ArePossible now h.kept.blocks → ArePossible now (changes d now j start links n h).kept.blocks
unfolding changes
changes_possible d w now j start links zero h t = t
changes_possible d w now j start links (suc n) h t =
    let m = changes d now j start links n h in
    subst (λ (x : Held). ArePossible now x.kept.blocks) (sym (changed_is d now start (d.cell j n) (links n) (second plain d j links n) m))
    (cell_possible d w now m.kept (d.cell j n) (links n) (second plain d j links n) (changes_possible d w now j start links n h t))

changes_shapes : (d : Diagram) (now j : ℕ) (start : Frame Bool) (links : ℕ → Bool) (n : ℕ) (h : Held) → map shape (changes d now j start links n h).kept.blocks ≡ map shape h.kept.blocks
unfolding changes
changes_shapes d now j start links zero h = refl
changes_shapes d now j start links (suc n) h =
    ap (λ (x : Held). map shape x.kept.blocks) (changed_is d now start (d.cell j n) (links n) (second plain d j links n) (changes d now j start links n h))
    ∙ cell_shapes d now (changes d now j start links n h).kept (d.cell j n) (links n) (second plain d j links n) ∙ changes_shapes d now j start links n h

abbrev next : Diagram → ℕ → ℕ → Scanned → Scanned
next d now n s = record { held = evaluated d now n s.held; resume = next_rung d now n s.held }

either_possible : (d : Diagram) → IsSound d → (now n : ℕ) (s : Scanned) (b : Bool) → ArePossible now s.held.kept.blocks → ArePossible now (cond b s (next d now n s)).held.kept.blocks
either_possible d w now n s true t = t
either_possible d w now n s false t = changes_possible d w now n (frame_of s.held) (link_at d now n s.held) PLACES s.held t

either_shapes : (d : Diagram) (now n : ℕ) (s : Scanned) (b : Bool) → map shape (cond b s (next d now n s)).held.kept.blocks ≡ map shape s.held.kept.blocks
either_shapes d now n s true = refl
either_shapes d now n s false = changes_shapes d now n (frame_of s.held) (link_at d now n s.held) PLACES s.held

pub scanned_possible : (d : Diagram) → IsSound d → (now : ℕ) (h : Held) → ArePossible now h.kept.blocks → (n : ℕ) → ArePossible now (scanned d now h n).held.kept.blocks
unfolding scanned
scanned_possible d w now h t zero = t
scanned_possible d w now h t (suc n) = either_possible d w now n (scanned d now h n) (nat_lt n (scanned d now h n).resume) (scanned_possible d w now h t n)

pub scanned_shapes : (d : Diagram) (now : ℕ) (h : Held) (n : ℕ) → map shape (scanned d now h n).held.kept.blocks ≡ map shape h.kept.blocks
unfolding scanned
scanned_shapes d now h zero = refl
scanned_shapes d now h (suc n) = either_shapes d now n (scanned d now h n) (nat_lt n (scanned d now h n).resume) ∙ scanned_shapes d now h n

later_one : (m now : ℕ) (s : Stored) → m ≤ now → IsPossible m s → IsPossible now s
later_one m now (Timer last running start q) h t = (omega (arith, t.0), t.1)
later_one m now (Counter last cv q) h t = t
later_one m now (Bistable q) h t = t

later : (m now : ℕ) (bs : List Stored) → m ≤ now → ArePossible m bs → ArePossible now bs
later m now bs h t i = later_one m now (get_or bs i (new_block Ton)) h (t i)

-- what a scan leaves
pub after_sound : (m now : ℕ) (kinds : List BlockKind) (bs cs : List Stored) → AreSound kinds bs m → m ≤ now → map shape cs ≡ map shape bs
    → (ArePossible now bs → ArePossible now cs) → AreSound kinds cs now
after_sound m now kinds bs cs s h e f = are_sound kinds cs now (e ∙ sound_shapes kinds bs m s) (f (later m now bs h (sound_possible kinds bs m s)))

-- a later moment
pub later_sound : (m now : ℕ) (kinds : List BlockKind) (bs : List Stored) → AreSound kinds bs m → m ≤ now → AreSound kinds bs now
later_sound m now kinds bs s h = after_sound m now kinds bs bs s h refl (λ p. p)
