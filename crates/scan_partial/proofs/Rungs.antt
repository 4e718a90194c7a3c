-- Rung by rung: guards by the jumps so far, what a rung leaves, and how long the lists stay.
use Rattle.std.proofs.Common.{◌≡◌, ℕ, ◌+◌, ◌<◌, Bool, false, cond, List, [], ◌∷◌, ◌++◌, map, take, length, set, zero, suc, add-one, refl, sym, ap, ap₂, subst, ◌∙◌, arith, Option, Some, None}
use Rattle.std.proofs.lemmas.List.{get_or-take, length-map, length-set, take_more_set}
use Rattle.diagram_program.specs.declared.geometry.TheConstants.{PLACES}
use Rattle.diagram_program.specs.declared.cell.Cell.{Cell}
use Rattle.diagram_program.specs.declared.cell.Cell.TheVariants.{Contact, Coil, Block}
use Rattle.diagram_declarations.specs.Decls.{is_input}
use Rattle.diagram_program.specs.Program.{Drawing}
use Rattle.scan_signals.specs.Algebra.{Algebra}
use Rattle.scan_cycle.specs.Cells.{Diagram, Frame}
use Rattle.scan_cycle.specs.Rung.{second}
use Rattle.scan_cycle.specs.Programs.{diagram_of}
use Rattle.scan_cycle.specs.Scan.{given}
use Rattle.scan_cycle.proofs.Scanned.{rungs_back, inputs_back}
use Rattle.scan_cycle.proofs.Sizes.{size-put_in, size-given}
use Rattle.scan_symbolic.specs.KnownScan.{meet_where, passes_over, guard_of, taken_by}
use Rattle.scan_symbolic.specs.KnownScan.{Keeping, Known, link_in, frame_in, changed_in, changes_in, evaluated_in, passed, after_known}
use Rattle.scan_partial.specs.Sizes.{AreAsLong, AreRoomy, HasSizes, IsSpareFor, Spare}

-- ---- lengths
pub as_long : {S B : Type 0} (k : Known S B) → AreAsLong k k
as_long k = record { values = refl; memories = refl; blocks = refl }

pub long_then : {S B : Type 0} {k l m : Known S B} → AreAsLong k l → AreAsLong l m → AreAsLong k m
long_then a b = record { values = a.values ∙ b.values; memories = a.memories ∙ b.memories; blocks = a.blocks ∙ b.blocks }

module _ {S B : Type 0} (o : Algebra S) (w : Keeping S B) (d : Diagram) (now : ℕ) where
  one_long : (start : Frame S) (guard : S) (c : Cell) (x y : S) (k : Known S B) → AreAsLong (changed_in o w d now start guard c x y k) k
  one_long start guard (Contact mode operand memory) x y k = record { values = refl; memories = size-put_in k.memories memory _; blocks = refl }
  one_long start guard (Coil mode var memory) x y k = record { values = length-set k.values var _; memories = size-put_in k.memories memory _; blocks = refl }
  one_long start guard (Block inst) x y k = record { values = refl; memories = refl; blocks = length-set k.blocks inst _ }
  one_long start guard _ x y k = as_long k

  changes_long : (j : ℕ) (start : Frame S) (guard : S) (links : ℕ → S) (n : ℕ) (k : Known S B) → AreAsLong (changes_in o w d now j start guard links n k) k
  unfolding changes_in
  changes_long j start guard links zero k = as_long k
  changes_long j start guard links (suc n) k =
      long_then (one_long start guard (d.cell j n) (links n) (second o d j links n) (changes_in o w d now j start guard links n k)) (changes_long j start guard links n k)

  pub rung_long : (j : ℕ) (guard : S) (k : Known S B) → AreAsLong (evaluated_in o w d now j guard k) k
  rung_long j guard k = changes_long j (frame_in w k) guard (link_in o w d now j k) PLACES k

-- what contacts saw has the sizes of what the rung leaves
pub rung_lengths : {S B : Type 0} (o : Algebra S) (w : Keeping S B) (d : Diagram) (now j : ℕ) (guard : S) (k next : Known S B) → next ≡ evaluated_in o w d now j guard k → AreAsLong next k
rung_lengths o w d now j guard k next e = subst (λ (x : Known _ _). AreAsLong x k) (sym e) (rung_long o w d now j guard k)

pub rung_room : {S B : Type 0} (o : Algebra S) (w : Keeping S B) (d : Diagram) (now j : ℕ) (guard : S) (k next : Known S B) (start : Frame S) → start ≡ frame_in w k
    → next ≡ evaluated_in o w d now j guard k → AreRoomy start next
rung_room o w d now j guard k next start s e =
    let long = rung_lengths o w d now j guard k next e in
    record {
      values = ap (λ (f : Frame _). length f.values) s ∙ sym long.values;
      ends = ap (λ (f : Frame _). length f.ends) s ∙ length-map k.blocks w.q ∙ sym long.blocks;
    }

-- ---- guards by the jumps of the rungs before
module _ {S : Type 0} (o : Algebra S) where
  meet_same : (t : ℕ → Bool) (f g : ℕ → S) (n : ℕ) → ((i : ℕ) → i < n → f i ≡ g i) → meet_where o t f n ≡ meet_where o t g n
  unfolding meet_where
  meet_same t f g zero same = refl
  meet_same t f g (suc n) same =
      ap (λ x. cond (t n) (o.meet x (f n)) x) (meet_same t f g n (λ i lt. same i (omega (arith, lt))))
      ∙ ap (λ y. cond (t n) (o.meet (meet_where o t g n) y) (meet_where o t g n)) (same n (omega arith))

  -- a guard reads the jumps of earlier rungs alone
  pub guard_before : (d : Diagram) (taken : List S) (j : ℕ) → guard_of o d taken j ≡ guard_of o d (take j taken) j
  guard_before d taken j =
      meet_same (λ i. passes_over (d.jump i) j) _ _ j (λ i lt. ap o.inverse (sym (get_or-take j taken i (o.known false) lt)))

-- ---- one rung more
pub taken_same : {S : Type 0} (o : Algebra S) (leap : Option (ℕ × ℕ)) (guard : S) (l u : ℕ → S) → ((place target : ℕ) → leap ≡ Some (place, target) → l place ≡ u place)
    → taken_by o leap guard l ≡ taken_by o leap guard u
taken_same o None guard l u h = refl
taken_same o (Some (place, target)) guard l u h = ap (o.meet guard) (h place target refl)

module _ {S B : Type 0} (o : Algebra S) (w : Keeping S B) (d : Diagram) (now : ℕ) (k : Known S B) where
  pub at_first : passed o w d now k 0 ≡ record { known = k; taken = [] }
  unfolding passed
  at_first = refl

  pub known_more : (j : ℕ) (guard : S) (before next : Known S B) (taken : List S) → before ≡ (passed o w d now k j).known → take j taken ≡ (passed o w d now k j).taken
      → guard ≡ guard_of o d taken j → next ≡ evaluated_in o w d now j guard before → next ≡ (passed o w d now k (j + 1)).known
  unfolding passed
  known_more j guard before next taken b t g e =
      e
      ∙ ap₂ (evaluated_in o w d now j) (g ∙ guard_before o d taken j ∙ ap (λ xs. guard_of o d xs j) t) b
      ∙ sym (ap (λ n. (passed o w d now k n).known) (add-one j))

  pub taken_more : (j : ℕ) (guard x : S) (before : Known S B) (taken : List S) → j < length taken → before ≡ (passed o w d now k j).known
      → take j taken ≡ (passed o w d now k j).taken → guard ≡ guard_of o d taken j → x ≡ taken_by o (d.jump j) guard (link_in o w d now j before)
      → take (j + 1) (set taken j x) ≡ (passed o w d now k (j + 1)).taken
  unfolding passed
  taken_more j guard x before taken lt b t g e =
      take_more_set taken j x lt
      ∙ ap₂ (λ xs y. xs ++ y ∷ []) t (e ∙ ap₂ (λ m l. taken_by o (d.jump j) m (link_in o w d now j l)) (g ∙ guard_before o d taken j ∙ ap (λ xs. guard_of o d xs j) t) b)
      ∙ sym (ap (λ n. (passed o w d now k n).taken) (add-one j))

-- ---- a whole scan
pub by_rungs : {S B : Type 0} (o : Algebra S) (w : Keeping S B) (p : Drawing) (now : ℕ) (inputs : List S) (k begun next : Known S B)
    → begun ≡ record k { values = given (map is_input p.decls.vars) inputs k.values } → next ≡ (passed o w (diagram_of p) now begun p.rungs).known
    → next ≡ after_known o w (diagram_of p) now inputs k
by_rungs o w p now inputs k begun next b n =
    n
    ∙ ap (λ m. (passed o w (diagram_of p) now begun m).known) (rungs_back p)
    ∙ ap (λ (x : Known _ _). (passed o w (diagram_of p) now x (diagram_of p).rungs).known)
    (b ∙ ap (λ (fs : List Bool). record k { values = given fs inputs k.values }) (inputs_back p))

pub given_long : {S B : Type 0} (flags : List Bool) (inputs : List S) (k begun : Known S B) → begun ≡ record k { values = given flags inputs k.values } → AreAsLong begun k
given_long flags inputs k begun e =
    subst (λ (x : Known _ _). AreAsLong x k) (sym e) (record { values = size-given flags inputs k.values; memories = refl; blocks = refl })

pub sizes_then : {S B : Type 0} {p : Drawing} {k l : Known S B} → AreAsLong l k → HasSizes p k → HasSizes p l
sizes_then a h = record { values = a.values ∙ h.values; memories = a.memories ∙ h.memories; blocks = a.blocks ∙ h.blocks }

-- ---- buffers
pub room_for : {S B : Type 0} (p : Drawing) (k begun : Known S B) (start : Frame S) (s : Spare) → length start.values ≡ s.variables → length start.ends ≡ s.instances
    → IsSpareFor p s → HasSizes p k → AreAsLong begun k → AreRoomy start begun
room_for p k begun start s v e spare has long = record {
  values = v ∙ spare.variables ∙ sym has.values ∙ sym long.values;
  ends = e ∙ spare.instances ∙ sym has.blocks ∙ sym long.blocks;
}

pub spare_is : (s : Spare) (v i r : ℕ) → v ≡ s.variables → i ≡ s.instances → r ≡ s.rungs → record { variables = v; instances = i; rungs = r } ≡ s
spare_is s v i r e f h =
    let first : record { variables = v; instances = i; rungs = r } ≡ record s { rungs = r } = ap₂ (λ a b. record { variables = a; instances = b; rungs = r }) e f in
    first ∙ ap (λ (n : ℕ). record s { rungs = n }) h
