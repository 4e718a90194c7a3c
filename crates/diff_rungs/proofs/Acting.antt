-- What two rungs write by the same links.
use Rattle.std.proofs.Common.{◌≡◌, ◌∙◌, ◌+◌, ◌<◌, ◌≤◌, ℕ, Bool, false, List, [], ◌∷◌, ◌++◌, Some, ap, ap₂, get_or, length, refl, subst, sym, take}
use Rattle.std.proofs.lemmas.List.{take_all, take_more}
use Rattle.diagram_declarations.specs.declared.kind.BlockKind.{BlockKind}
use Rattle.diagram_program.specs.declared.cell.Cell.{Cell}
use Rattle.diagram_program.specs.declared.cell.Cell.TheVariants.{Contact, Coil, Block}
use Rattle.diagram_program.specs.declared.gates.Action.{Action}
use Rattle.diagram_program.specs.declared.mode.CoilMode.{CoilMode}
use Rattle.diagram_program.specs.declared.mode.CoilMode.TheVariants.{Store, Inverse, Set, Reset, Rising, Falling}
use Rattle.diagram_program.specs.Gates.{actions_of, gates_of}
use Rattle.diagram_program.specs.Program.{Drawing}
use Rattle.scan_signals.specs.declared.block.Stored.{Stored}
use Rattle.scan_signals.specs.Blocks.{step}
use Rattle.scan_signals.specs.Truth.{plain}
use Rattle.scan_cycle.specs.Cells.{Diagram, Frame, at, coil_value, memory_of, stored_by, var_in}
use Rattle.scan_cycle.specs.Gating.{among, changes_of}
use Rattle.scan_cycle.specs.Programs.{diagram_of}
use Rattle.scan_cycle.specs.Rung.{Held, changed, evaluated, frame_of}
use Rattle.scan_cycle.proofs.Changes.{changed_by, changed_is, remembered, stepped}
use Rattle.scan_cycle.proofs.Kept.{stored_of}
use Rattle.diff_matching.specs.Matching.{Matching}
use Rattle.diff_rungs.specs.declared.marks.Marks.{Marks}
use Rattle.diff_rungs.specs.declared.marks.Side.{Side}
use Rattle.diff_rungs.specs.declared.marks.Side.TheVariants.{Old, New}
use Rattle.diff_rungs.specs.declared.writing.Coil as declared
use Rattle.diff_rungs.specs.Marks.{AreCellsRestored, HaveSameMarks, IsCellSpoiled}
use Rattle.diff_rungs.specs.Reading.{AreEach, GiveSame}
use Rattle.diff_rungs.specs.Same.{AreSame, From}
use Rattle.diff_rungs.specs.Writing.{ActSame, AreActionsSpoiled, CoilReadsSame, KeepSame, RungsKeepSame, WriteSame}
use Rattle.diff_rungs.proofs.Linking.{by_links, links_of, links_same}
use Rattle.diff_rungs.proofs.States.{changed_same, copied_same, fewer_same, instance_same, memory_same, operand_same, restored_same, variable_same}

step_alike : (kind other : BlockKind) (preset set : ℕ) (s t : Stored) (now : ℕ) (x y : Bool) → kind ≡ other → preset ≡ set → s ≡ t
    → step kind preset s x y now ≡ step other set t x y now
step_alike kind other preset set s t now x y e f g =
    ap (λ k. step k preset s x y now) e ∙ ap (λ n. step other n s x y now) f ∙ ap (λ b. step other set b x y now) g

module _ (m : Matching) (c : Marks) (h g : Held) (same : AreSame m c h g) where
  coil_same : (mode : CoilMode) (a b : declared.Coil) → CoilReadsSame m c mode a b → (x : Bool)
      → stored_by plain mode x (at h.kept.memories a.memory false) (at h.values (Some a.var) false)
      ≡ stored_by plain mode x (at g.kept.memories b.memory false) (at g.values (Some b.var) false)
  coil_same Store a b is x = refl
  coil_same Inverse a b is x = refl
  coil_same Set a b is x = ap (λ v. stored_by plain Set x false v) (variable_same m c h g same a.var b.var is)
  coil_same Reset a b is x = ap (λ v. stored_by plain Reset x false v) (variable_same m c h g same a.var b.var is)
  coil_same Rising a b is x = ap (λ v. stored_by plain Rising x v false) (memory_same m c h g same a.memory b.memory is)
  coil_same Falling a b is x = ap (λ v. stored_by plain Falling x v false) (memory_same m c h g same a.memory b.memory is)

-- What two cells write is the same.
record Written (p q : Drawing) (now : ℕ) (s t h g : Held) (x y : Bool) (a b : Cell) : Type 0 where
  value : coil_value plain a x (memory_of h.kept a) (at h.values (var_in a) false) ≡ coil_value plain b x (memory_of g.kept b) (at g.values (var_in b) false)
  memory : remembered (frame_of s) x a ≡ remembered (frame_of t) x b
  stored : stepped (diagram_of p) now a (stored_of h.kept a) x y ≡ stepped (diagram_of q) now b (stored_of g.kept b) x y

module _ (m : Matching) (p q : Drawing) (start c : Marks) (now : ℕ) (s t h g : Held) (began : AreSame m start s t) (same : AreSame m c h g) where
  write_same : (a b : Cell) → WriteSame m p q start c a b → (x y : Bool) → Written p q now s t h g x y a b
  write_same (Contact mode operand memory) (Contact other read kept) is x y = record { value = refl; memory = operand_same m start s t began operand read is; stored = refl }
  write_same (Coil mode var memory) (Coil other written kept) is x y = record {
    value =
        coil_same m c h g same mode (record { mode = mode; var = var; memory = memory }) (record { mode = other; var = written; memory = kept }) is.1 x
        ∙ ap (λ k. stored_by plain k x (at g.kept.memories kept false) (at g.values (Some written) false)) is.0;
    memory = refl;
    stored = refl;
  }
  write_same (Block a) (Block b) is x y = record { value = refl; memory = refl; stored = step_alike _ _ _ _ _ _ now x y is.1.0 is.1.1 (instance_same m c h g same a b is.0) }
  write_same _ _ is x y = absurd is

-- ---- an action of each

module _ (m : Matching) (p q : Drawing) (start c d e : Marks) (a b : Action) (old : IsCellSpoiled Old a.cell m c d) (new : IsCellSpoiled New b.cell m d e) where
  pub both_spoiled : KeepSame m p q start (a ∷ []) (b ∷ []) c e
  unfolding changes_of
  both_spoiled now links s t h g began same =
      let one = changed_same m a.cell c d Old h g (diagram_of p) now (frame_of s) (among plain links a.left) (among plain links a.below) old same in
      changed_same m b.cell d e New g _ (diagram_of q) now (frame_of t) (among plain links b.left) (among plain links b.below) new one

  pub both_restored : (f : Marks) → ActSame m p q start c a b → AreCellsRestored a.cell b.cell m e f → KeepSame m p q start (a ∷ []) (b ∷ []) c f
  unfolding changes_of
  both_restored f is again now links s t h g began same =
      let x = among plain links a.left in
      let y = among plain links a.below in
      let left : x ≡ among plain links b.left = ap (among plain links) is.left in
      let below : y ≡ among plain links b.below = ap (among plain links) is.below in
      let oldly : Held = changed (diagram_of p) now (frame_of s) a.cell x y h in
      let newly : Held = changed (diagram_of q) now (frame_of t) b.cell x y g in
      let old_put : Held = changed_by (diagram_of p) now (frame_of s) a.cell x y h in
      let new_put : Held = changed_by (diagram_of q) now (frame_of t) b.cell x y g in
      let old_is : oldly ≡ old_put = changed_is (diagram_of p) now (frame_of s) a.cell x y h in
      let new_is : newly ≡ new_put = changed_is (diagram_of q) now (frame_of t) b.cell x y g in
      let one = changed_same m a.cell c d Old h g (diagram_of p) now (frame_of s) x y old same in
      let two : AreSame m e oldly newly = changed_same m b.cell d e New g oldly (diagram_of q) now (frame_of t) x y new one in
      let w = write_same m p q start c now s t h g began same a.cell b.cell is.cell x y in
      let put_both : AreSame m f old_put new_put = restored_same m a.cell b.cell e f h g _ _ _ _ _ _ again w.value w.memory w.stored
      (subst (λ (k : Held). AreSame m e k new_put) old_is (subst (λ (k : Held). AreSame m e oldly k) new_is two)) in
      let both : AreSame m f oldly newly = subst (λ (k : Held). AreSame m f k newly) (sym old_is) (subst (λ (k : Held). AreSame m f old_put k) (sym new_is) put_both) in
      subst (λ (k : Held). AreSame m f oldly k) (ap₂ (λ u v. changed (diagram_of q) now (frame_of t) b.cell u v g) left below) both

-- ---- all actions

changes_append : (d : Diagram) (now : ℕ) (start : Frame Bool) (links : List Bool) (xs ys : List Action) (h : Held)
    → changes_of d now start links (xs ++ ys) h ≡ changes_of d now start links ys (changes_of d now start links xs h)
unfolding changes_of
changes_append d now start links [] ys h = refl
changes_append d now start links (x ∷ xs) ys h = changes_append d now start links xs ys _

changes_more : (d : Diagram) (now : ℕ) (start : Frame Bool) (links : List Bool) (xs : List Action) (i : ℕ) (x : Action) (h : Held) → i < length xs
    → changes_of d now start links (take (i + 1) xs) h ≡ changes_of d now start links (get_or xs i x ∷ []) (changes_of d now start links (take i xs) h)
changes_more d now start links xs i x h short =
    ap (λ ys. changes_of d now start links ys h) (take_more xs i x short) ∙ changes_append d now start links (take i xs) (get_or xs i x ∷ []) h

pub keep_none : (m : Matching) (p q : Drawing) (start c : Marks) (xs ys : List Action) → KeepSame m p q start (take 0 xs) (take 0 ys) c c
unfolding changes_of
keep_none m p q start c xs ys now links s t h g began same = same

pub keep_more : (m : Matching) (p q : Drawing) (start c d e : Marks) (xs ys : List Action) (i : ℕ) (x y : Action) → i < length xs → i < length ys
    → KeepSame m p q start (take i xs) (take i ys) c d → KeepSame m p q start (get_or xs i x ∷ []) (get_or ys i y ∷ []) d e
    → KeepSame m p q start (take (i + 1) xs) (take (i + 1) ys) c e
keep_more m p q start c d e xs ys i x y short long so_far more now links s t h g began same =
    let d_old = diagram_of p in
    let d_new = diagram_of q in
    let oldly : Held = changes_of d_old now (frame_of s) links (take i xs) h in
    let newly : Held = changes_of d_new now (frame_of t) links (take i ys) g in
    subst (λ (k : Held). AreSame m e k (changes_of d_new now (frame_of t) links (take (i + 1) ys) g)) (sym (changes_more d_old now (frame_of s) links xs i x h short))
    (subst (λ (k : Held). AreSame m e (changes_of d_old now (frame_of s) links (get_or xs i x ∷ []) oldly) k) (sym (changes_more d_new now (frame_of t) links ys i y g long))
    (more now links s t oldly newly began (so_far now links s t h g began same)))

-- ---- the actions of one of the programs

pub spoil_none : (side : Side) (m : Matching) (xs : List Action) (c : Marks) → AreActionsSpoiled side m (take 0 xs) c c
unfolding changes_of
spoil_none side m xs c = record {
  fewer = λ h g same. same;
  written = λ d now start links h g same. same;
  many = record { variables = refl; instances = refl; memories = refl };
}

pub spoil_more : (side : Side) (m : Matching) (xs : List Action) (i : ℕ) (x : Action) (c d e : Marks) → i < length xs → AreActionsSpoiled side m (take i xs) c d
    → IsCellSpoiled side (get_or xs i x).cell m d e → AreActionsSpoiled side m (take (i + 1) xs) c e
unfolding changes_of
spoil_more side m xs i x c d e short so_far more = record {
  fewer = λ h g same. fewer_same m (get_or xs i x).cell d e side h g more (so_far.fewer h g same);
  written = λ y now start links h g same.
      subst (λ (k : Held). From side (AreSame m e) k g) (sym (changes_more y now start links xs i x h short))
      (changed_same m (get_or xs i x).cell d e side (changes_of y now start links (take i xs) h) g y now start _ _ more (so_far.written y now start links h g same));
  many = record {
    variables = more.many.variables ∙ so_far.many.variables;
    instances = more.many.instances ∙ so_far.many.instances;
    memories = more.many.memories ∙ so_far.many.memories;
  };
}

-- ---- rungs

pub rungs_kept : (m : Matching) (p q : Drawing) (i j : ℕ) (c start d : Marks) → HaveSameMarks c start → AreEach (GiveSame m p q c i j) (gates_of p i) (gates_of q j)
    → KeepSame m p q start (actions_of p i) (actions_of q j) c d → RungsKeepSame m p q i j c d
rungs_kept m p q i j c start d again links keep now h g same =
    let found : links_of p now i h ≡ links_of q now j g = links_same m p q c now i j h g same links in
    let newly = by_links q now j g ∙ ap (λ ls. changes_of (diagram_of q) now (frame_of g) ls (actions_of q j) g) (sym found) in
    subst (λ (k : Held). AreSame m d k (evaluated (diagram_of q) now j g)) (sym (by_links p now i h))
    (subst (λ (k : Held). AreSame m d (changes_of (diagram_of p) now (frame_of h) (links_of p now i h) (actions_of p i) h) k) (sym newly) (keep now (links_of p now i h) h g h g (copied_same m c start h g again same) same))

pub spoil_evaluated : (side : Side) (m : Matching) (p : Drawing) (i : ℕ) (c d : Marks) → AreActionsSpoiled side m (actions_of p i) c d → (now : ℕ) (h g : Held)
    → From side (AreSame m c) h g → From side (AreSame m d) (evaluated (diagram_of p) now i h) g
spoil_evaluated side m p i c d spoiled now h g same =
    subst (λ (k : Held). From side (AreSame m d) k g) (sym (by_links p now i h)) (spoiled.written (diagram_of p) now (frame_of h) (links_of p now i h) h g same)

pub rungs_spoiled : (m : Matching) (p q : Drawing) (i j : ℕ) (c d e : Marks) → AreActionsSpoiled Old m (actions_of p i) c d → AreActionsSpoiled New m (actions_of q j) d e
    → RungsKeepSame m p q i j c e
rungs_spoiled m p q i j c d e old new now h g same =
    let one = spoil_evaluated Old m p i c d old now h g same in
    spoil_evaluated New m q j d e new now g (evaluated (diagram_of p) now i h) one

-- ---- as the code has it

pub spoil_next : (side : Side) (m : Matching) (found actions : List Action) (i : ℕ) (x : Action) (c d e : Marks) → found ≡ actions → i < length found
    → AreActionsSpoiled side m (take i actions) c d → IsCellSpoiled side (get_or found i x).cell m d e → AreActionsSpoiled side m (take (i + 1) actions) c e
spoil_next side m found actions i x c d e are short so_far more =
    spoil_more side m actions i x c d e (subst (λ (xs : List Action). i < length xs) are short) so_far
    (subst (λ (xs : List Action). IsCellSpoiled side (get_or xs i x).cell m d e) are more)

pub keep_all : (m : Matching) (p q : Drawing) (start c d : Marks) (xs ys us vs : List Action) (n : ℕ) → xs ≡ us → ys ≡ vs → length xs ≤ n → length ys ≤ n
    → KeepSame m p q start (take n xs) (take n ys) c d → KeepSame m p q start us vs c d
keep_all m p q start c d xs ys us vs n first second long also keep =
    subst (λ (zs : List Action). KeepSame m p q start zs vs c d) (take_all n xs long ∙ first)
    (subst (λ (zs : List Action). KeepSame m p q start (take n xs) zs c d) (take_all n ys also ∙ second) keep)
