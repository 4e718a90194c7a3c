-- What the kept steps leave agrees with what all steps leave, as far as it is needed.
use Rattle.std.proofs.Common.{◌≡◌, ℕ, ◌+◌, ◌||◌, Bool, true, false, cond, List, [], ◌∷◌, length, set, get_or, All, zero, suc, pred, refl, sym, ap, ap₂, subst, ◌∙◌, arith, get_or-set_other, length-set, inl, inr}
use Rattle.std.proofs.lemmas.Bool.{cases_Bool, cases_eq, or_parts}
use Rattle.std.proofs.lemmas.List.Elements.{All-cons, All-head, All-tail}
use Rattle.diagram_declarations.specs.declared.kind.BlockKind.TheVariants.{Ton}
use Rattle.diagram_program.specs.declared.cell.Operand.TheVariants as operand
use Rattle.diagram_program.specs.declared.cell.Cell.{Cell}
use Rattle.diagram_program.specs.declared.cell.Cell.TheVariants as cell
use Rattle.diagram_program.specs.declared.gates.TheConstants.{OFF, OWN}
use Rattle.diagram_program.specs.declared.gates.Action.{Action}
use Rattle.diagram_program.specs.declared.steps.Spot.{Spot}
use Rattle.diagram_program.specs.declared.steps.Step.{Step}
use Rattle.diagram_program.specs.declared.steps.Step.TheVariants.{Is, Not, Rare}
use Rattle.diagram_program.specs.declared.steps.Rare.TheVariants.{Wire, Rising, Falling, Block, Own, Store, Set, Reset, End, Act, Leave, Turn}
use Rattle.diagram_program.specs.Program.{Drawing}
use Rattle.diagram_program.specs.Gates.{leaps_below}
use Rattle.scan_signals.specs.Algebra.{Algebra}
use Rattle.scan_signals.specs.Blocks.{new_block}
use Rattle.scan_cycle.specs.Cells.{Frame, Kept, contact, memory_of, q_from, q_here, stored_by}
use Rattle.scan_cycle.specs.Programs.{diagram_of}
use Rattle.scan_cycle.specs.Gating.{among, own}
use Rattle.scan_symbolic.specs.Gating.{acted, guard_by}
use Rattle.scan_symbolic.specs.Stepping.{Going, keeping, gone, all_gone}
use Rattle.scan_symbolic.specs.Slicing.{Needs, marked, mark, unmark, keeps, keeps_act, by_gate, by_own, cell_values, cell_ends, reads, needs_before, kept_of}

-- ---- marks
pub marked_here : (m : List Bool) (n : ℕ) → marked (mark m n) n ≡ true
marked_here [] n = refl
marked_here (b ∷ m) zero = refl
marked_here (b ∷ m) (suc n) = marked_here m n

marked_still : (m : List Bool) (n i : ℕ) → marked m i ≡ true → marked (mark m n) i ≡ true
marked_still m n i h = elim (cases_eq i n) [
  | inl e ↦ ap (λ j. marked (mark m n) j) e ∙ marked_here m n
  | inr e ↦ get_or-set_other m n i true true e ∙ h
]

not_both : (b : Bool) → b ≡ true → b ≡ false → ⊥
not_both b t f = cc

-- ---- lists that are alike where they are marked
pub record Alike {S : Type 0} (off : S) (m : List Bool) (xs ys : List S) : Type 0 where
  pub long : length xs ≡ length ys
  pub at : (i : ℕ) → marked m i ≡ true → get_or xs i off ≡ get_or ys i off

module _ {S : Type 0} (off : S) where
  set_at : (xs ys : List S) (n : ℕ) (x y : S) → length xs ≡ length ys → x ≡ y → get_or (set xs n x) n off ≡ get_or (set ys n y) n off
  set_at [] [] n x y h e = refl
  set_at [] (b ∷ bs) n x y h e = absurd (omega (arith, h))
  set_at (a ∷ xs) [] n x y h e = absurd (omega (arith, h))
  set_at (a ∷ xs) (b ∷ ys) zero x y h e = e
  set_at (a ∷ xs) (b ∷ ys) (suc n) x y h e = set_at xs ys n x y (ap pred h) e

  set_long : (xs ys : List S) (n : ℕ) (x y : S) → length xs ≡ length ys → length (set xs n x) ≡ length (set ys n y)
  set_long xs ys n x y h = length-set xs n x ∙ h ∙ sym (length-set ys n y)

  set_there : (xs ys : List S) (n i : ℕ) (x y : S) → i ≡ n → length xs ≡ length ys → x ≡ y → get_or (set xs n x) i off ≡ get_or (set ys n y) i off
  set_there xs ys n i x y e h same = subst (λ j. get_or (set xs n x) j off ≡ get_or (set ys n y) j off) (sym e) (set_at xs ys n x y h same)

  set_past : (xs ys : List S) (n i : ℕ) (x y : S) → (i ≡ n → ⊥) → get_or xs i off ≡ get_or ys i off → get_or (set xs n x) i off ≡ get_or (set ys n y) i off
  set_past xs ys n i x y e h = get_or-set_other xs n i x off e ∙ h ∙ sym (get_or-set_other ys n i y off e)

  -- both are written, alike where it is marked
  wrote : (m : List Bool) (xs ys : List S) (n : ℕ) (x y : S) → Alike off m xs ys → (marked m n ≡ true → x ≡ y) → Alike off m (set xs n x) (set ys n y)
  wrote m xs ys n x y a same = record {
    long = set_long xs ys n x y a.long;
    at = λ i h. elim (cases_eq i n) [
      | inl e ↦ set_there xs ys n i x y e a.long (same (subst (λ j. marked m j ≡ true) e h))
      | inr e ↦ set_past xs ys n i x y e (a.at i h)
    ];
  }

  -- both are written, where it counts no more before
  covered : (m : List Bool) (xs ys : List S) (n : ℕ) (x y : S) → Alike off (unmark m n) xs ys → x ≡ y → Alike off m (set xs n x) (set ys n y)
  covered m xs ys n x y a same = record {
    long = set_long xs ys n x y a.long;
    at = λ i h. elim (cases_eq i n) [
      | inl e ↦ set_there xs ys n i x y e a.long same
      | inr e ↦ set_past xs ys n i x y e (a.at i (get_or-set_other m n i false true e ∙ h))
    ];
  }

  -- one is written, where it isn't marked
  missed : (m : List Bool) (xs ys : List S) (n : ℕ) (y : S) → marked m n ≡ false → Alike off m xs ys → Alike off m xs (set ys n y)
  missed m xs ys n y none a = record {
    long = a.long ∙ sym (length-set ys n y);
    at = λ i h. elim (cases_eq i n) [
      | inl e ↦ absurd (not_both (marked m n) (subst (λ j. marked m j ≡ true) e h) none)
      | inr e ↦ a.at i h ∙ sym (get_or-set_other ys n i y off e)
    ];
  }

  fewer : (m : List Bool) (n : ℕ) (xs ys : List S) → Alike off (mark m n) xs ys → Alike off m xs ys
  fewer m n xs ys a = record { long = a.long; at = λ i h. a.at i (marked_still m n i h) }

  here : (m : List Bool) (n : ℕ) (xs ys : List S) → Alike off (mark m n) xs ys → get_or xs n off ≡ get_or ys n off
  here m n xs ys a = a.at n (marked_here m n)

-- How far two looks are, alike in what is needed from there on.
pub record Agree {S : Type 0} (o : Algebra S) (n : Needs) (g h : Going S) : Type 0 where
  pub values : Alike (o.known false) n.values g.frame.values h.frame.values
  pub ends : Alike (o.known false) n.ends g.frame.ends h.frame.ends
  pub links : Alike (o.known false) n.links g.links h.links
  pub taken : n.guards ≡ true → g.taken ≡ h.taken
  pub guard : n.guards ≡ true → g.guard ≡ h.guard

module _ {S : Type 0} (o : Algebra S) (p : Drawing) (k : Kept) (now : ℕ) where
  abbrev off : S
  off = o.known false

  -- ---- gates
  module _ (m : List Bool) (spot : Spot) (ls ks : List S) where
    gate_left : Alike off (by_gate spot m) ls ks → among o ls spot.left ≡ among o ks spot.left
    gate_left a = here off _ spot.left ls ks (fewer off _ spot.other ls ks a)

    passed_alike : (x y : S) → x ≡ y → Alike off (by_gate spot m) ls ks
        → Alike off m (set ls spot.place (o.join x (among o ls spot.other))) (set ks spot.place (o.join y (among o ks spot.other)))
    passed_alike x y e a =
        covered off m ls ks spot.place _ _ (fewer off _ spot.left ls ks (fewer off _ spot.other ls ks a)) (ap₂ o.join e (here off _ spot.other ls ks a))

    own_left : Alike off (by_own spot m) ls ks → among o ls spot.left ≡ among o ks spot.left
    own_left a = here off _ spot.left ls ks (fewer off _ spot.other ls ks a)

    kept_alike : (x y : S) → x ≡ y → Alike off (by_own spot m) ls ks → Alike off m (keeping o ls spot x) (keeping o ks spot y)
    kept_alike x y e a =
        let b = fewer off _ spot.left ls ks (fewer off _ spot.other ls ks a) in
        covered off m _ _ spot.place _ _ (covered off (unmark m spot.place) ls ks (OWN + spot.place) x y b e) (ap₂ o.join e (here off _ spot.other ls ks a))

    passed_missed : (y : S) → marked m spot.place ≡ false → Alike off m ls ks → Alike off m ls (set ks spot.place y)
    passed_missed y none a = missed off m ls ks spot.place y none a

    kept_missed : (y : S) → (marked m spot.place || marked m (OWN + spot.place)) ≡ false → Alike off m ls ks → Alike off m ls (keeping o ks spot y)
    kept_missed y none a =
        let w = or_parts (marked m spot.place) (marked m (OWN + spot.place)) none in
        missed off m ls _ spot.place _ w.0 (missed off m ls ks (OWN + spot.place) y w.1 a)

  -- what a contact reads
  fewer_values : (c : Cell) (m : List Bool) (xs ys : List S) → Alike off (cell_values c m) xs ys → Alike off m xs ys
  fewer_values (cell.Contact mode (operand.Var var) memory) m xs ys a = fewer off m var xs ys a
  fewer_values _ m xs ys a = a

  fewer_ends : (c : Cell) (m : List Bool) (xs ys : List S) → Alike off (cell_ends c m) xs ys → Alike off m xs ys
  fewer_ends (cell.Contact mode (operand.Output inst) memory) m xs ys a = fewer off m inst xs ys a
  fewer_ends _ m xs ys a = a

  module _ (f g : Frame S) (vs es : List Bool) (x y u v : S) (ex : x ≡ u) (ey : y ≡ v) where
    own_alike : (c : Cell) → Alike off (cell_values c vs) f.values g.values → Alike off (cell_ends c es) f.ends g.ends
        → own o (diagram_of p) k now f c x y ≡ own o (diagram_of p) k now g c u v
    own_alike cell.Wire a b = ap (λ z. o.meet z (o.known true)) ex
    own_alike (cell.Contact mode (operand.Var var) memory) a b =
        ap₂ (λ z w. o.meet z (contact o mode w (o.known (memory_of k (cell.Contact mode (operand.Var var) memory))))) ex (here off vs var f.values g.values a)
    own_alike (cell.Contact mode (operand.Output inst) memory) a b =
        ap₂ (λ z w. o.meet z (contact o mode w (o.known (memory_of k (cell.Contact mode (operand.Output inst) memory))))) ex (here off es inst f.ends g.ends b)
    own_alike (cell.Coil mode var memory) a b = ap (λ z. o.meet z (o.known true)) ex
    own_alike (cell.Block inst) a b = ap₂ (λ z w. q_here o (diagram_of p) k now (cell.Block inst) z w) ex ey
    own_alike _ a b = ap (λ z. o.meet z off) ex

  -- ---- actions
  abbrev action : Cell → ℕ → ℕ → Action
  action c place left = record { cell = c; place = place; left = left; below = OFF }

  chosen_alike : (a b x y u v : S) → a ≡ b → x ≡ y → u ≡ v → o.choice a x u ≡ o.choice b y v
  chosen_alike a b x y u v e h i = ap (λ z. o.choice z x u) e ∙ ap₂ (o.choice b) h i

  module _ (f g : Frame S) (a b : S) (ls ks : List S) (place left : ℕ) (e : a ≡ b) where
    act_values : (c : Cell) (m : List Bool) → among o ls left ≡ among o ks left → Alike off m f.values g.values
        → Alike off m (acted o k a ls (action c place left) f).values (acted o k b ks (action c place left) g).values
    act_values (cell.Coil mode var memory) m h w =
        wrote off m f.values g.values var _ _ w
        (λ t.
        let old = w.at var t in
        chosen_alike a b _ _ _ _ e (ap₂ (λ z y. stored_by o mode z (o.known (memory_of k (cell.Coil mode var memory))) y) h old) old)
    act_values _ m h w = w

    act_ends : (c : Cell) (m : List Bool) → among o ls (OWN + place) ≡ among o ks (OWN + place) → Alike off m f.ends g.ends
        → Alike off m (acted o k a ls (action c place left) f).ends (acted o k b ks (action c place left) g).ends
    act_ends (cell.Block inst) m h w = wrote off m f.ends g.ends inst _ _ w (λ t. chosen_alike a b _ _ _ _ e h (w.at inst t))
    act_ends _ m h w = w

  module _ (n : Needs) (f g : Frame S) (b : S) (ks : List S) (place left : ℕ) where
    missed_values : (c : Cell) → keeps_act n c ≡ false → Alike off n.values f.values g.values
        → Alike off n.values f.values (acted o k b ks (action c place left) g).values
    missed_values (cell.Coil mode var memory) h w = missed off n.values f.values g.values var _ h w
    missed_values _ h w = w

    missed_ends : (c : Cell) → keeps_act n c ≡ false → Alike off n.ends f.ends g.ends
        → Alike off n.ends f.ends (acted o k b ks (action c place left) g).ends
    missed_ends (cell.Block inst) h w = missed off n.ends f.ends g.ends inst _ h w
    missed_ends _ h w = w

  -- ---- a step that is kept
  kept_step : (s : Step) (n : Needs) (g h : Going S) → Agree o (reads p s n) g h → Agree o n (gone o p k now s g) (gone o p k now s h)
  kept_step (Is spot var) n g h a = record {
    values = fewer off n.values var g.frame.values h.frame.values a.values;
    ends = a.ends;
    links = passed_alike n.links spot g.links h.links _ _ (ap₂ o.meet (gate_left n.links spot g.links h.links a.links) (here off n.values var g.frame.values h.frame.values a.values)) a.links;
    taken = a.taken;
    guard = a.guard;
  }
  kept_step (Not spot var) n g h a = record {
    values = fewer off n.values var g.frame.values h.frame.values a.values;
    ends = a.ends;
    links = passed_alike n.links spot g.links h.links _ _ (ap₂ (λ x y. o.meet x (o.inverse y)) (gate_left n.links spot g.links h.links a.links) (here off n.values var g.frame.values h.frame.values a.values)) a.links;
    taken = a.taken;
    guard = a.guard;
  }
  kept_step (Rare (Wire spot)) n g h a = record {
    values = a.values;
    ends = a.ends;
    links = kept_alike n.links spot g.links h.links _ _ (ap (λ x. o.meet x (o.known true)) (own_left n.links spot g.links h.links a.links)) a.links;
    taken = a.taken;
    guard = a.guard;
  }
  kept_step (Rare (Rising spot var memory)) n g h a = record {
    values = fewer off n.values var g.frame.values h.frame.values a.values;
    ends = a.ends;
    links = kept_alike n.links spot g.links h.links _ _
        (ap₂ (λ x y. o.meet x (o.meet y (o.inverse (o.known (get_or k.memories memory false))))) (own_left n.links spot g.links h.links a.links) (here off n.values var g.frame.values h.frame.values a.values)) a.links;
    taken = a.taken;
    guard = a.guard;
  }
  kept_step (Rare (Falling spot var memory)) n g h a = record {
    values = fewer off n.values var g.frame.values h.frame.values a.values;
    ends = a.ends;
    links = kept_alike n.links spot g.links h.links _ _
        (ap₂ (λ x y. o.meet x (o.meet (o.inverse y) (o.known (get_or k.memories memory false)))) (own_left n.links spot g.links h.links a.links) (here off n.values var g.frame.values h.frame.values a.values)) a.links;
    taken = a.taken;
    guard = a.guard;
  }
  kept_step (Rare (Block spot below inst)) n g h a =
      let b = fewer off (by_own spot n.links) below g.links h.links a.links in
      record {
        values = a.values;
        ends = a.ends;
        links = kept_alike n.links spot g.links h.links _ _
            (ap₂ (λ x y. q_from o ((diagram_of p).kind inst) ((diagram_of p).preset inst) (get_or k.blocks inst (new_block Ton)) now x y) (own_left n.links spot g.links h.links b) (here off (by_own spot n.links) below g.links h.links a.links)) b;
        taken = a.taken;
        guard = a.guard;
      }
  kept_step (Rare (Own spot below rung)) n g h a =
      let c = (diagram_of p).cell rung spot.place in
      let b = fewer off (by_own spot n.links) below g.links h.links a.links in
      record {
        values = fewer_values c n.values g.frame.values h.frame.values a.values;
        ends = fewer_ends c n.ends g.frame.ends h.frame.ends a.ends;
        links = kept_alike n.links spot g.links h.links _ _
            (own_alike g.frame h.frame n.values n.ends _ _ _ _ (own_left n.links spot g.links h.links b) (here off (by_own spot n.links) below g.links h.links a.links) c a.values a.ends) b;
        taken = a.taken;
        guard = a.guard;
      }
  kept_step (Rare (Store left var)) n g h a = record {
    values = wrote off n.values g.frame.values h.frame.values var _ _ a.values (λ t. chosen_alike _ _ _ _ _ _ (a.guard refl) (here off n.links left g.links h.links a.links) (a.values.at var t));
    ends = a.ends;
    links = fewer off n.links left g.links h.links a.links;
    taken = λ t. a.taken refl;
    guard = λ t. a.guard refl;
  }
  kept_step (Rare (Set left var)) n g h a = record {
    values = wrote off n.values g.frame.values h.frame.values var _ _ a.values
        (λ t. chosen_alike _ _ _ _ _ _ (a.guard refl) (chosen_alike _ _ (o.known true) (o.known true) _ _ (here off n.links left g.links h.links a.links) refl (a.values.at var t)) (a.values.at var t));
    ends = a.ends;
    links = fewer off n.links left g.links h.links a.links;
    taken = λ t. a.taken refl;
    guard = λ t. a.guard refl;
  }
  kept_step (Rare (Reset left var)) n g h a = record {
    values = wrote off n.values g.frame.values h.frame.values var _ _ a.values
        (λ t. chosen_alike _ _ _ _ _ _ (a.guard refl) (chosen_alike _ _ off off _ _ (here off n.links left g.links h.links a.links) refl (a.values.at var t)) (a.values.at var t));
    ends = a.ends;
    links = fewer off n.links left g.links h.links a.links;
    taken = λ t. a.taken refl;
    guard = λ t. a.guard refl;
  }
  kept_step (Rare (End place inst)) n g h a = record {
    values = a.values;
    ends = wrote off n.ends g.frame.ends h.frame.ends inst _ _ a.ends (λ t. chosen_alike _ _ _ _ _ _ (a.guard refl) (here off n.links (OWN + place) g.links h.links a.links) (a.ends.at inst t));
    links = fewer off n.links (OWN + place) g.links h.links a.links;
    taken = λ t. a.taken refl;
    guard = λ t. a.guard refl;
  }
  kept_step (Rare (Act rung place left)) n g h a =
      let c = (diagram_of p).cell rung place in
      let b = fewer off (mark n.links left) (OWN + place) g.links h.links a.links in
      record {
        values = act_values g.frame h.frame g.guard h.guard g.links h.links place left (a.guard refl) c n.values (here off n.links left g.links h.links b) a.values;
        ends = act_ends g.frame h.frame g.guard h.guard g.links h.links place left (a.guard refl) c n.ends (here off (mark n.links left) (OWN + place) g.links h.links a.links) a.ends;
        links = fewer off n.links left g.links h.links b;
        taken = λ t. a.taken refl;
        guard = λ t. a.guard refl;
      }
  kept_step (Rare (Leave rung left)) n g h a = record {
    values = a.values;
    ends = a.ends;
    links = fewer off n.links left g.links h.links a.links;
    taken = λ t. ap₂ (λ xs x. set xs rung x) (a.taken t) (ap₂ o.meet (a.guard t) (here off n.links left g.links h.links a.links));
    guard = a.guard;
  }
  kept_step (Rare (Turn rung)) n g h a = record {
    values = a.values;
    ends = a.ends;
    links = a.links;
    taken = a.taken;
    guard = λ t. ap (λ xs. guard_by o xs rung (leaps_below p p.rungs) (o.known true)) (a.taken t);
  }

  -- ---- a step that is left out
  left_out : (s : Step) (n : Needs) (g h : Going S) → keeps p n s ≡ false → Agree o n g h → Agree o n g (gone o p k now s h)
  left_out (Is spot var) n g h none a = record { values = a.values; ends = a.ends; links = passed_missed n.links spot g.links h.links _ none a.links; taken = a.taken; guard = a.guard }
  left_out (Not spot var) n g h none a = record { values = a.values; ends = a.ends; links = passed_missed n.links spot g.links h.links _ none a.links; taken = a.taken; guard = a.guard }
  left_out (Rare (Wire spot)) n g h none a = record { values = a.values; ends = a.ends; links = kept_missed n.links spot g.links h.links _ none a.links; taken = a.taken; guard = a.guard }
  left_out (Rare (Rising spot var memory)) n g h none a = record { values = a.values; ends = a.ends; links = kept_missed n.links spot g.links h.links _ none a.links; taken = a.taken; guard = a.guard }
  left_out (Rare (Falling spot var memory)) n g h none a = record { values = a.values; ends = a.ends; links = kept_missed n.links spot g.links h.links _ none a.links; taken = a.taken; guard = a.guard }
  left_out (Rare (Block spot below inst)) n g h none a = record { values = a.values; ends = a.ends; links = kept_missed n.links spot g.links h.links _ none a.links; taken = a.taken; guard = a.guard }
  left_out (Rare (Own spot below rung)) n g h none a = record { values = a.values; ends = a.ends; links = kept_missed n.links spot g.links h.links _ none a.links; taken = a.taken; guard = a.guard }
  left_out (Rare (Store left var)) n g h none a = record { values = missed off n.values g.frame.values h.frame.values var _ none a.values; ends = a.ends; links = a.links; taken = a.taken; guard = a.guard }
  left_out (Rare (Set left var)) n g h none a = record { values = missed off n.values g.frame.values h.frame.values var _ none a.values; ends = a.ends; links = a.links; taken = a.taken; guard = a.guard }
  left_out (Rare (Reset left var)) n g h none a = record { values = missed off n.values g.frame.values h.frame.values var _ none a.values; ends = a.ends; links = a.links; taken = a.taken; guard = a.guard }
  left_out (Rare (End place inst)) n g h none a = record { values = a.values; ends = missed off n.ends g.frame.ends h.frame.ends inst _ none a.ends; links = a.links; taken = a.taken; guard = a.guard }
  left_out (Rare (Act rung place left)) n g h none a =
      let c = (diagram_of p).cell rung place in
      record {
        values = missed_values n g.frame h.frame h.guard h.links place left c none a.values;
        ends = missed_ends n g.frame h.frame h.guard h.links place left c none a.ends;
        links = a.links;
        taken = a.taken;
        guard = a.guard;
      }
  left_out (Rare (Leave rung left)) n g h none a = record {
    values = a.values;
    ends = a.ends;
    links = a.links;
    taken = λ t. absurd (not_both n.guards t none);
    guard = a.guard;
  }
  left_out (Rare (Turn rung)) n g h none a = record {
    values = a.values;
    ends = a.ends;
    links = a.links;
    taken = a.taken;
    guard = λ t. absurd (not_both n.guards t none);
  }

  -- ---- all steps
  pub agree : (ss : List Step) (n : Needs) (g h : Going S) → Agree o (needs_before p ss n) g h
      → Agree o n (all_gone o p k now (kept_of p ss n) g) (all_gone o p k now ss h)
  unfolding all_gone needs_before kept_of
  agree [] n g h a = a
  agree (s ∷ ss) n g h a =
      let m = needs_before p ss n in
      elim (cases_Bool (keeps p m s)) [
        | inl t ↦
            subst (λ b. Agree o n (all_gone o p k now (cond b (s ∷ kept_of p ss n) (kept_of p ss n)) g) (all_gone o p k now ss (gone o p k now s h))) (sym t)
            (agree ss n _ _ (kept_step s m g h (subst (λ b. Agree o (cond b (reads p s m) m) g h) t a)))
        | inr t ↦
            subst (λ b. Agree o n (all_gone o p k now (cond b (s ∷ kept_of p ss n) (kept_of p ss n)) g) (all_gone o p k now ss (gone o p k now s h))) (sym t)
            (agree ss n _ _ (left_out s m g h t (subst (λ b. Agree o (cond b (reads p s m) m) g h) t a)))
      ]

  pub agrees_itself : (n : Needs) (g : Going S) → Agree o n g g
  agrees_itself n g = record {
    values = record { long = refl; at = λ i h. refl };
    ends = record { long = refl; at = λ i h. refl };
    links = record { long = refl; at = λ i h. refl };
    taken = λ t. refl;
    guard = λ t. refl;
  }

-- ---- the slice
either : (P : Step → Type 0) (b : Bool) (s : Step) (ss : List Step) → P s → All P ss → All P (cond b (s ∷ ss) ss)
either P true s ss h more = All-cons P s ss h more
either P false s ss h more = more

pub kept_all : (P : Step → Type 0) (p : Drawing) (ss : List Step) (n : Needs) → All P ss → All P (kept_of p ss n)
unfolding kept_of
kept_all P p [] n h = h
kept_all P p (s ∷ ss) n h = either P (keeps p (needs_before p ss n) s) s (kept_of p ss n) (All-head P s ss h) (kept_all P p ss n (All-tail P s ss h))
