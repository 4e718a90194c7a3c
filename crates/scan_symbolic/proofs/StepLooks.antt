-- The steps of all rungs make the look, rung by rung.
use Rattle.std.proofs.Common.{◌≡◌, ℕ, ◌+◌, ◌<◌, ◌≤◌, Bool, true, false, cond, List, [], ◌∷◌, ◌++◌, map, filter_map, length, set, get_or, zero, suc, nat_eq, nat_lt, refl, sym, ap, ap₂, subst, ◌∙◌, arith, get_or-set_other, get_or-set_same, length-set, Option, Some, None, inl, inr}
use Rattle.std.proofs.lemmas.Bool.{cases_Bool, cases_eq, or_parts}
use Rattle.std.proofs.lemmas.Bool.Decides.{nat_tests}
use Rattle.std.proofs.lemmas.List.{get_or_append_left, get_or_at, length-append}
use Rattle.diagram_program.specs.declared.gates.Exit.{Exit}
use Rattle.diagram_program.specs.declared.steps.Step.{Step}
use Rattle.diagram_program.specs.Program.{Drawing, jump_of}
use Rattle.diagram_program.specs.Gates.{gates_of, actions_of, exit_of}
use Rattle.diagram_program.specs.Steps.{gate_step, action_step, turned_by, turns_before, turn_steps, exit_steps, rung_steps, steps_below}
use Rattle.scan_signals.specs.Algebra.{Algebra, LatticeLaws}
use Rattle.scan_cycle.specs.Cells.{Frame, Kept}
use Rattle.scan_cycle.specs.Rung.{link}
use Rattle.scan_symbolic.specs.ByFrames.{looked}
use Rattle.scan_symbolic.specs.KnownScan.{meet_where, passes_over, guard_of, taken_by}
use Rattle.scan_cycle.specs.Programs.{diagram_of, IsSound}
use Rattle.scan_cycle.specs.Gating.{among, ran, AreLinks, AreValues}
use Rattle.scan_symbolic.specs.Gating.{taken_by_exit}
use Rattle.scan_symbolic.specs.Stepping.{Going, going, all_gone}
use Rattle.scan_cycle.proofs.GateLaws.{AreRailed, gates_inside, links_are, rails_stay}
use Rattle.scan_cycle.proofs.Sound.{placed}
use Rattle.scan_symbolic.proofs.Acting.{action_cells, rung_along}
use Rattle.scan_symbolic.proofs.Exits.{taken_of, guard_is}
use Rattle.scan_symbolic.proofs.Values.{looked_values}
use Rattle.scan_symbolic.proofs.Guards.{taken_same}
use Rattle.scan_symbolic.proofs.StepLaws.{gates_gone, actions_gone}

-- ---- lists
module _ {S : Type 0} (off : S) where
  -- an entry more that is OFF, past the end
  append_off : (xs : List S) (i : ℕ) → get_or (xs ++ off ∷ []) i off ≡ get_or xs i off
  append_off [] zero = refl
  append_off [] (suc i) = refl
  append_off (x ∷ xs) zero = refl
  append_off (x ∷ xs) (suc i) = append_off xs i

  append_other : (xs : List S) (x : S) (i : ℕ) → (i ≡ length xs → ⊥) → get_or (xs ++ x ∷ []) i off ≡ get_or xs i off
  append_other [] x zero h = absurd (h refl)
  append_other [] x (suc i) h = refl
  append_other (y ∷ xs) x zero h = refl
  append_other (y ∷ xs) x (suc i) h = append_other xs x i (λ e. h (ap suc e))

  -- The same entries, one of them written in one list and put behind the other.
  put_behind : (all ts : List S) (n : ℕ) (x : S) → length ts ≡ n → n < length all → ((i : ℕ) → get_or all i off ≡ get_or ts i off)
      → (i : ℕ) → get_or (set all n x) i off ≡ get_or (ts ++ x ∷ []) i off
  put_behind all ts n x count lt same i = elim (cases_eq i n) [
    | inl e ↦
        ap (λ j. get_or (set all n x) j off) e ∙ get_or-set_same all n x off lt
        ∙ sym (ap (λ j. get_or (ts ++ x ∷ []) j off) e ∙ get_or_at ts x [] off n count)
    | inr e ↦ get_or-set_other all n i x off e ∙ same i ∙ sym (append_other ts x i (λ t. e (t ∙ count)))
  ]

-- ---- guards
meet_same : {S : Type 0} (o : Algebra S) (t u : ℕ → Bool) (f g : ℕ → S) (n : ℕ) → ((i : ℕ) → i < n → t i ≡ u i) → ((i : ℕ) → i < n → f i ≡ g i)
    → meet_where o t f n ≡ meet_where o u g n
unfolding meet_where
meet_same o t u f g zero h e = refl
meet_same o t u f g (suc n) h e =
    let before = meet_same o t u f g n (λ i lt. h i (omega (arith, lt))) (λ i lt. e i (omega (arith, lt))) in
    ap (λ b. cond b (o.meet (meet_where o t f n) (f n)) (meet_where o t f n)) (h n (omega arith))
    ∙ ap₂ (λ x y. cond (u n) (o.meet x y) x) before (e n (omega arith))

not_turned : (p : Drawing) (n m : ℕ) → turns_before p n m ≡ false → (i : ℕ) → i < m → turned_by n i (jump_of p i) ≡ false
unfolding turns_before
not_turned p n zero h i lt = absurd (omega (arith, lt))
not_turned p n (suc m) h i lt =
    let w = or_parts (turns_before p n m) (turned_by n m (jump_of p m)) h in
    elim (cases_eq i m) [
      | inl e ↦ ap (λ j. turned_by n j (jump_of p j)) e ∙ w.1
      | inr e ↦ not_turned p n m w.0 i (omega (arith, lt, e))
    ]

jump_is : (p : Drawing) (n : ℕ) → (diagram_of p).jump n ≡ placed (jump_of p n)
unfolding diagram_of
jump_is p n = refl

-- a jump of the rung before, or one that ends there, turns the guard
same_number : (a b : ℕ) → (nat_eq a b ≡ false) → (a ≡ b → ⊥)
same_number a b h e = grind (arith, nat_tests)

over_next : (n target : ℕ) → nat_eq target (n + 1) ≡ false → nat_lt (n + 1) target ≡ nat_lt n target
over_next n target h = grind (arith, nat_tests)

passes_same : (n i : ℕ) (jump : Option (ℕ × ℕ × ℕ)) → turned_by (n + 1) i jump ≡ false → passes_over (placed jump) (n + 1) ≡ passes_over (placed jump) n
passes_same n i None h = refl
passes_same n i (Some (row, column, target)) h = over_next n target (or_parts _ _ h).1

passes_not : (n : ℕ) (jump : Option (ℕ × ℕ × ℕ)) → turned_by (n + 1) n jump ≡ false → passes_over (placed jump) (n + 1) ≡ false
passes_not n None h = refl
passes_not n (Some (row, column, target)) h = absurd (same_number (n + 1) (n + 1) (or_parts _ _ h).0 refl)

module _ {S : Type 0} (o : Algebra S) (p : Drawing) where
  abbrev off : S
  off = o.known false

  guard_same : (ts us : List S) (n : ℕ) → ((i : ℕ) → i < n → get_or ts i (o.known false) ≡ get_or us i (o.known false))
      → guard_of o (diagram_of p) ts n ≡ guard_of o (diagram_of p) us n
  guard_same ts us n h = meet_same o _ _ _ _ n (λ i lt. refl) (λ i lt. ap o.inverse (h i lt))

  -- A rung at which no jump begins or ends has the guard of the rung before.
  next_guard : (ts : List S) (x : S) (n : ℕ) → length ts ≡ n → turns_before p (n + 1) (n + 1) ≡ false
      → guard_of o (diagram_of p) ts n ≡ guard_of o (diagram_of p) (ts ++ x ∷ []) (suc n)
  unfolding meet_where
  next_guard ts x n count h =
      let none : (i : ℕ) → i < n + 1 → turned_by (n + 1) i (jump_of p i) ≡ false = not_turned p (n + 1) (n + 1) h in
      let d = diagram_of p in
      let next : suc n ≡ n + 1 = omega arith in
      let last : passes_over (d.jump n) (suc n) ≡ false = ap₂ passes_over (jump_is p n) next ∙ passes_not n (jump_of p n) (none n (omega arith)) in
      meet_same o (λ i. passes_over (d.jump i) n) (λ i. passes_over (d.jump i) (suc n)) _ (λ i. o.inverse (get_or (ts ++ x ∷ []) i (o.known false))) n
      (λ i lt. ap (λ j. passes_over j n) (jump_is p i) ∙ sym (ap₂ passes_over (jump_is p i) next ∙ passes_same n i (jump_of p i) (none i (omega (arith, lt)))))
      (λ i lt. ap o.inverse (sym (get_or_append_left ts (x ∷ []) (o.known false) i (omega (arith, lt, count)))))
      ∙ sym (ap (λ b. cond b (o.meet (meet_where o (λ i. passes_over (d.jump i) (suc n)) (λ i. o.inverse (get_or (ts ++ x ∷ []) i (o.known false))) n) (o.inverse (get_or (ts ++ x ∷ []) n (o.known false))))
      (meet_where o (λ i. passes_over (d.jump i) (suc n)) (λ i. o.inverse (get_or (ts ++ x ∷ []) i (o.known false))) n)) last)

-- ---- rungs
module _ {S : Type 0} (o : Algebra S) (V : S → Type 0) (l : LatticeLaws S V o) (p : Drawing) (k : Kept) (now : ℕ) (f : Frame S) (vs : AreValues o V f)
    (sound : IsSound (diagram_of p)) where
  abbrev frames : ℕ → Frame S
  frames n = (looked o (diagram_of p) k now f n).frame

  abbrev all_taken : ℕ → List S
  all_taken n = (looked o (diagram_of p) k now f n).taken

  abbrev guards : ℕ → S
  guards n = guard_of o (diagram_of p) (all_taken n) n

  looked_count : (n : ℕ) → length (all_taken n) ≡ n
  unfolding looked
  looked_count zero = refl
  looked_count (suc n) = length-append (all_taken n) _ ∙ ap (λ m. m + 1) (looked_count n) ∙ omega arith

  -- The steps of the rungs below n leave the look there.
  record At (n : ℕ) (g : Going S) : Type 0 where
    taken : List S
    links : List S
    guard : S
    is : g ≡ going (frames n) taken links guard
    rails : AreRailed o links
    count : length taken ≡ p.rungs
    same : (i : ℕ) → get_or taken i (o.known false) ≡ get_or (all_taken n) i (o.known false)
    turn : turns_before p n n ≡ false → guard ≡ guards n

  gone_append : (xs ys : List Step) (g : Going S) → all_gone o p k now (xs ++ ys) g ≡ all_gone o p k now ys (all_gone o p k now xs g)
  unfolding all_gone
  gone_append [] ys g = refl
  gone_append (x ∷ xs) ys g = gone_append xs ys _

  turned : (n : ℕ) → n < p.rungs → (h : Frame S) (ts links : List S) (guard : S) → ((i : ℕ) → get_or ts i (o.known false) ≡ get_or (all_taken n) i (o.known false))
      → (turns_before p n n ≡ false → guard ≡ guards n)
      → all_gone o p k now (turn_steps n (turns_before p n n)) (going h ts links guard) ≡ going h ts links (guards n)
  unfolding all_gone
  turned n lt h ts links guard same turn = elim (cases_Bool (turns_before p n n)) [
    | inl b ↦
        ap (λ t. all_gone o p k now (turn_steps n t) (going h ts links guard)) b
        ∙ ap (λ x. going h ts links x) (guard_is o p ts n lt ∙ guard_same o p ts (all_taken n) n (λ i less. same i))
    | inr b ↦ ap (λ t. all_gone o p k now (turn_steps n t) (going h ts links guard)) b ∙ ap (λ x. going h ts links x) (turn b)
  ]

  abbrev leaves : ℕ → List S → List S → S → Option Exit → List S
  leaves n ts links guard None = ts
  leaves n ts links guard (Some exit) = set ts n (o.meet guard (among o links exit.left))

  left : (n : ℕ) (h : Frame S) (ts links : List S) (guard : S) (exit : Option Exit)
      → all_gone o p k now (exit_steps n exit) (going h ts links guard) ≡ going h (leaves n ts links guard exit) links guard
  unfolding all_gone
  left n h ts links guard None = refl
  left n h ts links guard (Some exit) = refl

  leaves_count : (n : ℕ) (ts links : List S) (guard : S) (exit : Option Exit) → length (leaves n ts links guard exit) ≡ length ts
  leaves_count n ts links guard None = refl
  leaves_count n ts links guard (Some exit) = length-set ts n _

  leaves_same : (n : ℕ) (ts us links : List S) (guard x : S) (exit : Option Exit) → length us ≡ n → n < length ts
      → ((i : ℕ) → get_or ts i (o.known false) ≡ get_or us i (o.known false)) → taken_by_exit o exit guard links ≡ x
      → (i : ℕ) → get_or (leaves n ts links guard exit) i (o.known false) ≡ get_or (us ++ x ∷ []) i (o.known false)
  leaves_same n ts us links guard x None count lt same e i =
      same i ∙ sym (append_off (o.known false) us i) ∙ ap (λ y. get_or (us ++ y ∷ []) i (o.known false)) e
  leaves_same n ts us links guard x (Some exit) count lt same e i =
      put_behind (o.known false) ts us n _ count lt same i ∙ ap (λ y. get_or (us ++ y ∷ []) i (o.known false)) e

  one_rung : (n : ℕ) → n < p.rungs → (g : Going S) → At n g → At (suc n) (all_gone o p k now (rung_steps p n) g)
  unfolding looked
  one_rung n lt g at =
      let d = diagram_of p in
      let h : Frame S = frames n in
      let guard : S = guards n in
      let values : AreValues o V h = looked_values o V l d k now f vs n in
      let R : List S = ran o d k now n h (gates_of p n) at.links in
      let are : AreLinks o p k now n h R = links_are o V l p k now n h values at.links at.rails.long at.rails.on at.rails.off in
      let exit : Option Exit = exit_of p n in
      let ts : List S = leaves n at.taken R guard exit in
      let is_taken : taken_by_exit o exit guard R ≡ taken_by o (d.jump n) guard (link o d k now n h) =
      taken_of p n o guard R exit refl ∙ taken_same o (d.jump n) guard _ _ (λ place target e. are.left place (sound.jumps n place target e).0) in
      let gates : List Step = map (gate_step p n) (gates_of p n) in
      let acts : List Step = filter_map (λ a. action_step n a a.cell) (actions_of p n) in
      record {
        taken = ts;
        links = R;
        guard = guard;
        is =
            ap (all_gone o p k now (rung_steps p n)) at.is
            ∙ gone_append (turn_steps n (turns_before p n n)) (gates ++ (exit_steps n exit ++ acts)) _
            ∙ ap (all_gone o p k now (gates ++ (exit_steps n exit ++ acts))) (turned n lt h at.taken at.links at.guard at.same at.turn)
            ∙ gone_append gates (exit_steps n exit ++ acts) _
            ∙ ap (all_gone o p k now (exit_steps n exit ++ acts)) (gates_gone o p k now n h at.taken guard (gates_of p n) at.links (gates_inside p n))
            ∙ gone_append (exit_steps n exit) acts _
            ∙ ap (all_gone o p k now acts) (left n h at.taken R guard exit)
            ∙ actions_gone o p k now n ts R guard (actions_of p n) h (action_cells p n)
            ∙ ap (λ x. going x ts R guard) (rung_along o p k now n guard h R are);
        rails = rails_stay o V l p k now n h values at.links at.rails;
        count = leaves_count n at.taken R guard exit ∙ at.count;
        same = leaves_same n at.taken (all_taken n) R guard _ exit (looked_count n) (omega (arith, at.count)) at.same is_taken;
        turn = λ t.
            let next : n + 1 ≡ suc n = omega arith in
            next_guard o p (all_taken n) _ n (looked_count n) (ap₂ (turns_before p) next next ∙ t);
      }

  all_rungs : (n : ℕ) → n ≤ p.rungs → (g : Going S) → At 0 g → At n (all_gone o p k now (steps_below p n) g)
  unfolding steps_below all_gone
  all_rungs zero le g at = at
  all_rungs (suc n) le g at =
      subst (At (suc n)) (sym (gone_append (steps_below p n) (rung_steps p n) g)) (one_rung n (omega (arith, le)) _ (all_rungs n (omega (arith, le)) g at))

  pub by_steps : (ts links : List S) (next : Frame S) → AreRailed o links → length ts ≡ p.rungs → ((i : ℕ) → get_or ts i (o.known false) ≡ o.known false)
      → next ≡ (all_gone o p k now (steps_below p p.rungs) (going f ts links (o.known true))).frame
      → next ≡ (looked o (diagram_of p) k now f p.rungs).frame
  unfolding looked meet_where
  by_steps ts links next rails count none e =
      let at = all_rungs p.rungs (omega arith) (going f ts links (o.known true)) (record {
        taken = ts;
        links = links;
        guard = o.known true;
        is = refl;
        rails = rails;
        count = count;
        same = none;
        turn = λ t. refl;
      }) in
      e ∙ ap (λ (g : Going S). g.frame) at.is
