-- One rung more of one of the programs, or of both.
use Rattle.std.proofs.Common.{◌≡◌, ◌∙◌, ◌⊎◌, ◌+◌, ◌<◌, ◌≤◌, ℕ, Bool, true, false, cond, List, Option, Some, None, ap, ap₂, max, refl, subst, sym, arith, inl, inr}
use Rattle.std.proofs.lemmas.Bool.{cases_lt}
use Rattle.diagram_program.specs.declared.gates.Exit.{Exit}
use Rattle.diagram_program.specs.Gates.{actions_of, exit_of, left_of}
use Rattle.diagram_program.specs.Program.{Drawing}
use Rattle.scan_signals.specs.Truth.{plain}
use Rattle.scan_cycle.specs.Cells.{Diagram}
use Rattle.scan_cycle.specs.Gating.{among}
use Rattle.scan_cycle.specs.Programs.{IsSound, diagram_of}
use Rattle.scan_cycle.specs.Rung.{Held, evaluated, link_at}
use Rattle.scan_cycle.specs.RungByRung.{Scanned, rung_after, scanned}
use Rattle.scan_cycle.specs.Scan.{next_rung}
use Rattle.scan_cycle.proofs.Exits.{after_exit, after_none, after_same}
use Rattle.scan_cycle.proofs.Rungs.{gone_through, passed_over}
use Rattle.diff_matching.specs.Matching.{Matching}
use Rattle.diff_rungs.specs.declared.marks.Marks.{Marks}
use Rattle.diff_rungs.specs.declared.marks.Side.TheVariants.{Old, New}
use Rattle.diff_rungs.specs.declared.reading.Rungs.{Rungs}
use Rattle.diff_rungs.specs.declared.walking.Place.{Place}
use Rattle.diff_rungs.specs.Marks.{IsNarrowed}
use Rattle.diff_rungs.specs.Reading.{FindSame}
use Rattle.diff_rungs.specs.Same.{AreSame}
use Rattle.diff_rungs.specs.Walking.{AreTogether, IsLeap, IsReached, LeapTogether, LetsPass}
use Rattle.diff_rungs.specs.Writing.{AreActionsSpoiled, RungsKeepSame}
use Rattle.diff_rungs.proofs.Acting.{spoil_evaluated}
use Rattle.diff_rungs.proofs.Linking.{links_of, links_same, they_link}
use Rattle.diff_rungs.proofs.States.{first_same, narrowed_same}

-- No jump of the rung leads further.
abbrev pub ReachesFrom : Diagram → ℕ → ℕ → Type 0
ReachesFrom d n reach = (place target : ℕ) → d.jump n ≡ Some (place, target) → target ≤ reach

side_of : (b : Bool) (n target reach : ℕ) → target ≤ reach → cond b target (n + 1) ≤ max (n + 1) reach
side_of true n target reach h = omega arith
side_of false n target reach h = omega arith

after_within : (n reach : ℕ) (leap : Option (ℕ × ℕ)) (links : ℕ → Bool) → ((place target : ℕ) → leap ≡ Some (place, target) → target ≤ reach)
    → rung_after n leap links ≤ max (n + 1) reach
after_within n reach None links h = omega arith
after_within n reach (Some (place, target)) links h = side_of (links place) n target reach (h place target refl)

-- What holds of the state where rung n is evaluated, and where it is passed over, holds after it.
module _ (d : Diagram) (now : ℕ) (h : Held) (n before after : ℕ) (further : before ≤ after) (reaches : ReachesFrom d n after) where
  pub resume_more : (scanned d now h n).resume ≤ max n before → (scanned d now h (n + 1)).resume ≤ max (n + 1) after
  resume_more so_far = elim (cases_lt n (scanned d now h n).resume) [
    | inl less ↦ subst (λ (s : Scanned). s.resume ≤ max (n + 1) after) (sym (passed_over d now h n less)) (omega arith)
    | inr more ↦ subst (λ (s : Scanned). s.resume ≤ max (n + 1) after) (sym (gone_through d now h n more))
        (after_within n after (d.jump n) (link_at d now n (scanned d now h n).held) reaches)
  ]

module _ (d : Diagram) (now : ℕ) (h : Held) (n : ℕ) (P : Held → Type 0) where
  either_way : P (scanned d now h n).held → P (evaluated d now n (scanned d now h n).held) → P (scanned d now h (n + 1)).held
  either_way over through = elim (cases_lt n (scanned d now h n).resume) [
    | inl less ↦ subst (λ (s : Scanned). P s.held) (sym (passed_over d now h n less)) over
    | inr more ↦ subst (λ (s : Scanned). P s.held) (sym (gone_through d now h n more)) through
  ]

  over : n < (scanned d now h n).resume → P (scanned d now h n).held → P (scanned d now h (n + 1)).held
  over less same = subst (λ (s : Scanned). P s.held) (sym (passed_over d now h n less)) same

  through : (scanned d now h n).resume ≤ n → P (evaluated d now n (scanned d now h n).held) → P (scanned d now h (n + 1)).held
  through here one = subst (λ (s : Scanned). P s.held) (sym (gone_through d now h n here)) one

-- ---- together

stays : (d : Diagram) (now : ℕ) (h : Held) (n : ℕ) → n < (scanned d now h n).resume → (scanned d now h (n + 1)).resume ≡ (scanned d now h n).resume
stays d now h n less = ap (λ (s : Scanned). s.resume) (passed_over d now h n less)

goes : (d : Diagram) (now : ℕ) (h : Held) (n : ℕ) → (scanned d now h n).resume ≤ n → (scanned d now h (n + 1)).resume ≡ next_rung d now n (scanned d now h n).held
goes d now h n here = ap (λ (s : Scanned). s.resume) (gone_through d now h n here)

next_below : (n : ℕ) (leap : Option (ℕ × ℕ)) (links : ℕ → Bool) → leap ≡ None → rung_after n leap links ≡ n + 1
next_below n None links e = refl
next_below n (Some x) links e = cc

goes_below : (d : Diagram) (now : ℕ) (h : Held) (n : ℕ) → d.jump n ≡ None → (scanned d now h n).resume ≤ n → (scanned d now h (n + 1)).resume ≤ n + 1
goes_below d now h n none here =
    let e = goes d now h n here in
    let f = next_below n (d.jump n) (link_at d now n (scanned d now h n).held) none in
    subst (λ k. k ≤ n + 1) (sym (e ∙ f)) (omega arith)

module _ (d : Diagram) (now : ℕ) (h : Held) (n : ℕ) (none : d.jump n ≡ None) (leaps : List Rungs) (other resume : ℕ) where
  together_old : LetsPass Old leaps n other → AreTogether leaps n other (scanned d now h n).resume resume
      → AreTogether leaps (n + 1) other (scanned d now h (n + 1)).resume resume
  together_old lets (inl both) = inl (goes_below d now h n none both.0, both.1)
  together_old lets (inr is) = elim (cases_lt n (scanned d now h n).resume) [
    | inl less ↦ inr (subst (λ r. IsLeap leaps r resume) (sym (stays d now h n less)) is)
    | inr here ↦ elim (lets is.0 (record { old = (scanned d now h n).resume; new = resume }) is.1) [
      | inl less ↦ absurd (omega (arith, less, here))
      | inr there ↦ inl (goes_below d now h n none here, there)
    ]
  ]

  together_new : LetsPass New leaps other n → AreTogether leaps other n resume (scanned d now h n).resume
      → AreTogether leaps other (n + 1) resume (scanned d now h (n + 1)).resume
  together_new lets (inl both) = inl (both.0, goes_below d now h n none both.1)
  together_new lets (inr is) = elim (cases_lt n (scanned d now h n).resume) [
    | inl less ↦ inr (subst (λ r. IsLeap leaps resume r) (sym (stays d now h n less)) is)
    | inr here ↦ elim (lets is.0 (record { old = resume; new = (scanned d now h n).resume }) is.1) [
      | inl less ↦ absurd (omega (arith, less, here))
      | inr there ↦ inl (there, goes_below d now h n none here)
    ]
  ]

-- ---- where jumps lead

abbrev by_exit : ℕ → Option Exit → List Bool → ℕ
by_exit n None links = n + 1
by_exit n (Some exit) links = cond (among plain links exit.left) exit.target (n + 1)

module _ (p : Drawing) (sound : IsSound (diagram_of p)) (now n : ℕ) (h : Held) where
  abbrev found : ℕ → Bool
  found place = among plain (links_of p now n h) (left_of p n place)

  by_found : (exit : Option Exit) → exit_of p n ≡ exit → by_exit n exit (links_of p now n h) ≡ rung_after n ((diagram_of p).jump n) found
  by_found None is = after_none p n (λ i. among plain (links_of p now n h) i) is
  by_found (Some exit) is = after_exit p n (λ i. among plain (links_of p now n h) i) exit is

  next_is : next_rung (diagram_of p) now n h ≡ by_exit n (exit_of p n) (links_of p now n h)
  next_is = sym (
      by_found (exit_of p n) refl
      ∙ after_same n ((diagram_of p).jump n) found (link_at (diagram_of p) now n h) (λ place target e. (they_link p now n h).left place (sound.jumps n place target e).0)
      )

either_side : (leaps : List Rungs) (i j t u : ℕ) (b : Bool) → IsLeap leaps t u → AreTogether leaps (i + 1) (j + 1) (cond b t (i + 1)) (cond b u (j + 1))
either_side leaps i j t u true is = inr is
either_side leaps i j t u false is = inl (omega arith, omega arith)

leap_together : (same : Bool) (a b : Option Exit) (leaps : List Rungs) (i j : ℕ) (ls ms : List Bool) → LeapTogether same a b leaps → (same ≡ true → ls ≡ ms)
    → AreTogether leaps (i + 1) (j + 1) (by_exit i a ls) (by_exit j b ms)
leap_together same None None leaps i j ls ms is links = inl (omega arith, omega arith)
leap_together same (Some a) (Some b) leaps i j ls ms is links =
    let equal : among plain ls a.left ≡ among plain ms b.left = ap₂ (among plain) (links is.0) is.1 in
    subst (λ x. AreTogether leaps (i + 1) (j + 1) (cond (among plain ls a.left) a.target (i + 1)) (cond x b.target (j + 1))) equal
    (either_side leaps i j a.target b.target (among plain ls a.left) is.2)
leap_together same None (Some b) leaps i j ls ms is links = absurd is
leap_together same (Some a) None leaps i j ls ms is links = absurd is

module _ (m : Matching) (p q : Drawing) (w : Place) (leaps : List Rungs) (c d : Marks) (now : ℕ) (h g : Held) (reached : IsReached m p q w leaps c now h g) where
  abbrev old_held : Held
  old_held = (scanned (diagram_of p) now h w.old_rung).held

  abbrev new_held : Held
  new_held = (scanned (diagram_of q) now g w.new_rung).held

  abbrev old_resume : ℕ
  old_resume = (scanned (diagram_of p) now h w.old_rung).resume

  abbrev new_resume : ℕ
  new_resume = (scanned (diagram_of q) now g w.new_rung).resume

  pub past_old : (reach : ℕ) (together : Bool) → w.old_reach ≤ reach → ReachesFrom (diagram_of p) w.old_rung reach → AreActionsSpoiled Old m (actions_of p w.old_rung) c d
      → (together ≡ true → (w.together ≡ true) × ((diagram_of p).jump w.old_rung ≡ None) × LetsPass Old leaps w.old_rung w.new_rung)
      → IsReached m p q (record w { old_rung = w.old_rung + 1; old_reach = reach; together = together }) leaps d now h g
  past_old reach together further reaches spoiled lets = record {
    same = either_way (diagram_of p) now h w.old_rung (λ k. AreSame m d k new_held)
        (spoiled.fewer old_held new_held reached.same) (spoil_evaluated Old m p w.old_rung c d spoiled now old_held new_held reached.same);
    old = resume_more (diagram_of p) now h w.old_rung w.old_reach reach further reaches reached.old;
    new = reached.new;
    together = λ is. together_old (diagram_of p) now h w.old_rung (lets is).1 leaps w.new_rung new_resume (lets is).2 (reached.together (lets is).0);
  }

  pub past_new : (reach : ℕ) (together : Bool) → w.new_reach ≤ reach → ReachesFrom (diagram_of q) w.new_rung reach → AreActionsSpoiled New m (actions_of q w.new_rung) c d
      → (together ≡ true → (w.together ≡ true) × ((diagram_of q).jump w.new_rung ≡ None) × LetsPass New leaps w.old_rung w.new_rung)
      → IsReached m p q (record w { new_rung = w.new_rung + 1; new_reach = reach; together = together }) leaps d now h g
  past_new reach together further reaches spoiled lets = record {
    same = either_way (diagram_of q) now g w.new_rung (λ k. AreSame m d old_held k)
        (spoiled.fewer new_held old_held reached.same) (spoil_evaluated New m q w.new_rung c d spoiled now new_held old_held reached.same);
    old = reached.old;
    new = resume_more (diagram_of q) now g w.new_rung w.new_reach reach further reaches reached.new;
    together = λ is. together_new (diagram_of q) now g w.new_rung (lets is).1 leaps w.old_rung old_resume (lets is).2 (reached.together (lets is).0);
  }

  -- Both are evaluated, or both are passed over.
  abbrev BothWays : Bool → Type 0
  BothWays surely = ((old_resume ≤ w.old_rung) × (new_resume ≤ w.new_rung))
      ⊎ ((surely ≡ false) × (w.old_rung < old_resume) × (w.new_rung < new_resume) × IsLeap leaps old_resume new_resume)

  both_ways : (surely : Bool) → (surely ≡ true → (w.old_reach ≤ w.old_rung) × (w.new_reach ≤ w.new_rung))
      → (surely ≡ false → (w.together ≡ true) × LetsPass Old leaps w.old_rung w.new_rung × LetsPass New leaps w.old_rung w.new_rung) → BothWays surely
  both_ways true sure together =
      let s = sure refl in
      inl (let r = reached.old in omega (arith, s.0), let r = reached.new in omega (arith, s.1))
  both_ways false sure together =
      let t = together refl in
      elim (reached.together t.0) [
        | inl both ↦ inl both
        | inr is ↦ elim (cases_lt w.old_rung old_resume) [
          | inl less ↦ elim (t.2 is.0 (record { old = old_resume; new = new_resume }) is.1) [
            | inl also ↦ inr (refl, less, also, is)
            | inr not ↦ absurd (omega (arith, less, not))
          ]
          | inr here ↦ elim (t.1 is.0 (record { old = old_resume; new = new_resume }) is.1) [
            | inl not ↦ absurd (omega (arith, here, not))
            | inr also ↦ inl (here, also)
          ]
        ]
      ]

  module _ (surely same together : Bool) (e : Marks) (after : List Rungs) (old_reach new_reach : ℕ) (old_sound : IsSound (diagram_of p)) (new_sound : IsSound (diagram_of q))
      (old_further : w.old_reach ≤ old_reach) (new_further : w.new_reach ≤ new_reach)
      (old_reaches : ReachesFrom (diagram_of p) w.old_rung old_reach) (new_reaches : ReachesFrom (diagram_of q) w.new_rung new_reach)
      (keep : RungsKeepSame m p q w.old_rung w.new_rung c d) (narrow : IsNarrowed surely c d e) (links : same ≡ true → FindSame m p q c w.old_rung w.new_rung)
      (more : (r s : ℕ) → IsLeap leaps r s → IsLeap after r s)
      (leap : together ≡ true → LeapTogether same (exit_of p w.old_rung) (exit_of q w.new_rung) after) where
    abbrev there : Place
    there = record { old_rung = w.old_rung + 1; new_rung = w.new_rung + 1; old_reach = old_reach; new_reach = new_reach; together = together }

    evaluated_both : old_resume ≤ w.old_rung → new_resume ≤ w.new_rung → IsReached m p q there after e now h g
    evaluated_both old_here new_here = record {
      same = through (diagram_of p) now h w.old_rung (λ k. AreSame m e k (scanned (diagram_of q) now g (w.new_rung + 1)).held) old_here
          (through (diagram_of q) now g w.new_rung (λ k. AreSame m e (evaluated (diagram_of p) now w.old_rung old_held) k) new_here
          (narrowed_same _ m c d e _ _ narrow (keep now old_held new_held reached.same)));
      old = resume_more (diagram_of p) now h w.old_rung w.old_reach old_reach old_further old_reaches reached.old;
      new = resume_more (diagram_of q) now g w.new_rung w.new_reach new_reach new_further new_reaches reached.new;
      together = λ is.
          let old_next = goes (diagram_of p) now h w.old_rung old_here ∙ next_is p old_sound now w.old_rung old_held in
          let new_next = goes (diagram_of q) now g w.new_rung new_here ∙ next_is q new_sound now w.new_rung new_held in
          let both = leap_together same (exit_of p w.old_rung) (exit_of q w.new_rung) after w.old_rung w.new_rung
          (links_of p now w.old_rung old_held) (links_of q now w.new_rung new_held) (leap is)
          (λ t. links_same m p q c now w.old_rung w.new_rung old_held new_held reached.same (links t)) in
          subst (λ r. AreTogether after (w.old_rung + 1) (w.new_rung + 1) r (scanned (diagram_of q) now g (w.new_rung + 1)).resume) (sym old_next)
          (subst (λ s. AreTogether after (w.old_rung + 1) (w.new_rung + 1) (by_exit w.old_rung (exit_of p w.old_rung) (links_of p now w.old_rung old_held)) s) (sym new_next) both);
    }

    passed_both : surely ≡ false → w.old_rung < old_resume → w.new_rung < new_resume → IsLeap leaps old_resume new_resume → IsReached m p q there after e now h g
    passed_both not old_less new_less is = record {
      same = over (diagram_of p) now h w.old_rung (λ k. AreSame m e k (scanned (diagram_of q) now g (w.new_rung + 1)).held) old_less
          (over (diagram_of q) now g w.new_rung (λ k. AreSame m e old_held k) new_less (first_same surely not m c d e old_held new_held narrow reached.same));
      old = resume_more (diagram_of p) now h w.old_rung w.old_reach old_reach old_further old_reaches reached.old;
      new = resume_more (diagram_of q) now g w.new_rung w.new_reach new_reach new_further new_reaches reached.new;
      together = λ t. inr (
          subst (λ r. IsLeap after r (scanned (diagram_of q) now g (w.new_rung + 1)).resume) (sym (stays (diagram_of p) now h w.old_rung old_less))
          (subst (λ s. IsLeap after old_resume s) (sym (stays (diagram_of q) now g w.new_rung new_less)) (more old_resume new_resume is))
          );
    }

    pub past_alike : (surely ≡ true → (w.old_reach ≤ w.old_rung) × (w.new_reach ≤ w.new_rung))
        → (surely ≡ false → (w.together ≡ true) × LetsPass Old leaps w.old_rung w.new_rung × LetsPass New leaps w.old_rung w.new_rung)
        → IsReached m p q there after e now h g
    past_alike sure lets = elim (both_ways surely sure lets) [
      | inl both ↦ evaluated_both both.0 both.1
      | inr neither ↦ passed_both neither.0 neither.1 neither.2 neither.3
    ]
