-- A run is made one scan after the other, until the target is ON.
use Rattle.std.proofs.Common.{◌≡◌, ◌∙◌, ℕ, ◌+◌, ◌<◌, ◌≤◌, Bool, true, false, List, [], ◌∷◌, ◌++◌, append_assoc, ap, arith, drop, inl, inr, length, refl, slice_index_or, subst, suc, sym, take}
use Rattle.std.specs.Prelude.{All}
use Rattle.std.proofs.Math.Seq.{drop-cons}
use Rattle.std.proofs.lemmas.Bool.{both_ways, cases_lt}
use Rattle.std.proofs.lemmas.List.{take-append-drop, take_more, take_all}
use Rattle.std.proofs.lemmas.List.Elements.{All-get_or, All-nil, All-push}
use Rattle.scan_cycle.specs.Cells.{Diagram}
use Rattle.scan_cycle.specs.Programs.{diagram_of}
use Rattle.scan_cycle.specs.Rung.{Held}
use Rattle.scan_cycle.specs.Runs.{OneScan, after_each}
use Rattle.scan_cycle.specs.Scan.{after_scan}
use Rattle.std.specs.List.{list_all}
use Rattle.reach_runs.specs.declared.timing.Timing.{Timing}
use Rattle.reach_runs.specs.declared.timing.Timing.TheVariants.{AnyMoments, Every}
use Rattle.reach_runs.specs.Asking.{AreTimed, Gives, RunQuestion, SwitchesOn, is_on_after, is_so}
use Rattle.reach_runs.specs.Rhythm.{next_of}

-- what one scan more leaves
pub one_last : (d : Diagram) (scans : List OneScan) (x : OneScan) (h : Held) → after_each d (scans ++ x ∷ []) h ≡ after_scan d x.moment x.inputs (after_each d scans h)
unfolding after_each
one_last d [] x h = refl
one_last d (y ∷ scans) x h = one_last d scans x (after_scan d y.moment y.inputs h)

pub none_leave : (d : Diagram) (h : Held) → after_each d [] h ≡ h
unfolding after_each
none_leave d h = refl

-- ---- scans that are in time

timed_more : (timing : Timing) (from : ℕ) (x : OneScan) (more : List OneScan)
    → AreTimed timing from (x ∷ []) → AreTimed timing (next_of timing x.moment) more → AreTimed timing from (x ∷ more)
timed_more AnyMoments from x more one later = (one.0, one.1, later)
timed_more (Every every) from x more one later = (one.0, subst (λ (n : ℕ). AreTimed (Every every) (n + every) more) one.0 later)

timed_first : (timing : Timing) (from : ℕ) (x : OneScan) (more : List OneScan) → AreTimed timing from (x ∷ more) → AreTimed timing from (x ∷ [])
timed_first AnyMoments from x more all = (all.0, all.1, tt)
timed_first (Every every) from x more all = (all.0, tt)

timed_rest : (timing : Timing) (from : ℕ) (x : OneScan) (more : List OneScan)
    → AreTimed timing from (x ∷ more) → AreTimed timing (next_of timing x.moment) more
timed_rest AnyMoments from x more all = all.2
timed_rest (Every every) from x more all = subst (λ (n : ℕ). AreTimed (Every every) (n + every) more) (sym all.0) all.1

pub next_later : (timing : Timing) (moment : ℕ) → moment ≤ next_of timing moment
next_later AnyMoments moment = omega arith
next_later (Every every) moment = omega arith

-- ---- the scans that are made

-- The first n scans of a run are made: the run is in time where the others are from a moment on, and the target is OFF after each.
pub record AreMade (q : RunQuestion) (scans : List OneScan) (n from : ℕ) (h : Held) : Type 0 where
  pub held : h ≡ after_each (diagram_of q.program) (take n scans) q.state.held
  pub timed : (more : List OneScan) → AreTimed q.timing from more → AreTimed q.timing q.from (take n scans ++ more)
  pub later : (more : List OneScan) → AreTimed q.timing q.from (take n scans ++ more) → AreTimed q.timing from more
  pub given : All (λ scan. Gives q scan.inputs) (take n scans)
  pub off : (k : ℕ) → 0 < k → k ≤ n → is_on_after q (take k scans) ≡ false

pub none_made : (q : RunQuestion) (scans : List OneScan) (h : Held) → h ≡ q.state.held → AreMade q scans 0 q.from h
none_made q scans h is = record {
  held = is ∙ sym (none_leave (diagram_of q.program) q.state.held);
  timed = λ more timed. timed;
  later = λ more timed. timed;
  given = All-nil (λ scan. Gives q scan.inputs);
  off = λ k some few. absurd (omega (arith, some, few));
}

-- The next scan of a run that switches the target on.
module _ (q : RunQuestion) (scans : List OneScan) (n from : ℕ) (h : Held) (x : OneScan) (made : AreMade q scans n from h) (there : n < length scans) (is : x ≡ slice_index_or scans n x)
    (on : SwitchesOn q scans) where
  from_it : drop n scans ≡ x ∷ drop (suc n) scans
  from_it = drop-cons scans n x there ∙ ap (λ (y : OneScan). y ∷ drop (suc n) scans) (sym is)

  pub next_timed : AreTimed q.timing from (x ∷ [])
  next_timed =
      timed_first q.timing from x (drop (suc n) scans)
      (subst (AreTimed q.timing from) from_it
      (made.later (drop n scans) (subst (AreTimed q.timing q.from) (sym (take-append-drop n scans)) on.asked.timed)))

  pub next_given : Gives q x.inputs
  next_given = subst (λ (y : OneScan). Gives q y.inputs) (sym is) (All-get_or (λ scan. Gives q scan.inputs) scans n x there on.asked.given)

-- The scan after them is made, which leaves g.
pub record IsMade (q : RunQuestion) (scans : List OneScan) (n from : ℕ) (h g : Held) (x : OneScan) : Type 0 where
  pub there : n < length scans
  pub is : x ≡ slice_index_or scans n x
  pub leaves : g ≡ after_scan (diagram_of q.program) x.moment x.inputs h
  pub timed : AreTimed q.timing from (x ∷ [])
  pub given : Gives q x.inputs

-- so it is where the scan is at this moment, and is asked about and made with these inputs
pub made_with : (q : RunQuestion) (scans : List OneScan) (n from : ℕ) (h g : Held) (x : OneScan) (moment : ℕ) (inputs asked used : List Bool)
    → n < length scans → x ≡ slice_index_or scans n x → record { moment = moment; inputs = inputs } ≡ x → asked ≡ inputs → used ≡ inputs
    → AreTimed q.timing from (record { moment = moment; inputs = inputs } ∷ []) → Gives q asked → g ≡ after_scan (diagram_of q.program) moment used h
    → IsMade q scans n from h g x
made_with q scans n from h g x moment inputs asked used there is same same_asked same_used timed given leaves = record {
  there = there;
  is = is;
  leaves = leaves ∙ ap (λ (xs : List Bool). after_scan (diagram_of q.program) moment xs h) same_used
      ∙ ap (λ (s : OneScan). after_scan (diagram_of q.program) s.moment s.inputs h) same;
  timed = subst (λ (s : OneScan). AreTimed q.timing from (s ∷ [])) same timed;
  given = subst (λ (s : OneScan). Gives q s.inputs) same (subst (Gives q) same_asked given);
}

module _ (q : RunQuestion) (scans : List OneScan) (n from : ℕ) (h g : Held) (x : OneScan) (made : AreMade q scans n from h) (one : IsMade q scans n from h g x) where
  with_it : take (n + 1) scans ≡ take n scans ++ x ∷ []
  with_it = take_more scans n x one.there ∙ ap (λ (y : OneScan). take n scans ++ y ∷ []) (sym one.is)

  with_more : (more : List OneScan) → take (n + 1) scans ++ more ≡ take n scans ++ x ∷ more
  with_more more = ap (λ (xs : List OneScan). xs ++ more) with_it ∙ append_assoc (take n scans) (x ∷ []) more

  left : g ≡ after_each (diagram_of q.program) (take (n + 1) scans) q.state.held
  left =
      one.leaves ∙ ap (after_scan (diagram_of q.program) x.moment x.inputs) made.held
      ∙ sym (ap (λ (xs : List OneScan). after_each (diagram_of q.program) xs q.state.held) with_it ∙ one_last (diagram_of q.program) (take n scans) x q.state.held)

  is_on : is_on_after q (take (n + 1) scans) ≡ list_all (is_so g) q.target
  is_on = ap (λ (s : Held). list_all (is_so s) q.target) (sym left)

  all_given : All (λ scan. Gives q scan.inputs) (take (n + 1) scans)
  all_given = subst (All (λ scan. Gives q scan.inputs)) (sym with_it) (All-push (λ scan. Gives q scan.inputs) (take n scans) x made.given one.given)

  pub one_made : list_all (is_so g) q.target ≡ false → AreMade q scans (n + 1) (next_of q.timing x.moment) g
  one_made off = record {
    held = left;
    timed = λ more timed. subst (AreTimed q.timing q.from) (sym (with_more more)) (made.timed (x ∷ more) (timed_more q.timing from x more one.timed timed));
    later = λ more timed. timed_rest q.timing from x more (made.later (x ∷ more) (subst (AreTimed q.timing q.from) (with_more more) timed));
    given = all_given;
    off = λ k some few. elim (cases_lt n k) [
      | inl last ↦
          let same : n + 1 ≡ k = omega (arith, last, few) in
          subst (λ (m : ℕ). is_on_after q (take m scans) ≡ false) same (is_on ∙ off)
      | inr before ↦ made.off k some before
    ];
  }

  pub is_switched : n + 1 ≡ length scans → list_all (is_so g) q.target ≡ true → SwitchesOn q scans
  is_switched end on =
      let all : take (n + 1) scans ≡ scans = take_all (n + 1) scans (omega (arith, end)) in
      record {
        asked = record {
          timed = subst (AreTimed q.timing q.from) (sym with_it ∙ all) (made.timed (x ∷ []) one.timed);
          given = subst (All (λ scan. Gives q scan.inputs)) all all_given;
        };
        some = omega (arith, end);
        on = ap (λ (xs : List OneScan). is_on_after q xs) (sym all) ∙ is_on ∙ on;
        off = λ k some few. made.off k some (omega (arith, few, end));
      }

  -- where the target is ON after it, it is the last one
  pub is_last : list_all (is_so g) q.target ≡ true → SwitchesOn q scans → n + 1 ≡ length scans
  is_last on switched = elim (cases_lt (n + 1) (length scans)) [
    | inl before ↦ absurd (both_ways (is_on_after q (take (n + 1) scans)) (switched.off (n + 1) (omega arith) before) (is_on ∙ on))
    | inr end ↦ omega (arith, end, one.there)
  ]
