-- Verdicts that are found one after the other, and the witnesses that are kept of them.
use Rattle.std.proofs.Common.{◌≡◌, ◌∙◌, ◌++◌, ◌+◌, ◌<◌, ◌∷◌, ◌⊎◌, Bool, true, ℕ, List, [], Some, ap, append_assoc, append-nil, get_or, inl, inr, length, length-append, map, refl, slice_get, subst, suc, sym, zero}
use Rattle.std.proofs.lemmas.Option.{get_or_from_slice_get, same_Some, slice_get-get_or, slice_get_within}
use Rattle.std.proofs.lemmas.List.{map-append}
use Rattle.std.proofs.lemmas.List.Elements.{All-append}
use Rattle.invariant_cases.proofs.Values.{on_off}
use Rattle.scan_cycle.proofs.GateLaws.{all_one}
use Rattle.diagram_program.specs.Program.{Drawing}
use Rattle.diff_matching.specs.declared.matching.Pair.{Pair}
use Rattle.diff_matching.specs.Matching.{Matching}
use Rattle.diff_cases.specs.declared.target.Target.{Target}
use Rattle.diff_meaning.specs.Counting.{CountAssuming}
use Rattle.diff_meaning.specs.Verdicts.{CanBeJudged, IsTrueOf, Shows, pairs_of, target_of}
use Rattle.diff_meaning.specs.Witnesses.{Difference, shown_by, told_by, told_of}
use Rattle.diff_meaning.specs.declared.counted.Counted.{Counted}
use Rattle.diff_meaning.specs.declared.verdict.PairSort.{PairSort}
use Rattle.diff_meaning.specs.declared.verdict.PairSort.TheVariants.{Variables, Instances, Memories}
use Rattle.diff_meaning.specs.declared.verdict.Verdict.{Verdict}
use Rattle.diff_meaning.specs.declared.witness.Witness.{Witness}
use Rattle.diff_verdicts.specs.Judging.{Judging, JudgesTheSame}
use Rattle.diff_verdicts.specs.Keeping.{AreKept}

-- so many of them, each of which is true
pub record AreTrueBelow (c : Counted) (m : Matching) (p q : Drawing) (sort : PairSort) (count : ℕ) (verdicts : List Verdict) : Type 0 where
  pub as_many : length verdicts ≡ count
  pub each : (n : ℕ) (x : Pair) (verdict : Verdict) → slice_get (pairs_of sort m) n ≡ Some x → slice_get verdicts n ≡ Some verdict
      → IsTrueOf (CountAssuming c) m p q (target_of sort x) verdict

-- What is so of what a judge judges is so of what one judges that judges the same.
pub of_same : (P : Counted → Matching → Drawing → Drawing → Type 0) (j k : Judging) → JudgesTheSame j k → P k.counted k.matching k.old_program k.new_program
    → P j.counted j.matching j.old_program j.new_program
of_same P j k same is =
    subst (λ (c : Counted). P c j.matching j.old_program j.new_program) same.counted
    (subst (λ (m : Matching). P k.counted m j.old_program j.new_program) same.matching
    (subst (λ (p : Drawing). P k.counted k.matching p j.new_program) same.old_program
    (subst (λ (q : Drawing). P k.counted k.matching k.old_program q) same.new_program is)))

pub turned : (j k : Judging) → JudgesTheSame j k → JudgesTheSame k j
turned j k same = record { old_program = sym same.old_program; new_program = sym same.new_program; matching = sym same.matching; counted = sym same.counted }

pub same_then : (i j k : Judging) → JudgesTheSame i j → JudgesTheSame j k → JudgesTheSame i k
same_then i j k first then = record {
  old_program = then.old_program ∙ first.old_program;
  new_program = then.new_program ∙ first.new_program;
  matching = then.matching ∙ first.matching;
  counted = then.counted ∙ first.counted;
}

-- A pair that is read from the list of its sort, and what it names.
pub named_there : (sort : PairSort) (read pairs : List Pair) (n : ℕ) (d : Pair) (target : Target) → read ≡ pairs → n < length read
    → target ≡ target_of sort (get_or read n d) → (x : Pair) × (slice_get pairs n ≡ Some x) × (target ≡ target_of sort x)
named_there sort read pairs n d target same lt is =
    (get_or read n d, subst (λ (xs : List Pair). slice_get xs n ≡ Some (get_or read n d)) same (slice_get-get_or read n d lt), is)

-- What it names can be judged.
pub can_be : (sort : PairSort) (m : Matching) (n : ℕ) (x : Pair) → slice_get (pairs_of sort m) n ≡ Some x → CanBeJudged m (target_of sort x)
can_be Variables m n x e = tt
can_be Instances m n x e = (n, slice_get_within m.instances n x e, get_or_from_slice_get m.instances n x x e)
can_be Memories m n x e = tt

-- A verdict of the longer list is one of the list, or the last.
of_longer : (xs : List Verdict) (v w : Verdict) (i : ℕ) → slice_get (xs ++ (v ∷ [])) i ≡ Some w → (slice_get xs i ≡ Some w) ⊎ ((i ≡ length xs) × (w ≡ v))
of_longer [] v w zero e = inr (refl, same_Some w v (sym e))
of_longer [] v w (suc i) e = cc
of_longer (x ∷ xs) v w zero e = inl e
of_longer (x ∷ xs) v w (suc i) e = elim (of_longer xs v w i e) [
  | inl there ↦ inl there
  | inr last ↦ inr (ap suc last.0, last.1)
]

-- One verdict more, which is true of the next pair.
pub true_more : (c : Counted) (m : Matching) (p q : Drawing) (sort : PairSort) (n : ℕ) (x : Pair) (v : Verdict) (verdicts : List Verdict)
    → slice_get (pairs_of sort m) n ≡ Some x → AreTrueBelow c m p q sort n verdicts → IsTrueOf (CountAssuming c) m p q (target_of sort x) v
    → AreTrueBelow c m p q sort (n + 1) (verdicts ++ (v ∷ []))
true_more c m p q sort n x v verdicts at below here = record {
  as_many = length-append verdicts (v ∷ []) ∙ ap (λ (k : ℕ). k + 1) below.as_many;
  each = λ i y w there got. elim (of_longer verdicts v w i got) [
    | inl earlier ↦ below.each i y w there earlier
    | inr last ↦
        let place : i ≡ n = last.0 ∙ below.as_many in
        let same : x ≡ y = same_Some x y (sym at ∙ ap (slice_get (pairs_of sort m)) (sym place) ∙ there) in
        subst (λ (z : Pair). IsTrueOf (CountAssuming c) m p q (target_of sort z) w) same (subst (λ (u : Verdict). IsTrueOf (CountAssuming c) m p q (target_of sort x) u) (sym last.1) here)
  ];
}

-- No verdict tells a difference.
pub told_none : (sort : PairSort) (pairs : List Pair) → told_of sort pairs [] ≡ []
unfolding told_of
told_none sort [] = refl
told_none sort (x ∷ pairs) = refl

-- The differences that one verdict more tells.
pub told_more : (sort : PairSort) (pairs : List Pair) (verdicts : List Verdict) (x : Pair) (v : Verdict) → slice_get pairs (length verdicts) ≡ Some x
    → told_of sort pairs (verdicts ++ (v ∷ [])) ≡ told_of sort pairs verdicts ++ told_by (target_of sort x) v
unfolding told_of
told_more sort [] [] x v e = cc
told_more sort [] (w ∷ verdicts) x v e = cc
told_more sort (y ∷ more) [] x v e =
    let same : y ≡ x = same_Some y x e in
    ap (λ ds. told_by (target_of sort y) v ++ ds) (told_none sort more) ∙ append-nil (told_by (target_of sort y) v)
    ∙ ap (λ z. told_by (target_of sort z) v) same
told_more sort (y ∷ more) (w ∷ verdicts) x v e =
    ap (λ ds. told_by (target_of sort y) w ++ ds) (told_more sort more verdicts x v e)
    ∙ sym (append_assoc (told_by (target_of sort y) w) (told_of sort more verdicts) (told_by (target_of sort x) v))

module _ (c : Counted) (m : Matching) (p q : Drawing) (keeps : Bool) where
  pub kept_none : (witnesses : List Witness) → AreKept c m p q keeps [] witnesses witnesses
  kept_none witnesses = record { each = λ e. sym (append-nil (map shown_by witnesses)); show = λ all. all; none = λ e. refl }

  pub kept_more : (ds es : List Difference) (first then last : List Witness) → AreKept c m p q keeps ds first then → AreKept c m p q keeps es then last
      → AreKept c m p q keeps (ds ++ es) first last
  kept_more ds es first then last k l = record {
    each = λ e. l.each e ∙ ap (λ xs. xs ++ es) (k.each e) ∙ append_assoc (map shown_by first) ds es;
    show = λ all. l.show (k.show all);
    none = λ e. l.none e ∙ k.none e;
  }

-- A witness more.
pub kept_one : (c : Counted) (m : Matching) (p q : Drawing) (w : Witness) (before : List Witness)
    → Shows (CountAssuming c) m p q w.target w.old_state w.new_state w.of_old w.of_new → AreKept c m p q true (shown_by w ∷ []) before (before ++ (w ∷ []))
kept_one c m p q w before shows = record {
  each = λ e. map-append shown_by before (w ∷ []);
  show = λ all. All-append (λ (x : Witness). Shows (CountAssuming c) m p q x.target x.old_state x.new_state x.of_old x.of_new) before (w ∷ []) all (all_one (λ (x : Witness). Shows (CountAssuming c) m p q x.target x.old_state x.new_state x.of_old x.of_new) w shows);
  none = λ e. absurd (on_off e);
}
