-- Each row that tells a difference is shown by a witness.
use Rattle.std.proofs.Common.{◌≡◌, ◌∙◌, ◌++◌, ◌∷◌, ℕ, suc, zero, Bool, List, [], None, Option, Some, ap, arith, false, inl, inr, map, not, refl, subst, sym, true}
use Rattle.std.specs.Prelude.{◌==◌, Contains, slice_get, slice_index_or, unwrap_or}
use Rattle.std.specs.List.{flat_map, range_with_len}
use Rattle.std.proofs.lemmas.Bool.Decides.{nat_tests}
use Rattle.std.proofs.lemmas.List.Elements.{All-contains, All-nil, Contains-append_cases, Contains-append_left, Contains-append_right, Contains-push_cases}
use Rattle.std.proofs.lemmas.List.Quantifiers.{position-Some}
use Rattle.std.proofs.lemmas.Option.{slice_get-get_or}
use Rattle.diagram_program.specs.Program.{Drawing}
use Rattle.scan_cycle.specs.Rung.{Held}
use Rattle.diff_matching.specs.Matching.{Matching}
use Rattle.diff_matching.specs.declared.matching.Pair.{Pair}
use Rattle.diff_meaning.specs.Verdicts.{Shows, target_of}
use Rattle.diff_meaning.specs.Witnesses.{AreWitnesses, Difference, shown_by, told, told_by, told_of}
use Rattle.diff_meaning.specs.declared.verdict.PairSort.{PairSort}
use Rattle.diff_meaning.specs.declared.verdict.PairSort.TheVariants.{Variables, Instances, Memories}
use Rattle.diff_meaning.specs.declared.verdict.Verdict.{Verdict}
use Rattle.diff_meaning.specs.declared.verdict.Verdict.TheVariants.{Differs, Unsettled}
use Rattle.diff_meaning.specs.declared.verdict.Verdicts.{Verdicts}
use Rattle.diff_meaning.specs.declared.witness.Witness.{Witness}
use Rattle.diff_findings.specs.Findings.{address_of, all_sorts, count_of, declared_remarks, findings, findings_of, findings_on, found, initial_of, input_remarks, instance_remarks, is_same, is_same_bit, is_same_place, is_written, new_edge_remarks, new_instance_remarks, new_variable_remarks, one_if, pair_at, place_of_new, preset_of, remarks_of, remarks_on, variable_remarks, verdict_at}
use Rattle.diff_findings.specs.declared.finding.Finding.{Finding}
use Rattle.diff_findings.specs.declared.finding.Remark.{Remark}
use Rattle.diff_findings.specs.declared.finding.Remark.TheVariants.{Judged, Initial, Preset, Moved, Alone}
use Rattle.diff_findings.specs.declared.finding.Sort.{Sort}
use Rattle.diff_findings.specs.declared.finding.Sort.TheVariants.{NewVariable, NewInstance, OldVariable, OldInstance, NewEdge}
use Rattle.diff_findings.specs.declared.finding.Subject.{Subject}
use Rattle.cli_witnesses.specs.Laws.{AreRowsShownBy, IsShown}
use Rattle.cli_witnesses.specs.Naming.{subject_of}

-- ---- lists

nothing : {A : Type 0} (y : A) → Contains [] y → ⊥
nothing y h = All-contains (λ z. ⊥) [] y (All-nil (λ z. ⊥)) h

single : {A : Type 0} (x y : A) → Contains (x ∷ []) y → x ≡ y
single x y h = elim (Contains-push_cases [] x y h) [ inl k ↦ absurd (nothing y k) | inr same ↦ same ]

head : {A : Type 0} (x : A) (xs : List A) → Contains (x ∷ xs) x
head x xs = (0, omega arith, refl)

in_flat : {A B : Type 0} (f : A → List B) (xs : List A) (y : B) → Contains (flat_map f xs) y → (x : A) × Contains (f x) y
in_flat f [] y h = absurd (nothing y h)
in_flat f (x ∷ xs) y h = elim (Contains-append_cases (f x) (flat_map f xs) y h) [ inl k ↦ (x, k) | inr k ↦ in_flat f xs y k ]

in_map : {A B : Type 0} (f : A → B) (xs : List A) (y : B) → Contains (map f xs) y → (x : A) × Contains xs x × (f x ≡ y)
in_map f [] y h = absurd (nothing y h)
in_map f (x ∷ xs) y h = elim (Contains-append_cases (f x ∷ []) (map f xs) y h) [
  | inl k ↦ (x, head x xs, single (f x) y k)
  | inr k ↦ let r = in_map f xs y k in (r.0, Contains-append_right (x ∷ []) xs r.0 r.1, r.2)
]

IsThere : {A : Type 0} → Option A → Type 0
IsThere (Some x) = Unit {0}
IsThere None = ⊥

-- ---- what is said of a name

IsVerdict : Remark → Type 0
IsVerdict (Judged v) = Unit {0}
IsVerdict other = ⊥

no_verdict : (r : Remark) (v : Verdict) → (IsVerdict r → ⊥) → r ≡ Judged v → ⊥
unfolding IsVerdict
no_verdict r v not e = not (subst IsVerdict (sym e) tt)

verdict_in : Remark → Verdict
verdict_in (Judged v) = v
verdict_in other = Unsettled

same_verdict : (w v : Verdict) → Judged w ≡ Judged v → w ≡ v
unfolding verdict_in
same_verdict w v e = ap verdict_in e

one_in : (so : Bool) (r x : Remark) → Contains (one_if so r) x → r ≡ x
one_in true r x h = single r x h
one_in false r x h = absurd (nothing x h)

no_declared : (p q : Drawing) (x : Pair) (v : Verdict) → Contains (declared_remarks p q x) (Judged v) → ⊥
unfolding IsVerdict
no_declared p q x v h =
    let initial = one_if (not (is_same_bit (initial_of p x.old) (initial_of q x.new))) (Initial (initial_of p x.old) (initial_of q x.new)) in
    let moved = one_if (not (is_same_place (address_of p x.old) (address_of q x.new))) (Moved (address_of p x.old) (address_of q x.new)) in
    elim (Contains-append_cases initial moved (Judged v) h) [
      | inl k ↦ no_verdict _ v (λ z. z) (one_in _ _ _ k)
      | inr k ↦ no_verdict _ v (λ z. z) (one_in _ _ _ k)
    ]

of_variable : (p q : Drawing) (x : Pair) (w v : Verdict) → Contains (variable_remarks p q x w) (Judged v) → w ≡ v
of_variable p q x w v h = elim (Contains-append_cases (one_if (is_written p q x) (Judged w)) (declared_remarks p q x) (Judged v) h) [
  | inl k ↦ same_verdict w v (one_in _ _ _ k)
  | inr k ↦ absurd (no_declared p q x v k)
]

of_instance : (p q : Drawing) (x : Pair) (w v : Verdict) → Contains (instance_remarks p q x w) (Judged v) → w ≡ v
unfolding IsVerdict
of_instance p q x w v h =
    let preset = one_if (not (preset_of p x.old == preset_of q x.new)) (Preset (preset_of p x.old) (preset_of q x.new)) in
    elim (Contains-append_cases (Judged w ∷ []) preset (Judged v) h) [
      | inl k ↦ same_verdict w v (single _ _ k)
      | inr k ↦ absurd (no_verdict _ v (λ z. z) (one_in _ _ _ k))
    ]

not_alone : (v : Verdict) → Contains (Alone ∷ []) (Judged v) → ⊥
unfolding IsVerdict
not_alone v h = no_verdict Alone v (λ z. z) (single _ _ h)

no_input : (p q : Drawing) (m : Matching) (number : ℕ) (v : Verdict) → Contains (input_remarks p q m number) (Judged v) → ⊥
no_input p q m number v =
    elim (place_of_new m.inputs number)
    as (λ o. Contains (elim o [ Some n ↦ declared_remarks p q (pair_at m.inputs n) | None ↦ Alone ∷ [] ]) (Judged v) → ⊥) [
      | Some n ↦ λ h. no_declared p q (pair_at m.inputs n) v h
      | None ↦ λ h. not_alone v h
    ]

-- The pair that the number is in was judged so.
HasVerdict : List Pair → List Verdict → ℕ → Verdict → Type 0
HasVerdict pairs verdicts number v = (n : ℕ) × (place_of_new pairs number ≡ Some n) × (verdict_at verdicts n ≡ v)

variable_judged : (p q : Drawing) (m : Matching) (vs : Verdicts) (number : ℕ) (v : Verdict) → Contains (new_variable_remarks p q m vs number) (Judged v)
    → HasVerdict m.variables vs.variables.items number v
unfolding HasVerdict
variable_judged p q m vs number v =
    elim (place_of_new m.variables number)
    as (λ o. (o ≡ place_of_new m.variables number) → Contains (elim o [
      | Some n ↦ variable_remarks p q (pair_at m.variables n) (verdict_at vs.variables.items n)
      | None ↦ input_remarks p q m number
    ]) (Judged v) → HasVerdict m.variables vs.variables.items number v) [
      | Some n ↦ λ at h. (n, sym at, of_variable p q (pair_at m.variables n) (verdict_at vs.variables.items n) v h)
      | None ↦ λ at h. absurd (no_input p q m number v h)
    ] refl

instance_judged : (p q : Drawing) (m : Matching) (vs : Verdicts) (number : ℕ) (v : Verdict) → Contains (new_instance_remarks p q m vs number) (Judged v)
    → HasVerdict m.instances vs.instances.items number v
unfolding HasVerdict
instance_judged p q m vs number v =
    elim (place_of_new m.instances number)
    as (λ o. (o ≡ place_of_new m.instances number) → Contains (elim o [
      | Some n ↦ instance_remarks p q (pair_at m.instances n) (verdict_at vs.instances.items n)
      | None ↦ Alone ∷ []
    ]) (Judged v) → HasVerdict m.instances vs.instances.items number v) [
      | Some n ↦ λ at h. (n, sym at, of_instance p q (pair_at m.instances n) (verdict_at vs.instances.items n) v h)
      | None ↦ λ at h. absurd (not_alone v h)
    ] refl

edge_judged : (m : Matching) (vs : Verdicts) (number : ℕ) (v : Verdict) → Contains (new_edge_remarks m vs number) (Judged v)
    → HasVerdict m.memories vs.memories.items number v
unfolding HasVerdict
edge_judged m vs number v =
    elim (place_of_new m.memories number)
    as (λ o. (o ≡ place_of_new m.memories number) → Contains (elim o [
      | Some n ↦ one_if (not (is_same (verdict_at vs.memories.items n))) (Judged (verdict_at vs.memories.items n))
      | None ↦ []
    ]) (Judged v) → HasVerdict m.memories vs.memories.items number v) [
      | Some n ↦ λ at h. (n, sym at, same_verdict (verdict_at vs.memories.items n) v (one_in _ _ _ h))
      | None ↦ λ at h. absurd (nothing _ h)
    ] refl

-- ---- what verdicts tell

IsDifference : Verdict → Type 0
IsDifference (Differs a b) = Unit {0}
IsDifference other = ⊥

is_there : (vs : List Verdict) (n : ℕ) (a b : Bool) → slice_index_or vs n Unsettled ≡ Differs a b → slice_get vs n ≡ Some (Differs a b)
unfolding IsDifference
is_there [] zero a b h = absurd (subst IsDifference (sym h) tt)
is_there [] (suc n) a b h = absurd (subst IsDifference (sym h) tt)
is_there (w ∷ vs) zero a b h = ap Some h
is_there (w ∷ vs) (suc n) a b h = is_there vs n a b h

difference : PairSort → Pair → Bool → Bool → Difference
difference sort x a b = record { target = target_of sort x; of_old = a; of_new = b }

told_at : (sort : PairSort) (pairs : List Pair) (vs : List Verdict) (n : ℕ) (x : Pair) (a b : Bool) → slice_get pairs n ≡ Some x
    → slice_get vs n ≡ Some (Differs a b) → Contains (told_of sort pairs vs) (difference sort x a b)
unfolding IsThere difference told_of
told_at sort [] vs n x a b h k = absurd (subst IsThere (sym h) tt)
told_at sort (y ∷ pairs) [] n x a b h k = absurd (subst IsThere (sym k) tt)
told_at sort (y ∷ pairs) (w ∷ vs) zero x a b h k =
    let here = Contains-append_left (told_by (target_of sort x) (Differs a b)) (told_of sort pairs vs) _ (head (difference sort x a b) []) in
    subst (λ (z : Pair). Contains (told_by (target_of sort z) w ++ told_of sort pairs vs) (difference sort x a b)) (sym (ap (λ o. unwrap_or o y) h))
    (subst (λ (v : Verdict). Contains (told_by (target_of sort x) v ++ told_of sort pairs vs) (difference sort x a b)) (sym (ap (λ o. unwrap_or o w) k)) here)
told_at sort (y ∷ pairs) (w ∷ vs) (suc n) x a b h k =
    Contains-append_right (told_by (target_of sort y) w) (told_of sort pairs vs) _ (told_at sort pairs vs n x a b h k)

same_number : (x y : ℕ) → (x == y) ≡ true → x ≡ y
same_number x y h = grind (arith, nat_tests)

-- The pair is one of the number, and the verdicts tell its difference.
told_pair : (sort : PairSort) (pairs : List Pair) (vs : List Verdict) (number : ℕ) (a b : Bool) → HasVerdict pairs vs number (Differs a b)
    → (x : Pair) × (x.new ≡ number) × Contains (told_of sort pairs vs) (difference sort x a b)
unfolding HasVerdict
told_pair sort pairs vs number a b h =
    let x = pair_at pairs h.0 in
    let at = position-Some (λ (y : Pair). y.new == number) pairs h.0 (record { old = 0; new = 0 }) h.1 in
    (x, same_number x.new number at.1, told_at sort pairs vs h.0 x a b (slice_get-get_or pairs h.0 (record { old = 0; new = 0 }) at.0) (is_there vs h.0 a b h.2))

module _ (p q : Drawing) (Counts : Held → Held → Type 0) (m : Matching) (vs : Verdicts) (witnesses : List Witness)
    (are : AreWitnesses Counts m p q vs witnesses) where
  of_variables : List Difference
  of_variables = told_of Variables m.variables vs.variables.items

  of_instances : List Difference
  of_instances = told_of Instances m.instances vs.instances.items

  of_memories : List Difference
  of_memories = told_of Memories m.memories vs.memories.items

  witness_of : (d : Difference) → Contains (told m vs) d → (w : Witness) × Contains witnesses w × (shown_by w ≡ d)
  witness_of d h = in_map shown_by witnesses d (subst (λ (xs : List Difference). Contains xs d) (sym are.each) h)

  shown : (sort : PairSort) (x : Pair) (a b : Bool) (subject : Subject) → subject_of (target_of sort x) ≡ subject → Contains (told m vs) (difference sort x a b)
      → IsShown Counts m p q witnesses subject a b
  unfolding difference
  shown sort x a b subject about h =
      let w = witness_of (difference sort x a b) h in
      let shows = All-contains (λ (v : Witness). Shows Counts m p q v.target v.old_state v.new_state v.of_old v.of_new) witnesses w.0 are.show w.1 in
      let old_same = subst (λ k. Shows Counts m p q w.0.target w.0.old_state w.0.new_state k w.0.of_new) (ap (λ (d : Difference). d.of_old) w.2) shows in
      record {
        witness = w.0;
        among = w.1;
        about = rw (ap (λ (d : Difference). d.target) w.2) about;
        shows = subst (λ k. Shows Counts m p q w.0.target w.0.old_state w.0.new_state a k) (ap (λ (d : Difference). d.of_new) w.2) old_same;
      }

  of_sort : (sort : Sort) (number : ℕ) (a b : Bool) → Contains (remarks_of p q m vs sort number) (Judged (Differs a b))
      → IsShown Counts m p q witnesses (record { sort = sort; number = number }) a b
  unfolding IsVerdict of_variables of_instances of_memories
  of_sort NewVariable number a b h =
      let t = told_pair Variables m.variables vs.variables.items number a b (variable_judged p q m vs number (Differs a b) h) in
      shown Variables t.0 a b _ (ap (λ k. record { sort = NewVariable; number = k }) t.1)
      (Contains-append_left (of_variables ++ of_instances) of_memories _ (Contains-append_left of_variables of_instances _ t.2))
  of_sort NewInstance number a b h =
      let t = told_pair Instances m.instances vs.instances.items number a b (instance_judged p q m vs number (Differs a b) h) in
      shown Instances t.0 a b _ (ap (λ k. record { sort = NewInstance; number = k }) t.1)
      (Contains-append_left (of_variables ++ of_instances) of_memories _ (Contains-append_right of_variables of_instances _ t.2))
  of_sort OldVariable number a b h = absurd (no_verdict Alone (Differs a b) (λ z. z) (one_in _ _ _ h))
  of_sort OldInstance number a b h = absurd (no_verdict Alone (Differs a b) (λ z. z) (one_in _ _ _ h))
  of_sort NewEdge number a b h =
      let t = told_pair Memories m.memories vs.memories.items number a b (edge_judged m vs number (Differs a b) h) in
      shown Memories t.0 a b _ (ap (λ k. record { sort = NewEdge; number = k }) t.1)
      (Contains-append_right (of_variables ++ of_instances) of_memories _ t.2)

  of_subject : (s : Subject) (f : Finding) (a b : Bool) → Contains (findings_on p q m vs s) f → f.remark ≡ Judged (Differs a b)
      → IsShown Counts m p q witnesses f.subject a b
  of_subject s f a b h judged =
      let r = in_map (found s) (remarks_on p q m vs s) f h in
      let said = subst (λ (x : Remark). Contains (remarks_on p q m vs s) x) (ap (λ (g : Finding). g.remark) r.2 ∙ judged) r.1 in
      subst (λ (t : Subject). IsShown Counts m p q witnesses t a b) (ap (λ (g : Finding). g.subject) r.2) (of_sort s.sort s.number a b said)

  row_shown : (f : Finding) → Contains (findings p q m vs) f → (a b : Bool) → f.remark ≡ Judged (Differs a b) → IsShown Counts m p q witnesses f.subject a b
  unfolding findings findings_of
  row_shown f h a b judged =
      let by_sort = in_flat (findings_of p q m vs) all_sorts f h in
      let by_number = in_flat (λ n. findings_on p q m vs (record { sort = by_sort.0; number = n })) (range_with_len 0 (count_of p q by_sort.0)) f by_sort.1 in
      of_subject (record { sort = by_sort.0; number = by_number.0 }) f a b by_number.1 judged

pub rows_shown : (Counts : Held → Held → Type 0) (p q : Drawing) → AreRowsShownBy Counts p q
rows_shown Counts p q m vs witnesses are f h a b judged = row_shown p q Counts m vs witnesses are f h a b judged
