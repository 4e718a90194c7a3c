-- What belongs together by names can belong together.
use Rattle.std.proofs.Common.{◌≡◌, ◌∙◌, ◌+◌, ◌<◌, ℕ, Bool, true, false, List, [], Option, Some, None, ap, arith, get_or, length, map, refl, slice_get, subst, sym, inl, inr}
use Rattle.std.specs.Prelude.{option_map}
use Rattle.std.specs.List.{IsDistinct}
use Rattle.std.specs.Option.{option_or}
use Rattle.std.specs.Str.{str_to_ascii_lowercase}
use Rattle.std.proofs.lemmas.Bool.{cases_lt}
use Rattle.std.proofs.lemmas.Cmp.{nat_list_eq_equiv}
use Rattle.std.proofs.lemmas.List.{get_or-append-add, get_or-map, get_or_append_left, length-append, length-map}
use Rattle.std.proofs.lemmas.List.Elements.{All-weaker}
use Rattle.std.proofs.lemmas.List.Quantifiers.{position-Some}
use Rattle.std.proofs.lemmas.List.FromFn.{length-map-range_with_len}
use Rattle.std.proofs.lemmas.Map.Keys.{apart_from_distinct}
use Rattle.std.proofs.lemmas.Option.{get_or_from_slice_get, slice_get-map, slice_get_within}
use Rattle.diagram_declarations.specs.declared.kind.BlockKind.{BlockKind}
use Rattle.diagram_declarations.specs.declared.decls.Instance.{Instance}
use Rattle.diagram_declarations.specs.declared.decls.Symbol.TheVariants as symbol
use Rattle.diagram_declarations.specs.declared.decls.Var.{Var}
use Rattle.diagram_declarations.specs.Decls.{Declared, is_input, is_input_at, names_of}
use Rattle.diagram_declarations.specs.Name.{same_letters}
use Rattle.diagram_program.specs.Program.{Drawing, memories_of}
use Rattle.scan_cycle.specs.Programs.{diagram_of}
use Rattle.diff_matching.specs.declared.matching.Pair.{Pair}
use Rattle.diff_matching.specs.declared.owner.Owner.{Owner}
use Rattle.diff_matching.specs.declared.owner.Owner.TheVariants as owner
use Rattle.diff_matching.specs.Matching.{Matching}
use Rattle.diff_matching.specs.Names.{AreAll, AreOneInstance, AreOneMemory, AreOneOfSort, AreOneOwner, AreOneVariable, IsByNames, IsRanked, owner_of, owners_of, rank}
use Rattle.diff_matching.specs.Runs.{HaveNoInput}
use Rattle.diff_matching.specs.Suited.{AreBoth, AreOfKind, AreOnce, IsSuited}
use Rattle.diff_matching.proofs.Ranks.{one_ranked}

-- ---- one name, one declaration

same_again : (a b c : List ℕ) → same_letters a c ≡ true → same_letters b c ≡ true → same_letters a b ≡ true
same_again a b c first second =
    let e = nat_list_eq_equiv in
    let x = str_to_ascii_lowercase a in
    let y = str_to_ascii_lowercase b in
    let z = str_to_ascii_lowercase c in
    e.congr x z y first ∙ e.symm z y ∙ second

one_place : (names : List (List ℕ)) → IsDistinct same_letters names → (i j : ℕ) (d : List ℕ) → i < length names → j < length names
    → same_letters (get_or names i d) (get_or names j d) ≡ true → i ≡ j
one_place names apart i j d here there same =
    let low : i < j → ⊥ = λ less. let off = apart_from_distinct same_letters names i j d apart less there in cc in
    let high : j < i → ⊥ = λ less.
    let off = apart_from_distinct same_letters names j i d apart less here in
    let flipped = nat_list_eq_equiv.symm (str_to_ascii_lowercase (get_or names i d)) (str_to_ascii_lowercase (get_or names j d)) in
    cc in
    elim (cases_lt i j) [ inl less ↦ absurd (low less) | inr more ↦ elim (cases_lt j i) [ inl less ↦ absurd (high less) | inr even ↦ omega arith ] ]

var_name : (d : Declared) (i : ℕ) (v : Var) → slice_get d.vars i ≡ Some v → get_or (names_of d) i [] ≡ v.name
var_name d i v is =
    let short = slice_get_within d.vars i v is in
    let names : List (List ℕ) = map (λ (x : Var). x.name) d.vars in
    let within : i < length names = omega (arith, length-map d.vars (λ (x : Var). x.name)) in
    get_or_append_left names (map (λ (x : Instance). x.name) d.instances) [] i within ∙ get_or-map (λ (x : Var). x.name) d.vars i v [] short
    ∙ ap (λ (x : Var). x.name) (get_or_from_slice_get d.vars i v v is)

instance_name : (d : Declared) (i : ℕ) (v : Instance) → slice_get d.instances i ≡ Some v → get_or (names_of d) (length d.vars + i) [] ≡ v.name
instance_name d i v is =
    let short = slice_get_within d.instances i v is in
    let names : List (List ℕ) = map (λ (x : Var). x.name) d.vars in
    let long : length names ≡ length d.vars = length-map d.vars (λ (x : Var). x.name) in
    ap (λ n. get_or (names_of d) (n + i) []) (sym long) ∙ get_or-append-add names (map (λ (x : Instance). x.name) d.instances) i []
    ∙ get_or-map (λ (x : Instance). x.name) d.instances i v [] short ∙ ap (λ (x : Instance). x.name) (get_or_from_slice_get d.instances i v v is)

all_names : (d : Declared) → length (names_of d) ≡ length d.vars + length d.instances
all_names d =
    length-append (map (λ (x : Var). x.name) d.vars) (map (λ (x : Instance). x.name) d.instances)
    ∙ (let one = length-map d.vars (λ (x : Var). x.name) in let two = length-map d.instances (λ (x : Instance). x.name) in omega arith)

found_var : (v w : Option ℕ) (n : ℕ) → option_or (option_map symbol.Var v) (option_map symbol.Instance w) ≡ Some (symbol.Var n) → v ≡ Some n
found_var (Some k) w n e = cc
found_var None (Some k) n e = cc
found_var None None n e = cc

found_instance : (v w : Option ℕ) (n : ℕ) → option_or (option_map symbol.Var v) (option_map symbol.Instance w) ≡ Some (symbol.Instance n) → w ≡ Some n
found_instance (Some k) w n e = cc
found_instance None (Some k) n e = cc
found_instance None None n e = cc

-- ---- what belongs to one number of NEW is one number of OLD

abbrev OnlyOld : (Pair → Type 0) → Type 0
OnlyOld P = (x y : Pair) → P x → P y → x.new ≡ y.new → x.old ≡ y.old

module _ (p q : Declared) (apart : IsDistinct same_letters (names_of p)) where
  one_variable : OnlyOld (AreOneVariable p q)
  one_variable x y h k e =
      let at : (z : Pair) (h : AreOneVariable p q z) → same_letters h.of_old.name (get_or q.vars z.new h.of_old).name ≡ true
      = λ z h. (position-Some (λ v. same_letters h.of_old.name v.name) q.vars z.new h.of_old (found_var _ _ z.new h.name)).1 in
      let there : get_or q.vars y.new k.of_old ≡ get_or q.vars x.new h.of_old
      = get_or_from_slice_get q.vars y.new k.of_new k.of_old k.new ∙ sym (get_or_from_slice_get q.vars x.new k.of_new h.of_old (ap (slice_get q.vars) e ∙ k.new)) in
      let other : same_letters k.of_old.name (get_or q.vars x.new h.of_old).name ≡ true = subst (λ (v : Var). same_letters k.of_old.name v.name ≡ true) there (at y k) in
      let same = same_again h.of_old.name k.of_old.name (get_or q.vars x.new h.of_old).name (at x h) other in
      let here = slice_get_within p.vars x.old h.of_old h.old in
      let behind = slice_get_within p.vars y.old k.of_old k.old in
      let size = all_names p in
      one_place (names_of p) apart x.old y.old [] (omega arith) (omega arith) (rw (var_name p x.old h.of_old h.old, var_name p y.old k.of_old k.old) same)

  one_instance : OnlyOld (AreOneInstance p q)
  one_instance x y h k e =
      let at : (z : Pair) (h : AreOneInstance p q z) → same_letters h.of_old.name (get_or q.instances z.new h.of_old).name ≡ true
      = λ z h. (position-Some (λ v. same_letters h.of_old.name v.name) q.instances z.new h.of_old (found_instance _ _ z.new h.name)).1 in
      let there : get_or q.instances y.new k.of_old ≡ get_or q.instances x.new h.of_old
      = get_or_from_slice_get q.instances y.new k.of_new k.of_old k.new
      ∙ sym (get_or_from_slice_get q.instances x.new k.of_new h.of_old (ap (slice_get q.instances) e ∙ k.new)) in
      let other : same_letters k.of_old.name (get_or q.instances x.new h.of_old).name ≡ true
      = subst (λ (v : Instance). same_letters k.of_old.name v.name ≡ true) there (at y k) in
      let same = same_again h.of_old.name k.of_old.name (get_or q.instances x.new h.of_old).name (at x h) other in
      let here = slice_get_within p.instances x.old h.of_old h.old in
      let behind = slice_get_within p.instances y.old k.of_old k.old in
      let size = all_names p in
      let even : length p.vars + x.old ≡ length p.vars + y.old = one_place (names_of p) apart (length p.vars + x.old) (length p.vars + y.old) [] (omega arith) (omega arith)
      (rw (instance_name p x.old h.of_old h.old, instance_name p y.old k.of_old k.old) same) in
      omega arith

  one_owner : (a b c : Owner) → AreOneOwner p q a c → AreOneOwner p q b c → a ≡ b
  one_owner (owner.Variable a) (owner.Variable b) (owner.Variable c) h k =
      ap owner.Variable (one_variable (record { old = a; new = c }) (record { old = b; new = c }) h k refl)
  one_owner (owner.Output a) (owner.Output b) (owner.Output c) h k =
      ap owner.Output (one_instance (record { old = a; new = c }) (record { old = b; new = c }) h k refl)
  one_owner (owner.Coil a) (owner.Coil b) (owner.Coil c) h k =
      ap owner.Coil (one_variable (record { old = a; new = c }) (record { old = b; new = c }) h k refl)
  one_owner (owner.Variable a) (owner.Output b) (owner.Variable c) h k = absurd k
  one_owner (owner.Variable a) (owner.Coil b) (owner.Variable c) h k = absurd k
  one_owner (owner.Output a) (owner.Variable b) (owner.Output c) h k = absurd k
  one_owner (owner.Output a) (owner.Coil b) (owner.Output c) h k = absurd k
  one_owner (owner.Coil a) (owner.Variable b) (owner.Coil c) h k = absurd k
  one_owner (owner.Coil a) (owner.Output b) (owner.Coil c) h k = absurd k
  one_owner (owner.Variable a) b (owner.Output c) h k = absurd h
  one_owner (owner.Variable a) b (owner.Coil c) h k = absurd h
  one_owner (owner.Output a) b (owner.Variable c) h k = absurd h
  one_owner (owner.Output a) b (owner.Coil c) h k = absurd h
  one_owner (owner.Coil a) b (owner.Variable c) h k = absurd h
  one_owner (owner.Coil a) b (owner.Output c) h k = absurd h

module _ (p q : Drawing) (apart : IsDistinct same_letters (names_of p.decls)) where
  one_memory : OnlyOld (AreOneMemory p q)
  one_memory x y h k e =
      let there : Some (Some k.of_new) ≡ Some (Some h.of_new) = sym k.new.0 ∙ ap (slice_get (owners_of q)) (sym e) ∙ h.new.0 in
      let new : k.of_new ≡ h.of_new = cc in
      let old : k.of_old ≡ h.of_old = one_owner p.decls q.decls apart k.of_old h.of_old h.of_new (subst (AreOneOwner p.decls q.decls k.of_old) new k.owners) h.owners in
      let count : k.before ≡ h.before = sym k.new.1 ∙ ap (λ o. rank (owners_of q) o y.new) new ∙ ap (rank (owners_of q) h.of_new) (sym e) ∙ h.new.1 in
      one_ranked (owners_of p) h.of_old h.before x.old y.old h.old
      (subst (λ n. IsRanked (owners_of p) h.of_old n y.old) count (subst (λ o. IsRanked (owners_of p) o k.before y.old) old k.old))

once : (P : Pair → Type 0) → OnlyOld P → (pairs : List Pair) → AreAll P pairs → AreOnce pairs
once P only pairs h = λ i j d less short e.
    let same = only (get_or pairs i d) (get_or pairs j d) (h.each i d (omega arith)) (h.each j d short) e in
    let up = h.ascending i j d less short in
    omega arith

-- ---- what each pair is of

both : (inputs : Bool) (p q : Drawing) (x : Pair) → AreOneOfSort inputs p.decls q.decls x → AreBoth inputs p q x
both inputs p q x h =
    let old : is_input h.0.of_old ≡ inputs = sym (ap is_input_at h.0.old) ∙ h.1 in
    let new : is_input h.0.of_new ≡ inputs = sym h.0.inputs ∙ old in (
      slice_get-map is_input p.decls.vars x.old ∙ ap (option_map is_input) h.0.old ∙ ap (λ b. Some b) old,
      slice_get-map is_input q.decls.vars x.new ∙ ap (option_map is_input) h.0.new ∙ ap (λ b. Some b) new,
    )

of_kind : (p q : Drawing) (x : Pair) → AreOneInstance p.decls q.decls x → (kind : BlockKind) × AreOfKind kind p q x
of_kind p q x h =
    let kind : Instance → BlockKind = λ i. i.kind in (
      h.of_old.kind,
      (
        slice_get-map kind p.decls.instances x.old ∙ ap (option_map kind) h.old,
        slice_get-map kind q.decls.instances x.new ∙ ap (option_map kind) h.new ∙ ap (λ k. Some k) (sym h.kinds),
      ),
    )

all_owners : (d : Drawing) → length (owners_of d) ≡ memories_of d
unfolding owners_of
all_owners d = length-map-range_with_len (owner_of d) 0 (memories_of d)

of_memories : (p q : Drawing) (x : Pair) → AreOneMemory p q x → (x.old < memories_of p) × (x.new < memories_of q)
of_memories p q x h = (
  subst (λ n. x.old < n) (all_owners p) (slice_get_within (owners_of p) x.old (Some h.of_old) h.old.0),
  subst (λ n. x.new < n) (all_owners q) (slice_get_within (owners_of q) x.new (Some h.of_new) h.new.0),
)

pub suited : (p q : Drawing) → IsDistinct same_letters (names_of p.decls) → (m : Matching) → IsByNames m p q → IsSuited m p q
suited p q apart m h =
    let variable = one_variable p.decls q.decls apart in record {
      inputs = All-weaker (AreOneOfSort true p.decls q.decls) (AreBoth true p q) (both true p q) m.inputs h.inputs.each;
      variables = All-weaker (AreOneOfSort false p.decls q.decls) (AreBoth false p q) (both false p q) m.variables h.variables.each;
      instances = All-weaker (AreOneInstance p.decls q.decls) (λ x. (kind : BlockKind) × AreOfKind kind p q x) (of_kind p q) m.instances h.instances.each;
      memories = All-weaker (AreOneMemory p q) (λ x. (x.old < memories_of p) × (x.new < memories_of q)) (of_memories p q) m.memories h.memories.each;
      inputs_once = once (AreOneOfSort true p.decls q.decls) (λ x y a b. variable x y a.0 b.0) m.inputs h.inputs;
      variables_once = once (AreOneOfSort false p.decls q.decls) (λ x y a b. variable x y a.0 b.0) m.variables h.variables;
      instances_once = once (AreOneInstance p.decls q.decls) (one_instance p.decls q.decls apart) m.instances h.instances;
      memories_once = once (AreOneMemory p q) (one_memory p q apart) m.memories h.memories;
    }

pub no_input : (p q : Drawing) (m : Matching) → IsSuited m p q → HaveNoInput m p q
unfolding diagram_of
no_input p q m h n x is =
    let short = slice_get_within m.variables n x is in
    let pair : AreBoth false p q x = subst (AreBoth false p q) (get_or_from_slice_get m.variables n x x is) (h.variables n x short) in (
      get_or_from_slice_get (map is_input p.decls.vars) x.old false false pair.0,
      get_or_from_slice_get (map is_input q.decls.vars) x.new false false pair.1,
    )
