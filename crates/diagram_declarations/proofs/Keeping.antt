-- Names, addresses and limits are kept by one more declaration exactly where no rule refuses it, and where one gets another title.
use Rattle.std.proofs.Common.{◌≡◌, ℕ, ◌≤◌, ◌<◌, false, ◌||◌, ◌==◌, List, [], ◌∷◌, ◌++◌, length, map, Option, Some, None, refl, sym, ap, ap₂, ◌∙◌, arith, append_assoc, ◌+◌, cond, ◌&&◌, zero, suc, slice_set, get_or}
use Rattle.std.specs.List.{IsDistinct, list_any, prefix_len, filter_map}
use Rattle.std.specs.List.Sorted.{IsPermutation}
use Rattle.std.specs.Option.{option_eq}
use Rattle.std.specs.Str.{str_to_ascii_lowercase}
use Rattle.std.proofs.lemmas.Bool.{true≢false}
use Rattle.std.proofs.lemmas.Cmp.{nat_eq_equiv, nat_list_eq_equiv}
use Rattle.std.proofs.lemmas.List.{map-append, append-nil, length-append, length-set}
use Rattle.std.proofs.lemmas.List.Elements.{All-nil, All-push, filter_map-append, All-set}
use Rattle.std.proofs.lemmas.List.Folds.{list_any-append, prefix_len-append}
use Rattle.std.proofs.lemmas.List.Sorted.{IsPermutation-to_front, IsPermutation-middle, IsPermutation-map, IsPermutation-append_left, IsPermutation-append_right, IsPermutation-trans}
use Rattle.std.proofs.lemmas.Bool.Decides.{nat_tests}
use Rattle.diagram_declarations.specs.declared.decls.Address.{Address}
use Rattle.diagram_declarations.specs.declared.decls.VarKind.{VarKind}
use Rattle.diagram_declarations.specs.declared.kind.BlockKind.{BlockKind}
use Rattle.diagram_declarations.specs.declared.decls.Var.{Var}
use Rattle.diagram_declarations.specs.declared.decls.Instance.{Instance}
use Rattle.diagram_declarations.specs.declared.decls.Body.{Body}
use Rattle.diagram_declarations.specs.declared.decls.Body.TheVariants as body
use Rattle.diagram_declarations.specs.declared.fault.VarRule.{VarRule}
use Rattle.diagram_declarations.specs.declared.fault.VarRule.TheVariants as rule
use Rattle.diagram_declarations.specs.Name.{same_letters}
use Rattle.diagram_declarations.specs.Kind.{traits_of, largest_preset}
use Rattle.diagram_declarations.specs.Decls.{Declared, AreKept, AreInRange, names_of, addresses_of, same_address, is_input}
use Rattle.diagram_declarations.specs.Grammar.{Decl, declared_by}
use Rattle.diagram_declarations.specs.Rules.{IsRefused}
use Rattle.diagram_declarations.specs.Titles.{titles_of}
use Rattle.diagram_declarations.specs.ReadDecls.{is_taken, nothing, with_var, with_instance, with_title, with_decl}
use Rattle.diagram_declarations.proofs.Lists.{list_any-map, list_any-left, All-middle, IsDistinct-more, IsDistinct-less}

pub AreInRange-nothing : AreInRange nothing
unfolding IsDistinct
AreInRange-nothing = record {
  kept = (tt, tt, omega arith, omega arith, All-nil (λ i. length i.name ≤ (traits_of i.kind).longest_name));
  presets = All-nil (λ i. i.preset ≤ largest_preset i.kind);
}

-- ---- equalities that do not mind the order of their sides

pub same_letters-flips : (a b : List ℕ) → same_letters a b ≡ same_letters b a
same_letters-flips a b = nat_list_eq_equiv.symm (str_to_ascii_lowercase a) (str_to_ascii_lowercase b)

same_number-flips : (a b : Option ℕ) → option_eq (λ m n. m == n) a b ≡ option_eq (λ m n. m == n) b a
same_number-flips (Some m) (Some n) = nat_eq_equiv.symm m n
same_number-flips None None = refl
same_number-flips a b = refl

same_address-flips : (a b : Address) → same_address a b ≡ same_address b a
same_address-flips a b = rw (nat_eq_equiv.symm a.letter b.letter, nat_eq_equiv.symm a.first b.first, same_number-flips a.second b.second) refl

-- ---- declarations, and more behind them

abbrev pub joined : Declared → List Decl → Declared
joined a ds = record { vars = a.vars ++ (declared_by ds).vars; instances = a.instances ++ (declared_by ds).instances }

pub joined-nil : (a : Declared) → joined a [] ≡ a
joined-nil a = ap₂ (λ vs is. record { vars = vs; instances = is }) (append-nil a.vars) (append-nil a.instances)

pub joined-more : (a : Declared) (name : List ℕ) (b : Body) (ds : List Decl) → joined (with_decl a name b) ds ≡ joined a (record { name = name; body = b } ∷ ds)
joined-more a name (body.Var kind address initial) ds =
    ap (λ vs. record { vars = vs; instances = a.instances ++ (declared_by ds).instances }) (append_assoc a.vars _ (declared_by ds).vars)
joined-more a name (body.Instance kind preset) ds =
    ap (λ is. record { vars = a.vars ++ (declared_by ds).vars; instances = is }) (append_assoc a.instances _ (declared_by ds).instances)

abbrev labels : (Var → List ℕ) → (Instance → List ℕ) → Declared → List (List ℕ)
labels f g d = map f d.vars ++ map g d.instances

labels-var : (f : Var → List ℕ) (g : Instance → List ℕ) (a : Declared) (v : Var) (ds : List Decl)
    → IsPermutation (labels f g (joined (with_var a v) ds)) (f v ∷ labels f g (joined a ds))
labels-var f g a v ds =
    let vs : List Var = (declared_by ds).vars in
    let first : IsPermutation ((a.vars ++ v ∷ []) ++ vs) (v ∷ (a.vars ++ vs)) = rw (append_assoc a.vars (v ∷ []) vs) (IsPermutation-middle a.vars v vs) in
    IsPermutation-append_left (map g (a.instances ++ (declared_by ds).instances)) _ _ (IsPermutation-map f _ _ first)

labels-instance : (f : Var → List ℕ) (g : Instance → List ℕ) (a : Declared) (i : Instance) (ds : List Decl)
    → IsPermutation (labels f g (joined (with_instance a i) ds)) (g i ∷ labels f g (joined a ds))
labels-instance f g a i ds =
    let is : List Instance = (declared_by ds).instances in
    let vars : List (List ℕ) = map f (a.vars ++ (declared_by ds).vars) in
    let first : IsPermutation ((a.instances ++ i ∷ []) ++ is) (i ∷ (a.instances ++ is))
    = rw (append_assoc a.instances (i ∷ []) is) (IsPermutation-middle a.instances i is) in
    IsPermutation-trans _ _ _ (IsPermutation-append_right vars _ _ (IsPermutation-map g _ _ first)) (IsPermutation-middle vars (g i) (map g (a.instances ++ is)))

names-with : (a : Declared) (name : List ℕ) (b : Body) (ds : List Decl) → IsPermutation (names_of (joined (with_decl a name b) ds)) (name ∷ names_of (joined a ds))
names-with a name (body.Var kind address initial) ds =
    labels-var (λ v. v.name) (λ i. i.name) a (record { name = name; title = name; kind = kind; address = address; initial = initial }) ds
names-with a name (body.Instance kind preset) ds =
    labels-instance (λ v. v.name) (λ i. i.name) a (record { name = name; title = name; kind = kind; preset = preset }) ds

pub titles-with : (a : Declared) (name title : List ℕ) (b : Body) (ds : List Decl)
    → IsPermutation (titles_of (joined (with_title a name title b) ds)) (title ∷ titles_of (joined a ds))
titles-with a name title (body.Var kind address initial) ds =
    labels-var (λ v. v.title) (λ i. i.title) a (record { name = name; title = title; kind = kind; address = address; initial = initial }) ds
titles-with a name title (body.Instance kind preset) ds =
    labels-instance (λ v. v.title) (λ i. i.title) a (record { name = name; title = title; kind = kind; preset = preset }) ds

pub names_any : (d : Declared) (name : List ℕ) → list_any (same_letters name) (names_of d)
    ≡ (list_any (λ v. same_letters name v.name) d.vars || list_any (λ i. same_letters name i.name) d.instances)
names_any d name =
    list_any-append (same_letters name) (map (λ v. v.name) d.vars) (map (λ i. i.name) d.instances)
    ∙ rw (list_any-map (same_letters name) (λ v. v.name) d.vars, list_any-map (same_letters name) (λ i. i.name) d.instances) refl

-- ---- where no rule refuses one more declaration

names_kept : (d : Declared) (name : List ℕ) (b : Body) → IsDistinct same_letters (names_of d) → list_any (same_letters name) (names_of d) ≡ false
    → IsDistinct same_letters (names_of (with_decl d name b))
names_kept d name b h new = IsDistinct-more same_letters same_letters-flips name (names_of d) _ (simp append-nil at (names-with d name b [])) h new

addresses_kept : (vars : List Var) (v : Var) (address : Option Address) → v.address ≡ address → IsDistinct same_address (addresses_of vars)
    → is_taken vars address ≡ false → IsDistinct same_address (addresses_of (vars ++ v ∷ []))
addresses_kept vars v None none h new = rw (filter_map-append (λ x. x.address) vars (v ∷ []), none, append-nil (addresses_of vars)) h
addresses_kept vars v (Some a) some h new =
    rw (filter_map-append (λ x. x.address) vars (v ∷ []), some)
    (IsDistinct-more same_address same_address-flips a (addresses_of vars) _ (IsPermutation-to_front (addresses_of vars) a) h new)

pub AreInRange-var : (d : Declared) (name : List ℕ) (kind : VarKind) (address : Option Address) (initial : _) → AreInRange d
    → list_any (same_letters name) (names_of d) ≡ false → is_taken d.vars address ≡ false → length d.vars < 256
    → AreInRange (with_decl d name (body.Var kind address initial))
AreInRange-var d name kind address initial h new unused few =
    let v : Var = record { name = name; title = name; kind = kind; address = address; initial = initial } in
    record {
      kept = (
        names_kept d name (body.Var kind address initial) h.kept.0 new,
        addresses_kept d.vars v address refl h.kept.1 unused,
        omega (arith, few, length-append {A = Var} d.vars (v ∷ [])),
        h.kept.3,
        h.kept.4,
      );
      presets = h.presets;
    }

pub AreInRange-instance : (d : Declared) (name : List ℕ) (kind : BlockKind) (preset : ℕ) → AreInRange d
    → list_any (same_letters name) (names_of d) ≡ false → length name ≤ (traits_of kind).longest_name → length d.instances < 64 → preset ≤ largest_preset kind
    → AreInRange (with_decl d name (body.Instance kind preset))
AreInRange-instance d name kind preset h new short few fits =
    let i : Instance = record { name = name; title = name; kind = kind; preset = preset } in
    record {
      kept = (
        names_kept d name (body.Instance kind preset) h.kept.0 new,
        h.kept.1,
        h.kept.2,
        omega (arith, few, length-append {A = Instance} d.instances (i ∷ [])),
        All-push (λ x. length x.name ≤ (traits_of x.kind).longest_name) d.instances i h.kept.4 short,
      );
      presets = All-push (λ x. x.preset ≤ largest_preset x.kind) d.instances i h.presets fits;
    }

-- ---- where all of them are kept no rule refuses one

pub new_name : (a : Declared) (name : List ℕ) (b : Body) (ds : List Decl) → AreKept (joined (with_decl a name b) ds) → list_any (same_letters name) (names_of a) ≡ false
new_name a name b ds kept =
    let others = IsDistinct-less same_letters same_letters-flips name (names_of (joined a ds)) _ (names-with a name b ds) kept.0 in
    let apart = others.1 in
    grind (arith, list_any-append, map-append)

pub unbroken : (a : Declared) (name : List ℕ) (b : Body) (ds : List Decl) → AreKept (joined (with_decl a name b) ds) → (r : VarRule) → IsRefused r a name b → ⊥
unbroken a name b ds kept rule.Duplicate twice = true≢false (sym twice ∙ new_name a name b ds kept)
unbroken a name (body.Var kind (Some x) initial) ds kept rule.DuplicateAddress used =
    let v : Var = record { name = name; title = name; kind = kind; address = Some x; initial = initial } in
    let before : List Address = addresses_of a.vars in
    let behind : List Address = addresses_of (declared_by ds).vars in
    let whole : addresses_of ((a.vars ++ v ∷ []) ++ (declared_by ds).vars) ≡ before ++ x ∷ behind
    = ap addresses_of (append_assoc a.vars (v ∷ []) (declared_by ds).vars) ∙ filter_map-append (λ v. v.address) a.vars (v ∷ (declared_by ds).vars) in
    let apart = IsDistinct-less same_address same_address-flips x (before ++ behind) _ (IsPermutation-middle before x behind) (rw whole at kept.1) in
    true≢false (sym used ∙ list_any-left (same_address x) before behind apart.1)
unbroken a name (body.Var kind address initial) ds kept rule.TooMany full =
    omega (arith, full, kept.2, length-append {A = Var})
unbroken a name (body.Instance kind preset) ds kept rule.TooMany full =
    omega (arith, full, kept.3, length-append {A = Instance})
unbroken a name (body.Instance kind preset) ds kept rule.BadName long =
    let i : Instance = record { name = name; title = name; kind = kind; preset = preset } in
    let all = rw (append_assoc a.instances (i ∷ []) (declared_by ds).instances) at kept.4 in
    omega (arith, long, All-middle (λ x. length x.name ≤ (traits_of x.kind).longest_name) a.instances i (declared_by ds).instances all)
unbroken a name b ds kept r never = never

pub leading-var : (vars : List Var) (v : Var) (leading : ℕ) → leading ≡ prefix_len is_input vars
    → cond (leading == length vars && is_input v) (leading + 1) leading ≡ prefix_len is_input (vars ++ v ∷ [])
leading-var vars v leading is = grind (arith, nat_tests, prefix_len-append)

pub map-set_same : {A B : Type 0} (f : A → B) (xs : List A) (n : ℕ) (y d : A) → f y ≡ f (get_or xs n d) → map f (slice_set xs n y) ≡ map f xs
map-set_same f [] n y d e = refl
map-set_same f (x ∷ xs) zero y d e = grind arith
map-set_same f (x ∷ xs) (suc n) y d e = grind (arith, map-set_same f xs n y d)

filter_map-set : {A B : Type 0} (f : A → Option B) (xs : List A) (n : ℕ) (y d : A) → f y ≡ f (get_or xs n d) → filter_map f (slice_set xs n y) ≡ filter_map f xs
filter_map-set f [] n y d e = refl
filter_map-set f (x ∷ xs) zero y d e = grind arith
filter_map-set f (x ∷ xs) (suc n) y d e = grind (arith, filter_map-set f xs n y d)

pub var_in_range : (d : Declared) (n : ℕ) (v w : Var) → v ≡ get_or d.vars n v → w ≡ record v { title = w.title } → AreInRange d
    → AreInRange (record d { vars = slice_set d.vars n w })
var_in_range d n v w is same h =
    let name : w.name ≡ (get_or d.vars n v).name = ap (λ x. x.name) same ∙ ap (λ x. x.name) is in
    let address : w.address ≡ (get_or d.vars n v).address = ap (λ x. x.address) same ∙ ap (λ x. x.address) is in
    let names : map (λ x. x.name) (slice_set d.vars n w) ≡ map (λ x. x.name) d.vars = map-set_same (λ x. x.name) d.vars n w v name in
    let addresses : addresses_of (slice_set d.vars n w) ≡ addresses_of d.vars = filter_map-set (λ x. x.address) d.vars n w v address in
    record {
      kept = (
        rw names h.kept.0,
        rw addresses h.kept.1,
        rw (length-set d.vars n w) h.kept.2,
        h.kept.3,
        h.kept.4,
      );
      presets = h.presets;
    }

pub instance_in_range : (d : Declared) (n : ℕ) (i j : Instance) → n < length d.instances → i ≡ get_or d.instances n i → j ≡ record i { title = j.title } → AreInRange d
    → AreInRange (record d { instances = slice_set d.instances n j })
instance_in_range d n i j lt is same h =
    let name : j.name ≡ (get_or d.instances n i).name = ap (λ x. x.name) same ∙ ap (λ x. x.name) is in
    let kind : j.kind ≡ (get_or d.instances n i).kind = ap (λ x. x.kind) same ∙ ap (λ x. x.kind) is in
    let preset : j.preset ≡ (get_or d.instances n i).preset = ap (λ x. x.preset) same ∙ ap (λ x. x.preset) is in
    let names : map (λ x. x.name) (slice_set d.instances n j) ≡ map (λ x. x.name) d.instances = map-set_same (λ x. x.name) d.instances n j i name in
    record {
      kept = (
        rw names h.kept.0,
        h.kept.1,
        h.kept.2,
        rw (length-set d.instances n j) h.kept.3,
        All-set (λ x. length x.name ≤ (traits_of x.kind).longest_name) d.instances n j (rw (name, kind) (h.kept.4 n i lt)) h.kept.4,
      );
      presets = All-set (λ x. x.preset ≤ largest_preset x.kind) d.instances n j (rw (preset, kind) (h.presets n i lt)) h.presets;
    }
