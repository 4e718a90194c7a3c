-- Declarations get their titles one after the other.
use Rattle.std.proofs.Common.{◌≡◌, ℕ, ◌≤◌, ◌⊎◌, inl, inr, true, false, Bool, ◌||◌, List, [], ◌∷◌, ◌++◌, length, map, codes, Some, None, Ok, Err, unwrap_or, refl, sym, ap, ap₂, subst, ◌∙◌, arith, append_assoc}
use Rattle.std.specs.List.{All, AllByRecursion, IsDistinct, list_any}
use Rattle.std.proofs.lemmas.Bool.{or_left, or_right, or_cases, or_parts}
use Rattle.std.proofs.lemmas.List.{map-append, length-map, length-append, get_or_at, set_at}
use Rattle.std.proofs.lemmas.List.Elements.{All-nil, All-head, All-tail, All-push, All-append, All-from_recursion}
use Rattle.std.proofs.lemmas.List.Folds.{list_any-append}
use Rattle.std.proofs.lemmas.List.Sorted.{list_any-IsPermutation}
use Rattle.std.proofs.lemmas.Option.{slice_get-get_or}
use Rattle.std.proofs.lemmas.Simd.{map-map}
use Rattle.diagram_declarations.specs.declared.decls.Var.{Var}
use Rattle.diagram_declarations.specs.declared.decls.Instance.{Instance}
use Rattle.diagram_declarations.specs.declared.decls.Body.{Body}
use Rattle.diagram_declarations.specs.declared.decls.Body.TheVariants as body
use Rattle.diagram_declarations.specs.declared.fault.Fault.{Fault}
use Rattle.diagram_declarations.specs.declared.titles.Passed.{Passed}
use Rattle.diagram_declarations.specs.Name.{same_letters}
use Rattle.diagram_declarations.specs.Title.{alias_of}
use Rattle.diagram_declarations.specs.Decls.{Declared, names_of}
use Rattle.diagram_declarations.specs.Grammar.{Decl, declared_by}
use Rattle.diagram_declarations.specs.Rules.{line_of}
use Rattle.diagram_declarations.specs.ReadDecls.{expect, nothing, with_title, with_decl}
use Rattle.diagram_declarations.specs.Titles.{plain_var, plain_instance, plain, HasTitle, titles_of, AreTitled, IsTaken, HasTakenAlias, Declares}
use Rattle.diagram_declarations.specs.TakeTitles.{IsNext, IsLast, IsWithin, Retitles, IsPast, is_called}
use Rattle.diagram_declarations.proofs.Lists.{none_passes, IsDistinct-more, IsDistinct-less}
use Rattle.diagram_declarations.proofs.Keeping.{same_letters-flips, names_any, joined, joined-nil, joined-more, titles-with, new_name}
use Rattle.diagram_declarations.proofs.DeclReads.{declared_by-push, Ahead, Comes, peek, passes, Reads, begins, starts, goes_on}

-- ---- declarations without their aliases

abbrev AreNamed : Declared → Type 0
AreNamed d = AllByRecursion (λ v. v.title ≡ v.name) d.vars × AllByRecursion (λ i. i.title ≡ i.name) d.instances

named : (ds : List Decl) → AreNamed (declared_by ds)
named [] = (tt, tt)
named (d ∷ ds) =
    let others = named ds in
    elim d.body as (λ b. AreNamed (declared_by (record d { body = b } ∷ ds))) [
      | body.Var kind address initial ↦ ((refl, others.0), others.1)
      | body.Instance kind preset ↦ (others.0, (refl, others.1))
    ]

map_same : {A : Type 0} (f : A → A) (P : A → Type 0) (xs : List A) → ((x : A) → P x → f x ≡ x) → AllByRecursion P xs → map f xs ≡ xs
map_same f P [] same h = refl
map_same f P (x ∷ xs) same h = ap₂ (λ y ys. y ∷ ys) (same x h.0) (map_same f P xs same h.1)

-- those that have titles, and those behind, which have none yet
plain-joined : (done : Declared) (later : List Decl) → plain (joined done later) ≡ joined (plain done) later
plain-joined done later =
    let vars = map_same plain_var (λ v. v.title ≡ v.name) (declared_by later).vars (λ v e. ap (λ t. record v { title = t }) (sym e)) (named later).0 in
    let instances = map_same plain_instance (λ i. i.title ≡ i.name) (declared_by later).instances (λ i e. ap (λ t. record i { title = t }) (sym e)) (named later).1 in
    ap₂ (λ vs is. record { vars = vs; instances = is })
    (map-append plain_var done.vars (declared_by later).vars ∙ ap (λ vs. map plain_var done.vars ++ vs) vars)
    (map-append plain_instance done.instances (declared_by later).instances ∙ ap (λ is. map plain_instance done.instances ++ is) instances)

plain-with : (done : Declared) (name title : List ℕ) (b : Body) → plain (with_title done name title b) ≡ with_decl (plain done) name b
plain-with done name title (body.Var kind address initial) =
    ap (λ vs. record { vars = vs; instances = map plain_instance done.instances }) (map-append plain_var done.vars (_ ∷ []))
plain-with done name title (body.Instance kind preset) =
    ap (λ is. record { vars = map plain_var done.vars; instances = is }) (map-append plain_instance done.instances (_ ∷ []))

names-plain : (d : Declared) → names_of (plain d) ≡ names_of d
names-plain d = rw (map-map (λ v. v.name) plain_var d.vars, map-map (λ i. i.name) plain_instance d.instances) refl

titles-plain : (d : Declared) → titles_of (plain d) ≡ names_of d
titles-plain d = ap₂ (λ xs ys. xs ++ ys) (map-map (λ v. v.title) plain_var d.vars) (map-map (λ i. i.title) plain_instance d.instances)

-- ---- so far

-- The declarations up to here have their titles, and those behind have their names.
pub record Takes (text : List ℕ) (whole now : Declared) (here : List ℕ) (vars instances : ℕ) : Type 0 where
  pub end : List ℕ
  pub ds : List Decl
  pub reads : Reads text ds here
  pub ahead : Ahead whole end ds here
  pub done : Declared
  pub now_is : now ≡ joined done ahead.later
  pub done_is : plain done ≡ declared_by ds
  pub same : plain now ≡ whole
  pub vars_are : vars ≡ length done.vars
  pub instances_are : instances ≡ length done.instances
  pub var_titles : All (λ v. HasTitle text v.name v.title) done.vars
  pub instance_titles : All (λ i. HasTitle text i.name i.title) done.instances
  pub apart : IsDistinct same_letters (titles_of now)

same_whole : (whole now done : Declared) (end : List ℕ) (ds : List Decl) (here : List ℕ) (a : Ahead whole end ds here) → now ≡ joined done a.later
    → plain done ≡ declared_by ds → plain now ≡ whole
same_whole whole now done end ds here a now_is done_is = ap plain now_is ∙ plain-joined done a.later ∙ ap (λ d. joined d a.later) done_is ∙ sym a.whole_is

pub opens : (text : List ℕ) (d : Declared) (f : Fault) → Declares text d → expect (codes "VAR") text ≡ Err f → ⊥
opens text d f (end, has) none = let start = begins text d end has in cc

pub first : (text : List ℕ) (d : Declared) (here : List ℕ) → Declares text d → expect (codes "VAR") text ≡ Ok here → Takes text d d here 0 0
first text d here (end, has) begun =
    let reads : Reads text [] here = starts text here begun in
    let ahead : Ahead d end [] here = reads.ahead d end has in
    let same : plain d ≡ d = same_whole d d nothing end [] here ahead ahead.whole_is refl in
    record {
      end = end;
      ds = [];
      reads = reads;
      ahead = ahead;
      done = nothing;
      now_is = ahead.whole_is;
      done_is = refl;
      same = same;
      vars_are = refl;
      instances_are = refl;
      var_titles = All-nil (λ v. HasTitle text v.name v.title);
      instance_titles = All-nil (λ i. HasTitle text i.name i.title);
      apart = subst (IsDistinct same_letters) (sym (ap titles_of (sym same) ∙ titles-plain d)) ahead.kept.0;
    }

pub ends : (text : List ℕ) (whole now : Declared) (here : List ℕ) (vars instances : ℕ) → Takes text whole now here vars instances → IsLast here → AreTitled text now
ends text whole now here vars instances t last =
    elim (peek whole t.end t.ds here t.ahead) [
      | inl over ↦
          let same : now ≡ t.done = t.now_is ∙ ap (joined t.done) over.none ∙ joined-nil t.done in
          rw same (record { vars = t.var_titles; instances = t.instance_titles; apart = rw same at t.apart })
      | inr (name, behind, b, after, comes) ↦ absurd (last name behind b after comes.next)
    ]

pub few : (text : List ℕ) (whole now : Declared) (here : List ℕ) (vars instances : ℕ) → Takes text whole now here vars instances → (vars ≤ 256) × (instances ≤ 64)
few text whole now here vars instances t =
    let done = t.done_is in
    let all = t.ahead.whole_is in (
      omega (arith, t.vars_are, t.ahead.kept.2, ap (λ d. length d.vars) all, length-append {A = Var}, ap (λ d. length d.vars) done, length-map t.done.vars plain_var),
      omega (arith, t.instances_are, t.ahead.kept.3, ap (λ d. length d.instances) all, length-append {A = Instance}, ap (λ d. length d.instances) done, length-map t.done.instances plain_instance),
    )

-- ---- one declaration more

comes : (text : List ℕ) (whole now : Declared) (here : List ℕ) (vars instances : ℕ) (t : Takes text whole now here vars instances) (name behind : List ℕ)
    (b : Body) (after : List ℕ) → IsNext here name behind b after → (c : Comes whole t.end t.ds here t.ahead.later name behind b after)
    × (now ≡ joined t.done (record { name = name; body = b } ∷ c.ahead.later))
comes text whole now here vars instances t name behind b after next =
    let c = passes whole t.end t.ds here name behind b after t.ahead next in
    (c, t.now_is ∙ ap (joined t.done) c.first)

within_first : (done : Declared) (name : List ℕ) (b : Body) (later : List Decl)
    → IsWithin (length done.vars) (length done.instances) b (joined done (record { name = name; body = b } ∷ later))
within_first done name (body.Var kind address initial) later = omega (arith, length-append {A = Var})
within_first done name (body.Instance kind preset) later = omega (arith, length-append {A = Instance})

pub within : (text : List ℕ) (whole now : Declared) (here : List ℕ) (vars instances : ℕ) (t : Takes text whole now here vars instances) (name behind : List ℕ)
    (b : Body) (after : List ℕ) → IsNext here name behind b after → IsWithin vars instances b now
within text whole now here vars instances t name behind b after next =
    let (c, is) = comes text whole now here vars instances t name behind b after next in
    rw (t.vars_are, t.instances_are, is) (within_first t.done name b c.ahead.later)

retitled : (done : Declared) (name title : List ℕ) (b : Body) (later : List Decl) (then : Declared)
    → Retitles (length done.vars) (length done.instances) b title (joined done (record { name = name; body = b } ∷ later)) then
    → then ≡ joined (with_title done name title b) later
retitled done name title (body.Var kind address initial) later then sets =
    let vars : List Var = (declared_by later).vars in
    let v : Var = record { name = name; title = name; kind = kind; address = address; initial = initial } in
    let w : Var = record v { title = title } in
    let here = slice_get-get_or (done.vars ++ v ∷ vars) (length done.vars) v (omega (arith, length-append {A = Var})) ∙ ap Some (get_or_at done.vars v vars v _ refl) in
    sets v here
    ∙ ap (λ vs. record { vars = vs; instances = done.instances ++ (declared_by later).instances }) (set_at done.vars v vars w _ refl ∙ sym (append_assoc done.vars (w ∷ []) vars))
retitled done name title (body.Instance kind preset) later then sets =
    let instances : List Instance = (declared_by later).instances in
    let i : Instance = record { name = name; title = name; kind = kind; preset = preset } in
    let j : Instance = record i { title = title } in
    let here = slice_get-get_or (done.instances ++ i ∷ instances) (length done.instances) i (omega (arith, length-append {A = Instance}))
    ∙ ap Some (get_or_at done.instances i instances i _ refl) in
    sets i here
    ∙ ap (λ is. record { vars = done.vars ++ (declared_by later).vars; instances = is }) (set_at done.instances i instances j _ refl ∙ sym (append_assoc done.instances (j ∷ []) instances))

counted : (done : Declared) (name title : List ℕ) (b : Body) (before past : Passed) → before.vars ≡ length done.vars → before.instances ≡ length done.instances → IsPast before b past
    → (past.vars ≡ length (with_title done name title b).vars) × (past.instances ≡ length (with_title done name title b).instances)
counted done name title (body.Var kind address initial) before past vars instances passed = grind (arith, length-append {A = Var})
counted done name title (body.Instance kind preset) before past vars instances passed = grind (arith, length-append {A = Instance})

titled : (text : List ℕ) (done : Declared) (name title : List ℕ) (b : Body) → All (λ v. HasTitle text v.name v.title) done.vars → All (λ i. HasTitle text i.name i.title) done.instances
    → HasTitle text name title
    → All (λ v. HasTitle text v.name v.title) (with_title done name title b).vars × All (λ i. HasTitle text i.name i.title) (with_title done name title b).instances
titled text done name title (body.Var kind address initial) vars instances here = (All-push (λ v. HasTitle text v.name v.title) done.vars _ vars here, instances)
titled text done name title (body.Instance kind preset) vars instances here = (vars, All-push (λ i. HasTitle text i.name i.title) done.instances _ instances here)

pub step : (text : List ℕ) (whole now then : Declared) (here : List ℕ) (before past : Passed) (t : Takes text whole now here before.vars before.instances)
    (name behind title : List ℕ) (b : Body) (after : List ℕ) → (c : Comes whole t.end t.ds here t.ahead.later name behind b after)
    → title ≡ unwrap_or (alias_of name behind) name → then ≡ joined (with_title t.done name title b) c.ahead.later → IsDistinct same_letters (titles_of then)
    → IsPast before b past → Takes text whole then after past.vars past.instances
step text whole now then here before past t name behind title b after c title_is then_is apart passed =
    let on = goes_on text t.ds here name behind b after t.reads c.next c.named in
    let done_is = plain-with t.done name title b ∙ ap (λ d. with_decl d name b) t.done_is ∙ sym (declared_by-push t.ds name b) in
    let counts = counted t.done name title b before past t.vars_are t.instances_are passed in
    let titles = titled text t.done name title b t.var_titles t.instance_titles (t.ds, b, behind, on.0, title_is) in
    record {
      end = t.end;
      ds = t.ds ++ record { name = name; body = b } ∷ [];
      reads = on.1;
      ahead = c.ahead;
      done = with_title t.done name title b;
      now_is = then_is;
      done_is = done_is;
      same = same_whole whole then (with_title t.done name title b) t.end _ after c.ahead then_is done_is;
      vars_are = counts.0;
      instances_are = counts.1;
      var_titles = titles.0;
      instance_titles = titles.1;
      apart = apart;
    }

-- without an alias the title is the name, as it was
pub without_alias : (text : List ℕ) (whole now : Declared) (here : List ℕ) (before past : Passed) → Takes text whole now here before.vars before.instances
    → (name behind : List ℕ) (b : Body) (after : List ℕ) → IsNext here name behind b after → alias_of name behind ≡ None → IsPast before b past
    → Takes text whole now after past.vars past.instances
without_alias text whole now here before past t name behind b after next none passed =
    let (c, is) = comes text whole now here before.vars before.instances t name behind b after next in
    step text whole now now here before past t name behind name b after c (ap (λ o. unwrap_or o name) (sym none)) (is ∙ sym (joined-more t.done name b c.ahead.later)) t.apart passed

not_titled : {A : Type 0} (p : List ℕ → Bool) (name title : A → List ℕ) (xs : List A) → list_any (λ x. p (name x) || p (title x)) xs ≡ false → list_any p (map title xs) ≡ false
not_titled p name title [] h = refl
not_titled p name title (x ∷ xs) h = grind (arith, not_titled p name title xs)

not_called : (alias : List ℕ) (d : Declared) → is_called alias d ≡ false → list_any (same_letters alias) (titles_of d) ≡ false
not_called alias d free =
    let vars = not_titled (same_letters alias) (λ v. v.name) (λ v. v.title) d.vars in
    let instances = not_titled (same_letters alias) (λ i. i.name) (λ i. i.title) d.instances in
    grind (arith, list_any-append, vars, instances)

-- with an alias that nothing is called by
pub with_alias : (text : List ℕ) (whole now then : Declared) (here : List ℕ) (before past : Passed) → Takes text whole now here before.vars before.instances
    → (name behind alias : List ℕ) (b : Body) (after : List ℕ) → IsNext here name behind b after → alias_of name behind ≡ Some alias → is_called alias now ≡ false
    → Retitles before.vars before.instances b alias now then → IsPast before b past → Takes text whole then after past.vars past.instances
with_alias text whole now then here before past t name behind alias b after next is_alias free sets passed =
    let (c, is) = comes text whole now here before.vars before.instances t name behind b after next in
    let then_is = retitled t.done name alias b c.ahead.later then (rw (t.vars_are, t.instances_are, is) at sets) in
    let others : List (List ℕ) = titles_of (joined t.done c.ahead.later) in
    let moved = titles-with t.done name name b c.ahead.later in
    let now_is = is ∙ sym (joined-more t.done name b c.ahead.later) in
    let apart = (IsDistinct-less same_letters same_letters-flips name others _ moved (subst (λ d. IsDistinct same_letters (titles_of d)) now_is t.apart)).0 in
    let new_now = subst (λ d. list_any (same_letters alias) (titles_of d) ≡ false) now_is (not_called alias now free) in
    let new = (or_parts (same_letters alias name) _ (sym (list_any-IsPermutation (same_letters alias) _ (name ∷ others) moved) ∙ new_now)).1 in
    let then_apart = IsDistinct-more same_letters same_letters-flips alias others _ (titles-with t.done name alias b c.ahead.later) apart new in
    step text whole now then here before past t name behind alias b after c (ap (λ o. unwrap_or o name) (sym is_alias)) then_is
    (subst (λ d. IsDistinct same_letters (titles_of d)) (sym then_is) then_apart) passed

-- ---- an alias that is taken

-- what has a title has another name than the word, and what has none yet has its name for one
abbrev IsOther : {A : Type 0} → (A → List ℕ) → (A → List ℕ) → List ℕ → List ℕ → A → Type 0
IsOther name title text word x = (HasTitle text (name x) (title x) × (same_letters word (name x) ≡ false)) ⊎ (title x ≡ name x)

-- an element that is called so is another one that has the title, or has the name
called : {A : Type 0} (name title : A → List ℕ) (text word alias : List ℕ) (xs : List A)
    → All (IsOther name title text word) xs
    → list_any (λ x. same_letters alias (name x) || same_letters alias (title x)) xs ≡ true
    → ((other t : List ℕ) × HasTitle text other t × (same_letters word other ≡ false) × (same_letters alias t ≡ true)) ⊎ (list_any (λ x. same_letters alias (name x)) xs ≡ true)
called name title text word alias [] all h = absurd cc
called name title text word alias (x ∷ xs) all h =
    elim (or_cases (same_letters alias (name x) || same_letters alias (title x)) _ h) [
      | inr others ↦ elim (called name title text word alias xs (All-tail (IsOther name title text word) x xs all) others) [ inl other ↦ inl other | inr declared ↦ inr (or_right _ _ declared) ]
      | inl here ↦ elim (or_cases (same_letters alias (name x)) _ here) [
        | inl declared ↦ inr (or_left _ _ declared)
        | inr is ↦ elim (All-head (IsOther name title text word) x xs all) [
          | inl (has, other) ↦ inl (name x, title x, has, other, is)
          | inr same ↦ inr (or_left _ _ (ap (same_letters alias) (sym same) ∙ is))
        ]
      ]
    ]

others : {A : Type 0} (name title : A → List ℕ) (text word : List ℕ) (done later : List A) → All (λ x. HasTitle text (name x) (title x)) done
    → list_any (λ x. same_letters word (name x)) done ≡ false → AllByRecursion (λ x. title x ≡ name x) later
    → All (IsOther name title text word) (done ++ later)
others name title text word done later titles new names =
    let other = All-from_recursion (λ x. same_letters word (name x) ≡ false) done (none_passes (λ x. same_letters word (name x)) done new) in
    All-append (IsOther name title text word) done later (λ k d lt. inl (titles k d lt, other k d lt)) (λ k d lt. inr (All-from_recursion (λ x. title x ≡ name x) later names k d lt))

pub taken : (text : List ℕ) (whole now : Declared) (here : List ℕ) (vars instances : ℕ) → Takes text whole now here vars instances → (name behind alias : List ℕ)
    (b : Body) (after : List ℕ) → IsNext here name behind b after → alias_of name behind ≡ Some alias → is_called alias now ≡ true
    → HasTakenAlias text whole (line_of text (length behind))
taken text whole now here vars instances t name behind alias b after next is_alias so =
    let c = passes whole t.end t.ds here name behind b after t.ahead next in
    let later : Declared = declared_by t.ahead.later in
    let unnamed : list_any (same_letters name) (names_of (plain t.done)) ≡ false
    = ap (λ d. list_any (same_letters name) (names_of d)) t.done_is ∙ new_name (declared_by t.ds) name b c.ahead.later c.kept in
    let new = or_parts (list_any (λ v. same_letters name v.name) t.done.vars) _ (sym (names_any t.done name) ∙ ap (list_any (same_letters name)) (sym (names-plain t.done)) ∙ unnamed) in
    let vars_others = others (λ v. v.name) (λ v. v.title) text name t.done.vars later.vars t.var_titles new.0 (named t.ahead.later).0 in
    let instances_others = others (λ i. i.name) (λ i. i.title) text name t.done.instances later.instances t.instance_titles new.1 (named t.ahead.later).1 in
    let declared : (list_any (λ v. same_letters alias v.name) (t.done.vars ++ later.vars) || list_any (λ i. same_letters alias i.name) (t.done.instances ++ later.instances)) ≡ true
    → IsTaken text whole name alias
    = λ h. inl (ap (λ d. list_any (same_letters alias) (names_of d)) (sym t.same ∙ ap plain t.now_is) ∙ ap (list_any (same_letters alias)) (names-plain (joined t.done t.ahead.later))
    ∙ names_any (joined t.done t.ahead.later) alias ∙ h) in
    let either : IsTaken text whole name alias = elim (or_cases _ _ (sym (ap (is_called alias) t.now_is) ∙ so)) [
      | inl var ↦ elim (called (λ v. v.name) (λ v. v.title) text name alias (t.done.vars ++ later.vars) vars_others var) [
        | inl other ↦ inr other
        | inr h ↦ declared (or_left _ _ h)
      ]
      | inr instance ↦ elim (called (λ i. i.name) (λ i. i.title) text name alias (t.done.instances ++ later.instances) instances_others instance) [
        | inl other ↦ inr other
        | inr h ↦ declared (or_right _ _ h)
      ]
    ] in
    (t.ds, b, name, behind, alias, (goes_on text t.ds here name behind b after t.reads next c.named).0, is_alias, either, refl)
