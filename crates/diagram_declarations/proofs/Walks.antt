-- A declaration as an automaton: the tokens that lead from what is due to an end are those that the grammar has there.
use Rattle.std.proofs.Common.{◌≡◌, ◌⊎◌, inl, inr, ℕ, Bool, true, false, cond, List, [], ◌∷◌, ◌++◌, codes, Option, Some, None, refl, sym, ap, subst, ◌∙◌, append_assoc, ◌≤◌, arith}
use Rattle.std.proofs.lemmas.List.{append-nil}
use Rattle.diagram_declarations.specs.declared.decls.VarKind.{VarKind}
use Rattle.diagram_declarations.specs.declared.decls.VarKind.TheVariants as var_kind
use Rattle.diagram_declarations.specs.declared.kind.BlockKind.{BlockKind}
use Rattle.diagram_declarations.specs.declared.kind.Parameter.{Parameter}
use Rattle.diagram_declarations.specs.declared.kind.Parameter.TheVariants as parameter
use Rattle.diagram_declarations.specs.declared.decls.Address.{Address}
use Rattle.diagram_declarations.specs.declared.decls.Body.{Body}
use Rattle.diagram_declarations.specs.declared.decls.Body.TheVariants as body
use Rattle.diagram_declarations.specs.declared.declaration.Due.{Due}
use Rattle.diagram_declarations.specs.declared.declaration.Due.TheVariants as due
use Rattle.diagram_declarations.specs.declared.declaration.Next.{Next}
use Rattle.diagram_declarations.specs.declared.declaration.Next.TheVariants as then
use Rattle.diagram_declarations.specs.Kind.{traits_of, parameter_word, largest_of}
use Rattle.diagram_declarations.specs.Grammar.{Is, Token, Sequence, Optional, Preset, IsAddress, IsBody, bit_word}
use Rattle.diagram_declarations.specs.ReadTimes.{◌>>=◌}
use Rattle.diagram_declarations.specs.ReadWords.{IsValue, address_of, value_of, block_of}
use Rattle.diagram_declarations.specs.ReadSteps.{on, step}
use Rattle.diagram_declarations.specs.ReadDecls.{PresetFits}
use Rattle.diagram_declarations.proofs.WordLaws.{alike, block_reads, block_takes, block_of-other, address_takes, address_reads, value_takes, value_reads}

-- ---- walks

-- where a step ends a body, these tokens are none; where more is due, they are such
abbrev pub GoesOn : (Due → Type 0) → List (List ℕ) → Body → Option Next → Type 0
GoesOn More ts b None = ⊥
GoesOn More ts b (Some (then.Ends c)) = (ts ≡ []) × (b ≡ c)
GoesOn More ts b (Some (then.Goes d)) = More d

-- the tokens lead from what is due to the end of this body
abbrev pub Walks : Due → List (List ℕ) → Body → Type 0
Walks d [] b = ⊥
Walks d (t ∷ ts) b = GoesOn (λ next. Walks next ts b) ts b (step d t)

-- the first token
pub takes : (d : Due) (t : List ℕ) (ts us : List (List ℕ)) (b : Body) (o : Option Next) → ts ≡ t ∷ us → step d t ≡ o → GoesOn (λ next. Walks next us b) us b o
    → Walks d ts b
takes d t ts us b o parts is w = subst (λ z. Walks d z b) (sym parts) (subst (GoesOn (λ next. Walks next us b) us b) (sym is) w)

-- ---- what holds of a step, whichever it is

abbrev pub Each : (Next → Type 0) → Option Next → Type 0
Each P None = Unit {0}
Each P (Some n) = P n

pub when : (P : Next → Type 0) (b : Bool) (n : Next) → (b ≡ true → P n) → Each P (on b n)
when P true n h = h refl
when P false n h = tt

pub either : (P : Next → Type 0) (b : Bool) (x y : Option Next) → (b ≡ true → Each P x) → Each P y → Each P (cond b x y)
either P true x y h other = h refl
either P false x y h other = other

pub found : {A : Type 0} (P : Next → Type 0) (o : Option A) (f : A → Option Next) → ((x : A) → o ≡ Some x → Each P (f x)) → Each P (o >>= f)
found P (Some x) f h = h x refl
found P None f h = tt

-- ---- the phrases behind what was read

abbrev Phrase : Type 1
Phrase = List (List ℕ) → Type 0

abbrev semicolon : List Phrase
semicolon = Token (Is (codes ";")) ∷ []

abbrev after_bool : Bool → List Phrase
after_bool value = Optional (Token (Is (codes ":=")) ∷ Token (λ word. bit_word word ≡ Some value) ∷ []) (value ≡ false) ∷ semicolon

abbrev after_block : BlockKind → ℕ → List Phrase
after_block kind n = Optional (Token (Is (codes ":=")) ∷ Preset (traits_of kind).parameter n ∷ []) (n ≡ 0) ∷ semicolon

abbrev after_assign : Parameter → ℕ → List Phrase
after_assign form n = Token (λ word. IsValue form word n) ∷ Token (Is (codes ")")) ∷ semicolon

abbrev after_opening : Parameter → ℕ → List Phrase
after_opening form n = Token (Is (parameter_word form)) ∷ Token (Is (codes ":=")) ∷ after_assign form n

abbrev bracket : Parameter → ℕ → List Phrase
bracket form n = Token (Is (codes "(")) ∷ Token (Is (parameter_word form)) ∷ Token (Is (codes ":=")) ∷ Token (λ word. IsValue form word n) ∷ Token (Is (codes ")")) ∷ []

abbrev IsVar : (Bool → List Phrase) → VarKind → Option Address → List (List ℕ) → Body → Type 0
IsVar phrases kind address ts b = (value : Bool) × (b ≡ body.Var kind address value) × Sequence (phrases value) ts

abbrev IsInstance : (ℕ → List Phrase) → BlockKind → List (List ℕ) → Body → Type 0
IsInstance phrases kind ts b = (n : ℕ) × (b ≡ body.Instance kind n) × Sequence (phrases n) ts

abbrev IsPlaced : VarKind → Option Address → List (List ℕ) → Body → Type 0
IsPlaced = IsVar (λ value. Token (Is (codes ":")) ∷ Token (Is (codes "BOOL")) ∷ after_bool value)

abbrev Rest : Due → List (List ℕ) → Body → Type 0
Rest due.Place ts b = IsBody ts b
Rest due.Address ts b =
    (word : List ℕ) × (others : List (List ℕ)) × (kind : VarKind) × (a : Address) × (ts ≡ word ∷ others) × IsAddress word kind a × IsPlaced kind (Some a) others b
Rest (due.Colon kind a) ts b = IsPlaced kind (Some a) ts b
Rest (due.Bool kind a) ts b = IsVar (λ value. Token (Is (codes "BOOL")) ∷ after_bool value) kind (Some a) ts b
Rest due.Type ts b =
    IsVar (λ value. Token (Is (codes "BOOL")) ∷ after_bool value) var_kind.Memory None ts b
    ⊎ ((kind : BlockKind) × IsInstance (λ n. Token (Is (traits_of kind).word) ∷ after_block kind n) kind ts b)
Rest (due.Initial kind address) ts b = IsVar after_bool kind address ts b
Rest (due.Bit kind address) ts b = IsVar (λ value. Token (λ word. bit_word word ≡ Some value) ∷ semicolon) kind address ts b
Rest (due.Preset kind) ts b = IsInstance (after_block kind) kind ts b
Rest (due.Opening kind form) ts b = IsInstance (λ n. Token (Is (codes "(")) ∷ after_opening form n) kind ts b
Rest (due.Word kind form) ts b = IsInstance (after_opening form) kind ts b
Rest (due.Assign kind form) ts b = IsInstance (λ n. Token (Is (codes ":=")) ∷ after_assign form n) kind ts b
Rest (due.Value kind form) ts b = IsInstance (after_assign form) kind ts b
Rest (due.Closing c) ts b = (b ≡ c) × Sequence (Token (Is (codes ")")) ∷ semicolon) ts
Rest (due.End c) ts b = (b ≡ c) × Sequence semicolon ts

-- ---- the grammar has what a walk takes

preset_form : (form : Parameter) (n : ℕ) (ts : List (List ℕ)) → (Preset (Some form) n ts → Sequence (bracket form n) ts) × (Sequence (bracket form n) ts → Preset (Some form) n ts)
preset_form parameter.Time n ts = (λ h. h, λ h. h)
preset_form parameter.Count n ts = (λ h. h, λ h. h)

split_sequence : (phrases more : List Phrase) (ts : List (List ℕ)) → Sequence (phrases ++ more) ts
    → (front back : List (List ℕ)) × (ts ≡ front ++ back) × Sequence phrases front × Sequence more back
split_sequence [] more ts h = ([], ts, refl, refl, h)
split_sequence (P ∷ phrases) more ts (f, b, parts, p, h) =
    let x = split_sequence phrases more b h in
    (f ++ x.0, x.1, parts ∙ ap (λ z. f ++ z) x.2 ∙ sym (append_assoc f x.0 x.1), (f, x.0, refl, p, x.3), x.4)

preset_before : (kind : BlockKind) (form : Parameter) (t : List ℕ) (ts : List (List ℕ)) (b : Body) → (traits_of kind).parameter ≡ Some form → Is (codes ":=") t
    → IsInstance (λ n. Token (Is (codes "(")) ∷ after_opening form n) kind ts b → IsInstance (after_block kind) kind (t ∷ ts) b
preset_before kind form t ts b parameter_is is (n, e, h) =
    let x = split_sequence (bracket form n) semicolon ts h in
    let given : Preset (traits_of kind).parameter n x.0 = subst (λ o. Preset o n x.0) (sym parameter_is) ((preset_form form n x.0).1 x.3) in
    (n, e, (t ∷ x.0, x.1, ap (λ z. t ∷ z) x.2, inl (t ∷ [], x.0, refl, (t, refl, is), (x.0, [], sym (append-nil x.0), given, refl)), x.4))

type_before : (t : List ℕ) (ts : List (List ℕ)) (b : Body) → Is (codes ":") t → Rest due.Type ts b → IsBody (t ∷ ts) b
type_before t ts b is (inl (value, e, h)) = subst (IsBody (t ∷ ts)) (sym e) ([], t ∷ ts, refl, inr (refl, (refl, refl)), (t ∷ [], ts, refl, (t, refl, is), h))
type_before t ts b is (inr (kind, (n, e, h))) = subst (IsBody (t ∷ ts)) (sym e) (t ∷ [], ts, refl, (t, refl, is), h)

address_before : (t : List ℕ) (ts : List (List ℕ)) (b : Body) → Is (codes "AT") t → Rest due.Address ts b → IsBody (t ∷ ts) b
address_before t ts b is (word, others, kind, a, parts, is_address, (value, e, h)) =
    subst (IsBody (t ∷ ts)) (sym e)
    (t ∷ word ∷ [], others, ap (λ z. t ∷ z) parts, inl (t ∷ [], word ∷ [], refl, (t, refl, is), (word ∷ [], [], refl, (word, refl, (a, refl, is_address)), refl)), h)

abbrev Before : Due → List ℕ → List (List ℕ) → Body → Next → Type 0
Before d t ts b n = GoesOn (λ next. Rest next ts b) ts b (Some n) → Rest d (t ∷ ts) b

before : (d : Due) (t : List ℕ) (ts : List (List ℕ)) (b : Body) → Each (Before d t ts b) (step d t)
before due.Place t ts b = either (Before due.Place t ts b) _ (Some (then.Goes due.Address)) _ (λ is h. address_before t ts b is h) (when (Before due.Place t ts b) _ _ (λ is h. type_before t ts b is h))
before due.Address t ts b = found (Before due.Address t ts b) (address_of t) (λ p. Some (then.Goes (due.Colon p.0 p.1))) (λ p is h. (t, ts, p.0, p.1, refl, address_takes t p.0 p.1 is, h))
before (due.Colon kind a) t ts b = when (Before (due.Colon kind a) t ts b) _ _ (λ is h. (h.0, h.1, (t ∷ [], ts, refl, (t, refl, is), h.2)))
before (due.Bool kind a) t ts b = when (Before (due.Bool kind a) t ts b) _ _ (λ is h. (h.0, h.1, (t ∷ [], ts, refl, (t, refl, is), h.2)))
before due.Type t ts b =
    either (Before due.Type t ts b) _ (Some (then.Goes (due.Initial var_kind.Memory None))) _ (λ is h. inl (h.0, h.1, (t ∷ [], ts, refl, (t, refl, is), h.2)))
    (found (Before due.Type t ts b) (block_of t) (λ kind. Some (then.Goes (due.Preset kind))) (λ kind is h. inr (kind, (h.0, h.1, (t ∷ [], ts, refl, (t, refl, block_takes t kind is), h.2)))))
before (due.Initial kind address) t ts b =
    either (Before (due.Initial kind address) t ts b) _ (Some (then.Ends (body.Var kind address false))) _ (λ is h. (false, h.1, ([], t ∷ ts, refl, inr (refl, refl), (t ∷ [], ts, refl, (t, refl, is), h.0))))
    (when (Before (due.Initial kind address) t ts b) _ _ (λ is h. let (value, e, (f, back, parts, bit, more)) = h in
    (value, e, (t ∷ f, back, ap (λ z. t ∷ z) parts, inl (t ∷ [], f, refl, (t, refl, is), (f, [], sym (append-nil f), bit, refl)), more))))
before (due.Bit kind address) t ts b = found (Before (due.Bit kind address) t ts b) (bit_word t) (λ value. Some (then.Goes (due.End (body.Var kind address value)))) (λ value is h. (value, h.0, (t ∷ [], ts, refl, (t, refl, is), h.1)))
before (due.Preset kind) t ts b =
    either (Before (due.Preset kind) t ts b) _ (Some (then.Ends (body.Instance kind 0))) _ (λ is h. (0, h.1, ([], t ∷ ts, refl, inr (refl, refl), (t ∷ [], ts, refl, (t, refl, is), h.0))))
    (either (Before (due.Preset kind) t ts b) _ ((traits_of kind).parameter >>= λ form. Some (then.Goes (due.Opening kind form))) _
    (λ is. found (Before (due.Preset kind) t ts b) (traits_of kind).parameter (λ form. Some (then.Goes (due.Opening kind form))) (λ form parameter_is h. preset_before kind form t ts b parameter_is is h)) tt)
before (due.Opening kind form) t ts b = when (Before (due.Opening kind form) t ts b) _ _ (λ is h. (h.0, h.1, (t ∷ [], ts, refl, (t, refl, is), h.2)))
before (due.Word kind form) t ts b = when (Before (due.Word kind form) t ts b) _ _ (λ is h. (h.0, h.1, (t ∷ [], ts, refl, (t, refl, is), h.2)))
before (due.Assign kind form) t ts b = when (Before (due.Assign kind form) t ts b) _ _ (λ is h. (h.0, h.1, (t ∷ [], ts, refl, (t, refl, is), h.2)))
before (due.Value kind form) t ts b = found (Before (due.Value kind form) t ts b) (value_of form t) (λ n. Some (then.Goes (due.Closing (body.Instance kind n)))) (λ n is h. (n, h.0, (t ∷ [], ts, refl, (t, refl, value_takes form t n is), h.1)))
before (due.Closing c) t ts b = when (Before (due.Closing c) t ts b) _ _ (λ is h. (h.0, (t ∷ [], ts, refl, (t, refl, is), h.1)))
before (due.End c) t ts b = when (Before (due.End c) t ts b) _ _ (λ is h. (h.1, (t ∷ [], ts, refl, (t, refl, is), h.0)))

rest_of : (ts : List (List ℕ)) (d : Due) (b : Body) → Walks d ts b → Rest d ts b
rest_of [] d b w = absurd w
rest_of (t ∷ ts) d b w =
    elim (step d t) as (λ o. Each (Before d t ts b) o → GoesOn (λ next. Walks next ts b) ts b o → Rest d (t ∷ ts) b) [
      | None ↦ λ p w. absurd w
      | Some (then.Ends c) ↦ λ p w. p w
      | Some (then.Goes next) ↦ λ p w. p (rest_of ts next b w)
    ] (before d t ts b) w

pub body_of : (ts : List (List ℕ)) (b : Body) → Walks due.Place ts b → IsBody ts b
body_of ts b w = rest_of ts due.Place b w

-- ---- and a walk takes what the grammar has

-- a token, and what follows it
one_more : (ts front back : List (List ℕ)) (t : List ℕ) → ts ≡ front ++ back → front ≡ t ∷ [] → ts ≡ t ∷ back
one_more ts front back t parts one = grind arith

end_walks : (c : Body) (ts : List (List ℕ)) → Sequence semicolon ts → Walks (due.End c) ts c
end_walks c ts (f, back, parts, (t, one, is), none) = grind arith

initial_walks : (kind : VarKind) (address : Option Address) (value : Bool) (ts : List (List ℕ)) → Sequence (after_bool value) ts
    → Walks (due.Initial kind address) ts (body.Var kind address value)
initial_walks kind address value ts (front, back, parts, inr (empty, off), (f, c, p, (t, one, is), none)) = grind arith
initial_walks kind address value ts (front, back, parts, inl (f, b, p, (t, one, is), (g, c, q, (bit, other, is_bit), end)), rest) =
    let no_end = alike (codes ":=") (codes ";") t is in
    let end_ = end_walks (body.Var kind address value) back rest in
    grind arith

bracket_walks : (kind : BlockKind) (form : Parameter) (n : ℕ) (ts : List (List ℕ))
    → Sequence (Token (Is (codes "(")) ∷ after_opening form n) ts → Walks (due.Opening kind form) ts (body.Instance kind n)
bracket_walks kind form n ts
    (f1, b1, p1, (t1, o1, is1), (f2, b2, p2, (t2, o2, is2), (f3, b3, p3, (t3, o3, is3), (f4, b4, p4, (t4, o4, is4), (f5, b5, p5, (t5, o5, is5), rest))))) =
    let value = value_reads form t4 n is4 in
    let end = end_walks (body.Instance kind n) b5 rest in
    grind arith

join_sequence : (phrases more : List Phrase) (front back : List (List ℕ)) → Sequence phrases front → Sequence more back → Sequence (phrases ++ more) (front ++ back)
join_sequence [] more front back none h = subst (λ z. Sequence more (z ++ back)) (sym none) h
join_sequence (P ∷ phrases) more front back (f, b, parts, p, h) others =
    (f, b ++ back, ap (λ z. z ++ back) parts ∙ append_assoc f b back, p, join_sequence phrases more b back h others)

preset_walks : (kind : BlockKind) (o : Option Parameter) (n : ℕ) (ts : List (List ℕ)) → (traits_of kind).parameter ≡ o
    → Sequence (Optional (Token (Is (codes ":=")) ∷ Preset o n ∷ []) (n ≡ 0) ∷ semicolon) ts → Walks (due.Preset kind) ts (body.Instance kind n)
preset_walks kind o n ts parameter_is (front, back, parts, inr (empty, zero_), (f, c, p, (t, one, is), none)) = grind arith
preset_walks kind None n ts parameter_is (front, back, parts, inl (f, b, p, assign, (g, c, q, never, end)), rest) = absurd never
preset_walks kind (Some form) n ts parameter_is (front, back, parts, inl (f, b, p, (t, one, is), (g, c, q, given, end)), rest) =
    let no_end = alike (codes ":=") (codes ";") t is in
    let more = bracket_walks kind form n (g ++ back) (join_sequence (bracket form n) semicolon g back ((preset_form form n g).0 given) rest) in
    grind (arith, append-nil {A = List ℕ})

pub walks : (ts : List (List ℕ)) (b : Body) → IsBody ts b → Walks due.Place ts b
walks ts (body.Var kind address value) (place, a, pa, inr (empty, (none, memory)), (f, b, pb, (colon, ob, is), (g, c, pc, (bool, oc, is_bool), more))) =
    let no_at = alike (codes ":") (codes "AT") colon is in
    let rest = initial_walks var_kind.Memory None value c more in
    grind arith
walks ts (body.Var kind address value)
    (place, a, pa, inl (h, d, pd, (at, oat, is_at), (i, e, pe, (word, oe, (x, some, is_address)), end)), (f, b, pb, (colon, ob, is), (g, c, pc, (bool, oc, is_bool), more))) =
    let found = address_reads word kind x is_address in
    let rest = initial_walks kind (Some x) value c more in
    grind arith
walks ts (body.Instance kind n) (f, a, pa, (colon, oa, is), (g, b, pb, (block, ob, is_block), more)) =
    let no_at = alike (codes ":") (codes "AT") colon is in
    let named = block_reads block kind is_block in
    let no_bool = block_of-other block kind named in
    let rest = preset_walks kind (traits_of kind).parameter n b refl more in
    grind arith

-- ---- each preset is in range

preset_fits : (o : Option Parameter) (n : ℕ) (ts : List (List ℕ)) → Preset o n ts → n ≤ largest_of o
preset_fits (Some parameter.Time) n ts (f, b, p, opening, (g, c, q, word, (h, d, r, assign, (i, e, s, (w, one, (prefix, after, parts, is, from, times, sum, small)), closing)))) = small
preset_fits (Some parameter.Count) n ts (f, b, p, opening, (g, c, q, word, (h, d, r, assign, (i, e, s, (w, one, (number, small)), closing)))) = small
preset_fits None n ts never = absurd never

pub body_fits : (ts : List (List ℕ)) (b : Body) → IsBody ts b → PresetFits b
body_fits ts (body.Var kind address value) h = tt
body_fits ts (body.Instance kind n) (f, a, pa, colon, (g, b, pb, block, (front, c, pc, inr (empty, zero_), end))) = omega (arith, zero_)
body_fits ts (body.Instance kind n) (f, a, pa, colon, (g, b, pb, block, (front, c, pc, inl (h, d, pd, assign, (i, e, pe, given, none)), end))) =
    preset_fits (traits_of kind).parameter n i given
