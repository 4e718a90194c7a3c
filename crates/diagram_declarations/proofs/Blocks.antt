-- A block as an automaton: which tokens can follow, as the grammar says, and where a fault shows.
use Rattle.std.proofs.Common.{◌≡◌, inl, inr, ℕ, true, false, if◌then◌else◌, List, [], ◌∷◌, ◌++◌, length, codes, Option, Some, None, refl, sym, ap, subst, ◌∙◌, append_assoc, arith, zero, suc, ◌<◌, Err}
use Rattle.std.proofs.lemmas.Bool.Decides.{nat_tests}
use Rattle.std.proofs.lemmas.List.{append-nil}
use Rattle.diagram_declarations.specs.declared.fault.VarRule.{VarRule}
use Rattle.diagram_declarations.specs.declared.fault.VarRule.TheVariants as rule
use Rattle.diagram_declarations.specs.declared.decls.VarKind.TheVariants as var_kind
use Rattle.diagram_declarations.specs.declared.kind.BlockKind.{BlockKind}
use Rattle.diagram_declarations.specs.declared.kind.Parameter.{Parameter}
use Rattle.diagram_declarations.specs.declared.kind.Parameter.TheVariants as parameter
use Rattle.diagram_declarations.specs.declared.decls.Body.{Body}
use Rattle.diagram_declarations.specs.declared.decls.Body.TheVariants as body
use Rattle.diagram_declarations.specs.declared.declaration.Due.{Due}
use Rattle.diagram_declarations.specs.declared.declaration.Due.TheVariants as due
use Rattle.diagram_declarations.specs.declared.declaration.Next.{Next}
use Rattle.diagram_declarations.specs.declared.declaration.Next.TheVariants as then
use Rattle.diagram_declarations.specs.declared.fault.Fault.{Fault}
use Rattle.diagram_declarations.specs.Name.{same_letters, is_name, has_name_form}
use Rattle.diagram_declarations.specs.Kind.{parameter_word}
use Rattle.diagram_declarations.specs.Grammar.{Is, Decl, IsBody, AreDecls, IsHead, IsBlock, CanFollow}
use Rattle.diagram_declarations.specs.ReadTimes.{◌>>=◌, part_at, total_from, total_of, time_of}
use Rattle.diagram_declarations.specs.ReadWords.{numbers_of}
use Rattle.diagram_declarations.specs.ReadSteps.{step, misfit}
use Rattle.diagram_declarations.specs.Text.{begins_word, AreTokens}
use Rattle.diagram_declarations.specs.Rules.{TokenDue, IsForName, IsForValue, Breaks}
use Rattle.diagram_declarations.specs.ReadText.{token_at}
use Rattle.diagram_declarations.specs.ReadDecls.{at, turn, body_from}
use Rattle.diagram_declarations.proofs.Tokens.{bind_err, first_token, token_takes, AreTokens-append, no_token-found}
use Rattle.diagram_declarations.proofs.Walks.{Walks, GoesOn, Each, when, either, found, takes, walks, body_of}

-- what is due in a block
pub data State : Type 0 where
  NeedVar : State
  NeedName : State
  In : (d : Due) → State
  Ended : State

abbrev pub state_of : Next → State
state_of (then.Goes d) = In d
state_of (then.Ends b) = NeedName

abbrev pub next : State → List ℕ → Option State
next NeedVar t = if same_letters t (codes "VAR") then Some NeedName else None
next NeedName t = if same_letters t (codes "END_VAR") then Some Ended else (if is_name t then Some (In due.Place) else None)
next (In d) t = step d t >>= λ n. Some (state_of n)
next Ended t = None

-- the rule that a token breaks which can't follow
abbrev pub broken_by : State → List ℕ → VarRule
broken_by NeedVar t = rule.BadToken
broken_by NeedName t = if has_name_form t then rule.BadName else rule.BadToken
broken_by (In d) t = misfit d t
broken_by Ended t = rule.BadToken

abbrev pub run : State → List (List ℕ) → Option State
run s [] = Some s
run s (t ∷ ts) = next s t >>= λ n. run n ts

pub run-append : (ts us : List (List ℕ)) (s : State) → run s (ts ++ us) ≡ run s ts >>= λ n. run n us
run-append [] us s = refl
run-append (t ∷ ts) us s = grind (arith, run-append ts us)

-- ---- one declaration more

AreDecls-push : (ds : List Decl) (ts behind : List (List ℕ)) (d : Decl) → AreDecls ts ds → is_name d.name ≡ true → IsBody behind d.body
    → AreDecls (ts ++ (d.name ∷ behind)) (ds ++ d ∷ [])
AreDecls-push [] ts behind d h named is_body =
    (behind, [], ap (λ z. z ++ (d.name ∷ behind)) h ∙ ap (λ z. d.name ∷ z) (sym (append-nil behind)), named, is_body, refl)
AreDecls-push (e ∷ ds) ts behind d (first, back, parts, e_named, e_body, others) named is_body =
    let whole = ap (λ z. z ++ (d.name ∷ behind)) parts ∙ ap (λ z. e.name ∷ z) (append_assoc first back (d.name ∷ behind)) in
    (first, back ++ (d.name ∷ behind), whole, e_named, e_body, AreDecls-push ds back behind d others named is_body)

pub IsHead-push : (head behind : List (List ℕ)) (ds : List Decl) (name : List ℕ) (b : Body) → IsHead head ds → is_name name ≡ true → IsBody behind b
    → IsHead (head ++ (name ∷ behind)) (ds ++ record { name = name; body = b } ∷ [])
IsHead-push head behind ds name b (opening, between, parts, is_var, derived) named is_body =
    (opening, between ++ (name ∷ behind), ap (λ z. z ++ (name ∷ behind)) parts, is_var, AreDecls-push ds between behind _ derived named is_body)

-- ---- a block is read to its end

body_runs : (ts us : List (List ℕ)) (d : Due) (b : Body) → Walks d ts b → run (In d) (ts ++ us) ≡ run NeedName us
body_runs [] us d b w = absurd w
body_runs (t ∷ ts) us d b w =
    elim (step d t) as (λ o. GoesOn (λ n. Walks n ts b) ts b o → ((o >>= λ n. Some (state_of n)) >>= λ n. run n (ts ++ us)) ≡ run NeedName us) [
      | None ↦ λ w. absurd w
      | Some (then.Ends c) ↦ λ w. ap (λ z. run NeedName (z ++ us)) w.0
      | Some (then.Goes n) ↦ λ w. body_runs ts us n b w
    ] w

-- a name is no keyword
pub no_keyword : (name : List ℕ) → is_name name ≡ true → same_letters name (codes "END_VAR") ≡ false
no_keyword name h = grind (arith, nat_tests)

pub name_next : (name : List ℕ) → is_name name ≡ true → next NeedName name ≡ Some (In due.Place)
name_next name named = grind (arith, no_keyword)

decls_run : (ds : List Decl) (ts us : List (List ℕ)) → AreDecls ts ds → run NeedName (ts ++ us) ≡ run NeedName us
decls_run [] ts us h = rw h refl
decls_run (d ∷ ds) ts us (behind, back, parts, named, is, others) =
    let one = body_runs behind (back ++ us) due.Place d.body (walks behind d.body is) in
    let more = decls_run ds back us others in
    grind (arith, name_next, append_assoc)

pub head_runs : (ts us : List (List ℕ)) (ds : List Decl) → IsHead ts ds → run NeedVar (ts ++ us) ≡ run NeedName us
head_runs ts us ds (opening, between, parts, is_var, derived) = let more = decls_run ds between us derived in grind arith

block_runs : (ts : List (List ℕ)) (ds : List Decl) → IsBlock ts ds → run NeedVar ts ≡ Some Ended
block_runs ts ds (head, closing, parts, is_head, is_end) = let more = head_runs head (closing ∷ []) ds is_head in grind arith

-- ---- what can follow

-- some tokens lead from what is due to the end of a body
abbrev Ends : Due → Type 0
Ends d = (ts : List (List ℕ)) × (b : Body) × Walks d ts b

ends : (d : Due) → Ends d
unfolding numbers_of time_of total_of total_from part_at
ends due.Place = (codes ":" ∷ codes "BOOL" ∷ codes ";" ∷ [], body.Var var_kind.Memory None false, (refl, refl))
ends due.Address =
    (codes "%I0" ∷ codes ":" ∷ codes "BOOL" ∷ codes ";" ∷ [], body.Var var_kind.Input (Some (record { letter = 73; first = 0; second = None })) false, (refl, refl))
ends (due.Colon kind a) = (codes ":" ∷ codes "BOOL" ∷ codes ";" ∷ [], body.Var kind (Some a) false, (refl, refl))
ends (due.Bool kind a) = (codes "BOOL" ∷ codes ";" ∷ [], body.Var kind (Some a) false, (refl, refl))
ends due.Type = (codes "BOOL" ∷ codes ";" ∷ [], body.Var var_kind.Memory None false, (refl, refl))
ends (due.Initial kind address) = (codes ";" ∷ [], body.Var kind address false, (refl, refl))
ends (due.Bit kind address) = (codes "TRUE" ∷ codes ";" ∷ [], body.Var kind address true, (refl, refl))
ends (due.Preset kind) = (codes ";" ∷ [], body.Instance kind 0, (refl, refl))
ends (due.Opening kind parameter.Time) = (codes "(" ∷ codes "PT" ∷ codes ":=" ∷ codes "T#0s" ∷ codes ")" ∷ codes ";" ∷ [], body.Instance kind 0, (refl, refl))
ends (due.Opening kind parameter.Count) = (codes "(" ∷ codes "PV" ∷ codes ":=" ∷ codes "0" ∷ codes ")" ∷ codes ";" ∷ [], body.Instance kind 0, (refl, refl))
ends (due.Word kind parameter.Time) = (codes "PT" ∷ codes ":=" ∷ codes "T#0s" ∷ codes ")" ∷ codes ";" ∷ [], body.Instance kind 0, (refl, refl))
ends (due.Word kind parameter.Count) = (codes "PV" ∷ codes ":=" ∷ codes "0" ∷ codes ")" ∷ codes ";" ∷ [], body.Instance kind 0, (refl, refl))
ends (due.Assign kind parameter.Time) = (codes ":=" ∷ codes "T#0s" ∷ codes ")" ∷ codes ";" ∷ [], body.Instance kind 0, (refl, refl))
ends (due.Assign kind parameter.Count) = (codes ":=" ∷ codes "0" ∷ codes ")" ∷ codes ";" ∷ [], body.Instance kind 0, (refl, refl))
ends (due.Value kind parameter.Time) = (codes "T#0s" ∷ codes ")" ∷ codes ";" ∷ [], body.Instance kind 0, (refl, refl))
ends (due.Value kind parameter.Count) = (codes "0" ∷ codes ")" ∷ codes ";" ∷ [], body.Instance kind 0, (refl, refl))
ends (due.Closing b) = (codes ")" ∷ codes ";" ∷ [], b, (refl, refl))
ends (due.End b) = (codes ";" ∷ [], b, (refl, refl))

-- tokens with which whole declarations begin
pub some_follows : (ts rest : List (List ℕ)) (ds : List Decl) → IsHead (ts ++ rest) ds → (t : List ℕ) × CanFollow ts t
some_follows ts [] ds h =
    (codes "END_VAR", ([], ds, (ts ++ [], codes "END_VAR", ap (λ z. z ++ codes "END_VAR" ∷ []) (sym (append-nil ts)), h, refl)))
some_follows ts (t ∷ rest) ds h =
    (t, (rest ++ codes "END_VAR" ∷ [], ds, (ts ++ t ∷ rest, codes "END_VAR", sym (append_assoc ts (t ∷ rest) (codes "END_VAR" ∷ [])), h, refl)))

pub none_follows : (ts : List (List ℕ)) (t : List ℕ) (s : State) → run NeedVar ts ≡ Some s → next s t ≡ None → CanFollow ts t → ⊥
none_follows ts t s h none (more, ds, block) =
    let all = block_runs (ts ++ t ∷ more) ds block in
    let split = run-append ts (t ∷ more) NeedVar in
    grind arith

-- ---- where a value is due

-- behind a parenthesis, as far as a value
abbrev pub Behind : State → List (List ℕ) → Type 0
Behind (In (due.Word kind form)) ts = (before : List (List ℕ)) × (opening : List ℕ) × (ts ≡ before ++ opening ∷ []) × Is (codes "(") opening
Behind (In (due.Assign kind form)) ts = (before : List (List ℕ)) × (opening word : List ℕ) × (ts ≡ before ++ opening ∷ word ∷ []) × Is (codes "(") opening
Behind (In (due.Value kind form)) ts =
    (before : List (List ℕ)) × (opening word assign : List ℕ) × (ts ≡ before ++ opening ∷ word ∷ assign ∷ []) × Is (codes "(") opening
Behind s ts = Unit {0}

abbrev Follows : List (List ℕ) → Next → Type 0
Follows ts n = Behind (state_of n) ts

follows : (d : Due) (t : List ℕ) (ts : List (List ℕ)) → Behind (In d) ts → Each (Follows (ts ++ t ∷ [])) (step d t)
follows (due.Opening kind form) t ts b = when (Follows (ts ++ t ∷ [])) (same_letters t (codes "(")) (then.Goes (due.Word kind form)) (λ is. (ts, t, refl, is))
follows (due.Word kind form) t ts (before, opening, parts, is) =
    when (Follows (ts ++ t ∷ [])) (same_letters t (parameter_word form)) (then.Goes (due.Assign kind form))
    (λ _. (before, opening, t, ap (λ z. z ++ t ∷ []) parts ∙ append_assoc before (opening ∷ []) (t ∷ []), is))
follows (due.Assign kind form) t ts (before, opening, word, parts, is) =
    when (Follows (ts ++ t ∷ [])) (same_letters t (codes ":=")) (then.Goes (due.Value kind form))
    (λ _. (before, opening, word, t, ap (λ z. z ++ t ∷ []) parts ∙ append_assoc before (opening ∷ word ∷ []) (t ∷ []), is))
follows other t ts b = search (when, either, found)

goes_behind : (d n : Due) (t : List ℕ) (ts : List (List ℕ)) → Behind (In d) ts → step d t ≡ Some (then.Goes n) → Behind (In n) (ts ++ t ∷ [])
goes_behind d n t ts b is = subst (Each (Follows (ts ++ t ∷ []))) is (follows d t ts b)

opening_is : (t : List ℕ) → Is (codes "(") t → t ≡ codes "("
opening_is (b ∷ []) h = grind (arith, nat_tests)
opening_is other h = grind arith

-- only one state takes it
opens : (s n : State) → next s (codes "(") ≡ Some n → (kind : BlockKind) × (form : Parameter) × (n ≡ In (due.Word kind form))
unfolding time_of
opens (In (due.Opening kind form)) n h = (kind, form, cc)
opens (In (due.Word kind parameter.Time)) n h = absurd cc
opens (In (due.Word kind parameter.Count)) n h = absurd cc
opens (In (due.Value kind parameter.Time)) n h = absurd cc
opens (In (due.Value kind parameter.Count)) n h = absurd cc
opens other n h = absurd cc

-- the first of some steps
step_of : (o : Option State) (ts : List (List ℕ)) (last : State) → (o >>= λ n. run n ts) ≡ Some last → (n : State) × (o ≡ Some n) × (run n ts ≡ Some last)
step_of (Some n) ts last h = (n, refl, h)
step_of None ts last h = absurd cc

last_two : (kind : BlockKind) (form : Parameter) (word assign : List ℕ) (last : State) → run (In (due.Word kind form)) (word ∷ assign ∷ []) ≡ Some last → last ≡ In (due.Value kind form)
last_two kind form word assign last h = grind arith

value_due : (before : List (List ℕ)) (opening word assign : List ℕ) (last : State) → Is (codes "(") opening
    → run NeedVar (before ++ opening ∷ word ∷ assign ∷ []) ≡ Some last → (kind : BlockKind) × (form : Parameter) × (last ≡ In (due.Value kind form))
value_due before opening word assign last is_opening h =
    let a = step_of (run NeedVar before) (opening ∷ word ∷ assign ∷ []) last (sym (run-append before (opening ∷ word ∷ assign ∷ []) NeedVar) ∙ h) in
    let b = step_of (next a.0 opening) (word ∷ assign ∷ []) last a.2 in
    let (kind, form, is) = opens a.0 b.0 (ap (next a.0) (sym (opening_is opening is_opening)) ∙ b.1) in
    (kind, form, last_two kind form word assign last (ap (λ s. run s (word ∷ assign ∷ [])) (sym is) ∙ b.2))

-- ---- where a fault shows

-- these tokens of the text lead to this state here
pub record Came (text : List ℕ) (tokens : List (List ℕ)) (s : State) (here : List ℕ) : Type 0 where
  pub read : AreTokens tokens text here
  pub leads : run NeedVar tokens ≡ Some s
  pub follow : (t : List ℕ) × CanFollow tokens t

pub came_first : (text : List ℕ) → Came text [] NeedVar text
came_first text = record { read = refl; leads = refl; follow = some_follows [] (codes "VAR" ∷ []) [] (codes "VAR", [], refl, refl, refl) }

pub came_head : (text here : List ℕ) (head : List (List ℕ)) (ds : List Decl) → AreTokens head text here → IsHead head ds → Came text head NeedName here
came_head text here head ds read h =
    record {
      read = read;
      leads = ap (run NeedVar) (sym (append-nil head)) ∙ head_runs head [] ds h;
      follow = some_follows head [] ds (rw (append-nil head) h);
    }

pub token_due : (text here : List ℕ) (ts : List (List ℕ)) (s : State) → Came text ts s here → TokenDue text ts here
token_due text here ts s c = (c.follow.0, c.follow.1, c.read)

-- no token is here
pub no_token_breaks : (text here : List ℕ) (ts : List (List ℕ)) (s : State) (f : Fault) → Came text ts s here → token_at here ≡ Err f → Breaks f.rule text f.left
no_token_breaks text here ts s f c none =
    let due_here : TokenDue text ts here = token_due text here ts s c in
    let (stop, gap, why) = no_token-found here f none in
    elim why [
      | inl (is, bad, left) ↦ subst (λ r. Breaks r text f.left) (sym is) (ts, here, stop, due_here, gap, (bad, left))
      | inr (inl (is, stray, left)) ↦ subst (λ r. Breaks r text f.left) (sym is) (inl (ts, here, stop, due_here, gap, (stray, left)))
      | inr (inr (is, end, left)) ↦ subst (λ r. Breaks r text f.left) (sym is) (ts, here, stop, due_here, gap, (end, left))
    ]

no_name_due : (ts : List (List ℕ)) (t : List ℕ) (s : State) → run NeedVar ts ≡ Some s → broken_by s t ≡ rule.BadToken → IsForName ts t → ⊥
no_name_due ts t s leads breaks (ds, head, form) =
    let runs : run NeedVar ts ≡ Some NeedName = ap (run NeedVar) (sym (append-nil ts)) ∙ head_runs ts [] ds head in
    let same : s ≡ NeedName = cc in
    let broken : broken_by NeedName t ≡ rule.BadToken = subst (λ s. broken_by s t ≡ rule.BadToken) same breaks in
    grind arith

no_value_due : (ts : List (List ℕ)) (t : List ℕ) (s : State) → run NeedVar ts ≡ Some s → broken_by s t ≡ rule.BadToken → IsForValue ts t → ⊥
no_value_due ts t s leads breaks (before, opening, word, assign, parts, is_opening, is_word) =
    let (kind, form, is) = value_due before opening word assign s is_opening (ap (run NeedVar) (sym parts) ∙ leads) in
    let broken : broken_by (In (due.Value kind form)) t ≡ rule.BadToken = subst (λ s. broken_by s t ≡ rule.BadToken) is breaks in
    grind arith

-- a token is here that can't follow
pub token_breaks : (text here after t : List ℕ) (ts : List (List ℕ)) (s : State) → Came text ts s here → AreTokens (t ∷ []) here after → next s t ≡ None
    → broken_by s t ≡ rule.BadToken → Breaks rule.BadToken text (length after)
token_breaks text here after t ts s c read none breaks =
    inr (ts, t, here, after, token_due text here ts s c, read, none_follows ts t s c.leads none, refl, (no_name_due ts t s c.leads breaks, no_value_due ts t s c.leads breaks))

value_breaks : (text here after t : List ℕ) (ts : List (List ℕ)) (kind : BlockKind) (form : Parameter) → Came text ts (In (due.Value kind form)) here
    → Behind (In (due.Value kind form)) ts → AreTokens (t ∷ []) here after → next (In (due.Value kind form)) t ≡ None → Breaks (misfit (due.Value kind form) t) text (length after)
value_breaks text here after t ts kind form c (before, opening, word, assign, parts, is) read none =
    let s : State = In (due.Value kind form) in
    elim (begins_word t) as (λ b. begins_word t ≡ b → Breaks (if b then rule.BadPreset else rule.BadToken) text (length after)) [
      | false ↦ λ mark. token_breaks text here after t ts s c read none (rw mark refl)
      | true ↦ λ is_word.
          (ts, t, here, after, token_due text here ts s c, read, none_follows ts t s c.leads none, refl, (before, opening, word, assign, parts, is, is_word))
    ] refl

due_breaks : (text here after t : List ℕ) (ts : List (List ℕ)) (d : Due) → Came text ts (In d) here → Behind (In d) ts → AreTokens (t ∷ []) here after → next (In d) t ≡ None
    → Breaks (misfit d t) text (length after)
due_breaks text here after t ts (due.Value kind form) c behind read none = value_breaks text here after t ts kind form c behind read none
due_breaks text here after t ts other c behind read none = token_breaks text here after t ts (In other) c read none refl

-- within a declaration
pub record Within (text : List ℕ) (tokens : List (List ℕ)) (d : Due) (here : List ℕ) : Type 0 where
  pub read : AreTokens tokens text here
  pub leads : run NeedVar tokens ≡ Some (In d)
  pub behind : Behind (In d) tokens
  pub ends : (rest : List (List ℕ)) (b : Body) → Walks d rest b → (ds : List Decl) × IsHead (tokens ++ rest) ds

came_within : (text : List ℕ) (ts : List (List ℕ)) (d : Due) (here : List ℕ) → Within text ts d here → Came text ts (In d) here
came_within text ts d here w =
    let rest = ends d in
    let head = w.ends rest.0 rest.1 rest.2 in
    record { read = w.read; leads = w.leads; follow = some_follows ts rest.0 head.0 head.1 }

pub within_first : (text here name after : List ℕ) (head : List (List ℕ)) (ds : List Decl) → AreTokens head text here → IsHead head ds → AreTokens (name ∷ []) here after
    → is_name name ≡ true → Within text (head ++ name ∷ []) due.Place after
within_first text here name after head ds read h word named =
    record {
      read = AreTokens-append head (name ∷ []) text here after read word;
      leads = head_runs head (name ∷ []) ds h ∙ ap (λ o. o >>= λ n. Some n) (name_next name named);
      behind = tt;
      ends = λ rest b w. (ds ++ record { name = name; body = b } ∷ [], rw (append_assoc head (name ∷ []) rest) (IsHead-push head rest ds name b h named (body_of rest b w)));
    }

within_more : (text here after t : List ℕ) (ts : List (List ℕ)) (d n : Due) → Within text ts d here → AreTokens (t ∷ []) here after → step d t ≡ Some (then.Goes n)
    → Within text (ts ++ t ∷ []) n after
within_more text here after t ts d n w read is =
    record {
      read = AreTokens-append ts (t ∷ []) text here after w.read read;
      leads = run-append ts (t ∷ []) NeedVar ∙ ap (λ o. o >>= λ s. run s (t ∷ [])) w.leads ∙ ap (λ o. (o >>= λ s. Some (state_of s)) >>= λ s. Some s) is;
      behind = goes_behind d n t ts w.behind is;
      ends = λ rest b walk.
          let head = w.ends (t ∷ rest) b (takes d t (t ∷ rest) rest b (Some (then.Goes n)) refl is walk) in
          (head.0, rw (append_assoc ts (t ∷ []) rest) head.1);
    }

pub body_breaks : (n : ℕ) (text here : List ℕ) (ts : List (List ℕ)) (d : Due) (f : Fault) → length here < n → Within text ts d here → body_from n d here ≡ Err f
    → Breaks f.rule text f.left
unfolding body_from
body_breaks zero text here ts d f enough w h = absurd (omega (arith, enough))
body_breaks (suc n) text here ts d f enough w h =
    let c : Came text ts (In d) here = came_within text ts d here w in
    elim (bind_err (token_at here) _ f h) [
      | inl none ↦ no_token_breaks text here ts (In d) f c none
      | inr ((t, after), found, more) ↦
          let read : AreTokens (t ∷ []) here after = token_takes here t after found in
          let first = first_token t [] here after read in
          let shorter : length after < n = omega (arith, enough, first.3, ap length first.2) in
          elim (step d t) as (λ o. step d t ≡ o → turn (λ next. body_from n next after) (at (misfit d t) after) after o ≡ Err f → Breaks f.rule text f.left) [
            | None ↦ λ is more.
                let same : at (misfit d t) after ≡ f = cc in
                subst (λ g. Breaks g.rule text g.left) same (due_breaks text here after t ts d c w.behind read (ap (λ o. o >>= λ n. Some (state_of n)) is))
            | Some (then.Ends b) ↦ λ is more. absurd cc
            | Some (then.Goes m) ↦ λ is more. body_breaks n text after (ts ++ t ∷ []) m f shorter (within_more text here after t ts d m w read is) more
          ] refl more
    ]
