-- The declarations of a text that are read, those that are still to come, and how a reading ends: with END_VAR, or at a fault, whose rule is broken there.
use Rattle.std.proofs.Common.{◌≡◌, ℕ, ◌⊎◌, inl, inr, true, List, [], ◌∷◌, ◌++◌, codes, Ok, refl, sym, ap, subst, ◌∙◌, append_assoc, ◌-◌, ◌≤◌, false, if◌then◌else◌, length, drop, Err, None, arith}
use Rattle.std.proofs.lemmas.Bool.{true≢false}
use Rattle.std.proofs.lemmas.List.Elements.{filter_map-append}
use Rattle.std.proofs.lemmas.List.Prefix.{end_rest}
use Rattle.diagram_declarations.specs.declared.decls.Body.{Body}
use Rattle.diagram_declarations.specs.declared.fault.Fault.{Fault}
use Rattle.diagram_declarations.specs.declared.fault.Stopped.{Stopped}
use Rattle.diagram_declarations.specs.declared.fault.Stopped.TheVariants as fault
use Rattle.diagram_declarations.specs.declared.fault.VarRule.{VarRule}
use Rattle.diagram_declarations.specs.declared.fault.VarRule.TheVariants as rule
use Rattle.diagram_declarations.specs.declared.declaration.Due.TheVariants as stage
use Rattle.diagram_declarations.specs.Name.{same_letters, is_name, has_name_form}
use Rattle.diagram_declarations.specs.Decls.{Declared, AreKept}
use Rattle.diagram_declarations.specs.Text.{AreTokens}
use Rattle.diagram_declarations.specs.Grammar.{Is, Decl, AreDecls, declared_var, declared_instance, declared_by, IsHead, HasDecls, HasNoDecls}
use Rattle.diagram_declarations.specs.Rules.{DeclDue, Breaks, BreaksOn, IsRefused, line_of}
use Rattle.diagram_declarations.specs.ReadText.{token_at}
use Rattle.diagram_declarations.specs.ReadDecls.{expect, with_decl, at, body_at, IfBroken}
use Rattle.diagram_declarations.specs.TakeTitles.{IsNext}
use Rattle.diagram_declarations.proofs.Tokens.{first_token, token_takes, AreTokens-append, bind_err, tokens-end, tokens-shorter}
use Rattle.diagram_declarations.proofs.BodyReads.{ok_same, expect_reads, expect_takes, body_reads, body_takes}
use Rattle.diagram_declarations.proofs.Blocks.{no_keyword, IsHead-push, NeedVar, NeedName, next, none_follows, Came, came_first, came_head, token_due, no_token_breaks, token_breaks, within_first, body_breaks}
use Rattle.diagram_declarations.proofs.Keeping.{joined, joined-nil, joined-more, unbroken}

-- behind the declarations that are read here, these complete the whole
pub record Ahead (whole : Declared) (end : List ℕ) (ds : List Decl) (here : List ℕ) : Type 0 where
  pub later : List Decl
  pub tokens : List (List ℕ)
  pub closing : List ℕ
  pub derived : AreDecls tokens later
  pub is_end : Is (codes "END_VAR") closing
  pub read : AreTokens (tokens ++ closing ∷ []) here end
  pub whole_is : whole ≡ joined (declared_by ds) later
  pub kept : AreKept whole

pub declared_by-push : (ds : List Decl) (name : List ℕ) (b : Body) → declared_by (ds ++ record { name = name; body = b } ∷ []) ≡ with_decl (declared_by ds) name b
declared_by-push ds name b =
    let d : Decl = record { name = name; body = b } in
    rw (filter_map-append declared_var ds (d ∷ []), filter_map-append declared_instance ds (d ∷ []))
    (sym (joined-more (declared_by ds) name b []) ∙ joined-nil (with_decl (declared_by ds) name b))

-- END_VAR comes next
pub record IsOver (whole : Declared) (end : List ℕ) (ds : List Decl) (here : List ℕ) (later : List Decl) : Type 0 where
  pub closing : List ℕ
  pub found : token_at here ≡ Ok (closing, end)
  pub is_end : Is (codes "END_VAR") closing
  pub none : later ≡ []
  pub all : whole ≡ declared_by ds

-- this declaration comes next, and the others behind it
pub record Comes (whole : Declared) (end : List ℕ) (ds : List Decl) (here : List ℕ) (later : List Decl) (name behind : List ℕ) (b : Body) (after : List ℕ) : Type 0 where
  pub next : IsNext here name behind b after
  pub named : is_name name ≡ true
  pub ahead : Ahead whole end (ds ++ record { name = name; body = b } ∷ []) after
  pub first : later ≡ record { name = name; body = b } ∷ ahead.later
  pub kept : AreKept (joined (with_decl (declared_by ds) name b) ahead.later)

pub peek : (whole : Declared) (end : List ℕ) (ds : List Decl) (here : List ℕ) (a : Ahead whole end ds here)
    → IsOver whole end ds here a.later ⊎ ((name behind : List ℕ) × (b : Body) × (after : List ℕ) × Comes whole end ds here a.later name behind b after)
peek whole end ds here a =
    elim a.later as (λ later. AreDecls a.tokens later → whole ≡ joined (declared_by ds) later
    → IsOver whole end ds here later ⊎ ((name behind : List ℕ) × (b : Body) × (after : List ℕ) × Comes whole end ds here later name behind b after)) [
      | [] ↦ λ none all.
          let first = first_token a.closing [] here end (subst (λ z. AreTokens (z ++ a.closing ∷ []) here end) none a.read) in
          inl (record {
            closing = a.closing;
            found = first.1 ∙ ap (λ z. Ok (a.closing, z)) first.2;
            is_end = a.is_end;
            none = refl;
            all = all ∙ joined-nil (declared_by ds);
          })
      | d ∷ later ↦ λ derived all.
          let (behind, back, parts, named, is_body, others) = derived in
          let tokens : a.tokens ++ a.closing ∷ [] ≡ d.name ∷ (behind ++ (back ++ a.closing ∷ []))
          = ap (λ z. z ++ a.closing ∷ []) parts ∙ ap (λ z. d.name ∷ z) (append_assoc behind back (a.closing ∷ [])) in
          let first = first_token d.name (behind ++ (back ++ a.closing ∷ [])) here end (subst (λ z. AreTokens z here end) tokens a.read) in
          let read = body_reads behind (back ++ a.closing ∷ []) d.body first.0 end is_body first.2 in
          let with_it : whole ≡ joined (with_decl (declared_by ds) d.name d.body) later = all ∙ sym (joined-more (declared_by ds) d.name d.body later) in
          let rest : Ahead whole end (ds ++ d ∷ []) read.0 = record {
            later = later;
            tokens = back;
            closing = a.closing;
            derived = others;
            is_end = a.is_end;
            read = read.2;
            whole_is = with_it ∙ ap (λ x. joined x later) (sym (declared_by-push ds d.name d.body));
            kept = a.kept;
          } in
          inr (
            d.name,
            first.0,
            d.body,
            read.0,
            record {
              next = (first.1, no_keyword d.name named, read.1);
              named = named;
              ahead = rest;
              first = refl;
              kept = subst AreKept with_it a.kept;
            },
          )
    ] a.derived a.whole_is

-- where one is read here, it is that which comes next
pub passes : (whole : Declared) (end : List ℕ) (ds : List Decl) (here name behind : List ℕ) (b : Body) (after : List ℕ) (a : Ahead whole end ds here)
    → IsNext here name behind b after → Comes whole end ds here a.later name behind b after
passes whole end ds here name behind b after a next =
    elim (peek whole end ds here a) [
      | inl over ↦ let found = over.found in let is_end = over.is_end in let (word, other, read) = next in grind arith
      | inr (name', behind', b', after', comes) ↦
          let same = ok_same (name', behind') (name, behind) (sym comes.next.0 ∙ next.0) in
          let moved = subst (λ p. Comes whole end ds here a.later p.0 p.1 b' after') same comes in
          subst (λ p. Comes whole end ds here a.later name behind p.0 p.1) (ok_same (b', after') (b, after) (sym moved.next.2 ∙ next.2)) moved
    ]

-- ---- from the start of a text

-- VAR and these declarations are read up to here, and each reading of the text goes on from here
pub record Reads (text : List ℕ) (ds : List Decl) (here : List ℕ) : Type 0 where
  pub head : List (List ℕ)
  pub is_head : IsHead head ds
  pub read : AreTokens head text here
  pub ahead : (whole : Declared) (end : List ℕ) → HasDecls text whole end → Ahead whole end ds here

pub begins : (text : List ℕ) (whole : Declared) (end : List ℕ) → HasDecls text whole end → (first : List ℕ)
    × (expect (codes "VAR") text ≡ Ok first) × Ahead whole end [] first
begins text whole end (tokens, ds, read, (head, closing, parts, (word, between, split, is_var, derived), is_end), whole_is, kept) =
    let all : tokens ≡ word ∷ (between ++ closing ∷ []) = parts ∙ ap (λ z. z ++ closing ∷ []) split in
    let start = expect_reads (codes "VAR") word (between ++ closing ∷ []) text end is_var (subst (λ ts. AreTokens ts text end) all read) in
    (start.0, start.1, record { later = ds; tokens = between; closing = closing; derived = derived; is_end = is_end; read = start.2; whole_is = whole_is; kept = kept })

pub starts : (text first : List ℕ) → expect (codes "VAR") text ≡ Ok first → Reads text [] first
starts text first begun =
    let opening = expect_takes (codes "VAR") text first begun in
    record {
      head = opening.0 ∷ [];
      is_head = (opening.0, [], refl, opening.1, refl);
      read = opening.2;
      ahead = λ whole end has. let start = begins text whole end has in subst (Ahead whole end []) (ok_same start.0 first (sym start.1 ∙ begun)) start.2;
    }

pub goes_on : (text : List ℕ) (ds : List Decl) (here name behind : List ℕ) (b : Body) (after : List ℕ) → Reads text ds here → IsNext here name behind b after
    → is_name name ≡ true → DeclDue text ds name b behind × Reads text (ds ++ record { name = name; body = b } ∷ []) after
goes_on text ds here name behind b after r next named =
    let word : AreTokens (name ∷ []) here behind = token_takes here name behind next.0 in
    let taken = body_takes b behind after next.2 in
    let d : Decl = record { name = name; body = b } in (
      record {
        head = r.head;
        behind = taken.behind;
        rest = after;
        is_head = r.is_head;
        named = named;
        is_body = taken.is_body;
        before = AreTokens-append r.head (name ∷ []) text here behind r.read word;
        read = taken.tokens;
      },
      record {
        head = r.head ++ (name ∷ taken.behind);
        is_head = IsHead-push r.head taken.behind ds name b r.is_head named taken.is_body;
        read = AreTokens-append r.head (name ∷ taken.behind) text here after r.read (AreTokens-append (name ∷ []) taken.behind here behind after word taken.tokens);
        ahead = λ whole end has. (passes whole end ds here name behind b after (r.ahead whole end has) next).ahead;
      },
    )

-- where the rest begins
pub place_after : (text : List ℕ) (whole : Declared) (rest : List ℕ) → HasDecls text whole rest
    → (length rest ≤ length text) × (rest ≡ drop (length text - length rest) text)
place_after text whole rest has =
    let end = tokens-end has.0 text rest has.2 in
    (tokens-shorter has.0 text rest has.2, sym (end_rest text rest end.0 end.1))

-- ---- END_VAR is here

pub ends : (text : List ℕ) (ds : List Decl) (here w after : List ℕ) → Reads text ds here → token_at here ≡ Ok (w, after) → Is (codes "END_VAR") w
    → AreKept (declared_by ds) → HasDecls text (declared_by ds) after
ends text ds here w after r word is_end kept =
    (r.head ++ w ∷ [], ds, AreTokens-append r.head (w ∷ []) text here after r.read (token_takes here w after word), (r.head, w, refl, r.is_head, is_end), refl, kept)

pub only : (text : List ℕ) (ds : List Decl) (here w after : List ℕ) → Reads text ds here → token_at here ≡ Ok (w, after) → Is (codes "END_VAR") w
    → (whole : Declared) (end : List ℕ) → HasDecls text whole end → (whole ≡ declared_by ds) × (end ≡ after)
only text ds here w after r word is_end whole end has =
    elim (peek whole end ds here (r.ahead whole end has)) [
      | inl over ↦ let found = over.found in (over.all, grind arith)
      | inr (name, behind, b, rest, comes) ↦ let found = comes.next.0 in let other = comes.next.1 in grind arith
    ]

-- ---- a fault is here

abbrev pub IsFault : Fault → List ℕ → Type 0
IsFault f text = Breaks f.rule text f.left × HasNoDecls text

came : (text : List ℕ) (ds : List Decl) (here : List ℕ) (r : Reads text ds here) → Came text r.head NeedName here
came text ds here r = came_head text here r.head ds r.read r.is_head

-- no VAR
pub no_opening : (text : List ℕ) (f : Fault) → expect (codes "VAR") text ≡ Err f → IsFault f text
unfolding expect
no_opening text f h =
    let breaks : Breaks f.rule text f.left = elim (bind_err (token_at text) _ f h) [
      | inl none ↦ no_token_breaks text text [] NeedVar f (came_first text) none
      | inr ((w, after), found, more) ↦
          let wrong : next NeedVar w ≡ None = grind arith in
          let same : at rule.BadToken after ≡ f = grind arith in
          subst (λ g. Breaks g.rule text g.left) same (token_breaks text text after w [] NeedVar (came_first text) (token_takes text w after found) wrong refl)
    ] in
    (breaks, λ whole end has. let start = begins text whole end has in cc)

pub no_word : (text : List ℕ) (ds : List Decl) (here : List ℕ) (f : Fault) → Reads text ds here → token_at here ≡ Err f → IsFault f text
no_word text ds here f r none = (
  no_token_breaks text here r.head NeedName f (came text ds here r) none,
  λ whole end has. elim (peek whole end ds here (r.ahead whole end has)) [ inl over ↦ let e = over.found in cc | inr (name, behind, b, rest, comes) ↦ let e = comes.next.0 in cc ],
)

-- a word that is not END_VAR is here
pub record HasWord (here w after : List ℕ) : Type 0 where
  pub word : token_at here ≡ Ok (w, after)
  pub other : same_letters w (codes "END_VAR") ≡ false

-- it has to be a name, with a body behind it
comes_here : (text : List ℕ) (ds : List Decl) (here w after : List ℕ) (whole : Declared) (end : List ℕ) → Reads text ds here → HasWord here w after → HasDecls text whole end
    → (is_name w ≡ true) × (b : Body) × (rest : List ℕ) × (body_at after ≡ Ok (b, rest))
comes_here text ds here w after whole end r h has =
    elim (peek whole end ds here (r.ahead whole end has)) [
      | inl over ↦ let found = over.found in let is_end = over.is_end in grind arith
      | inr (name, behind, b, rest, comes) ↦
          let same = ok_same (name, behind) (w, after) (sym comes.next.0 ∙ h.word) in
          (ap (λ p. is_name p.0) (sym same) ∙ comes.named, b, rest, ap (λ p. body_at p.1) (sym same) ∙ comes.next.2)
    ]

pub no_name : (text : List ℕ) (ds : List Decl) (here w after : List ℕ) (f : Fault) → Reads text ds here → HasWord here w after
    → (is_name w ≡ false) × (f.rule ≡ (if has_name_form w then rule.BadName else rule.BadToken)) × (f.left ≡ length after) → IsFault f text
no_name text ds here w after f r h (unnamed, breaks, left) =
    let it : Came text r.head NeedName here = came text ds here r in
    let read : AreTokens (w ∷ []) here after = token_takes here w after h.word in
    let other = h.other in
    let none : next NeedName w ≡ None = grind arith in
    let broken : Breaks (if has_name_form w then rule.BadName else rule.BadToken) text (length after)
    = elim (has_name_form w) as (λ t. has_name_form w ≡ t → Breaks (if t then rule.BadName else rule.BadToken) text (length after)) [
      | true ↦ λ form. inl (r.head, w, here, after, token_due text here r.head NeedName it, read, none_follows r.head w NeedName it.leads none, refl, (ds, r.is_head, form))
      | false ↦ λ wrong. token_breaks text here after w r.head NeedName it read none (rw wrong refl)
    ] refl in
    (rw (breaks, left) broken, λ whole end has. true≢false (sym (comes_here text ds here w after whole end r h has).0 ∙ unnamed))

pub no_body : (text : List ℕ) (ds : List Decl) (here w after : List ℕ) (f : Fault) → Reads text ds here → HasWord here w after → is_name w ≡ true
    → body_at after ≡ Err f → IsFault f text
unfolding body_at
no_body text ds here w after f r h named none = (
  body_breaks _ text after (r.head ++ w ∷ []) stage.Place f (omega arith)
      (within_first text here w after r.head ds r.read r.is_head (token_takes here w after h.word) named) none,
  λ whole end has. let comes = comes_here text ds here w after whole end r h has in cc,
)

-- a rule refuses a whole declaration
refused_breaks : (text : List ℕ) (ds : List Decl) (name : List ℕ) (b : Body) (after : List ℕ) (r : VarRule) → DeclDue text ds name b after
    → IsRefused r (declared_by ds) name b → Breaks r text (length after)
refused_breaks text ds name b after rule.BadName due refused = inr (ds, name, after, b, due, refused, refl)
refused_breaks text ds name b after rule.Duplicate due refused = (ds, name, after, b, due, refused, refl)
refused_breaks text ds name b after rule.DuplicateAddress due refused = (ds, name, after, b, due, refused, refl)
refused_breaks text ds name b after rule.TooMany due refused = (ds, name, after, b, due, refused, refl)
refused_breaks text ds name b after other due refused = absurd refused

pub refuses : (text : List ℕ) (ds : List Decl) (here w after : List ℕ) (b : Body) (rest : List ℕ) (f : Fault) → Reads text ds here → IsNext here w after b rest
    → is_name w ≡ true → IsRefused f.rule (declared_by ds) w b → f.left ≡ length after → IsFault f text
refuses text ds here w after b rest f r next named refused left = (
  rw left (refused_breaks text ds w b after f.rule (goes_on text ds here w after b rest r next named).0 refused),
  λ whole end has.
      let comes = passes whole end ds here w after b rest (r.ahead whole end has) next in
      unbroken (declared_by ds) w b comes.ahead.later comes.kept f.rule refused,
)

pub IfBroken-weaker : (P Q : Fault → Type 0) → ((f : Fault) → P f → Q f) → (e : Stopped) → IfBroken e P → IfBroken e Q
IfBroken-weaker P Q more fault.NoMemory h = tt
IfBroken-weaker P Q more (fault.Broken f) h = more f h

pub breaks_on : (r : VarRule) (text : List ℕ) (left : ℕ) → Breaks r text left → BreaksOn r text (line_of text left)
breaks_on rule.Memory text left (ds, name, after, b, due, never, same) = absurd never
breaks_on r text left h = (left, h, refl)
