-- Where a rule V1 to V8 of a block of declarations is broken: the rule, and how many bytes of the text are left where it shows.
-- A token is due where what was read before can be continued to a block. V1 and V8 show there, and V2, V3 and V6 at a token that can't follow:
-- it is V3 of a word of a name's form where a name is due, V6 of a word where a value is due, and otherwise V2.
-- V9 (out of memory) is no rule of the text.
use Rattle.std.specs.Prelude.{◌≡◌, ℕ, ◌+◌, ◌-◌, ◌<◌, ◌⊎◌, ◌==◌, true, List, [], ◌∷◌, ◌++◌, length, take, count_by, codes, Some}
use Rattle.std.specs.List.{list_any}
use Rattle.diagram_declarations.specs.declared.limits.TheConstants.{MOST_VARS, MOST_INSTANCES}
use Rattle.diagram_declarations.specs.declared.fault.VarRule.{VarRule}
use Rattle.diagram_declarations.specs.declared.fault.VarRule.TheVariants as rule
use Rattle.diagram_declarations.specs.declared.decls.Body.{Body}
use Rattle.diagram_declarations.specs.declared.decls.Body.TheVariants as body
use Rattle.diagram_declarations.specs.Name.{same_letters, has_name_form, is_name}
use Rattle.diagram_declarations.specs.Kind.{traits_of}
use Rattle.diagram_declarations.specs.Decls.{Declared, names_of, addresses_of, same_address}
use Rattle.diagram_declarations.specs.Text.{begins_word, Gap, AreTokens, IsUnfinished, IsBadByte, IsStray}
use Rattle.diagram_declarations.specs.Grammar.{Is, Decl, IsBody, declared_by, IsHead, CanFollow}

-- The line, counted from 1, of what is so many bytes before the end; 10 is LF.
abbrev pub line_of : List ℕ → ℕ → ℕ
line_of text left = 1 + count_by (λ b. b == 10) (take (length text - left) text)

-- These tokens lead from the start of the text to here, and some token can follow them.
abbrev pub TokenDue : List ℕ → List (List ℕ) → List ℕ → Type 0
TokenDue text tokens due = (next : List ℕ) × CanFollow tokens next × AreTokens tokens text due

-- A token is due, and after a gap there is such a thing.
abbrev pub HasInstead : (List ℕ → Type 0) → List ℕ → Type 0
HasInstead What text = (tokens : List (List ℕ)) × (due at : List ℕ) × TokenDue text tokens due × Gap due at × What at

-- A token is due, and there is one that can't follow those before it, with so many bytes after it, and it is such a one.
abbrev pub HasMisfit : (List (List ℕ) → List ℕ → Type 0) → List ℕ → ℕ → Type 0
HasMisfit Which text left =
    (tokens : List (List ℕ)) × (token due after : List ℕ) × TokenDue text tokens due × AreTokens (token ∷ []) due after
    × (CanFollow tokens token → ⊥) × (left ≡ length after) × Which tokens token

-- Where a name is due, after VAR and whole declarations, the token has a name's form.
abbrev pub IsForName : List (List ℕ) → List ℕ → Type 0
IsForName tokens token = (ds : List Decl) × IsHead tokens ds × (has_name_form token ≡ true)

-- Where a value is due, after `( PT :=` or `( PV :=`, the token is a word or begins with `%`.
abbrev pub IsForValue : List (List ℕ) → List ℕ → Type 0
IsForValue tokens token =
    (before : List (List ℕ)) × (opening parameter assign : List ℕ) × (tokens ≡ before ++ opening ∷ parameter ∷ assign ∷ [])
    × Is (codes "(") opening × (begins_word token ≡ true)

-- One more whole declaration is where a name is due.
pub record DeclDue (text : List ℕ) (ds : List Decl) (name : List ℕ) (b : Body) (after : List ℕ) : Type 0 where
  pub head : List (List ℕ)
  pub behind : List (List ℕ)
  pub rest : List ℕ
  pub is_head : IsHead head ds
  pub named : is_name name ≡ true
  pub is_body : IsBody behind b
  pub before : AreTokens (head ++ name ∷ []) text after
  pub read : AreTokens behind after rest

-- After what is declared before it, a declaration breaks the rule: a name or an address is declared again, the name of an instance is longer
-- than its kind allows, or it is the 257th variable or the 65th instance.
abbrev pub IsRefused : VarRule → Declared → List ℕ → Body → Type 0
IsRefused rule.BadName before name (body.Instance kind preset) = (traits_of kind).longest_name < length name
IsRefused rule.Duplicate before name b = list_any (same_letters name) (names_of before) ≡ true
IsRefused rule.DuplicateAddress before name (body.Var kind (Some a) initial) = list_any (same_address a) (addresses_of before.vars) ≡ true
IsRefused rule.TooMany before name (body.Var kind address initial) = length before.vars ≡ MOST_VARS
IsRefused rule.TooMany before name (body.Instance kind preset) = length before.instances ≡ MOST_INSTANCES
IsRefused other before name b = ⊥

-- Such a declaration is where a name is due; so many bytes are left after its name.
abbrev pub HasRefused : VarRule → List ℕ → ℕ → Type 0
HasRefused r text left =
    (ds : List Decl) × (name after : List ℕ) × (b : Body) × DeclDue text ds name b after × IsRefused r (declared_by ds) name b × (left ≡ length after)

-- The rule is broken, and so many bytes are left where it shows.
abbrev pub Breaks : VarRule → List ℕ → ℕ → Type 0
Breaks rule.BadByte text left = HasInstead (λ at. IsBadByte at × (left ≡ length at)) text
Breaks rule.BadToken text left =
    HasInstead (λ at. IsStray at × (left ≡ length at)) text
    ⊎ HasMisfit (λ tokens token. (IsForName tokens token → ⊥) × (IsForValue tokens token → ⊥)) text left
Breaks rule.BadName text left = HasMisfit IsForName text left ⊎ HasRefused rule.BadName text left
Breaks rule.BadPreset text left = HasMisfit IsForValue text left
Breaks rule.Unfinished text left = HasInstead (λ at. IsUnfinished at × (left ≡ 0)) text
Breaks other text left = HasRefused other text left

-- The rule is broken on the line; V9 has line 0, which is none.
abbrev pub BreaksOn : VarRule → List ℕ → ℕ → Type 0
BreaksOn rule.Memory text line = line ≡ 0
BreaksOn r text line = (left : ℕ) × Breaks r text left × (line ≡ line_of text left)
