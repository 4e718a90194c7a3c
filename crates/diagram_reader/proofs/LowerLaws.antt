-- Names that no rule refuses are those that their cells may have, and blocks with a second input have their lower cells.
use Rattle.std.proofs.Common.{if◌then◌else◌, ◌≡◌, ◌⊎◌, inl, inr, ℕ, ◌+◌, ◌<◌, ◌==◌, Bool, true, false, slice_get, option_map, Option, Some, None, refl, sym, ap, ◌∙◌, arith}
use Rattle.std.proofs.lemmas.Bool.{cases_lt, eqb-true, eqb-false}
use Rattle.std.proofs.lemmas.Option.{none-some, same_Some}
use Rattle.diagram_declarations.specs.Decls.{Declared}
use Rattle.diagram_declarations.specs.Kind.{traits_of}
use Rattle.diagram_declarations.specs.declared.decls.Instance.{Instance}
use Rattle.diagram_declarations.specs.declared.decls.Symbol.{Symbol}
use Rattle.diagram_declarations.specs.declared.decls.Symbol.TheVariants as symbol
use Rattle.diagram_declarations.specs.declared.kind.BlockKind.{BlockKind}
use Rattle.diagram_declarations.specs.declared.kind.BlockKind.TheVariants as kind
use Rattle.diagram_declarations.specs.declared.kind.Output.{Output}
use Rattle.diagram_declarations.specs.declared.kind.Pin.{Pin}
use Rattle.diagram_page.specs.declared.form.Form.{Form}
use Rattle.diagram_page.specs.declared.form.Form.TheVariants.{Block, Lower}
use Rattle.diagram_program.specs.declared.geometry.TheConstants.{ROWS}
use Rattle.diagram_page.specs.declared.operand.Reference.{Reference}
use Rattle.diagram_page.specs.Operand.{MayHave, instance_on}
use Rattle.diagram_page.specs.Page.{Page, form_at}
use Rattle.diagram_page.specs.Suiting.{DrawsBlock}
use Rattle.diagram_reader.specs.Rules.{IsBlockWith, IsLowerWith, IsTorn, wants_name}
use Rattle.diagram_reader.proofs.BlockLaws.{IsBlockOf}
use Rattle.diagram_program.specs.Program.{is_pin, has_second}

off_on : false ≡ true → ⊥
off_on h = cc

-- ---- kinds are the same or aren't

code : BlockKind → ℕ
code kind.Ton = 0
code kind.Tof = 1
code kind.Tp = 2
code kind.Ctu = 3
code kind.Ctd = 4
code kind.Sr = 5
code kind.Rs = 6

kind_of : ℕ → BlockKind
kind_of n =
    if n == 0 then kind.Ton else (if n == 1 then kind.Tof else (if n == 2 then kind.Tp
    else (if n == 3 then kind.Ctu else (if n == 4 then kind.Ctd else (if n == 5 then kind.Sr else kind.Rs)))))

back : (k : BlockKind) → kind_of (code k) ≡ k
unfolding kind_of code
back kind.Ton = refl
back _ = refl

kind_stable : (a b : BlockKind) → ¬ (¬ (Some a ≡ Some b)) → Some a ≡ Some b
kind_stable a b twice =
    elim (code a == code b) as (λ t. (code a == code b) ≡ t → Some a ≡ Some b) [
      | true ↦ λ e. ap Some (sym (back a) ∙ ap kind_of (eqb-true (code a) (code b) e) ∙ back b)
      | false ↦ λ e. absurd (twice (λ same. eqb-false (code a) (code b) e (ap code (same_Some a b same))))
    ] refl

kind_known : (k : BlockKind) (o : Option Instance) → ¬ (¬ (option_map (λ (x : Instance). x.kind) o ≡ Some k)) → option_map (λ (x : Instance). x.kind) o ≡ Some k
kind_known k None twice = absurd (twice (λ none. none-some _ none))
kind_known k (Some i) twice = kind_stable i.kind k twice

-- ---- a name that no rule refuses

-- The cell wants a name, and this isn't one that it can't have.
abbrev pub FitsName : Declared → Option Form → Option Reference → Type 0
FitsName decls form name = (x : Reference) → name ≡ Some x → wants_name form ≡ true → ¬ (¬ (MayHave decls form x.symbol x.output))

symbol_may : (decls : Declared) (k : BlockKind) (s : Symbol) (o : Option Output) (inst : ℕ) → instance_on (Some (Block k)) (Some s) ≡ Some inst
    → ¬ (¬ (MayHave decls (Some (Block k)) s o)) → MayHave decls (Some (Block k)) s o
symbol_may decls k (symbol.Var i) o inst h twice = absurd (none-some _ h)
symbol_may decls k (symbol.Instance i) (Some o) inst h twice = absurd (twice (λ none. none))
symbol_may decls k (symbol.Instance i) None inst h twice = kind_known k (slice_get decls.instances i) twice

pub block_may : (decls : Declared) (form : Option Form) (name : Option Reference) (inst : ℕ) → instance_on form (option_map (λ (x : Reference). x.symbol) name) ≡ Some inst
    → FitsName decls form name → IsBlockOf decls form name inst
block_may decls (Some (Block k)) (Some x) inst h fits = (h, x, refl, symbol_may decls k x.symbol x.output inst h (fits x refl refl))
block_may decls _ _ inst h fits = absurd (none-some _ h)

-- ---- its lower cell

pub block_of : (decls : Declared) (form : Option Form) (name : Option Reference) (inst : ℕ) → DrawsBlock decls form name inst
    → (k : BlockKind) × (form ≡ Some (Block k)) × (option_map (λ (x : Instance). x.kind) (slice_get decls.instances inst) ≡ Some k)
block_of decls (Some (Block k)) name inst h = (k, refl, h.2)
block_of decls _ name inst h = absurd (none-some _ h.0)

pin_there : (o : Option Pin) → is_pin o ≡ true → (p : Pin) × (o ≡ Some p)
pin_there None h = absurd (off_on h)
pin_there (Some p) h = (p, refl)

pub second_input : (k : BlockKind) (o : Option Instance) → option_map (λ (x : Instance). x.kind) o ≡ Some k → has_second o ≡ true
    → (p : Pin) × ((traits_of k).second_input ≡ Some p)
second_input k None is second = absurd (off_on second)
second_input k (Some i) is second = pin_there (traits_of k).second_input (ap (λ x. is_pin (traits_of x).second_input) (sym (same_Some i.kind k is)) ∙ second)

lower_or_none : (p : Pin) (below : Option Form) → ((q : Pin) × (linked : Bool) × (below ≡ Some (Lower q linked))) ⊎ ¬ (IsLowerWith p below)
lower_or_none p None = inr (λ h. none-some _ h.1)
lower_or_none p (Some (Lower q linked)) = inl (q, linked, refl)
lower_or_none p _ = inr (λ h. absurd cc)

pub lower_found : (page : Page) (k r c : ℕ) (p : Pin) → IsBlockWith p (form_at page k r c) → ¬ (IsTorn page k r c)
    → (q : Pin) × (linked : Bool) × (r + 1 < ROWS) × (form_at page k (r + 1) c ≡ Some (Lower q linked))
lower_found page k r c p block whole =
    elim (cases_lt (r + 1) ROWS) [
      | inl below ↦ elim (lower_or_none p (form_at page k (r + 1) c)) [
        | inl (q, linked, is) ↦ (q, linked, below, is)
        | inr none ↦ absurd (whole (p, inl (block, λ _. none)))
      ]
      | inr last ↦ absurd (whole (p, inl (block, λ below lower. omega (arith, last, below))))
    ]
