-- A block is drawn by a name that it may have.
use Rattle.std.proofs.Common.{◌≡◌, ◌↔◌, ℕ, Bool, IsTrue, true, false, slice_get, option_map, Option, Some, None, refl, sym, subst, ◌∙◌}
use Rattle.std.proofs.lemmas.Option.{none-some, same_Some}
use Rattle.diagram_declarations.specs.Decls.{Declared}
use Rattle.diagram_declarations.specs.declared.kind.BlockKind.{BlockKind}
use Rattle.diagram_declarations.specs.declared.kind.Output.{Output}
use Rattle.diagram_declarations.specs.declared.decls.Instance.{Instance}
use Rattle.diagram_declarations.specs.declared.decls.Symbol.{Symbol}
use Rattle.diagram_declarations.specs.declared.decls.Symbol.TheVariants as symbol
use Rattle.diagram_page.specs.declared.form.Form.{Form}
use Rattle.diagram_page.specs.declared.form.Form.TheVariants.{Block}
use Rattle.diagram_page.specs.declared.operand.Reference.{Reference}
use Rattle.diagram_page.specs.Operand.{MayHave, instance_on}
use Rattle.diagram_page.specs.Suiting.{DrawsBlock}

on_off : true ≡ false → ⊥
on_off h = cc

-- the block is the instance, by a name that it may have
abbrev pub IsBlockOf : Declared → Option Form → Option Reference → ℕ → Type 0
IsBlockOf decls form name inst =
    (instance_on form (option_map (λ (x : Reference). x.symbol) name) ≡ Some inst) × (x : Reference) × (name ≡ Some x) × MayHave decls form x.symbol x.output

may : (decls : Declared) (k : BlockKind) (s : Symbol) (o : Option Output) (inst : ℕ) → instance_on (Some (Block k)) (Some s) ≡ Some inst → o ≡ None
    → option_map (λ (x : Instance). x.kind) (slice_get decls.instances inst) ≡ Some k → MayHave decls (Some (Block k)) s o
may decls k (symbol.Var i) o inst h bare kind = absurd (none-some _ h)
may decls k (symbol.Instance i) (Some o) inst h bare kind = absurd (none-some _ (sym bare))
may decls k (symbol.Instance i) None inst h bare kind =
    subst (λ n. option_map (λ (x : Instance). x.kind) (slice_get decls.instances n) ≡ Some k) (same_Some inst i (sym h)) kind

draws : (decls : Declared) (k : BlockKind) (s : Symbol) (o : Option Output) (inst : ℕ) → instance_on (Some (Block k)) (Some s) ≡ Some inst
    → MayHave decls (Some (Block k)) s o → (o ≡ None) × (option_map (λ (x : Instance). x.kind) (slice_get decls.instances inst) ≡ Some k)
draws decls k (symbol.Var i) o inst h fits = absurd (none-some _ h)
draws decls k (symbol.Instance i) (Some o) inst h fits = absurd fits
draws decls k (symbol.Instance i) None inst h fits =
    (refl, subst (λ n. option_map (λ (x : Instance). x.kind) (slice_get decls.instances n) ≡ Some k) (same_Some i inst h) fits)

pub drawn_so : (decls : Declared) (form : Option Form) (name : Option Reference) (inst : ℕ) → DrawsBlock decls form name inst → IsBlockOf decls form name inst
drawn_so decls (Some (Block k)) (Some x) inst h = (h.0, x, refl, may decls k x.symbol x.output inst h.0 h.1 h.2)
drawn_so decls _ _ inst h = absurd (none-some _ h.0)

named_so : (decls : Declared) (k : BlockKind) (name : Option Reference) (inst : ℕ) (x : Reference) → instance_on (Some (Block k)) (option_map (λ (y : Reference). y.symbol) name) ≡ Some inst
    → name ≡ Some x → MayHave decls (Some (Block k)) x.symbol x.output → DrawsBlock decls (Some (Block k)) name inst
named_so decls k None inst x h is fits = absurd (none-some _ is)
named_so decls k (Some y) inst x h is fits =
    let here : MayHave decls (Some (Block k)) y.symbol y.output = subst (λ z. MayHave decls (Some (Block k)) z.symbol z.output) (same_Some x y (sym is)) fits in
    let so = draws decls k y.symbol y.output inst h here in
    (h, so.0, so.1)

pub drawn_back : (decls : Declared) (form : Option Form) (name : Option Reference) (inst : ℕ) → IsBlockOf decls form name inst → DrawsBlock decls form name inst
drawn_back decls (Some (Block k)) name inst h = named_so decls k name inst h.1 h.0 h.2 h.3
drawn_back decls _ name inst h = absurd (none-some _ h.0)

pub drawn_is : (decls : Declared) (form : Option Form) (name : Option Reference) (inst : ℕ) → DrawsBlock decls form name inst ↔ IsBlockOf decls form name inst
drawn_is decls form name inst = (drawn_so decls form name inst, drawn_back decls form name inst)

pub drawn_told : (decls : Declared) (form f : Option Form) (name n : Option Reference) → f ≡ form → n ≡ name → (found : Option ℕ)
    → ((inst : ℕ) → (found ≡ Some inst) ↔ DrawsBlock decls f n inst) → (inst : ℕ) → (found ≡ Some inst) ↔ IsBlockOf decls form name inst
drawn_told decls form f name n here over found told inst =
    let law = drawn_is decls form name inst in
    let same : (found ≡ Some inst) ↔ DrawsBlock decls form name inst = rw (sym here, sym over) (told inst) in
    (λ h. law.0 (same.0 h), λ d. same.1 (law.1 d))

-- ---- whether an instance was drawn before, where this is the one at a place

pub before_told : (Is Before : ℕ → Type 0) (drawn : Option ℕ) (inst : ℕ) (found : Bool) → ((n : ℕ) → (drawn ≡ Some n) ↔ Is n) → drawn ≡ Some inst
    → IsTrue found ↔ Before inst → IsTrue found ↔ ((n : ℕ) × Is n × Before n)
before_told Is Before drawn inst found all is told = (
  λ h. (inst, (all inst).0 is, told.0 h),
  λ d. told.1 (subst Before (same_Some d.0 inst (sym ((all d.0).1 d.1) ∙ is)) d.2),
)

pub none_told : (Is Before : ℕ → Type 0) (drawn : Option ℕ) → ((n : ℕ) → (drawn ≡ Some n) ↔ Is n) → drawn ≡ None → IsTrue false ↔ ((n : ℕ) × Is n × Before n)
none_told Is Before drawn all none = (λ h. absurd (on_off (sym h)), λ d. absurd (none-some _ (sym none ∙ (all d.0).1 d.1)))
