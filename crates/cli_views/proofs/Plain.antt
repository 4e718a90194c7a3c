-- What a text draws has no aliases.
use Rattle.std.proofs.Common.{◌≡◌, ◌∙◌, ℕ, List, [], ◌∷◌, Bool, true, false, Option, Some, None, map, refl, sym, ap, ap₂, subst, rules}
use Rattle.std.specs.List.{filter_map}
use Rattle.diagram_declarations.specs.declared.decls.Var.{Var}
use Rattle.diagram_declarations.specs.declared.decls.Instance.{Instance}
use Rattle.diagram_declarations.specs.Decls.{Declared}
use Rattle.diagram_declarations.specs.Grammar.{Decl, HasDecls, declared_instance, declared_var}
use Rattle.diagram_declarations.specs.Titles.{plain, plain_instance, plain_var}
use Rattle.diagram_program.specs.Program.{Drawing}
use Rattle.diagram_reader.specs.Reading.{IsProgram}
use Rattle.diagram_reader.specs.Titled.{HasProgram, without_aliases}

-- Where a function leaves each element that is found as it is, it leaves all of them so.
all_stay : {A B : Type 0} (f : A → Option B) (p : B → B) → ((x : A) (y : B) → f x ≡ Some y → p y ≡ y) → (xs : List A)
    → map p (filter_map f xs) ≡ filter_map f xs
all_stay f p stays [] = refl
all_stay f p stays (x ∷ xs) =
    elim (f x) as (λ found. f x ≡ found → map p (filter_map f (x ∷ xs)) ≡ filter_map f (x ∷ xs)) [
      | None ↦ λ e. rw e (all_stay f p stays xs)
      | Some y ↦ λ e. rw e (ap₂ (λ z zs. z ∷ zs) (stays x y e) (all_stay f p stays xs))
    ] refl

var_stays : (d : Decl) (v : Var) → declared_var d ≡ Some v → plain_var v ≡ v
var_stays d v is = grind rules

instance_stays : (d : Decl) (i : Instance) → declared_instance d ≡ Some i → plain_instance i ≡ i
instance_stays d i is = grind rules

declared_plain : (text : List ℕ) (d : Declared) (rest : List ℕ) → HasDecls text d rest → plain d ≡ d
declared_plain text d rest (tokens, ds, read, block, is, kept) =
    let vars = all_stay declared_var plain_var var_stays ds in
    let instances = all_stay declared_instance plain_instance instance_stays ds in
    ap plain is ∙ ap₂ (λ vs is. record { vars = vs; instances = is }) vars instances ∙ sym is

-- The program without its aliases is that of the text, whether or not they are taken.
pub drawn_plain : (titled : Bool) (text : List ℕ) (p : Drawing) → HasProgram titled text p → IsProgram text (without_aliases p)
drawn_plain true text p titled = titled.0
drawn_plain false text p program =
    let declared = program.drawn.declared in
    let same : plain p.decls ≡ p.decls = ap plain declared ∙ declared_plain text program.page.decls program.rest program.read ∙ sym declared in
    subst (λ (d : Declared). IsProgram text (record p { decls = d })) (sym same) program
