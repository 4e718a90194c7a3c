-- The numbers of what is named are those of declarations.
use Rattle.std.proofs.Common.{◌≡◌, ℕ, ◌<◌, Bool, true, false, cond, List, length, take, ◌-◌, codes, nat_lt, position, Option, Some, None, refl, ap, subst}
use Rattle.std.specs.List.{position_or_len}
use Rattle.std.specs.Option.{option_or, option_map}
use Rattle.std.proofs.lemmas.Bool.{ltb-true}
use Rattle.diagram_declarations.specs.Decls.{Declared, find}
use Rattle.diagram_declarations.specs.Name.{is_name, same_letters}
use Rattle.std.specs.Prelude.{option_map}
use Rattle.std.proofs.lemmas.Option.{none-some, same_Some}
use Rattle.diagram_declarations.specs.declared.kind.BlockKind.{BlockKind}
use Rattle.diagram_declarations.specs.declared.decls.Symbol.{Symbol}
use Rattle.diagram_declarations.specs.declared.decls.Symbol.TheVariants.{Var, Instance}
use Rattle.diagram_page.specs.declared.form.Form.{Form}
use Rattle.diagram_page.specs.declared.form.Form.TheVariants.{Block}
use Rattle.diagram_declarations.specs.declared.kind.Output.{Output}
use Rattle.diagram_declarations.specs.declared.kind.Output.TheVariants as output
use Rattle.diagram_page.specs.declared.operand.Reference.{Reference}
use Rattle.diagram_page.specs.Operand.{reference, refer_to, ends_in, instance_on}

pub position_below : {A : Type 0} (p : A → Bool) (xs : List A) (j : ℕ) → position p xs ≡ Some j → j < length xs
position_below p xs j h =
    elim (nat_lt (position_or_len p xs) (length xs)) as (λ b. nat_lt (position_or_len p xs) (length xs) ≡ b
    → cond b (Some (position_or_len p xs)) None ≡ Some j → j < length xs) [
      | true ↦ λ test same. subst (λ i. i < length xs) (same_Some (position_or_len p xs) j same) (ltb-true (position_or_len p xs) (length xs) test)
      | false ↦ λ test none. absurd (none-some _ none)
    ] refl h

abbrev pub SymbolFits : Declared → Symbol → Type 0
SymbolFits decls (Var i) = i < length decls.vars
SymbolFits decls (Instance i) = i < length decls.instances

either_fits : (decls : Declared) (a b : Option ℕ) → ((i : ℕ) → a ≡ Some i → i < length decls.vars) → ((i : ℕ) → b ≡ Some i → i < length decls.instances)
    → (s : Symbol) → option_or (option_map Var a) (option_map Instance b) ≡ Some s → SymbolFits decls s
either_fits decls (Some i) b vars instances s h = subst (SymbolFits decls) (same_Some (Var i) s h) (vars i refl)
either_fits decls None (Some i) vars instances s h = subst (SymbolFits decls) (same_Some (Instance i) s h) (instances i refl)
either_fits decls None None vars instances s h = absurd (none-some _ h)

ref_symbol : Option Reference → Option Symbol
ref_symbol None = None
ref_symbol (Some x) = Some x.symbol

found_fits : (decls : Declared) (word : List ℕ) (s : Symbol) → find decls word ≡ Some s → SymbolFits decls s
found_fits decls word s found =
    either_fits decls _ _
    (λ i e. position_below (λ v. same_letters word v.name) decls.vars i e)
    (λ i e. position_below (λ v. same_letters word v.name) decls.instances i e) s found

symbol_fits : (decls : Declared) (o : Option Output) (m : Option Symbol) (x : Reference) → ((s : Symbol) → m ≡ Some s → SymbolFits decls s)
    → option_map (λ s. record { symbol = s; output = o }) m ≡ Some x → SymbolFits decls x.symbol
unfolding ref_symbol
symbol_fits decls o None x fits h = absurd (none-some _ h)
symbol_fits decls o (Some s) x fits h = fits x.symbol (ap ref_symbol h)

reference_fits : (decls : Declared) (o : Option Output) (word : List ℕ) (x : Reference) → reference decls o word ≡ Some x → SymbolFits decls x.symbol
reference_fits decls o word x h =
    elim (is_name word) as (λ t. option_map (λ s. record { symbol = s; output = o }) (cond t (find decls word) None) ≡ Some x → SymbolFits decls x.symbol) [
      | true ↦ λ found. symbol_fits decls o (find decls word) x (λ s e. found_fits decls word s e) found
      | false ↦ λ none. absurd (none-some _ none)
    ] h

chosen : {F : Type 0} (b : Bool) (p q : Option Reference) (x : Reference) → (p ≡ Some x → F) → (q ≡ Some x → F) → cond b p q ≡ Some x → F
chosen true p q x f g h = f h
chosen false p q x f g h = g h

pub refer_fits : (decls : Declared) (word : List ℕ) (x : Reference) → refer_to decls word ≡ Some x → SymbolFits decls x.symbol
unfolding refer_to
refer_fits decls word x h =
    let without : ℕ → List ℕ = λ n. take (length word - n) word in
    chosen (ends_in (codes ".Q") word) (reference decls (Some output.Q) (without 2))
    (cond (ends_in (codes ".Q1") word) (reference decls (Some output.Q1) (without 3)) (reference decls None word)) x
    (reference_fits decls (Some output.Q) (without 2) x)
    (chosen (ends_in (codes ".Q1") word) (reference decls (Some output.Q1) (without 3)) (reference decls None word) x
    (reference_fits decls (Some output.Q1) (without 3) x)
    (reference_fits decls None word x)) h

instance_symbol : (decls : Declared) (kind : BlockKind) (s : Symbol) (n : ℕ) → SymbolFits decls s → instance_on (Some (Block kind)) (Some s) ≡ Some n
    → n < length decls.instances
instance_symbol decls kind (Var i) n fits h = absurd (none-some _ h)
instance_symbol decls kind (Instance i) n fits h = subst (λ m. m < length decls.instances) (same_Some i n h) fits

pub instance_fits : (decls : Declared) (form : Option Form) (name : Option Reference) (n : ℕ) → ((x : Reference) → name ≡ Some x → SymbolFits decls x.symbol)
    → instance_on form (option_map (λ (x : Reference). x.symbol) name) ≡ Some n → n < length decls.instances
instance_fits decls (Some (Block kind)) (Some x) n fits h = instance_symbol decls kind x.symbol n (fits x refl) h
instance_fits decls _ _ n fits h = absurd (none-some _ h)
