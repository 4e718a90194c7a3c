-- What the words of a comparison name in each program.
use Rattle.std.proofs.Common.{◌≡◌, ◌∙◌, ap, refl, sym, ℕ, List, [], ◌∷◌, length, map, suc, inr, Option, None, Some}
use Rattle.diagram_declarations.specs.Decls.{Declared}
use Rattle.diagram_program.specs.Program.{Drawing}
use Rattle.diagram_reader.specs.Titled.{HasProgram}
use Rattle.search_differences.specs.declared.side.Side.{Side}
use Rattle.search_differences.specs.declared.side.Side.TheVariants.{Old, New}
use Rattle.cli_inputs.specs.Setting.{Given}
use Rattle.cli_inputs.specs.Variables.{AreVariables, variable_of}
use Rattle.cli_inputs.specs.declared.fault.ToolFault.{ToolFault}
use Rattle.cli_diff.specs.Faults.{HasOwnFaultOf, HasWordFaultOf}

map_length : {A B : Type 0} (f : A → B) (xs : List A) → length (map f xs) ≡ length xs
map_length f [] = refl
map_length f (x ∷ xs) = ap suc (map_length f xs)

-- There are as many variables as words.
pub as_many : (decls : Declared) (words : List (List ℕ)) (vars : List ℕ) → AreVariables decls words vars → length vars ≡ length words
as_many decls words vars h =
    sym (map_length {B = Option ℕ} (λ v. Some v) vars) ∙ ap (λ (xs : List (Option ℕ)). length xs) (sym h) ∙ map_length (variable_of decls) words

-- A fault of the words is one of the program that its text describes.
pub own_fault : (g h : Given) (p q : Drawing) (words : List (List ℕ)) (side : Option Side) (f : ToolFault) → HasProgram g.aliases g.program p
    → HasProgram h.aliases h.program q → HasWordFaultOf side p q words f → HasOwnFaultOf side g h words f
own_fault g h p q words None f a b w = w
own_fault g h p q words (Some Old) f a b w = inr (p, a, w)
own_fault g h p q words (Some New) f a b w = inr (q, b, w)
