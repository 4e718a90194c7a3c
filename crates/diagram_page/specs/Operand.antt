-- What the text over a cell names (the profile; output variables of instances as in IEC 61131-3).
use Rattle.std.specs.Prelude.{◌≡◌, ◌++◌, replicate, ℕ, ◌-◌, ◌==◌, nat_le, Bool, true, false, ◌&&◌, List, [], ◌∷◌, length, take, drop, codes, slice_get, Option, Some, None, option_map, if◌then◌else◌}
use Rattle.std.specs.List.{prefix_len, suffix_len}
use Rattle.diagram_declarations.specs.Name.{is_name, same_letters}
use Rattle.diagram_declarations.specs.Text.{begins_with}
use Rattle.diagram_declarations.specs.Kind.{traits_of}
use Rattle.diagram_declarations.specs.Decls.{Declared, find, is_input}
use Rattle.diagram_declarations.specs.declared.decls.Symbol.{Symbol}
use Rattle.diagram_declarations.specs.declared.decls.Symbol.TheVariants as symbol
use Rattle.diagram_declarations.specs.declared.decls.Var.{Var}
use Rattle.diagram_program.specs.Bytes.{space}
use Rattle.diagram_page.specs.declared.form.Form.{Form}
use Rattle.diagram_page.specs.declared.form.Form.TheVariants.{Contact, Coil, Block}
use Rattle.diagram_declarations.specs.declared.kind.Output.{Output}
use Rattle.diagram_declarations.specs.declared.kind.Output.TheVariants as output
use Rattle.diagram_page.specs.declared.operand.Reference.{Reference}

-- The characters without the spaces at both ends.
unfoldable pub word_in : List ℕ → List ℕ
word_in chars = drop (prefix_len (λ b. b == space) chars) (take (length chars - suffix_len (λ b. b == space) chars) chars)

-- The characters are spaces, the word and spaces; the word neither begins nor ends with a space. Any characters have one such
-- word, which is the one above.
pub record IsWordIn (chars word : List ℕ) : Type 0 where
  pub before : ℕ
  pub after : ℕ
  pub spelled : chars ≡ replicate before space ++ (word ++ replicate after space)
  pub first : begins_with space word ≡ false
  pub last : (front : List ℕ) → word ≡ front ++ space ∷ [] → ⊥

-- the word ends so, in any letter case
abbrev pub ends_in : List ℕ → List ℕ → Bool
ends_in suffix word = nat_le (length suffix) (length word) && same_letters (drop (length word - length suffix) word) suffix

-- a declared name, with this output
abbrev pub reference : Declared → Option Output → List ℕ → Option Reference
reference decls output name = option_map (λ s. record { symbol = s; output = output }) (if is_name name then find decls name else None)

-- A declared name, or one with `.Q` or `.Q1`.
unfoldable pub refer_to : Declared → List ℕ → Option Reference
refer_to decls word =
    if ends_in (codes ".Q") word then reference decls (Some output.Q) (take (length word - 2) word)
    else (if ends_in (codes ".Q1") word then reference decls (Some output.Q1) (take (length word - 3) word)
    else reference decls None word)

-- The names that a symbol may have: a contact that of a variable, or an output of an instance that has it; a coil that of a variable
-- that is no input; a block that of an instance of its kind.
abbrev pub MayHave : Declared → Option Form → Symbol → Option Output → Type 0
MayHave decls (Some (Contact mode)) (symbol.Var i) None = Unit {0}
MayHave decls (Some (Contact mode)) (symbol.Instance i) (Some o) = option_map (λ x. (traits_of x.kind).output) (slice_get decls.instances i) ≡ Some o
MayHave decls (Some (Coil mode)) (symbol.Var i) None = ¬ (option_map is_input (slice_get decls.vars i) ≡ Some true)
MayHave decls (Some (Block kind)) (symbol.Instance i) None = option_map (λ x. x.kind) (slice_get decls.instances i) ≡ Some kind
MayHave decls form symbol output = ⊥

-- the instance that a block with this name over it is
abbrev pub instance_on : Option Form → Option Symbol → Option ℕ
instance_on (Some (Block k)) (Some (symbol.Instance i)) = Some i
instance_on _ _ = None
