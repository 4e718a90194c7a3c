-- Private to the proofs: the declaration of a block as an automaton. It steps from what is due, by a token, to what is due then.
use Rattle.std.specs.Prelude.{ℕ, Bool, false, List, codes, Option, Some, None, if◌then◌else◌}
use Rattle.diagram_declarations.specs.declared.fault.VarRule.{VarRule}
use Rattle.diagram_declarations.specs.declared.fault.VarRule.TheVariants as rule
use Rattle.diagram_declarations.specs.declared.decls.VarKind.TheVariants as var_kind
use Rattle.diagram_declarations.specs.declared.decls.Body.TheVariants as body
use Rattle.diagram_declarations.specs.declared.declaration.Due.{Due}
use Rattle.diagram_declarations.specs.declared.declaration.Due.TheVariants as due
use Rattle.diagram_declarations.specs.declared.declaration.Next.{Next}
use Rattle.diagram_declarations.specs.declared.declaration.Next.TheVariants as then
use Rattle.diagram_declarations.specs.Name.{same_letters}
use Rattle.diagram_declarations.specs.Kind.{traits_of, parameter_word}
use Rattle.diagram_declarations.specs.Text.{begins_word}
use Rattle.diagram_declarations.specs.Grammar.{bit_word}
use Rattle.diagram_declarations.specs.ReadWords.{address_of, value_of, block_of}
use Rattle.diagram_declarations.specs.ReadTimes.{◌>>=◌}

abbrev pub on : Bool → Next → Option Next
on test s = if test then Some s else None

abbrev pub step : Due → List ℕ → Option Next
step due.Place t = if same_letters t (codes "AT") then Some (then.Goes due.Address) else on (same_letters t (codes ":")) (then.Goes due.Type)
step due.Address t = address_of t >>= λ place. Some (then.Goes (due.Colon place.0 place.1))
step (due.Colon kind address) t = on (same_letters t (codes ":")) (then.Goes (due.Bool kind address))
step (due.Bool kind address) t = on (same_letters t (codes "BOOL")) (then.Goes (due.Initial kind (Some address)))
step due.Type t =
    if same_letters t (codes "BOOL") then Some (then.Goes (due.Initial var_kind.Memory None))
    else (block_of t >>= λ kind. Some (then.Goes (due.Preset kind)))
step (due.Initial kind address) t =
    if same_letters t (codes ";") then Some (then.Ends (body.Var kind address false)) else on (same_letters t (codes ":=")) (then.Goes (due.Bit kind address))
step (due.Bit kind address) t = bit_word t >>= λ initial. Some (then.Goes (due.End (body.Var kind address initial)))
step (due.Preset kind) t =
    if same_letters t (codes ";") then Some (then.Ends (body.Instance kind 0))
    else (if same_letters t (codes ":=") then ((traits_of kind).parameter >>= λ form. Some (then.Goes (due.Opening kind form))) else None)
step (due.Opening kind form) t = on (same_letters t (codes "(")) (then.Goes (due.Word kind form))
step (due.Word kind form) t = on (same_letters t (parameter_word form)) (then.Goes (due.Assign kind form))
step (due.Assign kind form) t = on (same_letters t (codes ":=")) (then.Goes (due.Value kind form))
step (due.Value kind form) t = value_of form t >>= λ n. Some (then.Goes (due.Closing (body.Instance kind n)))
step (due.Closing b) t = on (same_letters t (codes ")")) (then.Goes (due.End b))
step (due.End b) t = on (same_letters t (codes ";")) (then.Ends b)

-- the rule that a token breaks which is not due: a mark where the preset is due is no word
abbrev pub misfit : Due → List ℕ → VarRule
misfit (due.Value kind form) t = if begins_word t then rule.BadPreset else rule.BadToken
misfit other t = rule.BadToken
