-- The rules of words that go together: which of them are broken, and what is said of one.
use Rattle.std.specs.Prelude.{◌≡◌, ◌++◌, ◌&&◌, ◌∷◌, ℕ, List, [], Bool, true, false, not, Option, None, Some, bytes_eq, codes, find, flat_map, is_some, option_map}
use Rattle.std.specs.List.{list_all, list_any}
use Rattle.clap.specs.Words.{Row, Text, first_of}
use Rattle.cli_usage.specs.declared.broken.Broken.{Broken}
use Rattle.cli_usage.specs.declared.rule.Rule.{Rule}
use Rattle.cli_usage.specs.declared.rule.Rule.TheVariants.{Excludes, Wants}
use Rattle.cli_usage.specs.declared.rule.Term.{Term}
use Rattle.cli_usage.specs.declared.rule.Term.TheVariants.{Flag, Place, Value, Valued}

-- ---- which rule is broken

-- The option or argument has this text.
abbrev pub is_text : List Row → Text → List ℕ → Bool
is_text rows id text = elim (first_of id rows) [ None ↦ false | Some found ↦ bytes_eq found text ]

-- The term is there: of a flag `clap` keeps this text where it is given.
abbrev pub is_there : List Row → Term → Bool
is_there rows (Flag id) = is_text rows id.now (codes "true")
is_there rows (Valued id) = is_some (first_of id.now rows)
is_there rows (Value id value) = is_text rows id.now value.now
is_there rows (Place id name) = is_some (first_of id.now rows)

-- All that the rule is about is there, and nothing of what it wants, or something of what it excludes.
abbrev pub is_broken : List Row → Rule → Bool
is_broken rows (Wants given wanted) = list_all (is_there rows) given.now && not (list_any (is_there rows) wanted.now)
is_broken rows (Excludes given excluded) = list_all (is_there rows) given.now && list_any (is_there rows) excluded.now

-- the first term that is there and that the rule excludes
abbrev pub first_excluded : List Row → Rule → Option Term
first_excluded rows (Wants given wanted) = None
first_excluded rows (Excludes given excluded) = find (is_there rows) excluded.now

-- a rule that is broken, with what of the words it excludes
abbrev pub Told : Type 0
Told = Rule × Option Term

-- The first of these rules that the words break.
abbrev pub broken_of : List Row → List Rule → Option Told
broken_of rows rules = option_map (λ rule. (rule, first_excluded rows rule)) (find (is_broken rows) rules)

-- The words break this rule, and this is what of them it excludes.
abbrev pub Breaks : List Row → Broken → Type 0
Breaks rows b = (is_broken rows b.rule.now ≡ true) × (option_map (λ t. t.now) b.excluded ≡ first_excluded rows b.rule.now)

-- the same as it is handed on
abbrev pub out_of : Broken → Told
out_of b = (b.rule.now, option_map (λ t. t.now) b.excluded)

-- ---- what is said of it

-- A term as it is written on a command line; what has a place has the name that help gives it.
abbrev pub term_text : Term → List ℕ
term_text (Flag id) = codes "--" ++ id.now
term_text (Valued id) = codes "--" ++ id.now
term_text (Value id value) = codes "--" ++ (id.now ++ (codes " " ++ value.now))
term_text (Place id name) = name.now

-- Several terms, with a word between each and the next.
abbrev pub joined : List ℕ → List Term → List ℕ
joined word [] = []
joined word (term ∷ terms) = term_text term ++ flat_map (λ t. word ++ term_text t) terms

-- what the rule is about
abbrev pub given_of : Rule → List Term
given_of (Wants given wanted) = given.now
given_of (Excludes given excluded) = given.now

abbrev pub found_text : Option Term → List ℕ
found_text None = []
found_text (Some term) = term_text term

-- ` wants --scans or --for`, ` excludes --grouped`
abbrev pub demand_text : Told → List ℕ
demand_text (Wants given wanted, found) = codes " wants " ++ joined (codes " or ") wanted.now
demand_text (Excludes given excluded, found) = codes " excludes " ++ found_text found

abbrev pub rule_text : Told → List ℕ
rule_text told = joined (codes " with ") (given_of told.0) ++ demand_text told

-- the line below that of a usage fault
abbrev pub broken_text : Told → List ℕ
broken_text told = codes "usage: " ++ (rule_text told ++ codes "\n")
