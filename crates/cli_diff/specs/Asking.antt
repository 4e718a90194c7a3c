-- What a comparison of two programs asks: by the texts of both, and the state of each.
use Rattle.std.specs.Prelude.{◌≡◌, ℕ, Bool, true, false, List, Option, None, Some, map, string_bytes, unwrap_or}
use Rattle.diagram_program.specs.Program.{Drawing}
use Rattle.diagram_reader.specs.Titled.{HasProgram}
use Rattle.scan_cycle.specs.Standing.{Standing}
use Rattle.causes_query.specs.Causes.{Question}
use Rattle.search_differences.specs.declared.side.Side.{Side}
use Rattle.search_differences.specs.declared.side.Side.TheVariants.{Old, New}
use Rattle.diff_matching.specs.declared.matching.Pair.{Pair}
use Rattle.diff_matching.specs.Carried.{IsCarried}
use Rattle.diff_matching.specs.Matching.{Matching}
use Rattle.diff_matching.specs.Names.{IsByNames}
use Rattle.cli_arguments.specs.declared.request.DiffRequest.{DiffRequest}
use Rattle.cli_inputs.specs.Setting.{Given, HasState, IsSet}
use Rattle.cli_inputs.specs.Variables.{AreVariables, variable_of}

-- The state of the new program is the one of its own text. Without one the state of the old program is carried over, where that has a text, by
-- what belongs together by names; and otherwise it is the fresh one.
abbrev pub HasNewState : Option (List ℕ) → Option (List ℕ) → Drawing → Drawing → Standing → Standing → Type 0
HasNewState (Some text) None p q s t = (m : Matching) × IsByNames m p q × IsCarried m q s t
HasNewState old new p q s t = HasState q new t

-- The texts describe these programs and states.
pub record AreSet (g h : Given) (p q : Drawing) (s t : Standing) : Type 0 where
  pub old : IsSet g p s
  pub drawn : HasProgram h.aliases h.program q
  pub stored : HasNewState g.state h.state p q s t

-- the number that a pair has in one of the programs
abbrev pub number_in : Side → Pair → ℕ
number_in Old x = x.old
number_in New x = x.new

-- The names are those of inputs of both programs, in their order; or all inputs are listed that belong together by names, in the order of the old program.
abbrev pub AreListedInBoth : Drawing → Drawing → Bool → List (List ℕ) → List ℕ → List ℕ → Type 0
AreListedInBoth p q true names old new = (m : Matching) × IsByNames m p q × (old ≡ map (number_in Old) m.inputs) × (new ≡ map (number_in New) m.inputs)
AreListedInBoth p q false names old new = AreVariables p.decls names old × AreVariables q.decls names new

-- The same is asked of both: of the variable of this name, with the same inputs, each at the moment that is given, or at the one that its state stores.
pub record AreAsked (g h : Given) (r : DiffRequest) (old new : Question) : Type 0 where
  pub set : AreSet g h old.program new.program old.state new.state
  pub old_at : old.now ≡ unwrap_or r.moment old.state.moment
  pub new_at : new.now ≡ unwrap_or r.moment new.state.moment
  pub old_on : variable_of old.program.decls (string_bytes r.coil) ≡ Some old.coil
  pub new_on : variable_of new.program.decls (string_bytes r.coil) ≡ Some new.coil
  pub listed : AreListedInBoth old.program new.program r.all_inputs (map string_bytes r.inputs.items) old.listed new.listed
