-- Sets of states without moments, as rows.
use Rattle.std.specs.Prelude.{◌≡◌, ℕ, [], length, slice_index_or}
use Rattle.diagram_program.specs.Program.{Drawing, memories_of}
use Rattle.scan_signals.specs.declared.tri.Tri.{Tri}
use Rattle.scan_symbolic.specs.KnownScan.{Known}
use Rattle.reach_states.specs.declared.untimed.Untimed.{Untimed}
use Rattle.reach_search.specs.declared.state_set.StateSet.{StateSet}

-- How many states there are, and the one of a number.
abbrev pub count_of : StateSet → ℕ
count_of s = length s.blocks.rows

abbrev pub state_at : StateSet → ℕ → Known Tri Untimed
state_at s number = record {
  values = slice_index_or s.values.rows number [];
  memories = slice_index_or s.memories.rows number [];
  blocks = slice_index_or s.blocks.rows number [];
}

-- Each has values, memories and instances, as many as the program.
pub record IsSetFor (p : Drawing) (s : StateSet) : Type 0 where
  pub values : s.values.width ≡ length p.decls.vars
  pub memories : s.memories.width ≡ memories_of p
  pub blocks : s.blocks.width ≡ length p.decls.instances
  pub as_many_values : length s.values.rows ≡ count_of s
  pub as_many_memories : length s.memories.rows ≡ count_of s
