-- Private: how far statements do what rungs do.
use Rattle.std.specs.Prelude.{◌≡◌, ℕ, ◌+◌, ◌≤◌, Bool, true, false, nat_lt, List, length, slice_index_or}
use Rattle.diagram_program.specs.Program.{Drawing}
use Rattle.scan_cycle.specs.Rung.{Held}
use Rattle.scan_cycle.specs.Programs.{diagram_of}
use Rattle.st_statements.specs.declared.statement.StatementList.{StatementList}
use Rattle.st_statements.specs.declared.statement.StatementList.TheVariants.{End}
use Rattle.st_statements.specs.Run.{Ran, ran, run}
use Rattle.draw_check.specs.Steps.{Reaches}
use Rattle.export_rungs.specs.Matched.{AreMatched}
use Rattle.export_rungs.specs.Rungs.{AreAt}
use Rattle.export_check.specs.declared.jumps.Jump.{Jump}
use Rattle.export_check.specs.Jumps.{is_over}

-- The statements stand before a rung with so many jumps above it, and the scan before the rung `next`: the rungs down to there are those that a jump
-- whose flag is on passes over. The flags of the jumps below are off.
pub record AreDue (jumps : List Jump) (flags : List Bool) (rung number next : ℕ) : Type 0 where
  pub many : length flags ≡ length jumps
  pub down : rung ≤ next
  pub later : (i : ℕ) → number ≤ i → slice_index_or flags i false ≡ false
  pub over : (i : ℕ) → rung ≤ i → nat_lt i next ≡ is_over jumps flags i

-- The states match there too.
pub record AreBefore (d : Drawing) (variables : ℕ) (jumps : List Jump) (flags : List Bool) (rung number next : ℕ) (g h : Held) : Type 0 where
  pub due : AreDue jumps flags rung number next
  pub at : AreAt d variables flags g h

-- The scan goes from a rung to its end, and what it leaves matches what the run leaves.
pub record Ends (d : Drawing) (variables now from : ℕ) (g : Held) (r : Ran) : Type 0 where
  pub rung : ℕ
  pub last : Held
  pub behind : d.rungs ≤ rung
  pub reaches : Reaches (diagram_of d) now from g rung last
  pub matched : AreMatched d variables last r.held

-- From a rung that no jump has passed over, scan and run go on to where the rest of the statements stands before a rung below; or a RETURN ends both.
pub data Onward (d : Drawing) (variables : ℕ) (jumps : List Jump) (now : ℕ) (list rest : StatementList) (from rung number : ℕ) (g h : Held) : Type 0 where
  returns : (after : Held) → run d.decls.instances now list h ≡ ran true after → Ends d variables now from g (ran true after)
      → Onward d variables jumps now list rest from rung number g h
  goes : (flags : List Bool) (next : ℕ) (last after : Held) → AreBefore d variables jumps flags rung number next last after → is_over jumps flags from ≡ false
      → Reaches (diagram_of d) now from g next last → run d.decls.instances now list h ≡ run d.decls.instances now rest after
      → Onward d variables jumps now list rest from rung number g h

-- Whatever the states.
abbrev pub Moves : Drawing → (variables : ℕ) → List Jump → (from above : ℕ) → StatementList → (rung number : ℕ) → StatementList → Type 0
Moves d variables jumps from above list rung number rest = (now : ℕ) (flags : List Bool) (g h : Held)
    → AreBefore d variables jumps flags from above from g h → Onward d variables jumps now list rest from rung number g h

-- The statements before the rest do a rung.
pub record IsStep (d : Drawing) (variables : ℕ) (jumps : List Jump) (rung above : ℕ) (list : StatementList) (below number : ℕ) (rest : StatementList) : Type 0 where
  pub moves : Moves d variables jumps rung above list below number rest
  pub next : below ≡ rung + 1
  pub more : above ≤ number

-- All of the statements do the rungs down to one, and the same jumps pass over each of these rungs.
pub record IsBody (d : Drawing) (variables : ℕ) (jumps : List Jump) (from above : ℕ) (list : StatementList) (rung number : ℕ) : Type 0 where
  pub moves : Moves d variables jumps from above list rung number End
  pub more : above ≤ number
  pub last : ℕ
  pub ends : rung ≡ last + 1
  pub down : from ≤ last
  pub alike : (flags : List Bool) → is_over jumps flags last ≡ is_over jumps flags from

-- The statements do all rungs from this one on.
abbrev pub Exports : Drawing → (variables : ℕ) → List Jump → (rung number : ℕ) → StatementList → Type 0
Exports d variables jumps rung number list = (now : ℕ) (flags : List Bool) (next : ℕ) (g h : Held)
    → AreBefore d variables jumps flags rung number next g h → Ends d variables now next g (run d.decls.instances now list h)

-- They do so where the rest of them does all rungs from another one on.
abbrev pub Leads : Drawing → (variables : ℕ) → List Jump → (from above : ℕ) → StatementList → (rung number : ℕ) → StatementList → Type 0
Leads d variables jumps from above list rung number rest = Exports d variables jumps rung number rest → Exports d variables jumps from above list
