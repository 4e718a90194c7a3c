-- What it is that one scan of each program leaves alike.
use Rattle.std.specs.Prelude.{◌≡◌, ℕ, false, [], Contains, slice_index_or}
use Rattle.diagram_declarations.specs.declared.kind.BlockKind.TheVariants.{Ton}
use Rattle.scan_signals.specs.Blocks.{new_block}
use Rattle.scan_signals.specs.declared.tri.Tri.{Tri}
use Rattle.diagram_program.specs.Program.{Drawing}
use Rattle.scan_cycle.specs.Programs.{diagram_of}
use Rattle.scan_cycle.specs.Rung.{Held}
use Rattle.scan_cycle.specs.Scan.{after_scan}
use Rattle.scan_cycle.specs.Standing.{Standing}
use Rattle.scan_symbolic.specs.KnownScan.{Known}
use Rattle.invariant_cases.specs.Allowing.{AllowsState}
use Rattle.invariant_cases.specs.declared.outcome.Outcome.{Outcome}
use Rattle.diff_matching.specs.Matching.{Agree, AgreeOnInputs, AreShared, Matching, scanned}
use Rattle.diff_cases.specs.Assuming.{AreTrueIn, BothAssumed}
use Rattle.diff_cases.specs.Cases.{AreOfOneKind, IsSettledAlikeAssuming}
use Rattle.diff_cases.specs.declared.target.Target.{Target}
use Rattle.diff_cases.specs.declared.target.Target.TheVariants.{Variable, Memory, Contents}

-- In both states the variable has the same value, the memory is the same, or the instance stores the same.
abbrev pub AreAlike : Target → Held → Held → Type 0
AreAlike (Variable x) h g = slice_index_or h.values x.old false ≡ slice_index_or g.values x.new false
AreAlike (Memory x) h g = slice_index_or h.kept.memories x.old false ≡ slice_index_or g.kept.memories x.new false
AreAlike (Contents x) h g = slice_index_or h.kept.blocks x.old (new_block Ton) ≡ slice_index_or g.kept.blocks x.new (new_block Ton)

-- One scan of each program at the same moment, from any states that agree, leaves the target alike.
abbrev pub LeavesAlike : Matching → Drawing → Drawing → Target → Type 0
LeavesAlike m p q target = (moment : ℕ) (s t : Standing) → AreShared m p q moment s t → AreAlike target (scanned p moment s) (scanned q moment t)

-- Instances can be compared where they belong together and have one kind and one preset. Of variables and memories any two can.
abbrev pub IsComparable : Matching → Drawing → Drawing → Target → Type 0
IsComparable m p q (Contents x) = Contains m.instances x × AreOfOneKind p q x.old x.new
IsComparable m p q other = Unit {0}

-- What is settled alike is so after one scan of each at the same moment, from any two states that agree, also on the inputs that they store, in
-- which what is assumed is true, and that what is known allows. The scans give no input a value, so that inputs keep theirs.
abbrev pub SettledAlikeHolds : Drawing → Drawing → Type 0
SettledAlikeHolds p q = (a : BothAssumed) (m : Matching) (target : Target) → IsComparable m p q target → (k l : Known Tri Outcome)
    → IsSettledAlikeAssuming p q a m target k l
    → (moment : ℕ) (h g : Held) → AllowsState p moment k h → AllowsState q moment l g → Agree m h g → AgreeOnInputs m h g → AreTrueIn a h g
    → AreAlike target (after_scan (diagram_of p) moment [] h) (after_scan (diagram_of q) moment [] g)
