-- Private: a look over any signal as the code does it, step by step.
use Rattle.std.specs.Prelude.{ℕ, ◌+◌, ◌<◌, true, false, List, [], ◌∷◌, slice_index_or, slice_set}
use Rattle.diagram_declarations.specs.declared.kind.BlockKind.TheVariants.{Ton}
use Rattle.diagram_program.specs.declared.geometry.TheConstants.{PLACES}
use Rattle.diagram_program.specs.declared.gates.TheConstants.{OFF, OWN}
use Rattle.diagram_program.specs.declared.steps.Spot.{Spot}
use Rattle.diagram_program.specs.declared.steps.Step.{Step}
use Rattle.diagram_program.specs.declared.steps.Step.TheVariants.{Is, Not, Rare}
use Rattle.diagram_program.specs.declared.steps.Rare.TheVariants.{Wire, Rising, Falling, Block, Own, Store, Set, Reset, End, Act, Leave, Turn}
use Rattle.diagram_program.specs.Program.{Drawing}
use Rattle.diagram_program.specs.Gates.{leaps_below}
use Rattle.scan_signals.specs.Algebra.{Algebra}
use Rattle.scan_signals.specs.Blocks.{new_block}
use Rattle.scan_cycle.specs.Cells.{Frame, Kept, q_from}
use Rattle.scan_cycle.specs.Programs.{diagram_of}
use Rattle.scan_cycle.specs.Gating.{among, own}
use Rattle.scan_symbolic.specs.Gating.{acted, guard_by}

-- The links after a gate that lets x through, and after one that keeps what its cell alone lets through.
abbrev pub passing : {S : Type 0} → Algebra S → List S → Spot → S → List S
passing o links spot x = slice_set links spot.place (o.join x (among o links spot.other))

abbrev pub keeping : {S : Type 0} → Algebra S → List S → Spot → S → List S
keeping o links spot x = slice_set (slice_set links (OWN + spot.place) x) spot.place (o.join x (among o links spot.other))

abbrev pub links_after : {S : Type 0} → Algebra S → Drawing → Kept → ℕ → Frame S → Step → List S → List S
links_after o p k now f (Is spot var) links = passing o links spot (o.meet (among o links spot.left) (among o f.values var))
links_after o p k now f (Not spot var) links = passing o links spot (o.meet (among o links spot.left) (o.inverse (among o f.values var)))
links_after o p k now f (Rare (Wire spot)) links = keeping o links spot (o.meet (among o links spot.left) (o.known true))
links_after o p k now f (Rare (Rising spot var memory)) links =
    keeping o links spot (o.meet (among o links spot.left) (o.meet (among o f.values var) (o.inverse (o.known (slice_index_or k.memories memory false)))))
links_after o p k now f (Rare (Falling spot var memory)) links =
    keeping o links spot (o.meet (among o links spot.left) (o.meet (o.inverse (among o f.values var)) (o.known (slice_index_or k.memories memory false))))
links_after o p k now f (Rare (Block spot below inst)) links =
    keeping o links spot (q_from o ((diagram_of p).kind inst) ((diagram_of p).preset inst) (slice_index_or k.blocks inst (new_block Ton)) now (among o links spot.left) (among o links below))
links_after o p k now f (Rare (Own spot below rung)) links =
    keeping o links spot (own o (diagram_of p) k now f ((diagram_of p).cell rung spot.place) (among o links spot.left) (among o links below))
links_after o p k now f other links = links

-- The values after a coil that would write x.
abbrev pub storing : {S : Type 0} → Algebra S → S → ℕ → S → Frame S → Frame S
storing o guard var x f = record { values = slice_set f.values var (o.choice guard x (among o f.values var)); ends = f.ends }

abbrev pub frame_after : {S : Type 0} → Algebra S → Drawing → Kept → S → List S → Step → Frame S → Frame S
frame_after o p k guard links (Rare (Store left var)) f = storing o guard var (among o links left) f
frame_after o p k guard links (Rare (Set left var)) f = storing o guard var (o.choice (among o links left) (o.known true) (among o f.values var)) f
frame_after o p k guard links (Rare (Reset left var)) f = storing o guard var (o.choice (among o links left) (o.known false) (among o f.values var)) f
frame_after o p k guard links (Rare (End place inst)) f = record { values = f.values; ends = slice_set f.ends inst (o.choice guard (among o links (OWN + place)) (among o f.ends inst)) }
frame_after o p k guard links (Rare (Act rung place left)) f =
    acted o k guard links (record { cell = (diagram_of p).cell rung place; place = place; left = left; below = OFF }) f
frame_after o p k guard links other f = f

-- How far a look is: the values and Qs, whether the jumps so far are taken, the links of the rung, and its guard.
pub record Going (S : Type 0) : Type 0 where
  pub frame : Frame S
  pub taken : List S
  pub links : List S
  pub guard : S

abbrev pub taken_after : {S : Type 0} → Algebra S → S → List S → Step → List S → List S
taken_after o guard links (Rare (Leave rung left)) taken = slice_set taken rung (o.meet guard (among o links left))
taken_after o guard links other taken = taken

abbrev pub guard_after : {S : Type 0} → Algebra S → Drawing → List S → Step → S → S
guard_after o p taken (Rare (Turn rung)) guard = guard_by o taken rung (leaps_below p p.rungs) (o.known true)
guard_after o p taken other guard = guard

abbrev pub gone : {S : Type 0} → Algebra S → Drawing → Kept → ℕ → Step → Going S → Going S
gone o p k now s g = record {
  frame = frame_after o p k g.guard (links_after o p k now g.frame s g.links) s g.frame;
  taken = taken_after o g.guard g.links s g.taken;
  links = links_after o p k now g.frame s g.links;
  guard = guard_after o p g.taken s g.guard;
}

abbrev pub going : {S : Type 0} → Frame S → List S → List S → S → Going S
going f taken links guard = record { frame = f; taken = taken; links = links; guard = guard }

-- After these steps.
unfoldable pub all_gone : {S : Type 0} → Algebra S → Drawing → Kept → ℕ → List Step → Going S → Going S
all_gone o p k now [] g = g
all_gone o p k now (s ∷ ss) g = all_gone o p k now ss (gone o p k now s g)

abbrev pub IsSpot : Spot → Type 0
IsSpot spot = (spot.place < PLACES) × (spot.left < OWN) × (spot.other < OWN)

-- What a step looks at is there, in a program with this many rungs and variables.
abbrev pub IsWithin : ℕ → ℕ → Step → Type 0
IsWithin rungs vars (Is spot var) = IsSpot spot × (var < vars)
IsWithin rungs vars (Not spot var) = IsSpot spot × (var < vars)
IsWithin rungs vars (Rare (Wire spot)) = IsSpot spot
IsWithin rungs vars (Rare (Rising spot var memory)) = IsSpot spot
IsWithin rungs vars (Rare (Falling spot var memory)) = IsSpot spot
IsWithin rungs vars (Rare (Block spot below inst)) = IsSpot spot × (below < OWN)
IsWithin rungs vars (Rare (Own spot below rung)) = IsSpot spot × (below < OWN) × (rung < rungs)
IsWithin rungs vars (Rare (Store left var)) = (left < OWN) × (var < vars)
IsWithin rungs vars (Rare (Set left var)) = (left < OWN) × (var < vars)
IsWithin rungs vars (Rare (Reset left var)) = (left < OWN) × (var < vars)
IsWithin rungs vars (Rare (End place inst)) = place < PLACES
IsWithin rungs vars (Rare (Act rung place left)) = (rung < rungs) × (place < PLACES) × (left < OWN)
IsWithin rungs vars (Rare (Leave rung left)) = (rung < rungs) × (left < OWN)
IsWithin rungs vars (Rare (Turn rung)) = Unit {0}
