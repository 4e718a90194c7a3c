-- Private: what is written into one list, for one list of pairs.
use Rattle.std.specs.Prelude.{◌≡◌, ◌<◌, ℕ, List, length, slice_index_or}
use Rattle.std.specs.List.{All}
use Rattle.diagram_declarations.specs.declared.kind.BlockKind.TheVariants.{Ton}
use Rattle.scan_cycle.specs.Standing.{Standing}
use Rattle.diff_matching.specs.declared.matching.Pair.{Pair}
use Rattle.diff_matching.specs.Carried.{IsAlone}
use Rattle.diff_matching.specs.Matching.{AreSame}

-- What the pairs name is as in `xs`, all else is as before.
pub record IsWritten {A : Type 0} (none : A) (pairs : List Pair) (xs before after : List A) : Type 0 where
  pub as_many : length after ≡ length before
  pub same : AreSame none pairs xs after
  pub rest : (n : ℕ) → IsAlone pairs n → slice_index_or after n none ≡ slice_index_or before n none

-- The pairs name instances of one kind, which are in both states.
abbrev pub AreInstances : List Pair → Standing → Standing → Type 0
AreInstances pairs s t =
    All (λ x. (x.old < length s.held.kept.blocks) × (x.new < length t.held.kept.blocks) × (slice_index_or s.kinds x.old Ton ≡ slice_index_or t.kinds x.new Ton)) pairs
