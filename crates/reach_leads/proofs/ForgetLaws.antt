-- What is left open of a state still allows it.
use Rattle.std.proofs.Common.{◌∙◌, ℕ, zero, suc, Bool, List, [], ◌∷◌, get_or, set, sym}
use Rattle.std.proofs.lemmas.List.{length-set}
use Rattle.diagram_declarations.specs.declared.kind.BlockKind.{BlockKind}
use Rattle.diagram_program.specs.Program.{Drawing}
use Rattle.scan_cycle.specs.Cells.{Diagram}
use Rattle.scan_cycle.specs.Rung.{Held}
use Rattle.scan_partial.specs.Sizes.{HasSizes}
use Rattle.scan_signals.specs.Relations.{Both}
use Rattle.scan_signals.specs.Truth.{plain}
use Rattle.scan_signals.specs.declared.block.Stored.{Stored}
use Rattle.scan_signals.specs.declared.block.Stored.TheVariants as stored
use Rattle.scan_signals.specs.declared.tri.Tri.{Tri}
use Rattle.scan_signals.specs.declared.tri.Tri.TheVariants.{Unsure}
use Rattle.scan_symbolic.specs.KnownLaws.{BothAt}
use Rattle.scan_symbolic.specs.KnownScan.{Known, all_known, kept_at, plainly}
use Rattle.invariant_cases.specs.Allowing.{Allows}
use Rattle.reach_runs.specs.declared.timing.Timing.{Timing}
use Rattle.reach_leads.specs.Forgetting.{forgotten}
use Rattle.reach_states.specs.Allowing.{AllowsState, HasRun, MayBe}
use Rattle.reach_states.specs.Untimed.{untimed}
use Rattle.reach_states.specs.declared.untimed.Untimed.{Untimed}
use Rattle.reach_states.specs.declared.untimed.Untimed.TheVariants.{Timer, Counter, Output, Anything}

-- ---- values and memories
open_one : (values : List Tri) (vs : List Bool) (i : ℕ) → Both Allows values vs → Both Allows (set values i Unsure) vs
open_one [] [] i h = tt
open_one [] (b ∷ vs) i h = absurd h
open_one (x ∷ values) [] i h = absurd h
open_one (x ∷ values) (b ∷ vs) zero h = ((tt, λ _. tt), h.1)
open_one (x ∷ values) (b ∷ vs) (suc i) h = (h.0, open_one values vs i h.1)

pub value_allows : (timing : Timing) (d : Diagram) (now : ℕ) (k : Known Tri Untimed) (held : Held) (i : ℕ) → AllowsState timing d now k held
    → AllowsState timing d now (record k { values = set k.values i Unsure }) held
value_allows timing d now k held i a = record { values = open_one k.values (all_known plain plainly held).values i a.values; memories = a.memories; blocks = a.blocks }

pub value_sizes : (p : Drawing) (k : Known Tri Untimed) (i : ℕ) → HasSizes p k → HasSizes p (record k { values = set k.values i Unsure })
value_sizes p k i h = record { values = length-set k.values i Unsure ∙ h.values; memories = h.memories; blocks = h.blocks }

pub memory_allows : (timing : Timing) (d : Diagram) (now : ℕ) (k : Known Tri Untimed) (held : Held) (i : ℕ) → AllowsState timing d now k held
    → AllowsState timing d now (record k { memories = set k.memories i Unsure }) held
memory_allows timing d now k held i a = record { values = a.values; memories = open_one k.memories (all_known plain plainly held).memories i a.memories; blocks = a.blocks }

pub memory_sizes : (p : Drawing) (k : Known Tri Untimed) (i : ℕ) → HasSizes p k → HasSizes p (record k { memories = set k.memories i Unsure })
memory_sizes p k i h = record { values = h.values; memories = length-set k.memories i Unsure ∙ h.memories; blocks = h.blocks }

-- ---- instances
may_be_forgotten : (R : ℕ → ℕ → Type 0) (kind : BlockKind) (preset : ℕ) (b : Untimed) (s : Stored) → MayBe R kind preset b s → MayBe R kind preset (forgotten b) s
may_be_forgotten R kind preset (Timer last running elapsed q) (stored.Timer last2 running2 start q2) h = (sym h.0, tt)
may_be_forgotten R kind preset (Timer last running elapsed q) (stored.Counter last2 cv2 q2) h = absurd h
may_be_forgotten R kind preset (Timer last running elapsed q) (stored.Bistable q2) h = absurd h
may_be_forgotten R kind preset (Counter last cv q) (stored.Timer last2 running2 start q2) h = absurd h
may_be_forgotten R kind preset (Counter last cv q) (stored.Counter last2 cv2 q2) h = (sym h.0, tt)
may_be_forgotten R kind preset (Counter last cv q) (stored.Bistable q2) h = absurd h
may_be_forgotten R kind preset (Output q) s h = (h.0, tt)
may_be_forgotten R kind preset Anything s h = tt

one_forgotten : (Q : ℕ → Untimed → Stored → Type 0) (xs : List Untimed) (ys : List Stored) (i : ℕ)
    → ((j : ℕ) (x : Untimed) (y : Stored) → Q j x y → Q j (forgotten x) y) → BothAt Q xs ys → BothAt Q (set xs i (forgotten (get_or xs i Anything))) ys
one_forgotten Q [] [] i less h = tt
one_forgotten Q [] (y ∷ ys) i less h = absurd h
one_forgotten Q (x ∷ xs) [] i less h = absurd h
one_forgotten Q (x ∷ xs) (y ∷ ys) zero less h = (less 0 x y h.0, h.1)
one_forgotten Q (x ∷ xs) (y ∷ ys) (suc i) less h = (h.0, one_forgotten (λ j. Q (suc j)) xs ys i (λ j. less (suc j)) h.1)

pub block_allows : (timing : Timing) (d : Diagram) (now : ℕ) (k : Known Tri Untimed) (held : Held) (i : ℕ) → AllowsState timing d now k held
    → AllowsState timing d now (record k { blocks = set k.blocks i (forgotten (kept_at untimed k i)) }) held
block_allows timing d now k held i a = record {
  values = a.values;
  memories = a.memories;
  blocks = one_forgotten (λ inst. MayBe (HasRun timing now (d.preset inst)) (d.kind inst) (d.preset inst)) k.blocks (all_known plain plainly held).blocks i
      (λ j x y. may_be_forgotten (HasRun timing now (d.preset j)) (d.kind j) (d.preset j) x y) a.blocks;
}

pub block_sizes : (p : Drawing) (k : Known Tri Untimed) (i : ℕ) (b : Untimed) → HasSizes p k → HasSizes p (record k { blocks = set k.blocks i b })
block_sizes p k i b h = record { values = h.values; memories = h.memories; blocks = length-set k.blocks i b ∙ h.blocks }
