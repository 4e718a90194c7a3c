-- In a rhythm, what is known of instances after a time allows what it did before.
use Rattle.std.proofs.Common.{◌≡◌, ◌∙◌, ℕ, ◌+◌, ◌<◌, min, true, false, List, get_or, length, sym, subst, arith}
use Rattle.diagram_declarations.specs.declared.kind.BlockKind.{BlockKind}
use Rattle.diagram_declarations.specs.declared.kind.BlockKind.TheVariants.{Ton}
use Rattle.scan_signals.specs.Blocks.{new_block}
use Rattle.scan_signals.specs.Relations.{Both}
use Rattle.scan_signals.specs.Truth.{plain}
use Rattle.scan_signals.specs.declared.block.Stored.{Stored}
use Rattle.scan_signals.specs.declared.block.Stored.TheVariants as stored
use Rattle.scan_signals.specs.declared.tri.Tri.{Tri}
use Rattle.scan_cycle.specs.Cells.{Diagram}
use Rattle.scan_cycle.specs.Rung.{Held}
use Rattle.scan_symbolic.specs.KnownScan.{Known, all_known, plainly}
use Rattle.scan_symbolic.proofs.Lists.{both_each, each_both}
use Rattle.invariant_cases.specs.Allowing.{Allows}
use Rattle.reach_runs.specs.declared.timing.Timing.TheVariants.{Every}
use Rattle.reach_states.specs.Allowing.{AllowsState, HasRun, MayBe, aged}
use Rattle.reach_states.specs.UntimedLaws.{off_on}
use Rattle.reach_states.specs.declared.untimed.Untimed.{Untimed}
use Rattle.reach_states.specs.declared.untimed.Untimed.TheVariants.{Timer, Counter, Output, Anything}
use Rattle.reach_states.proofs.Splitting.{both_length}

has_run : (every now preset elapsed start : ℕ) → HasRun (Every every) now preset elapsed start → HasRun (Every every) (now + every) preset (min (elapsed + every) preset) start
has_run every now preset elapsed start h = let le = h.0 in let e = h.1 in (omega arith, omega arith)

one_ages : (every now : ℕ) (kind : BlockKind) (preset : ℕ) (b : Untimed) (s : Stored) → MayBe (HasRun (Every every) now preset) kind preset b s
    → MayBe (HasRun (Every every) (now + every) preset) kind preset (aged every preset b) s
one_ages every now kind preset (Timer last true elapsed q) (stored.Timer last2 running2 start q2) h =
    (h.0, h.1, h.2, h.3, λ e. has_run every now preset elapsed start (h.4 e))
one_ages every now kind preset (Timer last false elapsed q) (stored.Timer last2 running2 start q2) h = (h.0, h.1, h.2, h.3, λ e. absurd (off_on e))
one_ages every now kind preset (Timer last running elapsed q) (stored.Counter last2 cv2 q2) h = absurd h
one_ages every now kind preset (Timer last running elapsed q) (stored.Bistable q2) h = absurd h
one_ages every now kind preset (Counter last cv q) (stored.Timer last2 running2 start q2) h = absurd h
one_ages every now kind preset (Counter last cv q) (stored.Counter last2 cv2 q2) h = h
one_ages every now kind preset (Counter last cv q) (stored.Bistable q2) h = absurd h
one_ages every now kind preset (Output q) s h = h
one_ages every now kind preset Anything s h = tt

-- Values and memories are as before, and each instance is older.
pub record IsAged (d : Diagram) (every : ℕ) (k l : Known Tri Untimed) : Type 0 where
  pub values : l.values ≡ k.values
  pub memories : l.memories ≡ k.memories
  pub many : length l.blocks ≡ length k.blocks
  pub each : (i : ℕ) → i < length k.blocks → get_or l.blocks i Anything ≡ aged every (d.preset i) (get_or k.blocks i Anything)

pub aged_allows : (d : Diagram) (every : ℕ) (k l : Known Tri Untimed) → IsAged d every k l → (now : ℕ) (h : Held)
    → AllowsState (Every every) d now k h → AllowsState (Every every) d (now + every) l h
aged_allows d every k l is now h allows =
    let Q = λ (inst : ℕ). MayBe (HasRun (Every every) now (d.preset inst)) (d.kind inst) (d.preset inst) in
    let P = λ (inst : ℕ). MayBe (HasRun (Every every) (now + every) (d.preset inst)) (d.kind inst) (d.preset inst) in
    let stored_blocks = (all_known plain plainly h).blocks in record {
      values = subst (λ (xs : List Tri). Both Allows xs (all_known plain plainly h).values) (sym is.values) allows.values;
      memories = subst (λ (xs : List Tri). Both Allows xs (all_known plain plainly h).memories) (sym is.memories) allows.memories;
      blocks = each_both P l.blocks stored_blocks (is.many ∙ both_length Q k.blocks stored_blocks allows.blocks) Anything (new_block Ton)
          (λ i lt. let below : i < length k.blocks = omega (arith, lt, is.many) in
          subst (λ (b : Untimed). P i b (get_or stored_blocks i (new_block Ton))) (sym (is.each i below))
          (one_ages every now (d.kind i) (d.preset i) (get_or k.blocks i Anything) (get_or stored_blocks i (new_block Ton))
          (both_each Q k.blocks stored_blocks allows.blocks Anything (new_block Ton) i below)));
    }
