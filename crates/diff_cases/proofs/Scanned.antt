-- What is known after the scan of one program.
use Rattle.std.proofs.Common.{◌≡◌, ◌∙◌, ℕ, Bool, false, List, [], get_or, map, refl, sym, subst}
use Rattle.diagram_declarations.specs.declared.kind.BlockKind.TheVariants.{Ton}
use Rattle.diagram_program.specs.Program.{Drawing}
use Rattle.scan_signals.specs.Blocks.{new_block}
use Rattle.scan_signals.specs.Three.{three, three_allows}
use Rattle.scan_signals.specs.Truth.{plain}
use Rattle.scan_signals.specs.declared.block.Stored.{Stored}
use Rattle.scan_signals.specs.declared.tri.Tri.{Tri}
use Rattle.scan_signals.specs.declared.tri.Tri.TheVariants.{Off, On, Unsure}
use Rattle.scan_cycle.specs.Programs.{diagram_of}
use Rattle.scan_cycle.specs.Rung.{Held}
use Rattle.scan_cycle.specs.Scan.{after_scan}
use Rattle.scan_symbolic.specs.KnownLaws.{BothKnown, KnownIsScan, ScanKeeps}
use Rattle.scan_symbolic.specs.KnownScan.{Known, all_known, kept_at, plainly}
use Rattle.scan_symbolic.proofs.Lists.{get_both, map_same}
use Rattle.invariant_cases.specs.Allowing.{Allows, AllowsState}
use Rattle.invariant_cases.specs.Cases.{told}
use Rattle.invariant_cases.specs.Outcomes.{MayStore, outcomes}
use Rattle.invariant_cases.specs.declared.outcome.Outcome.{Outcome}
use Rattle.invariant_cases.specs.declared.outcome.Outcome.TheVariants.{Anything}
use Rattle.invariant_cases.specs.declared.point.Point.TheVariants as point
use Rattle.invariant_cases.proofs.Settling.{both_at}
use Rattle.diff_cases.specs.Cases.{AreKnownAlike, after}

abbrev pub stored_in : Held → ℕ → Stored
stored_in h inst = get_or (map (λ s. s) h.kept.blocks) inst (new_block Ton)

abbrev pub MayStoreAt : Drawing → ℕ → ℕ → Outcome → Stored → Type 0
MayStoreAt p now inst = MayStore ((diagram_of p).kind inst) ((diagram_of p).preset inst) now

pub may_store : (p : Drawing) (now : ℕ) (k : Known Tri Outcome) (h : Held) → AllowsState p now k h → (inst : ℕ) → MayStoreAt p now inst (kept_at outcomes k inst) (stored_in h inst)
may_store p now k h both inst =
    get_both (λ i. MayStore ((diagram_of p).kind i) ((diagram_of p).preset i) now) k.blocks (map (λ s. s) h.kept.blocks) both.blocks Anything (new_block Ton) (λ i. tt) inst

pub allowed_value : (p : Drawing) (now : ℕ) (k : Known Tri Outcome) (h : Held) → AllowsState p now k h → (var : ℕ) → three_allows (told (point.Variable var) k) 0 (get_or h.values var false)
unfolding told
allowed_value p now k h both var =
    subst (λ (vs : List Bool). three_allows (get_or k.values var Off) 0 (get_or vs var false)) (map_same h.values)
    ((both_at Allows k.values (map (λ v. v) h.values) both.values Off false (tt, λ _. refl) var).1 refl)

pub allowed_memory : (p : Drawing) (now : ℕ) (k : Known Tri Outcome) (h : Held) → AllowsState p now k h → (number : ℕ)
    → three_allows (told (point.Memory number) k) 0 (get_or h.kept.memories number false)
unfolding told
allowed_memory p now k h both number =
    subst (λ (vs : List Bool). three_allows (get_or k.memories number Off) 0 (get_or vs number false)) (map_same h.kept.memories)
    ((both_at Allows k.memories (map (λ v. v) h.kept.memories) both.memories Off false (tt, λ _. refl) number).1 refl)

pub known_alike : (x y : Tri) (b c : Bool) → AreKnownAlike x y → three_allows x 0 b → three_allows y 0 c → b ≡ c
known_alike On y b c e r s = r ∙ sym (subst (λ (z : Tri). three_allows z 0 c) e s)
known_alike Off y b c e r s = r ∙ sym (subst (λ (z : Tri). three_allows z 0 c) e s)
known_alike Unsure y b c e r s = absurd e

-- what holds of the scans of a program
abbrev pub Keeps : Drawing → Type 0
Keeps p = (now : ℕ) → ScanKeeps (diagram_of p) three plain outcomes plainly Allows (λ inst. MayStore ((diagram_of p).kind inst) ((diagram_of p).preset inst) now) 0 now

pub scan_allows : (p : Drawing) → Keeps p → KnownIsScan (diagram_of p) → (now : ℕ) (k : Known Tri Outcome) (h : Held) → AllowsState p now k h
    → AllowsState p now (after p k) (after_scan (diagram_of p) now [] h)
scan_allows p keeps known now k h both =
    let d = diagram_of p in
    subst (λ (l : Known Bool Stored). BothKnown Allows (λ inst. MayStore (d.kind inst) (d.preset inst) now) (after p k) l)
    (known h now []) (keeps now [] [] tt k (all_known plain plainly h) both)

pub known_swaps : (x y : Tri) → AreKnownAlike x y → AreKnownAlike y x
known_swaps On y e = subst (λ (z : Tri). AreKnownAlike z On) (sym e) refl
known_swaps Off y e = subst (λ (z : Tri). AreKnownAlike z Off) (sym e) refl
known_swaps Unsure y e = absurd e
