-- What is known of the step of an instance allows what a scan leaves in it.
use Rattle.std.proofs.Common.{◌≡◌, ℕ, Bool, cond, List, [], ◌∷◌, get_or, suc, map, refl, sym, ap, subst}
use Rattle.diagram_declarations.specs.declared.kind.BlockKind.{BlockKind}
use Rattle.diagram_declarations.specs.declared.kind.BlockKind.TheVariants.{Ton}
use Rattle.diagram_program.specs.Program.{Drawing}
use Rattle.scan_signals.specs.Blocks.{new_block, step}
use Rattle.scan_signals.specs.Relations.{AllowsAt, allows_kept}
use Rattle.scan_signals.specs.Three.{AnyTri, three, three_allows}
use Rattle.scan_signals.specs.ThreeLaws.{three_allowed, three_lattice}
use Rattle.scan_signals.specs.Truth.{OnePlace, plain}
use Rattle.scan_signals.specs.declared.block.Stored.{Stored}
use Rattle.scan_signals.specs.declared.tri.Tri.{Tri}
use Rattle.scan_signals.specs.declared.tri.Tri.TheVariants.{Off, On, Unsure}
use Rattle.scan_cycle.specs.Cells.{Diagram}
use Rattle.scan_cycle.specs.Programs.{diagram_of}
use Rattle.scan_cycle.specs.Rung.{Held}
use Rattle.scan_cycle.specs.Scan.{after_scan}
use Rattle.scan_symbolic.specs.KnownLaws.{BothAt, BothKnown, KnownIsScan, StepsKeep}
use Rattle.scan_symbolic.specs.KnownScan.{Known, all_known, plainly}
use Rattle.scan_symbolic.proofs.KnownKept.{scan_keeps}
use Rattle.scan_symbolic.proofs.Lists.{get_both}
use Rattle.invariant_cases.specs.Allowing.{Allows, AllowsState}
use Rattle.invariant_cases.specs.OutcomeLaws.{outcomes_keep}
use Rattle.invariant_cases.specs.Outcomes.{MayStore}
use Rattle.invariant_cases.specs.declared.outcome.Outcome.{Outcome}
use Rattle.invariant_cases.specs.declared.outcome.Outcome.TheVariants.{Anything}
use Rattle.diff_cases.specs.Traces.{all_unstepped, trace_after, trace_choice, trace_of, traced_after, traces, unstepped}
use Rattle.diff_cases.proofs.Scanned.{stored_in}
use Rattle.diff_cases.specs.declared.trace.Trace.{Trace}
use Rattle.diff_cases.specs.declared.trace.Trace.TheVariants.{Open, Stepped, Unstepped}
use Rattle.diff_cases.specs.declared.trace.Traced.{Traced}

-- An instance of a kind and a preset that stored one thing before the scan may store another one after this step, at this moment.
abbrev pub MayLeave : BlockKind → ℕ → ℕ → Stored → Trace → Stored → Type 0
MayLeave kind preset moment s Unstepped now = now ≡ s
MayLeave kind preset moment s (Stepped x y) now = (u : Bool) × (v : Bool) × three_allows x 0 u × three_allows y 0 v × (now ≡ step kind preset s u v moment)
MayLeave kind preset moment s Open now = Unit {0}

step_leaves : (kind : BlockKind) (preset moment : ℕ) (before now : Stored) (t : Trace) (x y : Tri) (u v : Bool) → MayLeave kind preset moment before t now → three_allows x 0 u → three_allows y 0 v
    → MayLeave kind preset moment before (trace_after t x y) (step kind preset now u v moment)
step_leaves kind preset moment before now Unstepped x y u v h r s = (u, v, r, s, ap (λ (z : Stored). step kind preset z u v moment) h)
step_leaves kind preset moment before now (Stepped a b) x y u v h r s = tt
step_leaves kind preset moment before now Open x y u v h r s = tt

choice_leaves : (kind : BlockKind) (preset moment : ℕ) (before on off : Stored) (g : Tri) (b : Bool) (t u : Trace) → three_allows g 0 b → MayLeave kind preset moment before t on
    → MayLeave kind preset moment before u off → MayLeave kind preset moment before (trace_choice g t u) (cond b on off)
choice_leaves kind preset moment before on off On b t u r h k = subst (λ (c : Bool). MayLeave kind preset moment before t (cond c on off)) (sym r) h
choice_leaves kind preset moment before on off Off b t u r h k = subst (λ (c : Bool). MayLeave kind preset moment before u (cond c on off)) (sym r) k
choice_leaves kind preset moment before on off Unsure b t u r h k = tt

-- The same of all that is known of it.
abbrev IsTraced : (ℕ → BlockKind) → (ℕ → ℕ) → ℕ → (ℕ → Stored) → ℕ → Traced → Stored → Type 0
IsTraced kind preset moment before inst b s = MayStore (kind inst) (preset inst) moment b.outcome s × MayLeave (kind inst) (preset inst) moment (before inst) b.trace s

traces_keep : (d : Diagram) (moment : ℕ) (before : ℕ → Stored) → StepsKeep d traces plainly (AllowsAt AnyTri OnePlace three_allows 0) (IsTraced d.kind d.preset moment before) 0 moment
traces_keep d moment before =
    let keep = outcomes_keep moment d in
    record {
      past = λ inst. (tt, tt);
      q = λ inst b c h. keep.q inst b.outcome c h.0;
      step = λ inst b c x y s t h first second. (
        keep.step inst b.outcome c x y s t h.0 first second,
        step_leaves (d.kind inst) (d.preset inst) moment (before inst) c b.trace x y s t h.1 (first.1 refl) (second.1 refl),
      );
      choice = λ inst g h b e c f r p q. (
        keep.choice inst g h b.outcome e.outcome c f r p.0 q.0,
        choice_leaves (d.kind inst) (d.preset inst) moment (before inst) c f g h b.trace e.trace (r.1 refl) p.1 q.1,
      );
    }

-- before the scan each stores what it stored
begun : (kind : ℕ → BlockKind) (preset : ℕ → ℕ) (moment : ℕ) (before : ℕ → Stored) (bs : List Outcome) (ss : List Stored) → BothAt (λ i. MayStore (kind i) (preset i) moment) bs ss
    → ((i : ℕ) → get_or ss i (new_block Ton) ≡ before i) → BothAt (IsTraced kind preset moment before) (map unstepped bs) ss
begun kind preset moment before [] [] h e = tt
begun kind preset moment before [] (s ∷ ss) h e = absurd h
begun kind preset moment before (b ∷ bs) [] h e = absurd h
begun kind preset moment before (b ∷ bs) (s ∷ ss) h e =
    ((h.0, e 0), begun (λ i. kind (suc i)) (λ i. preset (suc i)) moment (λ i. before (suc i)) bs ss h.1 (λ i. e (suc i)))

-- What an instance stores after the scan is what its step leaves of what it stored.
pub scan_leaves : (p : Drawing) → KnownIsScan (diagram_of p) → (now : ℕ) (k : Known Tri Outcome) (h : Held) → AllowsState p now k h → (inst : ℕ)
    → MayLeave ((diagram_of p).kind inst) ((diagram_of p).preset inst) now (stored_in h inst) (trace_of inst (traced_after p k)) (stored_in (after_scan (diagram_of p) now [] h) inst)
scan_leaves p known now k h both inst =
    let d = diagram_of p in
    let before : ℕ → Stored = λ i. get_or (map (λ s. s) h.kept.blocks) i (new_block Ton) in
    let Q = IsTraced d.kind d.preset now before in
    let after : BothKnown Allows Q (traced_after p k) (all_known plain plainly (after_scan d now [] h)) =
    subst (λ (l : Known Bool Stored). BothKnown Allows Q (traced_after p k) l) (known h now [])
    (scan_keeps three plain traces plainly Allows Q 0 now d (allows_kept AnyTri three OnePlace three_allows three_lattice three_allowed 0) (traces_keep d now before)
    [] [] tt (all_unstepped k) (all_known plain plainly h)
    (record {
      values = both.values;
      memories = both.memories;
      blocks = begun d.kind d.preset now before k.blocks (map (λ s. s) h.kept.blocks) both.blocks (λ i. refl);
    })) in
    (get_both Q (traced_after p k).blocks (map (λ s. s) (after_scan d now [] h).kept.blocks) after.blocks (record { outcome = Anything; trace = Open }) (new_block Ton) (λ i. (tt, tt)) inst).1
