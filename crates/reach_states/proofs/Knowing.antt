-- What is known of a state without moments allows the state.
use Rattle.std.proofs.Common.{◌≡◌, ◌∙◌, ℕ, ◌-◌, ◌<◌, ◌≤◌, min, Bool, true, false, List, [], ◌∷◌, get_or, length, map, zero, suc, refl, sym, ap, subst, arith}
use Rattle.std.specs.Prelude.{option_map, slice_get, unwrap_or}
use Rattle.std.proofs.lemmas.Bool.Decides.{nat_tests}
use Rattle.std.proofs.lemmas.List.{length-map}
use Rattle.std.proofs.lemmas.Option.{slice_get-get_or}
use Rattle.diagram_declarations.specs.declared.decls.Instance.{Instance}
use Rattle.diagram_declarations.specs.declared.kind.BlockKind.{BlockKind}
use Rattle.diagram_declarations.specs.declared.kind.BlockKind.TheVariants.{Ton}
use Rattle.diagram_program.specs.Program.{Drawing}
use Rattle.scan_signals.specs.Blocks.{new_block}
use Rattle.scan_signals.specs.Relations.{Both}
use Rattle.scan_signals.specs.declared.block.Stored.{Stored}
use Rattle.scan_signals.specs.declared.block.Stored.TheVariants as stored
use Rattle.scan_signals.specs.Three.{three_known}
use Rattle.scan_signals.specs.declared.tri.Tri.{Tri}
use Rattle.scan_cycle.specs.Programs.{diagram_of}
use Rattle.scan_cycle.specs.Standing.{CanStore, Fits, IsStanding, Standing}
use Rattle.scan_symbolic.specs.KnownScan.{Known}
use Rattle.scan_symbolic.proofs.Lists.{each_both, map_same}
use Rattle.invariant_cases.specs.Allowing.{Allows}
use Rattle.reach_runs.specs.declared.timing.Timing.{Timing}
use Rattle.reach_runs.specs.declared.timing.Timing.TheVariants.{AnyMoments, Every}
use Rattle.reach_states.specs.Allowing.{AllowsState, HasRun, MayBe}
use Rattle.reach_states.specs.Untimed.{untimed_of}
use Rattle.reach_states.specs.UntimedLaws.{known_allows, off_on}
use Rattle.reach_states.specs.declared.untimed.Untimed.{Untimed}
use Rattle.reach_states.specs.declared.untimed.Untimed.TheVariants.{Anything}

-- ---- one instance
has_run : (timing : Timing) (preset now start : ℕ) → start ≤ now → HasRun timing now preset (min (now - start) preset) start
has_run AnyMoments preset now start le = grind (arith, nat_tests)
has_run (Every every) preset now start le = (le, refl)

-- where a timer runs, for how long is kept
timer_allows : (timing : Timing) (kind : BlockKind) (preset now : ℕ) (last running : Bool) (start : ℕ) (q : Bool) → new_block kind ≡ stored.Timer false false 0 false → start ≤ now
    → MayBe (HasRun timing now preset) kind preset (untimed_of kind preset now (stored.Timer last running start q)) (stored.Timer last running start q)
timer_allows timing kind preset now last true start q timer le = (timer, refl, refl, refl, λ e. has_run timing preset now start le)
timer_allows timing kind preset now last false start q timer le = (timer, refl, refl, refl, λ e. absurd (off_on e))

instance_allows : (timing : Timing) (kind : BlockKind) (preset now moment : ℕ) (s : Stored) → moment ≤ now → CanStore kind moment s
    → MayBe (HasRun timing now preset) kind preset (untimed_of kind preset now s) s
instance_allows timing kind preset now moment (stored.Timer last running start q) le can = timer_allows timing kind preset now last running start q can.0 (omega (arith, can.1, le))
instance_allows timing kind preset now moment (stored.Counter last cv q) le can = (can.0, refl, refl, refl)
instance_allows timing kind preset now moment (stored.Bistable q) le can = (sym can, known_allows q)

-- ---- all of a state
values_allow : (vs : List Bool) → Both Allows (map three_known vs) (map (λ v. v) vs)
values_allow [] = tt
values_allow (v ∷ vs) = ((tt, λ _. known_allows v), values_allow vs)

kind_of : (instances : List Instance) (i : ℕ) → unwrap_or (option_map (λ x. x.kind) (slice_get instances i)) Ton ≡ get_or (map (λ x. x.kind) instances) i Ton
kind_of [] i = refl
kind_of (x ∷ instances) zero = refl
kind_of (x ∷ instances) (suc i) = kind_of instances i

diagram_kind : (p : Drawing) (i : ℕ) → (diagram_of p).kind i ≡ get_or (map (λ x. x.kind) p.decls.instances) i Ton
unfolding diagram_of
diagram_kind p i = kind_of p.decls.instances i

pub instances : (p : Drawing) (s : Standing) → Fits p s → IsStanding s → length s.held.kept.blocks ≡ length p.decls.instances
instances p s fits standing = standing.sound.as_many ∙ ap length fits.kinds ∙ length-map p.decls.instances (λ i. i.kind)

can_store : (p : Drawing) (s : Standing) → Fits p s → IsStanding s → (i : ℕ) → i < length p.decls.instances
    → CanStore ((diagram_of p).kind i) s.moment (get_or s.held.kept.blocks i (new_block Ton))
can_store p s fits standing i lt =
    let blocks = instances p s fits standing in
    let kinds = standing.sound.as_many in
    let below_blocks : i < length s.held.kept.blocks = omega arith in
    let below_kinds : i < length s.kinds = omega arith in
    let same : get_or s.kinds i Ton ≡ (diagram_of p).kind i = ap (λ (ks : List BlockKind). get_or ks i Ton) fits.kinds ∙ sym (diagram_kind p i) in
    subst (λ (kind : BlockKind). CanStore kind s.moment (get_or s.held.kept.blocks i (new_block Ton))) same
    (standing.sound.each i (get_or s.kinds i Ton) (get_or s.held.kept.blocks i (new_block Ton)) (slice_get-get_or s.kinds i Ton below_kinds)
    (slice_get-get_or s.held.kept.blocks i (new_block Ton) below_blocks))

-- All values and memories are known, and of each instance what is kept without a moment.
pub record KnowsUntimed (p : Drawing) (s : Standing) (now : ℕ) (k : Known Tri Untimed) : Type 0 where
  pub values : k.values ≡ map three_known s.held.values
  pub memories : k.memories ≡ map three_known s.held.kept.memories
  pub many : length k.blocks ≡ length p.decls.instances
  pub each : (i : ℕ) → i < length p.decls.instances
      → get_or k.blocks i Anything ≡ untimed_of ((diagram_of p).kind i) ((diagram_of p).preset i) now (get_or s.held.kept.blocks i (new_block Ton))

pub untimed_allows : (p : Drawing) (s : Standing) (now : ℕ) (k : Known Tri Untimed) → Fits p s → IsStanding s → s.moment ≤ now → KnowsUntimed p s now k
    → (timing : Timing) → AllowsState timing (diagram_of p) now k s.held
untimed_allows p s now k fits standing le knows timing =
    let d = diagram_of p in
    let blocks = s.held.kept.blocks in
    let many = instances p s fits standing in
    let same_blocks = map_same blocks in record {
      values = subst (λ (xs : List Tri). Both Allows xs (map (λ v. v) s.held.values)) (sym knows.values) (values_allow s.held.values);
      memories = subst (λ (xs : List Tri). Both Allows xs (map (λ v. v) s.held.kept.memories)) (sym knows.memories) (values_allow s.held.kept.memories);
      blocks = each_both (λ inst. MayBe (HasRun timing now (d.preset inst)) (d.kind inst) (d.preset inst)) k.blocks (map (λ x. x) blocks)
          (knows.many ∙ sym many ∙ sym (ap length same_blocks)) Anything (new_block Ton)
          (λ i lt. let below : i < length p.decls.instances = omega (arith, lt, knows.many) in
          subst (λ (b : Untimed). MayBe (HasRun timing now (d.preset i)) (d.kind i) (d.preset i) b (get_or (map (λ x. x) blocks) i (new_block Ton))) (sym (knows.each i below))
          (subst (λ (ss : List Stored). MayBe (HasRun timing now (d.preset i)) (d.kind i) (d.preset i) (untimed_of (d.kind i) (d.preset i) now (get_or blocks i (new_block Ton))) (get_or ss i (new_block Ton)))
          (sym same_blocks)
          (instance_allows timing (d.kind i) (d.preset i) now s.moment (get_or blocks i (new_block Ton)) le (can_store p s fits standing i below))));
    }
