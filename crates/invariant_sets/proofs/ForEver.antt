-- A set and pairs that a scan leaves so are so after any scans.
use Rattle.std.proofs.Common.{◌≡◌, ◌∙◌, ◌&&◌, ℕ, Bool, true, false, List, [], ◌∷◌, map, get_or, length, zero, suc, refl, sym, ap, subst}
use Rattle.std.proofs.lemmas.List.{length-map}
use Rattle.std.specs.Prelude.{All, slice_get, unwrap_or, option_map}
use Rattle.diagram_declarations.specs.declared.kind.BlockKind.TheVariants.{Ton}
use Rattle.diagram_declarations.specs.Decls.{is_input}
use Rattle.diagram_declarations.specs.declared.decls.Instance.{Instance}
use Rattle.diagram_declarations.specs.declared.decls.Symbol.{Symbol}
use Rattle.diagram_declarations.specs.declared.decls.Symbol.TheVariants as symbol
use Rattle.diagram_program.specs.Program.{Drawing, memories_of}
use Rattle.scan_signals.specs.Blocks.{new_block}
use Rattle.scan_signals.specs.Truth.{plain}
use Rattle.scan_cycle.specs.Programs.{diagram_of, IsSound}
use Rattle.scan_cycle.specs.Rung.{Held}
use Rattle.scan_cycle.specs.RungByRung.{scanned, shape}
use Rattle.scan_cycle.specs.Scan.{after_scan, evaluated_from, given}
use Rattle.scan_cycle.specs.Standing.{Standing, Fits, IsStanding}
use Rattle.scan_cycle.proofs.ByList.{scanned_is}
use Rattle.scan_cycle.proofs.Possible.{scanned_shapes, sound_shapes}
use Rattle.scan_cycle.proofs.Sizes.{scan_lengths, size-given}
use Rattle.scan_symbolic.specs.KnownScan.{plainly}
use Rattle.scan_symbolic.specs.KnownLaws.{KnownIsScan, ScanKeeps}
use Rattle.scan_signals.specs.Three.{three}
use Rattle.invariant_cases.specs.Allowing.{Allows, AllowsState, AreApart, are_both_on, is_on_in}
use Rattle.invariant_cases.specs.Assuming.{Assumed, IsTrueIn, nothing}
use Rattle.invariant_cases.specs.Cases.{IsSettledAssuming, of_itself, point_of}
use Rattle.invariant_cases.specs.Outcomes.{MayStore, outcomes}
use Rattle.invariant_cases.specs.declared.pair.Pair.{Pair}
use Rattle.invariant_cases.proofs.Settling.{settled_assuming}
use Rattle.invariant_sets.specs.Invariants.{AreAllowed, IsSettledSoAssuming, KnowingAllows, StaysAssuming, StaysForEver}
use Rattle.scan_cycle.specs.Runs.{OneScan, after_each}
use Rattle.invariant_sets.specs.Never.{Bits, IsSetOf, IsSo, claims, knowing}
use Rattle.invariant_sets.specs.Pairs.{ArePairsAssuming, IsOutside, IsPairOutside}
use Rattle.invariant_sets.proofs.Listed.{blocks_allow, given_none, given_same, memories_allow, no_input_in, values_allow}

kind_of : (instances : List Instance) (i : ℕ) → unwrap_or (option_map (λ x. x.kind) (slice_get instances i)) Ton ≡ get_or (map (λ x. x.kind) instances) i Ton
kind_of [] i = refl
kind_of (x ∷ instances) zero = refl
kind_of (x ∷ instances) (suc i) = kind_of instances i

diagram_kind : (p : Drawing) (i : ℕ) → (diagram_of p).kind i ≡ get_or (map (λ x. x.kind) p.decls.instances) i Ton
unfolding diagram_of
diagram_kind p i = kind_of p.decls.instances i

-- as many as the program has, each instance of its kind, and the set is so
pub record Holds (p : Drawing) (z : Bits) (h : Held) : Type 0 where
  pub values : length h.values ≡ length p.decls.vars
  pub memories : length h.kept.memories ≡ memories_of p
  pub shapes : map shape h.kept.blocks ≡ map new_block (map (λ i. i.kind) p.decls.instances)
  pub so : IsSo z h

pub knowing_holds : (p : Drawing) (z : Bits) → IsSetOf p z → (now : ℕ) (h : Held) → Holds p z h → AllowsState p now (knowing p z) h
knowing_holds p z set now h holds = record {
  values = values_allow z.variables h.values (set.variables ∙ sym holds.values) holds.so.variables;
  memories = memories_allow (memories_of p) h.kept.memories holds.memories;
  blocks = blocks_allow (diagram_of p).kind (diagram_of p).preset now (map (λ i. i.kind) p.decls.instances) z.instances h.kept.blocks (diagram_kind p)
      (set.instances ∙ sym (length-map p.decls.instances (λ i. i.kind))) holds.shapes holds.so.instances;
}

-- the inputs are given: from then on the scan is one that gives none
abbrev pub begun : Drawing → List Bool → Held → Held
begun p inputs h = record { values = given (diagram_of p).inputs inputs h.values; kept = h.kept }

pub scan_begun : (p : Drawing) (now : ℕ) (inputs : List Bool) (h : Held) → after_scan (diagram_of p) now [] (begun p inputs h) ≡ after_scan (diagram_of p) now inputs h
scan_begun p now inputs h =
    let d = diagram_of p in
    ap (λ (values : List Bool). evaluated_from d now d.rungs 0 (record { values = values; kept = h.kept })) (given_none d.inputs (given d.inputs inputs h.values))

pub holds_begun : (p : Drawing) (z : Bits) → IsSetOf p z → (inputs : List Bool) (h : Held) → Holds p z h → Holds p z (begun p inputs h)
unfolding diagram_of
holds_begun p z set inputs h holds = record {
  values = size-given (map is_input p.decls.vars) inputs h.values ∙ holds.values;
  memories = holds.memories;
  shapes = holds.shapes;
  so = record {
    variables = λ var value m.
        given_same (map is_input p.decls.vars) inputs h.values var (no_input_in (get_or (map is_input p.decls.vars) var false) value (claims z.variables var) (set.no_input var) m)
        ∙ holds.so.variables var value m;
    instances = holds.so.instances;
  };
}

both_same : (a b c d : Bool) → a ≡ c → b ≡ d → (a && b) ≡ (c && d)
both_same a b c d e f = ap (λ x. x && b) e ∙ ap (λ x. c && x) f

-- Inputs that are given leave apart what is none of them.
begun_same : (p : Drawing) (z : Bits) (s : Symbol) → IsOutside p z s → (inputs : List Bool) (h : Held) → is_on_in (point_of s) (begun p inputs h) ≡ is_on_in (point_of s) h
unfolding diagram_of
begun_same p z (symbol.Var var) o inputs h = given_same (map is_input p.decls.vars) inputs h.values var o.1
begun_same p z (symbol.Instance inst) o inputs h = refl

pub begun_apart : (p : Drawing) (z : Bits) (pairs : List Pair) → All (IsPairOutside p z) pairs → (h : Held) → AreApart pairs h → (inputs : List Bool) → AreApart pairs (begun p inputs h)
begun_apart p z pairs outside h apart inputs = λ k d l.
    both_same _ _ _ _ (begun_same p z (get_or pairs k d).first (outside k d l).first inputs h) (begun_same p z (get_or pairs k d).second (outside k d l).second inputs h)
    ∙ apart k d l

twice : (b value : Bool) → (b && b) ≡ value → b ≡ value
twice true value e = e
twice false value e = e

module _ (p : Drawing) (sound : IsSound (diagram_of p))
    (keeps : (now : ℕ) → ScanKeeps (diagram_of p) three plain outcomes plainly Allows (λ inst. MayStore ((diagram_of p).kind inst) ((diagram_of p).preset inst) now) 0 now)
    (known : KnownIsScan (diagram_of p)) (s : Standing) (z : Bits) (set : IsSetOf p z) (a : Assumed) (pairs : List Pair)
    (are : ArePairsAssuming p a s z pairs) (settled : IsSettledSoAssuming p a z pairs) where
  -- ---- what is settled of a target is so after a scan
  target_then : (target : Pair) (value : Bool) → IsSettledAssuming p a pairs target value (knowing p z) → (h : Held) → Holds p z h → AreApart pairs h
      → (now : ℕ) (inputs : List Bool) → IsTrueIn a (begun p inputs h) → are_both_on (after_scan (diagram_of p) now inputs h) target ≡ value
  target_then target value is h holds apart now inputs true_in =
      subst (λ (next : Held). are_both_on next target ≡ value) (scan_begun p now inputs h)
      (settled_assuming p keeps known a pairs target value (knowing p z) is now (begun p inputs h)
      (knowing_holds p z set now (begun p inputs h) (holds_begun p z set inputs h holds)) (begun_apart p z pairs are.outside h apart inputs) true_in)

  still_so : (h : Held) → Holds p z h → AreApart pairs h → (now : ℕ) (inputs : List Bool) → IsTrueIn a (begun p inputs h) → IsSo z (after_scan (diagram_of p) now inputs h)
  still_so h holds apart now inputs true_in = record {
    variables = λ var value m. twice _ value (target_then (of_itself (symbol.Var var)) value (settled.variables var value m) h holds apart now inputs true_in);
    instances = λ inst value m. twice _ value (target_then (of_itself (symbol.Instance inst)) value (settled.instances inst value m) h holds apart now inputs true_in);
  }

  still_apart : (h : Held) → Holds p z h → AreApart pairs h → (now : ℕ) (inputs : List Bool) → IsTrueIn a (begun p inputs h) → AreApart pairs (after_scan (diagram_of p) now inputs h)
  still_apart h holds apart now inputs true_in = λ k d l. target_then (get_or pairs k d) false (are.excluded k d l) h holds apart now inputs true_in

  still_holds : (h : Held) → Holds p z h → AreApart pairs h → (now : ℕ) (inputs : List Bool) → IsTrueIn a (begun p inputs h) → Holds p z (after_scan (diagram_of p) now inputs h)
  still_holds h holds apart now inputs true_in =
      let d = diagram_of p in
      let start : Held = record { values = given d.inputs inputs h.values; kept = h.kept } in
      let by_rungs : after_scan d now inputs h ≡ (scanned d now start d.rungs).held = sym (scanned_is d sound.forward now start) in
      let lengths = scan_lengths d now d.inputs inputs h start (after_scan d now inputs h) d.rungs refl by_rungs in
      record {
        values = lengths.values ∙ holds.values;
        memories = lengths.memories ∙ holds.memories;
        shapes = ap (λ (x : Held). map shape x.kept.blocks) by_rungs ∙ scanned_shapes d now start d.rungs ∙ holds.shapes;
        so = still_so h holds apart now inputs true_in;
      }

  -- ---- and after any scans in which what is assumed is true
  so_after : (scans : List OneScan) (h : Held) → AreAllowed p a scans h → Holds p z h → AreApart pairs h
      → IsSo z (after_each (diagram_of p) scans h) × AreApart pairs (after_each (diagram_of p) scans h)
  unfolding after_each
  so_after [] h allowed holds apart = (holds.so, apart)
  so_after (scan ∷ more) h allowed holds apart =
      so_after more (after_scan (diagram_of p) scan.moment scan.inputs h) allowed.1 (still_holds h holds apart scan.moment scan.inputs allowed.0)
      (still_apart h holds apart scan.moment scan.inputs allowed.0)

-- Where nothing is assumed any scans are allowed.
pub all_allowed : (p : Drawing) (scans : List OneScan) (h : Held) → AreAllowed p nothing scans h
all_allowed p [] h = tt
all_allowed p (scan ∷ more) h = (refl, all_allowed p more (after_scan (diagram_of p) scan.moment scan.inputs h))

pub standing_holds : (p : Drawing) (s : Standing) → Fits p s → IsStanding s → (z : Bits) → IsSo z s.held → Holds p z s.held
standing_holds p s fits standing z so = record {
  values = fits.values;
  memories = fits.memories;
  shapes = sound_shapes s.kinds s.held.kept.blocks s.moment standing.sound ∙ ap (map new_block) fits.kinds;
  so = so;
}

pub knowing_allows : (p : Drawing) → KnowingAllows p
knowing_allows p s fits standing z set so moment = knowing_holds p z set moment s.held (standing_holds p s fits standing z so)

pub stays_assuming : (p : Drawing) → IsSound (diagram_of p)
    → ((now : ℕ) → ScanKeeps (diagram_of p) three plain outcomes plainly Allows (λ inst. MayStore ((diagram_of p).kind inst) ((diagram_of p).preset inst) now) 0 now)
    → KnownIsScan (diagram_of p) → StaysAssuming p
stays_assuming p sound keeps known a s fits standing z set so pairs are settled scans allowed =
    so_after p sound keeps known s z set a pairs are settled scans s.held allowed (standing_holds p s fits standing z so) are.apart

pub stays_for_ever : (p : Drawing) → StaysAssuming p → StaysForEver p
stays_for_ever p stays s fits standing z set so pairs are settled scans = stays nothing s fits standing z set so pairs are settled scans (all_allowed p scans s.held)
