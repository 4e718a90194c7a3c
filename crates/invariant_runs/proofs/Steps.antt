-- What stays so is still so where inputs are given, and after one scan.
use Rattle.std.proofs.Common.{◌≡◌, ◌∙◌, Bool, false, List, [], ◌∷◌, get_or, map}
use Rattle.diagram_declarations.specs.Decls.{is_input}
use Rattle.diagram_program.specs.Program.{Drawing}
use Rattle.scan_cycle.specs.Programs.{diagram_of}
use Rattle.scan_cycle.specs.Rung.{Held}
use Rattle.scan_cycle.specs.Runs.{OneScan, after_each}
use Rattle.scan_cycle.specs.Standing.{Fits, IsStanding, Standing}
use Rattle.invariant_sets.specs.Invariants.{IsStaying, StaysForEver}
use Rattle.invariant_sets.specs.Never.{IsSetOf, IsSo, claims}
use Rattle.invariant_sets.specs.Pairs.{IsPairOutside}
use Rattle.invariant_sets.specs.declared.staying.Staying.{Staying}
use Rattle.invariant_sets.proofs.ForEver.{begun, begun_apart}
use Rattle.invariant_sets.proofs.Listed.{given_same, no_input_in}
use Rattle.invariant_runs.specs.Staying.{IsStayingOf, StaysSo}
use Rattle.invariant_runs.proofs.Running.{next}

-- What stays so from a state on is said of the program's own variables and instances.
pub of_program : (p : Drawing) (s : Standing) (staying : Staying) → IsStaying p s staying → IsStayingOf p staying
of_program p s staying is = record { set = is.steady.set; apart = is.apart.outside }

-- It is so in that state.
pub so_there : (p : Drawing) (s : Standing) (staying : Staying) → IsStaying p s staying → StaysSo staying s.held
so_there p s staying is = record { so = is.steady.so; apart = is.apart.apart }

pub so_begun : (p : Drawing) (staying : Staying) → IsStayingOf p staying → (inputs : List Bool) (h : Held) → StaysSo staying h → StaysSo staying (begun p inputs h)
unfolding diagram_of
so_begun p staying of inputs h stays =
    let z = staying.steady in
    let flags = map is_input p.decls.vars in
    record {
      so = record {
        variables = λ var value m.
            given_same flags inputs h.values var (no_input_in (get_or flags var false) value (claims z.variables var) (of.set.no_input var) m)
            ∙ stays.so.variables var value m;
        instances = stays.so.instances;
      };
      apart = begun_apart p z staying.apart of.apart h stays.apart inputs;
    }

-- From any state in which it is so, one scan leaves it so: it is settled.
pub so_next : (p : Drawing) → StaysForEver p → (start : Standing) (staying : Staying) → IsStaying p start staying → (s : Standing) → Fits p s → IsStanding s
    → StaysSo staying s.held → (scan : OneScan) → StaysSo staying (next p scan s).held
unfolding after_each
so_next p law start staying is s fits standing stays scan =
    let still = law s fits standing staying.steady is.steady.set stays.so staying.apart
    (record { outside = is.apart.outside; apart = stays.apart; excluded = is.apart.excluded }) is.steady.settled (scan ∷ []) in
    record { so = still.0; apart = still.1 }
