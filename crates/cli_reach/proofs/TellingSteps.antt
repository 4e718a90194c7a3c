-- Lines that tell how far a search is, one after the other.
use Rattle.std.proofs.Common.{◌≡◌, ◌∙◌, ◌++◌, ◌∷◌, [], ℕ, zero, suc, Bool, true, List, Ok, Err, append-nil, ap, arith, inl, inr, refl, subst, sym}
use Rattle.std.specs.List.{All, flat_map}
use Rattle.std.proofs.lemmas.Grind.{flat_map-append}
use Rattle.std.proofs.lemmas.List.Elements.{All-append}
use Rattle.io_text.specs.declared.fault.WriteFault.{WriteFault}
use Rattle.io_text.specs.Log.{PutsAll, PutsPrefix, WriteLog}
use Rattle.io_text.proofs.Puts.{puts_more, puts_none}
use Rattle.cli_inputs.proofs.Ends.{all_same, prefix_next, prefix_same}
use Rattle.reach_runs.specs.Asking.{RunQuestion, StaysOff}
use Rattle.reach_search.specs.declared.seeking.Sought.{Sought}
use Rattle.cli_reach.specs.Telling.{Step, TellsOne, TellsSearch, TellsSteps, step_line}
use Rattle.cli_reach.specs.declared.seeking.SearchFault.{SearchFault}
use Rattle.cli_reach.specs.declared.seeking.SearchFault.TheVariants.{Memory, Write}

-- the text with one line more
text_more : (steps : List Step) (s : Step) → flat_map step_line steps ++ step_line s ≡ flat_map step_line (steps ++ s ∷ [])
text_more steps s =
    ap (λ text. flat_map step_line steps ++ text) (sym (append-nil (step_line s))) ∙ sym (flat_map-append step_line steps (s ∷ []))

off_one : (q : RunQuestion) (s : Step) → StaysOff q s.scans → All (λ s. StaysOff q s.scans) (s ∷ [])
off_one q s off zero d there = off
off_one q s off (suc k) d there = absurd (omega (arith, there))

off_more : (q : RunQuestion) (steps : List Step) (s : Step) → All (λ s. StaysOff q s.scans) steps → StaysOff q s.scans
    → All (λ s. StaysOff q s.scans) (steps ++ s ∷ [])
off_more q steps s all off = All-append (λ s. StaysOff q s.scans) steps (s ∷ []) all (off_one q s off)

-- before the search
pub tells_none : (lines : Bool) (q : RunQuestion) (a : WriteLog) → TellsSteps lines q (PutsAll a a)
tells_none lines q a = record { steps = []; off = λ k d there. absurd (omega (arith, there)); none = λ h. refl; written = puts_none a }

-- A step of the search may tell one line more.
pub tells_more : (lines : Bool) (q : RunQuestion) (a b c : WriteLog) (u : Unit {0}) → TellsSteps lines q (PutsAll a b)
    → TellsOne lines q b c (Ok u) → TellsSteps lines q (PutsAll a c)
tells_more lines q a b c u told (inl (is, same)) = subst (λ (end : WriteLog). TellsSteps lines q (PutsAll a end)) (sym same) told
tells_more lines q a b c u told (inr (s, asked, off, put)) = record {
  steps = told.steps ++ s ∷ [];
  off = off_more q told.steps s told.off off;
  none = λ h. cc;
  written = all_same a c _ _ (text_more told.steps s) (puts_more a b c (flat_map step_line told.steps) (step_line s) told.written put);
}

-- The line of a step is cut off.
pub tells_cut : (lines : Bool) (q : RunQuestion) (a b c : WriteLog) (f : WriteFault) → TellsSteps lines q (PutsAll a b)
    → TellsOne lines q b c (Err f) → (lines ≡ true) × TellsSteps lines q (PutsPrefix a c)
tells_cut lines q a b c f told (inl (is, same)) = cc
tells_cut lines q a b c f told (inr (s, asked, off, put)) = (
  asked,
  record {
    steps = told.steps ++ s ∷ [];
    off = off_more q told.steps s told.off off;
    none = λ h. cc;
    written = prefix_same a c _ _ (text_more told.steps s) (prefix_next a b c (flat_map step_line told.steps) (step_line s) told.written put);
  },
)

-- The line of what is found, behind those of the search.
pub tells_last : (lines : Bool) (q : RunQuestion) (a b c : WriteLog) (line : List ℕ) → TellsSteps lines q (PutsAll a b) → PutsAll b c line
    → TellsSteps lines q (λ before. PutsAll a c (before ++ line))
tells_last lines q a b c line told put = record {
  steps = told.steps;
  off = told.off;
  none = told.none;
  written = puts_more a b c (flat_map step_line told.steps) line told.written put;
}

pub tells_last_cut : (lines : Bool) (q : RunQuestion) (a b c : WriteLog) (line : List ℕ) → TellsSteps lines q (PutsAll a b) → PutsPrefix b c line
    → TellsSteps lines q (λ before. PutsPrefix a c (before ++ line))
tells_last_cut lines q a b c line told put = record {
  steps = told.steps;
  off = told.off;
  none = told.none;
  written = prefix_next a b c (flat_map step_line told.steps) line told.written put;
}

-- All lines of a search that was out of memory.
pub told_till : (lines : Bool) (q : RunQuestion) (a b : WriteLog) (f : SearchFault) → f ≡ Memory → TellsSearch {T = Sought} lines q a b (Err f)
    → TellsSteps lines q (PutsAll a b)
told_till lines q a b Memory is told = told
told_till lines q a b Write is told = cc
