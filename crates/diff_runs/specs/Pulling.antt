-- The runs of two programs that a run of a program has in it in which they stand side by side.
use Rattle.std.specs.Prelude.{◌≡◌, ℕ, Bool, false, Contains, List, Some, length, map, slice_get, slice_index_or}
use Rattle.diagram_program.specs.Program.{Drawing}
use Rattle.scan_cycle.specs.Programs.{diagram_of}
use Rattle.scan_cycle.specs.Runs.{OneScan}
use Rattle.causes_query.specs.Assignment.{input_variables}
use Rattle.diff_matching.specs.declared.matching.Pair.{Pair}
use Rattle.diff_matching.specs.Matching.{Matching}
use Rattle.diff_matching.specs.Runs.{TwoScans}

-- the numbers of the inputs, in order of declaration
abbrev pub inputs_of : Drawing → List ℕ
inputs_of p = input_variables (diagram_of p).inputs

-- Of the input at this place among those of p: it is with the input at that place among those of b.
pub record IsPlace (m : Matching) (p b : Drawing) (place there : ℕ) : Type 0 where
  pub pair : Pair
  pub paired : Contains m.inputs pair
  pub old : slice_get (inputs_of p) place ≡ Some pair.old
  pub new : slice_get (inputs_of b) there ≡ Some pair.new

-- One place for each input of p, in order.
pub record ArePlaces (m : Matching) (p b : Drawing) (places : List ℕ) : Type 0 where
  pub as_many : length places ≡ length (inputs_of p)
  pub each : (n place : ℕ) → slice_get places n ≡ Some place → IsPlace m p b n place

-- the values at the places
abbrev pub pulled_values : List ℕ → List Bool → List Bool
pulled_values places values = map (λ place. slice_index_or values place false) places

-- the scan of one program in which each input takes the value that the input takes in it that it is with
abbrev pub pulled_scan : List ℕ → OneScan → OneScan
pulled_scan places scan = record { moment = scan.moment; inputs = pulled_values places scan.inputs }

-- the scans of both
abbrev pub pulled : List ℕ → List ℕ → OneScan → TwoScans
pulled old_places new_places scan = record {
  moment = scan.moment;
  old = pulled_values old_places scan.inputs;
  new = pulled_values new_places scan.inputs;
}
