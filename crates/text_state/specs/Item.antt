-- Private to the reading of a state: what the record of an instance says.
use Rattle.std.specs.Prelude.{◌≡◌, ℕ, List}
use Rattle.io_text.specs.Left.{Fields}
use Rattle.scan_signals.specs.declared.block.Stored.{Stored}
use Rattle.scan_cycle.specs.RungByRung.{IsPossible, shape}
use Rattle.text_state.specs.StateText.{block_record}

-- the record says that an instance of this name and shape stores this, and it can at this moment
pub record IsBlockRecord (name : List ℕ) (wanted : Stored) (moment : ℕ) (fields : Fields) (s : Stored) : Type 0 where
  pub same : fields ≡ block_record name s
  pub shape : shape s ≡ wanted
  pub possible : IsPossible moment s
