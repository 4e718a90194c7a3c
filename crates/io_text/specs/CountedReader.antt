-- The log of a reader of std, by what it has left.
use Rattle.std.specs.Prelude.{ℕ, List, Option}
use Rattle.io_text.specs.declared.source.CountedReader.{CountedReader}
use Rattle.io_text.specs.Log.{ReadLog}

abbrev pub reading_log : {R : Type 0} → (R → Option (List ℕ)) → CountedReader R → ReadLog
reading_log remaining s = record { remaining = remaining s.inner; tally = s.tally }
