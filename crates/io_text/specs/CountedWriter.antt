-- The log of a writer of std, by what it has taken.
use Rattle.std.specs.Prelude.{ℕ, List, Option}
use Rattle.io_text.specs.declared.sink.CountedWriter.{CountedWriter}
use Rattle.io_text.specs.Log.{WriteLog}

abbrev pub writing_log : {W : Type 0} → (W → Option (List ℕ)) → CountedWriter W → WriteLog
writing_log contents s = record { contents = contents s.inner; tally = s.tally }
