-- What is added to a table that remembers whether memory ran out.
use Rattle.std.specs.Prelude.{◌≡◌, ◌++◌, ℕ, IsTrue, List}
use Rattle.io_table.specs.declared.table.Table.{Table}

-- The text stands at the end, where memory never ran out.
pub record Adds (old new : Table ℕ) (text : List ℕ) : Type 0 where
  pub whole : IsTrue new.is_whole → IsTrue old.is_whole
  pub added : IsTrue new.is_whole → new.items.items ≡ old.items.items ++ text
