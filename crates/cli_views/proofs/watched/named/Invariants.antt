use Rattle.std.proofs.Common.{false, map, string_bytes, take}
use Rattle.cli_views.specs.Watched.{AreWatched}
use Rattle.cli_views.proofs.watched.named.Given as goal

abbrev pub invariant-loop-word : goal.invariant-loop-word
invariant-loop-word l = AreWatched l.decls false (map string_bytes (take l.word-index l.words)) l.watched.items
