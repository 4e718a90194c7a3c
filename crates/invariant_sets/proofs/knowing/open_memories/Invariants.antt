use Rattle.std.proofs.Common.{◌≡◌, length, replicate, take}
use Rattle.scan_signals.specs.declared.tri.Tri.TheVariants.{Unsure}
use Rattle.invariant_sets.proofs.knowing.open_memories.Given as goal

abbrev pub invariant-loop-number : goal.invariant-loop-number
invariant-loop-number l = record {
  known : l.known ≡ record l.fn.known { memories = l.known.memories };
  many : length l.known.memories ≡ l.count;
  done : take l.number l.known.memories ≡ replicate l.number Unsure;
}
