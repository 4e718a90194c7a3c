use Rattle.std.proofs.Common.{refl}
use Rattle.clap.specs.Words.{found_of, rows_of}
use Rattle.cli_arguments.proofs.Faults.{none_named, none_named_first, some_named, some_named_first}
use Rattle.cli_arguments.proofs.showing.names_inputs.Goals as goal

pub returns-then-is_given-clause-some : goal.returns-then-is_given-clause-some
returns-then-is_given-clause-some c = λ set. some_named (rows_of (found_of c.args.found.now)) (c.if-is_given.ensures.given refl).0

pub returns-then-is_given-2-clause-none : goal.returns-then-is_given-2-clause-none
returns-then-is_given-2-clause-none c = λ absent.
    none_named_first (rows_of (found_of c.args.found.now)) (c.if-is_given.ensures.absent refl).0 (c.is_given-then-is_given-2.ensures.absent absent).0

pub returns-then-is_given-2-clause-some : goal.returns-then-is_given-2-clause-some
returns-then-is_given-2-clause-some c = λ given.
    some_named_first (rows_of (found_of c.args.found.now)) (c.if-is_given-2.ensures.given refl).0 (c.is_given-then-is_given-2.ensures.given given).0

pub returns-else-is_given-2-clause-none : goal.returns-else-is_given-2-clause-none
returns-else-is_given-2-clause-none c = λ absent.
    none_named (rows_of (found_of c.args.found.now)) (c.if-is_given.ensures.absent refl).0 (c.is_given-2.ensures.absent absent).0
