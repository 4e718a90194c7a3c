use Rattle.std.proofs.Common.{◌≡◌, ℕ, List, Option, Some, None, IfSome, IfNone, sym, ◌∙◌, arith}
use Rattle.std.proofs.lemmas.Grind.{common_steps}
use Rattle.diagram_declarations.specs.Duration.{IsDuration}
use Rattle.diagram_declarations.specs.ReadTimes.{time_of}
use Rattle.diagram_declarations.proofs.TimeLaws.{time_reads, time_takes}
use Rattle.diagram_declarations.proofs.time.read_time.Goals as goal

some_time : (o : Option ℕ) (text : List ℕ) → o ≡ time_of text → IfSome o (λ n. IsDuration text n)
some_time (Some n) text e = time_takes text n (sym e)
some_time None text e = tt

no_time : (o : Option ℕ) (text : List ℕ) → o ≡ time_of text → IfNone o ((n : ℕ) → IsDuration text n → ⊥)
no_time (Some n) text e = tt
no_time None text e = λ n is. let found : None ≡ Some n = e ∙ time_reads text n is in absurd cc

one_time : (o : Option ℕ) (text : List ℕ) → o ≡ time_of text → IfSome o (λ n. (m : ℕ) → IsDuration text m → m ≡ n)
one_time (Some n) text e = λ m is. let same : Some n ≡ Some m = e ∙ time_reads text m is in cc
one_time None text e = tt

pub returns-in_err-after_prefix-clause-none : goal.returns-in_err-after_prefix-clause-none
unfolding time_of
returns-in_err-after_prefix-clause-none c = no_time c.from_residual.result c.args.text.now (grind (arith, common_steps))

pub returns-in_err-total-clause-none : goal.returns-in_err-total-clause-none
unfolding time_of
returns-in_err-total-clause-none c = no_time c.from_residual-in_err-total.result c.args.text.now (grind (arith, common_steps))

pub returns-then-total-lt-CAP-clause-some : goal.returns-then-total-lt-CAP-clause-some
unfolding time_of
returns-then-total-lt-CAP-clause-some c = some_time (Some c.in_ok-total.total) c.args.text.now (grind (arith, common_steps))

pub returns-then-total-lt-CAP-clause-only : goal.returns-then-total-lt-CAP-clause-only
unfolding time_of
returns-then-total-lt-CAP-clause-only c = one_time (Some c.in_ok-total.total) c.args.text.now (grind (arith, common_steps))

pub returns-else-total-lt-CAP-clause-none : goal.returns-else-total-lt-CAP-clause-none
unfolding time_of
returns-else-total-lt-CAP-clause-none c = no_time None c.args.text.now (grind (arith, common_steps))
