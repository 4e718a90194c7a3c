use Rattle.std.proofs.Common.{length, ◌+◌, ◌*◌}
use Rattle.st_program.proofs.statements.+statements.Given as goal

abbrev pub decreases-statements_at : goal.decreases-statements_at
decreases-statements_at l = 3 * length l.items.now + 1

abbrev pub decreases-select_at : goal.decreases-select_at
decreases-select_at l = 3 * length l.items.now

abbrev pub decreases-others_at : goal.decreases-others_at
decreases-others_at l = 3 * length l.items.now

abbrev pub decreases-with_others : goal.decreases-with_others
decreases-with_others l = 3 * length l.items.now + 1

abbrev pub decreases-otherwise_at : goal.decreases-otherwise_at
decreases-otherwise_at l = 3 * length l.items.now

abbrev pub decreases-last_at : goal.decreases-last_at
decreases-last_at l = 3 * length l.items.now + 2

abbrev pub decreases-choose_at : goal.decreases-choose_at
decreases-choose_at l = 3 * length l.items.now

abbrev pub decreases-choices_at : goal.decreases-choices_at
decreases-choices_at l = 3 * length l.items.now
