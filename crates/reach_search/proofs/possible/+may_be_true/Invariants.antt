use Rattle.reach_search.proofs.possible.+may_be_true.Given as goal

abbrev pub decreases-may_be_true : goal.decreases-may_be_true
decreases-may_be_true l = l.left
