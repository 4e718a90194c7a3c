use Rattle.std.proofs.Common.{subst, sym}
use Rattle.std.specs.Prelude.{option_map}
use Rattle.causes_any_state.specs.Possible.{PossibleCursor}
use Rattle.causes_in_runs.specs.Rows.{AllCount}
use Rattle.cli_states.proofs.RunEnds.{all_count}
use Rattle.cli_states.proofs.reached_asking.run_causes_of.Goals as goal

pub new-requires-clause-counts : goal.new-requires-clause-counts
new-requires-clause-counts c =
    let asked = c.args.asked.now in
    let assumed = option_map (λ e. e.now) c.args.assumed in
    let made = c.in_ok-causes.ensures.cursor in
    subst (λ (x : PossibleCursor). AllCount x.assumed x.program asked.state x.states) (sym made.same)
    (all_count asked.program asked.state c.allowed_where_given.ensures c.requires.fits c.args.request.now.reachable assumed made.staying made.stays)
