use Rattle.std.proofs.Common.{subst, sym}
use Rattle.std.specs.Prelude.{option_map}
use Rattle.causes_any_state.specs.Possible.{AreStatesOf}
use Rattle.causes_any_state.specs.declared.states.States.{States}
use Rattle.cli_states.proofs.PossibleEnds.{states_of}
use Rattle.cli_states.proofs.possible_asking.causes_of.Goals as goal

pub assuming-requires : goal.assuming-requires
assuming-requires c =
    let of = states_of c.args.request.now.reachable c.args.off (option_map (λ e. e.now) c.args.assumed) c.args.asked.now.program c.args.asked.now.state c.in-Ok.staying c.in-Ok.ensures in
    record { states = subst (λ (x : States). AreStatesOf c.args.asked.now.program x) (sym c.counted-states.ensures) of }
