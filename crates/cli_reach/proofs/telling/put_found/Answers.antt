use Rattle.io_text.proofs.Sending.{puts_err}
use Rattle.cli_inputs.proofs.Ends.{puts_cut, puts_next}
use Rattle.cli_reach.specs.Finding.{found_words, states_words}
use Rattle.cli_reach.proofs.telling.put_found.Goals as goal

pub returns-in_err-put_words : goal.returns-in_err-put_words
returns-in_err-put_words g c =
    puts_err _ _ _ _ c.from_residual.ensures.0 (puts_cut _ _ (found_words c.args.found) (states_words c.args.states c.args.assumed) c.in_err-put_words.ensures)

pub returns : goal.returns
returns g c = puts_next _ _ _ (found_words c.args.found) (states_words c.args.states c.args.assumed) c.put_states.result c.in_ok-put_words.ensures c.put_states.ensures
