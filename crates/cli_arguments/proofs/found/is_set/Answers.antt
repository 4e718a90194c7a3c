use Rattle.std.proofs.Common.{◌≡◌, ◌∙◌, ap, bytes_eq, codes, sym, Bool, true, false, List, ℕ, Some}
use Rattle.std.proofs.lemmas.Slice.Eq.{bytes_eq-Decides}
use Rattle.clap.specs.Words.{Row, Text, first_of, found_of, rows_of}
use Rattle.cli_arguments.specs.Asking.{HasSwitch}
use Rattle.clap.proofs.WalkLemmas.{first_value-rows}
use Rattle.cli_arguments.proofs.found.is_set.Goals as goal

-- A flag is given where its value is this text.
switched : (id : Text) (rows : List Row) (text : List ℕ) → first_of id rows ≡ Some text → (b : Bool) → b ≡ bytes_eq text (codes "true") → HasSwitch id rows b
switched id rows text is true same = is ∙ ap Some ((bytes_eq-Decides text (codes "true")).0 (sym same))
switched id rows text is false same = λ given.
    let both = sym is ∙ given in
    let equal : text ≡ codes "true" = cc in
    let decided = (bytes_eq-Decides text (codes "true")).1 equal in
    let different = same ∙ decided in
    cc

pub returns-in-Some : goal.returns-in-Some
returns-in-Some c =
    switched c.args.id.now (rows_of (found_of c.args.found.now)) c.in-Some.text.now
    (sym (first_value-rows (found_of c.args.found.now) c.args.id.now) ∙ sym c.in-Some.ensures) c.eq.result c.eq.ensures

pub returns-in-None : goal.returns-in-None
returns-in-None c = λ given.
    let text = c.in-None.ensures ∙ first_value-rows (found_of c.args.found.now) c.args.id.now ∙ given in
    cc
