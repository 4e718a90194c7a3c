use Rattle.std.proofs.Common.{◌≡◌, ◌<◌, arith}
use Rattle.std.proofs.lemmas.Bool.Decides.{nat_tests}
use Rattle.network_routes.specs.Firsts.{first_of}
use Rattle.network_routes.proofs.Within.{to_none}
use Rattle.network_routes.proofs.firsts.leads_to_none.Goals as goal

pub returns : goal.returns
returns c = λ above net effects ordered all.
    let is = c.first_of.ensures in
    let larger : c.args.limit < c.first_of.result = grind (arith, nat_tests) in
    to_none net c.args.firsts.now c.args.limit c.args.id effects (rw is at larger) ordered all
