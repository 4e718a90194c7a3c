use Rattle.std.proofs.Common.{inl, refl}
use Rattle.cli_diff.specs.Assumed.{assumption}
use Rattle.cli_diff.proofs.Ordered.{listed_in_order}
use Rattle.cli_diff.proofs.grouping.write_groups.Goals as goal

pub returns-in-Err : goal.returns-in-Err
returns-in-Err g c = inl (c.in-Err.ensures.refused c.args.grouping, refl)

pub returns : goal.returns
returns g c = listed_in_order (assumption c.args.assumed) c.args.grouping c.args.limit _ _ _ _ c.in-Ok.ensures.ordered _ _ _ c.write_as_listed.ensures
