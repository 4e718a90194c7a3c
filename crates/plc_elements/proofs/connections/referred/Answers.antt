use Rattle.std.proofs.Common.{rules}
use Rattle.plc_elements.proofs.connections.referred.Goals as goal

pub returns : goal.returns
returns c = record {
  reference = c.in_ok-reference.reference.now;
  has = search rules;
  first = c.in_ok-number.ensures;
}
