use Rattle.std.proofs.Common.{rules}
use Rattle.scan_signals.proofs.block.step.Goals as goal

pub returns-in-Ton : goal.returns-in-Ton
returns-in-Ton c = rw (c.in-Timer.is, c.in-Ton.is) (c.ton.ensures c.in-Timer.last c.in-Timer.q c.args.second)

pub returns-in-Tof : goal.returns-in-Tof
returns-in-Tof c = rw (c.in-Timer.is, c.in-Tof.is) (c.tof.ensures c.in-Timer.q c.args.second)

pub returns-in-Tp : goal.returns-in-Tp
returns-in-Tp c = rw (c.in-Timer.is, c.in-Tp.is) (c.tp.ensures c.in-Timer.q c.args.second)

pub returns-in-Ctu-kind : goal.returns-in-Ctu-kind
returns-in-Ctu-kind c = let e = c.ctu.ensures c.in-Counter.q c.args.now in rw (c.in-Counter.is, c.in-Ctu-kind.is) (search rules)

pub returns-in-Ctd : goal.returns-in-Ctd
returns-in-Ctd c = let e = c.ctd.ensures c.in-Counter.q c.args.now in rw (c.in-Counter.is, c.in-Ctd.is) (search rules)

pub returns-in-Sr : goal.returns-in-Sr
returns-in-Sr c = rw (c.in-Bistable.is, c.in-Sr.is) (c.sr.ensures c.args.preset c.args.now)

pub returns-in-Rs : goal.returns-in-Rs
returns-in-Rs c = rw (c.in-Bistable.is, c.in-Rs.is) (c.rs.ensures c.args.preset c.args.now)
