use Rattle.scan_signals.proofs.Timers.{ton_history, tof_history}
use Rattle.scan_signals.proofs.Pulses.{tp_history}
use Rattle.scan_signals.proofs.Counters.{ctu_history, ctd_history}
use Rattle.scan_signals.proofs.Bistables.{sr_history, rs_history}
use Rattle.scan_signals.proofs.laws.histories.Goals as goal

pub returns : goal.returns
returns c = record { ton = ton_history; tof = tof_history; tp = tp_history; ctu = ctu_history; ctd = ctd_history; sr = sr_history; rs = rs_history }
