use Rattle.io_text.specs.Text.{records_of}
use Rattle.text_state.proofs.Heads.{err_arm}
use Rattle.text_state.proofs.read.read_state.Goals as goal

pub returns-in-Err-read : goal.returns-in-Err-read
returns-in-Err-read c =
    let rows = records_of c.args.text.now in
    err_arm c.args.program.now c.read_records-read.new.state rows c.in-Err-read.fault (c.in-Err-read.ensures.reads rows c.read_from-records.ensures.all c.checked-2.ensures)
