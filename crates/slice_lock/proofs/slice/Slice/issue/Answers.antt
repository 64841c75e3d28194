use Rattle.receipt_ledger.proofs.Last.{last-done}
use Rattle.slice_lock.proofs.slice.Slice.issue.Goals as goal

pub returns-in-Done-clause-port : goal.returns-in-Done-clause-port
returns-in-Done-clause-port g c =
    let told = rw c.in-Done.is at c.in_ok-issue.ensures.port in
    last-done c.args.port.now c.ask.new.port c.args.request c.in-Done.field-0 c.last.result told c.last.ensures
