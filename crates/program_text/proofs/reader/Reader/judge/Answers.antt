use Rattle.program_text.specs.Reading.{said_by}
use Rattle.program_text.proofs.JudgedLemmas.{judged_access}
use Rattle.program_text.proofs.reader.Reader.judge.Goals as goal

pub returns-in-Access-clause-may : goal.returns-in-Access-clause-may
returns-in-Access-clause-may c =
    rw (judged_access (said_by c.args.self.now) c.args.line c.in-Access.range c.in-Access.op c.in-Access.is)
    c.may_access.ensures.may

pub returns-in-Access-clause-fault : goal.returns-in-Access-clause-fault
returns-in-Access-clause-fault c =
    rw (judged_access (said_by c.args.self.now) c.args.line c.in-Access.range c.in-Access.op c.in-Access.is)
    c.may_access.ensures.fault
