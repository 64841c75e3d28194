use Rattle.std.proofs.Common.{ap, sym, ◌∙◌}
use Rattle.std.proofs.lemmas.Result.{on_ok_weaker}
use Rattle.program_text.specs.declared.line.Line.{Line}
use Rattle.program_text.specs.Line.{line_of}
use Rattle.program_text.specs.Reading.{said_by}
use Rattle.program_text.specs.Text.{said_line}
use Rattle.program_text.proofs.JudgedLemmas.{judged_access}
use Rattle.program_text.proofs.reader.Reader.add.Goals as goal

pub access-requires-clause-may : goal.access-requires-clause-may
access-requires-clause-may c =
    sym (judged_access (said_by c.args.self.now) c.args.line c.in-Access.range c.in-Access.op c.in-Access.is)
    ∙ c.requires.may

pub returns-in-Outstanding-clause-said : goal.returns-in-Outstanding-clause-said
returns-in-Outstanding-clause-said c =
    c.limit.ensures.said c.args.number
    ∙ ap (λ (l : Line). said_line (said_by c.args.self.now) c.args.number (line_of l)) (sym c.in-Outstanding.is)

pub returns-in-Pace-clause-said : goal.returns-in-Pace-clause-said
returns-in-Pace-clause-said c =
    c.pace.ensures.said c.args.number
    ∙ ap (λ (l : Line). said_line (said_by c.args.self.now) c.args.number (line_of l)) (sym c.in-Pace.is)

pub returns-in-Settle-clause-said : goal.returns-in-Settle-clause-said
returns-in-Settle-clause-said c =
    on_ok_weaker c.settle.result
    (λ said. said c.args.number
    ∙ ap (λ (l : Line). said_line (said_by c.args.self.now) c.args.number (line_of l)) (sym c.in-Settle.is))
    c.settle.ensures.said

pub returns-in-Core-clause-said : goal.returns-in-Core-clause-said
returns-in-Core-clause-said c =
    on_ok_weaker c.begin.result
    (λ said. said c.args.number
    ∙ ap (λ (l : Line). said_line (said_by c.args.self.now) c.args.number (line_of l)) (sym c.in-Core.is))
    c.begin.ensures.said

pub returns-in-End-clause-said : goal.returns-in-End-clause-said
returns-in-End-clause-said c =
    on_ok_weaker c.close_block.result
    (λ said. said c.args.number
    ∙ ap (λ (l : Line). said_line (said_by c.args.self.now) c.args.number (line_of l)) (sym c.in-End.is))
    c.close_block.ensures.said
