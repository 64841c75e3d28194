use Rattle.std.proofs.Common.{arith, ◌∙◌}
use Rattle.program_text.specs.Reading.{said_by}
use Rattle.program_text.proofs.JudgedLemmas.{in_range, some_program, too_many_spread}
use Rattle.program_text.proofs.reader.Reader.spreads_too_far.Goals as goal

pub overflow_add-range : goal.overflow_add-range
unfolding said_by
overflow_add-range c =
    let within = in_range c.args.self.now.programs.config c.args.range.first c.args.range.last c.requires.range in
    omega (arith, within.0, within.1, c.requires.counted.allowed.few_lines)

pub returns : goal.returns
unfolding said_by
returns c = λ op.
    let within = in_range c.args.self.now.programs.config c.args.range.first c.args.range.last c.requires.range in
    c.has_too_many.ensures
    ∙ too_many_spread (said_by c.args.self.now) c.args.range.first c.args.range.last op
    (some_program (said_by c.args.self.now) c.requires.begun) within.1
