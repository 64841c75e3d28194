use Rattle.std.proofs.Common.{arith, ◌+◌}
use Rattle.std.proofs.lemmas.List.{length-map, length-reverse}
use Rattle.program_text.specs.Fault.{program_of, programs_of}
use Rattle.program_text.specs.Reading.{said_by}
use Rattle.program_text.proofs.JudgedLemmas.{opens_block}
use Rattle.program_text.proofs.reader.Reader.open_block.Goals as goal

pub push-requires : goal.push-requires
unfolding said_by
push-requires c =
    let few = opens_block _ c.args.times c.requires.may in
    omega (arith, few.1, length-reverse c.args.self.now.blocks.items)

pub returns-clause-counted : goal.returns-clause-counted
unfolding said_by
returns-clause-counted c =
    let few = opens_block _ c.args.times c.requires.may in
    record {
      count = c.requires.counted.count;
      few = c.requires.counted.few;
      begun = λ some.
          omega (
            arith,
            few.0,
            length-reverse (programs_of c.args.self.now.programs),
            length-map c.args.self.now.programs.cores.items program_of,
          );
      checked = c.requires.counted.checked;
      allowed = c.requires.counted.allowed;
    }
