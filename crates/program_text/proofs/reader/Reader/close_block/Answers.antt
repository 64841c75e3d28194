use Rattle.std.proofs.Common.{ap, arith, length, map, sym, ◌++◌, ◌-◌, ◌∙◌}
use Rattle.std.specs.Prelude.{reverse}
use Rattle.std.proofs.lemmas.List.{length-map, length-reverse}
use Rattle.program_text.specs.declared.programs.CoreProgram.{CoreProgram}
use Rattle.program_text.specs.Fault.{program_of, programs_of}
use Rattle.program_text.specs.Reading.{said_by}
use Rattle.program_text.specs.Text.{written_out}
use Rattle.program_text.proofs.AddLemmas.{ended_counted, ended_said, last_few, some_core_after}
use Rattle.program_text.proofs.BodyLemmas.{blocks_push, programs_last}
use Rattle.program_text.proofs.JudgedLemmas.{closes, none_open}
use Rattle.program_text.proofs.reader.Reader.close_block.Goals as goal

pub returns-in_default-clause-said : goal.returns-in_default-clause-said
unfolding said_by
returns-in_default-clause-said c = λ number.
    let may = closes (said_by c.args.self.now) c.requires.may in
    let none = none_open c.args.self.now.blocks.items (sym c.in_default.ensures.value) in
    absurd (omega (arith, may.0, length-reverse c.args.self.now.blocks.items, ap length none))

pub overflow_sub-self : goal.overflow_sub-self
unfolding said_by
overflow_sub-self c =
    omega (
      arith,
      last_few (reverse (programs_of c.args.self.now.programs)),
      c.last_steps-before.ensures,
      c.requires.counted.count,
    )

pub overflow_add-self : goal.overflow_add-self
unfolding said_by
overflow_add-self c =
    let may = closes (said_by c.args.self.now) c.requires.may in
    let some = c.requires.counted.begun (omega (arith, may.0, length-reverse c.args.self.now.blocks.items)) in
    let stands = ap reverse c.in-Some.ensures.items ∙ blocks_push c.pop.new.self.items c.in-Some.block in
    let changed = programs_last (written_out c.in-Some.block.start c.in-Some.block.times)
    c.args.self.now.programs.cores.items (c.len-last.result - 1)
    (record { core = c.index_mut.result.now.core; steps = c.repeat.new.steps }) c.index_mut.result.now
    (omega (arith, some, c.len-last.ensures, c.args.self.now.programs.cores.ok.0))
    (ap (λ (p : CoreProgram). p.core) c.index_mut.ensures.value)
    (c.in_ok-repeat.ensures
    ∙ ap (λ (p : CoreProgram). written_out c.in-Some.block.start c.in-Some.block.times p.steps.items)
    c.index_mut.ensures.value) in
    let counted = ended_counted (said_by c.args.self.now) c.in-Some.block (reverse c.pop.new.self.items) _
    c.args.self.now.steps c.last_steps-before.result c.last_steps-after.result stands
    (omega (
      arith,
      some,
      length-reverse (programs_of c.args.self.now.programs),
      length-map c.args.self.now.programs.cores.items program_of,
    ))
    c.requires.counted.count may.1 changed c.last_steps-before.ensures c.last_steps-after.ensures in
    omega (arith, counted.2)

pub returns-clause-said : goal.returns-clause-said
unfolding said_by
returns-clause-said c = λ number.
    let may = closes (said_by c.args.self.now) c.requires.may in
    let some = c.requires.counted.begun (omega (arith, may.0, length-reverse c.args.self.now.blocks.items)) in
    let stands = ap reverse c.in-Some.ensures.items ∙ blocks_push c.pop.new.self.items c.in-Some.block in
    let changed = programs_last (written_out c.in-Some.block.start c.in-Some.block.times)
    c.args.self.now.programs.cores.items (c.len-last.result - 1)
    (record { core = c.index_mut.result.now.core; steps = c.repeat.new.steps }) c.index_mut.result.now
    (omega (arith, some, c.len-last.ensures, c.args.self.now.programs.cores.ok.0))
    (ap (λ (p : CoreProgram). p.core) c.index_mut.ensures.value)
    (c.in_ok-repeat.ensures
    ∙ ap (λ (p : CoreProgram). written_out c.in-Some.block.start c.in-Some.block.times p.steps.items)
    c.index_mut.ensures.value) in
    ended_said (said_by c.args.self.now) c.in-Some.block (reverse c.pop.new.self.items) _ stands changed

pub returns-clause-counted : goal.returns-clause-counted
unfolding said_by
returns-clause-counted c =
    let may = closes (said_by c.args.self.now) c.requires.may in
    let some = c.requires.counted.begun (omega (arith, may.0, length-reverse c.args.self.now.blocks.items)) in
    let stands = ap reverse c.in-Some.ensures.items ∙ blocks_push c.pop.new.self.items c.in-Some.block in
    let changed = programs_last (written_out c.in-Some.block.start c.in-Some.block.times)
    c.args.self.now.programs.cores.items (c.len-last.result - 1)
    (record { core = c.index_mut.result.now.core; steps = c.repeat.new.steps }) c.index_mut.result.now
    (omega (arith, some, c.len-last.ensures, c.args.self.now.programs.cores.ok.0))
    (ap (λ (p : CoreProgram). p.core) c.index_mut.ensures.value)
    (c.in_ok-repeat.ensures
    ∙ ap (λ (p : CoreProgram). written_out c.in-Some.block.start c.in-Some.block.times p.steps.items)
    c.index_mut.ensures.value) in
    let counted = ended_counted (said_by c.args.self.now) c.in-Some.block (reverse c.pop.new.self.items) _
    c.args.self.now.steps c.last_steps-before.result c.last_steps-after.result stands
    (omega (
      arith,
      some,
      length-reverse (programs_of c.args.self.now.programs),
      length-map c.args.self.now.programs.cores.items program_of,
    ))
    c.requires.counted.count may.1 changed c.last_steps-before.ensures c.last_steps-after.ensures in
    record {
      count = counted.1;
      few = counted.2;
      begun = λ open_in. some_core_after _ _ _ changed
          (omega (
            arith,
            some,
            length-reverse (programs_of c.args.self.now.programs),
            length-map c.args.self.now.programs.cores.items program_of,
          ));
      checked = c.requires.counted.checked;
      allowed = c.requires.counted.allowed;
    }
