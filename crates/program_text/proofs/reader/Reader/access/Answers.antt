use Rattle.std.proofs.Common.{ap, arith, ◌++◌, ◌-◌, ◌∙◌}
use Rattle.program_text.specs.declared.programs.CoreProgram.{CoreProgram}
use Rattle.program_text.specs.Reading.{said_by}
use Rattle.program_text.specs.Text.{spread}
use Rattle.program_text.proofs.AddLemmas.{some_core, some_core_after, spread_counted, spread_fits, with_programs}
use Rattle.program_text.proofs.BodyLemmas.{programs_last}
use Rattle.program_text.proofs.JudgedLemmas.{accessible}
use Rattle.program_text.proofs.reader.Reader.access.Goals as goal

pub overflow_sub-last : goal.overflow_sub-last
overflow_sub-last c =
    let may = accessible (said_by c.args.self.now) c.args.range.first c.args.range.last c.args.op c.requires.may in
    omega (arith, some_core c.args.self.now may.some, c.len-last.ensures, c.args.self.now.programs.cores.ok.0)

pub index_mut-requires : goal.index_mut-requires
index_mut-requires c =
    let may = accessible (said_by c.args.self.now) c.args.range.first c.args.range.last c.args.op c.requires.may in
    omega (arith, some_core c.args.self.now may.some, c.len-last.ensures)

pub overflow_sub-self : goal.overflow_sub-self
overflow_sub-self c =
    let may = accessible (said_by c.args.self.now) c.args.range.first c.args.range.last c.args.op c.requires.may in
    omega (arith, may.order)

pub overflow_add-self : goal.overflow_add-self
unfolding said_by
overflow_add-self c =
    let may = accessible (said_by c.args.self.now) c.args.range.first c.args.range.last c.args.op c.requires.may in
    omega (arith, may.order, may.within, c.requires.counted.allowed.few_lines)

pub overflow_add-self-2 : goal.overflow_add-self-2
unfolding said_by
overflow_add-self-2 c =
    let may = accessible (said_by c.args.self.now) c.args.range.first c.args.range.last c.args.op c.requires.may in
    omega (
      arith,
      c.requires.counted.count,
      spread_fits (said_by c.args.self.now) c.args.range.first c.args.range.last c.args.op may,
    )

pub returns-clause-said : goal.returns-clause-said
unfolding said_by
returns-clause-said c =
    let may = accessible (said_by c.args.self.now) c.args.range.first c.args.range.last c.args.op c.requires.may in
    let changed = programs_last (λ steps. steps ++ spread c.args.range.first c.args.range.last c.args.op)
    c.args.self.now.programs.cores.items (c.len-last.result - 1)
    (record { core = c.index_mut.result.now.core; steps = c.push_accesses.new.steps }) c.index_mut.result.now
    (omega (arith, some_core c.args.self.now may.some, c.len-last.ensures, c.args.self.now.programs.cores.ok.0))
    (ap (λ (p : CoreProgram). p.core) c.index_mut.ensures.value)
    (c.in_ok-push_accesses.ensures may.order
    ∙ ap (λ (p : CoreProgram). p.steps.items ++ spread c.args.range.first c.args.range.last c.args.op)
    c.index_mut.ensures.value) in
    with_programs (said_by c.args.self.now) _ _ changed

pub returns-clause-counted : goal.returns-clause-counted
unfolding said_by
returns-clause-counted c =
    let may = accessible (said_by c.args.self.now) c.args.range.first c.args.range.last c.args.op c.requires.may in
    let changed = programs_last (λ steps. steps ++ spread c.args.range.first c.args.range.last c.args.op)
    c.args.self.now.programs.cores.items (c.len-last.result - 1)
    (record { core = c.index_mut.result.now.core; steps = c.push_accesses.new.steps }) c.index_mut.result.now
    (omega (arith, some_core c.args.self.now may.some, c.len-last.ensures, c.args.self.now.programs.cores.ok.0))
    (ap (λ (p : CoreProgram). p.core) c.index_mut.ensures.value)
    (c.in_ok-push_accesses.ensures may.order
    ∙ ap (λ (p : CoreProgram). p.steps.items ++ spread c.args.range.first c.args.range.last c.args.op)
    c.index_mut.ensures.value) in
    let counted = spread_counted (said_by c.args.self.now) _ c.args.self.now.steps
    c.args.range.first c.args.range.last
    c.args.op c.requires.counted.count may changed in
    record {
      count = counted.0;
      few = counted.1;
      begun = λ some. some_core_after _ _ _ changed may.some;
      checked = c.requires.counted.checked;
      allowed = c.requires.counted.allowed;
    }
