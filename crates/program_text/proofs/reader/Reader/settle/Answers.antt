use Rattle.std.proofs.Common.{ap, arith, [], ◌∷◌, ◌++◌, ◌-◌, ◌∙◌}
use Rattle.program_text.specs.declared.programs.CoreProgram.{CoreProgram}
use Rattle.program_text.specs.declared.programs.Step.TheVariants as step_kinds
use Rattle.program_text.specs.Reading.{said_by}
use Rattle.program_text.proofs.AddLemmas.{settle_counted, some_core, some_core_after, with_programs}
use Rattle.program_text.proofs.BodyLemmas.{programs_last}
use Rattle.program_text.proofs.JudgedLemmas.{settles}
use Rattle.program_text.proofs.reader.Reader.settle.Goals as goal

pub overflow_sub-last : goal.overflow_sub-last
overflow_sub-last c =
    let may = settles (said_by c.args.self.now) c.requires.may in
    omega (arith, some_core c.args.self.now may.0, c.len-last.ensures, c.args.self.now.programs.cores.ok.0)

pub index_mut-requires : goal.index_mut-requires
index_mut-requires c =
    let may = settles (said_by c.args.self.now) c.requires.may in
    omega (arith, some_core c.args.self.now may.0, c.len-last.ensures)

pub overflow_add-self : goal.overflow_add-self
overflow_add-self c = omega (arith, c.requires.counted.few)

pub returns-clause-said : goal.returns-clause-said
unfolding said_by
returns-clause-said c = λ number.
    let may = settles (said_by c.args.self.now) c.requires.may in
    let changed = programs_last (λ steps. steps ++ step_kinds.Settle ∷ [])
    c.args.self.now.programs.cores.items (c.len-last.result - 1)
    (record { core = c.index_mut.result.now.core; steps = c.push_settle.new.steps }) c.index_mut.result.now
    (omega (arith, some_core c.args.self.now may.0, c.len-last.ensures, c.args.self.now.programs.cores.ok.0))
    (ap (λ (p : CoreProgram). p.core) c.index_mut.ensures.value)
    (c.in_ok-push_settle.ensures
    ∙ ap (λ (p : CoreProgram). p.steps.items ++ step_kinds.Settle ∷ []) c.index_mut.ensures.value) in
    with_programs (said_by c.args.self.now) _ _ changed

pub returns-clause-counted : goal.returns-clause-counted
unfolding said_by
returns-clause-counted c =
    let may = settles (said_by c.args.self.now) c.requires.may in
    let changed = programs_last (λ steps. steps ++ step_kinds.Settle ∷ [])
    c.args.self.now.programs.cores.items (c.len-last.result - 1)
    (record { core = c.index_mut.result.now.core; steps = c.push_settle.new.steps }) c.index_mut.result.now
    (omega (arith, some_core c.args.self.now may.0, c.len-last.ensures, c.args.self.now.programs.cores.ok.0))
    (ap (λ (p : CoreProgram). p.core) c.index_mut.ensures.value)
    (c.in_ok-push_settle.ensures
    ∙ ap (λ (p : CoreProgram). p.steps.items ++ step_kinds.Settle ∷ []) c.index_mut.ensures.value) in
    let counted = settle_counted (said_by c.args.self.now) _ c.args.self.now.steps c.requires.counted.count may.0 may.1
    changed in
    record {
      count = counted.0;
      few = counted.1;
      begun = λ some. some_core_after _ _ _ changed may.0;
      checked = c.requires.counted.checked;
      allowed = c.requires.counted.allowed;
    }
