use Rattle.std.proofs.Common.{◌∙◌, ap}
use Rattle.litmus_threads.specs.Program.{generator_of}
use Rattle.litmus_threads.specs.Threads.{thread_at}
use Rattle.litmus_threads.proofs.Dealing.{thread-taken}
use Rattle.litmus_threads.proofs.crew.Crew.take.Goals as goal

pub returns-in_ok-put_to_work-in-Some : goal.returns-in_ok-put_to_work-in-Some
returns-in_ok-put_to_work-in-Some g c cores dealt =
    thread-taken c.program_of-program.result (λ program. program.items) c.args.threads.now c.args.seed c.args.round
    cores _ _ _ _ _ _
    c.in-Some.thread.now c.deref.result.now c.in_ok-put_to_work-in-Some.ensures
    (c.in-Some.ensures ∙ ap (thread_at c.args.threads.now) c.core-number.ensures.core) c.deref.ensures.value
    (rw (c.generator_of-words.ensures ∙ ap (generator_of c.args.seed c.args.round) c.core-number.ensures.core)
    at c.program_of-program.ensures) dealt
