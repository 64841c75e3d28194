use Rattle.std.proofs.Common.{ap, ◌∙◌, []}
use Rattle.std.specs.Option.{option_map_or}
use Rattle.litmus_threads.proofs.threads.steps_at.Goals as goal

pub returns-in-Some : goal.returns-in-Some
returns-in-Some c =
    c.as_slice.ensures.value ∙ ap (λ found. option_map_or (λ thread. thread.steps.items) found []) c.in-Some.ensures

pub returns-in-None : goal.returns-in-None
returns-in-None c = ap (λ found. option_map_or (λ thread. thread.steps.items) found []) c.in-None.ensures
