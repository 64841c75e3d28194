-- Which thread of a litmus test a core has.
use Rattle.std.specs.Prelude.{◌==◌, List, [], Option, find}
use Rattle.std.specs.Option.{option_map_or}
use Rattle.address_map.specs.declared.address.CoreId.{CoreId}
use Rattle.litmus_test.specs.declared.test.Action.{Action}
use Rattle.litmus_test.specs.declared.test.Thread.{Thread}

-- the thread of the core, if there is one
abbrev pub thread_at : List Thread → CoreId → Option Thread
thread_at threads core = find (λ thread. thread.core.0 == core.0) threads

-- its steps; a core without a thread has none
abbrev pub steps_at : List Thread → CoreId → List Action
steps_at threads core = option_map_or (λ thread. thread.steps.items) (thread_at threads core) []
