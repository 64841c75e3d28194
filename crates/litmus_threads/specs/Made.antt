-- The requests that the cores of a machine have made, once a litmus test was run on it.
use Rattle.std.specs.Prelude.{◌≡◌, ℕ, ◌<◌, List}
use Rattle.std.specs.List.{AllByRecursion}
use Rattle.address_map.specs.declared.config.Config.{Config}
use Rattle.core_thread_system.specs.Core.{CoreView, asked_of}
use Rattle.core_thread_system.specs.Program.{accesses_of}
use Rattle.drain.specs.Owned.{HasItsOwn}
use Rattle.litmus_test.specs.NamedRequest.{requests_in}
use Rattle.litmus_test.specs.declared.test.Action.{Action}
use Rattle.litmus_test.specs.declared.test.Thread.{Thread}
use Rattle.litmus_threads.specs.Threads.{steps_at}

-- Each slice below this number accepted exactly the requests of the core that these steps make to it, in their order.
abbrev pub HasMadeBelow : Config → ℕ → List Action → CoreView → Type 0
HasMadeBelow c limit steps v = (slice : ℕ) → slice < limit → accesses_of (asked_of v slice) ≡ requests_in c slice steps

-- Each core has made the requests of its thread, and no others.
abbrev pub HaveMadeAll : Config → List Thread → List CoreView → Type 0
HaveMadeAll c threads cores = AllByRecursion (λ v. HasMadeBelow c c.slices (steps_at threads v.core) v) cores

-- Each core is one of the machine's, and its receipts of each slice are that slice's own.
abbrev pub AreOwners : Config → List CoreView → Type 0
AreOwners c cores = AllByRecursion (λ v. (v.core.0 < c.cores) × HasItsOwn c c.slices v) cores
