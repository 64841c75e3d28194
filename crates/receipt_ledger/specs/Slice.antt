-- Which slice a state is of.
use Rattle.std.specs.Prelude.{◌≡◌, ℕ, ◌<◌, length, replicate}
use Rattle.address_map.specs.Config.{IsAllowed}
use Rattle.address_map.specs.Locator.{lines_of}
use Rattle.address_map.specs.declared.address.CoreId.{CoreId}
use Rattle.address_map.specs.declared.config.Config.{Config}
use Rattle.address_map.specs.Place.{counters_of, init_of}
use Rattle.slice_core.specs.Shape.{Shape, shape_of}
use Rattle.slice_core_spec.specs.View.{View, cache_at}

-- A core's part is built as the machine is configured: its sets and their ways, the policy that replaces lines, and the
-- capacity of the write-back buffer.
pub record IsBuiltAs (c : Config) (shape : Shape) : Type 0 where
  pub ways : shape.ways ≡ replicate c.sets c.ways
  pub policy : shape.policy ≡ c.policy
  pub writebacks : shape.writebacks ≡ c.writebacks

-- It is a state of the slice of this number, of a machine that is configured so.
pub record IsSliceOf (c : Config) (number : ℕ) (v : View) : Type 0 where
  pub allowed : IsAllowed c
  pub named : number < c.slices
  pub lines : v.lines ≡ lines_of c (record { 0 = number })
  pub init : v.init ≡ init_of c number
  pub counters : v.counters ≡ counters_of c number
  pub cores : length v.caches ≡ c.cores
  pub parts : (core : CoreId) → core.0 < c.cores → IsBuiltAs c (shape_of (cache_at v core))
  pub exclusive : v.exclusive ≡ c.exclusive
