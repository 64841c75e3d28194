-- A slice with what its view leaves out, and what an accepted request leaves of it.
use Rattle.std.specs.Prelude.{◌≡◌, ℕ, List, map}
use Rattle.address_map.specs.Locator.{line_at}
use Rattle.address_map.specs.declared.address.LineAddr.{LineAddr}
use Rattle.slice_answer.specs.Stats.{StatsView}
use Rattle.slice_answer.specs.declared.answer.Issue.{Issue}
use Rattle.slice_core_spec.specs.View.{View}

pub record PartsView : Type 0 where
  pub view : View
  -- what was counted; a stall changes nothing else
  pub stats : StatsView
  -- how many targets wait
  pub pending : ℕ
  -- how many entries the log can hold before it has to grow
  pub room : ℕ
  -- the ring of the lines with pending messages, by their places in the slice, the front first: a next delivery looks
  -- at them in this order
  pub ring : List ℕ

-- the lines of the ring by their numbers in the memory, in its order
abbrev pub ring_lines : PartsView → List LineAddr
ring_lines p = map (λ place. line_at p.view.lines (record { 0 = place })) p.ring

-- the slice after an accepted access: another view, with what is counted, how many targets wait and the ring
abbrev pub Accepts : PartsView → View → StatsView → ℕ → List ℕ → Issue → Issue → PartsView → Type 0
Accepts old view stats pending ring issue answer new =
    (answer ≡ issue) × (new ≡ record old { view = view; stats = stats; pending = pending; ring = ring })
