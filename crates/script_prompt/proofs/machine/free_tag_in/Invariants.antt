use Rattle.std.proofs.Common.{◌≡◌, ◌<◌, ℕ, true}
use Rattle.script_prompt.specs.Tag.{busy_at}
use Rattle.script_prompt.proofs.machine.free_tag_in.Given as goal

-- each lower tag is busy
abbrev pub invariant-loop-tag : goal.invariant-loop-tag
invariant-loop-tag l = (lower : ℕ) → lower < l.tag → busy_at l.fn.state.view l.fn.core l.fn.op l.fn.word lower ≡ true
