-- What a buffer holds after each change of a line, as equations about the buffer alone, and that it is one again.
use Rattle.std.proofs.Common.{◌≡◌, ◌≢◌, ℕ, ◌<◌, length, Some, None, refl, sym}
use Rattle.std.specs.Option.{option_map}
use Rattle.std.proofs.lemmas.Bool.{ne_eqb}
use Rattle.std.proofs.lemmas.List.{length-map}
use Rattle.cache_table.specs.declared.state.CopyState.{CopyState}
use Rattle.writeback_buffer.specs.declared.pending.Leaving.{Leaving}
use Rattle.writeback_buffer.specs.Buffer.{Buffer, IsBuffer, held_at, in_state, advanced_write_back, with_line}
use Rattle.writeback_buffer.specs.Buffer.{with_state}
use Rattle.writeback_buffer.specs.Buffer.{without_line}
use Rattle.writeback_buffer.proofs.BufferLaws.{ChangesOnly-with_line, IsBuffer-with_line, ChangesOnly-with_state}
use Rattle.writeback_buffer.proofs.BufferLaws.{IsBuffer-with_state, ChangesOnly-without_line, IsBuffer-without_line}
use Rattle.writeback_buffer.proofs.HeldLaws.{held_at-append_other}

module _ (buffer : Buffer) (line : ℕ) where
  -- a line that was put is held, and of the others what was
  pub put_held : (leaving : Leaving) → held_at buffer.write_backs line ≡ None →
      held_at (with_line buffer line leaving).write_backs line ≡ Some leaving
  put_held leaving absent = (ChangesOnly-with_line buffer (with_line buffer line leaving) line leaving absent refl).here

  pub put_other : (leaving : Leaving) (other : ℕ) → other ≢ line →
      held_at (with_line buffer line leaving).write_backs other ≡ held_at buffer.write_backs other
  put_other leaving other apart =
      held_at-append_other buffer.write_backs (record { leaving = leaving; line = record { 0 = line } }) other
      (ne_eqb line other (λ e. apart (sym e)))

  pub put_sound : (leaving : Leaving) → IsBuffer buffer → length buffer.write_backs < buffer.capacity →
      held_at buffer.write_backs line ≡ None → IsBuffer (with_line buffer line leaving)
  put_sound leaving sound room absent =
      IsBuffer-with_line buffer (with_line buffer line leaving) line leaving sound room absent refl

  -- a line that was moved to a state is held in it with its block, and of the others what was
  pub advanced_held : (state : CopyState) →
      held_at (with_state buffer line state).write_backs line
      ≡ option_map (in_state state) (held_at buffer.write_backs line)
  advanced_held state = (ChangesOnly-with_state buffer (with_state buffer line state) line state refl).here

  pub advanced_other : (state : CopyState) (other : ℕ) → other ≢ line →
      held_at (with_state buffer line state).write_backs other ≡ held_at buffer.write_backs other
  advanced_other state = (ChangesOnly-with_state buffer (with_state buffer line state) line state refl).others

  pub advanced_length : (state : CopyState) → length (with_state buffer line state).write_backs
      ≡ length buffer.write_backs
  advanced_length state = length-map buffer.write_backs (advanced_write_back line state)

  pub advanced_sound : (state : CopyState) → IsBuffer buffer → IsBuffer (with_state buffer line state)
  advanced_sound state sound = IsBuffer-with_state buffer (with_state buffer line state) line state sound refl

  -- a line that was removed is held no more, and of the others what was
  pub removed_held : held_at (without_line buffer line).write_backs line ≡ None
  removed_held = (ChangesOnly-without_line buffer (without_line buffer line) line refl).here

  pub removed_other : (other : ℕ) → other ≢ line →
      held_at (without_line buffer line).write_backs other ≡ held_at buffer.write_backs other
  removed_other = (ChangesOnly-without_line buffer (without_line buffer line) line refl).others

  pub removed_sound : IsBuffer buffer → IsBuffer (without_line buffer line)
  removed_sound sound = IsBuffer-without_line buffer (without_line buffer line) line sound refl

-- these, for tactics
pub ruleset changes = (
  put_held,
  put_other,
  put_sound,
  advanced_held,
  advanced_other,
  advanced_length,
  advanced_sound,
  removed_held,
  removed_other,
  removed_sound,
)
