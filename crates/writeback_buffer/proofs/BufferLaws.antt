-- What a search says of a buffer, and what each change makes of it.
use Rattle.std.proofs.Common.{◌≡◌, ◌≢◌, ◌↔◌, ◌==◌, IsTrue, ℕ, ◌<◌, Bool, true, false, List, [], ◌∷◌, length, get_or}
use Rattle.std.proofs.Common.{drop, Some, None, refl, sym, ◌∙◌, arith, inl, inr, not, append-nil}
use Rattle.std.specs.Prelude.{position, remove, slice_set}
use Rattle.std.specs.Option.{option_map}
use Rattle.std.specs.List.{refill}
use Rattle.std.proofs.lemmas.Bool.{cases_Bool, eq-eqb, eqb-true, ne_eqb}
use Rattle.std.proofs.lemmas.List.{drop_all, length_push, length-map, length-set, take_all}
use Rattle.std.proofs.lemmas.List.Filters.{length-filter_both}
use Rattle.std.proofs.lemmas.List.Kept.{AllPairs-filter}
use Rattle.std.proofs.lemmas.List.Quantifiers.{position-Some}
use Rattle.std.proofs.lemmas.Option.{none-some}
use Rattle.cache_table.specs.declared.state.CopyState.{CopyState}
use Rattle.cache_table.specs.declared.state.CopyState.TheVariants as copy_states
use Rattle.writeback_buffer.specs.declared.pending.PendingWriteBack.{PendingWriteBack}
use Rattle.writeback_buffer.specs.declared.pending.Leaving.{Leaving}
use Rattle.writeback_buffer.specs.Buffer.{Buffer, IsBuffer, ChangesOnly, is_of, held_at, in_state, advanced_write_back}
use Rattle.writeback_buffer.specs.Buffer.{with_line, with_state, without_line}
use Rattle.writeback_buffer.proofs.Places.{PassesOnlyAt, filter-none, none-passes, remove-only, set-only}
use Rattle.writeback_buffer.proofs.HeldLaws.{held_at-only, held_at-none, none-from_held_at, only-from_once, once-append}
use Rattle.writeback_buffer.proofs.HeldLaws.{once-map, held_at-append_same, held_at-append_other, held_at-map_same}
use Rattle.writeback_buffer.proofs.HeldLaws.{held_at-map_other, held_at-filter_same, held_at-filter_other}

-- ---- a search

-- the place that a search returns is the line's only one
pub only-found : (buffer : Buffer) (line place : ℕ) → IsBuffer buffer
    → position (is_of line) buffer.write_backs ≡ Some place
    → PassesOnlyAt (is_of line) buffer.write_backs place
only-found buffer line place sound found =
    let at_place = position-Some (is_of line) buffer.write_backs place blank found in
    only-from_once buffer.write_backs line place blank sound.once at_place.0 at_place.1
  where
    blank : PendingWriteBack
    blank = record
        { leaving = record { block = record { words = [] }; state = copy_states.I }; line = record { 0 = 0 } }

-- what is there is what is held
pub held-found : (buffer : Buffer) (line place : ℕ) (d : PendingWriteBack) → IsBuffer buffer
    → position (is_of line) buffer.write_backs ≡ Some place
    → held_at buffer.write_backs line ≡ Some (get_or buffer.write_backs place d).leaving
held-found buffer line place d sound found =
    held_at-only buffer.write_backs line place d (only-found buffer line place sound found)

-- and where it returns none, nothing is held
pub held-missing : (buffer : Buffer) (line : ℕ) → position (is_of line) buffer.write_backs ≡ None
    → held_at buffer.write_backs line ≡ None
held-missing buffer line missing =
    held_at-none buffer.write_backs line (none-passes (is_of line) buffer.write_backs missing)

-- a buffer has no write-back just where nothing is held of any line
pub nothing_held : (write_backs shown : List PendingWriteBack) (is_empty : Bool) → write_backs ≡ shown → is_empty
    ≡ (length write_backs == 0)
    → IsTrue is_empty ↔ ((line : ℕ) → held_at shown line ≡ None)
nothing_held write_backs shown is_empty same answer = rw (answer, same) (by-write_backs shown)
  where
    by-write_backs : (write_backs : List PendingWriteBack) →
        IsTrue (length write_backs == 0) ↔ ((line : ℕ) → held_at write_backs line ≡ None)
    by-write_backs [] = (λ _ line. refl, λ _. refl)
    by-write_backs (write_back ∷ rest) =
        let same : is_of write_back.line.0 write_back ≡ true = eq-eqb write_back.line.0 write_back.line.0 refl in (
          λ empty line. let none_stands : length (write_back ∷ rest) ≡ 0 = eqb-true _ _ empty in absurd (omega arith),
          λ none. absurd (none-some write_back.leaving (sym (none write_back.line.0) ∙ rw same refl)),
        )

-- ---- a line is put

-- the line is held then, and of the others what was
pub ChangesOnly-with_line : (old new : Buffer) (line : ℕ) (leaving : Leaving) → held_at old.write_backs line ≡ None
    → new ≡ with_line old line leaving → ChangesOnly old new line (Some leaving)
ChangesOnly-with_line old new line leaving absent put =
    let write_back : PendingWriteBack = record { leaving = leaving; line = record { 0 = line } } in
    rw put
    (record {
      here = held_at-append_same old.write_backs write_back line (eq-eqb line line refl) absent;
      others = λ other apart. held_at-append_other old.write_backs write_back other
          (ne_eqb line other (λ e. apart (sym e)));
      same_capacity = refl;
    })

-- it had no write-back before, so it has one now
pub IsBuffer-with_line : (old new : Buffer) (line : ℕ) (leaving : Leaving) → IsBuffer old
    → length old.write_backs < old.capacity
    → held_at old.write_backs line ≡ None → new ≡ with_line old line leaving → IsBuffer new
IsBuffer-with_line old new line leaving sound room absent put =
    let write_back : PendingWriteBack = record { leaving = leaving; line = record { 0 = line } } in
    rw put
    (record {
      once = once-append old.write_backs write_back sound.once (none-from_held_at old.write_backs line absent);
      fits = omega (arith, length_push old.write_backs write_back);
      small = sound.small;
    })

-- ---- a line is advanced

-- the line's block is held in the new state, and of the others what was
pub ChangesOnly-with_state : (old new : Buffer) (line : ℕ) (state : CopyState) → new ≡ with_state old line state
    → ChangesOnly old new line (option_map (in_state state) (held_at old.write_backs line))
ChangesOnly-with_state old new line state advanced =
    rw advanced
    (record {
      here = held_at-map_same old.write_backs line state;
      others = λ other apart. held_at-map_other old.write_backs line other state apart;
      same_capacity = refl;
    })

-- the write-back in this state
abbrev with_write_back_state : CopyState → PendingWriteBack → PendingWriteBack
with_write_back_state state write_back = record write_back { leaving = in_state state write_back.leaving }

-- the state is written at the line's place
pub with_state-written : (inside buffer : Buffer) (line place : ℕ) (state : CopyState) (read : List PendingWriteBack)
    (d : PendingWriteBack)
    → inside ≡ buffer
    → read ≡ inside.write_backs → IsBuffer buffer → position (is_of line) buffer.write_backs ≡ Some place
    → record {
      write_backs =
          refill (length inside.write_backs) inside.write_backs
          (slice_set read place (with_write_back_state state (get_or read place d)));
      capacity = inside.capacity;
    }
    ≡ with_state buffer line state
with_state-written inside buffer line place state read d same listed sound found =
    let only = only-found buffer line place sound found in
    let there = only.there d in
    let changed : advanced_write_back line state (get_or buffer.write_backs place d)
    ≡ with_write_back_state state (get_or buffer.write_backs place d) =
    rw there refl in
    let written = set-only (is_of line) (advanced_write_back line state) kept buffer.write_backs place d only in
    rw (listed, same, refill-same buffer.write_backs _ (length-set buffer.write_backs place _), ← changed, written) refl
  where
    kept : (write_back : PendingWriteBack) → is_of line write_back ≡ false → advanced_write_back line state write_back
        ≡ write_back
    kept write_back apart = rw apart refl

    refill-same : (write_backs written : List PendingWriteBack) → length written ≡ length write_backs
        → refill (length write_backs) write_backs written ≡ written
    refill-same write_backs written as_long =
        let none_left : drop (length written) write_backs ≡ [] = drop_all (length written) write_backs (omega arith) in
        rw (none_left, append-nil) (take_all (length write_backs) written (omega arith))

-- each write-back keeps its line
pub IsBuffer-with_state : (old new : Buffer) (line : ℕ) (state : CopyState) → IsBuffer old
    → new ≡ with_state old line state → IsBuffer new
IsBuffer-with_state old new line state sound advanced =
    rw advanced
    (record {
      once = once-map (advanced_write_back line state) same_line old.write_backs sound.once;
      fits = omega (arith, length-map old.write_backs (advanced_write_back line state));
      small = sound.small;
    })
  where
    same_line : (write_back : PendingWriteBack) → (advanced_write_back line state write_back).line.0 ≡ write_back.line.0
    same_line write_back =
        elim (cases_Bool (is_of line write_back)) [
          | inl same ↦ rw same refl
          | inr apart ↦ rw apart refl
        ]

-- ---- a line is removed

-- the write-back at the line's place is taken out
pub without_line-removed : (inside buffer : Buffer) (line place : ℕ) (left : List PendingWriteBack) → inside ≡ buffer
    → left ≡ remove inside.write_backs place → IsBuffer buffer → position (is_of line) buffer.write_backs ≡ Some place
    → record { write_backs = left; capacity = inside.capacity } ≡ without_line buffer line
without_line-removed inside buffer line place left same is sound found =
    rw (is, same, remove-only (is_of line) buffer.write_backs place (only-found buffer line place sound found)) refl

-- what is left was distinct before
pub IsBuffer-without_line : (old new : Buffer) (line : ℕ) → IsBuffer old → new ≡ without_line old line → IsBuffer new
IsBuffer-without_line old new line sound removed =
    rw removed
    (record {
      once = AllPairs-filter (λ earlier later. earlier.line.0 ≢ later.line.0)
          (λ write_back. not (is_of line write_back)) old.write_backs sound.once;
      fits = omega (
        arith,
        length-filter_both (is_of line) (λ write_back. not (is_of line write_back)) (λ _. refl)
            old.write_backs,
      );
      small = sound.small;
    })

-- the line is held no more, and of the others what was
pub ChangesOnly-without_line : (old new : Buffer) (line : ℕ) → new ≡ without_line old line
    → ChangesOnly old new line None
ChangesOnly-without_line old new line removed =
    rw removed
    (record {
      here = held_at-filter_same old.write_backs line;
      others = λ other apart. held_at-filter_other old.write_backs line other apart;
      same_capacity = refl;
    })

-- where the line isn't held, nothing is removed
pub without_line-missing : (buffer : Buffer) (line : ℕ) → position (is_of line) buffer.write_backs ≡ None
    → without_line buffer line ≡ buffer
without_line-missing buffer line missing =
    let same = filter-none (is_of line) buffer.write_backs (none-passes (is_of line) buffer.write_backs missing) in
    rw same refl
