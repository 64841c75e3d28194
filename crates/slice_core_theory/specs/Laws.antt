-- What the account of a core's requests says to a caller.
use Rattle.std.specs.Prelude.{◌≡◌, ◌≢◌, ℕ, ◌+◌, ◌<◌, ◌≤◌, List, count_by}
use Rattle.address_map.specs.Locator.{Lines}
use Rattle.mshr_file.specs.Miss.{count_of, has_tag}
use Rattle.mshr_file.specs.declared.registers.Register.{Register}
use Rattle.slice_core_cache.specs.Tags.{tag_in}
use Rattle.slice_core_cache.specs.declared.tags.TagState.{TagState}
use Rattle.slice_core_cache.specs.declared.tags.TagState.TheVariants as tag_states
use Rattle.slice_log.specs.declared.entry.Entry.{Entry}
use Rattle.slice_core_theory.specs.Standing.{is_of, standings, target_count, IsAccount}

-- It follows from each account.
abbrev Follows : (List Entry → ℕ → List Register → List TagState → ℕ → Type 0) → Type 0
Follows Law =
    (lines : Lines) (log : List Entry) (core : ℕ) (misses : List Register) (states : List TagState) (accepted : ℕ)
    → IsAccount lines log core misses states accepted → Law log core misses states accepted

-- A request that was accepted is in one place, and another nowhere.
abbrev pub EachStandsOnce : Type 0
EachStandsOnce =
    Follows
    (λ log core misses states accepted. (seq : ℕ) → (seq < accepted → standings misses log core seq ≡ 1)
    × (accepted ≤ seq → standings misses log core seq ≡ 0))

-- The requests accepted are as many as those that wait and those performed.
abbrev pub AcceptedIsAll : Type 0
AcceptedIsAll = Follows (λ log core misses states accepted. accepted ≡ target_count misses + count_by (is_of core) log)

-- An open tag is that of one target, and another tag of none.
abbrev pub OpenTagNamesOne : Type 0
OpenTagNamesOne =
    Follows
    (λ log core misses states accepted. (tag : ℕ) →
    (tag_in states tag ≡ tag_states.Open → count_of (has_tag tag) misses ≡ 1)
    × (tag_in states tag ≢ tag_states.Open → count_of (has_tag tag) misses ≡ 0))

-- No two tags name one reply.
abbrev pub RepliesApart : Type 0
RepliesApart =
    Follows
    (λ log core misses states accepted. (tag other number : ℕ) → tag_in states tag ≡ tag_states.Performed number
    → tag_in states other ≡ tag_states.Performed number → tag ≡ other)
