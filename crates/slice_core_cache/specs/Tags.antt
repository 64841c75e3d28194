-- What a core's tags name, and the reply that is handed out next.
use Rattle.std.specs.Prelude.{◌≡◌, ◌≢◌, ◌≤◌, ℕ, Bool, true, false, List, length, slice_index_or, nat_lt, if◌then◌else◌}
use Rattle.std.specs.Prelude.{Option, Some, None}
use Rattle.address_map.specs.CoreSet.{has}
use Rattle.slice_core_cache.specs.declared.tags.TagState.{TagState}
use Rattle.slice_core_cache.specs.declared.tags.TagState.TheVariants as tag_states

abbrev pub tag_in : List TagState → ℕ → TagState
tag_in states tag = slice_index_or states tag tag_states.Free

-- no request of the core goes by the tag
abbrev pub is_free : TagState → Bool
is_free tag_states.Free = true
is_free _ = false

-- the tag names an entry that isn't handed out
abbrev pub is_performed : TagState → Bool
is_performed (tag_states.Performed number) = true
is_performed _ = false

-- the set has the tags that name a reply, and no other
pub record MarksReplies (states : List TagState) (set : ℕ) : Type 0 where
  pub long : length states ≡ 64
  pub marks : (tag : ℕ) → has set tag ≡ is_performed (tag_in states tag)

-- A reply of least number that isn't handed out, with its tag: none where no tag names one.
abbrev pub IsLeastReply : List TagState → Option (ℕ × ℕ) → Type 0
IsLeastReply states None = (tag number : ℕ) → tag_in states tag ≢ tag_states.Performed number
IsLeastReply states (Some least) =
    (tag_in states least.0 ≡ tag_states.Performed least.1)
    × ((tag number : ℕ) → tag_in states tag ≡ tag_states.Performed number → least.1 ≤ number)

-- the earlier of the reply found so far and the one that this tag names
abbrev pub earlier : Option (ℕ × ℕ) → ℕ → TagState → Option (ℕ × ℕ)
earlier None tag (tag_states.Performed number) = Some (tag, number)
earlier (Some least) tag (tag_states.Performed number) = if nat_lt number least.1 then Some (tag, number) else
    Some least
earlier least tag _ = least
