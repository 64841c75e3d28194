-- The replies of a core.
use Rattle.std.proofs.Common.{◌≡◌, ◌≢◌, ℕ, [], refl}
use Rattle.script_json.specs.Slices.{reply_under}
use Rattle.slice_core_cache.specs.declared.tags.TagState.{TagState}
use Rattle.slice_core_cache.specs.declared.tags.TagState.TheVariants as tag_states

-- a tag that names no reply has no text
pub no_reply : (core tag : ℕ) (state : TagState) → ((number : ℕ) → state ≢ tag_states.Performed number)
    → reply_under core tag state ≡ []
no_reply core tag tag_states.Free none = refl
no_reply core tag tag_states.Open none = refl
no_reply core tag (tag_states.Performed number) none = absurd (none number refl)
