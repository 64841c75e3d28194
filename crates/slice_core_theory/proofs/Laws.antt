-- The laws that the public functions state.
use Rattle.std.proofs.Common.{◌≡◌, ◌≢◌, false, refl, ap, ◌∙◌}
use Rattle.std.proofs.lemmas.Bool.{le-ltb, lt-ltb}
use Rattle.slice_core_cache.specs.Tags.{tag_in}
use Rattle.slice_core_cache.specs.declared.tags.TagState.{TagState}
use Rattle.slice_core_cache.specs.declared.tags.TagState.TheVariants as tag_states
use Rattle.slice_core_theory.proofs.StandingFacts.{replies-apart}
use Rattle.slice_core_theory.proofs.Lists.{none, one}
use Rattle.slice_core_theory.specs.Laws.{AcceptedIsAll, EachStandsOnce, OpenTagNamesOne, RepliesApart}
use Rattle.slice_core_theory.specs.Standing.{is_open}

pub each_stands_once : EachStandsOnce
each_stands_once lines log core misses states accepted account seq = (
  λ before. account.standing.once seq ∙ one _ (lt-ltb seq accepted before),
  λ past. account.standing.once seq ∙ none _ (le-ltb seq accepted past),
)

pub accepted_is_all : AcceptedIsAll
accepted_is_all lines log core misses states accepted account = account.standing.counted

pub open_tag_names_one : OpenTagNamesOne
open_tag_names_one lines log core misses states accepted account tag = (
  λ opened. account.tags.opened tag ∙ one _ (ap is_open opened),
  λ other. account.tags.opened tag ∙ none _ (shut (tag_in states tag) other),
)
  where
    shut : (state : TagState) → state ≢ tag_states.Open → is_open state ≡ false
    shut tag_states.Free other = refl
    shut tag_states.Open other = absurd (other refl)
    shut (tag_states.Performed number) other = refl

pub replies_are_apart : RepliesApart
replies_are_apart lines log core misses states accepted account tag other number first second =
    replies-apart log core misses states tag other number account.tags first second
