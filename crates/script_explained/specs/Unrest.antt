-- What keeps a slice from being quiet, and what is said of it where one of its words is asked for.
use Rattle.std.specs.Prelude.{ℕ, List, [], ◌++◌, codes, decimal, length, map, slice_get, Option, Some, None}
use Rattle.std.specs.List.{filter, flat_map, range_with_len}
use Rattle.address_map.specs.declared.address.CoreId.{CoreId}
use Rattle.litmus_script.specs.Waiting.{picks_of}
use Rattle.litmus_text.specs.Command.{parts_of}
use Rattle.litmus_text.specs.declared.command.Command.TheVariants as commands
use Rattle.script_explained.specs.declared.unrest.Unrest.{Unrest}
use Rattle.script_explained.specs.declared.unrest.Unrest.TheVariants as unrests
use Rattle.litmus_text.specs.Line.{text_of_parts}
use Rattle.slice_core_cache.specs.CoreCache.{tag_at}
use Rattle.slice_core_cache.specs.Tags.{is_performed}
use Rattle.slice_core_spec.specs.View.{View, cache_at}

-- the replies of a core that aren't handed out, of these tags
abbrev pub replies_from : View → CoreId → List ℕ → List Unrest
replies_from v core tags =
    map (λ tag. unrests.Reply core tag) (filter (λ tag. is_performed (tag_at (cache_at v core) tag)) tags)

-- .. of all tags
abbrev pub replies_of : View → CoreId → List Unrest
replies_of v core = replies_from v core (range_with_len 0 64)

-- those of these cores
abbrev pub replies_in : View → List ℕ → List Unrest
replies_in v cores = flat_map (λ core. replies_of v (record { 0 = core })) cores

-- the first message in flight, and where there is none, the first reply that isn't handed out: core by core, tag by tag
abbrev pub first_unrest : View → Option Unrest
first_unrest v = slice_get (map unrests.Message (picks_of v) ++ replies_in v (range_with_len 0 (length v.caches))) 0

abbrev pub text_of_unrest : Unrest → List ℕ
text_of_unrest (unrests.Message pick) =
    text_of_parts (parts_of (commands.Deliver pick)) ++ codes " waits to be delivered"
text_of_unrest (unrests.Reply core tag) =
    codes "core " ++ (decimal core.0 ++ (codes "'s reply of tag " ++ (decimal tag ++ codes " isn't handed out")))

-- after a value nothing is said
abbrev pub told_of_word : Option ℕ → Option Unrest → List ℕ
told_of_word None (Some unrest) = codes "   " ++ text_of_unrest unrest
told_of_word shown unrest = []
