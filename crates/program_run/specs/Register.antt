-- Whether a core waits for a line, by its copy.
use Rattle.std.specs.Prelude.{Bool, false, Option, None, Some}
use Rattle.cache_table.specs.CopyState.{is_waiting}
use Rattle.slice_core_cache.specs.declared.copy.CacheCopy.{CacheCopy}

-- the copy waits, where there is one
abbrev pub waits_in : Option CacheCopy → Bool
waits_in None = false
waits_in (Some copy) = is_waiting copy.state
