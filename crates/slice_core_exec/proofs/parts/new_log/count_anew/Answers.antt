use Rattle.std.proofs.Common.{rules}
use Rattle.std.proofs.lemmas.List.Edits.{map_over_more}
use Rattle.slice_core_cache.specs.CoreCache.{recounted}
use Rattle.slice_core_exec.proofs.parts.new_log.count_anew.Goals as goal

pub loop-cache-preserved : goal.loop-cache-preserved
loop-cache-preserved g c = search (rules, map_over_more recounted)
