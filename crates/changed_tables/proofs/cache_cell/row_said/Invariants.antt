use Rattle.std.proofs.Common.{◌≢◌, take}
use Rattle.std.specs.List.{All}
use Rattle.cache_table.specs.declared.row.CacheSends.{CacheSends}
use Rattle.cache_table.specs.declared.row.Row.TheVariants as rows
use Rattle.changed_tables.specs.CacheText.{row_text}
use Rattle.changed_tables.proofs.cache_cell.row_said.Given as goal

-- none with a state so far says the word
abbrev pub invariant-loop-next : goal.invariant-loop-next
invariant-loop-next l =
    All (λ next. (sent : CacheSends) → row_text l.case (rows.Go next sent) ≢ l.word) (take l.next-index l.next-items)
