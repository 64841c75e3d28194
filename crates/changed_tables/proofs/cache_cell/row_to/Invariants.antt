use Rattle.std.proofs.Common.{◌≢◌, take}
use Rattle.std.specs.List.{All}
use Rattle.cache_table.specs.declared.row.Row.TheVariants as rows
use Rattle.changed_tables.specs.CacheText.{row_text}
use Rattle.changed_tables.proofs.cache_cell.row_to.Given as goal

-- none so far says the word
abbrev pub invariant-loop-sends : goal.invariant-loop-sends
invariant-loop-sends l =
    All (λ sent. row_text l.case (rows.Go l.next sent) ≢ l.word) (take l.sends-index l.sends-items)
