use Rattle.std.proofs.Common.{◌≢◌}
use Rattle.std.proofs.lemmas.List.Elements.{All-more}
use Rattle.cache_table.specs.declared.row.CacheSends.{CacheSends}
use Rattle.cache_table.specs.declared.row.Row.TheVariants as rows
use Rattle.changed_tables.specs.CacheText.{row_text}
use Rattle.changed_tables.proofs.CacheRows.{none_sent}
use Rattle.changed_tables.proofs.Cells.{all_taken}
use Rattle.changed_tables.proofs.Joined.{denied}
use Rattle.changed_tables.proofs.cache_cell.row_to.Goals as goal

pub loop-sends-preserved : goal.loop-sends-preserved
loop-sends-preserved c =
    All-more (λ (sent : CacheSends). row_text c.args.case (rows.Go c.args.next sent) ≢ c.args.word.now)
    c.sends_at-sends-items.result.now c.loop-sends.sends-index _ c.loop-sends-test.true c.loop-sends.invariant
    (denied c.if-says.ensures)

pub returns-clause-none : goal.returns-clause-none
returns-clause-none c = λ none.
    none_sent c.args.next c.args.case c.args.word.now
    (rw c.sends_at-sends-items.ensures at
    (all_taken (λ (sent : CacheSends). row_text c.args.case (rows.Go c.args.next sent) ≢ c.args.word.now)
    c.sends_at-sends-items.result.now c.loop-sends.sends-index c.loop-sends-test.false c.loop-sends.invariant))
