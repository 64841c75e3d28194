use Rattle.std.proofs.Common.{◌≢◌, refl}
use Rattle.std.proofs.lemmas.List.Elements.{All-more}
use Rattle.cache_table.specs.declared.state.CopyState.{CopyState}
use Rattle.cache_table.specs.declared.row.CacheSends.{CacheSends}
use Rattle.cache_table.specs.declared.row.Row.TheVariants as rows
use Rattle.changed_tables.specs.CacheText.{row_text}
use Rattle.changed_tables.proofs.CacheRows.{none_says}
use Rattle.changed_tables.proofs.Cells.{all_taken}
use Rattle.changed_tables.proofs.Joined.{denied}
use Rattle.changed_tables.proofs.cache_cell.row_said.Goals as goal

pub loop-next-preserved : goal.loop-next-preserved
loop-next-preserved c =
    All-more
    (λ (next : CopyState). (sent : CacheSends) → row_text c.args.case (rows.Go next sent) ≢ c.args.word.now)
    c.states-next-items.result.now c.loop-next.next-index _ c.loop-next-test.true c.loop-next.invariant
    (c.in_default.ensures.none refl)

pub returns-clause-none : goal.returns-clause-none
returns-clause-none c = λ none.
    none_says c.args.case c.args.word.now (denied c.if-says.ensures) (denied c.if-says-2.ensures)
    (rw c.states-next-items.ensures at
    (all_taken
    (λ (next : CopyState). (sent : CacheSends) → row_text c.args.case (rows.Go next sent) ≢ c.args.word.now)
    c.states-next-items.result.now c.loop-next.next-index c.loop-next-test.false c.loop-next.invariant))
