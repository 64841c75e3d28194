use Rattle.std.proofs.Common.{◌≡◌, ◌∙◌, sym, ap, rules}
use Rattle.cache_table.specs.Row.{row_of}
use Rattle.cache_table.specs.declared.row.Row.TheVariants as rows
use Rattle.slice_core_cache.specs.CoreCache.{copy_of}
use Rattle.slice_core_spec.specs.Plan.{event_of_forwarded}
use Rattle.slice_core_spec.specs.View.{channels_at, cache_at}
use Rattle.slice_core_exec.proofs.StandsLaws.{read_cache, stands_forwarded}
use Rattle.slice_core_exec.proofs.parts.Parts.plan_forwarded.Goals as goal

pub returns-in-Go-3-clause-within : goal.returns-in-Go-3-clause-within
returns-in-Go-3-clause-within g c =
    let line : c.line-line.result ≡ channels_at c.args.self.now.view c.args.local = search rules in
    let cache : c.index.result.now ≡ cache_at c.args.self.now.view c.args.core =
    read_cache _ _ _ _ c.index.ensures (ap (λ p. p.view.caches) c.self.view_is) c.requires.core in
    let row : row_of (copy_of (cache_at c.args.self.now.view c.args.core) c.args.local).state
    (event_of_forwarded c.in-Some.message.now) ≡ rows.Go c.in-Go-3.next c.in-Go-3.sends =
    rw (← cache) (cc (c.cache_row.ensures.table, c.look-look.ensures.state)) in (
      stands_forwarded (cache_at c.args.self.now.view c.args.core) c.args.local c.in-Some.message.now c.in-Go-3.next
          c.in-Go-3.sends row,
      rw (← line) (sym c.cache_room.ensures ∙ c.if-not-cache_room.false),
    )
