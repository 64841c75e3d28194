use Rattle.std.proofs.Common.{arith, ap, length}
use Rattle.std.specs.Prelude.{slice_set}
use Rattle.slice_core_spec.specs.Calls.{PartsView}
use Rattle.slice_core_exec.proofs.Handed.{cache-read, entry-read, entry-of-reply, handed}
use Rattle.slice_core_exec.proofs.parts.Parts.hand.Goals as goal

pub index-entry-requires : goal.index-entry-requires
index-entry-requires g c =
    let v = c.args.self.now.view in
    let cache_is =
    cache-read v _ c.args.core c.index_mut.result.now (ap (λ (p : PartsView). p.view.caches) c.self.view_is)
    c.requires.core c.index_mut.ensures.value in
    let logged =
    entry-of-reply v c.args.core c.in-Some.number _ c.hand.new.self c.requires.entries cache_is
    (rw c.in-Some.is at c.hand.ensures) in
    omega (arith, ap (λ (p : PartsView). length p.view.log) c.self.view_is, logged)

pub returns : goal.returns
returns g c =
    let v = c.args.self.now.view in
    let cache_is =
    cache-read v _ c.args.core c.index_mut.result.now (ap (λ (p : PartsView). p.view.caches) c.self.view_is)
    c.requires.core c.index_mut.ensures.value in
    let reply = rw c.in-Some.is at c.hand.ensures in
    let logged = entry-of-reply v c.args.core c.in-Some.number _ c.hand.new.self c.requires.entries cache_is reply in
    handed c.args.self.now _ c.args.core c.in-Some.number _ c.hand.new.self _ cache_is reply
    (entry-read v _ c.in-Some.number _ (ap (λ (p : PartsView). p.view.log) c.self.view_is) logged c.index-entry.ensures)
    (ap (λ (p : PartsView).
    record p { view = record p.view { caches = slice_set p.view.caches c.args.core.0 c.hand.new.self } })
    c.self.view_is)
