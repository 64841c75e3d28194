use Rattle.std.proofs.Common.{◌≤◌, ◌∙◌, List, ap, subst}
use Rattle.address_map.specs.declared.config.Config.{Config}
use Rattle.core_thread_system.specs.Core.{CoreView}
use Rattle.drain.specs.Owned.{AreOwnBelow}
use Rattle.drain.specs.Receipts.{receipts_by_core}
use Rattle.drain.proofs.AuditedInTurn.{audited, written-back}
use Rattle.drain.proofs.auditor.audit_cores.Goals as goal

pub returns-clause-audited : goal.returns-clause-audited
returns-clause-audited g c =
    let setup = g.M.SystemNames.setup in
    let cores = c.args.cores.now in
    let left = c.settle_all.new.cores in
    let config = c.config-config.result.now in
    let same = c.settle_all.ensures.cores in
    let allowed = c.config-config.ensures.allowed in
    let set = c.in_ok-settle_all.ensures.counters in
    let unset = c.unsettled-counters.ensures in
    let one : 1 ≤ setup.slices = subst (λ (x : Config). 1 ≤ x.slices)
    c.config-config.ensures.named allowed.some_slice in
    let few : setup.slices ≤ 4 = subst (λ (x : Config). x.slices ≤ 4)
    c.config-config.ensures.named allowed.few_slices in
    let gathered = c.in-Ok.ensures.receipts ∙ ap (receipts_by_core setup) same in
    let own = subst (λ (us : List CoreView). AreOwnBelow setup us setup.cores) same c.in-Ok.ensures.own in
    let counters =
    c.in-Ok-listed.ensures
    ∙ written-back config setup cores c.unsettled-counters.result.items c.settle_all.new.counters c.deref.result.now
    c.config-config.ensures.named unset set c.deref.ensures.0 in
    audited setup cores c.in-Ok.receipts.items c.in-Ok-listed.counters.items one few c.in_ok-check_whole.ensures.whole
    c.in_ok-check_whole.ensures.known c.in_ok-settle_all.ensures.settled own gathered counters
