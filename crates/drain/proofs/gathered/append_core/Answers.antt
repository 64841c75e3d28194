use Rattle.std.proofs.Common.{◌≡◌, ℕ, ◌∙◌, ◌++◌, List, arith, ap, subst}
use Rattle.core_thread_system.specs.Core.{receipts_of}
use Rattle.drain.specs.Owned.{HasItsOwn}
use Rattle.drain.proofs.Appended.{range-appended}
use Rattle.drain.proofs.Owned.{own-more}
use Rattle.receipt_ledger.specs.declared.receipt.Receipt.{Receipt}
use Rattle.drain.proofs.gathered.append_core.Goals as goal

pub loop-slice-preserved : goal.loop-slice-preserved
loop-slice-preserved g c =
    let setup = g.M.SystemNames.setup in
    let core = c.args.core.now in
    let n = c.loop-slice.slice in
    let out = c.loop-slice.receipts.items in
    let so_far = c.loop-slice.invariant in
    let shown = c.receipts.result.now in
    record {
      receipts =
          range-appended (receipts_of core) c.args.receipts.now.items out
          c.extend_from_slice.new.self.items n so_far.receipts
          (c.in_ok-extend_from_slice.ensures.items ∙ ap (λ (rs : List Receipt). out ++ rs) c.receipts.ensures.receipts);
      own = own-more setup n core shown so_far.own c.receipts.ensures.receipts c.receipts.ensures.own;
    }

pub returns-clause-own : goal.returns-clause-own
returns-clause-own g c =
    let n = c.loop-slice.slice in
    let all : n ≡ g.M.SystemNames.setup.slices = omega (arith, c.requires.slices) in
    subst (λ (k : ℕ). HasItsOwn g.M.SystemNames.setup k c.args.core.now) all c.loop-slice.invariant.own
