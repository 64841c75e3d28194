use Rattle.std.proofs.Common.{ap, ◌∙◌, arith}
use Rattle.std.proofs.lemmas.List.{get_or_default}
use Rattle.receipt_ledger.proofs.Gathered.{gives-enough, gives-first, gives-more}
use Rattle.receipt_ledger.proofs.gather.give_back.Goals as goal
use Rattle.receipt_ledger.specs.Totals.{only_accepted, together}

pub loop-receipt-init : goal.loop-receipt-init
loop-receipt-init g c = record {
  parts = omega arith;
  one = omega arith;
  gives =
      gives-first c.args.words.now c.args.accepted c.args.receipts.now c.requires.held.0 c.args.from.now.held
      c.give_accepted.new.self.held c.give_accepted.new.to.held c.requires.held.1
      (c.give_accepted.ensures.held_left ∙ c.give_part.ensures.held_left)
      (c.give_accepted.ensures.held_given
      ∙ ap (λ t. together t (only_accepted c.args.accepted)) (c.give_part.ensures.held_given ∙ c.requires.none.1));
}

pub give_handed-requires-clause-enough : goal.give_handed-requires-clause-enough
give_handed-requires-clause-enough g c =
    let receipts = c.args.receipts.now in
    let given = c.loop-receipt.receipt-index in
    gives-enough c.args.words.now c.args.accepted receipts given c.args.from.now.held c.loop-receipt.from.held
    c.loop-receipt.to.held _ c.loop-receipt.invariant.gives c.loop-receipt-test.true
    (get_or_default receipts given _ _ c.loop-receipt-test.true)

pub loop-receipt-preserved : goal.loop-receipt-preserved
loop-receipt-preserved g c =
    let receipts = c.args.receipts.now in
    let given = c.loop-receipt.receipt-index in record {
      parts = omega arith;
      one = omega arith;
      gives =
          gives-more c.args.words.now c.args.accepted receipts given c.args.from.now.held c.loop-receipt.from.held
          c.loop-receipt.to.held _ c.loop-receipt.invariant.gives c.loop-receipt-test.true
          (get_or_default receipts given _ _ c.loop-receipt-test.true) c.give_handed.new.self.held
          c.give_handed.new.to.held c.give_handed.ensures.held_left c.give_handed.ensures.held_given;
    }
