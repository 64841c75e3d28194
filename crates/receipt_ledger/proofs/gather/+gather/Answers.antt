use Rattle.std.proofs.Common.{◌≡◌, List, map, sym, ap, ◌∙◌, arith, length}
use Rattle.std.proofs.lemmas.List.{nil_from_length}
use Rattle.receipt_ledger.proofs.Ports.{amounts-same}
use Rattle.receipt_ledger.specs.Port.{entries_of, held_by}
use Rattle.receipt_ledger.specs.Settled.{held_in}
use Rattle.receipt_ledger.specs.declared.receipt.Receipt.{Receipt}
use Rattle.receipt_ledger.proofs.Totals.{together_assoc, together_cancel, together_nothing}
use Rattle.address_map.specs.Place.{counters_of}
use Rattle.receipt_ledger.specs.Totals.{Amounts, together, totals}
use Rattle.receipt_ledger.proofs.gather.+gather.Goals as goal

pub gather-returns-in-None-clause-whole : goal.gather-returns-in-None-clause-whole
gather-returns-in-None-clause-whole g t c =
    let none = c.in-None.ensures.cases in
    let parts = c.requires.parts in
    ap (λ ports. together c.args.share.now.held
    (held_in g.N.SliceNames.setup g.N.SliceNames.number (map g.T.Lends.part ports)))
    (nil_from_length c.args.ports.now none)
    ∙ together_nothing c.args.share.now.held ∙ c.audit.ensures.whole (omega (arith, none, parts))

pub gather_first-returns-clause-first : goal.gather_first-returns-clause-first
gather_first-returns-clause-first g t c =
    ap (g.T.Lends.with_part c.args.first.now) (c.gather_port.ensures.port ∙ c.part_mut.ensures.value)
    ∙ g.met.T.Lends.same c.args.first.now

pub gather_port-returns-clause-share : goal.gather_port-returns-clause-share
gather_port-returns-clause-share g t c =
    let setup = g.N.SliceNames.setup in
    let number = g.N.SliceNames.number in
    let had = c.port.inside.shares in
    let held = ap (λ (s : Amounts). s.held) c.port.invariant.held in
    let given : totals c.args.words.now c.accepted-accepted.result (entries_of c.receipts.result.now) ≡ had.held =
    ap (λ n. totals c.args.words.now n (entries_of c.receipts.result.now)) c.accepted-accepted.ensures
    ∙ ap (λ words. totals words (length c.port.inside.account.asked) (entries_of c.receipts.result.now))
    c.requires.words.are
    ∙ ap (λ (rs : List Receipt). totals (counters_of setup number) (length c.port.inside.account.asked) (entries_of rs))
    c.receipts.ensures
    ∙ sym held in
    let one = ap (λ (s : Amounts). s.parts) c.port.invariant.held in
    let kept = ap (λ (s : Amounts). s.parts) c.gather-2.ensures.share in
    let more = c.gather.ensures.parts in
    let less = c.give_back.ensures.parts_left in
    amounts-same c.give_back.new.from.parts c.args.share.now.parts c.give_back.new.from.held c.args.share.now.held
    (omega (arith, one, kept, more, less))
    (together_cancel c.give_back.new.from.held c.args.share.now.held had.held
    (ap (together c.give_back.new.from.held) (sym given) ∙ c.give_back.ensures.held_left
    ∙ ap (λ (s : Amounts). s.held) c.gather-2.ensures.share ∙ c.gather.ensures.held))

pub gather_port-returns-clause-whole : goal.gather_port-returns-clause-whole
gather_port-returns-clause-whole g t c =
    let setup = g.N.SliceNames.setup in
    let number = g.N.SliceNames.number in
    let others = held_in setup number (map g.T.Lends.part c.args.rest.now) in
    let mine = held_by setup number c.args.port.now in
    sym (together_assoc c.args.share.now.held mine others)
    ∙ ap (λ held. together held others)
    (ap (together c.args.share.now.held)
    (sym (ap (λ (s : Amounts). s.held) c.port.invariant.held ∙ ap (held_by setup number) c.port.view_is))
    ∙ sym c.gather.ensures.held)
    ∙ c.gather-2.ensures.whole
