use Rattle.std.proofs.Common.{◌≡◌, ◌∙◌, ap, eq-eqb, get_or, map, rules, sym}
use Rattle.std.specs.Prelude.{◌==◌, find}
use Rattle.std.proofs.lemmas.Bool.{false≢true, ne_eqb}
use Rattle.receipt_ledger.proofs.Compared.{find-as, find-none, find-past, finds-none, finds-some}
use Rattle.receipt_ledger.specs.History.{HasAsked, HasReceipt}
use Rattle.receipt_ledger.specs.Port.{PortView}
use Rattle.receipt_ledger.proofs.held.is_held.Goals as goal

pub returns-then-has_asked : goal.returns-then-has_asked
returns-then-has_asked g c =
    let part = g.T.Lends.part in
    let ports = c.args.ports.now in
    let e = c.args.entry.now in
    let i = c.loop-lender.lender-index in
    let port = c.part-port.result.now in
    let test = λ (p : PortView). p.core.0 == e.core.0 in
    let found =
    find-as part test ports i c.lender-item.result port c.loop-lender.invariant c.loop-lender-test.true (search rules)
    (eq-eqb port.core.0 e.core.0 (search rules)) in
    finds-some (find test (map part ports)) port (λ p. HasAsked p c.args.number e × HasReceipt p c.args.number e)
    c.has_receipt.result found
    (λ has. (c.has_asked.ensures.0 c.if-has_asked.true, c.has_receipt.ensures.0 has))
    (λ both. c.has_receipt.ensures.1 both.1)

pub returns-else-has_asked : goal.returns-else-has_asked
returns-else-has_asked g c =
    let part = g.T.Lends.part in
    let ports = c.args.ports.now in
    let e = c.args.entry.now in
    let i = c.loop-lender.lender-index in
    let port = c.part-port.result.now in
    let test = λ (p : PortView). p.core.0 == e.core.0 in
    let found =
    find-as part test ports i c.lender-item.result port c.loop-lender.invariant c.loop-lender-test.true (search rules)
    (eq-eqb port.core.0 e.core.0 (search rules)) in
    finds-some (find test (map part ports)) port (λ p. HasAsked p c.args.number e × HasReceipt p c.args.number e)
    c.has_asked.result found
    (λ has. absurd (false≢true (sym c.if-has_asked.false ∙ has)))
    (λ both. c.has_asked.ensures.1 both.0)

pub loop-lender-preserved : goal.loop-lender-preserved
loop-lender-preserved g c =
    let part = g.T.Lends.part in
    let ports = c.args.ports.now in
    let e = c.args.entry.now in
    let i = c.loop-lender.lender-index in
    let port = c.part-port.result.now in
    let test = λ (p : PortView). p.core.0 == e.core.0 in
    let lent : port ≡ part (get_or ports i c.lender-item.result) = search rules in
    let core : c.core.result.0 ≡ port.core.0 = search rules in
    let fails = ap test (sym lent) ∙ ne_eqb port.core.0 e.core.0 (λ same. c.if-core-entry.false (core ∙ same)) in
    find-past part test ports i c.lender-item.result c.loop-lender.invariant c.loop-lender-test.true fails

pub returns : goal.returns
returns g c =
    let part = g.T.Lends.part in
    let ports = c.args.ports.now in
    let e = c.args.entry.now in
    let test = λ (p : PortView). p.core.0 == e.core.0 in
    finds-none (find test (map part ports)) (λ p. HasAsked p c.args.number e × HasReceipt p c.args.number e)
    (find-none part test ports c.loop-lender.lender-index c.loop-lender.invariant c.loop-lender-test.false)
