use Rattle.std.proofs.Common.{ℕ, ◌∙◌, ap, sym}
use Rattle.core_thread_system.proofs.Owned.{same-own}
use Rattle.core_thread_system.specs.Core.{CoreView, port_at}
use Rattle.core_thread_system.proofs.cores.Core.receipts.Goals as goal

pub returns-in-0-clause-own : goal.returns-in-0-clause-own
returns-in-0-clause-own g c =
    let names = g.M.SystemNames in
    let here = sym c.in-0.is in
    same-own names.setup g.M.S0.SliceNames.setup c.args.slice.0 g.M.S0.SliceNames.number c.self.inside.port0.core _ _
    g.met.M.SystemNames.setups.0 (g.met.M.SystemNames.numbers.0 ∙ here)
    (ap (λ (v : CoreView). v.p0.core) c.self.view_is ∙ ap (λ (n : ℕ). (port_at c.args.self.now n).core) here)
    c.receipts.ensures.own

pub returns-in-1-clause-own : goal.returns-in-1-clause-own
returns-in-1-clause-own g c =
    let names = g.M.SystemNames in
    let here = sym c.in-1.is in
    same-own names.setup g.M.S1.SliceNames.setup c.args.slice.0 g.M.S1.SliceNames.number c.self.inside.port1.core _ _
    g.met.M.SystemNames.setups.1 (g.met.M.SystemNames.numbers.1 ∙ here)
    (ap (λ (v : CoreView). v.p1.core) c.self.view_is ∙ ap (λ (n : ℕ). (port_at c.args.self.now n).core) here)
    c.receipts-in-1.ensures.own

pub returns-in-2-clause-own : goal.returns-in-2-clause-own
returns-in-2-clause-own g c =
    let names = g.M.SystemNames in
    let here = sym c.in-2.is in
    same-own names.setup g.M.S2.SliceNames.setup c.args.slice.0 g.M.S2.SliceNames.number c.self.inside.port2.core _ _
    g.met.M.SystemNames.setups.2 (g.met.M.SystemNames.numbers.2 ∙ here)
    (ap (λ (v : CoreView). v.p2.core) c.self.view_is ∙ ap (λ (n : ℕ). (port_at c.args.self.now n).core) here)
    c.receipts-in-2.ensures.own

pub returns-in-3-clause-own : goal.returns-in-3-clause-own
returns-in-3-clause-own g c =
    let names = g.M.SystemNames in
    let here = sym c.in-3.is in
    same-own names.setup g.M.S3.SliceNames.setup c.args.slice.0 g.M.S3.SliceNames.number c.self.inside.port3.core _ _
    g.met.M.SystemNames.setups.3 (g.met.M.SystemNames.numbers.3 ∙ here)
    (ap (λ (v : CoreView). v.p3.core) c.self.view_is ∙ ap (λ (n : ℕ). (port_at c.args.self.now n).core) here)
    c.receipts-in-3.ensures.own
