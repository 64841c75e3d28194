use Rattle.std.proofs.Common.{◌≡◌, ◌%◌, ◌∙◌, ap}
use Rattle.address_map.specs.declared.address.LineAddr.{LineAddr}
use Rattle.script_explained.proofs.PlayerLemmas.{delivery_made}
use Rattle.slice_queues.specs.Pick.{line_of}
use Rattle.script_explained.proofs.machine_step.deliver_step.Goals as goal

pub returns-clause-step : goal.returns-clause-step
returns-clause-step c =
    let config = c.args.machine.now.config in
    let at : c.slice_of-slice.result ≡ (line_of c.args.pick).0 % config.slices =
    c.slice_of-slice.ensures.slice ∙ ap (λ (line : LineAddr). line.0 % config.slices) c.line.ensures in
    delivery_made config c.args.pick _ _ _ _ at c.deliver_in.ensures.pick c.deliver_in.ensures.made
