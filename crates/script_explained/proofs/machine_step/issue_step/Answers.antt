use Rattle.std.proofs.Common.{◌≡◌, ◌%◌, ◌∙◌, ap}
use Rattle.address_map.specs.Place.{line_of}
use Rattle.address_map.specs.declared.address.LineAddr.{LineAddr}
use Rattle.script_explained.proofs.PlayerLemmas.{access_made}
use Rattle.script_explained.proofs.machine_step.issue_step.Goals as goal

pub returns-clause-step : goal.returns-clause-step
returns-clause-step c =
    let config = c.args.machine.now.config in
    let made = c.in_ok-access.ensures in
    let at : c.slice_of-slice.result ≡ (line_of c.args.request.word).0 % config.slices =
    c.slice_of-slice.ensures.slice ∙ ap (λ (line : LineAddr). line.0 % config.slices) c.line.ensures in
    access_made config c.args.core c.args.request _ _ _ _ at made.core made.request made.made
