use Rattle.std.proofs.Common.{◌≡◌, Ok, ap, ◌∙◌}
use Rattle.address_map.specs.Config.{checked_of}
use Rattle.litmus_text.specs.Settings.{default_settings}
use Rattle.litmus_chart.proofs.chart.chart_of_nothing.Goals as goal

pub unreachable-requires : goal.unreachable-requires
unfolding lib.Count.ones
unreachable-requires g c =
    let fine : c.check.result ≡ Ok default_settings.config =
    c.check.ensures.value ∙ ap (λ settings. checked_of settings.config) c.new-config.ensures in
    cc
