use Rattle.std.proofs.lemmas.Result.{on_ok_weaker}
use Rattle.std.proofs.Output.{writes_in_calls_append}
use Rattle.litmus_text.proofs.SettingsLemmas.{settings_text}
use Rattle.litmus_text.proofs.writer.settings.write_settings.Goals as goal

pub returns : goal.returns
returns g c =
    let then = writes_in_calls_append g.W.Write.write_str_gives in
    let policy = rw c.policy.ensures.policy at c.in_ok-write_policy.ensures in
    let exclusive = rw c.exclusive.ensures.exclusive at c.in_ok-write_exclusive.ensures in
    let init = rw c.init.ensures.value at c.in_ok-write_init.ensures in
    let counters = rw c.counters.ensures.value at c.write_counters.ensures in
    rw (settings_text c.args.config.now c.args.misses)
    (on_ok_weaker c.write_counters.result
    (λ last. then _ _ _ _ _ c.in_ok-write_counts.ensures (then _ _ _ _ _ policy
    (then _ _ _ _ _ c.in_ok-write_misses.ensures (then _ _ _ _ _ exclusive (then _ _ _ _ _ init last)))))
    counters)
