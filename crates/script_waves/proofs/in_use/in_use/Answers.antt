use Rattle.std.proofs.Common.{◌≡◌, ◌∙◌, ap, length}
use Rattle.script_waves.proofs.InUseLemmas.{count_leaving, count_waiting, same_use}
use Rattle.slice_core_spec.specs.View.{cache_at}
use Rattle.script_waves.proofs.in_use.in_use.Goals as goal

pub returns : goal.returns
returns c =
    let v = c.args.state.now.view in
    let cache = cache_at v c.args.core in
    let registers : length c.as_slice.result.now ≡ length cache.misses =
    ap length c.as_slice.ensures.value ∙ ap length c.in_ok-registers.ensures ∙ count_waiting v c.args.core in
    let leaving : length c.as_slice-2.result.now ≡ length cache.buffer.write_backs =
    ap length c.as_slice-2.ensures.value ∙ ap length c.in_ok-leaving.ensures ∙ count_leaving v c.args.core in
    same_use _ _ _ _ _ _ registers c.target_count.ensures leaving
