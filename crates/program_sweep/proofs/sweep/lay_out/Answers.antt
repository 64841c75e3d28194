use Rattle.std.proofs.Common.{◌≡◌, ◌+◌, ◌-◌, ◌<◌, ◌∙◌, ap, arith, length, length-set, refl}
use Rattle.program_sweep.specs.Read.{values_of}
use Rattle.program_sweep.proofs.ReadLemmas.{laid_more, some_rows, values_kept}
use Rattle.program_sweep.proofs.sweep.lay_out.Goals as goal

pub loop-behind-preserved : goal.loop-behind-preserved
loop-behind-preserved c =
    let count = c.len-count.result in
    let behind = c.loop-behind.behind in
    let now = c.loop-behind.settings.items in
    let p = count - 1 - behind in
    let test = c.loop-behind-test.true in
    let long : length now ≡ count = c.loop-behind.invariant.long in
    let below : p < length now = omega (arith, long, test) in
    let setting = c.index_mut-setting.result.now in
    let product = c.in_ok-rows.ensures.1 in
    let many : length c.as_slice.result.now ≡ length setting.values.items = ap length c.as_slice.ensures.value in
    record {
      some = some_rows c.loop-behind.rows _ _ c.loop-behind.invariant.some (rw many setting.some) product;
      long = length-set now p _ ∙ long;
      kept = values_kept now p setting _ below (ap values_of c.index_mut-setting.ensures.value)
          ∙ c.loop-behind.invariant.kept;
      laid = laid_more now p c.args.seeds c.loop-behind.rows (length c.as_slice.result.now) (count - behind) (count - (behind + 1)) _ _
          below (omega (arith, test)) (omega arith) product refl many c.loop-behind.invariant.laid;
    }
