use Rattle.std.proofs.Common.{ap, subst, ◌∙◌}
use Rattle.std.specs.Prelude.{OnOk}
use Rattle.std.specs.Fmt.{WritesInCalls, styled_decimal}
use Rattle.litmus_test.proofs.Padding.{number_right}
use Rattle.litmus_test.proofs.outcomes.text.write_count.Goals as goal

pub returns : goal.returns
returns g c =
    subst (λ text. OnOk c.write.result (WritesInCalls g.W.Write.write_str_gives c.args.out.now text c.write.new.self))
    (ap (λ layout. styled_decimal layout c.args.count) c.laid_out.ensures ∙ number_right c.args.count)
    c.write.ensures.writes
