use Rattle.std.proofs.Common.{◌-◌, ◌^◌, ap, subst, ◌∙◌}
use Rattle.std.specs.Prelude.{OnOk}
use Rattle.std.specs.Fmt.{WritesInCalls, format_spec, styled_text}
use Rattle.program_run.proofs.Names.{name_right}
use Rattle.program_run.proofs.report.write_name.Goals as goal

pub returns : goal.returns
returns g c =
    let name = c.name-name.result.now in
    subst (λ text. OnOk c.write.result (WritesInCalls g.W.Write.write_str_gives c.args.out.now text c.write.new.self))
    (ap (λ layout. styled_text layout name) c.laid_out.ensures
    ∙ ap (styled_text (format_spec 32 3 0 10 (2 ^ 64 - 1))) c.name-name.ensures ∙ name_right c.args.column)
    c.write.ensures.writes
