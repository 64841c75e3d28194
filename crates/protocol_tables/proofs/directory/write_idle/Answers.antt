use Rattle.std.proofs.Common.{◌≡◌, ◌∙◌, ap, codes, false, subst, true}
use Rattle.std.proofs.lemmas.Result.{on_ok_weaker}
use Rattle.std.proofs.Output.{writes_in_calls_append}
use Rattle.std.specs.Fmt.{WritesInCalls}
use Rattle.directory_table.specs.declared.state.DirState.TheVariants as dir_states
use Rattle.protocol_tables.specs.Directory.{idle, line_of, shared_entry}
use Rattle.protocol_tables.proofs.directory.write_idle.Goals as goal

pub returns : goal.returns
returns g c =
    let took = g.W.Write.write_str_gives in
    let between = c.write_line-2.new.out in
    let is : c.shared-idle.result ≡ idle = c.shared-idle.ensures ∙ ap (shared_entry dir_states.I) c.none.ensures in
    let off = subst (λ entry. WritesInCalls took c.args.out.now
    (line_of false (codes " (exclusive off)") entry) between) is
    c.in_ok-write_line.ensures in
    on_ok_weaker c.write_line-3.result
    (λ last. rw c.if-not-exclusive.false
    (writes_in_calls_append took _ _ between _ _ off
    (subst (λ entry. WritesInCalls took between (line_of true (codes " (exclusive on)") entry) c.write_line-3.new.out)
    is last)))
    c.write_line-3.ensures
