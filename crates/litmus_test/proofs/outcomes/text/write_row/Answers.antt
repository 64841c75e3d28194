use Rattle.std.proofs.Common.{ap, drop, subst, ◌∙◌, decimal, length, List}
use Rattle.litmus_test.specs.declared.test.NamedReply.{NamedReply}
use Rattle.std.specs.Fmt.{WritesInCalls}
use Rattle.std.proofs.Output.{writes_in_calls_append}
use Rattle.std.proofs.lemmas.Result.{on_ok_weaker}
use Rattle.litmus_test.specs.OutcomesText.{right_in_8, seed_of}
use Rattle.litmus_test.proofs.Cells.{names_and_counters}
use Rattle.litmus_test.proofs.outcomes.text.write_row.Goals as goal

pub returns : goal.returns
returns g c =
    let took = g.W.Write.write_str_gives in
    let then = writes_in_calls_append took in
    let test = c.args.test.now in
    let behind = c.values_behind-behind.ensures
    ∙ ap (λ values. drop (length c.as_slice-names.result.now) values) c.values-2.ensures
    ∙ ap (λ (names : List NamedReply). drop (length names) c.args.row.now.values) c.as_slice-names.ensures.value in
    let cells = names_and_counters test c.as_slice-names.result.now c.counters.result.now c.values.result.now
    c.args.row.now.values
    c.values_behind-behind.result.now c.as_slice-names.ensures.value c.counters.ensures.value c.values.ensures behind in
    let count = subst (λ n. WritesInCalls took c.args.out.now (right_in_8 (decimal n)) c.write_count.new.out)
    c.rounds.ensures c.in_ok-write_count.ensures in
    let all_cells = subst (λ text. WritesInCalls took c.write_count.new.out text c.write_counters.new.out) cells
    (then _ _ _ _ _ c.in_ok-write_names.ensures c.in_ok-write_counters.ensures) in
    let seed = subst (λ n. WritesInCalls took c.write_counters.new.out (seed_of c.args.seed n) c.write_seed.new.out)
    c.first.ensures c.in_ok-write_seed.ensures in
    on_ok_weaker c.writeln.result
    (λ last. then _ _ _ _ _ (then _ _ _ _ _ (then _ _ _ _ _ count all_cells) seed) last)
    c.writeln.ensures.writes
