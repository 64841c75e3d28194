use Rattle.std.proofs.Common.{◌+◌, ◌++◌, Bool, List, ap, drop, false, map, refl, sym}
use Rattle.litmus_text.specs.JsonList.{before_text, with_commas_from}
use Rattle.litmus_text.proofs.Commas.{last_text, next_text}
use Rattle.litmus_test.specs.Table.{RowView}
use Rattle.litmus_test.specs.Json.{outcome_of}
use Rattle.litmus_test.proofs.outcomes.json.write_rows.Goals as goal

pub loop-row-preserved : goal.loop-row-preserved
loop-row-preserved g c = λ new rest.
    let all = λ (first : Bool) (items : List RowView). with_commas_from first (map (outcome_of c.args.seed) items) in
    let rows = c.args.rows.now in
    let row = c.row-item.result in
    let first = c.loop-row.is_first in
    c.loop-row.invariant new
    (next_text g.W.Write.write_str_gives all first rows c.loop-row.row-index row (outcome_of c.args.seed row)
    c.loop-row-test.true
    (ap (λ (r : RowView). (before_text first ++ outcome_of c.args.seed r) ++ all false (drop (c.loop-row.row-index + 1) rows))
    (sym c.row-item.is))
    _ _ _ new c.in_ok-write_comma.ensures c.in_ok-write_row.ensures rest)

pub returns : goal.returns
returns g c =
    let all = λ (first : Bool) (items : List RowView). with_commas_from first (map (outcome_of c.args.seed) items) in
    c.loop-row.invariant _
    (last_text g.W.Write.write_str_gives all c.loop-row.is_first c.args.rows.now c.loop-row.row-index
    c.loop-row-test.false refl _)
