use Rattle.std.proofs.Common.{Bool, List, map, refl}
use Rattle.litmus_text.proofs.Pieces.{last_piece}
use Rattle.program_run.specs.declared.column.Column.{Column}
use Rattle.litmus_text.specs.JsonList.{with_commas_from}
use Rattle.program_run.specs.Json.{member_of}
use Rattle.litmus_text.proofs.Commas.{next_text}
use Rattle.program_run.proofs.json.write_members.Goals as goal

pub loop-column-preserved : goal.loop-column-preserved
loop-column-preserved g c = λ new rest.
    let all = λ (first : Bool) (columns : List Column). with_commas_from first
    (map (member_of c.args.counts.now) columns) in
    c.loop-column.invariant new
    (next_text g.W.Write.write_str_gives all c.loop-column.is_first c.args.columns.now c.loop-column.column-index _ _
    c.loop-column-test.true refl _ _ _ new c.in_ok-write_comma.ensures c.in_ok-write_member.ensures rest)

pub returns : goal.returns
returns g c =
    let all = λ (columns : List Column). with_commas_from c.loop-column.is_first
    (map (member_of c.args.counts.now) columns) in
    c.loop-column.invariant _
    (last_piece g.W.Write.write_str_gives all c.args.columns.now c.loop-column.column-index c.loop-column-test.false
    refl _)
