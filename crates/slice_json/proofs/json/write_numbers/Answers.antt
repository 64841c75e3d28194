use Rattle.std.proofs.Common.{Bool, List, map, refl}
use Rattle.litmus_text.proofs.Pieces.{last_piece}
use Rattle.address_map.specs.declared.address.LineAddr.{LineAddr}
use Rattle.litmus_text.specs.JsonList.{with_commas_from}
use Rattle.slice_json.specs.Json.{text_of_line_number}
use Rattle.litmus_text.proofs.Commas.{next_text}
use Rattle.slice_json.proofs.json.write_numbers.Goals as goal

pub loop-line-preserved : goal.loop-line-preserved
loop-line-preserved g c = λ new rest.
    let all = λ (first : Bool) (lines : List LineAddr). with_commas_from first (map text_of_line_number lines) in
    c.loop-line.invariant new
    (next_text g.W.Write.write_str_gives all c.loop-line.is_first c.args.lines.now c.loop-line.line-index _ _
    c.loop-line-test.true refl _ _ _ new c.in_ok-write_comma.ensures c.in_ok-write_number.ensures rest)

pub returns : goal.returns
returns g c =
    let all = λ (lines : List LineAddr). with_commas_from c.loop-line.is_first (map text_of_line_number lines) in
    c.loop-line.invariant _
    (last_piece g.W.Write.write_str_gives all c.args.lines.now c.loop-line.line-index c.loop-line-test.false refl _)
