use Rattle.std.proofs.Common.{Bool, List, arith, map, refl}
use Rattle.litmus_text.proofs.Pieces.{last_piece}
use Rattle.slice_json.specs.Access.{text_of_entry}
use Rattle.litmus_text.specs.JsonList.{with_commas_from}
use Rattle.litmus_text.proofs.Commas.{next_text}
use Rattle.slice_log.specs.declared.entry.Entry.{Entry}
use Rattle.slice_json.proofs.access.write_entries.Goals as goal

pub loop-number-preserved : goal.loop-number-preserved
loop-number-preserved g c = λ new rest.
    let all = λ (first : Bool) (entries : List Entry). with_commas_from first (map text_of_entry entries) in
    c.loop-number.invariant new
    (next_text g.W.Write.write_str_gives all c.loop-number.is_first c.args.log.now c.loop-number.number _ _
    (omega (arith, c.loop-number-test.true)) refl _ _ _ new c.in_ok-write_comma.ensures c.in_ok-write_entry.ensures
    rest)

pub returns : goal.returns
returns g c =
    let all = λ (entries : List Entry). with_commas_from c.loop-number.is_first (map text_of_entry entries) in
    c.loop-number.invariant _
    (last_piece g.W.Write.write_str_gives all c.args.log.now c.loop-number.number
    (omega (arith, c.loop-number-test.false)) refl _)
