use Rattle.std.proofs.Common.{Bool, List, map, refl}
use Rattle.litmus_text.specs.JsonList.{with_commas_from}
use Rattle.litmus_text.proofs.Commas.{last_text, next_text}
use Rattle.address_map.specs.declared.address.WordAddr.{WordAddr}
use Rattle.litmus_test.specs.Json.{word_of}
use Rattle.litmus_test.proofs.outcomes.json.write_words.Goals as goal

pub loop-word-preserved : goal.loop-word-preserved
loop-word-preserved g c = λ new rest.
    let all = λ (first : Bool) (items : List WordAddr). with_commas_from first (map word_of items) in
    c.loop-word.invariant new
    (next_text g.W.Write.write_str_gives all c.loop-word.is_first c.args.words.now c.loop-word.word-index _ _
    c.loop-word-test.true refl _ _ _ new c.in_ok-write_comma.ensures c.in_ok-write_number.ensures rest)

pub returns : goal.returns
returns g c =
    let all = λ (first : Bool) (items : List WordAddr). with_commas_from first (map word_of items) in
    c.loop-word.invariant _
    (last_text g.W.Write.write_str_gives all c.loop-word.is_first c.args.words.now c.loop-word.word-index
    c.loop-word-test.false refl _)
