use Rattle.std.proofs.Common.{ℕ, Bool, List, map, refl}
use Rattle.litmus_text.proofs.Pieces.{last_piece}
use Rattle.litmus_text.specs.JsonList.{with_commas_from}
use Rattle.slice_json.specs.Json.{text_of_value}
use Rattle.litmus_text.proofs.Commas.{next_text}
use Rattle.slice_json.proofs.json.write_words.Goals as goal

pub loop-word-preserved : goal.loop-word-preserved
loop-word-preserved g c = λ new rest.
    let all = λ (first : Bool) (words : List ℕ). with_commas_from first (map text_of_value words) in
    c.loop-word.invariant new
    (next_text g.W.Write.write_str_gives all c.loop-word.is_first c.args.words.now c.loop-word.word-index _ _
    c.loop-word-test.true refl _ _ _ new c.in_ok-write_comma.ensures c.in_ok-write_value.ensures rest)

pub returns : goal.returns
returns g c =
    let all = λ (words : List ℕ). with_commas_from c.loop-word.is_first (map text_of_value words) in
    c.loop-word.invariant _
    (last_piece g.W.Write.write_str_gives all c.args.words.now c.loop-word.word-index c.loop-word-test.false refl _)
