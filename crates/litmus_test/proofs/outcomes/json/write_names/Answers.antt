use Rattle.std.proofs.Common.{Bool, List, map, refl}
use Rattle.litmus_text.specs.JsonList.{with_commas_from}
use Rattle.litmus_text.proofs.Commas.{last_text, next_text}
use Rattle.litmus_test.specs.declared.test.NamedReply.{NamedReply}
use Rattle.litmus_test.specs.Json.{name_of}
use Rattle.litmus_test.proofs.outcomes.json.write_names.Goals as goal

pub loop-named-preserved : goal.loop-named-preserved
loop-named-preserved g c = λ new rest.
    let all = λ (first : Bool) (items : List NamedReply). with_commas_from first (map name_of items) in
    c.loop-named.invariant new
    (next_text g.W.Write.write_str_gives all c.loop-named.is_first c.args.names.now c.loop-named.named-index _ _
    c.loop-named-test.true refl _ _ _ new c.in_ok-write_comma.ensures c.in_ok-write_name.ensures rest)

pub returns : goal.returns
returns g c =
    let all = λ (first : Bool) (items : List NamedReply). with_commas_from first (map name_of items) in
    c.loop-named.invariant _
    (last_text g.W.Write.write_str_gives all c.loop-named.is_first c.args.names.now c.loop-named.named-index
    c.loop-named-test.false refl _)
