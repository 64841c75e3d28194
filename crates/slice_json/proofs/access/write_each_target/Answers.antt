use Rattle.std.proofs.Common.{Bool, List, map, refl}
use Rattle.litmus_text.proofs.Pieces.{last_piece}
use Rattle.slice_json.specs.Access.{text_of_target}
use Rattle.litmus_text.specs.JsonList.{with_commas_from}
use Rattle.litmus_text.proofs.Commas.{next_text}
use Rattle.target_list.specs.declared.target.Target.{Target}
use Rattle.slice_json.proofs.access.write_each_target.Goals as goal

pub loop-target-preserved : goal.loop-target-preserved
loop-target-preserved g c = λ new rest.
    let all = λ (first : Bool) (targets : List Target). with_commas_from first (map text_of_target targets) in
    c.loop-target.invariant new
    (next_text g.W.Write.write_str_gives all c.loop-target.is_first c.args.targets.now c.loop-target.target-index _ _
    c.loop-target-test.true refl _ _ _ new c.in_ok-write_comma.ensures c.in_ok-write_target.ensures rest)

pub returns : goal.returns
returns g c =
    let all = λ (targets : List Target). with_commas_from c.loop-target.is_first (map text_of_target targets) in
    c.loop-target.invariant _
    (last_piece g.W.Write.write_str_gives all c.args.targets.now c.loop-target.target-index c.loop-target-test.false
    refl _)
