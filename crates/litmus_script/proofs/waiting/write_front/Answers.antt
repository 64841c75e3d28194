use Rattle.std.proofs.lemmas.Result.{on_ok_weaker}
use Rattle.std.proofs.Common.{List, ℕ, ◌++◌, codes, subst}
use Rattle.std.specs.Fmt.{WritesInCalls}
use Rattle.litmus_script.proofs.WaitingLemmas.{moves, whole_line}
use Rattle.litmus_script.proofs.waiting.write_front.Goals as goal

pub returns-in-Nothing : goal.returns-in-Nothing
returns-in-Nothing g c =
    on_ok_weaker c.writeln.result
    (λ wrote. whole_line g.W.Write.write_str_gives c.args.state.now.view c.args.pick _
    c.in-Some.message _ c.in-Some.ensures
    c.in-Nothing.ensures _ _ _ c.in_ok-write.ensures.writes (λ at is. wrote))
    c.writeln.ensures.writes

pub returns-in-Blocked : goal.returns-in-Blocked
returns-in-Blocked g c =
    on_ok_weaker c.write_blocked.result
    (λ wrote. whole_line g.W.Write.write_str_gives c.args.state.now.view c.args.pick _
    c.in-Some.message _ c.in-Some.ensures
    c.in-Blocked.ensures _ _ _ c.in_ok-write.ensures.writes wrote)
    c.write_blocked.ensures

pub returns-in-Broken : goal.returns-in-Broken
returns-in-Broken g c =
    on_ok_weaker c.writeln-in-Broken.result
    (λ wrote. whole_line g.W.Write.write_str_gives c.args.state.now.view c.args.pick _
    c.in-Some.message _ c.in-Some.ensures
    c.in-Broken.ensures _ _ _ c.in_ok-write.ensures.writes (λ at is. wrote))
    c.writeln-in-Broken.ensures.writes

pub returns-in_default-plan : goal.returns-in_default-plan
returns-in_default-plan g c =
    let took = g.W.Write.write_str_gives in
    let other = c.in_default-plan in
    on_ok_weaker c.writeln-in_default-plan.result
    (λ wrote. whole_line took c.args.state.now.view c.args.pick _ c.in-Some.message c.plan.result c.in-Some.ensures
    c.plan.ensures _ _ _ c.in_ok-write.ensures.writes
    (λ at is.
    subst (λ (does : List ℕ). WritesInCalls took c.write.new.self (does ++ codes "\n")
    c.writeln-in_default-plan.new.self)
    (moves c.plan.result _ other.not-Nothing other.not-Blocked other.not-Broken) wrote))
    c.writeln-in_default-plan.ensures.writes
