use Rattle.std.proofs.Common.{◌≡◌, ◌∙◌, ap, subst, sym}
use Rattle.address_map.specs.declared.request.Request.{Request}
use Rattle.litmus_script.specs.Issued.{Issues}
use Rattle.script_explained.specs.Issue.{issue_at}
use Rattle.slice_text.specs.declared.step.issue.Issue.{Issue}
use Rattle.script_explained.proofs.issue.issue.Goals as goal

pub returns-clause-request : goal.returns-clause-request
returns-clause-request c = ap (λ (i : Issue). i.request) c.decided-decided.ensures

pub returns-clause-made : goal.returns-clause-made
returns-clause-made c =
    let old = c.args.state.now in
    let new = c.issue.new.state in
    let asked : c.decided-decided.result.request ≡ c.args.request = ap (λ (i : Issue). i.request) c.decided-decided.ensures in
    record {
      answered = subst (λ (r : Request). Issues c.args.core r c.in_ok-issued.issued old new) (sym asked) c.in_ok-issued.ensures.issued;
      decided = c.decided-decided.ensures
          ∙ ap (λ (r : Request). issue_at c.args.slice old.view c.args.core r) (sym asked);
    }
