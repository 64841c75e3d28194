use Rattle.std.proofs.Common.{◌≡◌, ℕ, ◌∙◌, ◌++◌, List, Some, subst}
use Rattle.std.proofs.lemmas.Result.{on_ok_weaker}
use Rattle.std.specs.Io.KnownBytes.{Appends}
use Rattle.litmus_script.specs.Answer.{text_of_issued}
use Rattle.script_explained.specs.Issue.{named_of}
use Rattle.script_explained.specs.Named.{text_of_copies}
use Rattle.script_json.specs.Answer.{members_of_issued}
use Rattle.script_json.specs.Value.{item_of}
use Rattle.slice_text.specs.Issue.{text_of_issue}
use Rattle.script_json.proofs.writer.ValueWriter.write_access.Goals as goal

pub returns-clause-written : goal.returns-clause-written
returns-clause-written g c =
    let contents = g.W.Write.contents in
    let access = c.args.access in
    let at = c.in_ok-line.ensures.told in
    let told = text_of_issue access.decided ++ text_of_copies (named_of access.decided) at.state.view access.core at.holds.numbers in
    let is : c.behind-told.result.now ≡ told =
    c.behind-told.ensures (text_of_issued access.issued) told c.in_ok-length.ensures
    (c.as_slice.ensures.value ∙ at.holds.written) in
    on_ok_weaker c.write_item.result
    (λ written. record {
      state = at.state;
      found = at.found;
      holds = record {
        numbers = at.holds.numbers;
        are_named = at.holds.are_named;
        written = subst (λ (text : List ℕ). Appends (contents c.args.out.now) (contents c.write_item.new.out)
            (item_of (members_of_issued access.issued) (Some text))) is written;
      };
    }) c.write_item.ensures.written
