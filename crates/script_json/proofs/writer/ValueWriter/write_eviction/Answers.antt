use Rattle.std.proofs.Common.{◌≡◌, ℕ, ◌∙◌, ◌++◌, List, Some, subst}
use Rattle.std.proofs.lemmas.Result.{on_ok_weaker}
use Rattle.std.specs.Io.KnownBytes.{Appends}
use Rattle.slice_answer.specs.Text.{text_of_evicted}
use Rattle.script_explained.specs.Issue.{named_by_answer}
use Rattle.script_explained.specs.Named.{text_of_copies}
use Rattle.script_json.specs.Answer.{members_of_evicted}
use Rattle.script_json.specs.Value.{item_of}
use Rattle.slice_text.specs.Issue.{text_of_eviction}
use Rattle.script_json.proofs.writer.ValueWriter.write_eviction.Goals as goal

pub returns-clause-written : goal.returns-clause-written
returns-clause-written g c =
    let contents = g.W.Write.contents in
    let step = c.args.eviction in
    let at = c.in_ok-line.ensures.told in
    let told = text_of_eviction step.eviction ++ text_of_copies (named_by_answer step.eviction.answer) at.state.view step.core at.holds.numbers in
    let is : c.behind-told.result.now ≡ told =
    c.behind-told.ensures (text_of_evicted step.eviction.answer) told c.in_ok-length.ensures
    (c.as_slice.ensures.value ∙ at.holds.written) in
    on_ok_weaker c.write_item.result
    (λ written. record {
      state = at.state;
      found = at.found;
      holds = record {
        numbers = at.holds.numbers;
        are_named = at.holds.are_named;
        written = subst (λ (text : List ℕ). Appends (contents c.args.out.now) (contents c.write_item.new.out)
            (item_of (members_of_evicted step.eviction.answer) (Some text))) is written;
      };
    }) c.write_item.ensures.written
