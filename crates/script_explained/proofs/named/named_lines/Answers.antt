use Rattle.std.proofs.Common.{rules}
use Rattle.std.proofs.lemmas.List.Sorted.{IsNonDecreasingBy-from_sort}
use Rattle.script_explained.proofs.named.named_lines.Goals as goal

pub returns : goal.returns
returns c =
    record {
      all = search rules;
      ascending = IsNonDecreasingBy-from_sort (λ x. x) _ c.in_ok-sort.ensures.sorted;
    }
