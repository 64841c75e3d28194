use Rattle.std.proofs.Common.{◌≡◌, ℕ, List, rules, map}
use Rattle.program_text.specs.declared.keyword.TheConstants.{KEYWORDS}
use Rattle.program_text.specs.declared.keyword.Keyword.{Keyword}
use Rattle.program_text.specs.Keyword.{name_of_keyword}
use Rattle.litmus_text.proofs.TableLemmas.{named}
use Rattle.program_text.proofs.keyword.Keyword.named.Goals as goal

abbrev names : List (List ℕ × Keyword)
names = map (λ entry. (entry.0.now, entry.1)) KEYWORDS

pub returns-clause-found : goal.returns-clause-found
returns-clause-found c =
    named (λ name keyword. name ≡ name_of_keyword keyword) names c.args.name.now c.value_named.result
    c.value_named.ensures (search rules)
