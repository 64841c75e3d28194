use Rattle.std.proofs.Common.{◌≡◌, ◌≢◌, ℕ, List, rules, map}
use Rattle.litmus_test.specs.declared.keyword.TheConstants.{KEYWORDS}
use Rattle.litmus_test.specs.declared.keyword.Keyword.{Keyword}
use Rattle.litmus_test.specs.declared.keyword.Keyword.TheVariants as keywords
use Rattle.litmus_test.specs.Keyword.{name_of_keyword}
use Rattle.litmus_text.proofs.TableLemmas.{Each, named, unnamed}
use Rattle.litmus_test.proofs.keyword.Keyword.named.Goals as goal

abbrev names : List (List ℕ × Keyword)
names = map (λ entry. (entry.0.now, entry.1)) KEYWORDS

-- the table has each keyword
no_keyword : (name : List ℕ) → Each (λ entry. name ≢ entry.0) names → (keyword : Keyword)
    → name ≢ name_of_keyword keyword
no_keyword name other keywords.Thread = other.0
no_keyword name other keywords.Load = other.1.0
no_keyword name other keywords.Store = other.1.1.0
no_keyword name other keywords.Add = other.1.1.1.0
no_keyword name other keywords.Cas = other.1.1.1.1.0
no_keyword name other keywords.Settle = other.1.1.1.1.1.0
no_keyword name other keywords.Evict = other.1.1.1.1.1.1.0
no_keyword name other keywords.Forbid = other.1.1.1.1.1.1.1.0

pub returns-clause-found : goal.returns-clause-found
returns-clause-found c =
    named (λ name keyword. name ≡ name_of_keyword keyword) names c.args.name.now c.value_named.result
    c.value_named.ensures
    (search rules)

pub returns-clause-none : goal.returns-clause-none
returns-clause-none c =
    unnamed _ names c.args.name.now c.value_named.result c.value_named.ensures (no_keyword c.args.name.now)
