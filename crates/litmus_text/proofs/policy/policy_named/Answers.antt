use Rattle.std.proofs.Common.{◌≡◌, ◌≢◌, ℕ, List, rules, map}
use Rattle.litmus_text.specs.declared.policy.TheConstants.{POLICIES}
use Rattle.litmus_text.specs.declared.policy.PolicyName.{PolicyName}
use Rattle.litmus_text.specs.declared.policy.PolicyName.TheVariants as policy_names
use Rattle.litmus_text.specs.ConfigLine.{name_of_policy}
use Rattle.litmus_text.proofs.TableLemmas.{Each, named, unnamed}
use Rattle.litmus_text.proofs.policy.policy_named.Goals as goal

abbrev names : List (List ℕ × PolicyName)
names = map (λ entry. (entry.0.now, entry.1)) POLICIES

-- the table has each policy
no_policy : (name : List ℕ) → Each (λ entry. name ≢ entry.0) names → (policy : PolicyName)
    → name ≢ name_of_policy policy
no_policy name other policy_names.Lru = other.0
no_policy name other policy_names.Fifo = other.1.0
no_policy name other policy_names.Random = other.1.1.0

pub returns-clause-found : goal.returns-clause-found
returns-clause-found c =
    named (λ name policy. name ≡ name_of_policy policy) names c.args.name.now c.value_named.result c.value_named.ensures
    (search rules)

pub returns-clause-none : goal.returns-clause-none
returns-clause-none c =
    unnamed _ names c.args.name.now c.value_named.result c.value_named.ensures (no_policy c.args.name.now)
