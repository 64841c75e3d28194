use Rattle.std.proofs.Common.{◌≡◌, ◌≢◌, ℕ, List, rules, map, Bool, true, false}
use Rattle.litmus_text.specs.declared.config_line.TheConstants.{SETTINGS}
use Rattle.litmus_text.specs.ConfigLine.{name_of_setting}
use Rattle.litmus_text.proofs.TableLemmas.{Each, named, unnamed}
use Rattle.litmus_text.proofs.config_line.is_on.Goals as goal

abbrev names : List (List ℕ × Bool)
names = map (λ entry. (entry.0.now, entry.1)) SETTINGS

-- the table has both
other_name : (name : List ℕ) → Each (λ entry. name ≢ entry.0) names → (is_on : Bool) → name ≢ name_of_setting is_on
other_name name other true = other.0
other_name name other false = other.1.0

pub returns-clause-named : goal.returns-clause-named
returns-clause-named c =
    named (λ name is_on. name ≡ name_of_setting is_on) names c.args.name.now c.value_named.result c.value_named.ensures
    (search rules)

pub returns-clause-refused : goal.returns-clause-refused
returns-clause-refused c =
    unnamed _ names c.args.name.now c.value_named.result c.value_named.ensures (other_name c.args.name.now)
