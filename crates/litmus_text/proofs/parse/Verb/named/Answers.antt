use Rattle.std.proofs.Common.{◌≡◌, ◌≢◌, ℕ, List, rules, map}
use Rattle.litmus_text.specs.declared.look.MachineLook.TheVariants as machine_looks
use Rattle.litmus_text.specs.declared.parse.TheConstants.{VERBS}
use Rattle.litmus_text.specs.declared.parse.Verb.{Verb}
use Rattle.litmus_text.specs.declared.parse.Verb.TheVariants as verbs
use Rattle.litmus_text.specs.Verb.{name_of_verb}
use Rattle.litmus_text.proofs.TableLemmas.{Each, named, unnamed}
use Rattle.litmus_text.proofs.parse.Verb.named.Goals as goal

abbrev names : List (List ℕ × Verb)
names = map (λ entry. (entry.0.now, entry.1)) VERBS

-- the table has each verb
no_verb : (name : List ℕ) → Each (λ entry. name ≢ entry.0) names → (verb : Verb) → name ≢ name_of_verb verb
no_verb name other verbs.Issue = other.0
no_verb name other verbs.Evict = other.1.0
no_verb name other verbs.Deliver = other.1.1.0
no_verb name other verbs.Hand = other.1.1.1.0
no_verb name other verbs.Word = other.1.1.1.1.0
no_verb name other verbs.State = other.1.1.1.1.1.0
no_verb name other verbs.Log = other.1.1.1.1.1.1.0
no_verb name other (verbs.Machine machine_looks.Stats) = other.1.1.1.1.1.1.1.0
no_verb name other (verbs.Machine machine_looks.Waiting) = other.1.1.1.1.1.1.1.1.0
no_verb name other (verbs.Machine machine_looks.Show) = other.1.1.1.1.1.1.1.1.1.0
no_verb name other verbs.Pump = other.1.1.1.1.1.1.1.1.1.1.0

pub returns-clause-found : goal.returns-clause-found
returns-clause-found c =
    named (λ name verb. name ≡ name_of_verb verb) names c.args.name.now c.value_named.result c.value_named.ensures
    (search rules)

pub returns-clause-none : goal.returns-clause-none
returns-clause-none c =
    unnamed _ names c.args.name.now c.value_named.result c.value_named.ensures (no_verb c.args.name.now)
