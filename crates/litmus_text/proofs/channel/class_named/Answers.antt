use Rattle.std.proofs.Common.{◌≡◌, ◌≢◌, ℕ, List, rules, map}
use Rattle.litmus_text.specs.declared.channel.TheConstants.{CLASSES}
use Rattle.litmus_text.specs.declared.channel.Class.{Class}
use Rattle.litmus_text.specs.declared.channel.Class.TheVariants as classes
use Rattle.litmus_text.specs.Class.{name_of_class}
use Rattle.litmus_text.proofs.TableLemmas.{Each, named, unnamed}
use Rattle.litmus_text.proofs.channel.class_named.Goals as goal

abbrev names : List (List ℕ × Class)
names = map (λ entry. (entry.0.now, entry.1)) CLASSES

-- the table has each class
no_class : (name : List ℕ) → Each (λ entry. name ≢ entry.0) names → (class : Class) → name ≢ name_of_class class
no_class name other classes.Req = other.0
no_class name other classes.Fwd = other.1.0
no_class name other classes.Data = other.1.1.0
no_class name other classes.Ack = other.1.1.1.0
no_class name other classes.Home = other.1.1.1.1.0

pub returns-clause-found : goal.returns-clause-found
returns-clause-found c =
    named (λ name class. name ≡ name_of_class class) names c.args.name.now c.value_named.result c.value_named.ensures
    (search rules)

pub returns-clause-none : goal.returns-clause-none
returns-clause-none c =
    unnamed _ names c.args.name.now c.value_named.result c.value_named.ensures (no_class c.args.name.now)
