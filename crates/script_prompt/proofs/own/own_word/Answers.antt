use Rattle.std.proofs.Common.{◌≡◌, ◌≢◌, ℕ, List, rules, map}
use Rattle.litmus_text.proofs.TableLemmas.{Each, named, unnamed}
use Rattle.script_prompt.specs.Own.{name_of}
use Rattle.script_prompt.specs.declared.own.TheConstants.{WORDS}
use Rattle.script_prompt.specs.declared.own.Word.{Word}
use Rattle.script_prompt.specs.declared.own.Word.TheVariants as words
use Rattle.script_prompt.proofs.own.own_word.Goals as goal

abbrev names : List (List ℕ × Word)
names = map (λ entry. (entry.0.now, entry.1)) WORDS

-- the table has each word
no_word : (name : List ℕ) → Each (λ entry. name ≢ entry.0) names → (word : Word) → name ≢ name_of word
no_word name other words.Load = other.0
no_word name other words.Store = other.1.0
no_word name other words.Add = other.1.1.0
no_word name other words.Cas = other.1.1.1.0
no_word name other words.Next = other.1.1.1.1.0
no_word name other words.Undo = other.1.1.1.1.1.0
no_word name other words.Save = other.1.1.1.1.1.1.0
no_word name other words.Help = other.1.1.1.1.1.1.1.0
no_word name other words.Quit = other.1.1.1.1.1.1.1.1.0

pub returns-clause-found : goal.returns-clause-found
returns-clause-found c =
    named (λ name word. name ≡ name_of word) names c.args.name.now c.value_named.result c.value_named.ensures
    (search rules)

pub returns-clause-none : goal.returns-clause-none
returns-clause-none c =
    unnamed _ names c.args.name.now c.value_named.result c.value_named.ensures (no_word c.args.name.now)
