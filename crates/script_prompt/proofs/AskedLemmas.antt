-- What no line asks for.
use Rattle.std.proofs.Common.{◌≡◌, ℕ, List, ◌∷◌, subst}
use Rattle.address_map.specs.declared.config.Config.{Config}
use Rattle.litmus_text.specs.Field.{IsFieldName}
use Rattle.litmus_text.specs.Form.{Writes}
use Rattle.litmus_text.specs.declared.fault.LineFault.{LineFault}
use Rattle.script_prompt.proofs.OwnLemmas.{refuses}
use Rattle.script_prompt.specs.Asked.{Asks}
use Rattle.script_prompt.specs.Own.{IsFaultOfOwn, name_of, parts_of}
use Rattle.script_prompt.specs.declared.asked.Asked.{Asked}
use Rattle.script_prompt.specs.declared.asked.Asked.TheVariants as asked_kinds
use Rattle.script_prompt.specs.declared.own.Word.{Word}

-- a line that begins with a word of the prompt's own asks for what it asks for by that word, or for nothing at all
pub asks_nothing : (config : Config) (name : List ℕ) (rest : List (List ℕ)) (word : Word) → name ≡ name_of word
    → (IsFieldName name → ⊥) → (fault : LineFault) → IsFaultOfOwn config (name_of word ∷ rest) fault
    → (asked : Asked) → Asks config (name ∷ rest) asked → ⊥
asks_nothing config name rest word is other fault wrong asked_kinds.Nothing empty = cc
asks_nothing config name rest word is other fault wrong asked_kinds.Configuration field = other field
asks_nothing config name rest word is other fault wrong asked_kinds.Command begins = begins.1 word is
asks_nothing config name rest word is other fault wrong (asked_kinds.Own own) says =
    refuses config (name_of word ∷ rest) fault wrong own
    (subst (λ n. Writes (n ∷ rest) (parts_of own)) is says.0) says.1
