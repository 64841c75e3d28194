-- What a line at the prompt asks for, by its words, and what is wrong with one that asks for nothing.
use Rattle.std.specs.Prelude.{◌≡◌, ◌≢◌, ℕ, List, [], ◌∷◌}
use Rattle.address_map.specs.declared.config.Config.{Config}
use Rattle.litmus_script.specs.Fault.{BeginsAsConfig}
use Rattle.litmus_text.specs.Form.{Writes}
use Rattle.litmus_text.specs.declared.fault.LineFault.{LineFault}
use Rattle.script_prompt.specs.Own.{HasOwn, IsFaultOfOwn, name_of, parts_of}
use Rattle.script_prompt.specs.declared.asked.Asked.{Asked}
use Rattle.script_prompt.specs.declared.asked.Asked.TheVariants as asked_kinds
use Rattle.script_prompt.specs.declared.own.Word.{Word}

-- the first word is one of the prompt's own
abbrev pub BeginsAsOwn : List (List ℕ) → Type 0
BeginsAsOwn [] = ⊥
BeginsAsOwn (name ∷ rest) = (word : Word) × (name ≡ name_of word)

-- .. or neither one that configures nor one of the prompt's own
abbrev pub BeginsAsOther : List (List ℕ) → Type 0
BeginsAsOther [] = ⊥
BeginsAsOther (name ∷ rest) = (¬ BeginsAsConfig (name ∷ rest)) × ((word : Word) → name ≢ name_of word)

-- the words ask for this, and the machine has what a word of the prompt's own names
abbrev pub Asks : Config → List (List ℕ) → Asked → Type 0
Asks config said asked_kinds.Nothing = said ≡ []
Asks config said asked_kinds.Configuration = BeginsAsConfig said
Asks config said asked_kinds.Command = BeginsAsOther said
Asks config said (asked_kinds.Own own) = Writes said (parts_of own) × HasOwn config own

-- what is wrong with words that ask for nothing: they begin with a word of the prompt's own, and what is wrong with
-- them as such a line
abbrev pub IsFaultOfAsked : Config → List (List ℕ) → LineFault → Type 0
IsFaultOfAsked config said fault = BeginsAsOwn said × IsFaultOfOwn config said fault
