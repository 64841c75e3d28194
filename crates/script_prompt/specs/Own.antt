-- What a line does that begins with a word of the prompt's own, and what is wrong with one that does nothing.
use Rattle.std.specs.Prelude.{◌≡◌, ℕ, ◌<◌, List, [], ◌∷◌, Option, None, Some, Result, IfErr, IfOk, codes}
use Rattle.address_map.specs.declared.address.CoreId.{CoreId}
use Rattle.address_map.specs.declared.address.SliceId.{SliceId}
use Rattle.address_map.specs.declared.config.Config.{Config}
use Rattle.address_map.specs.declared.request.Op.{Op}
use Rattle.address_map.specs.declared.request.Op.TheVariants as ops
use Rattle.litmus_text.specs.Command.{HasCore}
use Rattle.litmus_text.specs.Form.{Part, key, num, HasForm, IsFaultOf, Writes}
use Rattle.litmus_text.specs.declared.fault.LineFault.{LineFault}
use Rattle.script_prompt.specs.declared.own.Own.{Own}
use Rattle.script_prompt.specs.declared.own.Own.TheVariants as owns
use Rattle.script_prompt.specs.declared.own.Word.{Word}
use Rattle.script_prompt.specs.declared.own.Word.TheVariants as words

-- the words of the prompt's own
abbrev pub name_of : Word → List ℕ
name_of words.Load = codes "load"
name_of words.Store = codes "store"
name_of words.Add = codes "add"
name_of words.Cas = codes "cas"
name_of words.Next = codes "next"
name_of words.Undo = codes "undo"
name_of words.Save = codes "save"
name_of words.Help = codes "help"
name_of words.Quit = codes "quit"

-- an access, by its name, its core, its word and what else it takes
unfoldable pub parts_of_access : CoreId → Op → ℕ → List Part
parts_of_access core ops.Load word = key (codes "load") ∷ num core.0 ∷ num word ∷ []
parts_of_access core (ops.Store value) word = key (codes "store") ∷ num core.0 ∷ num word ∷ num value ∷ []
parts_of_access core (ops.Add delta) word = key (codes "add") ∷ num core.0 ∷ num word ∷ num delta ∷ []
parts_of_access core (ops.Cas expect new) word = key (codes "cas") ∷ num core.0 ∷ num word ∷ num expect ∷ num new ∷ []

-- a slice, where one is named
abbrev pub parts_of_slice : Option SliceId → List Part
parts_of_slice None = []
parts_of_slice (Some slice) = num slice.0 ∷ []

-- each line that begins with a word of the prompt's own
abbrev pub parts_of : Own → List Part
parts_of (owns.Access core op word) = parts_of_access core op word.0
parts_of (owns.Next slice) = key (codes "next") ∷ parts_of_slice slice
parts_of owns.Undo = key (codes "undo") ∷ []
parts_of (owns.Save name) = key (codes "save") ∷ key name.now ∷ []
parts_of owns.Help = key (codes "help") ∷ []
parts_of owns.Quit = key (codes "quit") ∷ []

-- the machine has the slice, where one is named
abbrev pub HasSlice : Config → Option SliceId → Type 0
HasSlice config None = Unit {0}
HasSlice config (Some slice) = slice.0 < config.slices

-- the machine has all that the line names; the word of an access may be any
abbrev pub HasOwn : Config → Own → Type 0
HasOwn config (owns.Access core op word) = HasCore config core
HasOwn config (owns.Next slice) = HasSlice config slice
HasOwn config own = Unit {0}

-- What is wrong with words that are no such line of this machine. They have the form of none; or of one, but with a
-- number that can't be read; or they say one that names what the machine lacks.
abbrev pub IsFaultOfOwn : Config → List (List ℕ) → LineFault → Type 0
IsFaultOfOwn config said fault =
    IsFaultOf (λ own. HasForm said (parts_of own)) (λ own. Writes said (parts_of own)) (HasOwn config) fault

-- what words are read as, at a machine of this configuration: a line that they write, or what is wrong with them
pub record ReadsAsOwn (config : Config) (said : List (List ℕ)) (result : Result Own LineFault) : Type 0 where
  pub written : IfOk result (λ own. Writes said (parts_of own))
  pub in_range : IfOk result (HasOwn config)
  pub fault : IfErr result (IsFaultOfOwn config said)
