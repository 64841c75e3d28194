-- How the commands of a script are written.
use Rattle.std.specs.Prelude.{ℕ, ◌<◌, List, [], ◌∷◌, Result, IfOk, IfErr, codes}
use Rattle.address_map.specs.declared.config.Config.{Config}
use Rattle.address_map.specs.declared.address.CoreId.{CoreId}
use Rattle.address_map.specs.declared.address.LineAddr.{LineAddr}
use Rattle.address_map.specs.declared.request.Op.{Op}
use Rattle.address_map.specs.declared.request.Op.TheVariants as ops
use Rattle.slice_queues.specs.declared.channel.Pick.{Pick}
use Rattle.slice_queues.specs.declared.channel.Pick.TheVariants as picks
use Rattle.litmus_text.specs.declared.command.Command.{Command}
use Rattle.litmus_text.specs.declared.command.Command.TheVariants as commands
use Rattle.litmus_text.specs.declared.fault.LineFault.{LineFault}
use Rattle.litmus_text.specs.Form.{Part, key, num, Writes, HasForm, IsFaultOf}
use Rattle.litmus_text.specs.Look.{HasSubject, name_of_look, parts_of_subject, subject_of}

-- an access: its name, its word and its other operands
unfoldable pub parts_of_op : Op → ℕ → List Part
parts_of_op ops.Load word = key (codes "load") ∷ num word ∷ []
parts_of_op (ops.Store value) word = key (codes "store") ∷ num word ∷ num value ∷ []
parts_of_op (ops.Add delta) word = key (codes "add") ∷ num word ∷ num delta ∷ []
parts_of_op (ops.Cas expect new) word = key (codes "cas") ∷ num word ∷ num expect ∷ num new ∷ []

-- .. as one value
abbrev pub parts_of_access : Op × ℕ → List Part
parts_of_access access = parts_of_op access.0 access.1

-- a channel: its class, its line and its cores
unfoldable pub parts_of_pick : Pick → List Part
parts_of_pick (picks.Req line core) = key (codes "req") ∷ num line.0 ∷ num core.0 ∷ []
parts_of_pick (picks.Fwd line core) = key (codes "fwd") ∷ num line.0 ∷ num core.0 ∷ []
parts_of_pick (picks.Data line core) = key (codes "data") ∷ num line.0 ∷ num core.0 ∷ []
parts_of_pick (picks.Ack line to from) = key (codes "ack") ∷ num line.0 ∷ num to.0 ∷ num from.0 ∷ []
parts_of_pick (picks.Home line) = key (codes "home") ∷ num line.0 ∷ []

-- each command of a script
abbrev pub parts_of : Command → List Part
parts_of (commands.Issue core request) =
    key (codes "issue") ∷ num core.0 ∷ num request.tag ∷ parts_of_op request.op request.word.0
parts_of (commands.Evict core line) = key (codes "evict") ∷ num core.0 ∷ num line.0 ∷ []
parts_of (commands.Deliver pick) = key (codes "deliver") ∷ parts_of_pick pick
parts_of (commands.Hand core slice) = key (codes "hand") ∷ num core.0 ∷ num slice.0 ∷ []
parts_of (commands.Look look) = key (name_of_look look) ∷ parts_of_subject (subject_of look)
parts_of (commands.Pump calls) = key (codes "pump") ∷ num calls ∷ []

-- the machine has this core, and this line
abbrev pub HasCore : Config → CoreId → Type 0
HasCore config core = core.0 < config.cores

abbrev pub HasLine : Config → LineAddr → Type 0
HasLine config line = line.0 < config.lines

-- .. and both with these numbers
abbrev pub HasLineAndCore : Config → ℕ × ℕ → Type 0
HasLineAndCore config p = HasLine config (record { 0 = p.0 }) × HasCore config (record { 0 = p.1 })

-- the machine has the line and the cores of the channel
unfoldable pub HasPick : Config → Pick → Type 0
HasPick config (picks.Req line core) = HasLine config line × HasCore config core
HasPick config (picks.Fwd line core) = HasLine config line × HasCore config core
HasPick config (picks.Data line core) = HasLine config line × HasCore config core
HasPick config (picks.Ack line to from) = HasLine config line × HasCore config to × HasCore config from
HasPick config (picks.Home line) = HasLine config line

-- what is wrong with words that write no channel of this machine
abbrev pub IsFaultOfPick : Config → List (List ℕ) → LineFault → Type 0
IsFaultOfPick config words fault =
    IsFaultOf (λ pick. HasForm words (parts_of_pick pick)) (λ pick. Writes words (parts_of_pick pick))
    (HasPick config) fault

-- the result of reading words for a machine of this configuration: the channel that they write, or their fault
pub record ReadsAsPick (config : Config) (words : List (List ℕ)) (result : Result Pick LineFault) : Type 0 where
  pub written : IfOk result (λ pick. Writes words (parts_of_pick pick))
  pub in_range : IfOk result (HasPick config)
  pub fault : IfErr result (IsFaultOfPick config words)

-- the machine has all that the command names; the word of an access may be any
abbrev pub IsInRange : Config → Command → Type 0
IsInRange config (commands.Issue core request) = HasCore config core
IsInRange config (commands.Evict core line) = HasCore config core × HasLine config line
IsInRange config (commands.Deliver pick) = HasPick config pick
IsInRange config (commands.Hand core slice) = HasCore config core × (slice.0 < config.slices)
IsInRange config (commands.Look look) = HasSubject config (subject_of look)
IsInRange config (commands.Pump calls) = Unit {0}

-- a tag is a number below 256
abbrev pub HasTag : Command → Type 0
HasTag (commands.Issue core request) = request.tag < 256
HasTag command = Unit {0}

-- words say a command by writing it with a tag
abbrev pub Says : List (List ℕ) → Command → Type 0
Says words command = Writes words (parts_of command) × HasTag command

-- a line of a script was read as this command, for a machine that has all that it names
pub record IsRead (config : Config) (words : List (List ℕ)) (command : Command) : Type 0 where
  pub written : Writes words (parts_of command)
  pub tag : HasTag command
  pub in_range : IsInRange config command

-- What is wrong with words that are no command of this machine: they have the form of none; or of one, but with an
-- invalid number or tag; or they say one that names what the machine lacks.
abbrev pub IsFaultOfCommand : Config → List (List ℕ) → LineFault → Type 0
IsFaultOfCommand config words fault =
    IsFaultOf (λ command. HasForm words (parts_of command)) (Says words) (IsInRange config) fault

-- the result of reading words for a machine of this configuration: the command that they write, or their fault
pub record ReadsAs (config : Config) (words : List (List ℕ)) (result : Result Command LineFault) : Type 0 where
  pub read : IfOk result (IsRead config words)
  pub fault : IfErr result (IsFaultOfCommand config words)
