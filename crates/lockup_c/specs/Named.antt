-- What numbers of C name on a machine, where they name anything.
use Rattle.std.specs.Prelude.{ℕ, ◌/◌, ◌&&◌, ◌==◌, nat_lt, [], ◌∷◌, slice_get, if◌then◌else◌, Option, None, Some, option_map}
use Rattle.address_map.specs.declared.address.CoreId.{CoreId}
use Rattle.address_map.specs.declared.address.LineAddr.{LineAddr}
use Rattle.address_map.specs.declared.address.SliceId.{SliceId}
use Rattle.address_map.specs.declared.address.WordAddr.{WordAddr}
use Rattle.address_map.specs.declared.config.Config.{Config}
use Rattle.address_map.specs.declared.request.Op.{Op}
use Rattle.address_map.specs.declared.request.Op.TheVariants as ops
use Rattle.address_map.specs.declared.request.Request.{Request}
use Rattle.slice_queues.specs.declared.channel.Class.{Class}
use Rattle.slice_queues.specs.declared.channel.Class.TheVariants as classes
use Rattle.slice_queues.specs.declared.channel.Pick.{Pick}
use Rattle.slice_queues.specs.declared.channel.Pick.TheVariants as picks

-- a core and a line of the machine
abbrev pub copy_named : Config → ℕ → ℕ → Option (CoreId × LineAddr)
copy_named config core line =
    if nat_lt core config.cores && nat_lt line config.lines then Some (record { 0 = core }, record { 0 = line }) else None

-- a core and a slice
abbrev pub file_named : Config → ℕ → ℕ → Option (CoreId × SliceId)
file_named config core slice =
    if nat_lt core config.cores && nat_lt slice config.slices then Some (record { 0 = core }, record { 0 = slice })
    else None

abbrev pub line_named : Config → ℕ → Option LineAddr
line_named config line = if nat_lt line config.lines then Some (record { 0 = line }) else None

abbrev pub word_named : Config → ℕ → Option WordAddr
word_named config word = if nat_lt (word / 8) config.lines then Some (record { 0 = word }) else None

abbrev pub slice_named : Config → ℕ → Option SliceId
slice_named config slice = if nat_lt slice config.slices then Some (record { 0 = slice }) else None

abbrev pub op_named : ℕ → ℕ → ℕ → Option Op
op_named op operand replacement =
    slice_get (ops.Load ∷ ops.Store operand ∷ ops.Add operand ∷ ops.Cas operand replacement ∷ []) op

abbrev pub class_named : ℕ → Option Class
class_named n =
    slice_get (classes.Req ∷ classes.Fwd ∷ classes.Data ∷ classes.Ack ∷ classes.Home ∷ classes.Any ∷ []) n

-- a channel of acknowledgements, and that of the block that comes home
abbrev pub ack_named : Config → ℕ → ℕ → ℕ → Option Pick
ack_named config line to from =
    if nat_lt from config.cores
    then option_map (λ named. picks.Ack named.1 named.0 (record { 0 = from })) (copy_named config to line) else None

abbrev pub home_named : Config → ℕ → Option Pick
home_named config line = if nat_lt line config.lines then Some (picks.Home (record { 0 = line })) else None

-- a channel of a line of the machine, by its number and its cores
abbrev pub pick_named : Config → ℕ → ℕ → ℕ → ℕ → Option Pick
pick_named config channel line core from =
    if channel == 0 then option_map (λ named. picks.Req named.1 named.0) (copy_named config core line)
    else if channel == 1 then option_map (λ named. picks.Fwd named.1 named.0) (copy_named config core line)
    else if channel == 2 then option_map (λ named. picks.Data named.1 named.0) (copy_named config core line)
    else if channel == 3 then ack_named config line core from
    else if channel == 4 then home_named config line
    else None

-- a slice, and the channels that it is to deliver from
abbrev pub turn_named : Config → ℕ → ℕ → Option (SliceId × Class)
turn_named config slice channel =
    if nat_lt slice config.slices then option_map (λ class. (record { 0 = slice }, class)) (class_named channel) else None

-- a core, and what it asks for; a tag is one byte
abbrev pub request_named : Config → ℕ → ℕ → ℕ → ℕ → ℕ → ℕ → Option (CoreId × Request)
request_named config core tag op word operand replacement =
    if nat_lt core config.cores && nat_lt tag 256
    then option_map (λ named. (record { 0 = core }, record { op = named; word = record { 0 = word }; tag = tag }))
    (op_named op operand replacement)
    else None
