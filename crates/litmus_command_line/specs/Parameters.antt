-- The arguments and options of subcommands, as `clap` has them.
use Rattle.std.specs.Prelude.{◌≡◌, ◌∷◌, [], true, false, List, Some}
use Rattle.std.specs.Borrow.{Bor}
use Rattle.clap.specs.declared.builder.action.ArgAction.TheVariants.{Append, SetTrue}
use Rattle.clap.specs.declared.builder.arg.Arg.{Arg}
use Rattle.clap.specs.declared.builder.value_parser.ValueParser.{ValueParser}
use Rattle.clap.specs.declared.builder.value_parser.ValueParser.TheVariants.{Names, Unsigned}
use Rattle.clap.specs.Walk.{is_empty}
use Rattle.clap.specs.Words.{Rule, Text, new_rule, rule_of}
use Rattle.litmus_command_line.specs.declared.subcommands.parameter.Bounds.{Bounds}
use Rattle.litmus_command_line.specs.declared.subcommands.parameter.Bounds.TheVariants as bounds
use Rattle.litmus_command_line.specs.declared.subcommands.parameter.Parameter.{Parameter}
use Rattle.litmus_command_line.specs.declared.subcommands.parameter.Parameter.TheVariants as parameters

-- an argument, which has to be there
abbrev pub argument_rule : Text → Rule
argument_rule name = record (new_rule name) { required = true }

-- .. of which there may be more than one
abbrev pub several_rule : Text → Rule
several_rule name = record (argument_rule name) { action = Some Append }

-- .. which is one of these words
abbrev pub word_rule : Text → Bor (List (Bor Text)) → Rule
word_rule name words = record (argument_rule name) { parser = Some (Names words) }

-- an option `--name`, which takes no value
abbrev pub flag_rule : Text → Rule
flag_rule name = record (new_rule name) { long = Some name; action = Some SetTrue }

-- .. which conflicts with some others
abbrev pub lone_rule : Text → Rule
lone_rule name = record (flag_rule name) { is_free = false }

-- an option `--name` that takes a text
abbrev pub text_rule : Text → Rule
text_rule name = record (new_rule name) { long = Some name; value_names = 1 }

-- .. as often as it is given
abbrev pub settings_rule : Text → Rule
settings_rule name = record (text_rule name) { action = Some Append }

-- .. which conflicts with some others
abbrev pub lone_text_rule : Text → Rule
lone_text_rule name = record (text_rule name) { is_free = false }

-- .. which is one of these words
abbrev pub choice_rule : Text → Bor (List (Bor Text)) → Rule
choice_rule name words = record (text_rule name) { parser = Some (Names words) }

-- an option `--name` that takes a number, which this reads
abbrev pub number_by : Text → ValueParser → Rule
number_by name parser = record (text_rule name) { parser = Some parser }

-- .. a number below 2^64
abbrev pub number_rule : Text → Rule
number_rule name = number_by name (Unsigned 0 18446744073709551615)

-- .. from 1 on
abbrev pub positive_rule : Text → Rule
positive_rule name = number_by name (Unsigned 1 18446744073709551615)

-- .. from 1 to 64
abbrev pub few_rule : Text → Rule
few_rule name = number_by name (Unsigned 1 64)

-- .. or none
abbrev pub few_or_none_rule : Text → Rule
few_or_none_rule name = number_by name (Unsigned 0 64)

-- an option that takes a number, with this default
abbrev pub number_rule_or : Text → Text → Rule
number_rule_or name value = record (number_rule name) { defaults = value ∷ [] }

-- .. from 1 to 64
abbrev pub few_rule_or : Text → Text → Rule
few_rule_or name value = record (few_rule name) { defaults = value ∷ [] }

-- the parser of a number within these bounds
abbrev pub parser_of : Bounds → ValueParser
parser_of bounds.Any = Unsigned 0 18446744073709551615
parser_of bounds.Positive = Unsigned 1 18446744073709551615
parser_of bounds.Few = Unsigned 1 64
parser_of bounds.FewOrNone = Unsigned 0 64

-- the rule of a parameter
abbrev pub rule_of_parameter : Parameter → Rule
rule_of_parameter (parameters.Argument name help) = argument_rule name.now
rule_of_parameter (parameters.Optional name help) = new_rule name.now
rule_of_parameter (parameters.Several name help) = several_rule name.now
rule_of_parameter (parameters.OneOf name help words) = word_rule name.now words
rule_of_parameter (parameters.Flag name help) = flag_rule name.now
rule_of_parameter (parameters.LoneFlag name help others) =
    record (flag_rule name.now) { is_free = is_empty others.now }
rule_of_parameter (parameters.Number name help bounds) = number_by name.now (parser_of bounds)
rule_of_parameter (parameters.NumberOr name help bounds value) =
    record (number_by name.now (parser_of bounds)) { defaults = value.now ∷ [] }
rule_of_parameter (parameters.Text name help value) = text_rule name.now
rule_of_parameter (parameters.Texts name help value) = settings_rule name.now
rule_of_parameter (parameters.LoneText name help value others) =
    record (text_rule name.now) { is_free = is_empty others.now }
rule_of_parameter (parameters.Choice name help words) = choice_rule name.now words

-- the argument or option has this rule, and is none that all subcommands have
abbrev pub HasRule : Rule → Arg → Type 0
HasRule rule arg = (rule_of arg ≡ rule) × (arg.global ≡ false)
