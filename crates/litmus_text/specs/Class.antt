-- The classes of messages: the first words of channels.
use Rattle.std.specs.Prelude.{ℕ, List, codes}
use Rattle.litmus_text.specs.declared.channel.Class.{Class}
use Rattle.litmus_text.specs.declared.channel.Class.TheVariants as classes

abbrev pub name_of_class : Class → List ℕ
name_of_class classes.Req = codes "req"
name_of_class classes.Fwd = codes "fwd"
name_of_class classes.Data = codes "data"
name_of_class classes.Ack = codes "ack"
name_of_class classes.Home = codes "home"
