-- What draining leaves of the cores.
use Rattle.std.specs.Prelude.{List, [], ◌∷◌}
use Rattle.address_map.specs.declared.config.Config.{Config}
use Rattle.core_thread_system.specs.Core.{CoreView}
use Rattle.core_thread_system.specs.Program.{HasMade}

-- Each core, in its place, has asked for nothing: its receipts are those that it had, and may be more.
abbrev pub HaveMadeNothing : Config → List CoreView → List CoreView → Type 0
HaveMadeNothing c [] [] = Unit {0}
HaveMadeNothing c (old ∷ olds) (new ∷ news) = HasMade c old [] new × HaveMadeNothing c olds news
HaveMadeNothing c olds news = ⊥
