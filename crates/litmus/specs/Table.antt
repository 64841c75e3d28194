-- What is printed as a table of the protocol.
use Rattle.std.specs.Prelude.{Bool, ℕ, List, ◌++◌}
use Rattle.litmus.specs.declared.legend.TheConstants.{CACHE, DIRECTORY}
use Rattle.litmus_command_line.specs.declared.table.Table.{Table}
use Rattle.litmus_command_line.specs.declared.table.Table.TheVariants as tables
use Rattle.protocol_tables.specs.Cache.{table_of as cache_table}
use Rattle.protocol_tables.specs.CacheJson.{cells_of as cache_cells}
use Rattle.protocol_tables.specs.Directory.{table_of as directory_table}
use Rattle.protocol_tables.specs.DirectoryJson.{cells_of as directory_cells}

-- the text of a table, with or without what the exclusive state adds to it, and after it what its words mean
abbrev pub text_of_table : Table → Bool → List ℕ
text_of_table tables.Cache exclusive = cache_table exclusive ++ CACHE.now
text_of_table tables.Directory exclusive = directory_table exclusive ++ DIRECTORY.now

-- .. and its cells as JSON values
abbrev pub values_of : Table → Bool → List ℕ
values_of tables.Cache exclusive = cache_cells exclusive
values_of tables.Directory exclusive = directory_cells exclusive
