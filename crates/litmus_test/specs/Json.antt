-- The outcomes of rounds as one value of JSON (RFC 8259).
use Rattle.std.specs.Prelude.{ℕ, ◌+◌, ◌%◌, ◌^◌, List, [], ◌++◌, Option, None, Some, codes, map}
use Rattle.address_map.specs.declared.address.WordAddr.{WordAddr}
use Rattle.litmus_text.specs.JsonList.{with_commas}
use Rattle.litmus_text.specs.JsonNumber.{number_of}
use Rattle.litmus_test.specs.Table.{RowView}
use Rattle.litmus_test.specs.declared.test.LitmusTest.{LitmusTest}
use Rattle.litmus_test.specs.declared.test.NamedReply.{NamedReply}

-- a name, which is of letters and digits
abbrev pub name_of : NamedReply → List ℕ
name_of named = codes "\"" ++ (named.name.now ++ codes "\"")

abbrev pub word_of : WordAddr → List ℕ
word_of word = number_of word.0

-- the seed of the first round that had an outcome, if the seed of round 0 is known
abbrev pub seed_of : Option ℕ → ℕ → List ℕ
seed_of None first = []
seed_of (Some seed) first = codes ",\"seed\":" ++ number_of ((seed + first) % 2 ^ 64)

-- an outcome: how many rounds had it, and its values, those of the names and then those of the counters
abbrev pub outcome_of : Option ℕ → RowView → List ℕ
outcome_of seed row =
    codes "{\"rounds\":" ++ (number_of row.rounds ++ codes ",\"values\":[") ++ with_commas (map number_of row.values)
    ++ codes "]" ++ seed_of seed row.first ++ codes "}"

-- the whole value, in one line, if `forbidden` rounds had a forbidden outcome
abbrev pub json_of : LitmusTest → Option ℕ → List RowView → ℕ → List ℕ
json_of test seed rows forbidden =
    codes "{\"names\":[" ++ with_commas (map name_of test.names.items)
    ++ codes "],\"counters\":[" ++ with_commas (map word_of test.config.counters)
    ++ codes "],\"outcomes\":[" ++ with_commas (map (outcome_of seed) rows)
    ++ (codes "],\"forbidden\":" ++ (number_of forbidden ++ codes "}\n"))
