-- A quiet slice after it has begun a new log.
use Rattle.std.specs.Prelude.{ℕ, ◌*◌, ◌/◌, ◌%◌, List, [], length, map}
use Rattle.std.specs.List.{range_with_len}
use Rattle.address_map.specs.Locator.{word_at}
use Rattle.address_map.specs.declared.address.Local.{Local}
use Rattle.address_map.specs.declared.address.WordAddr.{WordAddr}
use Rattle.slice_answer.specs.Stats.{no_stats}
use Rattle.slice_core_cache.specs.CoreCache.{recounted}
use Rattle.slice_core_spec.specs.Calls.{PartsView}
use Rattle.slice_core_spec.specs.View.{View, word_now}

-- a word of the slice with the value that it has, by its place among the slice's words: a line has eight in a row
abbrev pub word_of : View → ℕ → WordAddr × ℕ
word_of v place =
    let local : Local = record { 0 = place / 8 } in
    (word_at v.lines local (record { 0 = place % 8 }), word_now v local (place % 8))

-- all of them
abbrev pub words_now : View → List (WordAddr × ℕ)
words_now v = map (word_of v) (range_with_len 0 (8 * v.lines.lines))

-- Each word begins with the value that it has, the log is empty, and what is counted begins at 0. Copies, lines and
-- their channels stay.
abbrev pub with_new_log : PartsView → PartsView
with_new_log p = record p {
  view = record p.view { caches = map recounted p.view.caches; log = []; init = words_now p.view };
  stats = no_stats (length p.view.caches) p.stats.exclusive;
}
