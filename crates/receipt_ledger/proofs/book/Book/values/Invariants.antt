use Rattle.std.specs.Prelude.{◌≡◌, ◌≤◌, length, map, take}
use Rattle.address_map.specs.Place.{counters_of}
use Rattle.slice_log.specs.Log.{initially, value}
use Rattle.receipt_ledger.proofs.book.Book.values.Given as goal

abbrev pub invariant-loop-word : goal.invariant-loop-word
invariant-loop-word g l = record {
  words : l.counters ≡ counters_of g.N.SliceNames.setup g.N.SliceNames.number;
  few : length l.counters ≤ 8;
  found :
      l.values.items
      ≡ map (λ word. value (initially l.state.view.init word.0) l.state.view.log word.0)
      (take l.word-index l.counters);
}
