use Rattle.std.proofs.Common.{ℕ, [], ◌∷◌, ◌++◌, ap, get_or, sym, ◌∙◌, map, take}
use Rattle.std.proofs.lemmas.List.{map_more}
use Rattle.address_map.specs.Locator.{local_at}
use Rattle.address_map.specs.Place.{line_of}
use Rattle.address_map.specs.declared.address.WordAddr.{WordAddr}
use Rattle.receipt_ledger.proofs.Settled.{counter-line-at, shown-value}
use Rattle.slice_log.specs.Log.{initially, value}
use Rattle.receipt_ledger.proofs.book.Book.values.Goals as goal

pub word_now-requires-clause-here : goal.word_now-requires-clause-here
word_now-requires-clause-here g c =
    counter-line-at g.N.SliceNames.setup g.N.SliceNames.number c.args.state.now.view c.requires.tied.slice
    c.deref-counters.result.now c.loop-word.word-index (record { 0 = 0 }) c.loop-word.invariant.words
    c.loop-word-test.true

pub loop-word-preserved : goal.loop-word-preserved
loop-word-preserved g c =
    let v = c.args.state.now.view in
    let words = c.deref-counters.result.now in
    let i = c.loop-word.word-index in
    let none : WordAddr = record { 0 = 0 } in
    let worth : WordAddr → ℕ = λ word. value (initially v.init word.0) v.log word.0 in
    let word = get_or words i none in record {
      words = c.loop-word.invariant.words;
      few = c.loop-word.invariant.few;
      found =
          c.push.ensures.items
          ∙ ap (λ found. found ++ c.word_now.result ∷ []) c.loop-word.invariant.found
          ∙ ap (λ n. map worth (take i words) ++ n ∷ [])
          (shown-value v word (local_at v.lines (line_of word).0) c.word_now.result
          (counter-line-at g.N.SliceNames.setup g.N.SliceNames.number v c.requires.tied.slice words i none
          c.loop-word.invariant.words c.loop-word-test.true)
          c.word_now.ensures.newest)
          ∙ sym (map_more worth words i none c.loop-word-test.true);
    }
