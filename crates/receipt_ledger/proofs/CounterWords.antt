-- The counters of a slice are few, and each is named once.
use Rattle.std.proofs.Common.{◌≡◌, ℕ, ◌<◌, ◌==◌, Bool, List, arith, subst, sym}
use Rattle.std.proofs.lemmas.List.Kept.{AllPairs-filter}
use Rattle.std.proofs.lemmas.List.Sums.{length-filter, count_by-le-length}
use Rattle.address_map.specs.declared.address.WordAddr.{WordAddr}
use Rattle.address_map.specs.declared.config.Config.{Config}
use Rattle.address_map.specs.Config.{IsAllowed}
use Rattle.address_map.specs.Place.{counters_of, line_of, slice_of}
use Rattle.address_map.specs.Words.{IsAscendingBy}
use Rattle.receipt_ledger.specs.Names.{AreCounters}

pub counters_allowed : (c : Config) (number : ℕ) (words : List WordAddr)
    → IsAllowed c → words ≡ counters_of c number → AreCounters c number words
counters_allowed c number words allowed are =
    let here : WordAddr → Bool = λ word. (slice_of c (line_of word)).0 == number in
    record {
      are = are;
      few = rw are (omega (
        arith,
        length-filter here c.counters,
        count_by-le-length here c.counters,
        allowed.few_counters,
      ));
      ascending = subst (IsAscendingBy (λ word. word.0)) (sym are)
          (AllPairs-filter (λ first later. first.0 < later.0) here c.counters allowed.counters_ascending);
    }
