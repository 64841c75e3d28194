-- How a slice's first values, lines and cores are made, one after another.
use Rattle.std.proofs.Common.{◌≡◌, ◌≢◌, ◌<◌, ◌+◌, ℕ, List, [], ◌∷◌, ◌++◌, length, get_or, set, inl, inr, sym, ◌∙◌}
use Rattle.std.proofs.Common.{ap, arith, below_more, take}
use Rattle.std.proofs.lemmas.List.{get_or-set_same, get_or-set_other, get_or_append_left, get_or_push, length_push, take_more}
use Rattle.std.proofs.lemmas.Bool.{cases_lt}
use Rattle.address_map.specs.Locator.{Lines}
use Rattle.address_map.specs.declared.block.Block.{Block}
use Rattle.address_map.specs.declared.config.Config.{Config}
use Rattle.directory_table.specs.declared.state.DirEntry.{DirEntry}
use Rattle.mshr_file.specs.Miss.{Bound}
use Rattle.slice_core_cache.specs.CoreCache.{CoreCacheView, new_cache}
use Rattle.slice_core_spec.specs.Initial.{IsInitialBlock, AreInitialEntries, AreNewCaches, unowned_entry}
use Rattle.slice_core_spec.specs.View.{no_entry, no_cache}

-- one more word of a block
pub words-more : (words : List ℕ) (i v : ℕ) (f : ℕ → ℕ) → i < length words → ((k : ℕ) → k < i → get_or words k 0 ≡ f k)
    → v ≡ f i
    → (k : ℕ) → k < i + 1 → get_or (set words i v) k 0 ≡ f k
words-more words i v f within before is =
    below_more _ _ (λ k less. let other : k ≢ i = omega arith in get_or-set_other words i k v 0 other ∙ before k less)
    (get_or-set_same words i v 0 within ∙ is)

pub words-fit : (words : List ℕ) (i v limit : ℕ) → i < length words → ((k : ℕ) → k < i → get_or words k 0 < limit)
    → v < limit → (k : ℕ) → k < i + 1 → get_or (set words i v) k 0 < limit
words-fit words i v limit within before fits =
    below_more _ _ (λ k less.
    let other : k ≢ i = omega arith in rw (get_or-set_other words i k v 0 other) (before k less))
    (rw (get_or-set_same words i v 0 within) fits)

-- one more line of a slice
pub entries-more : (c : Config) (own : Lines) (n : ℕ) (entries : List DirEntry) (block : Block)
    → AreInitialEntries c own n entries
    → IsInitialBlock c own (record { 0 = n }) block →
    AreInitialEntries c own (n + 1) (entries ++ unowned_entry block ∷ [])
entries-more c own n entries block before next = record {
  count_is =
      let longer = length_push entries (unowned_entry block) in let n_is = before.count_is in
      omega (arith, longer, n_is);
  each = λ local within. elim (cases_lt local n) [
    | inl less ↦
        let found = before.each local less in
        let inside : local < length entries = let n_is = before.count_is in omega (arith, n_is, less) in
        (found.0, found.1, get_or_append_left entries (unowned_entry block ∷ []) no_entry local inside ∙ found.2)
    | inr last ↦
        let same : local ≡ n = omega arith in
        (block, rw same next, get_or_push entries (unowned_entry block) no_entry local (before.count_is ∙ sym same))
  ];
}

-- one more core
pub caches-more : (c : Config) (bound : Bound) (slice n : ℕ) (caches : List CoreCacheView) →
    AreNewCaches c bound slice n caches
    → AreNewCaches c bound slice (n + 1) (caches ++ new_cache c bound slice n ∷ [])
caches-more c bound slice n caches before = record {
  count_is = let longer = length_push caches (new_cache c bound slice n) in let n_is = before.count_is in
      omega (arith, longer, n_is);
  each = λ core within. elim (cases_lt core n) [
    | inl less ↦
        let inside : core < length caches = let n_is = before.count_is in omega (arith, n_is, less) in
        get_or_append_left caches (new_cache c bound slice n ∷ []) no_cache core inside ∙ before.each core less
    | inr last ↦
        let same : core ≡ n = omega arith in
        rw same (get_or_push caches (new_cache c bound slice n) no_cache n before.count_is)
  ];
}

-- one more core's cache is copied
pub copied-more : (caches copies more : List CoreCacheView) (i : ℕ) (cache copy : CoreCacheView) → i < length caches →
    copies ≡ take i caches → cache ≡ get_or caches i cache → copy ≡ cache → more ≡ copies ++ copy ∷ [] →
    more ≡ take (i + 1) caches
copied-more caches copies more i cache copy within before read same pushed =
    pushed
    ∙ ap (λ (all : List CoreCacheView). all ++ copy ∷ []) before
    ∙ ap (λ (last : CoreCacheView). take i caches ++ last ∷ []) (same ∙ read)
    ∙ sym (take_more caches i cache within)
