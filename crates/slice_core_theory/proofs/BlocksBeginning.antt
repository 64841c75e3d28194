-- The lines of a new slice are the machine's first, and their home copies have the initial values.
use Rattle.std.proofs.Common.{◌≡◌, ℕ, ◌+◌, ◌*◌, ◌/◌, ◌%◌, ◌^◌, ◌<◌, ◌⊎◌, ◌==◌, Bool, true, false, cond, List, [], ◌∷◌}
use Rattle.std.proofs.Common.{length, get_or, filter, find, Some, inl, inr, arith, refl, sym, ap, ◌∙◌, subst}
use Rattle.std.proofs.Common.{true≢false}
use Rattle.std.specs.Option.{option_map_or}
use Rattle.std.proofs.lemmas.Bool.{eq-eqb, eqb-true}
use Rattle.std.proofs.lemmas.List.{get_or-replicate}
use Rattle.address_map.specs.Config.{slice_lines}
use Rattle.address_map.specs.Locator.{IsOfMachine, Lines, line_at, lines_of}
use Rattle.address_map.specs.declared.address.Local.{Local}
use Rattle.address_map.specs.declared.address.SliceId.{SliceId}
use Rattle.address_map.specs.declared.address.WordAddr.{WordAddr}
use Rattle.address_map.specs.declared.block.Block.{Block}
use Rattle.address_map.specs.declared.config.Config.{Config}
use Rattle.mshr_file.specs.Miss.{Bound}
use Rattle.slice_core_theory.proofs.Beginning.{core_at-empty, first_line_stands}
use Rattle.slice_core_theory.specs.Blocks.{AreReachedWith, CoreBlocksStand, HasValues, LineReachedWith}
use Rattle.slice_core_theory.specs.Stands.{copies_at}
use Rattle.slice_log.proofs.Pushes.{IsLegal-nil}
use Rattle.slice_log.proofs.Values.{value-nil}
use Rattle.slice_log.specs.Log.{IsLegal, initially}
use Rattle.address_map.specs.Place.{is_of_slice}
use Rattle.slice_core_spec.specs.Initial.{IsInitialBlock, unowned_entry}
use Rattle.slice_core_spec.specs.Calls.{IsNew, PartsView}
use Rattle.slice_core_spec.specs.View.{channels_at}
use Rattle.protocol_coherence.specs.LineSteps.{first}
use Rattle.protocol_coherence.specs.Values.{Blocks, beginning_with}
use Rattle.slice_core_cache.proofs.Found.{copy_of-new}
use Rattle.slice_core_cache.specs.Copy.{no_copy}
use Rattle.slice_core_cache.specs.CoreCache.{CoreCacheView, copy_of}
use Rattle.slice_core_cache.specs.declared.copy.CacheCopy.{CacheCopy}
use Rattle.slice_queues.specs.Line.{empty_line, no_messages}

-- ---- initial values

-- What a test finds is found as well among those that pass another test, if what it finds passes.
find_in_filter : {X : Type 0} (p q : X → Bool) (xs : List X) → ((x : X) → p x ≡ true → q x ≡ true)
    → find p (filter q xs) ≡ find p xs
find_in_filter p q [] passes = refl
find_in_filter p q (x ∷ xs) passes = by (find_in_filter p q xs passes) (q x) refl
  where
    by : find p (filter q xs) ≡ find p xs → (b : Bool) → q x ≡ b → find p (filter q (x ∷ xs)) ≡ find p (x ∷ xs)
    by rest true kept = rw kept (ap (cond (p x) (Some x)) rest)
    by rest false lost = rw lost (rest ∙ sym (missed (p x) refl))
      where
        missed : (b : Bool) → p x ≡ b → cond b (Some x) (find p xs) ≡ find p xs
        missed true found = absurd (true≢false (sym (passes x found) ∙ lost))
        missed false found = refl

-- A word of a line leads back to the line's slice.
own_slice : (slices slice local i : ℕ) → (slices ≡ 1) ⊎ (slices ≡ 2) ⊎ (slices ≡ 4) → slice < slices → i < 8
    → (8 * (local * slices + slice) + 0 + i) / 8 % slices ≡ slice
own_slice slices slice local i few less below = elim few [
  | inl one ↦ back 1 one (λ l. omega (arith, l, below))
  | inr more ↦ elim more [
    | inl two ↦ back 2 two (λ l. omega (arith, l, below))
    | inr four ↦ back 4 four (λ l. omega (arith, l, below))
  ]
]
  where
    back : (n : ℕ) → slices ≡ n → (slice < n → (8 * (local * n + slice) + 0 + i) / 8 % n ≡ slice)
        → (8 * (local * slices + slice) + 0 + i) / 8 % slices ≡ slice
    back n is at = subst (λ s. slice < s → (8 * (local * s + slice) + 0 + i) / 8 % s ≡ slice) (sym is) at less

module _ (c : Config) (slice : SliceId) (machine : IsOfMachine (lines_of c slice)) where
  abbrev of_slice : WordAddr × ℕ → Bool
  of_slice pair = is_of_slice c slice.0 pair.0

  -- Of a word of the slice, its own initial values say what the configuration's do.
  initial_same : (local : Local) (i : ℕ) → i < 8
      → initially (filter of_slice c.init) (8 * (line_at (lines_of c slice) local).0 + 0 + i)
      ≡ initially c.init (8 * (line_at (lines_of c slice) local).0 + 0 + i)
  initial_same local i below =
      let word = 8 * (line_at (lines_of c slice) local).0 + 0 + i in
      ap (λ found. option_map_or (λ (pair : WordAddr × ℕ). pair.1) found 0)
      (find_in_filter (λ (pair : WordAddr × ℕ). pair.0.0 == word) of_slice c.init
      (λ pair found. eq-eqb _ _ (ap (λ w. w / 8 % c.slices) (eqb-true pair.0.0 word found)
      ∙ own_slice c.slices slice.0 local.0 i machine.few_slices machine.slice below)))

  -- The home copy of a new line has what an empty log gives.
  initial_values : (local : Local) (block : Block) → IsInitialBlock c (lines_of c slice) local block
      → HasValues (initially (filter of_slice c.init)) [] (8 * (line_at (lines_of c slice) local).0 + 0) block
  initial_values local block initial = record {
    size = initial.size;
    words = λ i below.
        let line = (line_at (lines_of c slice) local).0 in
        let word = 8 * line + 0 + i in
        let place : 8 * line + i ≡ word = omega arith in
        let same = initial_same local i below in
        let began = initial.words i below ∙ ap (initially c.init) place ∙ sym same in
        let few : initially (filter of_slice c.init) word < 2 ^ 64 =
        subst (λ n. n < 2 ^ 64) began (initial.fits i below) in
        began ∙ sym (value-nil (initially (filter of_slice c.init) word) word few);
  }

-- ---- the line

-- the blocks of a new line: all that is known is the home copy
abbrev pub first_blocks : Block → Blocks
first_blocks home = record {
  copy = λ core. home;
  arriving = λ core. home;
  put = λ core. home;
  home = home;
  mail = home;
}

first_core_blocks : (home : Block) → CoreBlocksStand no_copy no_messages home home home
first_core_blocks home = record { in_copy = λ has. absurd (true≢false (sym has)); in_data = refl; in_put = refl }

first_reached : (exclusive : Bool) (cores : ℕ) (init : ℕ → ℕ) (first_at : ℕ) (home : Block) (copy : ℕ → CacheCopy)
    → ((core : ℕ) → core < cores → copy core ≡ no_copy) → HasValues init [] first_at home
    → LineReachedWith exclusive cores init [] first_at (unowned_entry home) (empty_line cores) copy
first_reached exclusive cores init first_at home copy none values = record {
  line = first;
  blocks = first_blocks home;
  newest = home;
  reached = beginning_with (first_blocks home);
  has_values = values;
  stands = first_line_stands cores home copy none;
  blocks_stand = record {
    core = λ core below. rw (none core below, core_at-empty cores core) (first_core_blocks home);
    home = refl;
    mail = refl;
  };
}

-- ---- the slice

module _ (c : Config) (bound : Bound) (slice : SliceId) (p : PartsView) (new : IsNew c bound slice p) where
  empty_channels : (local : Local) → local.0 < p.view.lines.lines
      → channels_at p.view local ≡ empty_line (length p.view.caches)
  empty_channels local inside =
      ap (λ lines. get_or lines local.0 (empty_line 0)) new.channels_are
      ∙ get_or-replicate (slice_lines c) local.0 (empty_line c.cores) (empty_line 0)
      (subst (λ (l : Lines). local.0 < l.lines) new.lines inside)
      ∙ ap empty_line (sym new.caches.count_is)

  no_copies : (local : Local) (core : ℕ) → core < length p.view.caches → copies_at p.view local core ≡ no_copy
  no_copies local core below =
      ap (λ (s : CoreCacheView). copy_of s local)
      (new.caches.each core (subst (λ n. core < n) new.caches.count_is below))
      ∙ copy_of-new c bound slice.0 core local

  -- The lines of a new slice are reached, blocks and all.
  pub reached_with_initial : IsOfMachine p.view.lines → AreReachedWith p.view
  reached_with_initial machine local inside =
      let initial = new.entries.each local.0 (subst (λ (l : Lines). local.0 < l.lines) new.lines inside) in
      let v = p.view in
      let values = initial_values c slice (subst IsOfMachine new.lines machine) local initial.0 initial.1 in
      let line = first_reached v.exclusive (length v.caches) (initially (filter (λ pair. is_of_slice c slice.0 pair.0)
      c.init))
      (8 * (line_at (lines_of c slice) local).0 + 0) initial.0 (copies_at v local) (no_copies local) values in
      rw (initial.2, empty_channels local inside, new.init, new.log, new.lines) line

  -- And its log, which is empty, is legal.
  pub legal_initial : IsLegal (initially p.view.init) p.view.log
  legal_initial = subst (IsLegal (initially p.view.init)) (sym new.log) (IsLegal-nil (initially p.view.init))
