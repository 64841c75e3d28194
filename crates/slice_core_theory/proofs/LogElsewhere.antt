-- What is performed on one line of a slice leaves the values of its other lines.
use Rattle.std.proofs.Common.{◌≡◌, ◌≢◌, ℕ, ◌+◌, ◌*◌, ◌<◌, ◌⊎◌, List, [], ◌∷◌, ◌++◌, append_assoc, append-nil, inl, inr}
use Rattle.std.proofs.Common.{refl, sym, ◌∙◌, subst, arith}
use Rattle.address_map.specs.Locator.{IsOfMachine}
use Rattle.address_map.specs.declared.address.CoreId.{CoreId}
use Rattle.address_map.specs.declared.address.Local.{Local}
use Rattle.address_map.specs.declared.block.Block.{Block}
use Rattle.slice_core_theory.proofs.BlocksPerforming.{AreAllowed}
use Rattle.slice_core_theory.proofs.Values.{values_elsewhere}
use Rattle.slice_core_theory.specs.Blocks.{HasValues}
use Rattle.slice_log.specs.Log.{initially}
use Rattle.slice_log.specs.declared.entry.Entry.{Entry}
use Rattle.slice_core_spec.specs.View.{View, first_word}
use Rattle.slice_core_cache.specs.Copy.{performed_on}
use Rattle.slice_core_cache.specs.Perform.{entries_of}
use Rattle.cache_table.specs.declared.state.CopyState.{CopyState}
use Rattle.target_list.specs.declared.target.Target.{Target}

-- Lines have no word in common.
words_apart : (slices slice local other i j : ℕ) → (slices ≡ 1) ⊎ (slices ≡ 2) ⊎ (slices ≡ 4) → other ≢ local → i < 8
    → j < 8 → 8 * (local * slices + slice) + 0 + i ≢ 8 * (other * slices + slice) + 0 + j
words_apart slices slice local other i j few apart below within same = elim few [
  | inl one ↦ let now = at_count 1 one in apart (omega (arith, now, below, within))
  | inr more ↦ elim more [
    | inl two ↦ let now = at_count 2 two in apart (omega (arith, now, below, within))
    | inr four ↦ let now = at_count 4 four in apart (omega (arith, now, below, within))
  ]
]
  where
    at_count : (n : ℕ) → slices ≡ n → 8 * (local * n + slice) + 0 + i ≡ 8 * (other * n + slice) + 0 + j
    at_count n is = subst (λ k. 8 * (local * k + slice) + 0 + i ≡ 8 * (other * k + slice) + 0 + j) is same

-- Each entry is of a word of the line with this first word.
abbrev pub AreOfLine : ℕ → List Entry → Type 0
AreOfLine first [] = Unit {0}
AreOfLine first (entry ∷ entries) = ((i : ℕ) × (i < 8) × (entry.word.0 ≡ first + i)) × AreOfLine first entries

module _ (v : View) (machine : IsOfMachine v.lines) (local other : Local) (apart : other.0 ≢ local.0) where
  -- So such entries leave the other line's values.
  pub log_keeps : (entries log : List Entry) → AreOfLine (first_word v local) entries → (block : Block)
      → HasValues (initially v.init) log (first_word v other) block
      → HasValues (initially v.init) (log ++ entries) (first_word v other) block
  log_keeps [] log of block values = subst (λ l. HasValues (initially v.init) l (first_word v other) block)
      (sym (append-nil log)) values
  log_keeps (entry ∷ entries) log of block values =
      let named = of.0 in
      subst (λ l. HasValues (initially v.init) l (first_word v other) block) (append_assoc log (entry ∷ []) entries)
      (log_keeps entries (log ++ entry ∷ []) of.1 block
      (values_elsewhere (initially v.init) log (first_word v other) block entry
      (λ j within same. words_apart v.lines.slices v.lines.slice local.0 other.0 named.0 j machine.few_slices apart
      named.1 within (sym named.2 ∙ same)) values))

-- The targets of a copy name words of its line.
pub targets_of_line : (core : CoreId) (first : ℕ) (block : Block) (state : CopyState) (targets : List Target)
    → AreAllowed state targets → AreOfLine first (entries_of core first block targets)
unfolding entries_of
targets_of_line core first block state [] allowed = tt
targets_of_line core first block state (target ∷ targets) allowed = (
  (target.offset.0, allowed.1, refl),
  targets_of_line core first (performed_on block target.offset.0 target.op) state targets allowed.2,
)
