-- Sums are what they are at each of the eight places, so they add up as numbers do.
use Rattle.std.proofs.Common.{◌≡◌, ℕ, ◌+◌, ◌<◌, ◌≤◌, ◌==◌, suc, zero, List, [], ◌++◌, ⊎_elim, Option, Some, None, refl}
use Rattle.std.proofs.Common.{sym, ap, ◌∙◌, arith, lit<, eq-eqb, le_refl}
use Rattle.std.specs.Prelude.{if◌then◌else◌, slice_get}
use Rattle.std.specs.Option.{option_map_or}
use Rattle.std.proofs.lemmas.Bool.{cases_lt}
use Rattle.std.proofs.lemmas.List.Sums.{sum_by-append}
use Rattle.address_map.specs.declared.address.WordAddr.{WordAddr}
use Rattle.slice_log.specs.declared.entry.Entry.{Entry}
use Rattle.slice_log.specs.Log.{named, added_to}
use Rattle.receipt_ledger.specs.Sums.{Sums, at, table, zeros, plus, only, sum_at, sums}

-- ---- the eight places

pub table_same : (f g : ℕ → ℕ) → ((place : ℕ) → place < 8 → f place ≡ g place) → table f ≡ table g
unfolding table
table_same f g h =
    rw (
      h 0 (lit< tt),
      h 1 (lit< tt),
      h 2 (lit< tt),
      h 3 (lit< tt),
      h 4 (lit< tt),
      h 5 (lit< tt),
      h 6 (lit< tt),
      h 7 (lit< tt),
    ) refl

pub table_at : (s : Sums) → table (at s) ≡ s
unfolding table at
table_at s = refl

pub at_table : (f : ℕ → ℕ) (place : ℕ) → place < 8 → at (table f) place ≡ f place
unfolding table at
at_table f zero within = refl
at_table f (suc zero) within = refl
at_table f (suc (suc zero)) within = refl
at_table f (suc (suc (suc zero))) within = refl
at_table f (suc (suc (suc (suc zero)))) within = refl
at_table f (suc (suc (suc (suc (suc zero))))) within = refl
at_table f (suc (suc (suc (suc (suc (suc zero)))))) within = refl
at_table f (suc (suc (suc (suc (suc (suc (suc zero))))))) within = refl
at_table f (suc (suc (suc (suc (suc (suc (suc (suc place)))))))) within = absurd (omega arith)

-- past the last place
pub at_past : (s : Sums) (place : ℕ) → 8 ≤ place → at s place ≡ 0
unfolding at
at_past s (suc (suc (suc (suc (suc (suc (suc (suc place)))))))) past = refl
at_past s zero past = absurd (omega arith)
at_past s (suc zero) past = absurd (omega arith)
at_past s (suc (suc zero)) past = absurd (omega arith)
at_past s (suc (suc (suc zero))) past = absurd (omega arith)
at_past s (suc (suc (suc (suc zero)))) past = absurd (omega arith)
at_past s (suc (suc (suc (suc (suc zero))))) past = absurd (omega arith)
at_past s (suc (suc (suc (suc (suc (suc zero)))))) past = absurd (omega arith)
at_past s (suc (suc (suc (suc (suc (suc (suc zero))))))) past = absurd (omega arith)

-- sums that agree at each place are the same
pub sums_same : (s t : Sums) → ((place : ℕ) → place < 8 → at s place ≡ at t place) → s ≡ t
sums_same s t h = sym (table_at s) ∙ table_same (at s) (at t) h ∙ table_at t

-- ---- each word at a place

pub at_plus : (s t : Sums) (place : ℕ) → place < 8 → at (plus s t) place ≡ at s place + at t place
unfolding plus
at_plus s t place within = at_table (λ k. at s k + at t k) place within

pub at_zeros : (place : ℕ) → place < 8 → at zeros place ≡ 0
unfolding zeros
at_zeros place within = at_table (λ k. 0) place within

pub at_only : (here amount place : ℕ) → place < 8 → at (only here amount) place ≡ (if place == here then amount else 0)
unfolding only
at_only here amount place within = at_table (λ k. if k == here then amount else 0) place within

pub at_sums : (words : List WordAddr) (entries : List Entry) (place : ℕ) → place < 8
    → at (sums words entries) place ≡ sum_at words entries place
unfolding sums
at_sums words entries place within = at_table (sum_at words entries) place within

-- ---- addition

pub plus_comm : (s t : Sums) → plus s t ≡ plus t s
plus_comm s t = sums_same (plus s t) (plus t s) (λ k within. omega (arith, at_plus s t k within, at_plus t s k within))

pub plus_assoc : (s t u : Sums) → plus (plus s t) u ≡ plus s (plus t u)
plus_assoc s t u = sums_same (plus (plus s t) u) (plus s (plus t u))
    (λ k within. omega (
      arith,
      at_plus (plus s t) u k within,
      at_plus s t k within,
      at_plus s (plus t u) k within,
      at_plus t u k within,
    ))

pub plus_zeros : (s : Sums) → plus s zeros ≡ s
plus_zeros s = sums_same (plus s zeros) s (λ k within. omega (arith, at_plus s zeros k within, at_zeros k within))

pub plus_cancel : (s t u : Sums) → plus s u ≡ plus t u → s ≡ t
plus_cancel s t u h = sums_same s t
    (λ k within. omega (arith, at_plus s u k within, at_plus t u k within, ap (λ (v : Sums). at v k) h))

-- what is added is no more than the whole
pub at_within : (s t : Sums) (place : ℕ) → at s place ≤ at (plus t s) place
at_within s t k = ⊎_elim
    (λ within. omega (arith, at_plus t s k within))
    (λ past. omega (arith, at_past s k past)) (cases_lt k 8)

-- sums that are no more in any of the eight are no more at any place
pub at_most : (s t : Sums) → s.c0 ≤ t.c0 → s.c1 ≤ t.c1 → s.c2 ≤ t.c2 → s.c3 ≤ t.c3
    → s.c4 ≤ t.c4 → s.c5 ≤ t.c5 → s.c6 ≤ t.c6 → s.c7 ≤ t.c7
    → (place : ℕ) → at s place ≤ at t place
unfolding at
at_most s t h0 h1 h2 h3 h4 h5 h6 h7 zero = h0
at_most s t h0 h1 h2 h3 h4 h5 h6 h7 (suc zero) = h1
at_most s t h0 h1 h2 h3 h4 h5 h6 h7 (suc (suc zero)) = h2
at_most s t h0 h1 h2 h3 h4 h5 h6 h7 (suc (suc (suc zero))) = h3
at_most s t h0 h1 h2 h3 h4 h5 h6 h7 (suc (suc (suc (suc zero)))) = h4
at_most s t h0 h1 h2 h3 h4 h5 h6 h7 (suc (suc (suc (suc (suc zero))))) = h5
at_most s t h0 h1 h2 h3 h4 h5 h6 h7 (suc (suc (suc (suc (suc (suc zero)))))) = h6
at_most s t h0 h1 h2 h3 h4 h5 h6 h7 (suc (suc (suc (suc (suc (suc (suc zero))))))) = h7
at_most s t h0 h1 h2 h3 h4 h5 h6 h7 (suc (suc (suc (suc (suc (suc (suc (suc place)))))))) = le_refl 0

-- where one place alone has an amount, and it is within other sums, these have as much there
pub only_within : (s t : Sums) (place amount : ℕ) → place < 8 → t ≡ only place amount
    → at t place ≤ at s place → amount ≤ at s place
only_within s t place amount within is below =
    let here : (if place == place then amount else 0) ≡ amount = rw (eq-eqb place place refl) refl in
    omega (arith, below, ap (λ (u : Sums). at u place) is, at_only place amount place within, here)

-- ---- what entries add

sum_at_append : (words : List WordAddr) (es fs : List Entry) (place : ℕ)
    → sum_at words (es ++ fs) place ≡ sum_at words es place + sum_at words fs place
sum_at_append words es fs place = by_word (slice_get words place)
  where
    by_word : (word : Option WordAddr)
        → option_map_or (λ w. named (es ++ fs) w.0) word 0
        ≡ option_map_or (λ w. named es w.0) word 0 + option_map_or (λ w. named fs w.0) word 0
    by_word None = refl
    by_word (Some w) = sum_by-append (added_to w.0) es fs

pub sums_append : (words : List WordAddr) (es fs : List Entry)
    → sums words (es ++ fs) ≡ plus (sums words es) (sums words fs)
sums_append words es fs = sums_same (sums words (es ++ fs)) (plus (sums words es) (sums words fs))
    (λ k within. omega (
      arith,
      at_sums words (es ++ fs) k within,
      sum_at_append words es fs k,
      at_plus (sums words es) (sums words fs) k within,
      at_sums words es k within,
      at_sums words fs k within,
    ))

sum_at_nil : (words : List WordAddr) (place : ℕ) → sum_at words [] place ≡ 0
sum_at_nil words place = by_word (slice_get words place)
  where
    by_word : (word : Option WordAddr) → option_map_or (λ w. named [] w.0) word 0 ≡ 0
    by_word None = refl
    by_word (Some w) = refl

pub sums_nil : (words : List WordAddr) → sums words [] ≡ zeros
sums_nil words = sums_same (sums words []) zeros
    (λ k within. at_sums words [] k within ∙ sum_at_nil words k ∙ sym (at_zeros k within))
