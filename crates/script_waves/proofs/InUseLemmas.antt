-- What is counted and written for each core.
use Rattle.std.proofs.Common.{◌≡◌, ◌∙◌, ℕ, ◌+◌, ◌<◌, ◌≤◌, List, [], ◌∷◌, ◌++◌, Option, get_or, drop, length, refl, sym, subst, ap, arith}
use Rattle.std.proofs.KnownBytes.{Appends-nil, Appends-trans}
use Rattle.std.proofs.lemmas.List.{at_drop_all, at_drop_more, length-map}
use Rattle.std.proofs.lemmas.List.FromFn.{length-range_with_len, get_or-range_with_len}
use Rattle.std.specs.Io.KnownBytes.{Appends}
use Rattle.std.specs.List.{flat_map, range_with_len}
use Rattle.address_map.specs.declared.address.CoreId.{CoreId}
use Rattle.script_waves.specs.declared.in_use.InUse.{InUse}
use Rattle.slice_core_spec.specs.View.{View, cache_at}
use Rattle.slice_core_exec.specs.CoreLines.{lines_of_core}
use Rattle.slice_core_exec.specs.declared.core_lines.CoreLines.TheVariants as core_lines

module _ {Y : Type 0} (all : List ℕ → Y) (n i : ℕ) where
  -- the numbers that are left begin with the next
  pub numbers_more : i < n → all (drop i (range_with_len 0 n)) ≡ all (i ∷ drop (i + 1) (range_with_len 0 n))
  numbers_more below =
      let long = length-range_with_len 0 n in
      let at = get_or-range_with_len 0 n i 0 below in
      let here : get_or (range_with_len 0 n) i 0 ≡ i = omega (arith, at) in
      at_drop_more all (range_with_len 0 n) i 0 (omega (arith, long, below))
      ∙ ap (λ k. all (k ∷ drop (i + 1) (range_with_len 0 n))) here

  -- .. up to the last
  pub numbers_end : n ≤ i → all (drop i (range_with_len 0 n)) ≡ all []
  numbers_end end =
      let long = length-range_with_len 0 n in
      at_drop_all all (range_with_len 0 n) i (omega (arith, long, end))

-- the text for the next number, and then those for the numbers after it
pub number_written : (text : ℕ → List ℕ) (n i : ℕ) (a b c : Option (List ℕ)) → i < n → Appends a b (text i)
    → Appends b c (flat_map text (drop (i + 1) (range_with_len 0 n)))
    → Appends a c (flat_map text (drop i (range_with_len 0 n)))
number_written text n i a b c below one more =
    subst (Appends a c) (sym (numbers_more (λ (xs : List ℕ). flat_map text xs) n i below))
    (Appends-trans a b c (text i) _ one more)

-- after the last number there is none
pub no_number_written : (text : ℕ → List ℕ) (n i : ℕ) (a : Option (List ℕ)) → n ≤ i
    → Appends a a (flat_map text (drop i (range_with_len 0 n)))
no_number_written text n i a end =
    subst (Appends a a) (sym (numbers_end (λ (xs : List ℕ). flat_map text xs) n i end)) (Appends-nil a)

-- each miss register is for a line, and so is each entry of the write-back buffer
pub count_waiting : (v : View) (core : CoreId)
    → length (lines_of_core v core core_lines.Waiting) ≡ length (cache_at v core).misses
count_waiting v core = length-map _ _ ∙ length-map _ _

pub count_leaving : (v : View) (core : CoreId)
    → length (lines_of_core v core core_lines.Leaving) ≡ length (cache_at v core).buffer.write_backs
count_leaving v core = length-map _ _ ∙ length-map _ _

-- `registers`, `targets` and `leaving` are in use
abbrev used : ℕ → ℕ → ℕ → InUse
used registers targets leaving = record { registers = registers; targets = targets; write_backs = leaving }

pub same_use : (registers others targets others_2 leaving others_3 : ℕ) → registers ≡ others → targets ≡ others_2
    → leaving ≡ others_3 → used registers targets leaving ≡ used others others_2 others_3
same_use registers others targets others_2 leaving others_3 one two three = rw (one, two, three) refl
