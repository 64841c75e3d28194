-- A text that is written piece by piece, one for each number from 0 on.
use Rattle.std.proofs.Common.{◌≡◌, ℕ, ◌+◌, ◌<◌, ◌≤◌, List, ◌++◌, get_or, drop, refl, ap, arith}
use Rattle.std.proofs.lemmas.List.FromFn.{length-range_with_len, get_or-range_with_len}
use Rattle.std.specs.Fmt.{WritesInCalls}
use Rattle.std.specs.List.{flat_map, range_with_len}
use Rattle.litmus_text.proofs.Pieces.{next_piece, last_piece}

module _ {W : Type 0} (took : W → List ℕ → W → Type 0) (f : ℕ → List ℕ) (n i : ℕ) where
  -- the piece of a number, and then those of the numbers after it
  pub next_number : i < n → (old mid new : W) → WritesInCalls took old (f i) mid
      → WritesInCalls took mid (flat_map f (drop (i + 1) (range_with_len 0 n))) new
      → WritesInCalls took old (flat_map f (drop i (range_with_len 0 n))) new
  next_number below old mid new one rest =
      let long = length-range_with_len 0 n in
      let at = get_or-range_with_len 0 n i 0 below in
      let here : get_or (range_with_len 0 n) i 0 ≡ i = omega (arith, at) in
      next_piece took (λ (xs : List ℕ). flat_map f xs) (range_with_len 0 n) i (f i) 0 (omega (arith, long, below))
      (ap (λ k. f k ++ flat_map f (drop (i + 1) (range_with_len 0 n))) here) old mid new one rest

  -- after the last number there is none
  pub last_number : n ≤ i → (now : W) → WritesInCalls took now (flat_map f (drop i (range_with_len 0 n))) now
  last_number end now =
      let long = length-range_with_len 0 n in
      last_piece took (λ (xs : List ℕ). flat_map f xs) (range_with_len 0 n) i (omega (arith, long, end)) refl now
