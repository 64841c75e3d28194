-- How many cores pass a test, when the test changes at one core or no core passes it.
use Rattle.std.proofs.Common.{◌≡◌, ℕ, zero, suc, ◌+◌, ◌<◌, ◌≤◌, ◌==◌, Bool, true, false, refl, ap, arith, if◌then◌else◌}
use Rattle.std.proofs.Common.{sym}
use Rattle.std.proofs.lemmas.Bool.{eqb-false, eqb-true}
use Rattle.protocol_coherence.specs.Coherent.{count_below}

-- The same tests pass the same number of cores.
pub count_below-same : (bound : ℕ) (p q : ℕ → Bool) → ((x : ℕ) → x < bound → p x ≡ q x)
    → count_below bound p ≡ count_below bound q
unfolding count_below
count_below-same zero p q same = refl
count_below-same (suc bound) p q same =
    let here = same bound (omega arith) in
    let rest = count_below-same bound p q (λ x below. same x (omega arith)) in
    rw (here, rest)

-- Where no core passes, none is counted.
pub count_below-none : (bound : ℕ) (p : ℕ → Bool) → ((x : ℕ) → x < bound → p x ≡ false) → count_below bound p ≡ 0
unfolding count_below
count_below-none zero p none = refl
count_below-none (suc bound) p none =
    let here = none bound (omega arith) in
    let rest = count_below-none bound p (λ x below. none x (omega arith)) in
    rw (here, rest)

one_or_none : (b : Bool) (n : ℕ) → (if b then 1 else 0) + n ≡ 0 → b ≡ false
one_or_none true n e = absurd (omega arith)
one_or_none false n e = refl

-- Where none is counted, no core passes.
pub count_below-zero : (bound : ℕ) (p : ℕ → Bool) → count_below bound p ≡ 0 → (x : ℕ) → x < bound → p x ≡ false
unfolding count_below
count_below-zero zero p none x below = absurd (omega arith)
count_below-zero (suc bound) p none x below = go (λ less. count_below-zero bound p (omega arith) x less)
    (x == bound) refl
  where
    go : (x < bound → p x ≡ false) → (b : Bool) → (x == bound) ≡ b → p x ≡ false
    go rest true e = rw (eqb-true x bound e) (one_or_none (p bound) (count_below bound p) none)
    go rest false e = let other = eqb-false x bound e in rest (omega arith)

-- One who passed and passes no more is one less.
pub count_below-less : (bound : ℕ) (p q : ℕ → Bool) (c : ℕ) → c < bound → p c ≡ true → q c ≡ false
    → ((x : ℕ) → x < bound → (x ≡ c → ⊥) → p x ≡ q x) → count_below bound p ≡ count_below bound q + 1
unfolding count_below
count_below-less zero p q c below was is same = absurd (omega arith)
count_below-less (suc bound) p q c below was is same =
    go (λ less. count_below-less bound p q c less was is (λ x within other. same x (omega arith) other))
    (c == bound) refl
  where
    go : (c < bound → count_below bound p ≡ count_below bound q + 1) → (b : Bool) → (c == bound) ≡ b
        → (if p bound then 1 else 0) + count_below bound p ≡ (if q bound then 1 else 0) + count_below bound q + 1
    go rest true e =
        let at : c ≡ bound = eqb-true c bound e in
        let others = count_below-same bound p q (λ x less. same x (omega arith) (λ equal. omega arith)) in
        let was' : p bound ≡ true = rw at at was in
        let is' : q bound ≡ false = rw at at is in
        rw (was', is', others) (omega arith)
    go rest false e =
        let other : c ≡ bound → ⊥ = eqb-false c bound e in
        let here = same bound (omega arith) (λ equal. other (sym equal)) in
        let less = rest (omega (arith, other)) in
        rw (here, less) (omega arith)

-- Where no core from a bound on passes, those below it are all.
pub count_below-wider : (n m : ℕ) (p : ℕ → Bool) → n ≤ m → ((x : ℕ) → n ≤ x → x < m → p x ≡ false)
    → count_below m p ≡ count_below n p
unfolding count_below
count_below-wider n zero p less none = rw (n_zero n less)
  where
    n_zero : (n : ℕ) → n ≤ 0 → n ≡ 0
    n_zero n less = omega arith
count_below-wider n (suc m) p less none = go (λ below. count_below-wider n m p below
    (λ x from to. none x from (omega arith))) (suc m == n) refl
  where
    go : (n ≤ m → count_below m p ≡ count_below n p) → (b : Bool) → (suc m == n) ≡ b
        → (if p m then 1 else 0) + count_below m p ≡ count_below n p
    go rest true e = ap (λ k. count_below k p) (eqb-true (suc m) n e)
    go rest false e =
        let other = eqb-false (suc m) n e in
        let here = none m (omega (arith, other)) (omega arith) in
        let below = rest (omega (arith, other)) in
        rw here (omega arith)

-- Where one passes, one at least is counted.
pub count_below-some : (bound : ℕ) (p : ℕ → Bool) (c : ℕ) → c < bound → p c ≡ true → 1 ≤ count_below bound p
unfolding count_below
count_below-some zero p c below is = absurd (omega arith)
count_below-some (suc bound) p c below is = go (λ less. count_below-some bound p c less is) (c == bound) refl
  where
    go : (c < bound → 1 ≤ count_below bound p) → (b : Bool) → (c == bound) ≡ b
        → 1 ≤ (if p bound then 1 else 0) + count_below bound p
    go rest true e =
        let here : p bound ≡ true = rw (eqb-true c bound e) at is in
        rw here (omega arith)
    go rest false e =
        let other = eqb-false c bound e in
        let less = rest (omega (arith, other)) in
        omega arith
