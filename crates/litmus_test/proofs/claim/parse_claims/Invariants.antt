use Rattle.std.proofs.Common.{◌≡◌, length, map, drop}
use Rattle.litmus_test.specs.Claim.{claims_of}
use Rattle.litmus_test.proofs.ClaimLemmas.{LeaveClaims}
use Rattle.litmus_test.proofs.claim.parse_claims.Given as goal

abbrev pub invariant-loop-word : goal.invariant-loop-word
invariant-loop-word l = record {
  left : LeaveClaims (map (λ w. w.now) l.words) (drop l.word-index (map (λ w. w.now) l.words))
      (claims_of l.claims.items);
  count : length l.claims.items ≡ l.word-index;
}
