use Rattle.std.proofs.Common.{arith}
use Rattle.std.proofs.lemmas.Grind.{common_steps}
use Rattle.litmus_test.proofs.ClaimLemmas.{all_read, claim_count, claims_read, leave_only, no_claim, word_read}
use Rattle.litmus_test.proofs.claim.parse_claims.Goals as goal

pub returns-then-is_empty-clause-refused : goal.returns-then-is_empty-clause-refused
returns-then-is_empty-clause-refused c =
    λ other h. let count = claim_count c.args.words.now other h in grind (arith, common_steps)

pub returns-in_default-clause-refused : goal.returns-in_default-clause-refused
returns-in_default-clause-refused c = λ other h.
    no_claim c.args.words.now c.loop-word.word-index _ _ other c.loop-word-test.true c.in_default.ensures.none
    c.loop-word.invariant.left h.written

pub loop-word-preserved : goal.loop-word-preserved
loop-word-preserved c = record {
  left = rw c.push.ensures.items
      (word_read c.args.words.now c.loop-word.word-index _ c.loop-word.claims.items c.in-Some.claim
      c.loop-word-test.true c.in-Some.ensures.written c.in-Some.ensures.only c.loop-word.invariant.left);
  count = omega (arith, c.push.ensures.len, c.loop-word.invariant.count);
}

pub returns-clause-written : goal.returns-clause-written
returns-clause-written c =
    claims_read c.args.words.now c.loop-word.claims.items
    (all_read c.args.words.now c.loop-word.word-index _ (omega arith) c.loop-word.invariant.left) (omega arith)
    (grind (arith, common_steps)) (omega arith)

pub returns-clause-only : goal.returns-clause-only
returns-clause-only c = λ other h.
    leave_only _ _ other (all_read c.args.words.now c.loop-word.word-index _ (omega arith) c.loop-word.invariant.left)
    h.written
