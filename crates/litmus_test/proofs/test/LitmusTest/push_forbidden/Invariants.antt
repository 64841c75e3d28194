use Rattle.std.proofs.Common.{◌≡◌, ◌<◌, map, take, vec_len}
use Rattle.std.specs.Prelude.{All}
use Rattle.litmus_test.specs.declared.test.Pair.{Pair}
use Rattle.litmus_test.proofs.BodyLemmas.{pair_in}
use Rattle.litmus_test.proofs.test.LitmusTest.push_forbidden.Given as goal

abbrev pub invariant-loop-claim : goal.invariant-loop-claim
invariant-loop-claim l = record {
  pairs : l.pairs.items ≡ map (pair_in l.self.names.items) (take l.claim-index l.claims);
  within : All (λ (pair : Pair). pair.name < vec_len l.self.names) l.pairs.items;
}
