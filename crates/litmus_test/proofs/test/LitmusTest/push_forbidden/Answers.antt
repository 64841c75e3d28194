use Rattle.std.proofs.Common.{◌<◌, arith, is_ok, vec_len}
use Rattle.std.proofs.lemmas.List.Elements.{All-push}
use Rattle.litmus_test.specs.declared.test.Pair.{Pair}
use Rattle.litmus_test.specs.Text.{said_by}
use Rattle.litmus_test.proofs.BodyLemmas.{forbids_names, forbidden_said, pairs_count, pairs_more, sound_forbidden}
use Rattle.litmus_test.proofs.BodyLemmas.{with_forbidden}
use Rattle.litmus_test.proofs.test.LitmusTest.push_forbidden.Goals as goal

pub pair_of-pair-requires : goal.pair_of-pair-requires
pair_of-pair-requires c =
    forbids_names c.args.self.now c.args.claims.now c.requires.may c.requires.some

pub loop-claim-preserved : goal.loop-claim-preserved
loop-claim-preserved c = record {
  pairs = pairs_more c.args.self.now.names.items c.args.claims.now c.loop-claim.claim-index _ c.loop-claim.pairs.items
      c.push.new.self.items c.pair_of-pair.result c.loop-claim-test.true c.loop-claim.invariant.pairs
      c.pair_of-pair.ensures.value c.in_ok-push.ensures.items;
  within = rw c.in_ok-push.ensures.items
      (All-push (λ (pair : Pair). pair.name < vec_len c.args.self.now.names) c.loop-claim.pairs.items
      c.pair_of-pair.result c.loop-claim.invariant.within c.pair_of-pair.ensures.within);
}

pub invariant_of-self : goal.invariant_of-self
invariant_of-self c =
    let count = pairs_count c.args.self.now.names.items c.args.claims.now c.loop-claim.claim-index
    c.loop-claim.pairs.items c.loop-claim-test.false c.loop-claim.invariant.pairs in
    record {
      sound = sound_forbidden c.args.self.now (record { pairs = c.loop-claim.pairs }) c.push-2.new.self.items
          (is_ok c.push-2.result) (omega (arith, count, c.loop-claim.pairs.ok.0, c.requires.some))
          (omega (arith, count, c.loop-claim.pairs.ok.0, c.requires.few)) c.loop-claim.invariant.within
          c.push-2.ensures.items;
    }

pub returns : goal.returns
unfolding said_by
returns c =
    with_forbidden (said_by c.args.self.now) _ _
    (forbidden_said c.args.self.now (record { pairs = c.loop-claim.pairs }) c.push-2.new.self.items c.args.claims.now
    c.loop-claim.claim-index c.loop-claim-test.false c.loop-claim.invariant.pairs c.in_ok-push-2.ensures.items)
