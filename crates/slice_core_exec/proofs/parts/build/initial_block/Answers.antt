use Rattle.std.proofs.Common.{◌^◌, arith, ap, ◌∙◌}
use Rattle.std.proofs.lemmas.List.{length-set}
use Rattle.address_map.specs.Locator.{word_at}
use Rattle.address_map.specs.Words.{initial_value}
use Rattle.slice_core_exec.proofs.Begins.{words-fit, words-more}
use Rattle.slice_core_exec.proofs.parts.build.initial_block.Goals as goal

pub loop-offset-preserved : goal.loop-offset-preserved
loop-offset-preserved c = record {
  size = length-set c.loop-offset.words c.loop-offset.offset c.initial_word.result ∙ c.loop-offset.invariant.size;
  so_far = words-more c.loop-offset.words c.loop-offset.offset c.initial_word.result
      (λ k. initial_value c.args.config.now.init (word_at c.args.lines c.args.local (record { 0 = k })))
      (omega arith) c.loop-offset.invariant.so_far
      (c.initial_word.ensures ∙ ap (initial_value c.args.config.now.init) c.word_at.ensures.word);
  fits = words-fit c.loop-offset.words c.loop-offset.offset c.initial_word.result (2 ^ 64) (omega arith)
      c.loop-offset.invariant.fits (omega arith);
}

pub returns : goal.returns
returns c = record {
  size = c.loop-offset.invariant.size;
  words = λ i small. c.loop-offset.invariant.so_far i (omega arith);
  fits = λ i small. c.loop-offset.invariant.fits i (omega arith);
}
