use Rattle.std.proofs.Common.{◌≡◌, ◌+◌, ◌++◌, ◌∷◌, [], length, ap, sym, ◌∙◌, arith, length-append}
use Rattle.std.proofs.lemmas.List.{length_push}
use Rattle.std.specs.Cmp.Lexicographic.{bytes_decides}
use Rattle.litmus_text.specs.Text.{words_of_line}
use Rattle.script_test.proofs.WordLemmas.{few_words, one_more, other_word, word_less, word_more}
use Rattle.script_test.proofs.judge.unlike_word.Goals as goal

pub overflow_add-number : goal.overflow_add-number
overflow_add-number c =
    let few = few_words c.args.wanted.now in
    let parts : length (words_of_line c.args.wanted.now)
    ≡ length c.loop-word.invariant.front + length c.loop-word.word-iterator =
    ap length c.loop-word.invariant.wanted ∙ length-append _ _ in
    let number = c.loop-word.invariant.number in
    omega arith

pub loop-word-preserved : goal.loop-word-preserved
loop-word-preserved c =
    let front = c.loop-word.invariant.front in
    let word = c.in-Some.word.now in
    let same : c.in-Some-next.other.now ≡ word = (bytes_decides _ _).0 (sym c.eq.ensures ∙ c.if-eq.true) in
    let longer = length_push front word in
    let number = c.loop-word.invariant.number in
    record {
      front = front ++ word ∷ [];
      wanted = one_more _ front _ _ word c.loop-word.invariant.wanted c.in-Some.ensures.steps;
      got = one_more _ front _ _ word c.loop-word.invariant.got
          (c.in-Some-next.ensures.steps ∙ ap (λ w. w ∷ c.next-in-loop-word.new.self) same);
      number = omega arith;
    }

pub returns-in_default : goal.returns-in_default
returns-in_default c =
    let read = c.loop-word.invariant in
    other_word c.args.wanted.now c.args.got.now read.front _ _ _ read.wanted read.got read.number _ _ _ _
    c.in-Some.ensures.steps c.in-Some-next.ensures.steps (sym c.eq.ensures ∙ c.if-eq.false)

pub returns-in_default-2 : goal.returns-in_default-2
returns-in_default-2 c =
    let read = c.loop-word.invariant in
    let none = rw c.in_default.is at c.next-in-loop-word.ensures.steps in
    word_more c.args.wanted.now c.args.got.now read.front _ _ _ read.wanted read.got read.number _ _
    c.in-Some.ensures.steps none.0

pub returns : goal.returns
returns c =
    let read = c.loop-word.invariant in
    word_less c.args.wanted.now c.args.got.now read.front _ _ _ read.wanted read.got read.number _ _
    c.in-None.ensures.steps.0 c.in_ok-next.ensures.steps
