use Rattle.std.proofs.Common.{◌≡◌, ◌∙◌, List, ap, arith, length, map, refl}
use Rattle.core_thread_system.specs.Core.{CoreView}
use Rattle.drain.specs.Valued.{with_slice}
use Rattle.drain.specs.declared.report.CounterValue.{CounterValue}
use Rattle.drain.proofs.SettledSlice.{all-set-in, home-is, home-isnt, next-few, next-is, next-within, other-left}
use Rattle.drain.proofs.SettledSlice.{own-set, words-kept}
use Rattle.drain.proofs.settled.settle_slice.Goals as goal
use Rattle.drain.proofs.settled.settle_slice.Goals.{then-is_of_slice, else-is_of_slice}

unset : CounterValue
unset = record { word = record { 0 = 0 }; value = 0 }

pub loop-place-init : goal.loop-place-init
loop-place-init g c = record { counters = refl; place = refl }

pub offset_bounds-deref-next : goal.offset_bounds-deref-next
offset_bounds-deref-next g c =
    let few = next-few g.M.SystemNames.setup c.config.result.now c.settle.new.cores c.args.slice.0 c.args.counters.now
    c.loop-place.counters c.loop-place.next c.loop-place.place c.loop-place.invariant c.requires.words
    c.config.ensures.named c.config.ensures.allowed.few_counters c.loop-place-test.true in
    omega (arith, few)

pub overflow_add-next : goal.overflow_add-next
overflow_add-next g c =
    let few = next-few g.M.SystemNames.setup c.config.result.now c.settle.new.cores c.args.slice.0 c.args.counters.now
    c.loop-place.counters c.loop-place.next c.loop-place.place c.loop-place.invariant c.requires.words
    c.config.ensures.named c.config.ensures.allowed.few_counters c.loop-place-test.true in
    omega (arith, few)

pub bounds-deref-next : goal.bounds-deref-next
unfolding unset
bounds-deref-next g c =
    let setup = g.M.SystemNames.setup in
    let slice = c.args.slice.0 in
    let old = c.args.counters.now in
    let left = c.settle.new.cores in
    let now = c.loop-place.counters in
    let i = c.loop-place.place in
    next-within setup left slice old now c.deref.result.now c.loop-place.next i unset c.loop-place.invariant
    (next-is setup c.args.cores.now left slice old c.in_ok-values.values.items c.deref.result.now
    i c.settle.ensures.cores
    c.requires.words c.in_ok-values.ensures.settled c.deref.ensures.0 c.loop-place-test.true)
    (home-is setup _ _ slice c.is_of_slice.result c.config.ensures.named c.is_of_slice.ensures c.if-is_of_slice.true)

pub loop-place-preserved : goal.loop-place-preserved
unfolding unset
loop-place-preserved g c =
    let setup = g.M.SystemNames.setup in
    let slice = c.args.slice.0 in
    let old = c.args.counters.now in
    let left = c.settle.new.cores in
    let now = c.loop-place.counters in
    let i = c.loop-place.place in
    elim c.if-is_of_slice.branch [
      | then-is_of_slice w ↦
          let next = next-is setup c.args.cores.now left slice old c.in_ok-values.values.items w.deref.result.now i
          c.settle.ensures.cores c.requires.words c.in_ok-values.ensures.settled w.deref.ensures.0
          c.loop-place-test.true in
          let set = own-set setup left slice old now w.deref.result.now c.loop-place.next i unset
          c.loop-place.invariant next
          c.if-is_of_slice.counters
          (home-is setup _ _ slice c.is_of_slice.result c.config.ensures.named
          c.is_of_slice.ensures w.if-is_of_slice.true)
          w.counters-is in record {
            counters = set.counters;
            place = w.next-is ∙ set.place;
          }
      | else-is_of_slice w ↦
          let next = next-is setup c.args.cores.now left slice old c.in_ok-values.values.items
          c.in_ok-values.values.items i
          c.settle.ensures.cores c.requires.words c.in_ok-values.ensures.settled refl c.loop-place-test.true in
          let set = other-left setup left slice old now c.in_ok-values.values.items c.loop-place.next i unset
          c.loop-place.invariant next
          (home-isnt setup _ _ slice c.is_of_slice.result c.config.ensures.named c.is_of_slice.ensures
          w.if-is_of_slice.false) in record {
            counters = w.counters-is ∙ set.counters;
            place = w.next-is ∙ set.place;
          }
    ]

pub returns-clause-counters : goal.returns-clause-counters
returns-clause-counters g c =
    let setup = g.M.SystemNames.setup in
    let slice = c.args.slice.0 in
    let old = c.args.counters.now in
    let all : c.loop-place.place ≡ length old = omega (arith, c.loop-place-test.false, c.loop-place.auto.place-end) in
    all-set-in setup c.settle.new.cores slice old c.loop-place.counters c.loop-place.next c.loop-place.place
    c.loop-place.invariant all
    ∙ ap (λ (us : List CoreView). map (with_slice setup us slice) old) c.settle.ensures.cores

pub returns-clause-words : goal.returns-clause-words
returns-clause-words g c =
    let setup = g.M.SystemNames.setup in
    let slice = c.args.slice.0 in
    let old = c.args.counters.now in
    let all : c.loop-place.place ≡ length old = omega (arith, c.loop-place-test.false, c.loop-place.auto.place-end) in
    words-kept setup c.settle.new.cores slice old c.loop-place.counters
    (all-set-in setup c.settle.new.cores slice old c.loop-place.counters c.loop-place.next c.loop-place.place
    c.loop-place.invariant all)
    ∙ c.requires.words
