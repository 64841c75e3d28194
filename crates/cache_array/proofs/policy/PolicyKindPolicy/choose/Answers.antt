-- The choice is that of the policy, and the laws of a choice hold of it.
use Rattle.std.proofs.Common.{◌≡◌, ◌∙◌, sym}
use Rattle.cache_array.specs.Policy.{choice_of}
use Rattle.cache_array.proofs.Choices.{oldest_choice, choice_is_allowed, can_pick_each}
use Rattle.cache_array.proofs.Ages.{choice_is_preferred}
use Rattle.cache_array.proofs.policy.PolicyKindPolicy.choose.Goals as goal

pub returns-in-Lru-clause-choice : goal.returns-in-Lru-clause-choice
returns-in-Lru-clause-choice c =
    c.first_allowed.ensures ∙ sym (oldest_choice c.args.self.now c.args.allowed.now c.args.word c.in-Lru.is)

pub returns-in-Lru-clause-allowed : goal.returns-in-Lru-clause-allowed
returns-in-Lru-clause-allowed c =
    rw (returns-in-Lru-clause-choice c) (choice_is_allowed c.args.self.now c.args.allowed.now c.args.word)

pub returns-in-Lru-clause-preferred : goal.returns-in-Lru-clause-preferred
returns-in-Lru-clause-preferred c =
    rw (returns-in-Lru-clause-choice c) (choice_is_preferred c.args.self.now c.args.allowed.now c.args.word)

pub returns-in-Random-clause-allowed : goal.returns-in-Random-clause-allowed
returns-in-Random-clause-allowed c =
    let choice : c.pick.result ≡ choice_of c.args.self.now c.args.allowed.now c.args.word =
    rw c.in-Random.is c.pick.ensures in
    rw choice (choice_is_allowed c.args.self.now c.args.allowed.now c.args.word)

pub returns-in-Random-clause-random : goal.returns-in-Random-clause-random
returns-in-Random-clause-random c = λ seed e. can_pick_each c.args.allowed.now
