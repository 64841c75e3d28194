-- The loads in front of the first write are loads, and a write follows them.
use Rattle.std.proofs.Common.{◌≡◌, List, [], ◌∷◌, sym, ⊎_elim, arith, suc, ◌+◌, take-append-drop}
use Rattle.std.specs.Prelude.{All, IsTrue}
use Rattle.std.specs.List.{prefix_len}
use Rattle.std.proofs.lemmas.Bool.{cases_Bool}
use Rattle.std.proofs.lemmas.List.Elements.{All-cons, All-nil}
use Rattle.std.proofs.lemmas.List.Sums.{take_while-cons}
use Rattle.target_list.specs.declared.target.Target.{Target}
use Rattle.target_list.specs.Target.{is_load, front_loads, behind_loads, BeginsWithWrite, TakesLoads}

front-loads : (targets : List Target) → All (λ target. IsTrue (is_load target)) (front_loads targets)
front-loads [] = All-nil _
front-loads (first ∷ rest) =
    rw (take_while-cons is_load first rest)
    (⊎_elim
    (λ load. rw load (All-cons (λ target. IsTrue (is_load target)) first (front_loads rest) load (front-loads rest)))
    (λ write. rw write (All-nil _))
    (cases_Bool (is_load first)))

behind-writes : (targets : List Target) → BeginsWithWrite (behind_loads targets)
behind-writes [] = tt
behind-writes (first ∷ rest) =
    ⊎_elim
    (λ load.
    let one_more : 1 + prefix_len is_load rest ≡ suc (prefix_len is_load rest) = omega arith in
    rw load (rw one_more (behind-writes rest)))
    (λ write. rw write write)
    (cases_Bool (is_load first))

pub takes_loads : (old taken left : List Target) → taken ≡ front_loads old → left ≡ behind_loads old →
    TakesLoads old taken left
takes_loads old taken left front behind =
    rw (front, behind)
    (record {
      whole = sym (take-append-drop (prefix_len is_load old) old);
      loads = front-loads old;
      longest = behind-writes old;
    })
