-- What each delivery of a pump keeps, the pump keeps.
use Rattle.std.proofs.Common.{ℕ, ◌+◌, List, [], ◌∷◌, Option, suc, zero, subst, sym}
use Rattle.litmus_script.specs.Pump.{Delivers, MovesTimes, Pumps}
use Rattle.litmus_script.specs.declared.answers.Pumped.{Pumped}
use Rattle.slice_answer.specs.declared.answer.Delivery.{Delivery}
use Rattle.slice_queues.specs.declared.channel.Pick.{Pick}

module _ {D : Type 0} (Inv : D → Type 0)
    (tells : D → ℕ → Delivery Pick → Option (List ℕ) → Option (List ℕ) → D → Type 0)
    (keeps : (old new : D) (slice : ℕ) (answer : Delivery Pick) (before after : Option (List ℕ)) → Inv old
    → tells old slice answer before after new → Inv new) where
  delivers_kept : (slice : ℕ) (given : List (Delivery Pick)) (old new : D) (before after : Option (List ℕ)) → Inv old
      → Delivers tells slice given old new before after → Inv new
  delivers_kept slice [] old new before after inv none = subst Inv (sym none.0) inv
  delivers_kept slice (answer ∷ more) old new before after inv (next, middle, one, rest) =
      delivers_kept (slice + 1) more next new middle after (keeps old next slice answer before middle inv one) rest

  times_kept : (slices n : ℕ) (old new : D) (before after : Option (List ℕ)) → Inv old
      → MovesTimes tells slices n old new before after → Inv new
  times_kept slices zero old new before after inv none = subst Inv (sym none.0) inv
  times_kept slices (suc n) old new before after inv (mid, middle, first, last) =
      delivers_kept 0 last.given mid new middle after (times_kept slices n old mid before middle inv first)
      last.round.made

  pub pumps_kept : (slices calls : ℕ) (pumped : Pumped) (old new : D) (before after : Option (List ℕ)) → Inv old
      → Pumps tells slices calls pumped old new before after → Inv new
  pumps_kept slices calls pumped old new before after inv done =
      delivers_kept 0 done.given done.mid new done.middle after
      (times_kept slices done.turns old done.mid before done.middle inv done.moves) done.made
