-- What an access with the reply that its word's value gives makes of that value.
use Rattle.std.proofs.Common.{◌≡◌, ◌≢◌, ℕ, ◌+◌, ◌%◌, ◌^◌, ◌<◌, cond, eqb, Some, None, refl, sym, ◌∙◌, subst}
use Rattle.std.proofs.Common.{inl, inr}
use Rattle.std.proofs.lemmas.Bool.Decides.{eqb_tells}
use Rattle.address_map.specs.declared.request.Op.{Op}
use Rattle.address_map.specs.declared.request.Op.TheVariants as ops
use Rattle.slice_log.specs.Op.{reply_of, value_of}
use Rattle.history_judge.specs.Access.{changed, found_from, left_by}

changed-none : (was now : ℕ) → changed was now ≡ None → now ≡ was
changed-none was now h = elim (eqb_tells was now) [
  | inl same ↦ sym same.1
  | inr other ↦ let e : changed was now ≡ Some now = rw other.0 refl in cc
]

changed-some : (was now u : ℕ) → changed was now ≡ Some u → now ≡ u
changed-some was now u h = elim (eqb_tells was now) [
  | inl same ↦ let e : changed was now ≡ None = rw same.0 refl in cc
  | inr other ↦ let e : changed was now ≡ Some now = rw other.0 refl in cc
]

-- one that left nothing new keeps the value
pub left_by-none : (op : Op) (reply v : ℕ) → reply ≡ reply_of op v → left_by op reply ≡ None → value_of op v ≡ v
left_by-none ops.Load reply v h l = refl
left_by-none (ops.Store new) reply v h l = cc
left_by-none (ops.Add delta) reply v h l =
    subst (λ r. (r + delta) % 2 ^ 64 ≡ r) h (changed-none reply ((reply + delta) % 2 ^ 64) l)
left_by-none (ops.Cas expect new) reply v h l =
    subst (λ r. cond (eqb r expect) (new % 2 ^ 64) r ≡ r) h
    (changed-none reply (cond (eqb reply expect) (new % 2 ^ 64) reply) l)

-- else the value is what it left
pub left_by-some : (op : Op) (reply v u : ℕ) → reply ≡ reply_of op v → left_by op reply ≡ Some u → value_of op v ≡ u
left_by-some ops.Load reply v u h l = cc
left_by-some (ops.Store new) reply v u h l = cc
left_by-some (ops.Add delta) reply v u h l =
    subst (λ r. (r + delta) % 2 ^ 64 ≡ u) h (changed-some reply ((reply + delta) % 2 ^ 64) u l)
left_by-some (ops.Cas expect new) reply v u h l =
    subst (λ r. cond (eqb r expect) (new % 2 ^ 64) r ≡ u) h
    (changed-some reply (cond (eqb reply expect) (new % 2 ^ 64) reply) u l)

-- what an access found is the value
pub found_from-some : (op : Op) (reply v u : ℕ) → reply ≡ reply_of op v → found_from op reply ≡ Some u → u ≡ v
found_from-some ops.Load reply v u h f = cc
found_from-some (ops.Store new) reply v u h f = cc
found_from-some (ops.Add delta) reply v u h f = cc
found_from-some (ops.Cas expect new) reply v u h f = cc
