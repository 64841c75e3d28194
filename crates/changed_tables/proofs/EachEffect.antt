-- Each effect has a number.
use Rattle.std.proofs.Common.{arith, ◌≡◌, ℕ, ◌+◌, ◌*◌, ◌/◌, ◌%◌, ◌<◌, ◌==◌, Bool, true, false, get_or, lit<, refl, slice_index_or, subst}
use Rattle.directory_table.specs.declared.state.DirState.{DirState}
use Rattle.directory_table.specs.declared.state.DirState.TheVariants as dir_states
use Rattle.protocol_tables.specs.declared.directory_rows.DirEffect.{DirEffect}
use Rattle.protocol_tables.specs.declared.directory_rows.DirMessage.{DirMessage}
use Rattle.protocol_tables.specs.declared.directory_rows.DirMessage.TheVariants as messages
use Rattle.protocol_tables.specs.declared.directory_rows.DirRule.{DirRule}
use Rattle.protocol_tables.specs.declared.directory_rows.DirRule.TheVariants as rules
use Rattle.protocol_tables.specs.declared.directory_rows.Owns.{Owns}
use Rattle.protocol_tables.specs.declared.directory_rows.Owns.TheVariants as owns
use Rattle.protocol_tables.specs.declared.directory_rows.Shares.{Shares}
use Rattle.protocol_tables.specs.declared.directory_rows.Shares.TheVariants as shares
use Rattle.changed_tables.specs.Effects.{all_messages, all_owns, all_shares, all_states, effect_at}

-- its place in a list
record Place {X : Type 0} (at : ℕ → X) (size : ℕ) (one : X) : Type 0 where
  place : ℕ
  below : place < size
  is : at place ≡ one

of_message : (one : DirMessage) → Place (λ i. get_or all_messages i messages.Nothing) 7 one
of_message messages.Nothing = record { place = 0; below = lit< tt; is = refl }
of_message messages.Data = record { place = 1; below = lit< tt; is = refl }
of_message messages.DataE = record { place = 2; below = lit< tt; is = refl }
of_message messages.DataAndInv = record { place = 3; below = lit< tt; is = refl }
of_message messages.FwdGetS = record { place = 4; below = lit< tt; is = refl }
of_message messages.FwdGetM = record { place = 5; below = lit< tt; is = refl }
of_message messages.PutAck = record { place = 6; below = lit< tt; is = refl }

of_home : (one : Bool) → Place (λ i. i == 1) 2 one
of_home false = record { place = 0; below = lit< tt; is = refl }
of_home true = record { place = 1; below = lit< tt; is = refl }

of_state : (one : DirState) → Place (λ i. get_or all_states i dir_states.I) 4 one
of_state dir_states.I = record { place = 0; below = lit< tt; is = refl }
of_state dir_states.S = record { place = 1; below = lit< tt; is = refl }
of_state dir_states.M = record { place = 2; below = lit< tt; is = refl }
of_state dir_states.S_D = record { place = 3; below = lit< tt; is = refl }

of_owns : (one : Owns) → Place (λ i. get_or all_owns i owns.Nobody) 3 one
of_owns owns.Same = record { place = 0; below = lit< tt; is = refl }
of_owns owns.Nobody = record { place = 1; below = lit< tt; is = refl }
of_owns owns.Asker = record { place = 2; below = lit< tt; is = refl }

of_shares : (one : Shares) → Place (λ i. get_or all_shares i shares.Nobody) 6 one
of_shares shares.Same = record { place = 0; below = lit< tt; is = refl }
of_shares shares.Nobody = record { place = 1; below = lit< tt; is = refl }
of_shares shares.Asker = record { place = 2; below = lit< tt; is = refl }
of_shares shares.AskerToo = record { place = 3; below = lit< tt; is = refl }
of_shares shares.AskerNot = record { place = 4; below = lit< tt; is = refl }
of_shares shares.OwnerAndAsker = record { place = 5; below = lit< tt; is = refl }

-- the digits of a number that is made of places
module _ (m h s o d n : ℕ) (is : n ≡ 144 * m + 72 * h + 18 * s + 6 * o + d)
    (below_m : m < 7) (below_h : h < 2) (below_s : s < 4) (below_o : o < 3) (below_d : d < 6) where
  in_range : n < 1008
  in_range = omega arith

  message_digit : n / 144 % 7 ≡ m
  message_digit = let q : n / 144 ≡ m = omega arith in rw q (omega arith)

  home_digit : n / 72 % 2 ≡ h
  home_digit = let q : n / 72 ≡ 2 * m + h = omega arith in rw q (omega arith)

  state_digit : n / 18 % 4 ≡ s
  state_digit = let q : n / 18 ≡ 8 * m + 4 * h + s = omega arith in rw q (omega arith)

  owns_digit : n / 6 % 3 ≡ o
  owns_digit = let q : n / 6 ≡ 24 * m + 12 * h + 3 * s + o = omega arith in rw q (omega arith)

  shares_digit : n % 6 ≡ d
  shares_digit = omega arith

-- what is at its digits
made_of : (n : ℕ) (does : DirEffect) → slice_index_or all_messages (n / 144 % 7) messages.Nothing ≡ does.sends
    → (n / 72 % 2 == 1) ≡ does.writes_home → slice_index_or all_states (n / 18 % 4) dir_states.I ≡ does.state
    → slice_index_or all_owns (n / 6 % 3) owns.Nobody ≡ does.owns
    → slice_index_or all_shares (n % 6) shares.Nobody ≡ does.shares → effect_at n ≡ does
made_of n does a b c e f = rw (a, b, c, e, f) refl

-- each effect is one of the 1008
pub each_effect : (does : DirEffect) → (n : ℕ) × (n < 1008) × (effect_at n ≡ does)
each_effect does =
    let a = of_message does.sends in
    let b = of_home does.writes_home in
    let c = of_state does.state in
    let e = of_owns does.owns in
    let f = of_shares does.shares in
    let n : ℕ = 144 * a.place + 72 * b.place + 18 * c.place + 6 * e.place + f.place in (
      n,
      in_range a.place b.place c.place e.place f.place n refl a.below b.below c.below e.below f.below,
      made_of n does
          (rw (message_digit a.place b.place c.place e.place f.place n refl a.below b.below c.below e.below f.below) a.is)
          (rw (home_digit a.place b.place c.place e.place f.place n refl a.below b.below c.below e.below f.below) b.is)
          (rw (state_digit a.place b.place c.place e.place f.place n refl a.below b.below c.below e.below f.below) c.is)
          (rw (owns_digit a.place b.place c.place e.place f.place n refl a.below b.below c.below e.below f.below) e.is)
          (rw (shares_digit a.place b.place c.place e.place f.place n refl a.below b.below c.below e.below f.below) f.is),
    )

-- what holds of each effect, and of the rules without one, holds of each rule
pub each_rule : (P : DirRule → Type 0) → P rules.Blocked → P rules.NoEntry
    → ((n : ℕ) → n < 1008 → P (rules.Go (effect_at n))) → (rule : DirRule) → P rule
each_rule P blocked none goes rules.Blocked = blocked
each_rule P blocked none goes rules.NoEntry = none
each_rule P blocked none goes (rules.Go does) =
    let (n, below, is) = each_effect does in subst (λ (one : DirEffect). P (rules.Go one)) is (goes n below)
