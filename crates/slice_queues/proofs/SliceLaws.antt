-- A send and a take change their own pick alone.
use Rattle.std.proofs.Common.{◌≡◌, ◌≢◌, ℕ, ◌+◌, ◌*◌, ◌/◌, ◌%◌, ◌<◌, Bool, true, false, if◌then◌else◌, [], ◌∷◌, ◌++◌}
use Rattle.std.proofs.Common.{length, drop, refl, ap, sym, ◌∙◌, inl, inr, get_or, eq-eqb, eqb-true}
use Rattle.std.proofs.Math.ListN.{set}
use Rattle.std.proofs.Math.Nat.{div-add-mod}
use Rattle.std.proofs.lemmas.Nat.{mod-mul-add, div-mul-add}
use Rattle.std.proofs.lemmas.List.{get_or-set_same, get_or-set_other, get_or_past}
use Rattle.std.proofs.lemmas.Bool.{cases_eq, cases_lt}
use Rattle.address_map.specs.declared.address.LineAddr.{LineAddr}
use Rattle.slice_queues.specs.declared.channel.Channel.{Channel}
use Rattle.slice_queues.specs.declared.channel.Channel.TheVariants as channels
use Rattle.slice_queues.specs.declared.channel.Pick.{Pick}
use Rattle.slice_queues.specs.declared.channel.Pick.TheVariants as picks
use Rattle.slice_queues.specs.declared.message.Message.{Message}
use Rattle.slice_queues.specs.Pick.{line_of, channel_of, pick_at}
use Rattle.slice_queues.specs.Line.{LineChannels, messages_at, after_send, empty_line, IsEmptyLine, SendsOnly}
use Rattle.slice_queues.specs.Line.{TakesOnly}
use Rattle.slice_queues.specs.Slice.{SliceChannels, is_of_slice, HasLine, local_of, line_at, with_line, messages_in}
use Rattle.slice_queues.specs.Slice.{after_send_in, SendsOnlyIn, TakesOnlyIn, IsEmptySlice}
use Rattle.slice_queues.proofs.LineLaws.{IsEmptyLine-from_cores, read-replicate}

-- a pick is its line and its channel
pub pick_at-parts : (pick : Pick) → pick_at (line_of pick) (channel_of pick) ≡ pick
pick_at-parts (picks.Req line core) = refl
pick_at-parts (picks.Fwd line core) = refl
pick_at-parts (picks.Data line core) = refl
pick_at-parts (picks.Ack line to from) = refl
pick_at-parts (picks.Home line) = refl

pub line_of-pick_at : (line : LineAddr) (channel : Channel) → line_of (pick_at line channel) ≡ line
line_of-pick_at line (channels.Req core) = refl
line_of-pick_at line (channels.Fwd core) = refl
line_of-pick_at line (channels.Data core) = refl
line_of-pick_at line (channels.Ack to from) = refl
line_of-pick_at line channels.Home = refl

pub channel_of-pick_at : (line : LineAddr) (channel : Channel) → channel_of (pick_at line channel) ≡ channel
channel_of-pick_at line (channels.Req core) = refl
channel_of-pick_at line (channels.Fwd core) = refl
channel_of-pick_at line (channels.Data core) = refl
channel_of-pick_at line (channels.Ack to from) = refl
channel_of-pick_at line channels.Home = refl

pub same_pick : (p q : Pick) → line_of p ≡ line_of q → channel_of p ≡ channel_of q → p ≡ q
same_pick p q line channel = cc (pick_at-parts p, pick_at-parts q)

-- two lines of one slice at one place are the same
pub same_line : (queues : SliceChannels) (a b : LineAddr) →
    is_of_slice queues a ≡ true → is_of_slice queues b ≡ true → a.0 / queues.slices ≡ b.0 / queues.slices → a ≡ b
same_line queues a b here there place =
    let rest : a.0 % queues.slices ≡ b.0 % queues.slices = eqb-true _ _ here ∙ sym (eqb-true _ _ there) in
    let number : a.0 ≡ b.0 = cc (div-add-mod a.0 queues.slices, div-add-mod b.0 queues.slices) in
    let line : ℕ → LineAddr = λ n. record { 0 = n } in
    ap line number

-- what waits at a pick of the slice waits in its line's channel
pub messages_in-here : (queues : SliceChannels) (pick : Pick) → is_of_slice queues (line_of pick) ≡ true →
    messages_in queues pick ≡ messages_at (line_at queues (line_of pick)) (channel_of pick)
messages_in-here queues pick here = rw here refl

-- once a line is changed, its picks have what its channels have
pub messages_in-with_line_same : (queues : SliceChannels) (pick : Pick) (new : LineChannels) →
    HasLine queues (line_of pick) →
    messages_in (with_line queues (line_of pick) new) pick ≡ messages_at new (channel_of pick)
messages_in-with_line_same queues pick new there =
    messages_in-here (with_line queues (line_of pick) new) pick (eq-eqb _ _ there.0)
    ∙ ap (λ line. messages_at line (channel_of pick)) (get_or-set_same queues.lines _ new (empty_line 0) there.1)

-- where a line's change leaves its other channels alone, every other pick has what it had
pub messages_in-with_line_other : (queues : SliceChannels) (pick : Pick) (new : LineChannels) →
    HasLine queues (line_of pick) →
    ((channel : Channel) → channel ≢ channel_of pick →
    messages_at new channel ≡ messages_at (line_at queues (line_of pick)) channel) →
    (other : Pick) → other ≢ pick →
    messages_in (with_line queues (line_of pick) new) other ≡ messages_in queues other
messages_in-with_line_other queues pick new there alone other ne = by_slice (is_of_slice queues (line_of other)) refl
  where
    same_messages : is_of_slice queues (line_of other) ≡ true →
        messages_at
        (get_or (set queues.lines ((line_of pick).0 / queues.slices) new) ((line_of other).0 / queues.slices)
        (empty_line 0))
        (channel_of other)
        ≡ messages_at (line_at queues (line_of other)) (channel_of other)
    same_messages here =
        elim (cases_eq ((line_of other).0 / queues.slices) ((line_of pick).0 / queues.slices)) [
          | inl place ↦
              let line : line_of other ≡ line_of pick =
              same_line queues (line_of other) (line_of pick) here (eq-eqb _ _ there.0) place in
              let differs : channel_of other ≢ channel_of pick = λ channel. ne (same_pick other pick line channel) in
              rw place (ap (λ l. messages_at l (channel_of other))
              (get_or-set_same queues.lines _ new (empty_line 0) there.1)
              ∙ alone (channel_of other) differs)
          | inr apart ↦
              ap (λ l. messages_at l (channel_of other)) (get_or-set_other queues.lines _ _ new (empty_line 0) apart)
        ]

    by_slice : (here : Bool) → is_of_slice queues (line_of other) ≡ here →
        messages_in (with_line queues (line_of pick) new) other ≡ messages_in queues other
    by_slice true here = rw here (same_messages here)
    by_slice false here = rw here refl

-- what is sent waits after the others at its pick, and no other pick changes
pub sends_only_in : (queues : SliceChannels) (pick : Pick) (message : Message) →
    HasLine queues (line_of pick) →
    SendsOnly (line_at queues (line_of pick)) (after_send (line_at queues (line_of pick)) (channel_of pick) message)
    (channel_of pick)
    message →
    SendsOnlyIn queues (after_send_in queues pick message) pick message
sends_only_in queues pick message there sent = record {
  appended =
      messages_in-with_line_same queues pick _ there
      ∙ sent.appended
      ∙ sym (ap (λ waiting. waiting ++ message ∷ []) (messages_in-here queues pick (eq-eqb _ _ there.0)));
  others = messages_in-with_line_other queues pick _ there sent.others;
}

-- what is taken is the oldest message at its pick, and no other pick changes
pub takes_only_in : (queues : SliceChannels) (pick : Pick) (new : LineChannels) →
    HasLine queues (line_of pick) → TakesOnly (line_at queues (line_of pick)) new (channel_of pick) →
    TakesOnlyIn queues (with_line queues (line_of pick) new) pick
takes_only_in queues pick new there taken = record {
  rest =
      messages_in-with_line_same queues pick new there
      ∙ taken.rest
      ∙ sym (ap (drop 1) (messages_in-here queues pick (eq-eqb _ _ there.0)));
  others = messages_in-with_line_other queues pick new there taken.others;
}

-- no message waits at a line that isn't there
pub IsEmptyLine-empty_line : (cores : ℕ) → IsEmptyLine (empty_line cores)
IsEmptyLine-empty_line cores = IsEmptyLine-from_cores (empty_line cores) (λ c. read-replicate cores c _) refl

-- a slice is empty exactly where its lines are
pub IsEmptySlice-from_lines : (queues : SliceChannels) →
    ((i : ℕ) → IsEmptyLine (get_or queues.lines i (empty_line 0))) →
    IsEmptySlice queues
IsEmptySlice-from_lines queues each pick = by_slice (is_of_slice queues (line_of pick))
  where
    by_slice : (here : Bool) →
        (if here then messages_at (line_at queues (line_of pick)) (channel_of pick) else []) ≡ []
    by_slice true = each ((line_of pick).0 / queues.slices) (channel_of pick)
    by_slice false = refl

pub lines-from_IsEmptySlice : (queues : SliceChannels) → queues.slice < queues.slices → IsEmptySlice queues →
    (i : ℕ) → IsEmptyLine (get_or queues.lines i (empty_line 0))
lines-from_IsEmptySlice queues one_of_them empty i channel =
    let line : LineAddr = record { 0 = i * queues.slices + queues.slice } in
    let pick : Pick = pick_at line channel in
    let here : is_of_slice queues (line_of pick) ≡ true =
    rw (line_of-pick_at line channel) (eq-eqb _ _ (mod-mul-add i queues.slices queues.slice one_of_them)) in
    let waits : messages_at (line_at queues (line_of pick)) (channel_of pick) ≡ [] =
    sym (messages_in-here queues pick here) ∙ empty pick in
    let place : line.0 / queues.slices ≡ i = div-mul-add i queues.slices queues.slice one_of_them in
    ap (λ k. messages_at (get_or queues.lines k (empty_line 0)) channel) (sym place)
    ∙ ap (λ l. messages_at (line_at queues l) channel) (sym (line_of-pick_at line channel))
    ∙ ap (messages_at (line_at queues (line_of pick))) (sym (channel_of-pick_at line channel))
    ∙ waits

-- at a line that isn't there no message waits
pub messages_in-absent : (queues : SliceChannels) (pick : Pick) → (HasLine queues (line_of pick) → ⊥) →
    messages_in queues pick ≡ []
messages_in-absent queues pick absent = by_slice (is_of_slice queues (line_of pick)) refl
  where
    by_slice : (here : Bool) → is_of_slice queues (line_of pick) ≡ here →
        (if here then messages_at (line_at queues (line_of pick)) (channel_of pick) else []) ≡ []
    by_slice false here = refl
    by_slice true here =
        elim (cases_lt (local_of queues (line_of pick)) (length queues.lines)) [
          | inl within ↦ absurd (absent (eqb-true _ _ here, within))
          | inr past ↦
              ap
              (λ line. messages_at line (channel_of pick))
              (get_or_past queues.lines (local_of queues (line_of pick)) (empty_line 0) past)
              ∙ IsEmptyLine-empty_line 0 (channel_of pick)
        ]

-- to take from a line that isn't there changes nothing
pub after_take_in-absent : (queues : SliceChannels) (pick : Pick) → (HasLine queues (line_of pick) → ⊥) →
    TakesOnlyIn queues queues pick
after_take_in-absent queues pick absent = record {
  rest = messages_in-absent queues pick absent ∙ sym (ap (drop 1) (messages_in-absent queues pick absent));
  others = λ other apart. refl;
}
