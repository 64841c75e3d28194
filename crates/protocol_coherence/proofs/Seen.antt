-- A core's part after a step, from tests of its look before and after.
use Rattle.std.proofs.Common.{◌≡◌, ℕ, ◌+◌, ◌<◌, ◌&&◌, ◌||◌, Bool, true, false, not, refl, sym, ◌∙◌, arith}
use Rattle.std.proofs.Common.{if◌then◌else◌, true≢false}
use Rattle.protocol_coherence.proofs.Each.{implies-at, left, right}
use Rattle.protocol_coherence.proofs.Frame.{Kept, Owing, Seen}
use Rattle.protocol_coherence.specs.Coherent.{IsCounted, wanted_acks}
use Rattle.protocol_coherence.specs.Fit.{◌implies◌, awaits, is_counting, is_fit, is_fwd_get_m, is_fwd_get_s}
use Rattle.protocol_coherence.specs.Fit.{waits_to_write}
use Rattle.protocol_coherence.specs.Line.{Look, Near, Part}

-- What others see of the look stays.
unfoldable pub seen_alike : Look → Look → Bool
seen_alike l m =
    (waits_to_write l implies waits_to_write m)
    && (is_fwd_get_m m.forward implies is_fwd_get_m l.forward)
    && (is_fwd_get_s m.forward implies is_fwd_get_s l.forward)

pub seen_from : (p q : Part) → seen_alike p.look q.look ≡ true → q.names ≡ p.names → Seen p q
unfolding seen_alike
seen_from p q e names = record {
  waits = implies-at _ _ (left _ _ (left _ _ e));
  fwd_get_m = implies-at _ _ (right _ _ (left _ _ e));
  fwd_get_s = implies-at _ _ (right _ _ e);
  names = names;
}

-- The numbers stay: what is awaited is awaited on, and as many are counted.
pub kept_from : (near : Near) (p q : Part) → is_fit near q.look ≡ true → Seen p q → Owing p q
    → awaits q.look ≡ awaits p.look
    → wanted_acks q ≡ wanted_acks p → q.counted ≡ p.counted → (is_counting q.look.state ≡ true → q.counted < q.wants)
    → IsCounted p
    → Kept near p q
kept_from near p q fit seen owing await want count missing counted = record {
  fit = fit;
  counted = record { missing = missing; none = λ h. count ∙ counted.none (sym await ∙ h) };
  seen = seen;
  owing = owing;
  balance = omega (arith, want, count);
}

pub wanted_same : (p q : Part) → awaits q.look ≡ awaits p.look → q.wants ≡ p.wants → wanted_acks q ≡ wanted_acks p
wanted_same p q await wants = rw (await, wants)

-- Counting goes on where a miss is outstanding, and where none is, nothing was counted.
pub counted_on : (waits awaits : Bool) (k : ℕ) → (waits || not awaits) ≡ true → (awaits ≡ false → k ≡ 0)
    → (if waits then k + 0 else 0) ≡ k
counted_on true awaits k e none = omega arith
counted_on false true k e none = absurd (true≢false (sym e))
counted_on false false k e none = sym (none refl)
