-- The directory serves a GetS of a line that no core has, or that is shared: the core that asks becomes a sharer.
use Rattle.std.proofs.Common.{◌≡◌, ℕ, ◌<◌, ◌≤◌, ◌==◌, ◌&&◌, ◌||◌, Bool, true, false, not, refl, ap, sym, ◌∙◌, subst}
use Rattle.std.proofs.Common.{arith, None, inl, inr}
use Rattle.std.proofs.Math.Bool.{or-false, or-true}
use Rattle.std.proofs.lemmas.Bool.{eq-eqb, eqb-true, ne_eqb, or_cases}
use Rattle.address_map.specs.CoreSet.{has, only, with}
use Rattle.directory_table.specs.Law.{is_idle, is_shared}
use Rattle.directory_table.specs.declared.state.DirState.TheVariants as dir_states
use Rattle.directory_table.specs.declared.row.DirSends.TheVariants as dir_sends
use Rattle.protocol_coherence.proofs.Answer.{answer_kept, line_at, read, read_kept, told}
use Rattle.protocol_coherence.proofs.Each.{all_words, each_fit, each_fit-at, if_so, if_so-at, left, not-at, right}
use Rattle.protocol_coherence.proofs.Frame.{Kept}
use Rattle.protocol_coherence.proofs.Quiet.{quiet_open}
use Rattle.protocol_coherence.proofs.Seen.{seen_alike}
use Rattle.protocol_coherence.proofs.Sets.{in_only, in_with}
use Rattle.protocol_coherence.specs.Coherent.{IsCoherent, IsCounted}
use Rattle.protocol_coherence.specs.Fit.{awaits, is_counting, is_fit, is_get_s, owes}
use Rattle.protocol_coherence.specs.Line.{Near, Part, Roles, near_of}
use Rattle.protocol_coherence.specs.LineSteps.{part_after_answer}

reads : each_fit (λ n l. if_so ((is_idle n.directory || is_shared n.directory) && is_get_s l.request) (λ _.
    is_fit (record n { directory = dir_states.S; sharer = true }) (read l) && seen_alike l (read l) && not (awaits l)
    && not (awaits (read l))
    && not (is_counting l.state))) ≡ true
unfolding all_words seen_alike
reads = refl

not_reads : each_fit (λ n l. if_so (is_idle n.directory && not (owes l))
    (λ _. is_fit (record n { directory = dir_states.S; sharer = false }) l)) ≡ true
unfolding all_words
not_reads = refl

reader : (n : Near) (p : Part) (sharer : Bool) → sharer ≡ true → is_fit n p.look ≡ true → IsCounted p
    → ((is_idle n.directory || is_shared n.directory) && is_get_s p.look.request) ≡ true
    → Kept (record n { directory = dir_states.S; sharer = sharer }) p (part_after_answer (dir_sends.Data 0) p)
reader n p sharer shares fit counted here =
    let e = if_so-at _ _ (each_fit-at _ reads n p.look fit) here in
    let e1 = left _ _ e in
    let e2 = left _ _ e1 in
    let e3 = left _ _ e2 in
    read_kept (record n { directory = dir_states.S; sharer = sharer }) p
    (subst (λ b. is_fit (record n { directory = dir_states.S; sharer = b }) (read p.look) ≡ true) (sym shares)
    (left _ _ e3))
    (right _ _ e3) (not-at _ (right _ _ e2)) (not-at _ (right _ _ e1)) (not-at _ (right _ _ e)) counted

pub read_idle : (cores : ℕ) (roles : Roles) (s : ℕ) (home : Bool) (part : ℕ → Part) (c : ℕ) → cores ≤ 64
    → IsCoherent cores (line_at dir_states.I None s home part) roles → c < cores → is_get_s (part c).look.request ≡ true
    → IsCoherent cores (line_at dir_states.S None (only c) home (told c (dir_sends.Data 0) part)) roles
read_idle cores roles s home part c most coherent within asks =
    let small : c < 64 = omega arith in
    let line = line_at dir_states.I None s home part in
    let quiet = quiet_open cores line roles coherent refl in
    answer_kept cores roles line dir_states.S None (only c) home c (dir_sends.Data 0) coherent
    (record {
      in_m = refl;
      owner_within = tt;
      sharers_within = λ x below h. subst (λ y. y < cores) (sym (eqb-true x c (sym (in_only c x small) ∙ h))) within;
    })
    (reader (near_of line roles c) (part c) (has (only c) c) (in_only c c small ∙ eq-eqb c c refl)
    (coherent.fit c within)
    (coherent.counted c within) asks)
    (λ x below other. subst (λ b. is_fit (record (near_of line roles x) { directory = dir_states.S; sharer = b })
    (part x).look ≡ true)
    (sym (in_only c x small ∙ ne_eqb x c other))
    (if_so-at _ _ (each_fit-at _ not_reads (near_of line roles x) (part x).look (coherent.fit x below))
    (ap not (quiet.owes x below))))

pub read_shared : (cores : ℕ) (roles : Roles) (s : ℕ) (home : Bool) (part : ℕ → Part) (c : ℕ) → cores ≤ 64
    → IsCoherent cores (line_at dir_states.S None s home part) roles → c < cores → is_get_s (part c).look.request ≡ true
    → IsCoherent cores (line_at dir_states.S None (with s c) home (told c (dir_sends.Data 0) part)) roles
read_shared cores roles s home part c most coherent within asks =
    let small : c < 64 = omega arith in
    let line = line_at dir_states.S None s home part in
    answer_kept cores roles line dir_states.S None (with s c) home c (dir_sends.Data 0) coherent
    (record {
      in_m = refl;
      owner_within = tt;
      sharers_within = λ x below h. elim (or_cases (has s x) (x == c) (sym (in_with s c x small) ∙ h)) [
        | inl was ↦ coherent.entry.sharers_within x below was
        | inr new ↦ subst (λ y. y < cores) (sym (eqb-true x c new)) within
      ];
    })
    (reader (near_of line roles c) (part c) (has (with s c) c)
    (in_with s c c small ∙ ap (λ b. has s c || b) (eq-eqb c c refl) ∙ or-true (has s c)) (coherent.fit c within)
    (coherent.counted c within) asks)
    (λ x below other. subst (λ b. is_fit (record (near_of line roles x) { sharer = b }) (part x).look ≡ true)
    (sym (in_with s c x small ∙ ap (λ b. has s x || b) (ne_eqb x c other) ∙ or-false (has s x))) (coherent.fit x below))
