-- The directory takes a Put, and acknowledges it.
use Rattle.std.proofs.Common.{◌≡◌, ℕ, ◌<◌, ◌≤◌, ◌==◌, ◌&&◌, ◌||◌, Bool, true, false, not, refl, ap, sym, ◌∙◌, subst}
use Rattle.std.proofs.Common.{arith, Some, None}
use Rattle.std.proofs.Math.Bool.{and-true, and-false}
use Rattle.std.proofs.lemmas.Bool.{and_from, and_parts, eq-eqb, ne_eqb}
use Rattle.address_map.specs.declared.address.CoreId.{CoreId}
use Rattle.address_map.specs.CoreSet.{has, without}
use Rattle.directory_table.specs.Law.{is_awaited, is_idle, is_modified, is_shared}
use Rattle.directory_table.specs.declared.state.DirState.TheVariants as dir_states
use Rattle.directory_table.specs.declared.row.DirSends.TheVariants as dir_sends
use Rattle.protocol_coherence.proofs.Answer.{acked, acked_kept, answer_kept, line_at, told}
use Rattle.protocol_coherence.proofs.Each.{all_words, each_fit, each_fit-at, if_so, if_so-at, left, not-at, right}
use Rattle.protocol_coherence.proofs.Quiet.{keeper_holds, quiet_holder, quiet_open}
use Rattle.protocol_coherence.proofs.Seen.{seen_alike}
use Rattle.protocol_coherence.proofs.Sets.{in_none, in_without}
use Rattle.protocol_coherence.specs.Coherent.{IsCoherent}
use Rattle.protocol_coherence.specs.Fit.{awaits, holder, is_fit, is_open, is_put, owes}
use Rattle.protocol_coherence.specs.Line.{Line, Part, Roles, near_of}

-- ---- a late Put, and the entry stays

late : each_fit (λ n l. if_so (is_put l.request && not n.owner && (is_idle n.directory || is_modified n.directory))
    (λ _.
    is_fit n (acked l) && seen_alike l (acked l))) ≡ true
unfolding all_words seen_alike
late = refl

pub late_put : (cores : ℕ) (roles : Roles) (line : Line) (c : ℕ) → IsCoherent cores line roles → c < cores
    → is_put (line.part c).look.request ≡ true → (near_of line roles c).owner ≡ false
    → (is_idle line.directory || is_modified line.directory) ≡ true
    → IsCoherent cores (line_at line.directory line.owner line.sharers line.home (told c dir_sends.PutAck line.part))
    roles
late_put cores roles line c coherent within asks not_owner state =
    let n = near_of line roles c in
    let p = line.part c in
    let e = if_so-at _ _ (each_fit-at _ late n p.look (coherent.fit c within))
    (and_from _ _ (and_from _ _ asks (ap not not_owner)) state) in
    answer_kept cores roles line line.directory line.owner line.sharers line.home c dir_sends.PutAck coherent
    coherent.entry
    (acked_kept n p (left _ _ e) (right _ _ e) (coherent.counted c within)) (λ x below other. coherent.fit x below)

-- ---- a sharer leaves, and others stay

leaves : each_fit (λ n l. if_so (is_put l.request && (is_shared n.directory || is_awaited n.directory)) (λ _.
    is_fit (record n { sharer = false }) (acked l) && seen_alike l (acked l))) ≡ true
unfolding all_words seen_alike
leaves = refl

gone : (s c : ℕ) → c < 64 → has (without s c) c ≡ false
gone s c within = in_without s c c within within ∙ ap (λ b. has s c && not b) (eq-eqb c c refl) ∙ and-false (has s c)

stays : (s c x : ℕ) → c < 64 → x < 64 → (x ≡ c → ⊥) → has (without s c) x ≡ has s x
stays s c x within below other =
    in_without s c x within below ∙ ap (λ b. has s x && not b) (ne_eqb x c other) ∙ and-true (has s x)

fewer : (cores s c : ℕ) → c < 64 → ((x : ℕ) → x < 64 → has s x ≡ true → x < cores)
    → (x : ℕ) → x < 64 → has (without s c) x ≡ true → x < cores
fewer cores s c within known x below h = known x below (and_parts (has s x) (not (x == c))
    (sym (in_without s c x within below) ∙ h)).0

pub sharer_leaves : (cores : ℕ) (roles : Roles) (line : Line) (c : ℕ) → cores ≤ 64 → IsCoherent cores line roles
    → c < cores
    → is_put (line.part c).look.request ≡ true → (is_shared line.directory || is_awaited line.directory) ≡ true
    → IsCoherent cores (line_at line.directory line.owner (without line.sharers c) line.home
    (told c dir_sends.PutAck line.part)) roles
sharer_leaves cores roles line c most coherent within asks state =
    let small : c < 64 = omega arith in
    let n = near_of line roles c in
    let p = line.part c in
    let e = if_so-at _ _ (each_fit-at _ leaves n p.look (coherent.fit c within)) (and_from _ _ asks state) in
    let fit = subst (λ b. is_fit (record n { sharer = b }) (acked p.look) ≡ true) (sym (gone line.sharers c small))
    (left _ _ e) in
    answer_kept cores roles line line.directory line.owner (without line.sharers c) line.home c dir_sends.PutAck
    coherent
    (record {
      in_m = coherent.entry.in_m;
      owner_within = coherent.entry.owner_within;
      sharers_within = fewer cores line.sharers c small coherent.entry.sharers_within;
    })
    (acked_kept (record n { sharer = has (without line.sharers c) c }) p fit (right _ _ e) (coherent.counted c within))
    (λ x below other. subst (λ b. is_fit (record (near_of line roles x) { sharer = b }) (line.part x).look ≡ true)
    (sym (stays line.sharers c x small (omega arith) other)) (coherent.fit x below))

-- ---- the last sharer leaves

last_leaves : each_fit (λ n l. if_so (is_put l.request && is_shared n.directory && not (owes l)) (λ _.
    is_fit (record n { directory = dir_states.I; sharer = false }) (acked l) && seen_alike l (acked l))) ≡ true
unfolding all_words seen_alike
last_leaves = refl

no_sharer : each_fit (λ n l. if_so (is_shared n.directory && not n.sharer && not (owes l))
    (λ _. is_fit (record n { directory = dir_states.I }) l)) ≡ true
unfolding all_words
no_sharer = refl

pub last_sharer_leaves : (cores : ℕ) (roles : Roles) (s : ℕ) (home : Bool) (part : ℕ → Part) (c : ℕ) → cores ≤ 64
    → IsCoherent cores (line_at dir_states.S None s home part) roles → c < cores
    → is_put (part c).look.request ≡ true → (without s c == 0) ≡ true
    → IsCoherent cores (line_at dir_states.I None (without s c) home (told c dir_sends.PutAck part)) roles
unfolding is_open
last_sharer_leaves cores roles s home part c most coherent within asks none =
    let small : c < 64 = omega arith in
    let line = line_at dir_states.S None s home part in
    let quiet = quiet_open cores line roles coherent refl in
    let n = near_of line roles c in
    let e = if_so-at _ _ (each_fit-at _ last_leaves n (part c).look (coherent.fit c within))
    (and_from _ _ (and_from _ _ asks refl) (ap not (quiet.owes c within))) in
    let fit = subst (λ b. is_fit (record n { directory = dir_states.I; sharer = b }) (acked (part c).look) ≡ true)
    (sym (gone s c small)) (left _ _ e) in
    answer_kept cores roles line dir_states.I None (without s c) home c dir_sends.PutAck coherent
    (record { in_m = refl; owner_within = tt; sharers_within = fewer cores s c small coherent.entry.sharers_within })
    (acked_kept (record n { directory = dir_states.I; sharer = has (without s c) c }) (part c) fit (right _ _ e)
    (coherent.counted c within))
    (λ x below other.
    let out : has s x ≡ false = sym (stays s c x small (omega arith) other) ∙ in_none (without s c) x none in
    let there = if_so-at _ _ (each_fit-at _ no_sharer (near_of line roles x) (part x).look (coherent.fit x below))
    (and_from _ _ (ap not out) (ap not (quiet.owes x below))) in
    subst (λ b. is_fit (record (near_of line roles x) { directory = dir_states.I; sharer = b }) (part x).look ≡ true)
    (sym (stays s c x small (omega arith) other)) there)

-- ---- the owner writes the line back

owner_is : each_fit (λ n l. if_so (is_put l.request && n.owner) (λ _. holder l && not (awaits l))) ≡ true
unfolding all_words
owner_is = refl

writes_back : each_fit (λ n l. if_so (is_put l.request && n.owner) (λ _.
    is_fit (record n { directory = dir_states.I; owner = false }) (acked l) && seen_alike l (acked l))) ≡ true
unfolding all_words seen_alike
writes_back = refl

not_the_owner : each_fit (λ n l. if_so (is_modified n.directory && not n.keeper && not (owes l)) (λ _.
    is_fit (record n { directory = dir_states.I; owner = false }) l)) ≡ true
unfolding all_words
not_the_owner = refl

pub owner_leaves : (cores : ℕ) (roles : Roles) (owner : CoreId) (s : ℕ) (home : Bool) (part : ℕ → Part) (c : ℕ)
    → IsCoherent cores (line_at dir_states.M (Some owner) s home part) roles → c < cores
    → is_put (part c).look.request ≡ true → (c == owner.0) ≡ true
    → IsCoherent cores (line_at dir_states.I None s home (told c dir_sends.PutAck part)) roles
owner_leaves cores roles owner s home part c coherent within asks owns =
    let line = line_at dir_states.M (Some owner) s home part in
    let n = near_of line roles c in
    let known = if_so-at _ _ (each_fit-at _ owner_is n (part c).look (coherent.fit c within))
    (and_from _ _ asks owns) in
    let holds = left _ _ known in
    let quiet = quiet_holder cores line roles c coherent within holds (not-at _ (right _ _ known)) in
    let keeper = keeper_holds cores line roles c coherent within holds in
    let e = if_so-at _ _ (each_fit-at _ writes_back n (part c).look (coherent.fit c within)) (and_from _ _ asks owns) in
    answer_kept cores roles line dir_states.I None s home c dir_sends.PutAck coherent
    (record { in_m = refl; owner_within = tt; sharers_within = coherent.entry.sharers_within })
    (acked_kept (record n { directory = dir_states.I; owner = false }) (part c) (left _ _ e) (right _ _ e)
    (coherent.counted c within))
    (λ x below other. if_so-at _ _ (each_fit-at _ not_the_owner (near_of line roles x) (part x).look
    (coherent.fit x below))
    (and_from _ _ (ap not (ne_eqb x roles.keeper (λ same. other (same ∙ sym keeper)))) (ap not (quiet.owes x below))))
