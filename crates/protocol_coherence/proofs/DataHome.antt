-- The block that the last owner sent comes home: the directory serves others again.
use Rattle.std.proofs.Common.{◌≡◌, ℕ, ◌==◌, ◌&&◌, true, false, not, refl, ap, None}
use Rattle.std.proofs.lemmas.Bool.{and_from}
use Rattle.directory_table.specs.Law.{is_awaited}
use Rattle.directory_table.specs.declared.state.DirState.TheVariants as dir_states
use Rattle.protocol_coherence.proofs.Answer.{line_at}
use Rattle.protocol_coherence.proofs.Each.{all_words, each_fit, each_fit-at, if_so, if_so-at}
use Rattle.protocol_coherence.proofs.Frame.{lift, still}
use Rattle.protocol_coherence.proofs.Quiet.{quiet_open}
use Rattle.protocol_coherence.proofs.Sets.{in_none}
use Rattle.protocol_coherence.specs.Coherent.{IsCoherent}
use Rattle.protocol_coherence.specs.Fit.{is_fit, is_open, owes}
use Rattle.protocol_coherence.specs.Line.{Part, Roles, near_of}

shared_again : each_fit (λ n l. if_so (is_awaited n.directory && n.home)
    (λ _. is_fit (record n { directory = dir_states.S; home = false }) l)) ≡ true
unfolding all_words
shared_again = refl

idle_again : each_fit (λ n l. if_so (is_awaited n.directory && n.home && not n.sharer && not (owes l)) (λ _.
    is_fit (record n { directory = dir_states.I; home = false }) l)) ≡ true
unfolding all_words
idle_again = refl

pub home_shared : (cores : ℕ) (roles : Roles) (s : ℕ) (part : ℕ → Part)
    → IsCoherent cores (line_at dir_states.S_D None s true part) roles
    → IsCoherent cores (line_at dir_states.S None s false part) roles
home_shared cores roles s part coherent =
    let line = line_at dir_states.S_D None s true part in
    let next = line_at dir_states.S None s false part in
    lift cores line next roles coherent
    (record { in_m = refl; owner_within = tt; sharers_within = coherent.entry.sharers_within })
    (λ x below. still (near_of next roles x) (part x)
    (if_so-at _ _ (each_fit-at _ shared_again (near_of line roles x) (part x).look (coherent.fit x below)) refl)
    (coherent.counted x below))

pub home_idle : (cores : ℕ) (roles : Roles) (s : ℕ) (part : ℕ → Part)
    → IsCoherent cores (line_at dir_states.S_D None s true part) roles
    → (s == 0) ≡ true → IsCoherent cores (line_at dir_states.I None s false part) roles
unfolding is_open
home_idle cores roles s part coherent none =
    let line = line_at dir_states.S_D None s true part in
    let next = line_at dir_states.I None s false part in
    let quiet = quiet_open cores line roles coherent refl in
    lift cores line next roles coherent
    (record { in_m = refl; owner_within = tt; sharers_within = coherent.entry.sharers_within })
    (λ x below. still (near_of next roles x) (part x)
    (if_so-at _ _ (each_fit-at _ idle_again (near_of line roles x) (part x).look (coherent.fit x below))
    (and_from _ _ (ap not (in_none s x none)) (ap not (quiet.owes x below)))) (coherent.counted x below))
