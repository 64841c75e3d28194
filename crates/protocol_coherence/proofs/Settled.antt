-- Nothing comes early, and where nothing is in flight the owner has the line or no core does.
use Rattle.std.proofs.Common.{◌≡◌, ℕ, ◌<◌, ◌&&◌, Bool, true, false, not, refl, ap, sym, ◌∙◌, Option, Some, None, IfSome}
use Rattle.std.proofs.Common.{IsTrue, IsFalse, true≢false}
use Rattle.std.proofs.lemmas.Bool.{and_from, eq-eqb}
use Rattle.address_map.specs.declared.address.CoreId.{CoreId}
use Rattle.cache_table.specs.CopyState.{is_writer}
use Rattle.directory_table.specs.Law.{is_awaited, is_named}
use Rattle.protocol_coherence.proofs.Each.{all_words, each_fit, each_fit-at, if_so, if_so-at, implies-at, left, not-at}
use Rattle.protocol_coherence.proofs.Each.{right}
use Rattle.protocol_coherence.specs.Coherent.{IsCoherent}
use Rattle.protocol_coherence.specs.Fit.{◌implies◌, is_no_data, is_no_request}
use Rattle.protocol_coherence.specs.Line.{Line, Roles, near_of}
use Rattle.protocol_coherence.specs.Promise.{IsSettled, NothingIsEarly, is_still}

on_time : each_fit (λ n l. (not (is_no_data l.incoming) implies is_no_request l.request)
    && (l.put_ack implies is_no_request l.request)) ≡ true
unfolding all_words
on_time = refl

pub nothing_early : (cores : ℕ) (line : Line) (roles : Roles) → IsCoherent cores line roles → NothingIsEarly cores line
nothing_early cores line roles coherent c within =
    let e = each_fit-at _ on_time (near_of line roles c) (line.part c).look (coherent.fit c within) in
    record {
      data_taken = λ h. implies-at _ _ (left _ _ e) (ap not h);
      put_taken = implies-at _ _ (right _ _ e);
    }

owner_still : each_fit (λ n l. if_so (n.owner && is_still l) (λ _. is_writer l.state)) ≡ true
unfolding all_words
owner_still = refl

server_moves : each_fit (λ n l. if_so (is_awaited n.directory && not n.home && n.server) (λ _. not (is_still l))) ≡ true
unfolding all_words
server_moves = refl

settled_owner : (cores : ℕ) (line : Line) (roles : Roles) (owner : Option CoreId) → IsCoherent cores line roles
    → IfSome owner (λ core. core.0 < cores) → ((x : ℕ) → is_named owner x ≡ is_named line.owner x)
    → IfSome owner (λ core. IsTrue (is_still (line.part core.0).look)
    → IsTrue (is_writer (line.part core.0).look.state))
settled_owner cores line roles None coherent within same = tt
settled_owner cores line roles (Some core) coherent within same = λ still.
    if_so-at _ _ (each_fit-at _ owner_still (near_of line roles core.0) (line.part core.0).look
    (coherent.fit core.0 within))
    (and_from _ _ (sym (same core.0) ∙ eq-eqb core.0 core.0 refl) still)

pub settled : (cores : ℕ) (line : Line) (roles : Roles) → IsCoherent cores line roles → IsSettled cores line
settled cores line roles coherent = record {
  not_awaited = λ no_home still. go (is_awaited line.directory) refl no_home still;
  owner = settled_owner cores line roles line.owner coherent coherent.entry.owner_within (λ x. refl);
}
  where
    go : (b : Bool) → is_awaited line.directory ≡ b → IsFalse line.home
        → ((c : ℕ) → c < cores → IsTrue (is_still (line.part c).look)) → b ≡ false
    go false e no_home still = refl
    go true e no_home still =
        let server = roles.server in
        let within = coherent.roles_within.server in
        let moves = if_so-at _ _ (each_fit-at _ server_moves (near_of line roles server) (line.part server).look
        (coherent.fit server within))
        (and_from _ _ (and_from _ _ e (ap not no_home)) (eq-eqb server server refl)) in
        absurd (true≢false (sym (still server within) ∙ not-at _ moves))
