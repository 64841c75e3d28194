-- A test of one core is proved by going through all looks and all entries that fit.
use Rattle.std.proofs.Common.{◌≡◌, ◌&&◌, Bool, true, false, not, refl, sym, subst, true≢false}
use Rattle.std.proofs.lemmas.Bool.{and_parts}
unfoldable pub use Rattle.cache_table.proofs.Each.{each_state}
pub use Rattle.cache_table.proofs.Each.{each_state-at}
use Rattle.cache_table.specs.declared.row.CacheSends.{CacheSends}
use Rattle.cache_table.specs.declared.row.Row.{Row}
use Rattle.cache_table.specs.declared.row.Row.TheVariants as rows
use Rattle.cache_table.specs.declared.state.CopyState.{CopyState}
use Rattle.directory_table.specs.declared.state.DirState.{DirState}
use Rattle.directory_table.specs.declared.state.DirState.TheVariants as dir_states
use Rattle.protocol_coherence.specs.Fit.{◌implies◌, ◌iff◌, asker_fits, awaits, clean, comes, data_fits, debt_fits}
use Rattle.protocol_coherence.specs.Fit.{directory_fits, is_granted, holder, holder_fits, inv_fits, is_asked, is_fit}
use Rattle.protocol_coherence.specs.Fit.{is_open, is_put_ack_first, owes, owner_fits, put_fits, reader_fits}
use Rattle.protocol_coherence.specs.Fit.{request_fits, server_fits, sharer_fits, waits_to_read, waits_to_write}
use Rattle.protocol_coherence.specs.Line.{Forward, fwd_get_m, fwd_get_s, no_forward, Incoming, no_data, only_data}
use Rattle.protocol_coherence.specs.Line.{shared_data, Look, Near, Request, get_m, get_s, no_request, put_m, put_s}

-- The second where the first holds. Evaluation is strict, so that the second waits for the unit.
unfoldable pub if_so : Bool → (Unit {0} → Bool) → Bool
if_so true then = then tt
if_so false then = true

pub if_so-at : (a : Bool) (then : Unit {0} → Bool) → if_so a then ≡ true → a ≡ true → then tt ≡ true
unfolding if_so
if_so-at true then e so = e
if_so-at false then e so = absurd (true≢false (sym so))

unfoldable pub each_request : (Request → Bool) → Bool
each_request p = p no_request && p get_s && p get_m && p put_s && p put_m

unfoldable pub each_incoming : (Incoming → Bool) → Bool
each_incoming p = p no_data && p shared_data && p only_data

unfoldable pub each_forward : (Forward → Bool) → Bool
each_forward p = p no_forward && p fwd_get_s && p fwd_get_m

unfoldable pub each_directory : (DirState → Bool) → Bool
each_directory p = p dir_states.I && p dir_states.S && p dir_states.M && p dir_states.S_D

unfoldable pub each_bool : (Bool → Bool) → Bool
each_bool p = p true && p false

pub left : (a b : Bool) → (a && b) ≡ true → a ≡ true
left a b e = (and_parts a b e).0

pub right : (a b : Bool) → (a && b) ≡ true → b ≡ true
right a b e = (and_parts a b e).1

pub each_bool-at : (p : Bool → Bool) → each_bool p ≡ true → (b : Bool) → p b ≡ true
unfolding each_bool
each_bool-at p e true = left _ _ e
each_bool-at p e false = right _ _ e

pub each_request-at : (p : Request → Bool) → each_request p ≡ true → (r : Request) → p r ≡ true
unfolding each_request
each_request-at p e no_request = left _ _ (left _ _ (left _ _ (left _ _ e)))
each_request-at p e get_s = right _ _ (left _ _ (left _ _ (left _ _ e)))
each_request-at p e get_m = right _ _ (left _ _ (left _ _ e))
each_request-at p e put_s = right _ _ (left _ _ e)
each_request-at p e put_m = right _ _ e

pub each_incoming-at : (p : Incoming → Bool) → each_incoming p ≡ true → (r : Incoming) → p r ≡ true
unfolding each_incoming
each_incoming-at p e no_data = left _ _ (left _ _ e)
each_incoming-at p e shared_data = right _ _ (left _ _ e)
each_incoming-at p e only_data = right _ _ e

pub each_forward-at : (p : Forward → Bool) → each_forward p ≡ true → (r : Forward) → p r ≡ true
unfolding each_forward
each_forward-at p e no_forward = left _ _ (left _ _ e)
each_forward-at p e fwd_get_s = right _ _ (left _ _ e)
each_forward-at p e fwd_get_m = right _ _ e

pub each_directory-at : (p : DirState → Bool) → each_directory p ≡ true → (d : DirState) → p d ≡ true
unfolding each_directory
each_directory-at p e dir_states.I = left _ _ (left _ _ (left _ _ e))
each_directory-at p e dir_states.S = right _ _ (left _ _ (left _ _ e))
each_directory-at p e dir_states.M = right _ _ (left _ _ e)
each_directory-at p e dir_states.S_D = right _ _ e

-- The looks that fit, then the entries that fit them.
unfoldable pub each_near : (Near → Bool) → Look → Bool
each_near p l =
    each_bool (λ owner. if_so (owner_fits l owner) (λ _.
    each_directory (λ directory. each_bool (λ home. if_so (directory_fits directory home owner) (λ _.
    each_bool (λ keeper. if_so (debt_fits l.inv l.sent keeper) (λ _. if_so (holder_fits l directory home keeper) (λ _.
    each_bool (λ sharer. if_so (sharer_fits l directory home sharer)
    (λ _. if_so (reader_fits l directory home sharer) (λ _.
    each_bool (λ server. if_so (server_fits l directory home server) (λ _.
    each_bool (λ asker. if_so (asker_fits l directory home sharer server asker) (λ _.
    p (record {
      directory = directory;
      home = home;
      owner = owner;
      sharer = sharer;
      keeper = keeper;
      server = server;
      asker = asker;
    }))))))))))))))))

unfoldable pub each_look : (Look → Bool) → Bool
each_look p =
    each_state (λ state. each_request (λ request. if_so (request_fits state request) (λ _.
    each_incoming (λ incoming. if_so (data_fits state request incoming) (λ _.
    each_bool (λ put_ack. if_so (put_fits state request put_ack) (λ _.
    each_bool (λ inv. if_so (inv_fits state incoming inv) (λ _.
    each_forward (λ forward. each_bool (λ sent.
    p (record {
      state = state;
      request = request;
      incoming = incoming;
      inv = inv;
      forward = forward;
      put_ack = put_ack;
      sent = sent;
    }))))))))))))

unfoldable pub each_fit : (Near → Look → Bool) → Bool
each_fit p = each_look (λ l. each_near (λ n. p n l) l)

record Facts (n : Near) (l : Look) : Type 0 where
  request : request_fits l.state l.request ≡ true
  data' : data_fits l.state l.request l.incoming ≡ true
  put : put_fits l.state l.request l.put_ack ≡ true
  inv : inv_fits l.state l.incoming l.inv ≡ true
  directory : directory_fits n.directory n.home n.owner ≡ true
  owner : owner_fits l n.owner ≡ true
  debt : debt_fits l.inv l.sent n.keeper ≡ true
  holder : holder_fits l n.directory n.home n.keeper ≡ true
  sharer : sharer_fits l n.directory n.home n.sharer ≡ true
  reader : reader_fits l n.directory n.home n.sharer ≡ true
  server : server_fits l n.directory n.home n.server ≡ true
  asker : asker_fits l n.directory n.home n.sharer n.server n.asker ≡ true

facts : (n : Near) (l : Look) → is_fit n l ≡ true → Facts n l
unfolding is_fit
facts n l e =
    let e1 = left _ _ e in
    let e2 = left _ _ e1 in
    let e3 = left _ _ e2 in
    let e4 = left _ _ e3 in
    let e5 = left _ _ e4 in
    let e6 = left _ _ e5 in
    let e7 = left _ _ e6 in
    let e8 = left _ _ e7 in
    let e9 = left _ _ e8 in
    let e10 = left _ _ e9 in
    record {
      request = left _ _ e10;
      data' = right _ _ e10;
      put = right _ _ e9;
      inv = right _ _ e8;
      directory = right _ _ e7;
      owner = right _ _ e6;
      debt = right _ _ e5;
      holder = right _ _ e4;
      sharer = right _ _ e3;
      reader = right _ _ e2;
      server = right _ _ e1;
      asker = right _ _ e;
    }

each_near-at : (p : Near → Bool) (l : Look) → each_near p l ≡ true → (n : Near) → Facts n l → p n ≡ true
unfolding each_near
each_near-at p l e n f =
    let e = if_so-at _ _ (each_bool-at _ e n.owner) f.owner in
    let e = each_bool-at _ (each_directory-at _ e n.directory) n.home in
    let e = if_so-at _ _ e f.directory in
    let e = if_so-at _ _ (if_so-at _ _ (each_bool-at _ e n.keeper) f.debt) f.holder in
    let e = if_so-at _ _ (if_so-at _ _ (each_bool-at _ e n.sharer) f.sharer) f.reader in
    let e = if_so-at _ _ (each_bool-at _ e n.server) f.server in
    if_so-at _ _ (each_bool-at _ e n.asker) f.asker

pub each_fit-at : (p : Near → Look → Bool) → each_fit p ≡ true → (n : Near) (l : Look) → is_fit n l ≡ true
    → p n l ≡ true
unfolding each_fit each_look
each_fit-at p e n l fit =
    let f = facts n l fit in
    let e = if_so-at _ _ (each_request-at _ (each_state-at _ e l.state) l.request) f.request in
    let e = if_so-at _ _ (each_incoming-at _ e l.incoming) f.data' in
    let e = if_so-at _ _ (each_bool-at _ e l.put_ack) f.put in
    let e = if_so-at _ _ (each_bool-at _ e l.inv) f.inv in
    let e = each_bool-at _ (each_forward-at _ e l.forward) l.sent in
    each_near-at _ l e n f

-- ---- rows

-- The test of a cache's row where it goes on; and of a look where a fact holds.
unfoldable pub if_go : Row → (CopyState → CacheSends → Bool) → Bool
if_go (rows.Go next sent) test = test next sent
if_go _ test = true

pub if_go-at : (row : Row) (test : CopyState → CacheSends → Bool) (next : CopyState) (sent : CacheSends)
    → if_go row test ≡ true → row ≡ rows.Go next sent → test next sent ≡ true
unfolding if_go
if_go-at row test next sent e known = subst (λ r. if_go r test ≡ true) known e

pub implies-at : (a b : Bool) → (a implies b) ≡ true → a ≡ true → b ≡ true
implies-at true b e so = e
implies-at false b e so = absurd (true≢false (sym so))

pub iff-at : (a b : Bool) → (a iff b) ≡ true → a ≡ b
iff-at true true e = refl
iff-at true false e = sym e
iff-at false true e = absurd (true≢false (sym e))
iff-at false false e = refl

pub not-at : (a : Bool) → not a ≡ true → a ≡ false
not-at true e = sym e
not-at false e = refl

-- What the tests compute with.
unfoldable pub all_words : Bool
unfolding each_fit each_look each_near each_state each_request each_incoming each_forward each_directory each_bool
    if_so if_go
    is_fit request_fits data_fits put_fits inv_fits directory_fits owner_fits debt_fits holder_fits sharer_fits
    reader_fits
    server_fits asker_fits is_put_ack_first is_granted holder comes clean waits_to_read waits_to_write awaits owes
    is_open
    is_asked
all_words = true
