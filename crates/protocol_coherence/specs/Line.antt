-- One line and the cores that share it: what is in each core's cache, in its channels and in the directory.
use Rattle.std.specs.Prelude.{ℕ, ◌==◌, Bool, Option}
use Rattle.address_map.specs.declared.address.CoreId.{CoreId}
use Rattle.cache_table.specs.declared.state.CopyState.{CopyState}
use Rattle.address_map.specs.CoreSet.{has}
use Rattle.directory_table.specs.Law.{is_named}
use Rattle.directory_table.specs.declared.state.DirState.{DirState}

-- What waits in a core's request channel.
pub data Request : Type 0 where
  no_request get_s get_m put_s put_m : Request

-- What waits in a core's data channel: nothing, Data, or Data-E (the only copy).
pub data Incoming : Type 0 where
  no_data shared_data only_data : Incoming

-- The forwarded request that waits for a core.
pub data Forward : Type 0 where
  no_forward fwd_get_s fwd_get_m : Forward

-- One core's copy and channels, without numbers. Its forwarded channel holds, oldest first, at most an Inv, a forwarded
-- request and a Put-Ack.
pub record Look : Type 0 where
  pub state : CopyState
  pub request : Request
  pub incoming : Incoming
  pub inv : Bool
  pub forward : Forward
  pub put_ack : Bool
  -- an Inv-Ack of this core waits
  pub sent : Bool

-- One core with the numbers of its messages.
pub record Part : Type 0 where
  pub look : Look
  -- the core to which its Inv or its Inv-Ack is due
  pub owes_to : ℕ
  -- the core that its forwarded request names
  pub names : ℕ
  -- n: how many Inv-Acks its Data name
  pub wants : ℕ
  -- k: how many Inv-Acks it has counted
  pub counted : ℕ

-- The line: the directory's entry, whether a block waits on its way home, and each core's part.
pub record Line : Type 0 where
  pub directory : DirState
  pub owner : Option CoreId
  -- the set of sharers, as the directory's table holds it
  pub sharers : ℕ
  -- a block waits in the home channel
  pub home : Bool
  pub part : ℕ → Part

-- Parts that a proof keeps in mind, and no message carries: the one core that may hold the line's data or have them on
-- the way, so that every Inv is due to it; while a block is on its way home, the core that is asked for it and the
-- core that asks; and for each core who forwards to it.
pub record Roles : Type 0 where
  pub keeper : ℕ
  pub server : ℕ
  pub asker : ℕ
  pub by : ℕ → ℕ

-- The directory as one core sees it: who of the others is meant makes no difference to it.
pub record Near : Type 0 where
  pub directory : DirState
  pub home : Bool
  pub owner : Bool
  pub sharer : Bool
  pub keeper : Bool
  pub server : Bool
  pub asker : Bool

-- The line's directory as this core sees it, with its own roles.
abbrev pub near_of : Line → Roles → ℕ → Near
near_of line roles core = record {
  directory = line.directory;
  home = line.home;
  owner = is_named line.owner core;
  sharer = has line.sharers core;
  keeper = core == roles.keeper;
  server = core == roles.server;
  asker = core == roles.asker;
}
