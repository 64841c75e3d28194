-- All effects that a directory's rule can have, by numbers: the plainer the less.
use Rattle.std.specs.Prelude.{ℕ, ◌/◌, ◌%◌, ◌==◌, List, [], ◌∷◌, slice_index_or}
use Rattle.directory_table.specs.declared.state.DirState.{DirState}
use Rattle.directory_table.specs.declared.state.DirState.TheVariants as dir_states
use Rattle.protocol_tables.specs.declared.directory_rows.DirEffect.{DirEffect}
use Rattle.protocol_tables.specs.declared.directory_rows.DirMessage.{DirMessage}
use Rattle.protocol_tables.specs.declared.directory_rows.DirMessage.TheVariants as messages
use Rattle.protocol_tables.specs.declared.directory_rows.Owns.{Owns}
use Rattle.protocol_tables.specs.declared.directory_rows.Owns.TheVariants as owns
use Rattle.protocol_tables.specs.declared.directory_rows.Shares.{Shares}
use Rattle.protocol_tables.specs.declared.directory_rows.Shares.TheVariants as shares

abbrev pub all_messages : List DirMessage
all_messages =
    messages.Nothing ∷ messages.Data ∷ messages.DataE ∷ messages.DataAndInv ∷ messages.FwdGetS ∷ messages.FwdGetM
    ∷ messages.PutAck ∷ []

abbrev pub all_states : List DirState
all_states = dir_states.I ∷ dir_states.S ∷ dir_states.M ∷ dir_states.S_D ∷ []

abbrev pub all_owns : List Owns
all_owns = owns.Same ∷ owns.Nobody ∷ owns.Asker ∷ []

abbrev pub all_shares : List Shares
all_shares =
    shares.Same ∷ shares.Nobody ∷ shares.Asker ∷ shares.AskerToo ∷ shares.AskerNot ∷ shares.OwnerAndAsker ∷ []

-- the effect with this number, of 1008
abbrev pub effect_at : ℕ → DirEffect
effect_at number = record {
  sends = slice_index_or all_messages (number / 144 % 7) messages.Nothing;
  writes_home = number / 72 % 2 == 1;
  state = slice_index_or all_states (number / 18 % 4) dir_states.I;
  owns = slice_index_or all_owns (number / 6 % 3) owns.Nobody;
  shares = slice_index_or all_shares (number % 6) shares.Nobody;
}
