-- How the blocks of a line stand after one core's channels or its copy are others.
use Rattle.std.proofs.Common.{◌≡◌, ℕ, ◌<◌, ◌==◌, if◌then◌else◌, length, sym, subst}
use Rattle.address_map.specs.declared.block.Block.{Block}
use Rattle.slice_core_cache.specs.declared.copy.CacheCopy.{CacheCopy}
use Rattle.slice_core_theory.proofs.Frame.{by_number, read-set, with_copy_at}
use Rattle.slice_core_theory.specs.Blocks.{CoreBlocksStand}
use Rattle.slice_queues.proofs.LineLaws.{read-set_unchanged}
use Rattle.slice_queues.specs.Line.{CoreChannels, LineChannels, core_at, no_messages, with_core}

-- Each core's copy and channels have these blocks.
abbrev pub CoresBlocksStand : ℕ → LineChannels → (ℕ → CacheCopy) → (ℕ → Block) → (ℕ → Block) → (ℕ → Block) → Type 0
CoresBlocksStand cores channels copy kept arriving put =
    (c : ℕ) → c < cores → CoreBlocksStand (copy c) (core_at channels c) (kept c) (arriving c) (put c)

-- the blocks where one is another
abbrev pub with_block_at : (ℕ → Block) → ℕ → Block → ℕ → Block
with_block_at block c now other = if other == c then now else block other

-- Blocks that are the same stand as well.
pub core_as : (copy : CacheCopy) (mail : CoreChannels) (kept kept' arriving arriving' put put' : Block) → kept' ≡ kept
    → arriving' ≡ arriving → put' ≡ put → CoreBlocksStand copy mail kept arriving put
    → CoreBlocksStand copy mail kept' arriving' put'
core_as copy mail kept kept' arriving arriving' put put' a b c stand = rw (a, b, c) stand

-- One core's copy, channels and blocks are others.
pub blocks_turned : (cores : ℕ) (channels : LineChannels) (copy : ℕ → CacheCopy) (kept arriving put : ℕ → Block)
    (c : ℕ) (now : CacheCopy) (mail : CoreChannels) (kept' arriving' put' : Block) → c < length channels.cores
    → CoreBlocksStand now mail kept' arriving' put' → CoresBlocksStand cores channels copy kept arriving put
    → CoresBlocksStand cores (with_core channels c mail) (with_copy_at copy c now) (with_block_at kept c kept')
    (with_block_at arriving c arriving') (with_block_at put c put')
blocks_turned cores channels copy kept arriving put c now mail kept' arriving' put' there here stand x below =
    subst (λ m. CoreBlocksStand (with_copy_at copy c now x) m (with_block_at kept c kept' x)
    (with_block_at arriving c arriving' x) (with_block_at put c put' x))
    (sym (read-set channels.cores c x mail no_messages there))
    (by_number x c
    (λ b. CoreBlocksStand (if b then now else copy x) (if b then mail else core_at channels x)
    (if b then kept' else kept x) (if b then arriving' else arriving x) (if b then put' else put x))
    (λ same. here) (λ apart. stand x below))

-- The same where the blocks stay.
pub blocks_moved : (cores : ℕ) (channels : LineChannels) (copy : ℕ → CacheCopy) (kept arriving put : ℕ → Block)
    (c : ℕ) (now : CacheCopy) (mail : CoreChannels) → c < length channels.cores
    → CoreBlocksStand now mail (kept c) (arriving c) (put c) → CoresBlocksStand cores channels copy kept arriving put
    → CoresBlocksStand cores (with_core channels c mail) (with_copy_at copy c now) kept arriving put
blocks_moved cores channels copy kept arriving put c now mail there here stand x below =
    subst (λ m. CoreBlocksStand (with_copy_at copy c now x) m (kept x) (arriving x) (put x))
    (sym (read-set channels.cores c x mail no_messages there))
    (by_number x c
    (λ b. CoreBlocksStand (if b then now else copy x) (if b then mail else core_at channels x) (kept x) (arriving x)
    (put x))
    (λ same. subst (λ y. CoreBlocksStand now mail (kept y) (arriving y) (put y)) (sym same) here)
    (λ apart. stand x below))

-- A core's data are others.
pub blocks_given : (cores : ℕ) (channels : LineChannels) (copy : ℕ → CacheCopy) (kept arriving put : ℕ → Block)
    (c : ℕ) (mail : CoreChannels) (arriving' : Block) → c < length channels.cores
    → CoreBlocksStand (copy c) mail (kept c) arriving' (put c) → CoresBlocksStand cores channels copy kept arriving put
    → CoresBlocksStand cores (with_core channels c mail) copy kept (with_block_at arriving c arriving') put
blocks_given cores channels copy kept arriving put c mail arriving' there here stand x below =
    subst (λ m. CoreBlocksStand (copy x) m (kept x) (with_block_at arriving c arriving' x) (put x))
    (sym (read-set channels.cores c x mail no_messages there))
    (by_number x c
    (λ b. CoreBlocksStand (copy x) (if b then mail else core_at channels x) (kept x)
    (if b then arriving' else arriving x) (put x))
    (λ same. subst (λ y. CoreBlocksStand (copy y) mail (kept y) arriving' (put y)) (sym same) here)
    (λ apart. stand x below))

-- A core's channels are others, whose blocks are the same.
pub blocks_passed : (cores : ℕ) (channels : LineChannels) (copy : ℕ → CacheCopy) (kept arriving put : ℕ → Block)
    (c : ℕ) (mail : CoreChannels) → c < length channels.cores
    → CoreBlocksStand (copy c) mail (kept c) (arriving c) (put c)
    → CoresBlocksStand cores channels copy kept arriving put
    → CoresBlocksStand cores (with_core channels c mail) copy kept arriving put
blocks_passed cores channels copy kept arriving put c mail there here stand x below =
    subst (λ m. CoreBlocksStand (copy x) m (kept x) (arriving x) (put x))
    (sym (read-set channels.cores c x mail no_messages there))
    (by_number x c
    (λ b. CoreBlocksStand (copy x) (if b then mail else core_at channels x) (kept x) (arriving x) (put x))
    (λ same. subst (λ y. CoreBlocksStand (copy y) mail (kept y) (arriving y) (put y)) (sym same) here)
    (λ apart. stand x below))

-- Forwarded messages and acknowledgements carry no block.
pub other_mail : (copy : CacheCopy) (mail now : CoreChannels) (kept arriving put : Block)
    → now.request ≡ mail.request → now.data ≡ mail.data → CoreBlocksStand copy mail kept arriving put
    → CoreBlocksStand copy now kept arriving put
other_mail copy mail now kept arriving put request data' stand = record {
  in_copy = stand.in_copy;
  in_data = rw data' stand.in_data;
  in_put = rw request stand.in_put;
}

pub blocks_same : (cores : ℕ) (channels : LineChannels) (copy : ℕ → CacheCopy) (kept arriving put : ℕ → Block) (c : ℕ)
    (mail : CoreChannels) → mail.request ≡ (core_at channels c).request → mail.data ≡ (core_at channels c).data
    → CoresBlocksStand cores channels copy kept arriving put
    → CoresBlocksStand cores (with_core channels c mail) copy kept arriving put
blocks_same cores channels copy kept arriving put c mail request data' stand x below =
    other_mail (copy x) (core_at channels x) (core_at (with_core channels c mail) x) (kept x) (arriving x) (put x)
    (read-set_unchanged (λ (m : CoreChannels). m.request) channels.cores c x mail no_messages request)
    (read-set_unchanged (λ (m : CoreChannels). m.data) channels.cores c x mail no_messages data') (stand x below)
