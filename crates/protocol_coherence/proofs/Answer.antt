-- The directory answers the core that asks, and sends nothing else: the frame of such a row.
use Rattle.std.proofs.Common.{◌≡◌, ℕ, ◌<◌, ◌==◌, Bool, true, false, refl, sym, ◌∙◌, Option, true≢false}
use Rattle.address_map.specs.declared.address.CoreId.{CoreId}
use Rattle.directory_table.specs.declared.state.DirState.{DirState}
use Rattle.directory_table.specs.declared.row.DirSends.{DirSends}
use Rattle.directory_table.specs.declared.row.DirSends.TheVariants as dir_sends
use Rattle.protocol_coherence.proofs.Frame.{Kept, by_place, lift, still}
use Rattle.protocol_coherence.proofs.Seen.{kept_from, seen_alike, seen_from}
use Rattle.protocol_coherence.specs.Coherent.{IsCoherent, IsCounted, IsEntry}
use Rattle.protocol_coherence.specs.Fit.{awaits, is_counting, is_fit, owes}
use Rattle.protocol_coherence.specs.Line.{Line, Look, Near, Part, Roles, near_of, no_request, shared_data}
use Rattle.protocol_coherence.specs.LineSteps.{part_after_answer, change_if}

-- The line with this entry.
abbrev pub line_at : DirState → Option CoreId → ℕ → Bool → (ℕ → Part) → Line
line_at directory owner sharers home part = record {
  directory = directory;
  owner = owner;
  sharers = sharers;
  home = home;
  part = part;
}

-- The parts once the core is answered.
abbrev pub told : ℕ → DirSends → (ℕ → Part) → ℕ → Part
told c sent part x = change_if (x == c) (part_after_answer sent) (part x)

pub answer_kept : (cores : ℕ) (roles : Roles) (line : Line) (directory : DirState) (owner : Option CoreId)
    (sharers : ℕ) (home : Bool)
    (c : ℕ) (sent : DirSends) → IsCoherent cores line roles → IsEntry cores directory owner sharers
    → Kept (near_of (line_at directory owner sharers home line.part) roles c) (line.part c)
    (part_after_answer sent (line.part c))
    → ((x : ℕ) → x < cores → (x ≡ c → ⊥) → is_fit (near_of (line_at directory owner sharers home line.part) roles x)
    (line.part x).look ≡ true)
    → IsCoherent cores (line_at directory owner sharers home (told c sent line.part)) roles
answer_kept cores roles line directory owner sharers home c sent coherent entry kept others =
    let near = near_of (line_at directory owner sharers home line.part) roles in
    lift cores line (line_at directory owner sharers home (told c sent line.part)) roles coherent entry
    (λ x below. by_place (λ y q. Kept (near y) (line.part y) q) line.part c (part_after_answer sent) x kept
    (λ other. still (near x) (line.part x) (others x below other) (coherent.counted x below)))

-- The look of a core that is notified that its Put was taken; and of one that is sent data to read.
abbrev pub acked : Look → Look
acked l = record l { request = no_request; put_ack = true }

abbrev pub read : Look → Look
read l = record l { request = no_request; incoming = shared_data }

pub acked_kept : (near : Near) (p : Part) → is_fit near (acked p.look) ≡ true → seen_alike p.look (acked p.look) ≡ true
    → IsCounted p
    → Kept near p (part_after_answer dir_sends.PutAck p)
unfolding owes awaits
acked_kept near p fit seen counted =
    kept_from near p (part_after_answer dir_sends.PutAck p) fit
    (seen_from p (part_after_answer dir_sends.PutAck p) seen refl)
    (record { owes = refl; due = refl })
    refl refl refl counted.missing counted

pub read_kept : (near : Near) (p : Part) → is_fit near (read p.look) ≡ true → seen_alike p.look (read p.look) ≡ true
    → awaits p.look ≡ false → awaits (read p.look) ≡ false → is_counting p.look.state ≡ false → IsCounted p
    → Kept near p (part_after_answer (dir_sends.Data 0) p)
unfolding owes
read_kept near p fit seen old new count counted =
    kept_from near p (part_after_answer (dir_sends.Data 0) p) fit
    (seen_from p (part_after_answer (dir_sends.Data 0) p) seen refl)
    (record { owes = refl; due = refl }) (new ∙ sym old) (rw (new, old)) refl
    (λ h. absurd (true≢false (sym h ∙ count))) counted
