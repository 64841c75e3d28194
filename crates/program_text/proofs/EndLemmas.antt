-- The end of a text.
use Rattle.std.proofs.Common.{◌≡◌, ◌-◌, List, [], ◌∷◌, ◌++◌, length, refl, sym, ap, subst, ◌∙◌, inr, append-nil}
use Rattle.std.specs.Prelude.{None, Some, reverse, slice_get}
use Rattle.std.proofs.lemmas.List.{reverse-reverse}
use Rattle.address_map.specs.Config.{first_fault}
use Rattle.litmus_text.specs.declared.fault.LineFault.TheVariants as line_faults
use Rattle.litmus_text.specs.declared.fault.TextFault.TheVariants as text_faults
use Rattle.litmus_text.specs.declared.settings.Settings.{Settings}
use Rattle.program_text.specs.declared.reader.Block.{Block}
use Rattle.program_text.specs.declared.reader.Reader.{Reader}
use Rattle.program_text.specs.Fault.{IsFault, Says, Statement, programs_of}
use Rattle.program_text.specs.Reading.{IsRead, IsReading, said_by, said_first}
use Rattle.program_text.specs.Text.{Said, said_nothing}
use Rattle.program_text.proofs.BodyLemmas.{blocks_push}
use Rattle.program_text.proofs.JudgedLemmas.{ends_with, none_open}

-- a block is left open
pub left_open : (all : List Statement) (reader : Reader) (block : Block) → IsReading all (said_by reader) []
    → first_fault reader.programs.config ≡ None
    → slice_get reader.blocks.items (length reader.blocks.items - 1) ≡ Some block
    → IsFault all (text_faults.Line block.number line_faults.NotACommand)
unfolding said_by
left_open all reader block reading checked at =
    let last = ends_with reader.blocks.items block at in
    inr (record {
      said = said_by reader;
      says = subst (λ ss. Says said_nothing ss (said_by reader)) (sym (append-nil reading.done) ∙ reading.split)
          reading.says;
      checked = checked;
      innermost = block;
      outer = reverse last.front;
      open_blocks = ap reverse last.is ∙ blocks_push last.front block;
      here = refl;
      no_end = refl;
    })

-- none is
pub all_read : (all : List Statement) (reader : Reader) → IsReading all (said_by reader) []
    → first_fault reader.programs.config ≡ None
    → slice_get reader.blocks.items (length reader.blocks.items - 1) ≡ None → IsRead all reader.programs
unfolding said_by
all_read all reader reading checked at = (
  said_by reader,
  (
    reading,
    refl,
    refl,
    checked,
    ap reverse (none_open reader.blocks.items at),
    sym (reverse-reverse (programs_of reader.programs)),
  ),
)

-- nothing but settings was read
pub fresh_read : (all : List Statement) (reader : Reader) (settings : Settings) → said_by reader ≡ said_first settings
    → first_fault reader.programs.config ≡ None → IsReading all (said_first settings) [] → IsRead all reader.programs
unfolding said_by
fresh_read all reader settings same checked reading = (
  said_by reader,
  (
    subst (λ (s : Said). IsReading all s []) (sym same) reading,
    refl,
    refl,
    checked,
    ap (λ (s : Said). s.blocks) same,
    sym (reverse-reverse (programs_of reader.programs)),
  ),
)
