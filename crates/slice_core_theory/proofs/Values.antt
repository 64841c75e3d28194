-- How a line's block and the log go on together: an access that replies from the block leaves a block with what the log
-- gives then.
use Rattle.std.proofs.Common.{◌≡◌, ◌≢◌, ℕ, ◌+◌, ◌<◌, List, [], ◌∷◌, ◌++◌, inl, inr, sym, ap, ◌∙◌, subst, arith}
use Rattle.std.proofs.lemmas.Bool.{cases_eq}
use Rattle.std.proofs.lemmas.List.{get_or-set_other, get_or-set_same, length-set, set-get_or}
use Rattle.std.specs.Prelude.{slice_index}
use Rattle.address_map.specs.declared.block.Block.{Block}
use Rattle.address_map.specs.declared.request.Op.TheVariants as ops
use Rattle.slice_core_cache.specs.Copy.{performed_on, word_at}
use Rattle.slice_core_theory.specs.Blocks.{HasValues}
use Rattle.slice_log.proofs.Pushes.{IsLegal-push}
use Rattle.slice_log.proofs.Values.{value-perform, value-perform_other}
use Rattle.slice_log.specs.Log.{IsLegal, value}
use Rattle.slice_log.specs.Op.{reply_of, value_of}
use Rattle.slice_log.specs.declared.entry.Entry.{Entry}

-- A load leaves the block as it is.
pub load_leaves : (block : Block) (offset : ℕ) → performed_on block offset ops.Load ≡ block
load_leaves block offset = ap (λ words. record { words = words }) (set-get_or block.words offset 0)

module _ (init : ℕ → ℕ) (log : List Entry) (first : ℕ) (block : Block) (offset : ℕ) (entry : Entry)
    (values : HasValues init log first block) (inside : offset < 8) (here : entry.word.0 ≡ first + offset)
    (replied : entry.reply ≡ reply_of entry.op (word_at block offset)) where
  -- It replied what its word's value gives.
  lawful : entry.reply ≡ reply_of entry.op (value (init (first + offset)) log (first + offset))
  lawful = replied ∙ ap (reply_of entry.op) (values.words offset inside)

  -- The block after the access has what the log gives.
  pub performed_values : HasValues init (log ++ entry ∷ []) first (performed_on block offset entry.op)
  performed_values = record {
    size = length-set block.words offset (value_of entry.op (word_at block offset)) ∙ values.size;
    words = λ i below. elim (cases_eq i offset) [
      | inl same ↦
          subst (λ j. slice_index (performed_on block offset entry.op).words j
          ≡ value (init (first + j)) (log ++ entry ∷ []) (first + j)) (sym same)
          (get_or-set_same block.words offset (value_of entry.op (word_at block offset)) 0
          (subst (λ n. offset < n) (sym values.size) inside)
          ∙ ap (value_of entry.op) (values.words offset inside)
          ∙ sym (value-perform (init (first + offset)) log entry (first + offset) here lawful))
      | inr apart ↦
          get_or-set_other block.words offset i (value_of entry.op (word_at block offset)) 0 apart
          ∙ values.words i below
          ∙ sym (value-perform_other (init (first + i)) log entry (first + i)
          (λ named. apart (omega (arith, named, here))))
    ];
  }

  -- And the log is still legal.
  pub performed_legal : IsLegal init log → IsLegal init (log ++ entry ∷ [])
  performed_legal legal =
      IsLegal-push init log entry legal
      (lawful ∙ ap (λ w. reply_of entry.op (value (init w) log w)) (sym here))

-- An access of another line leaves what the log gives for this one.
pub values_elsewhere : (init : ℕ → ℕ) (log : List Entry) (first : ℕ) (block : Block) (entry : Entry)
    → ((i : ℕ) → i < 8 → entry.word.0 ≢ first + i) → HasValues init log first block
    → HasValues init (log ++ entry ∷ []) first block
values_elsewhere init log first block entry apart values = record {
  size = values.size;
  words = λ i below. values.words i below
      ∙ sym (value-perform_other (init (first + i)) log entry (first + i) (apart i below));
}
