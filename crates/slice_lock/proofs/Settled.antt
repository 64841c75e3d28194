-- What can be said of settled ports where the state isn't seen.
use Rattle.std.proofs.Common.{◌≡◌, ℕ, ◌∙◌, List, map, subst, sym}
use Rattle.address_map.specs.declared.address.WordAddr.{WordAddr}
use Rattle.address_map.specs.declared.config.Config.{Config}
use Rattle.receipt_ledger.specs.Port.{PortView}
use Rattle.receipt_ledger.specs.Settled.{IsSettled}
use Rattle.address_map.specs.Place.{counters_of, init_of}
use Rattle.slice_log.specs.Log.{IsLegal, initially, value}
use Rattle.slice_core_spec.specs.View.{View}
use Rattle.slice_lock.specs.Settled.{AreSettled}

pub settled : (c : Config) (number : ℕ) (v : View) (ports : List PortView) (values : List ℕ)
    → v.init ≡ init_of c number → IsSettled c number v ports values → AreSettled c number ports values
settled c number v ports values init is = record {
  handed = is.handed ∙ sym is.accepted;
  log = v.log;
  history = is.history;
  legal = subst (λ pairs. IsLegal (initially pairs) v.log) init is.legal;
  ordered = is.ordered;
  performed =
      subst (λ pairs. values ≡ map (λ (word : WordAddr). value (initially pairs word.0) v.log word.0)
      (counters_of c number))
      init is.state;
  values_are = is.named_are;
}
