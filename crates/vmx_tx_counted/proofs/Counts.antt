-- The changes of the counting word, one for each kind of step, and what a load of it finds.
use Rattle.std.proofs.Common.{◌≡◌, ℕ, suc, ◌+◌, ◌<◌, List, [], ◌∷◌, ◌++◌, length, get_or, set, true, false, refl, ap, ◌∙◌, arith}
use mathlib.Core.Option as maybe
use Rattle.vmx_ends.specs.declared.made.TxMade.{TxMade}
use Rattle.vmx_tx_ring.specs.declared.known.TxBuffer.{TxBuffer}
use Rattle.vmx_tx_ring.specs.declared.known.TxDriverAt.{TxDriverAt}
use Rattle.vmx_tx_ring.specs.declared.known.TxDeviceAt.{TxDeviceAt}
use Rattle.vmx_tx_ring.specs.Rule.{Ring}
use Rattle.vmx_tx_ring.proofs.ThreeRows.{set_rest, get_rest}
use Rattle.vmx_tx_ring.proofs.Rings.{core_done, tells_done, completed_core}
use Rattle.vmx_tx_counted.specs.Counting.{Counted}

module _ (m : TxMade) (d : TxDriverAt) (e : TxDeviceAt) (ws : List ℕ) (hs : List (maybe.Option TxBuffer)) (r : Ring Counted m d e ws hs) where
  abbrev n : ℕ
  n = m.size

  -- the device stores the next number
  pub counts : e.completed < length e.taken → e.ahead ≡ [] → e.emptying ≡ false → Ring Counted m d (record e { completed = suc e.completed; closing = false }) (set ws (n + (n + 0)) (suc e.completed)) hs
  counts less none_ahead idle = let w = r.words_are in let st = w.stand in let k : ℕ = suc e.completed in
      tells_done Counted m d e ws hs k d.checking false (k ∷ []) (set ws (n + (n + 0)) k) r
      (ap (λ l. set l (n + (n + 0)) k) w.are ∙ set_rest n w.seconds w.firsts w.others st.as_many_seconds st.as_many_firsts 0 k ∙ ap (λ l. w.seconds ++ (w.firsts ++ set l 0 k)) w.told.is)
      (record { is = refl; at_once = refl })
      (completed_core Counted m d e ws hs r.core less none_ahead idle)

  -- the driver's load finds one more
  pub checks : d.reaped < e.completed → Ring Counted m (record d { checking = true }) e ws hs
  checks less = let c = r.core in tells_done Counted m d e ws hs e.completed true e.closing r.words_are.others ws r r.words_are.are r.words_are.told (core_done Counted m d e ws hs d.reaped e.completed true e.closing c (omega arith) c.completed_first c.one_ahead c.begun c.closing_taken)

  -- a load of the word finds the number
  pub count_shows : get_or ws (n + (n + 0)) 0 ≡ e.completed
  count_shows = let w = r.words_are in let st = w.stand in ap (λ l. get_or l (n + (n + 0)) 0) w.are ∙ get_rest n w.seconds w.firsts w.others st.as_many_seconds st.as_many_firsts 0 ∙ ap (λ l. get_or l 0 0) w.told.is
