-- A record with the lists of a world, beside one whose statistics are counts and whose links were never full: what these lists say of the order of a run holds of both.
use Rattle.std.proofs.Common.{◌≡◌, ℕ, zero, suc, ◌+◌, List, [], ◌∷◌, map, refl, ap, ap₂, ◌∙◌, subst, arith, Some}
use Rattle.std.specs.List.{slice_get}
use Rattle.vmx_ends.specs.LinkView.{LinkView}
use Rattle.vmx_model.specs.declared.plan.Plan.{Plan}
use Rattle.vmx_model.specs.Views.{GuestView, RecordView}
use Rattle.vmx_model.specs.Record.{HasLists, wire_of}
use Rattle.vmx_model.specs.Stats.{tx_counts, rx_counts}
use Rattle.vmx_model.specs.Serial.{Wire, World, serial_run}
use Rattle.vmx_model.specs.Left.{NothingIsLeft, RunsInOrder}
use Rattle.vmx_model.proofs.Ends.{in_order}
use Rattle.vmx_model.proofs.Left.{nothing_left}
use Rattle.vmx_replay_worlds.proofs.Lists.{map_map}
use Rattle.vmx_replay_gather.proofs.Lists.{HasTheLists}

-- a link that was never full
abbrev pub calm : LinkView → LinkView
calm l = record l { full = [] }

-- a guest with counted statistics, at a port
abbrev pub counted_at : List LinkView → ℕ → GuestView → GuestView
counted_at links port v = record v { tx_stats = tx_counts v.tx v.entries; rx_stats = rx_counts links port v.entries }

abbrev pub counted_from : List LinkView → ℕ → List GuestView → List GuestView
counted_from links port [] = []
counted_from links port (v ∷ vs) = counted_at links port v ∷ counted_from links (suc port) vs

abbrev pub counted : RecordView → RecordView
counted r = let links = map calm r.links in record { guests = counted_from links 0 r.guests; links = links }

-- what does not ask for statistics is the same
same_in : {A : Type 0} (f : GuestView → A) (links : List LinkView) → ((port : ℕ) (v : GuestView) → f (counted_at links port v) ≡ f v) → (port : ℕ) (vs : List GuestView) → map f (counted_from links port vs) ≡ map f vs
same_in f links same port [] = refl
same_in f links same port (v ∷ vs) = ap₂ (λ x xs. x ∷ xs) (same port v) (same_in f links same (suc port) vs)

counts_at : (links : List LinkView) (port g : ℕ) (vs : List GuestView) (v : GuestView) → slice_get (counted_from links port vs) g ≡ Some v → (v.tx_stats ≡ tx_counts v.tx v.entries) × (v.rx_stats ≡ rx_counts links (port + g) v.entries)
counts_at links port g [] v e = absurd (cc e)
counts_at links port zero (x ∷ vs) v e =
    let same : counted_at links port x ≡ v = cc e in let z : port ≡ port + 0 = omega arith in
    subst (λ (y : GuestView). (y.tx_stats ≡ tx_counts y.tx y.entries) × (y.rx_stats ≡ rx_counts links (port + 0) y.entries)) same (refl, ap (λ (n : ℕ). rx_counts links n x.entries) z)
counts_at links port (suc g) (x ∷ vs) v e =
    let next : suc port + g ≡ port + suc g = omega arith in
    subst (λ (n : ℕ). (v.tx_stats ≡ tx_counts v.tx v.entries) × (v.rx_stats ≡ rx_counts links n v.entries)) next (counts_at links (suc port) g vs v e)

calm_full : (ls : List LinkView) (ws : List Wire) → map wire_of ls ≡ ws → map (λ (l : LinkView). l.full) (map calm ls) ≡ map (λ (l : Wire). []) ws
calm_full [] [] e = refl
calm_full [] (w ∷ ws) e = absurd (cc e)
calm_full (l ∷ ls) [] e = absurd (cc e)
calm_full (l ∷ ls) (w ∷ ws) e = let rest : map wire_of ls ≡ ws = cc e in ap (λ xs. [] ∷ xs) (calm_full ls ws rest)

module _ (r : RecordView) (w : World) (h : HasTheLists r w) where
  abbrev links : List LinkView
  links = map calm r.links

  pub counted_has : HasLists (counted r) w
  counted_has = record {
    entries = same_in _ links (λ port v. refl) 0 r.guests ∙ h.entries;
    setups = same_in _ links (λ port v. refl) 0 r.guests ∙ h.setups;
    received = same_in _ links (λ port v. refl) 0 r.guests ∙ h.received;
    tx = same_in _ links (λ port v. refl) 0 r.guests ∙ h.tx;
    rx = same_in _ links (λ port v. refl) 0 r.guests ∙ h.rx;
    links = map_map wire_of calm r.links ∙ h.links;
    tx_stats = λ g v at. (counts_at links 0 g r.guests v at).0;
    rx_stats = λ g v at. (let z : 0 + g ≡ g = omega arith in (counts_at links 0 g r.guests v at).1 ∙ ap (λ (n : ℕ). rx_counts links n v.entries) z);
    never_full = calm_full r.links w.wires h.links;
  }

get_counted : (links : List LinkView) (port g : ℕ) (vs : List GuestView) (v : GuestView) → slice_get vs g ≡ Some v → slice_get (counted_from links port vs) g ≡ Some (counted_at links (port + g) v)
get_counted links port g [] v e = absurd (cc e)
get_counted links port zero (x ∷ vs) v e = let same : x ≡ v = cc e in let z : port ≡ port + 0 = omega arith in ap₂ (λ (n : ℕ) (y : GuestView). Some (counted_at links n y)) z same
get_counted links port (suc g) (x ∷ vs) v e = let next : suc port + g ≡ port + suc g = omega arith in get_counted links (suc port) g vs v e ∙ ap (λ (n : ℕ). Some (counted_at links n v)) next

module _ (plan : Plan) (r : RecordView) (h : HasTheLists r (serial_run plan)) where
  abbrev there_ : HasLists (counted r) (serial_run plan)
  there_ = counted_has r (serial_run plan) h

  -- the guest of a number in the record beside it
  pub beside_it : (g : ℕ) (v : GuestView) → slice_get r.guests g ≡ Some v → (x : GuestView) × (slice_get (counted r).guests g ≡ Some x) × (x.entries ≡ v.entries)
  beside_it g v at = (counted_at (map calm r.links) (0 + g) v, get_counted (map calm r.links) 0 g r.guests v at, refl)

  pub runs_so : RunsInOrder plan (counted r)
  runs_so = in_order plan (counted r) there_

  pub left_so : NothingIsLeft (counted r)
  left_so = nothing_left plan (counted r) there_
