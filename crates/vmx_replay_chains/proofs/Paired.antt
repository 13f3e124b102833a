-- All guests stay paired over notes of links.
use Rattle.std.proofs.Common.{◌≡◌, ℕ, zero, suc, List, [], ◌∷◌, map, set, length, sym, ap, ◌∙◌, subst, Some, inl, inr}
use Rattle.std.specs.List.{AllByRecursion, slice_get}
use Rattle.vmx_model.specs.Bags.{Pairwise}
use Rattle.vmx_device_laws.specs.Views.{DeviceView}
use Rattle.vmx_device_laws.proofs.Pairing.{get_set_other}
use Rattle.vmx_driver_steps.specs.Driver.{DriverView}
use Rattle.vmx_replay_worlds.specs.Guests.{GuestView}
use Rattle.vmx_replay_settled.specs.Settled.{ArePaired}
use Rattle.vmx_replay_settled.specs.Linked.{LinkPassedOn, PassedIfOther, LinksPassedFrom}
use Rattle.vmx_replay_settled.proofs.Link.{apart}
use Rattle.vmx_replay_settled.proofs.LinkByLink.{same_or}
use Rattle.vmx_replay_chains.specs.Chains.{AllPaired, LinkOn, LinksOn, devices_of}
use Rattle.vmx_replay_chains.proofs.Told.{KeepsAllElse, all_same, then_else, paired_else}

-- ------------------------------------------------------------ lists, item by item

module _ {X : Type 0} (K : X → X → Type 0) (same : (x : X) → K x x) (chain : (x y z : X) → K x y → K y z → K x z) where
  each_same : (xs : List X) → Pairwise K xs xs
  each_same [] = tt
  each_same (x ∷ xs) = (same x, each_same xs)

  each_then : (xs ys zs : List X) → Pairwise K xs ys → Pairwise K ys zs → Pairwise K xs zs
  each_then [] [] [] p q = tt
  each_then [] [] (z ∷ zs) p q = absurd q
  each_then [] (y ∷ ys) zs p q = absurd p
  each_then (x ∷ xs) [] zs p q = absurd p
  each_then (x ∷ xs) (y ∷ ys) [] p q = absurd q
  each_then (x ∷ xs) (y ∷ ys) (z ∷ zs) p q = (chain x y z p.0 q.0, each_then xs ys zs p.1 q.1)

  each_set : (xs : List X) (i : ℕ) (x x' : X) → slice_get xs i ≡ Some x → K x x' → Pairwise K xs (set xs i x')
  each_set [] i x x' at k = absurd (cc at)
  each_set (y ∷ ys) zero x x' at k = let here : y ≡ x = cc at in (subst (λ (z : _). K z x') (sym here) k, each_same ys)
  each_set (y ∷ ys) (suc i) x x' at k = (same y, each_set ys i x x' at k)

-- what holds of each item of one list holds of those of another with one part the same and the other part kept
each_kept : {X A B : Type 0} (f : X → A) (g : X → B) (K : B → B → Type 0) (P : X → Type 0) → ((x x' : X) → f x' ≡ f x → K (g x) (g x') → P x → P x') → (xs xs' : List X) → map f xs' ≡ map f xs → Pairwise K (map g xs) (map g xs') → AllByRecursion P xs → AllByRecursion P xs'
each_kept f g K P step [] [] e p all = tt
each_kept f g K P step [] (x' ∷ xs') e p all = absurd p
each_kept f g K P step (x ∷ xs) [] e p all = absurd p
each_kept f g K P step (x ∷ xs) (x' ∷ xs') e p all =
    let here : f x' ≡ f x = cc e in let rest : map f xs' ≡ map f xs = cc e in
    (step x x' here p.0 all.0, each_kept f g K P step xs xs' rest p.1 all.1)

-- ------------------------------------------------------------ notes of links

alike : (ds : List DeviceView) → Pairwise KeepsAllElse ds ds
alike ds = each_same KeepsAllElse all_same then_else ds

alike_link : (from to : ℕ) (ds ds' : List DeviceView) → LinkPassedOn from to ds ds' → Pairwise KeepsAllElse ds ds'
alike_link from to ds ds' p =
    let s = p.passed.sender in let r = p.passed.receiver in
    let sender : KeepsAllElse p.on.sender p.sender' = record { key = ap (λ (x : DeviceView). x.key) s; machine = ap (λ (x : DeviceView). x.machine) s; calls = ap (λ (x : DeviceView). x.calls) s; entries = ap (λ (x : DeviceView). x.entries) s } in
    let receiver : KeepsAllElse p.on.receiver p.receiver' = record { key = ap (λ (x : DeviceView). x.key) r; machine = ap (λ (x : DeviceView). x.machine) r; calls = ap (λ (x : DeviceView). x.calls) r; entries = ap (λ (x : DeviceView). x.entries) r } in
    let there : slice_get (set ds from p.sender') to ≡ Some p.on.receiver = get_set_other ds from p.sender' to (λ e. apart from to ds p.on (sym e)) ∙ p.on.receiver_at in
    subst (Pairwise KeepsAllElse ds) (sym p.is)
    (each_then KeepsAllElse all_same then_else ds (set ds from p.sender') (set (set ds from p.sender') to p.receiver')
    (each_set KeepsAllElse all_same then_else ds from p.on.sender p.sender' p.on.sender_at sender)
    (each_set KeepsAllElse all_same then_else (set ds from p.sender') to p.on.receiver p.receiver' there receiver))

alike_if : (from to : ℕ) (ds ds' : List DeviceView) → PassedIfOther from to ds ds' → Pairwise KeepsAllElse ds ds'
alike_if from to ds ds' p = elim (same_or from to) [
  | inl e ↦ subst (Pairwise KeepsAllElse ds) (sym (p.own e)) (alike ds)
  | inr ne ↦ alike_link from to ds ds' (p.another ne)
]

alike_from : (n to : ℕ) (ds ds' : List DeviceView) → LinksPassedFrom n to ds ds' → Pairwise KeepsAllElse ds ds'
alike_from zero to ds ds' p = subst (Pairwise KeepsAllElse ds) (sym p) (alike ds)
alike_from (suc n) to ds ds' (mid, before, one) = each_then KeepsAllElse all_same then_else ds mid ds' (alike_from n to ds mid before) (alike_if n to mid ds' one)

paired_beside : (r r' : GuestView) → r'.driver ≡ r.driver → KeepsAllElse r.device r'.device → ArePaired r.driver r.device → ArePaired r'.driver r'.device
paired_beside r r' e k p = subst (λ (v : DriverView). ArePaired v r'.device) (sym e) (paired_else r.driver r.device r'.device k p)

module _ (to : ℕ) (rs rs' : List GuestView) where
  pub links_paired : LinksOn to rs rs' → AllPaired rs → AllPaired rs'
  links_paired l all = each_kept (λ (r : GuestView). r.driver) (λ (r : GuestView). r.device) KeepsAllElse (λ (r : GuestView). ArePaired r.driver r.device) paired_beside rs rs' l.drivers (alike_from (length (devices_of rs)) to (devices_of rs) (devices_of rs') l.devices) all

  pub link_paired : (from : ℕ) → LinkOn from to rs rs' → AllPaired rs → AllPaired rs'
  link_paired from l all = each_kept (λ (r : GuestView). r.driver) (λ (r : GuestView). r.device) KeepsAllElse (λ (r : GuestView). ArePaired r.driver r.device) paired_beside rs rs' l.drivers (alike_link from to (devices_of rs) (devices_of rs') l.devices) all
