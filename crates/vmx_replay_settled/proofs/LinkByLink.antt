-- Notes over all links to a device, from one port after the other.
use Rattle.std.proofs.Common.{◌≡◌, ◌≢◌, ℕ, suc, ◌+◌, Bool, true, false, List, length, set, refl, sym, ap, ◌∙◌, subst, arith, nat_eq, Some, inl, inr, ◌⊎◌}
use Rattle.std.specs.List.{slice_get}
use Rattle.std.proofs.lemmas.List.{length-set}
use Rattle.std.proofs.lemmas.Bool.Decides.{nat_tests}
use Rattle.vmx_link.specs.Views.{LinkOutView, LinkInView}
use Rattle.vmx_device_looks.specs.Ports.{other}
use Rattle.vmx_device_laws.specs.Views.{DeviceView}
use Rattle.vmx_device_laws.proofs.Pairing.{get_set_other}
use Rattle.vmx_replay_guests.specs.Passing.{LinkAt, LinkPassed}
use Rattle.vmx_replay_guests.proofs.Ends.{set_there, one_there}
use Rattle.vmx_replay_settled.specs.Linked.{IsLinkOn, LinkPassedOn, HasLinksIn, PassedIfOther, LinksPassedFrom}
use Rattle.vmx_replay_settled.proofs.Link.{apart}

pub same_or : (m n : ℕ) → (m ≡ n) ⊎ (m ≢ n)
same_or m n = step (nat_eq m n) refl
  where
    step : (b : Bool) → nat_eq m n ≡ b → (m ≡ n) ⊎ (m ≢ n)
    step true e = inl (grind (arith, nat_tests, e))
    step false e = inr (λ h. absurd (grind (arith, nat_tests, e, h)))

-- ------------------------------------------------------------ the link itself, after its notes

module _ (s r s' r' : DeviceView) (p : LinkPassed s r s' r') where
  out_key : p.out'.key ≡ p.link.out.key
  out_key = ap (λ (o : LinkOutView). o.key) p.passes.sender

  in_key : p.input'.key ≡ p.link.input.key
  in_key = ap (λ (i : LinkInView). i.key) p.passes.receiver

  pub sender_port_stays : s'.port ≡ s.port
  sender_port_stays = ap (λ (d : DeviceView). d.port) p.sender

  pub receiver_port_stays : r'.port ≡ r.port
  receiver_port_stays = ap (λ (d : DeviceView). d.port) p.receiver

  pub link_still : LinkAt s' r'
  link_still = subst (λ (x : DeviceView × DeviceView). LinkAt x.0 x.1) (λ i. (sym p.sender i, sym p.receiver i)) (record {
    j = p.link.j;
    to_is = p.link.to_is;
    out = p.out';
    out_at = set_there s.out p.link.j p.link.out p.out' p.link.out_at;
    k = p.link.k;
    k_below = p.link.k_below;
    from_is = p.link.from_is;
    input = p.input';
    input_at = set_there r.input p.link.k p.link.input p.input' p.link.input_at;
    key = out_key ∙ p.link.key ∙ sym in_key;
  })

  -- and the link from another device to the same receiver
  pub link_beside : (t : DeviceView) → (t.port ≢ s.port) → LinkAt t r → LinkAt t r'
  link_beside t ne l =
      let away : l.k ≢ p.link.k = λ e. ne (l.from_is ∙ ap (other r.port) e ∙ sym p.link.from_is) in
      subst (LinkAt t) (sym p.receiver) (record {
        j = l.j;
        to_is = l.to_is;
        out = l.out;
        out_at = l.out_at;
        k = l.k;
        k_below = l.k_below;
        from_is = l.from_is;
        input = l.input;
        input_at = get_set_other r.input p.link.k p.input' l.k away ∙ l.input_at;
        key = l.key;
      })

-- ------------------------------------------------------------ all links to a port

module _ (f to : ℕ) (ds ds' : List DeviceView) (p : LinkPassedOn f to ds ds') where
  pub long_stays : length ds' ≡ length ds
  long_stays = ap length p.is ∙ length-set (set ds f p.sender') to p.receiver' ∙ length-set ds f p.sender'

  to_there : slice_get (set ds f p.sender') to ≡ Some p.on.receiver
  to_there = get_set_other ds f p.sender' to (λ e. apart f to ds p.on (sym e)) ∙ p.on.receiver_at

  pub receiver_there : slice_get ds' to ≡ Some p.receiver'
  receiver_there = ap (λ (xs : List DeviceView). slice_get xs to) p.is ∙ set_there (set ds f p.sender') to p.on.receiver p.receiver' to_there

  receiver_named : p.receiver'.port ≡ to
  receiver_named = receiver_port_stays p.on.sender p.on.receiver p.sender' p.receiver' p.passed ∙ p.on.receiver_port

  own_still : IsLinkOn f to ds'
  own_still = record {
    sender = p.sender';
    sender_at = ap (λ (xs : List DeviceView). slice_get xs f) p.is ∙ get_set_other (set ds f p.sender') to p.receiver' f (apart f to ds p.on) ∙ set_there ds f p.on.sender p.sender' p.on.sender_at;
    sender_port = sender_port_stays p.on.sender p.on.receiver p.sender' p.receiver' p.passed ∙ p.on.sender_port;
    receiver = p.receiver';
    receiver_at = receiver_there;
    receiver_port = receiver_named;
    link = link_still p.on.sender p.on.receiver p.sender' p.receiver' p.passed;
  }

  beside_still : (g : ℕ) → g ≢ f → IsLinkOn g to ds → IsLinkOn g to ds'
  beside_still g ne k =
      let same = one_there ds to k.receiver p.on.receiver k.receiver_at p.on.receiver_at in
      let link : LinkAt k.sender p.on.receiver = subst (LinkAt k.sender) same k.link in record {
        sender = k.sender;
        sender_at = ap (λ (xs : List DeviceView). slice_get xs g) p.is ∙ get_set_other (set ds f p.sender') to p.receiver' g (apart g to ds k) ∙ get_set_other ds f p.sender' g ne ∙ k.sender_at;
        sender_port = k.sender_port;
        receiver = p.receiver';
        receiver_at = receiver_there;
        receiver_port = receiver_named;
        link = link_beside p.on.sender p.on.receiver p.sender' p.receiver' p.passed k.sender (λ e. ne (sym k.sender_port ∙ e ∙ p.on.sender_port)) link;
      }

  pub links_still : HasLinksIn to ds → HasLinksIn to ds'
  links_still h g lt ne = elim (same_or g f) [
    | inl e ↦ subst (λ (n : ℕ). IsLinkOn n to ds') (sym e) own_still
    | inr away ↦ beside_still g away (h g (omega (arith, lt, long_stays)) ne)
  ]

module _ (f to : ℕ) (ds ds' : List DeviceView) (p : PassedIfOther f to ds ds') where
  pub long_after : length ds' ≡ length ds
  long_after = elim (same_or f to) [
    | inl e ↦ ap length (p.own e)
    | inr ne ↦ long_stays f to ds ds' (p.another ne)
  ]

  pub links_after : HasLinksIn to ds → HasLinksIn to ds'
  links_after h = elim (same_or f to) [
    | inl e ↦ subst (HasLinksIn to) (sym (p.own e)) h
    | inr ne ↦ links_still f to ds ds' (p.another ne) h
  ]

pub one_port_more : (n to : ℕ) (ds mid ds' : List DeviceView) → LinksPassedFrom n to ds mid → PassedIfOther n to mid ds' → LinksPassedFrom (n + 1) to ds ds'
one_port_more n to ds mid ds' before p = let e : suc n ≡ n + 1 = omega arith in subst (λ (k : ℕ). LinksPassedFrom k to ds ds') e (mid, before, p)
