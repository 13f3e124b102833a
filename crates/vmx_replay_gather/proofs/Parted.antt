-- Guests taken apart one after the other.
use Rattle.std.proofs.Common.{◌≡◌, ℕ, suc, List, [], ◌∷◌, ◌++◌, map, refl, ap, sym, ◌∙◌, subst, append_assoc, append-nil, true, None}
use Rattle.std.specs.List.{AllByRecursion}
use Rattle.std.proofs.lemmas.List.{map-append}
use Rattle.vmx_link.specs.declared.ends.LinkOut.{LinkOut}
use Rattle.vmx_link.specs.declared.ends.LinkIn.{LinkIn}
use Rattle.vmx_link.specs.Views.{LinkOutView, LinkInView}
use Rattle.vmx_link.specs.Ends.{out_view}
use Rattle.vmx_model.specs.declared.plan.Plan.{Plan}
use Rattle.vmx_model.specs.Views as model
use Rattle.vmx_model.specs.Bags.{EachQueue}
use Rattle.vmx_driver_steps.specs.Progress.{is_over}
use Rattle.vmx_replay_worlds.specs.Guests.{GuestView}
use Rattle.vmx_replay_worlds.specs.Worlds.{ins_of}
use Rattle.vmx_replay_calls.specs.Resting.{IsGuestAt, Rests}
use Rattle.vmx_replay_start.specs.Linking.{outs_view, ins_view}
use Rattle.vmx_replay_gather.specs.Records.{left_by, outs_in_order}
use Rattle.vmx_replay_gather.specs.Ending.{HaveEnded}

-- ------------------------------------------------------------ what a guest that has ended may do

-- it may be taken apart
pub record MayPart (r : GuestView) : Type 0 where
  pub over : is_over r.driver.at ≡ true
  pub none : r.driver.calls.asked ≡ None
  pub key : r.driver.key ≡ r.device.key

pub may_part : (plan : Plan) (rs : List GuestView) → HaveEnded plan rs → AllByRecursion MayPart rs
may_part plan rs e = from 0 rs e.rests.guests e.rests.rest e.over
  where
    from : (n : ℕ) (xs : List GuestView) → EachQueue (IsGuestAt plan) n xs → AllByRecursion Rests xs → AllByRecursion (λ (r : GuestView). is_over r.driver.at ≡ true) xs → AllByRecursion MayPart xs
    from n [] at rests over = tt
    from n (r ∷ xs) at rests over = (record { over = over.0; none = rests.0.caught_up.none; key = sym at.0.key }, from (suc n) xs at.1 rests.1 over.1)

-- ------------------------------------------------------------ all of them

-- what is left of some guests, and the guests that are still there, come from all
pub record PartedSo (rs left : List GuestView) (records : List model.GuestView) (outs : List LinkOutView) (ins : List (List LinkInView)) : Type 0 where
  pub may : AllByRecursion MayPart left
  pub guests : records ++ map left_by left ≡ map left_by rs
  pub out : outs ++ outs_in_order left ≡ outs_in_order rs
  pub input : ins ++ ins_of left ≡ ins_of rs

module _ {G : Type 0} (view : G → GuestView) (rs : List GuestView) where
  pub parted_none : (gs : List G) (records : List model.GuestView) (outs : List LinkOut) (ins : List (List LinkIn)) → map view gs ≡ rs → AllByRecursion MayPart rs → records ≡ [] → outs ≡ [] → ins ≡ []
      → PartedSo rs (map view gs) records (outs_view outs) (map ins_view ins)
  parted_none gs records outs ins same may a b c =
      let z : PartedSo rs rs [] (outs_view []) (map ins_view []) = record { may = may; guests = refl; out = refl; input = refl } in
      subst (λ (x : List GuestView × List model.GuestView × List LinkOut × List (List LinkIn)). PartedSo rs x.0 x.1 (outs_view x.2) (map ins_view x.3)) (λ i. (sym same i, sym a i, sym b i, sym c i)) z

  module _ (gs gs' : List G) (x : G) (records : List model.GuestView) (outs : List LinkOut) (ins : List (List LinkIn)) (h : PartedSo rs (map view gs) records (outs_view outs) (map ins_view ins)) (e : gs ≡ x ∷ gs') where
    now : PartedSo rs (view x ∷ map view gs') records (outs_view outs) (map ins_view ins)
    now = subst (λ (l : List G). PartedSo rs (map view l) records (outs_view outs) (map ins_view ins)) e h

    pub may_next : MayPart (view x)
    may_next = now.may.0

    pub parted_next : (v : model.GuestView) (os : List LinkOut) (is : List LinkIn) (records' : List model.GuestView) (outs' : List LinkOut) (ins' : List (List LinkIn)) → v ≡ left_by (view x) → outs_view os ≡ (view x).device.out → ins_view is ≡ (view x).device.input
        → records' ≡ records ++ v ∷ [] → outs' ≡ outs ++ os → ins' ≡ ins ++ is ∷ [] → PartedSo rs (map view gs') records' (outs_view outs') (map ins_view ins')
    parted_next v os is records' outs' ins' is_v is_os is_is a b c = record {
      may = now.may.1;
      guests = ap (λ (l : List model.GuestView). l ++ map left_by (map view gs')) (a ∙ ap (λ (y : model.GuestView). records ++ y ∷ []) is_v) ∙ append_assoc records (left_by (view x) ∷ []) (map left_by (map view gs')) ∙ now.guests;
      out = ap (λ (l : List LinkOutView). l ++ outs_in_order (map view gs')) (ap outs_view b ∙ map-append out_view outs os ∙ ap (λ (l : List LinkOutView). outs_view outs ++ l) is_os) ∙ append_assoc (outs_view outs) (view x).device.out (outs_in_order (map view gs')) ∙ now.out;
      input = ap (λ (l : List (List LinkInView)). l ++ ins_of (map view gs')) (ap (map ins_view) c ∙ map-append ins_view ins (is ∷ []) ∙ ap (λ (l : List LinkInView). map ins_view ins ++ l ∷ []) is_is) ∙ append_assoc (map ins_view ins) ((view x).device.input ∷ []) (ins_of (map view gs')) ∙ now.input;
    }

  module _ (gs : List G) (records : List model.GuestView) (outs : List LinkOut) (ins : List (List LinkIn)) (h : PartedSo rs (map view gs) records (outs_view outs) (map ins_view ins)) (e : gs ≡ []) where
    last : PartedSo rs [] records (outs_view outs) (map ins_view ins)
    last = subst (λ (l : List G). PartedSo rs (map view l) records (outs_view outs) (map ins_view ins)) e h

    pub all_guests : records ≡ map left_by rs
    all_guests = sym (append-nil records) ∙ last.guests

    pub all_out : outs_view outs ≡ outs_in_order rs
    all_out = sym (append-nil (outs_view outs)) ∙ last.out

    pub all_input : map ins_view ins ≡ ins_of rs
    all_input = sym (append-nil (map ins_view ins)) ∙ last.input
