-- The next frame is posted, over a list of ends, or its ring has not the room.
use Rattle.std.proofs.Common.{◌≡◌, ℕ, zero, suc, ◌+◌, ◌<◌, ◌≤◌, List, [], ◌∷◌, length, map, get_or, set, refl, ap, sym, ◌∙◌, subst, Some, false}
use Rattle.std.specs.List.{slice_get}
use Rattle.std.proofs.lemmas.List.{map-set, length-map}
use Rattle.vmx_io.specs.Views.{viewed}
use Rattle.vmx_pcap.specs.declared.records.Stamped.{Stamped}
use Rattle.vmx_ends.specs.declared.meta.TxMark.{TxMark}
use Rattle.vmx_ends.specs.declared.answers.Post.TheVariants.{Done as Posted_, Full}
use Rattle.vmx_ends.specs.Frames.{sent_as}
use Rattle.vmx_ends.specs.Transmit.{TxDriverView, need}
use Rattle.vmx_ends.specs.TransmitClauses.{Posts, GrowsPosted}
use Rattle.vmx_regs.specs.declared.known.Masks.{Masks}
use Rattle.vmx_regs.specs.declared.known.Deed.TheVariants.{Store}
use Rattle.vmx_regs.specs.declared.ends.bells.Bell.TheVariants.{Tx}
use Rattle.vmx_regs.specs.Bells.{bell_number}
use Rattle.vmx_regs.specs.Masks.{bell_word, hinting}
use Rattle.vmx_model.specs.declared.guest.GuestPlan.{GuestPlan}
use Rattle.vmx_model.specs.Wire.{tx_queue, posted_form}
use Rattle.vmx_model.specs.QueueSteps.{sent_before}
use Rattle.vmx_driver_steps.specs.declared.progress.Progress.{Progress}
use Rattle.vmx_driver_steps.specs.Progress.{IsUnderway, passes}
use Rattle.vmx_driver_steps.specs.Hints.{index_of}
use Rattle.vmx_driver_steps.specs.Queues.{PostsThere, FullThere}

set_same : {X : Type 0} (xs : List X) (q : ℕ) (d : X) → d ≡ get_or xs q d → set xs q d ≡ xs
set_same [] q d at = refl
set_same (x ∷ xs) zero d at = ap (λ (y : _). y ∷ xs) at
set_same (x ∷ xs) (suc q) d at = ap (λ (ys : List _). x ∷ ys) (set_same xs q d at)

module _ {E : Type 0} (view : E → TxDriverView) (p : GuestPlan) (s : Progress) (tx : List E) (e e' : E) (q : ℕ) (frame : List ℕ) (mark : TxMark) (queue_is : q ≡ tx_queue frame p.setup.tx_queues) (lt : q < length tx) (at : e ≡ get_or tx q e) where
  there_at : view e ≡ get_or (map view tx) (tx_queue frame p.setup.tx_queues) (view e)
  there_at = subst (λ (k : ℕ). view e ≡ get_or (map view tx) k (view e)) queue_is (sym (viewed view tx q e lt at))

  pub posts_there : (n : ℕ) (s' : Progress) (m m' : Masks) (place index : ℕ) → ((r : Stamped) → slice_get p.capture.records s.next ≡ Some r → frame ≡ r.frame) → sent_as frame mark ≡ posted_form p frame → Posts (view e) frame mark (Posted_ place) (view e') → GrowsPosted (view e) (view e')
      → m' ≡ hinting m (bell_word n (bell_number (Tx q))) Store index index → index ≡ index_of (place + 1)
      → s' ≡ record s { next = s'.next } → s.next + 1 ≤ s'.next → IsUnderway p s' → passes p s' ≡ false → ((a k : ℕ) → sent_before p a k s'.next ≡ sent_before p a k (s.next + 1))
      → PostsThere p n s m (map view tx) s' m' (map view (set tx q e'))
  posts_there n s' m m' place index there marked told grows bell index_is kept up under settled frames =
      let i_is : index ≡ index_of (length (view e).sent + 1) = index_is ∙ ap (λ (k : ℕ). index_of (k + 1)) told.0 in record {
        frame = frame;
        end = view e;
        end' = view e';
        place = place;
        mark = mark;
        there = λ r h. (there r h, marked ∙ ap (posted_form p) (there r h));
        at = there_at;
        below = subst (λ (k : ℕ). k < length (map view tx)) queue_is (rw length-map lt);
        told = told;
        grows = grows;
        is = map-set view tx q e' ∙ ap (λ (k : ℕ). set (map view tx) k (view e')) queue_is;
        bell = bell ∙ (λ i. hinting m (bell_word n (bell_number (Tx (queue_is i)))) Store (i_is i) (i_is i));
        kept = kept;
        up = up;
        under = under;
        settled = settled;
        frames = frames;
      }

  pub full_there : (in_use needed : ℕ) (r : Stamped) → slice_get p.capture.records s.next ≡ Some r → frame ≡ r.frame → Posts (view e) frame mark (Full in_use needed) (view e') → FullThere p s (map view tx)
  full_there in_use needed r there frame_is told = record {
    frame = r;
    there = there;
    end = view e;
    at = subst (λ (f : List ℕ). view e ≡ get_or (map view tx) (tx_queue f p.setup.tx_queues) (view e)) frame_is there_at;
    full = subst (λ (x : ℕ × ℕ). (view e).made.size < x.0 + x.1) (λ i. (told.0 i, (told.1 ∙ ap (λ (f : List ℕ). need (view e).made (length f)) frame_is) i)) told.2;
  }

  pub none_there : (in_use needed : ℕ) → Posts (view e) frame mark (Full in_use needed) (view e') → map view (set tx q e') ≡ map view tx
  none_there in_use needed told = map-set view tx q e' ∙ ap (λ (d : TxDriverView). set (map view tx) q d) told.3 ∙ set_same (map view tx) q (view e) (sym (viewed view tx q e lt at))
