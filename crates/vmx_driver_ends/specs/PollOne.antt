-- One look at a receive queue, with its doorbells or its interrupt.
use Rattle.std.proofs.Common.{◌≡◌, ℕ, ◌+◌, List, [], ◌∷◌, ◌++◌, length, refl, ap, sym, ◌∙◌, append-nil, inl, inr, true, false, arith}
use Rattle.vmx_ends.specs.declared.meta.RxMeta.{RxMeta}
use Rattle.vmx_ends.specs.Receive.{RxDriverView}
use Rattle.vmx_ends.specs.ReceiveClauses.{ReceivesFrame, FindsNone, GrowsReceived}
use Rattle.vmx_regs.specs.declared.known.Masks.{Masks}
use Rattle.vmx_regs.specs.declared.known.Deed.TheVariants.{Store}
use Rattle.vmx_regs.specs.declared.ends.bells.Bell.TheVariants.{Rx}
use Rattle.vmx_regs.specs.Bells.{bell_number}
use Rattle.vmx_regs.specs.Masks.{mask_word, bell_word, hinting, writing}
use Rattle.vmx_model.specs.declared.journal.Received.{Received}
use Rattle.vmx_driver_steps.specs.Hints.{index_of}
use Rattle.vmx_driver_steps.specs.Receiving.{UpNext, IsEmptied}
use Rattle.vmx_driver_ends.specs.Founds.{PollsSo}

-- a frame goes up and both doorbells are rung
pub polls_frame : (n first a q : ℕ) (d d' : RxDriverView) (received received' : List Received) (x : Received) (m mid m' : Masks) (index : ℕ) → UpNext a q d d' x → received' ≡ received ++ x ∷ [] → index ≡ index_of (x.place + 1)
    → mid ≡ hinting m (bell_word n (bell_number (Rx q 1))) Store index index → m' ≡ hinting mid (bell_word n (bell_number (Rx q 2))) Store index index → PollsSo n first a q d d' received received' m m' 1
polls_frame n first a q d d' received received' x m mid m' index up is index_is rung_first rung_second = record {
  one = x ∷ [];
  is = is;
  count = refl;
  polled = inl (
    x,
    refl,
    record {
      up = up;
      bells = rung_second ∙ (λ i. hinting ((rung_first ∙ (λ j. hinting m (bell_word n (bell_number (Rx q 1))) Store (now j) (now j))) i) (bell_word n (bell_number (Rx q 2))) Store (now i) (now i));
    },
  );
}
  where
    now : index ≡ index_of (length d.received + 1)
    now = index_is ∙ ap (λ (k : ℕ). index_of (k + 1)) up.place

-- there was none, and the queue's interrupt is unmasked
pub polls_nothing : (n first a q : ℕ) (d d' : RxDriverView) (received received' : List Received) (m m' : Masks) → IsEmptied d d' → received' ≡ received → m' ≡ writing m (mask_word (first + q)) false → PollsSo n first a q d d' received received' m m' 0
polls_nothing n first a q d d' received received' m m' none is unmasked = record {
  one = [];
  is = is ∙ sym (append-nil received);
  count = refl;
  polled = inr (refl, record { none = none; unmasked = unmasked });
}

-- a frame that was received goes up next
pub found_frame : (a q : ℕ) (d d' : RxDriverView) (into frame : List ℕ) (place count : ℕ) (meta : RxMeta) → frame ≡ into → d.made.full ≡ true → ReceivesFrame d into place meta count d' → GrowsReceived d d' → UpNext a q d d' (record { activation = a; queue = q; place = place; frame = frame; tci = meta.tci })
found_frame a q d d' into frame place count meta same full r grows = record {
  activation = refl;
  queue = refl;
  place = r.place_is;
  delivery = record { frame = into; meta = meta; passed = r.passed; chain = r.chain };
  frame = same;
  tci = refl;
  is = r.is;
  grows = grows.positions full;
}

-- or none was there
pub found_nothing : (d d' : RxDriverView) (word : ℕ) → FindsNone d word d' → IsEmptied d d'
found_nothing d d' word n = let told = ap (λ (x : RxDriverView). length x.heard) n.is in let got = ap (λ (x : RxDriverView). length x.received) n.is in let low = n.unheard in record {
  word = word;
  missed = n.missed;
  looked = ap (λ (x : RxDriverView). x.looks) n.is;
  is = n.is ∙ (λ i. record d { looks = sym (ap (λ (x : RxDriverView). x.looks) n.is) i });
  heard = omega (arith, told, got, low);
}
