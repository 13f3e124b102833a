-- The links of a device go on over its turns: keys and what was heard stay, packets are pushed and pulled behind those before.
use Rattle.std.proofs.Common.{◌≡◌, ℕ, suc, Bool, true, false, List, [], ◌∷◌, ◌++◌, refl, sym, ap, ◌∙◌, subst, append-nil, append_assoc, inl, inr, ◌⊎◌}
use mathlib.Core.List.{IsPrefix}
use Rattle.vmx_switch.specs.Ports.{Wiring}
use Rattle.vmx_ends.specs.declared.packet.Packet.{Packet}
use Rattle.vmx_ends.specs.declared.packet.Tag.{Tag}
use Rattle.vmx_ends.specs.Transmit.{TxDeviceView}
use Rattle.vmx_link.specs.Views.{LinkOutView, LinkInView}
use Rattle.vmx_model.specs.declared.journal.Entry.{Entry}
use Rattle.vmx_model.specs.declared.journal.Way.{Way}
use Rattle.vmx_model.specs.declared.journal.Way.TheVariants as way
use Rattle.vmx_model.specs.Bags.{Pairwise}
use Rattle.vmx_device_looks.specs.Links.{Pushed, PutsOut, PutsFrame}
use Rattle.vmx_device_laws.specs.Views.{DeviceView}
use Rattle.vmx_device_laws.specs.Steps.{CommandStep, TurnsOnce}
use Rattle.vmx_device_laws.specs.Pairs.{LooksOnce, PairsTx, Came, PairsIn, PulledOne, PulledNone}
use Rattle.vmx_device_laws.proofs.Pairwise.{turn_pairs}
use Rattle.vmx_replay_calls.proofs.Pairs.{pair_refl, pair_trans, pair_set}

-- ------------------------------------------------------------ ends

pub record GoesOut (o o' : LinkOutView) : Type 0 where
  pub key : o'.key ≡ o.key
  pub freed : o'.freed ≡ o.freed
  pub pushed : IsPrefix o.pushed o'.pushed

pub record GoesIn (i i' : LinkInView) : Type 0 where
  pub key : i'.key ≡ i.key
  pub filled : i'.filled ≡ i.filled
  pub pulled : IsPrefix i.pulled i'.pulled

prefix_refl : {X : Type 0} (xs : List X) → IsPrefix xs xs
prefix_refl xs = ([], append-nil xs)

prefix_trans : {X : Type 0} (xs ys zs : List X) → IsPrefix xs ys → IsPrefix ys zs → IsPrefix xs zs
prefix_trans xs ys zs a b = (a.0 ++ b.0, sym (append_assoc xs a.0 b.0) ∙ ap (λ (l : List _). l ++ b.0) a.1 ∙ b.1)

out_refl : (o : LinkOutView) → GoesOut o o
out_refl o = record { key = refl; freed = refl; pushed = prefix_refl o.pushed }

out_trans : (x y z : LinkOutView) → GoesOut x y → GoesOut y z → GoesOut x z
out_trans x y z a b = record { key = b.key ∙ a.key; freed = b.freed ∙ a.freed; pushed = prefix_trans x.pushed y.pushed z.pushed a.pushed b.pushed }

outs_same : (os os' : List LinkOutView) → os' ≡ os → Pairwise GoesOut os os'
outs_same os os' e = subst (Pairwise GoesOut os) (sym e) (pair_refl GoesOut out_refl os)

-- ------------------------------------------------------------ what is put out

pushed_on : (o o' : LinkOutView) (x : Packet) (w : Way) → Pushed o x w o' → GoesOut o o'
pushed_on o o' x (way.Link place) p = record { key = ap (λ (y : LinkOutView). y.key) p.1; freed = ap (λ (y : LinkOutView). y.freed) p.1; pushed = (x ∷ [], sym (ap (λ (y : LinkOutView). y.pushed) p.1)) }
pushed_on o o' x (way.Full look) p =
    record { key = ap (λ (y : LinkOutView). y.key) p.1.3; freed = ap (λ (y : LinkOutView). y.freed) p.1.3; pushed = subst (λ (xs : List Packet). IsPrefix o.pushed xs) (sym (ap (λ (y : LinkOutView). y.pushed) p.1.3)) (prefix_refl o.pushed) }

puts_on : (port : ℕ) (t : Tag) (frame : List ℕ) (tos : List ℕ) (es : List Entry) (old new : List LinkOutView) → PutsOut port t frame tos es old new → Pairwise GoesOut old new
puts_on port t frame [] es old new p = outs_same old new p.1
puts_on port t frame (to ∷ tos) es old new (w, (rest, (mid, is, sends, more))) =
    let one : Pairwise GoesOut old mid = subst (Pairwise GoesOut old) (sym sends.is) (pair_set GoesOut old old sends.number sends.link sends.after (pair_refl GoesOut out_refl old) sends.at (pushed_on sends.link sends.after sends.packet w sends.pushed)) in
    pair_trans GoesOut out_trans old mid new one (puts_on port t frame tos rest mid new more)

frame_on : (port : ℕ) (t : Tag) (frame : List ℕ) (tos : List ℕ) (es : List Entry) (old new : List LinkOutView) → PutsFrame port t frame tos es old new → Pairwise GoesOut old new
frame_on port t frame [] es old new p = outs_same old new p.1
frame_on port t frame (to ∷ tos) es old new p = puts_on port t frame (to ∷ tos) es old new p

look_on : (port : ℕ) (w : Wiring) (a q : ℕ) (e n : TxDeviceView) (es : List Entry) (old new : List LinkOutView) → LooksOnce port w a q e n es old new → Pairwise GoesOut old new
look_on port w a q e n es old new l = elim l [
  | inl t ↦ frame_on port _ _ _ es old new t.puts
  | inr p ↦ outs_same old new p.links
]

pairs_on : (port : ℕ) (w : Wiring) (a q : ℕ) (ends ns : List TxDeviceView) (es : List Entry) (old new : List LinkOutView) → PairsTx port w a q ends ns es old new → Pairwise GoesOut old new
pairs_on port w a q [] [] es old new p = outs_same old new p.1
pairs_on port w a q [] (n ∷ ns) es old new p = absurd p
pairs_on port w a q (e ∷ ends) [] es old new p = absurd p
pairs_on port w a q (e ∷ ends) (n ∷ ns) es old new (one, rest, (mid, is, here, more)) =
    pair_trans GoesOut out_trans old mid new (look_on port w a q e n one old mid here) (pairs_on port w a (suc q) ends ns rest mid new more)

-- ------------------------------------------------------------ what is pulled

pulls_on : (port k : ℕ) (i n : LinkInView) (came : List Came) → PulledOne port k i n came ⊎ PulledNone i n came → GoesIn i n
pulls_on port k i n came h = elim h [
  | inl p ↦ record { key = ap (λ (x : LinkInView). x.key) p.is; filled = ap (λ (x : LinkInView). x.filled) p.is; pulled = (p.packet ∷ [], sym (ap (λ (x : LinkInView). x.pulled) p.is)) }
  | inr p ↦ record { key = ap (λ (x : LinkInView). x.key) p.is; filled = ap (λ (x : LinkInView). x.filled) p.is; pulled = ([], append-nil i.pulled ∙ sym (ap (λ (x : LinkInView). x.pulled) p.is)) }
]

ins_on : (port k : ℕ) (is ns : List LinkInView) (came : List Came) → PairsIn port k is ns came → Pairwise GoesIn is ns
ins_on port k [] [] came p = tt
ins_on port k [] (n ∷ ns) came p = absurd p
ins_on port k (i ∷ is) [] came p = absurd p
ins_on port k (i ∷ is) (n ∷ ns) came (one, rest, eq, here, more) = (pulls_on port k i n one here, ins_on port (suc k) is ns rest more)

-- ------------------------------------------------------------ a turn

command_on : (b : Bool) (d d' : DeviceView) → CommandStep b d d' → (d'.out ≡ d.out) × (d'.input ≡ d.input)
command_on false d d' c = (ap (λ (x : DeviceView). x.out) c.is, ap (λ (x : DeviceView). x.input) c.is)
command_on true d d' c = (ap (λ (x : DeviceView). x.out) c.is, ap (λ (x : DeviceView). x.input) c.is)

pub turn_outs : (worked : Bool) (d d' : DeviceView) → TurnsOnce worked d d' → Pairwise GoesOut d.out d'.out
turn_outs worked d d' t =
    let p = turn_pairs worked d d' t in
    subst (λ (os : List LinkOutView). Pairwise GoesOut os d'.out) (command_on t.answered d t.asked t.command).0 (pairs_on t.asked.port t.asked.table _ 0 _ _ p.sends t.asked.out d'.out p.tx)

pub turn_ins : (worked : Bool) (d d' : DeviceView) → TurnsOnce worked d d' → Pairwise GoesIn d.input d'.input
turn_ins worked d d' t =
    let p = turn_pairs worked d d' t in
    subst (λ (is : List LinkInView). Pairwise GoesIn is d'.input) (command_on t.answered d t.asked t.command).1 (ins_on t.asked.port 0 t.asked.input d'.input p.came p.links)
