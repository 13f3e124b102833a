use Rattle.std.proofs.Common.{◌∙◌, ◌++◌, ap₂, sym, refl, subst, arith, length, List, ℕ}
use Rattle.std.proofs.lemmas.List.{take-append-drop}
use Rattle.vmx_ends.specs.Frames.{IsFrame}
use Rattle.vmx_queue_reference.specs.declared.rx.Buffer.{Buffer}
use Rattle.vmx_queue_reference.specs.declared.rx.RxFrame.{RxFrame}
use Rattle.vmx_queue_reference.proofs.RxSteps.{went, numbers, lays}
use Rattle.vmx_queue_reference.proofs.rx.PlainRx.lay.Goals as goal

pub invariant_of-self-2 : goal.invariant_of-self-2
invariant_of-self-2 c = let me = c.args.self.now in let way = c.args.way in let n : ℕ = length c.args.frame.now in let w = went me n way c.requires.walked in
    let last : RxFrame = record { frame = c.in_ok-from_slice.field-0; meta = c.args.meta.now; passed = way.passed; chain = way.chain; one = c.in_ok-first.field-0; two = c.in_ok-first-2.field-0 } in
    let f = lays me n way last c.push.new.self c.in_ok-one.one c.in_ok-two.two w c.requires.frame.1 c.in_ok-push.ensures.ok c.in_ok-first.ensures.first c.in_ok-first-2.ensures.first c.in_ok-one.ensures.rest c.in_ok-two.ensures.rest refl refl
    (subst IsFrame (sym c.in_ok-from_slice.ensures.bytes) c.requires.frame) in
    record { sizes = me.sizes; order = f.order; supply1 = f.supply1; supply2 = f.supply2; left1 = f.left1_is; left2 = f.left2_is; ends1 = f.ends1; ends2 = f.ends2; kept = f.kept }

pub returns-clause-laid : goal.returns-clause-laid
returns-clause-laid c = let me = c.args.self.now in let way = c.args.way in record {
  last = record { frame = c.in_ok-from_slice.field-0; meta = c.args.meta.now; passed = way.passed; chain = way.chain; one = c.in_ok-first.field-0; two = c.in_ok-first-2.field-0 };
  delivered = c.in_ok-push.ensures.ok;
  one = ap₂ (λ (x y : List Buffer). x ++ y) c.in_ok-first.ensures.first c.in_ok-one.ensures.rest ∙ take-append-drop way.ones me.one.buffers;
  two = ap₂ (λ (x y : List Buffer). x ++ y) c.in_ok-first-2.ensures.first c.in_ok-two.ensures.rest ∙ take-append-drop way.twos me.two.buffers;
}

pub returns-clause-grows : goal.returns-clause-grows
returns-clause-grows c = let me = c.args.self.now in let way = c.args.way in let n : ℕ = length c.args.frame.now in let k = numbers me n way (went me n way c.requires.walked) c.requires.frame.1 in let a = k.few1 in let b = k.few2 in
    (omega arith, omega arith)
