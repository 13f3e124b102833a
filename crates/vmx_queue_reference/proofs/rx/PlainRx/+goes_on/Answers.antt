use Rattle.std.proofs.Common.{◌≡◌, ◌+◌, ◌-◌, ℕ, sym, refl, length, arith}
use Rattle.vmx_queue_reference.specs.declared.rx.Way.{Way}
use Rattle.vmx_queue_reference.proofs.RxWays.{short1, short2, GoesTo, one_more, two_more, misses_two, if_ok}
use Rattle.vmx_queue_reference.proofs.rx.PlainRx.+goes_on.Goals as goal

pub overflow_add-self : goal.overflow_add-self
overflow_add-self t c = let me = c.args.self.now in let s = short1 me in let z = me.sizes.1 in let l = c.requires.small.0 in let w = c.requires.within.0 in omega arith

pub overflow_add-way : goal.overflow_add-way
overflow_add-way t c = let me = c.args.self.now in let s = short1 me in let z = me.sizes.1 in let w = c.requires.within.0 in omega arith

pub returns-then-has_body : goal.returns-then-has_body
returns-then-has_body t c = let me = c.args.self.now in let way = c.args.way in let n : ℕ = c.args.further in let f = c.if-further-eq0.false in
    let new : Way = record { passed = way.passed; ones = way.ones + 1; twos = way.twos; chain = c.push.new.self } in
    record { walk = if_ok (GoesTo me new (n - 1)) (GoesTo me way n) c.goes_on.result c.goes_on.ensures.walk (λ e p. one_more me way new n e (omega arith) (sym c.if-has_body.ensures.body) c.requires.within.1 refl refl refl c.in_ok-push.ensures.ok p) }

pub overflow_add-self-then-way-len : goal.overflow_add-self-then-way-len
overflow_add-self-then-way-len t c = let me = c.args.self.now in let s = short2 me in let z = me.sizes.3 in let l = c.requires.small.1 in let w = c.requires.within.1 in omega arith

pub returns-then-way-len : goal.returns-then-way-len
returns-then-way-len t c = let me = c.args.self.now in let way = c.args.way in let n : ℕ = c.args.further in let f = c.if-further-eq0.false in let l = c.len.ensures.len in let less = c.if-way-len.true in
    let new : Way = record { passed = way.passed; ones = way.ones; twos = way.twos + 1; chain = c.push-then-way-len.new.self } in
    record { walk = if_ok (GoesTo me new (n - 1)) (GoesTo me way n) c.goes_on-then-way-len.result c.goes_on-then-way-len.ensures.walk (λ e p. two_more me way new n e (omega arith) (sym c.if-has_body.ensures.body) (omega arith) refl refl refl c.in_ok-push-2.ensures.ok p) }

pub overflow_add-result : goal.overflow_add-result
overflow_add-result t c = let me = c.args.self.now in let s = short2 me in let z = me.sizes.3 in let l = c.requires.small.1 in let w = c.requires.within.1 in omega arith

pub returns : goal.returns
returns t c = let me = c.args.self.now in let way = c.args.way in let f = c.if-further-eq0.false in let l = c.len.ensures.len in let more = c.if-way-len.false in let w = c.requires.within.1 in
    let here : length me.two.buffers ≡ way.twos = omega arith in record { walk = misses_two me way c.args.further (omega arith) (sym c.if-has_body.ensures.body) here }
