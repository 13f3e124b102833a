use Rattle.std.proofs.Common.{rules, ◌≡◌, ℕ, ◌+◌, ◌-◌, ◌∷◌, [], length, ap, sym, ◌∙◌, subst, arith, length-append}
use Rattle.vmx_ring_laws.specs.Keys.{key_of}
use Rattle.vmx_ends.specs.ReceiveClauses.{ReceivesFrame, GrowsReceived}
use Rattle.vmx_ends.specs.Receive.{used, pieces_of, took1, took2}
use Rattle.vmx_rx_ring.specs.Tells.{Seated}
use Rattle.vmx_rx_walk.specs.Reading.{Reads}
use Rattle.vmx_rx_walk.specs.Looking.{Looked}
use Rattle.vmx_rx_ends.specs.Views.{driver_seen}
use Rattle.vmx_rx_ends.proofs.Deliveries.{meta_is}
use Rattle.vmx_rx_ends.proofs.Receives as r
use Rattle.vmx_rx_ends.proofs.reader.RxReader.receive.Goals as goal

pub read_frame-back-requires-clause-can : goal.read_frame-back-requires-clause-can
read_frame-back-requires-clause-can g c = let me = c.args.self.now in let look = subst (λ r. Looked me.seat.me r c.look.new.seat.me) c.in-Visible.is c.look.ensures.looked in subst (λ (k : ℕ). Reads me.shape c.look.new.seat.me 16 c.in-Visible.second k) (let e : 0 ≡ length c.args.into.now.items = search rules in e) (r.plan c.args.self.now.shape c.args.self.now.seated.1 c.args.self.now.seat.me c.look.new.seat.me look.0 c.in-Visible.second c.args.self.now.driver.3 look.1 look.2 look.3 c.args.self.now.sums.0 c.args.self.now.sums.1 c.args.self.now.sums.2 (let a = c.requires.small.1 in let b = c.args.self.now.sums.0 in omega arith) (let a = c.args.self.now.small.0 in let b = c.args.self.now.counts.1 in let e = c.args.self.now.counts.2 in omega arith) (let a = c.args.self.now.small.1 in let b = c.args.self.now.counts.1 in let e = c.args.self.now.counts.3 in omega arith)).reads

pub overflow_sub-descriptors : goal.overflow_sub-descriptors
overflow_sub-descriptors g c = let me = c.args.self.now in let look = subst (λ r. Looked me.seat.me r c.look.new.seat.me) c.in-Visible.is c.look.ensures.looked in let done = r.done c.args.self.now.shape c.args.self.now.seated.1 c.args.self.now.seat.me c.look.new.seat.me look.0 c.in-Visible.second c.args.self.now.driver.3 look.1 look.2 look.3 c.args.self.now.sums.0 c.args.self.now.sums.1 c.args.self.now.sums.2 (let a = c.requires.small.1 in let b = c.args.self.now.sums.0 in omega arith) (let a = c.args.self.now.small.0 in let b = c.args.self.now.counts.1 in let e = c.args.self.now.counts.2 in omega arith) (let a = c.args.self.now.small.1 in let b = c.args.self.now.counts.1 in let e = c.args.self.now.counts.3 in omega arith) c.read_frame-back.new.seat.me c.args.into.now.items c.read_frame-back.new.into.items (r.no_items c.args.into.now.items (let e : 0 ≡ length c.args.into.now.items = search rules in e)) c.read_frame-back.ensures.read in let sums = r.sums c.args.self.now.shape c.args.self.now.seated.1 c.args.self.now.seat.me c.look.new.seat.me look.0 c.in-Visible.second c.args.self.now.driver.3 look.1 look.2 look.3 c.args.self.now.sums.0 c.args.self.now.sums.1 c.args.self.now.sums.2 (let a = c.requires.small.1 in let b = c.args.self.now.sums.0 in omega arith) (let a = c.args.self.now.small.0 in let b = c.args.self.now.counts.1 in let e = c.args.self.now.counts.2 in omega arith) (let a = c.args.self.now.small.1 in let b = c.args.self.now.counts.1 in let e = c.args.self.now.counts.3 in omega arith) in let b = c.read_frame-back.ensures.back in let x1 = ap (λ (z : Seated). z.0.driver.back1) done.0 in let x2 = ap (λ (z : Seated). z.0.driver.back2) done.0 in let b1 = b.1 in let b2 = b.2 in let c2 = me.counts.2 in let c3 = me.counts.3 in let few = sums.5 in let sum_is = r.sum_is c.args.self.now.shape c.args.self.now.seated.1 c.args.self.now.seat.me c.look.new.seat.me look.0 c.in-Visible.second c.args.self.now.driver.3 look.1 look.2 look.3 c.args.self.now.sums.0 c.args.self.now.sums.1 c.args.self.now.sums.2 (let a = c.requires.small.1 in let b = c.args.self.now.sums.0 in omega arith) (let a = c.args.self.now.small.0 in let b = c.args.self.now.counts.1 in let e = c.args.self.now.counts.2 in omega arith) (let a = c.args.self.now.small.1 in let b = c.args.self.now.counts.1 in let e = c.args.self.now.counts.3 in omega arith) in omega arith

pub overflow_sub-descriptors-in-Visible : goal.overflow_sub-descriptors-in-Visible
overflow_sub-descriptors-in-Visible g c = let me = c.args.self.now in let look = subst (λ r. Looked me.seat.me r c.look.new.seat.me) c.in-Visible.is c.look.ensures.looked in let done = r.done c.args.self.now.shape c.args.self.now.seated.1 c.args.self.now.seat.me c.look.new.seat.me look.0 c.in-Visible.second c.args.self.now.driver.3 look.1 look.2 look.3 c.args.self.now.sums.0 c.args.self.now.sums.1 c.args.self.now.sums.2 (let a = c.requires.small.1 in let b = c.args.self.now.sums.0 in omega arith) (let a = c.args.self.now.small.0 in let b = c.args.self.now.counts.1 in let e = c.args.self.now.counts.2 in omega arith) (let a = c.args.self.now.small.1 in let b = c.args.self.now.counts.1 in let e = c.args.self.now.counts.3 in omega arith) c.read_frame-back.new.seat.me c.args.into.now.items c.read_frame-back.new.into.items (r.no_items c.args.into.now.items (let e : 0 ≡ length c.args.into.now.items = search rules in e)) c.read_frame-back.ensures.read in let sums = r.sums c.args.self.now.shape c.args.self.now.seated.1 c.args.self.now.seat.me c.look.new.seat.me look.0 c.in-Visible.second c.args.self.now.driver.3 look.1 look.2 look.3 c.args.self.now.sums.0 c.args.self.now.sums.1 c.args.self.now.sums.2 (let a = c.requires.small.1 in let b = c.args.self.now.sums.0 in omega arith) (let a = c.args.self.now.small.0 in let b = c.args.self.now.counts.1 in let e = c.args.self.now.counts.2 in omega arith) (let a = c.args.self.now.small.1 in let b = c.args.self.now.counts.1 in let e = c.args.self.now.counts.3 in omega arith) in let b = c.read_frame-back.ensures.back in let x1 = ap (λ (z : Seated). z.0.driver.back1) done.0 in let x2 = ap (λ (z : Seated). z.0.driver.back2) done.0 in let b1 = b.1 in let b2 = b.2 in let c2 = me.counts.2 in let c3 = me.counts.3 in let few = sums.5 in let sum_is = r.sum_is c.args.self.now.shape c.args.self.now.seated.1 c.args.self.now.seat.me c.look.new.seat.me look.0 c.in-Visible.second c.args.self.now.driver.3 look.1 look.2 look.3 c.args.self.now.sums.0 c.args.self.now.sums.1 c.args.self.now.sums.2 (let a = c.requires.small.1 in let b = c.args.self.now.sums.0 in omega arith) (let a = c.args.self.now.small.0 in let b = c.args.self.now.counts.1 in let e = c.args.self.now.counts.2 in omega arith) (let a = c.args.self.now.small.1 in let b = c.args.self.now.counts.1 in let e = c.args.self.now.counts.3 in omega arith) in omega arith

pub overflow_add-descriptors : goal.overflow_add-descriptors
overflow_add-descriptors g c = let me = c.args.self.now in let look = subst (λ r. Looked me.seat.me r c.look.new.seat.me) c.in-Visible.is c.look.ensures.looked in let done = r.done c.args.self.now.shape c.args.self.now.seated.1 c.args.self.now.seat.me c.look.new.seat.me look.0 c.in-Visible.second c.args.self.now.driver.3 look.1 look.2 look.3 c.args.self.now.sums.0 c.args.self.now.sums.1 c.args.self.now.sums.2 (let a = c.requires.small.1 in let b = c.args.self.now.sums.0 in omega arith) (let a = c.args.self.now.small.0 in let b = c.args.self.now.counts.1 in let e = c.args.self.now.counts.2 in omega arith) (let a = c.args.self.now.small.1 in let b = c.args.self.now.counts.1 in let e = c.args.self.now.counts.3 in omega arith) c.read_frame-back.new.seat.me c.args.into.now.items c.read_frame-back.new.into.items (r.no_items c.args.into.now.items (let e : 0 ≡ length c.args.into.now.items = search rules in e)) c.read_frame-back.ensures.read in let sums = r.sums c.args.self.now.shape c.args.self.now.seated.1 c.args.self.now.seat.me c.look.new.seat.me look.0 c.in-Visible.second c.args.self.now.driver.3 look.1 look.2 look.3 c.args.self.now.sums.0 c.args.self.now.sums.1 c.args.self.now.sums.2 (let a = c.requires.small.1 in let b = c.args.self.now.sums.0 in omega arith) (let a = c.args.self.now.small.0 in let b = c.args.self.now.counts.1 in let e = c.args.self.now.counts.2 in omega arith) (let a = c.args.self.now.small.1 in let b = c.args.self.now.counts.1 in let e = c.args.self.now.counts.3 in omega arith) in let b = c.read_frame-back.ensures.back in let x1 = ap (λ (z : Seated). z.0.driver.back1) done.0 in let x2 = ap (λ (z : Seated). z.0.driver.back2) done.0 in let b1 = b.1 in let b2 = b.2 in let c2 = me.counts.2 in let c3 = me.counts.3 in let few = sums.5 in let sum_is = r.sum_is c.args.self.now.shape c.args.self.now.seated.1 c.args.self.now.seat.me c.look.new.seat.me look.0 c.in-Visible.second c.args.self.now.driver.3 look.1 look.2 look.3 c.args.self.now.sums.0 c.args.self.now.sums.1 c.args.self.now.sums.2 (let a = c.requires.small.1 in let b = c.args.self.now.sums.0 in omega arith) (let a = c.args.self.now.small.0 in let b = c.args.self.now.counts.1 in let e = c.args.self.now.counts.2 in omega arith) (let a = c.args.self.now.small.1 in let b = c.args.self.now.counts.1 in let e = c.args.self.now.counts.3 in omega arith) in search rules

pub overflow_cast-result : goal.overflow_cast-result
overflow_cast-result g c = let me = c.args.self.now in let look = subst (λ r. Looked me.seat.me r c.look.new.seat.me) c.in-Visible.is c.look.ensures.looked in let done = r.done c.args.self.now.shape c.args.self.now.seated.1 c.args.self.now.seat.me c.look.new.seat.me look.0 c.in-Visible.second c.args.self.now.driver.3 look.1 look.2 look.3 c.args.self.now.sums.0 c.args.self.now.sums.1 c.args.self.now.sums.2 (let a = c.requires.small.1 in let b = c.args.self.now.sums.0 in omega arith) (let a = c.args.self.now.small.0 in let b = c.args.self.now.counts.1 in let e = c.args.self.now.counts.2 in omega arith) (let a = c.args.self.now.small.1 in let b = c.args.self.now.counts.1 in let e = c.args.self.now.counts.3 in omega arith) c.read_frame-back.new.seat.me c.args.into.now.items c.read_frame-back.new.into.items (r.no_items c.args.into.now.items (let e : 0 ≡ length c.args.into.now.items = search rules in e)) c.read_frame-back.ensures.read in let sums = r.sums c.args.self.now.shape c.args.self.now.seated.1 c.args.self.now.seat.me c.look.new.seat.me look.0 c.in-Visible.second c.args.self.now.driver.3 look.1 look.2 look.3 c.args.self.now.sums.0 c.args.self.now.sums.1 c.args.self.now.sums.2 (let a = c.requires.small.1 in let b = c.args.self.now.sums.0 in omega arith) (let a = c.args.self.now.small.0 in let b = c.args.self.now.counts.1 in let e = c.args.self.now.counts.2 in omega arith) (let a = c.args.self.now.small.1 in let b = c.args.self.now.counts.1 in let e = c.args.self.now.counts.3 in omega arith) in let b = c.read_frame-back.ensures.back in let x1 = ap (λ (z : Seated). z.0.driver.back1) done.0 in let x2 = ap (λ (z : Seated). z.0.driver.back2) done.0 in let b1 = b.1 in let b2 = b.2 in let c2 = me.counts.2 in let c3 = me.counts.3 in let few = sums.5 in let sum_is = r.sum_is c.args.self.now.shape c.args.self.now.seated.1 c.args.self.now.seat.me c.look.new.seat.me look.0 c.in-Visible.second c.args.self.now.driver.3 look.1 look.2 look.3 c.args.self.now.sums.0 c.args.self.now.sums.1 c.args.self.now.sums.2 (let a = c.requires.small.1 in let b = c.args.self.now.sums.0 in omega arith) (let a = c.args.self.now.small.0 in let b = c.args.self.now.counts.1 in let e = c.args.self.now.counts.2 in omega arith) (let a = c.args.self.now.small.1 in let b = c.args.self.now.counts.1 in let e = c.args.self.now.counts.3 in omega arith) in search rules

pub meta_of-requires : goal.meta_of-requires
meta_of-requires g c = let me = c.args.self.now in let look = subst (λ r. Looked me.seat.me r c.look.new.seat.me) c.in-Visible.is c.look.ensures.looked in let t = r.told c.args.self.now.shape c.args.self.now.seated.1 c.args.self.now.seat.me c.look.new.seat.me look.0 c.in-Visible.second c.args.self.now.driver.3 look.1 look.2 look.3 c.args.self.now.sums.0 c.args.self.now.sums.1 c.args.self.now.sums.2 (let a = c.requires.small.1 in let b = c.args.self.now.sums.0 in omega arith) (let a = c.args.self.now.small.0 in let b = c.args.self.now.counts.1 in let e = c.args.self.now.counts.2 in omega arith) (let a = c.args.self.now.small.1 in let b = c.args.self.now.counts.1 in let e = c.args.self.now.counts.3 in omega arith) c.read_frame-back.result.first c.read_frame-back.ensures.first in let k = look.0.meta.kinds in let is = t.0 in
    let last = r.told_last c.args.self.now.shape c.args.self.now.seated.1 c.args.self.now.seat.me c.look.new.seat.me look.0 c.in-Visible.second c.args.self.now.driver.3 look.1 look.2 look.3 c.args.self.now.sums.0 c.args.self.now.sums.1 c.args.self.now.sums.2 (let a = c.requires.small.1 in let b = c.args.self.now.sums.0 in omega arith) (let a = c.args.self.now.small.0 in let b = c.args.self.now.counts.1 in let e = c.args.self.now.counts.2 in omega arith) (let a = c.args.self.now.small.1 in let b = c.args.self.now.counts.1 in let e = c.args.self.now.counts.3 in omega arith) c.read_frame-back.result.last c.args.into.now.items (r.no_items c.args.into.now.items (let e : 0 ≡ length c.args.into.now.items = search rules in e)) c.read_frame-back.ensures.tag in record { named = t.2; kind = last.1; hash = omega arith }

pub returns-in-Visible-clause-receives : goal.returns-in-Visible-clause-receives
returns-in-Visible-clause-receives g c = let me = c.args.self.now in let look = subst (λ r. Looked me.seat.me r c.look.new.seat.me) c.in-Visible.is c.look.ensures.looked in let done = r.done c.args.self.now.shape c.args.self.now.seated.1 c.args.self.now.seat.me c.look.new.seat.me look.0 c.in-Visible.second c.args.self.now.driver.3 look.1 look.2 look.3 c.args.self.now.sums.0 c.args.self.now.sums.1 c.args.self.now.sums.2 (let a = c.requires.small.1 in let b = c.args.self.now.sums.0 in omega arith) (let a = c.args.self.now.small.0 in let b = c.args.self.now.counts.1 in let e = c.args.self.now.counts.2 in omega arith) (let a = c.args.self.now.small.1 in let b = c.args.self.now.counts.1 in let e = c.args.self.now.counts.3 in omega arith) c.read_frame-back.new.seat.me c.args.into.now.items c.read_frame-back.new.into.items (r.no_items c.args.into.now.items (let e : 0 ≡ length c.args.into.now.items = search rules in e)) c.read_frame-back.ensures.read in let sums = r.sums c.args.self.now.shape c.args.self.now.seated.1 c.args.self.now.seat.me c.look.new.seat.me look.0 c.in-Visible.second c.args.self.now.driver.3 look.1 look.2 look.3 c.args.self.now.sums.0 c.args.self.now.sums.1 c.args.self.now.sums.2 (let a = c.requires.small.1 in let b = c.args.self.now.sums.0 in omega arith) (let a = c.args.self.now.small.0 in let b = c.args.self.now.counts.1 in let e = c.args.self.now.counts.2 in omega arith) (let a = c.args.self.now.small.1 in let b = c.args.self.now.counts.1 in let e = c.args.self.now.counts.3 in omega arith) in let b = c.read_frame-back.ensures.back in let x1 = ap (λ (z : Seated). z.0.driver.back1) done.0 in let x2 = ap (λ (z : Seated). z.0.driver.back2) done.0 in let b1 = b.1 in let b2 = b.2 in let c2 = me.counts.2 in let c3 = me.counts.3 in let few = sums.5 in let sum_is = r.sum_is c.args.self.now.shape c.args.self.now.seated.1 c.args.self.now.seat.me c.look.new.seat.me look.0 c.in-Visible.second c.args.self.now.driver.3 look.1 look.2 look.3 c.args.self.now.sums.0 c.args.self.now.sums.1 c.args.self.now.sums.2 (let a = c.requires.small.1 in let b = c.args.self.now.sums.0 in omega arith) (let a = c.args.self.now.small.0 in let b = c.args.self.now.counts.1 in let e = c.args.self.now.counts.2 in omega arith) (let a = c.args.self.now.small.1 in let b = c.args.self.now.counts.1 in let e = c.args.self.now.counts.3 in omega arith) in let t = r.told c.args.self.now.shape c.args.self.now.seated.1 c.args.self.now.seat.me c.look.new.seat.me look.0 c.in-Visible.second c.args.self.now.driver.3 look.1 look.2 look.3 c.args.self.now.sums.0 c.args.self.now.sums.1 c.args.self.now.sums.2 (let a = c.requires.small.1 in let b = c.args.self.now.sums.0 in omega arith) (let a = c.args.self.now.small.0 in let b = c.args.self.now.counts.1 in let e = c.args.self.now.counts.2 in omega arith) (let a = c.args.self.now.small.1 in let b = c.args.self.now.counts.1 in let e = c.args.self.now.counts.3 in omega arith) c.read_frame-back.result.first c.read_frame-back.ensures.first in
    let last = r.told_last c.args.self.now.shape c.args.self.now.seated.1 c.args.self.now.seat.me c.look.new.seat.me look.0 c.in-Visible.second c.args.self.now.driver.3 look.1 look.2 look.3 c.args.self.now.sums.0 c.args.self.now.sums.1 c.args.self.now.sums.2 (let a = c.requires.small.1 in let b = c.args.self.now.sums.0 in omega arith) (let a = c.args.self.now.small.0 in let b = c.args.self.now.counts.1 in let e = c.args.self.now.counts.2 in omega arith) (let a = c.args.self.now.small.1 in let b = c.args.self.now.counts.1 in let e = c.args.self.now.counts.3 in omega arith) c.read_frame-back.result.last c.args.into.now.items (r.no_items c.args.into.now.items (let e : 0 ≡ length c.args.into.now.items = search rules in e)) c.read_frame-back.ensures.tag in
    let meta = meta_is c.meta_of.result look.0.meta (c.meta_of.ensures.meta.0 ∙ t.1) (c.meta_of.ensures.meta.1 ∙ t.0) (c.meta_of.ensures.meta.2 ∙ last.0) in
    subst (λ (id : _). ReceivesFrame (driver_seen (key_of me.seat.table_id) me.seat.me.0) c.read_frame-back.new.into.items me.place c.meta_of.result (c.read_frame-back.result.back1 - me.back1 + (c.read_frame-back.result.back2 - me.back2)) (driver_seen (key_of id) c.read_frame-back.new.seat.me.0)) (sym (c.read_frame-back.ensures.same.0 ∙ c.look.ensures.same.0))
    (r.clause c.args.self.now.shape c.args.self.now.seated.1 c.args.self.now.seat.me c.look.new.seat.me look.0 c.in-Visible.second c.args.self.now.driver.3 look.1 look.2 look.3 c.args.self.now.sums.0 c.args.self.now.sums.1 c.args.self.now.sums.2 (let a = c.requires.small.1 in let b = c.args.self.now.sums.0 in omega arith) (let a = c.args.self.now.small.0 in let b = c.args.self.now.counts.1 in let e = c.args.self.now.counts.2 in omega arith) (let a = c.args.self.now.small.1 in let b = c.args.self.now.counts.1 in let e = c.args.self.now.counts.3 in omega arith) (key_of me.seat.table_id) c.read_frame-back.new.seat.me c.read_frame-back.new.into.items me.place (c.read_frame-back.result.back1 - me.back1 + (c.read_frame-back.result.back2 - me.back2)) c.meta_of.result done.0 done.1 meta me.counts.0 (omega arith))

pub returns-in-Visible-clause-grows : goal.returns-in-Visible-clause-grows
returns-in-Visible-clause-grows g c = let me = c.args.self.now in let look = subst (λ r. Looked me.seat.me r c.look.new.seat.me) c.in-Visible.is c.look.ensures.looked in let done = r.done c.args.self.now.shape c.args.self.now.seated.1 c.args.self.now.seat.me c.look.new.seat.me look.0 c.in-Visible.second c.args.self.now.driver.3 look.1 look.2 look.3 c.args.self.now.sums.0 c.args.self.now.sums.1 c.args.self.now.sums.2 (let a = c.requires.small.1 in let b = c.args.self.now.sums.0 in omega arith) (let a = c.args.self.now.small.0 in let b = c.args.self.now.counts.1 in let e = c.args.self.now.counts.2 in omega arith) (let a = c.args.self.now.small.1 in let b = c.args.self.now.counts.1 in let e = c.args.self.now.counts.3 in omega arith) c.read_frame-back.new.seat.me c.args.into.now.items c.read_frame-back.new.into.items (r.no_items c.args.into.now.items (let e : 0 ≡ length c.args.into.now.items = search rules in e)) c.read_frame-back.ensures.read in let sums = r.sums c.args.self.now.shape c.args.self.now.seated.1 c.args.self.now.seat.me c.look.new.seat.me look.0 c.in-Visible.second c.args.self.now.driver.3 look.1 look.2 look.3 c.args.self.now.sums.0 c.args.self.now.sums.1 c.args.self.now.sums.2 (let a = c.requires.small.1 in let b = c.args.self.now.sums.0 in omega arith) (let a = c.args.self.now.small.0 in let b = c.args.self.now.counts.1 in let e = c.args.self.now.counts.2 in omega arith) (let a = c.args.self.now.small.1 in let b = c.args.self.now.counts.1 in let e = c.args.self.now.counts.3 in omega arith) in let b = c.read_frame-back.ensures.back in let x1 = ap (λ (z : Seated). z.0.driver.back1) done.0 in let x2 = ap (λ (z : Seated). z.0.driver.back2) done.0 in let b1 = b.1 in let b2 = b.2 in let c2 = me.counts.2 in let c3 = me.counts.3 in let few = sums.5 in let sum_is = r.sum_is c.args.self.now.shape c.args.self.now.seated.1 c.args.self.now.seat.me c.look.new.seat.me look.0 c.in-Visible.second c.args.self.now.driver.3 look.1 look.2 look.3 c.args.self.now.sums.0 c.args.self.now.sums.1 c.args.self.now.sums.2 (let a = c.requires.small.1 in let b = c.args.self.now.sums.0 in omega arith) (let a = c.args.self.now.small.0 in let b = c.args.self.now.counts.1 in let e = c.args.self.now.counts.2 in omega arith) (let a = c.args.self.now.small.1 in let b = c.args.self.now.counts.1 in let e = c.args.self.now.counts.3 in omega arith) in
    subst (λ (id : _). GrowsReceived (driver_seen (key_of me.seat.table_id) me.seat.me.0) (driver_seen (key_of id) c.read_frame-back.new.seat.me.0)) (sym (c.read_frame-back.ensures.same.0 ∙ c.look.ensures.same.0))
    (r.grows c.args.self.now.shape c.args.self.now.seated.1 c.args.self.now.seat.me c.look.new.seat.me look.0 c.in-Visible.second c.args.self.now.driver.3 look.1 look.2 look.3 c.args.self.now.sums.0 c.args.self.now.sums.1 c.args.self.now.sums.2 (let a = c.requires.small.1 in let b = c.args.self.now.sums.0 in omega arith) (let a = c.args.self.now.small.0 in let b = c.args.self.now.counts.1 in let e = c.args.self.now.counts.2 in omega arith) (let a = c.args.self.now.small.1 in let b = c.args.self.now.counts.1 in let e = c.args.self.now.counts.3 in omega arith) (key_of me.seat.table_id) c.read_frame-back.new.seat.me done.0)

pub invariant_of-self-in-Visible : goal.invariant_of-self-in-Visible
invariant_of-self-in-Visible g c = let me = c.args.self.now in let look = subst (λ r. Looked me.seat.me r c.look.new.seat.me) c.in-Visible.is c.look.ensures.looked in let done = r.done c.args.self.now.shape c.args.self.now.seated.1 c.args.self.now.seat.me c.look.new.seat.me look.0 c.in-Visible.second c.args.self.now.driver.3 look.1 look.2 look.3 c.args.self.now.sums.0 c.args.self.now.sums.1 c.args.self.now.sums.2 (let a = c.requires.small.1 in let b = c.args.self.now.sums.0 in omega arith) (let a = c.args.self.now.small.0 in let b = c.args.self.now.counts.1 in let e = c.args.self.now.counts.2 in omega arith) (let a = c.args.self.now.small.1 in let b = c.args.self.now.counts.1 in let e = c.args.self.now.counts.3 in omega arith) c.read_frame-back.new.seat.me c.args.into.now.items c.read_frame-back.new.into.items (r.no_items c.args.into.now.items (let e : 0 ≡ length c.args.into.now.items = search rules in e)) c.read_frame-back.ensures.read in let sums = r.sums c.args.self.now.shape c.args.self.now.seated.1 c.args.self.now.seat.me c.look.new.seat.me look.0 c.in-Visible.second c.args.self.now.driver.3 look.1 look.2 look.3 c.args.self.now.sums.0 c.args.self.now.sums.1 c.args.self.now.sums.2 (let a = c.requires.small.1 in let b = c.args.self.now.sums.0 in omega arith) (let a = c.args.self.now.small.0 in let b = c.args.self.now.counts.1 in let e = c.args.self.now.counts.2 in omega arith) (let a = c.args.self.now.small.1 in let b = c.args.self.now.counts.1 in let e = c.args.self.now.counts.3 in omega arith) in let b = c.read_frame-back.ensures.back in let x1 = ap (λ (z : Seated). z.0.driver.back1) done.0 in let x2 = ap (λ (z : Seated). z.0.driver.back2) done.0 in let b1 = b.1 in let b2 = b.2 in let c2 = me.counts.2 in let c3 = me.counts.3 in let few = sums.5 in let sum_is = r.sum_is c.args.self.now.shape c.args.self.now.seated.1 c.args.self.now.seat.me c.look.new.seat.me look.0 c.in-Visible.second c.args.self.now.driver.3 look.1 look.2 look.3 c.args.self.now.sums.0 c.args.self.now.sums.1 c.args.self.now.sums.2 (let a = c.requires.small.1 in let b = c.args.self.now.sums.0 in omega arith) (let a = c.args.self.now.small.0 in let b = c.args.self.now.counts.1 in let e = c.args.self.now.counts.2 in omega arith) (let a = c.args.self.now.small.1 in let b = c.args.self.now.counts.1 in let e = c.args.self.now.counts.3 in omega arith) in let id = c.read_frame-back.ensures.same.0 ∙ c.look.ensures.same.0 in let fin = done.0 in let rec = ap (λ (z : Seated). z.0.driver.received) fin in let longer = length-append me.seat.me.0.driver.received (look.0 ∷ []) in let len = ap length rec in let c0 = me.counts.0 in
    let rd = ap (λ (z : Seated). z.0.driver.read) fin in let b0 = b.0 in let s3 = sums.3 in let s4 = sums.4 in record {
      seated = (id ∙ me.seated.0, me.seated.1);
      driver = (ap (λ (z : Seated). z.0.receives) fin ∙ me.driver.0, ap (λ (z : Seated). z.0.delivers) fin ∙ me.driver.1, ap (λ (z : Seated). z.1) fin, ap (λ (z : Seated). z.0.made) fin ∙ me.driver.3);
      idle = ap (λ (z : Seated). z.0.driver.reading) fin;
      counts = (omega arith, b.0, b.1, b.2);
      sums = (rd ∙ sums.0 ∙ ap (used pieces_of) (sym rec), x1 ∙ sums.1 ∙ ap (used took1) (sym rec), x2 ∙ sums.2 ∙ ap (used took2) (sym rec));
      tells = (ap (λ (z : Seated). z.0.of_device) fin ∙ me.tells.0, ap (λ (z : Seated). z.0.of_driver) fin ∙ me.tells.1);
      small = (omega arith, omega arith);
    }
