-- What holds of seeded and filled frames: a device that completes a seeded frame fills in its checksum, which is right.
use Rattle.std.proofs.Common.{◌≡◌, ℕ, ◌+◌, ◌-◌, Bool, true, false, List, length, Option, Some, None, is_some, refl, sym, ap, ◌∙◌, subst, add_comm, add_assoc, eq-eqb}
use Rattle.vmx_frame.specs.Internet.{flow_of}
use Rattle.vmx_ends.specs.declared.meta.TxMark.{TxMark}
use Rattle.vmx_checksum.specs.declared.answer.Segment.{Segment}
use Rattle.vmx_checksum.specs.Words.{ones}
use Rattle.vmx_checksum.specs.WordLaws.{ones_again, ones_complement, put_word_again, put_word_length, put_word_other}
use Rattle.vmx_checksum.specs.Segment.{segment}
use Rattle.vmx_checksum.specs.SegmentLaws.{field_flow, field_segment, field_pseudo, field_sum}
use Rattle.vmx_checksum.specs.Checksum.{with_field, complement, pseudo_of, segment_sum, is_right, is_right_at, filled_at, filled, seeded_at, seeded, completed_at, completed, IsMarkOf, KeepsAllBut}

pub filled_is : (f : List ℕ) (o : Option Segment) → segment f ≡ o → filled f ≡ filled_at f o
unfolding filled
filled_is f o e = ap (λ (x : Option Segment). filled_at f x) e

pub seeded_is : (f : List ℕ) (o : Option Segment) → segment f ≡ o → seeded f ≡ seeded_at f o
unfolding seeded
seeded_is f o e = ap (λ (x : Option Segment). seeded_at f x) e

pub completed_is : (f : List ℕ) (o : Option Segment) → segment f ≡ o → completed f ≡ completed_at f o
unfolding completed
completed_is f o e = ap (λ (x : Option Segment). completed_at f x) e

-- ------------------------------------------------------------ flow and segment stay

seeded_flow_at : (f : List ℕ) (o : Option Segment) → segment f ≡ o → flow_of (seeded f) ≡ flow_of f
seeded_flow_at f None e = ap (λ (g : List ℕ). flow_of g) (seeded_is f None e)
seeded_flow_at f (Some s) e = ap (λ (g : List ℕ). flow_of g) (seeded_is f (Some s) e) ∙ field_flow f s (ones (pseudo_of f s)) e

pub seeded_flow : (f : List ℕ) → flow_of (seeded f) ≡ flow_of f
seeded_flow f = seeded_flow_at f (segment f) refl

seeded_segment_at : (f : List ℕ) (o : Option Segment) → segment f ≡ o → segment (seeded f) ≡ segment f
seeded_segment_at f None e = ap (λ (g : List ℕ). segment g) (seeded_is f None e)
seeded_segment_at f (Some s) e = ap (λ (g : List ℕ). segment g) (seeded_is f (Some s) e) ∙ field_segment f s (ones (pseudo_of f s)) e

pub seeded_segment : (f : List ℕ) → segment (seeded f) ≡ segment f
seeded_segment f = seeded_segment_at f (segment f) refl

completed_flow_at : (f : List ℕ) (o : Option Segment) → segment f ≡ o → flow_of (completed f) ≡ flow_of f
completed_flow_at f None e = ap (λ (g : List ℕ). flow_of g) (completed_is f None e)
completed_flow_at f (Some s) e = ap (λ (g : List ℕ). flow_of g) (completed_is f (Some s) e) ∙ field_flow f s (complement (segment_sum f s)) e

pub completed_flow : (f : List ℕ) → flow_of (completed f) ≡ flow_of f
completed_flow f = completed_flow_at f (segment f) refl

completed_segment_at : (f : List ℕ) (o : Option Segment) → segment f ≡ o → segment (completed f) ≡ segment f
completed_segment_at f None e = ap (λ (g : List ℕ). segment g) (completed_is f None e)
completed_segment_at f (Some s) e = ap (λ (g : List ℕ). segment g) (completed_is f (Some s) e) ∙ field_segment f s (complement (segment_sum f s)) e

pub completed_segment : (f : List ℕ) → segment (completed f) ≡ segment f
completed_segment f = completed_segment_at f (segment f) refl

-- ------------------------------------------------------------ nothing but the field changes

seeded_keeps_at : (f : List ℕ) (o : Option Segment) → segment f ≡ o → KeepsAllBut o f (seeded f)
seeded_keeps_at f None e = seeded_is f None e
seeded_keeps_at f (Some s) e =
    let w : ℕ = ones (pseudo_of f s) in
    subst (λ (g : List ℕ). KeepsAllBut (Some s) f g) (sym (seeded_is f (Some s) e)) (put_word_length f (s.l4 + 16) w, put_word_other f (s.l4 + 16) w)

pub seeded_keeps : (f : List ℕ) → KeepsAllBut (segment f) f (seeded f)
seeded_keeps f = seeded_keeps_at f (segment f) refl

completed_keeps_at : (f : List ℕ) (o : Option Segment) → segment f ≡ o → KeepsAllBut o f (completed f)
completed_keeps_at f None e = completed_is f None e
completed_keeps_at f (Some s) e =
    let w : ℕ = complement (segment_sum f s) in
    subst (λ (g : List ℕ). KeepsAllBut (Some s) f g) (sym (completed_is f (Some s) e)) (put_word_length f (s.l4 + 16) w, put_word_other f (s.l4 + 16) w)

pub completed_keeps : (f : List ℕ) → KeepsAllBut (segment f) f (completed f)
completed_keeps f = completed_keeps_at f (segment f) refl

filled_keeps_at : (f : List ℕ) (o : Option Segment) → segment f ≡ o → KeepsAllBut o f (filled f)
filled_keeps_at f None e = filled_is f None e
filled_keeps_at f (Some s) e =
    let w : ℕ = complement (pseudo_of f s + segment_sum (with_field f s 0) s) in
    subst (λ (g : List ℕ). KeepsAllBut (Some s) f g) (sym (filled_is f (Some s) e)) (put_word_length f (s.l4 + 16) w, put_word_other f (s.l4 + 16) w)

pub filled_keeps : (f : List ℕ) → KeepsAllBut (segment f) f (filled f)
filled_keeps f = filled_keeps_at f (segment f) refl

-- ------------------------------------------------------------ seed and completion give the checksum

completed_seeded_at : (f : List ℕ) (o : Option Segment) → segment f ≡ o → completed (seeded f) ≡ filled f
completed_seeded_at f None e = ap (λ (g : List ℕ). completed g) (seeded_is f None e) ∙ completed_is f None e ∙ sym (filled_is f None e)
completed_seeded_at f (Some s) e =
    let p : ℕ = pseudo_of f s in
    let z : ℕ = segment_sum (with_field f s 0) s in
    let g : List ℕ = with_field f s (ones (pseudo_of f s)) in
    let found : segment (with_field f s (ones (pseudo_of f s))) ≡ Some s = field_segment f s (ones (pseudo_of f s)) e ∙ e in
    ap (λ (h : List ℕ). completed h) (seeded_is f (Some s) e)
    ∙ completed_is g (Some s) found
    ∙ ap (λ (n : ℕ). with_field g s (65535 - ones n)) (field_sum f s (ones p) e)
    ∙ ap (λ (n : ℕ). with_field g s (65535 - n)) (ones_again z p)
    ∙ ap (λ (n : ℕ). with_field g s (65535 - ones n)) (add_comm z p)
    ∙ put_word_again f (s.l4 + 16) (ones p) (65535 - ones (p + z))
    ∙ sym (filled_is f (Some s) e)

pub completed_seeded : (f : List ℕ) → completed (seeded f) ≡ filled f
completed_seeded f = completed_seeded_at f (segment f) refl

-- ------------------------------------------------------------ it is right

field_right : (f : List ℕ) (s : Segment) → segment f ≡ Some s → is_right (with_field f s (complement (pseudo_of f s + segment_sum (with_field f s 0) s))) s ≡ true
field_right f s e =
    let p : ℕ = pseudo_of f s in
    let z : ℕ = segment_sum (with_field f s 0) s in
    let w : ℕ = complement (p + z) in
    let pseudo : pseudo_of (with_field f s w) s ≡ p = field_pseudo f s w e in
    let sum : segment_sum (with_field f s w) s ≡ z + w = field_sum f s w e in
    let all : ones (pseudo_of (with_field f s w) s + segment_sum (with_field f s w) s) ≡ 65535 =
    (λ i. ones (pseudo i + sum i)) ∙ ap (λ (n : ℕ). ones n) (sym (add_assoc p z w)) ∙ ones_complement (p + z) in
    eq-eqb (ones (pseudo_of (with_field f s w) s + segment_sum (with_field f s w) s)) 65535 all

filled_right_at : (f : List ℕ) (o : Option Segment) → segment f ≡ o → is_right_at (filled f) (segment (filled f)) ≡ is_some o
filled_right_at f None e = ap (λ (g : List ℕ). is_right_at g (segment g)) (filled_is f None e) ∙ ap (λ (x : Option Segment). is_right_at f x) e
filled_right_at f (Some s) e =
    let w : ℕ = complement (pseudo_of f s + segment_sum (with_field f s 0) s) in
    let g : List ℕ = with_field f s w in
    let found : segment (with_field f s w) ≡ Some s = field_segment f s w e ∙ e in
    ap (λ (h : List ℕ). is_right_at h (segment h)) (filled_is f (Some s) e) ∙ ap (λ (x : Option Segment). is_right_at g x) found ∙ field_right f s e

-- every segment of a filled frame has a right checksum
pub filled_right : (f : List ℕ) → is_right_at (filled f) (segment (filled f)) ≡ is_some (segment f)
filled_right f = filled_right_at f (segment f) refl

-- ------------------------------------------------------------ marks

pub marked_some : (o : Option Segment) (mark : TxMark) → IsMarkOf o mark → is_some o ≡ true
marked_some None mark h = absurd h
marked_some (Some s) mark h = refl
