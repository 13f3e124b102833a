-- Frames that are cut, and others.
use Rattle.std.proofs.Common.{◌≡◌, ℕ, ◌+◌, ◌≤◌, ◌<◌, Bool, true, false, cond, List, Option, Some, None, refl, sym, ap, ◌∙◌, subst}
use Rattle.std.specs.Prelude.{nat_le, nat_lt, ◌&&◌}
use Rattle.std.proofs.lemmas.Bool.{and_parts, leb-true, le-ltb, lt-ltb, ltb-true}
use Rattle.vmx_checksum.specs.declared.answer.Segment.{Segment}
use Rattle.vmx_checksum.specs.Segment.{segment}
use Rattle.vmx_segmentation.specs.Header.{header_end, header_in, header}
use Rattle.vmx_segmentation.specs.Cuts.{is_longer, is_cut}

pub no_segment : (f : List ℕ) (mss : ℕ) → segment f ≡ None → is_cut f mss ≡ false
no_segment f mss none = ap (λ (o : Option Segment). is_longer o (header_in f o) mss) none

none_behind : (o : Option Segment) (mss : ℕ) → is_longer o None mss ≡ false
none_behind None mss = refl
none_behind (Some s) mss = refl

pub no_header : (f : List ℕ) (mss : ℕ) → header f ≡ None → is_cut f mss ≡ false
no_header f mss none = ap (λ (h : Option ℕ). is_longer (segment f) h mss) none ∙ none_behind (segment f) mss

pub cut_by : (f : List ℕ) (mss h : ℕ) (s : Segment) → segment f ≡ Some s → header f ≡ Some h → is_cut f mss ≡ nat_lt (h + mss) s.end
cut_by f mss h s found is i = is_longer (found i) (is i) mss

pub not_longer : (f : List ℕ) (mss h : ℕ) (s : Segment) → segment f ≡ Some s → header f ≡ Some h → s.end ≤ h + mss → is_cut f mss ≡ false
not_longer f mss h s found is le = cut_by f mss h s found is ∙ le-ltb (h + mss) s.end le

pub longer : (f : List ℕ) (mss h : ℕ) (s : Segment) → segment f ≡ Some s → header f ≡ Some h → h + mss < s.end → is_cut f mss ≡ true
longer f mss h s found is lt = cut_by f mss h s found is ∙ lt-ltb (h + mss) s.end lt

pub longer_back : (f : List ℕ) (mss h : ℕ) (s : Segment) → segment f ≡ Some s → header f ≡ Some h → is_cut f mss ≡ true → h + mss < s.end
longer_back f mss h s found is cuts_it = ltb-true (h + mss) s.end (sym (cut_by f mss h s found is) ∙ cuts_it)

none_some : (h : ℕ) → ◌≡◌ {A = Option ℕ} None (Some h) → ⊥
none_some h e = cc

-- a frame without a segment has no header
pub never_without : (f : List ℕ) (h : ℕ) → segment f ≡ None → header f ≡ Some h → ⊥
never_without f h none is = none_some h (sym (ap (λ (o : Option Segment). header_in f o) none) ∙ is)

some_same : (a b : ℕ) → ◌≡◌ {A = Option ℕ} (Some a) (Some b) → a ≡ b
some_same a b e = cc

lawful_by : (f : List ℕ) (s : Segment) (h : ℕ) (w : Bool) → (nat_le (s.l4 + 20) (header_end f s) && nat_le (header_end f s) s.end) ≡ w → cond w (Some (header_end f s)) None ≡ Some h → s.l4 + 20 ≤ h
lawful_by f s h true parts is =
    let both = and_parts (nat_le (s.l4 + 20) (header_end f s)) (nat_le (header_end f s) s.end) parts in
    subst (λ (n : ℕ). s.l4 + 20 ≤ n) (some_same (header_end f s) h is) (leb-true (s.l4 + 20) (header_end f s) both.0)
lawful_by f s h false parts is = absurd (none_some h is)

-- a header has room
pub header_room : (f : List ℕ) (s : Segment) (h : ℕ) → segment f ≡ Some s → header f ≡ Some h → s.l4 + 20 ≤ h
header_room f s h found is =
    lawful_by f s h (nat_le (s.l4 + 20) (header_end f s) && nat_le (header_end f s) s.end) refl (sym (ap (λ (o : Option Segment). header_in f o) found) ∙ is)
