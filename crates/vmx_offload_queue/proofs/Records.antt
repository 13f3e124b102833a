-- Records that are written and sent, one by one.
use Rattle.std.proofs.Common.{◌≡◌, ℕ, ◌+◌, ◌<◌, ◌≤◌, Bool, true, false, cond, List, [], ◌∷◌, ◌++◌, length, Option, Some, None, is_some, refl, sym, ap, ◌∙◌, subst, arith, append_assoc, append-nil, length-append, add_assoc, All}
use Rattle.std.specs.Prelude.{nat_le, ◌&&◌, not, filter, count_by}
use Rattle.std.specs.List.{AllByRecursion}
use Rattle.std.proofs.lemmas.Bool.{le-leb, lt-leb, leb-true}
use Rattle.std.proofs.lemmas.List.Elements.{All-from_recursion}
use Rattle.std.proofs.lemmas.List.Sums.{sum_by-cons}
use Rattle.vmx_pcap.specs.declared.records.Stamped.{Stamped}
use Rattle.vmx_ends.specs.declared.meta.TxMark.{TxMark}
use Rattle.vmx_ends.specs.declared.frames.Sent.{Sent}
use Rattle.vmx_ends.specs.Frames.{sent_as, IsMarked}
use Rattle.vmx_checksum.specs.declared.answer.Segment.{Segment}
use Rattle.vmx_checksum.specs.Segment.{segment}
use Rattle.vmx_checksum.specs.Checksum.{filled, seeded, completed, is_right_at, IsMarkOf, KeepsAllBut}
use Rattle.vmx_checksum.specs.ChecksumLaws.{filled_is, seeded_is, completed_seeded, filled_keeps, filled_right, marked_some}
use Rattle.vmx_offload_queue.specs.declared.counts.Counts.{Counts}
use Rattle.vmx_offload_queue.specs.Records.{segment_in, is_filled, is_left, is_long, stays, counted, filled_frame, IsWritten, AreWritten, AreSeeded, Sends, written_of}

-- ------------------------------------------------------------ frames within the bounds, and others

within_by : (f : List ℕ) (b c : Bool) → nat_le 14 (length f) ≡ b → nat_le (length f) 9022 ≡ c → segment_in f ≡ cond (b && c) (segment f) None
within_by f b c low high = ap (λ (x : Bool). cond (x && nat_le (length f) 9022) (segment f) None) low ∙ ap (λ (y : Bool). cond (b && y) (segment f) None) high

pub within : (f : List ℕ) → 14 ≤ length f → length f ≤ 9022 → segment_in f ≡ segment f
within f low high = within_by f true true (le-leb 14 (length f) low) (le-leb (length f) 9022 high)

pub too_short : (f : List ℕ) → length f < 14 → segment_in f ≡ None
too_short f short = within_by f false (nat_le (length f) 9022) (lt-leb 14 (length f) short) refl

pub filled_short : (f : List ℕ) → length f < 14 → filled_frame f ≡ f
filled_short f short = ap (λ (b : Bool). cond b (filled f) f) (lt-leb 14 (length f) short)

pub filled_long : (f : List ℕ) → 14 ≤ length f → filled_frame f ≡ filled f
filled_long f long = ap (λ (b : Bool). cond b (filled f) f) (le-leb 14 (length f) long)

none_some : (s : Segment) → ◌≡◌ {A = Option Segment} None (Some s) → ⊥
none_some s e = cc

there : (b : Bool) (o : Option Segment) (s : Segment) → cond b o None ≡ Some s → o ≡ Some s
there true o s e = e
there false o s e = absurd (none_some s e)

-- a segment that a queue carries is the frame's
pub segment_there : (f : List ℕ) (s : Segment) → segment_in f ≡ Some s → segment f ≡ Some s
segment_there f s e = there (nat_le 14 (length f) && nat_le (length f) 9022) (segment f) s e

same_length : (o : Option Segment) (f g : List ℕ) → KeepsAllBut o f g → length g ≡ length f
same_length None f g same = ap (λ (x : List ℕ). length x) same
same_length (Some s) f g keeps = keeps.0

pub filled_length : (f : List ℕ) → length (filled f) ≡ length f
filled_length f = same_length (segment f) f (filled f) (filled_keeps f)

-- ------------------------------------------------------------ what is written

keeps_by : (f : List ℕ) (b : Bool) → nat_le 14 (length f) ≡ b → length f ≤ 9022 → KeepsAllBut (segment_in f) f (cond b (filled f) f)
keeps_by f true long high =
    subst (λ (o : Option Segment). KeepsAllBut o f (filled f)) (sym (within_by f true true long (le-leb (length f) 9022 high))) (filled_keeps f)
keeps_by f false short high = subst (λ (o : Option Segment). KeepsAllBut o f f) (sym (within_by f false true short (le-leb (length f) 9022 high))) refl

right_by : (f : List ℕ) (b : Bool) → nat_le 14 (length f) ≡ b → length f ≤ 9022 → is_right_at (cond b (filled f) f) (segment_in (cond b (filled f) f)) ≡ is_some (segment_in f)
right_by f true long high =
    let low : 14 ≤ length f = leb-true 14 (length f) long in
    let len = filled_length f in
    let inside : segment_in (filled f) ≡ segment (filled f) = within (filled f) (omega (arith, len, low)) (omega (arith, len, high)) in
    ap (λ (o : Option Segment). is_right_at (filled f) o) inside ∙ filled_right f ∙ ap (λ (o : Option Segment). is_some o) (sym (within f low high))
right_by f false short high =
    let none : segment_in f ≡ None = within_by f false true short (le-leb (length f) 9022 high) in
    ap (λ (o : Option Segment). is_right_at f o) none ∙ ap (λ (o : Option Segment). is_some o) (sym none)

-- a record that stays is written so
pub is_written : (r : Stamped) → length r.frame ≤ 9022 → IsWritten r (record r { frame = filled_frame r.frame })
is_written r high = record {
  seconds = refl;
  micros = refl;
  frame = refl;
  alone = keeps_by r.frame (nat_le 14 (length r.frame)) refl high;
  right = right_by r.frame (nat_le 14 (length r.frame)) refl high;
}

written_by : (all rest : List Stamped) (r : Stamped) (b : Bool) → stays r ≡ b → (old new : List Stamped)
    → ((outs : List Stamped) → AreWritten (cond b (r ∷ rest) rest) outs → AreWritten all (old ++ outs))
    → new ≡ old ++ cond b (record r { frame = filled_frame r.frame } ∷ []) []
    → (outs : List Stamped) → AreWritten rest outs → AreWritten all (new ++ outs)
written_by all rest r true is old new so_far grew outs h =
    let out : Stamped = record r { frame = filled_frame r.frame } in
    subst (λ (x : List Stamped). AreWritten all (x ++ outs)) (sym grew)
    (subst (λ (x : List Stamped). AreWritten all x) (sym (append_assoc old (out ∷ []) outs)) (so_far (out ∷ outs) (is_written r (leb-true (length r.frame) 9022 is), h)))
written_by all rest r false is old new so_far grew outs h =
    subst (λ (x : List Stamped). AreWritten all (x ++ outs)) (sym (grew ∙ append-nil old)) (so_far outs h)

-- the next record is written where it stays
pub written_next : (all rest : List Stamped) (r : Stamped) (old new : List Stamped)
    → ((outs : List Stamped) → AreWritten (filter stays (r ∷ rest)) outs → AreWritten all (old ++ outs))
    → new ≡ old ++ written_of r
    → (outs : List Stamped) → AreWritten (filter stays rest) outs → AreWritten all (new ++ outs)
written_next all rest r old new so_far grew = written_by all (filter stays rest) r (stays r) refl old new so_far grew

-- where no record waits, all are written
pub written_all : (all waiting outs : List Stamped) → ((more : List Stamped) → AreWritten (filter stays waiting) more → AreWritten all (outs ++ more)) → waiting ≡ [] → AreWritten all outs
written_all all waiting outs so_far none =
    subst (λ (x : List Stamped). AreWritten all x) (append-nil outs) (so_far [] (subst (λ (w : List Stamped). AreWritten (filter stays w) []) (sym none) tt))

short_by : (r : Stamped) (b : Bool) (rest outs : List Stamped) → stays r ≡ b
    → ((os : List Stamped) → AreWritten rest os → AllByRecursion (λ (x : Stamped). length x.frame ≤ 65535) os)
    → AreWritten (cond b (r ∷ rest) rest) outs → AllByRecursion (λ (x : Stamped). length x.frame ≤ 65535) outs
short_by r true rest [] is more h = absurd h
short_by r true rest (o ∷ os) is more h =
    let high : length r.frame ≤ 9022 = leb-true (length r.frame) 9022 is in
    let len : length o.frame ≡ length r.frame = same_length (segment_in r.frame) r.frame o.frame h.0.alone in
    (omega (arith, high, len), more os h.1)
short_by r false rest outs is more h = more outs h

short_each : (rs outs : List Stamped) → AreWritten (filter stays rs) outs → AllByRecursion (λ (x : Stamped). length x.frame ≤ 65535) outs
short_each [] [] h = tt
short_each [] (o ∷ os) h = absurd h
short_each (r ∷ rs) outs h = short_by r (stays r) (filter stays rs) outs refl (λ os k. short_each rs os k) h

-- what is written fits a capture
pub short_all : (rs outs : List Stamped) → AreWritten (filter stays rs) outs → All (λ (x : Stamped). length x.frame ≤ 65535) outs
short_all rs outs h = All-from_recursion _ _ (short_each rs outs h)

-- ------------------------------------------------------------ what is sent

sent_by : (all rest : List Stamped) (r : Stamped) (o : Option Segment) → segment_in r.frame ≡ o → (old new : List Sent)
    → ((more : List Sent) → AreSeeded (cond (is_some o) (r ∷ rest) rest) more → AreSeeded all (old ++ more))
    → Sends o r.frame old new
    → (more : List Sent) → AreSeeded rest more → AreSeeded all (new ++ more)
sent_by all rest r None is old new so_far same more h = subst (λ (x : List Sent). AreSeeded all (x ++ more)) (sym same) (so_far more h)
sent_by all rest r (Some s) is old new so_far (mark, asks, grew) more h =
    let one : Sent = sent_as (seeded r.frame) mark in
    subst (λ (x : List Sent). AreSeeded all (x ++ more)) (sym grew)
    (subst (λ (x : List Sent). AreSeeded all x) (sym (append_assoc old (one ∷ []) more))
    (so_far (one ∷ more) (record { frame = refl; mark = subst (λ (x : Option Segment). IsMarkOf x mark) (sym (segment_there r.frame s is)) asks }, h)))

-- the next record's frame is sent where it has a segment
pub sent_next : (all rest : List Stamped) (r : Stamped) (old new : List Sent)
    → ((more : List Sent) → AreSeeded (filter is_filled (r ∷ rest)) more → AreSeeded all (old ++ more))
    → Sends (segment_in r.frame) r.frame old new
    → (more : List Sent) → AreSeeded (filter is_filled rest) more → AreSeeded all (new ++ more)
sent_next all rest r old new so_far sends = sent_by all (filter is_filled rest) r (segment_in r.frame) refl old new so_far sends

pub sent_all : (all waiting : List Stamped) (sent : List Sent) → ((more : List Sent) → AreSeeded (filter is_filled waiting) more → AreSeeded all (sent ++ more)) → waiting ≡ [] → AreSeeded all sent
sent_all all waiting sent so_far none =
    subst (λ (x : List Sent). AreSeeded all x) (append-nil sent) (so_far [] (subst (λ (w : List Stamped). AreSeeded (filter is_filled w) []) (sym none) tt))

-- a frame adds at most one
pub sends_one : (o : Option Segment) (f : List ℕ) (old new : List Sent) → Sends o f old new → length new ≤ length old + 1
sends_one None f old new same = let len = ap (λ (x : List Sent). length x) same in omega (arith, len)
sends_one (Some s) f old new (mark, asks, grew) =
    let len : length new ≡ length old + 1 = ap (λ (x : List Sent). length x) grew ∙ length-append old (sent_as (seeded f) mark ∷ []) in omega (arith, len)

-- ------------------------------------------------------------ marks

-- a mark without a tag goes with every frame
pub marked : (o : Option Segment) (mark : TxMark) (f : List ℕ) → IsMarkOf o mark → 14 ≤ length f → length f ≤ 9022 → IsMarked f mark
marked None mark f h low high = absurd h
marked (Some s) mark f h low high = ((low, high), rw h.tci (λ none. absurd none))

pub sends_of : (o : Option Segment) (mark : TxMark) (f : List ℕ) (old new : List Sent) → IsMarkOf o mark → new ≡ old ++ sent_as (seeded f) mark ∷ [] → Sends o f old new
sends_of None mark f old new h grew = absurd h
sends_of (Some s) mark f old new h grew = (mark, h, grew)

-- ------------------------------------------------------------ counts

pub count_next : (p : Stamped → Bool) (r : Stamped) (rest : List Stamped) (count all : ℕ) → count + count_by p (r ∷ rest) ≡ all → count + cond (p r) 1 0 + count_by p rest ≡ all
count_next p r rest count all so_far =
    add_assoc count (cond (p r) 1 0) (count_by p rest) ∙ ap (λ (n : ℕ). count + n) (sym (sum_by-cons (λ (x : Stamped). cond (p x) 1 0) r rest)) ∙ so_far

pub count_all : (p : Stamped → Bool) (waiting : List Stamped) (count all : ℕ) → count + count_by p waiting ≡ all → waiting ≡ [] → count ≡ all
count_all p waiting count all so_far none =
    sym (add_zero count) ∙ ap (λ (w : List Stamped). count + count_by p w) (sym none) ∙ so_far
  where
    add_zero : (n : ℕ) → n + 0 ≡ n
    add_zero n = omega arith

same_counts : (a b : Counts) → a.filled ≡ b.filled → a.left ≡ b.left → a.long ≡ b.long → a ≡ b
same_counts a b filled left long i = record { filled = filled i; left = left i; long = long i }

none_more : (n : ℕ) (b : Bool) → b ≡ false → n ≡ n + cond b 1 0
none_more n b e = rw e (omega arith)

one_more : (n : ℕ) (b : Bool) → b ≡ true → n + 1 ≡ n + cond b 1 0
one_more n b e = rw e refl

left_is : (r : Stamped) (b c : Bool) → stays r ≡ b → is_filled r ≡ c → is_left r ≡ (b && not c)
left_is r b c stay fill i = stay i && not (fill i)

long_is : (r : Stamped) (b : Bool) → stays r ≡ b → is_long r ≡ not b
long_is r b stay i = not (stay i)

none_by : (f : List ℕ) (b : Bool) → nat_le 14 (length f) ≡ b → 9022 < length f → segment_in f ≡ None
none_by f true low long = within_by f true false low (lt-leb (length f) 9022 long)
none_by f false low long = within_by f false false low (lt-leb (length f) 9022 long)

-- more than 9,022 bytes
pub too_long : (f : List ℕ) → 9022 < length f → segment_in f ≡ None
too_long f long = none_by f (nat_le 14 (length f)) refl long

-- ------------------------------------------------------------ the fate of one record

pub counted_long : (r : Stamped) (c : Counts) → 9022 < length r.frame → record c { long = c.long + 1 } ≡ counted r c
counted_long r c long =
    let stay : stays r ≡ false = lt-leb (length r.frame) 9022 long in
    let fill : is_filled r ≡ false = ap (λ (o : Option Segment). is_some o) (too_long r.frame long) in
    same_counts (record c { long = c.long + 1 }) (counted r c) (none_more c.filled (is_filled r) fill) (none_more c.left (is_left r) (left_is r false false stay fill)) (one_more c.long (is_long r) (long_is r false stay))

pub counted_filled : (r : Stamped) (c : Counts) → length r.frame ≤ 9022 → is_filled r ≡ true → record c { filled = c.filled + 1 } ≡ counted r c
counted_filled r c high fill =
    let stay : stays r ≡ true = le-leb (length r.frame) 9022 high in
    same_counts (record c { filled = c.filled + 1 }) (counted r c) (one_more c.filled (is_filled r) fill) (none_more c.left (is_left r) (left_is r true true stay fill)) (none_more c.long (is_long r) (long_is r true stay))

pub counted_left : (r : Stamped) (c : Counts) → length r.frame ≤ 9022 → is_filled r ≡ false → record c { left = c.left + 1 } ≡ counted r c
counted_left r c high fill =
    let stay : stays r ≡ true = le-leb (length r.frame) 9022 high in
    same_counts (record c { left = c.left + 1 }) (counted r c) (none_more c.filled (is_filled r) fill) (one_more c.left (is_left r) (left_is r true false stay fill)) (none_more c.long (is_long r) (long_is r true stay))

pub written_long : (r : Stamped) (old : List Stamped) → 9022 < length r.frame → old ≡ old ++ written_of r
written_long r old long = sym (append-nil old) ∙ ap (λ (b : Bool). old ++ cond b (record r { frame = filled_frame r.frame } ∷ []) []) (sym (lt-leb (length r.frame) 9022 long))

-- the record that is put behind the others
pub written_kept : (r out : Stamped) (old new : List Stamped) → length r.frame ≤ 9022 → out.seconds ≡ r.seconds → out.micros ≡ r.micros → out.frame ≡ filled_frame r.frame → new ≡ old ++ out ∷ [] → new ≡ old ++ written_of r
written_kept r out old new high seconds micros frame grew =
    let same : out ≡ record r { frame = filled_frame r.frame } = λ i. record { seconds = seconds i; micros = micros i; frame = frame i } in
    grew ∙ ap (λ (x : Stamped). old ++ x ∷ []) same
    ∙ ap (λ (b : Bool). old ++ cond b (record r { frame = filled_frame r.frame } ∷ []) []) (sym (le-leb (length r.frame) 9022 high))

pub sends_none : (f : List ℕ) (sent : List Sent) → 9022 < length f → Sends (segment_in f) f sent sent
sends_none f sent long = subst (λ (o : Option Segment). Sends o f sent sent) (sym (too_long f long)) refl

-- ------------------------------------------------------------ a frame through the queue

-- what became of a frame: the answer, the frame that stands in its place, and what was sent
pub record IsDone (f : List ℕ) (told : Bool) (now : List ℕ) (old new : List Sent) : Type 0 where
  pub told_is : told ≡ is_some (segment_in f)
  pub frame : now ≡ filled_frame f
  pub sent : Sends (segment_in f) f old new

not_sent : (f : List ℕ) (sent : List Sent) → segment_in f ≡ None → Sends (segment_in f) f sent sent
not_sent f sent none = subst (λ (o : Option Segment). Sends o f sent sent) (sym none) refl

-- fewer than 14 bytes
pub done_short : (f : List ℕ) (sent : List Sent) → length f < 14 → IsDone f false f sent sent
done_short f sent short =
    let none : segment_in f ≡ None = too_short f short in
    record { told_is = ap (λ (o : Option Segment). is_some o) (sym none); frame = sym (filled_short f short); sent = not_sent f sent none }

-- no segment
pub done_none : (f g : List ℕ) (sent : List Sent) → 14 ≤ length f → length f ≤ 9022 → g ≡ seeded f → segment f ≡ None → IsDone f false g sent sent
done_none f g sent low high is none_there =
    let none : segment_in f ≡ None = within f low high ∙ none_there in
    record {
      told_is = ap (λ (o : Option Segment). is_some o) (sym none);
      frame = is ∙ seeded_is f None none_there ∙ sym (filled_is f None none_there) ∙ sym (filled_long f low);
      sent = not_sent f sent none;
    }

-- a segment
pub done_some : (f g h : List ℕ) (mark : TxMark) (old new : List Sent) → 14 ≤ length f → length f ≤ 9022 → g ≡ seeded f → IsMarkOf (segment f) mark → h ≡ completed g → new ≡ old ++ sent_as g mark ∷ [] → IsDone f true h old new
done_some f g h mark old new low high is asks made grew =
    let inside : segment_in f ≡ segment f = within f low high in
    record {
      told_is = sym (ap (λ (o : Option Segment). is_some o) inside ∙ marked_some (segment f) mark asks);
      frame = made ∙ ap (λ (x : List ℕ). completed x) is ∙ completed_seeded f ∙ sym (filled_long f low);
      sent = subst (λ (o : Option Segment). Sends o f old new) (sym inside) (sends_of (segment f) mark f old new asks (grew ∙ ap (λ (x : List ℕ). old ++ sent_as x mark ∷ []) is));
    }

-- ------------------------------------------------------------ the loop over all records

-- nothing is written, sent or counted yet
pub written_start : (all waiting begun : List Stamped) → waiting ≡ all → begun ≡ [] → (outs : List Stamped) → AreWritten (filter stays waiting) outs → AreWritten (filter stays all) (begun ++ outs)
written_start all waiting begun same none outs h =
    subst (λ (x : List Stamped). AreWritten (filter stays all) (x ++ outs)) (sym none) (subst (λ (w : List Stamped). AreWritten (filter stays w) outs) same h)

pub sent_start : (all waiting : List Stamped) (sent : List Sent) → waiting ≡ all → sent ≡ [] → (more : List Sent) → AreSeeded (filter is_filled waiting) more → AreSeeded (filter is_filled all) (sent ++ more)
sent_start all waiting sent same none more h =
    subst (λ (x : List Sent). AreSeeded (filter is_filled all) (x ++ more)) (sym none) (subst (λ (w : List Stamped). AreSeeded (filter is_filled w) more) same h)

pub count_start : (p : Stamped → Bool) (all waiting : List Stamped) → waiting ≡ all → 0 + count_by p waiting ≡ count_by p all
count_start p all waiting same = let count = ap (λ (w : List Stamped). count_by p w) same in omega (arith, count)

-- one record more
pub written_step : (all waiting rest : List Stamped) (r : Stamped) (old new : List Stamped) → waiting ≡ r ∷ rest
    → ((outs : List Stamped) → AreWritten (filter stays waiting) outs → AreWritten all (old ++ outs))
    → new ≡ old ++ written_of r
    → (outs : List Stamped) → AreWritten (filter stays rest) outs → AreWritten all (new ++ outs)
written_step all waiting rest r old new next so_far grew =
    written_next all rest r old new (λ (outs : List Stamped) h. so_far outs (subst (λ (w : List Stamped). AreWritten (filter stays w) outs) (sym next) h)) grew

pub sent_step : (all waiting rest : List Stamped) (r : Stamped) (old new : List Sent) → waiting ≡ r ∷ rest
    → ((more : List Sent) → AreSeeded (filter is_filled waiting) more → AreSeeded all (old ++ more))
    → Sends (segment_in r.frame) r.frame old new
    → (more : List Sent) → AreSeeded (filter is_filled rest) more → AreSeeded all (new ++ more)
sent_step all waiting rest r old new next so_far sends =
    sent_next all rest r old new (λ (more : List Sent) h. so_far more (subst (λ (w : List Stamped). AreSeeded (filter is_filled w) more) (sym next) h)) sends

pub count_step : (p : Stamped → Bool) (waiting rest : List Stamped) (r : Stamped) (old new all : ℕ) → waiting ≡ r ∷ rest → old + count_by p waiting ≡ all → new ≡ old + cond (p r) 1 0 → new + count_by p rest ≡ all
count_step p waiting rest r old new all next so_far grew =
    ap (λ (n : ℕ). n + count_by p rest) grew ∙ count_next p r rest old all (ap (λ (w : List Stamped). old + count_by p w) (sym next) ∙ so_far)
