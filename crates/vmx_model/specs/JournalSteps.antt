-- A journal stays lawful while it and the lists beside it grow.
use Rattle.std.proofs.Common.{◌≡◌, ℕ, zero, suc, ◌≤◌, List, [], ◌∷◌, ◌++◌, length, length-append, take, ◌+◌, ◌∙◌, refl, ap, arith, append-nil, append_assoc, Option, Some}
use Rattle.std.specs.List.{slice_get}
use Rattle.vmx_model.specs.Types.{Entry, Fate, Verdict, Setup, Packet}
use Rattle.vmx_model.specs.declared.journal.Entry.TheVariants as entry
use Rattle.vmx_model.specs.Lists.{EachAfter, count}
use Rattle.std.specs.Prelude.{Bool, filter}
use Rattle.std.proofs.lemmas.List.Elements.{filter-append}
use Rattle.vmx_device_state.specs.DeviceState.{DeviceState, state_from, Idle, Active}
use Rattle.vmx_device_state.specs.declared.turn.Turn.{Turn}
use Rattle.vmx_device_state.specs.Deals.{held_after}
use Rattle.vmx_model.specs.Answers.{ComesBack}
use Rattle.vmx_device_state.specs.SetupView.{SetupView}
use Rattle.vmx_filters.specs.declared.answer.Verdict.TheVariants as verdict
use Rattle.vmx_model.specs.declared.journal.Fate.TheVariants as fate
use Rattle.vmx_model.specs.Setups.{admits}
use Rattle.vmx_model.specs.Journal.{Beside, IsTaken, IsAdmitted, IsShown, IsLawful, IsLawfulJournal, ShowsSetup, is_setting, has_setup, state_at, packet_at}

count-append : {X : Type 0} (test : X → Bool) (xs ys : List X) → count test (xs ++ ys) ≡ count test xs + count test ys
count-append test xs ys = ap length (filter-append test xs ys) ∙ length-append (filter test xs) (filter test ys)

-- one more entry, in the light of all before it
pub each_push : {X : Type 0} (P : List X → X → Type 0) (before xs : List X) (x : X) → EachAfter P before xs → P (before ++ xs) x → EachAfter P before (xs ++ x ∷ [])
each_push P before [] x h k = (rw append-nil at k, tt)
each_push {X} P before (y ∷ ys) x h k = (h.0, each_push P (before ++ y ∷ []) ys x h.1 (rw (append_assoc before (y ∷ []) ys) k))

-- what each entry says goes on to hold
pub each_weaker : {X : Type 0} (P Q : List X → X → Type 0) → ((before : List X) (x : X) → P before x → Q before x) → (before xs : List X) → EachAfter P before xs → EachAfter Q before xs
each_weaker P Q k before [] h = tt
each_weaker P Q k before (x ∷ xs) h = (k before x h.0, each_weaker P Q k (before ++ x ∷ []) xs h.1)

pub each_append : {X : Type 0} (P : List X → X → Type 0) (before xs ys : List X) → EachAfter P before xs → EachAfter P (before ++ xs) ys → EachAfter P before (xs ++ ys)
each_append P before [] ys h k = rw append-nil at k
each_append {X} P before (x ∷ xs) ys h k = (h.0, each_append P (before ++ x ∷ []) xs ys h.1 (rw (append_assoc before (x ∷ []) xs) k))

-- ------------------------------------------------------------ lawful journals

get_append : {X : Type 0} (xs ys : List X) (k : ℕ) (x : X) → slice_get xs k ≡ Some x → slice_get (xs ++ ys) k ≡ Some x
get_append [] ys k x h = absurd (cc h)
get_append (y ∷ xs) ys zero x h = h
get_append (y ∷ xs) ys (suc k) x h = get_append xs ys k x h

take_append : {X : Type 0} (n : ℕ) (xs ys : List X) → n ≤ length xs → take n (xs ++ ys) ≡ take n xs
take_append zero xs ys le = refl
take_append (suc n) [] ys le = absurd (omega arith)
take_append (suc n) (x ∷ xs) ys le = ap (λ (zs : List _). x ∷ zs) (take_append n xs ys (omega arith))

-- later values beside a journal: more commands, more packets
pub record Extends (old new : Beside) : Type 0 where
  pub port : new.port ≡ old.port
  pub mac : new.mac ≡ old.mac
  pub stopped : new.stopped ≡ old.stopped
  pub more : List Turn
  pub told : new.told ≡ old.told ++ more
  pub links : (from place : ℕ) (p : Packet) → packet_at old.links from old.port place ≡ Some p → packet_at new.links from new.port place ≡ Some p

shows_more : (setups more : List Setup) (n : ℕ) (index : Option ℕ) (s : DeviceState) → ShowsSetup setups n index s → ShowsSetup (setups ++ more) n index s
shows_more setups more n index Idle h = h
shows_more setups more n index (Active s) h = (h.0, (h.1.0, get_append setups more n h.1.0 h.1.1, h.1.2))

-- the state at an entry stays while commands are added
pub told_taken : (old new : Beside) → Extends old new → (before : List Entry) (e : Entry) → count is_setting (before ++ e ∷ []) ≤ length old.told → state_at new.told before ≡ state_at old.told before
told_taken old new x before e le =
    let enough : count is_setting before ≤ length old.told = omega (arith, le, count-append is_setting before (e ∷ [])) in
    let taken : take (count is_setting before) new.told ≡ take (count is_setting before) old.told = rw x.told (take_append (count is_setting before) old.told x.more enough) in
    ap (state_from Idle) taken

taken_grows : (old new : Beside) → Extends old new → (before : List Entry) (s : SetupView) (frame : List ℕ) (f : Fate) → IsTaken old before s frame f → IsTaken new before s frame f
taken_grows old new x before s frame (fate.Up a q k) h = (h.0, h.1, h.2, rw x.stopped h.3)
taken_grows old new x before s frame (fate.NoBuffer a q ring position look) h = (h.0, h.1, h.2, h.3, rw x.stopped h.4)
taken_grows old new x before s frame (fate.Stopped a q) h = (h.0, h.1, rw x.stopped h.2)
taken_grows old new x before s frame (fate.LinkFull look) h = h
taken_grows old new x before s frame fate.Inactive h = h
taken_grows old new x before s frame (fate.Filtered r) h = h
taken_grows old new x before s frame fate.Discarded h = h
taken_grows old new x before s frame fate.NoPort h = h
taken_grows old new x before s frame fate.Down h = h
taken_grows old new x before s frame fate.Short h = h
taken_grows old new x before s frame fate.TooLong h = h

admitted_grows : (old new : Beside) → Extends old new → (before : List Entry) (s : SetupView) (frame : List ℕ) (f : Fate) (w : Verdict) → IsAdmitted old before s frame f w → IsAdmitted new before s frame f w
admitted_grows old new x before s frame f verdict.Yes h = taken_grows old new x before s frame f h
admitted_grows old new x before s frame f (verdict.No r) h = h

-- what is shown goes on to be shown
shown_grows : (old new : Beside) → Extends old new → (before : List Entry) (frame : List ℕ) (f : Fate) (d : DeviceState) → IsShown old before frame f d → IsShown new before frame f d
shown_grows old new x before frame f Idle h = h
shown_grows old new x before frame f (Active s) h = admitted_grows old new x before s frame f (admits s new.mac frame) (rw x.mac h)

entry_grows : (old new : Beside) → Extends old new → (setups more : List Setup) (before : List Entry) (e : Entry) → count is_setting (before ++ e ∷ []) ≤ length old.told → IsLawful old setups before e → IsLawful new (setups ++ more) before e
entry_grows old new x setups more before (entry.Setting number answer setup) le h =
    let enough : suc (count is_setting before) ≤ length old.told = omega (arith, le, count-append is_setting before (entry.Setting number answer setup ∷ [])) in
    let same : take (suc (count is_setting before)) new.told ≡ take (suc (count is_setting before)) old.told = rw x.told (take_append (suc (count is_setting before)) old.told x.more enough) in
    let taken : take (count is_setting before) new.told ≡ take (count is_setting before) old.told = rw x.told (take_append (count is_setting before) old.told x.more (omega (arith, enough))) in
    let state : state_at new.told before ≡ state_at old.told before = ap (state_from Idle) taken in
    let back : ComesBack (held_after (take (count is_setting before) new.told)) h.0.0 = rw taken h.0.5 in
    ((h.0.0, rw x.told (get_append old.told x.more (count is_setting before) h.0.0 h.0.1), h.0.2, h.0.3, rw (state, x.mac) h.0.4, back), rw same (shows_more setups more (count has_setup before) setup (state_from Idle (take (suc (count is_setting before)) old.told)) h.1))
entry_grows old new x setups more before (entry.Out tag target w) le h =
    let enough : count is_setting before ≤ length old.told = omega (arith, le, count-append is_setting before (entry.Out tag target w ∷ [])) in
    let taken : take (count is_setting before) new.told ≡ take (count is_setting before) old.told = rw x.told (take_append (count is_setting before) old.told x.more enough) in
    let same : state_at new.told before ≡ state_at old.told before = ap (state_from Idle) taken in
    (rw x.port h.0, h.1, rw same h.2)
entry_grows old new x setups more before (entry.Lost tag) le h =
    let enough : count is_setting before ≤ length old.told = omega (arith, le, count-append is_setting before (entry.Lost tag ∷ [])) in
    let taken : take (count is_setting before) new.told ≡ take (count is_setting before) old.told = rw x.told (take_append (count is_setting before) old.told x.more enough) in
    let same : state_at new.told before ≡ state_at old.told before = ap (state_from Idle) taken in
    (rw x.port h.0, h.1, rw same h.2)
entry_grows old new x setups more before (entry.In from place f) le h =
    let enough : count is_setting before ≤ length old.told = omega (arith, le, count-append is_setting before (entry.In from place f ∷ [])) in
    let taken : take (count is_setting before) new.told ≡ take (count is_setting before) old.told = rw x.told (take_append (count is_setting before) old.told x.more enough) in
    let same : state_at new.told before ≡ state_at old.told before = ap (state_from Idle) taken in
    (h.0, x.links from place h.0 h.1, rw same (shown_grows old new x before h.0.frame f (state_at old.told before) h.2))

pub fewer : (before : List Entry) (e : Entry) (es : List Entry) → count is_setting (before ++ e ∷ []) ≤ count is_setting (before ++ e ∷ es)
fewer before e es = omega (arith, count-append is_setting before (e ∷ []), count-append is_setting before (e ∷ es), count-append is_setting (e ∷ []) es)

-- a lawful journal stays lawful while commands, packets and setups are added
pub lawful_grows : (old new : Beside) → Extends old new → (setups more : List Setup) (before es : List Entry) → count is_setting (before ++ es) ≤ length old.told → EachAfter (IsLawful old setups) before es → EachAfter (IsLawful new (setups ++ more)) before es
lawful_grows old new x setups more before [] le h = tt
lawful_grows old new x setups more before (e ∷ es) le h =
    let here : count is_setting (before ++ e ∷ []) ≤ length old.told = omega (arith, le, fewer before e es) in
    let rest : count is_setting ((before ++ e ∷ []) ++ es) ≤ length old.told = rw (append_assoc before (e ∷ []) es) le in
    (entry_grows old new x setups more before e here h.0, lawful_grows old new x setups more (before ++ e ∷ []) es rest h.1)

-- a journal that is lawful beside shorter lists is lawful beside longer ones, where all its commands lie in the shorter ones
pub stays : (old new : Beside) → Extends old new → (setups : List Setup) (es : List Entry) → count is_setting es ≤ length old.told → IsLawfulJournal old es setups → IsLawfulJournal new es setups
stays old new x setups es le h = record {
  each = let all : EachAfter (IsLawful new (setups ++ [])) [] es = lawful_grows old new x setups [] [] es le h.each in rw (append-nil setups) at all;
  no_more = h.no_more;
}

-- the step of a device: all beside grows, and one lawful entry is added
pub lawful_push : (old new : Beside) → Extends old new → (setups more : List Setup) (es : List Entry) (e : Entry) → count is_setting es ≤ length old.told → EachAfter (IsLawful old setups) [] es → IsLawful new (setups ++ more) es e → EachAfter (IsLawful new (setups ++ more)) [] (es ++ e ∷ [])
lawful_push old new x setups more es e le h k = each_push (IsLawful new (setups ++ more)) [] es e (lawful_grows old new x setups more [] es le h) k

-- the same with the number of setups: an entry puts as many in force as it shows
pub journal_push : (old new : Beside) → Extends old new → (setups more : List Setup) (es : List Entry) (e : Entry) → count is_setting es ≤ length old.told → IsLawfulJournal old es setups → IsLawful new (setups ++ more) es e → length more ≡ count has_setup (e ∷ []) → IsLawfulJournal new (es ++ e ∷ []) (setups ++ more)
journal_push old new x setups more es e le h k shown = record {
  each = lawful_push old new x setups more es e le h.each k;
  no_more = length-append setups more ∙ omega (arith, h.no_more, shown, count-append has_setup es (e ∷ []));
}
