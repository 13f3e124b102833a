-- When each refusal must come.
use Rattle.std.proofs.Common.{◌≡◌, ℕ, ◌≤◌, ◌<◌, List, length, Option, Some, None, refl, sym, ap, ◌∙◌, subst, arith, inl, inr}
use Rattle.vmx_io.specs.Outside.{Files, content, Rose}
use Rattle.vmx_pcap.specs.declared.records.Stamped.{Stamped}
use Rattle.vmx_pcap.specs.declared.fault.CaptureFault.{CaptureFault}
use Rattle.vmx_pcap.specs.Faults.{fault_at}
use Rattle.vmx_pcap.specs.Unique.{no_fault}
use Rattle.vmx_tool.specs.declared.status.Status.{Status}
use Rattle.vmx_tool.specs.declared.status.Status.TheVariants as status
use Rattle.vmx_pair.specs.declared.«record».Record.{Record}
use Rattle.vmx_tool.specs.Words.{pair_of}
use Rattle.vmx_tool.specs.Ends.{World, Ends, Replays, HoldsCapture, EndsAt, EndsAtOneOf}

some_same : (m n : List ℕ × List ℕ) → ◌≡◌ {A = Option (List ℕ × List ℕ)} (Some m) (Some n) → m ≡ n
some_same m n e = cc

names_none : (words : List (List ℕ)) (n : List ℕ × List ℕ) → pair_of words ≡ Some n → pair_of words ≡ None → ⊥
names_none words n p q = let e : ◌≡◌ {A = Option (List ℕ × List ℕ)} (Some n) None = sym p ∙ q in cc

same_from : (words : List (List ℕ)) (a b c d : List ℕ) → pair_of words ≡ Some (a, b) → pair_of words ≡ Some (c, d) → a ≡ c
same_from words a b c d p q = ap (λ n. n.0) (some_same (a, b) (c, d) (sym p ∙ q))

pub usage_only : (s : Status) (account : Option Record) (words : List (List ℕ)) (w v : World) → Ends s account words w v → pair_of words ≡ None → EndsAt s status.Usage
usage_only status.Ok account words w v h none = absurd (names_none words _ h.replays.words_are none)
usage_only status.Usage account words w v h none = inl refl
usage_only status.Capture account words w v h none = absurd (names_none words _ h.1.words_are none)
usage_only status.TooLong account words w v h none = absurd (names_none words _ h.words_are none)
usage_only status.ReadFault account words w v h none = absurd (names_none words _ h.words_are none)
usage_only status.WriteFault account words w v h none = absurd (names_none words _ h.replays.words_are none)
usage_only status.NoMemory account words w v h none = inr refl

-- a replayed capture is not too long
not_long : (words : List (List ℕ)) (w : World) (account : Option Record) (from to : List ℕ) (files : Files) → Replays words w.files account → pair_of words ≡ Some (from, to) → w.files ≡ Some files → 67108864 < length (content files from) → ⊥
not_long words w account from to files r names told long =
    let held = r.captured files told in
    let same : length (content files r.from) ≡ length (content files from) = ap (λ n. length (content files n)) (same_from words r.from r.to from to r.words_are names) in
    let within = held.within in omega arith

some_none : (e : CaptureFault) (o : Option CaptureFault) → o ≡ Some e → o ≡ None → ⊥
some_none e o p q = let same : ◌≡◌ {A = Option CaptureFault} (Some e) None = sym p ∙ q in cc

-- a replayed capture has no fault
never_faulty : (words : List (List ℕ)) (w : World) (account : Option Record) (from to : List ℕ) (files : Files) (e : CaptureFault) → Replays words w.files account → pair_of words ≡ Some (from, to) → w.files ≡ Some files → fault_at (content files from) 262144 ≡ Some e → ⊥
never_faulty words w account from to files e r names told fault =
    let held = r.captured files told in
    let same : fault_at (content files r.from) 262144 ≡ Some e = subst (λ n. fault_at (content files n) 262144 ≡ Some e) (sym (same_from words r.from r.to from to r.words_are names)) fault in
    some_none e (fault_at (content files r.from) 262144) same (no_fault (content files r.from) 262144 r.capture.records r.capture.tail held.capture r.few)

pub too_long_only : (s : Status) (account : Option Record) (words : List (List ℕ)) (w v : World) → Ends s account words w v → (from to : List ℕ) (files : Files) → pair_of words ≡ Some (from, to) → w.files ≡ Some files → 67108864 < length (content files from) → EndsAtOneOf s status.TooLong status.ReadFault
too_long_only status.Ok account words w v h from to files names told long = absurd (not_long words w account from to files h.replays names told long)
too_long_only status.Usage account words w v h from to files names told long = absurd (names_none words (from, to) names h.words_are)
too_long_only status.Capture account words w v h from to files names told long =
    absurd (let fits = (h.1.cause files told).0 in let same : length (content files h.1.from) ≡ length (content files from) = ap (λ n. length (content files n)) (same_from words h.1.from h.1.to from to h.1.words_are names) in omega arith)
too_long_only status.TooLong account words w v h from to files names told long = inl refl
too_long_only status.ReadFault account words w v h from to files names told long = inr (inl refl)
too_long_only status.WriteFault account words w v h from to files names told long = absurd (not_long words w account from to files h.replays names told long)
too_long_only status.NoMemory account words w v h from to files names told long = inr (inr refl)

pub capture_only : (s : Status) (account : Option Record) (words : List (List ℕ)) (w v : World) → Ends s account words w v → (from to : List ℕ) (files : Files) (e : CaptureFault) → pair_of words ≡ Some (from, to) → w.files ≡ Some files → length (content files from) ≤ 67108864 → fault_at (content files from) 262144 ≡ Some e
    → EndsAtOneOf s status.Capture status.ReadFault
capture_only status.Ok account words w v h from to files e names told fits fault = absurd (never_faulty words w account from to files e h.replays names told fault)
capture_only status.Usage account words w v h from to files e names told fits fault = absurd (names_none words (from, to) names h.words_are)
capture_only status.Capture account words w v h from to files e names told fits fault = inl refl
capture_only status.TooLong account words w v h from to files e names told fits fault =
    absurd (let long = h.cause files told in let same : length (content files h.from) ≡ length (content files from) = ap (λ n. length (content files n)) (same_from words h.from h.to from to h.words_are names) in omega arith)
capture_only status.ReadFault account words w v h from to files e names told fits fault = inr (inl refl)
capture_only status.WriteFault account words w v h from to files e names told fits fault = absurd (never_faulty words w account from to files e h.replays names told fault)
capture_only status.NoMemory account words w v h from to files e names told fits fault = inr (inr refl)

-- a stopped load that found a fault, where there is a capture
no_stop : (words : List (List ℕ)) (files : Files) (a b from to : List ℕ) (records : List Stamped) (tail : ℕ) (e : CaptureFault) → pair_of words ≡ Some (a, b) → pair_of words ≡ Some (from, to) → HoldsCapture (content files from) records tail → length records ≤ 262144 → fault_at (content files a) 262144 ≡ Some e → ⊥
no_stop words files a b from to records tail e own names held few fault =
    let same : fault_at (content files from) 262144 ≡ Some e = subst (λ n. fault_at (content files n) 262144 ≡ Some e) (same_from words a b from to own names) fault in
    some_none e (fault_at (content files from) 262144) same (no_fault (content files from) 262144 records tail held.capture few)

-- a run without a fault is finished
pub complete : (s : Status) (account : Option Record) (words : List (List ℕ)) (w v : World) → Ends s account words w v → (from to : List ℕ) (files : Files) (records : List Stamped) (tail : ℕ) → pair_of words ≡ Some (from, to) → w.files ≡ Some files → HoldsCapture (content files from) records tail → length records ≤ 262144
    → (Rose w.reads v.reads → ⊥) → (Rose w.writes v.writes → ⊥) → (Rose w.prints v.prints → ⊥) → EndsAt s status.Ok
complete status.Ok account words w v h from to files records tail names told held few nr nw np = inl refl
complete status.Usage account words w v h from to files records tail names told held few nr nw np = absurd (names_none words (from, to) names h.words_are)
complete status.Capture account words w v h from to files records tail names told held few nr nw np =
    absurd (no_stop words files h.1.from h.1.to from to records tail h.0 h.1.words_are names held few (h.1.cause files told).1)
complete status.TooLong account words w v h from to files records tail names told held few nr nw np =
    absurd (let long = h.cause files told in let within = held.within in let same : length (content files h.from) ≡ length (content files from) = ap (λ n. length (content files n)) (same_from words h.from h.to from to h.words_are names) in omega arith)
complete status.ReadFault account words w v h from to files records tail names told held few nr nw np = absurd (nr h.counts.1)
complete status.WriteFault account words w v h from to files records tail names told held few nr nw np = elim h.ends [ inl saving ↦ absurd (nw saving.0) | inr printing ↦ absurd (np printing.2) ]
complete status.NoMemory account words w v h from to files records tail names told held few nr nw np = inr refl
