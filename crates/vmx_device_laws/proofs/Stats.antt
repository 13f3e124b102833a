-- Counts of frames, one frame more.
use Rattle.std.proofs.Common.{◌≡◌, ◌≢◌, ℕ, zero, suc, ◌+◌, ◌<◌, ◌≤◌, Bool, true, false, nat_eq, not, ◌==◌, List, [], ◌∷◌, ◌++◌, length, length-append, append-nil, append_assoc, map, set, get_or, true≢false, refl, sym, ap, ◌∙◌, subst, arith, Some, if◌then◌else◌}
use Rattle.std.specs.List.{filter, slice_get}
use Rattle.std.specs.Prelude.{flat_map}
use Rattle.std.proofs.lemmas.List.Elements.{filter-append}
use Rattle.std.proofs.lemmas.List.{get_or-set_same}
use Rattle.std.proofs.lemmas.Bool.{eq-eqb, ne_eqb}
use Rattle.vmx_frame.specs.Ethernet.{class_of}
use Rattle.vmx_frame.specs.declared.kinds.Class.{Class}
use Rattle.vmx_frame.specs.declared.kinds.Class.TheVariants.{Broadcast, Multicast, Unicast}
use Rattle.vmx_shared_area.specs.declared.stats.Side.{Side}
use Rattle.vmx_shared_area.specs.declared.stats.Side.TheVariants.{Tx, Rx}
use Rattle.vmx_machine_state.specs.declared.statistics.Count.TheVariants.{Frame, NoBuffer, Error, Discard}
use Rattle.vmx_machine_state.specs.Statistics as commands
use Rattle.vmx_machine_state.specs.Sums.{still_adds}
use Rattle.vmx_machine_state.specs.Views.{EndsView, MachineView}
use Rattle.vmx_ends.specs.Transmit.{TxDeviceView}
use Rattle.vmx_ends.specs.declared.packet.Tag.{Tag}
use Rattle.vmx_model.specs.declared.journal.Entry.{Entry}
use Rattle.vmx_model.specs.declared.journal.Entry.TheVariants as entry
use Rattle.vmx_model.specs.Lists.{count, upto}
use Rattle.vmx_model.specs.Stats.{counted, packets, bytes, bytes_of, of_class, still, is_unicast, is_multicast, is_broadcast, is_lost_on}
use Rattle.vmx_device_laws.specs.Keeps.{frames_of, frames_on, taken_by, sent_counts}
use Rattle.vmx_ends.specs.declared.frames.Sent.{Sent}
use Rattle.vmx_model.specs.Wire.{wire_form}
use Rattle.vmx_device_laws.specs.Steps.{counted_taken}
use Rattle.vmx_device_laws.proofs.Sends.{took, AreSends, FrameSends, frames_took}

-- ------------------------------------------------------------ one number of eight

pub set_upto : {X : Type 0} (f f' : ℕ → X) (start n q : ℕ) → q < n → ((k : ℕ) → k ≢ start + q → f' k ≡ f k) → set (map f (upto start n)) q (f' (start + q)) ≡ map f' (upto start n)
set_upto f f' start zero q lt others = absurd (omega arith)
set_upto {X} f f' start (suc n) zero lt others =
    let here : start + 0 ≡ start = omega arith in
    ap (λ (k : ℕ). f' k ∷ map f (upto (start + 1) n)) here ∙ ap (λ (xs : List X). f' start ∷ xs) (sym (same f f' (start + 1) n (λ k le. others k (λ e. omega (arith, e, le)))))
  where
    same : {X : Type 0} (f f' : ℕ → X) (start n : ℕ) → ((k : ℕ) → start ≤ k → f' k ≡ f k) → map f' (upto start n) ≡ map f (upto start n)
    same f f' start zero h = refl
    same {X} f f' start (suc n) h = λ i. h start (omega arith) i ∷ same f f' (start + 1) n (λ k le. h k (omega (arith, le))) i
set_upto {X} f f' start (suc n) (suc q) lt others =
    let next : start + 1 + q ≡ start + suc q = omega arith in
    let first : f start ≡ f' start = sym (others start (λ e. omega (arith, e))) in
    let rest : set (map f (upto (start + 1) n)) q (f' (start + suc q)) ≡ map f' (upto (start + 1) n) =
    subst (λ (k : ℕ). set (map f (upto (start + 1) n)) q (f' k) ≡ map f' (upto (start + 1) n)) next (set_upto f f' (start + 1) n q (omega arith) (λ k ne. others k (λ e. ne (e ∙ sym next)))) in
    λ i. first i ∷ rest i

pub get_upto : {X : Type 0} (f : ℕ → X) (start n q : ℕ) (d : X) → q < n → get_or (map f (upto start n)) q d ≡ f (start + q)
get_upto f start zero q d lt = absurd (omega arith)
get_upto f start (suc n) zero d lt = let here : start ≡ start + 0 = omega arith in ap f here
get_upto f start (suc n) (suc q) d lt = let next : start + 1 + q ≡ start + suc q = omega arith in get_upto f (start + 1) n q d (omega arith) ∙ ap f next

-- ------------------------------------------------------------ one frame more

picked_more : (test : Class → Bool) (fs : List (List ℕ)) (f : List ℕ) → of_class test (fs ++ f ∷ []) ≡ of_class test fs ++ of_class test (f ∷ [])
picked_more test fs f = filter-append (λ x. test (class_of x)) fs (f ∷ [])

bytes_more : (xs ys : List (List ℕ)) → bytes_of (xs ++ ys) ≡ bytes_of xs + bytes_of ys
bytes_more [] ys = omega arith
bytes_more (x ∷ xs) ys = omega (arith, bytes_more xs ys)

module _ (test : Class → Bool) (fs : List (List ℕ)) (f : List ℕ) where
  packets_here : test (class_of f) ≡ true → still (packets test fs + 1) ≡ packets test (fs ++ f ∷ [])
  packets_here e =
      let one : length (of_class test (f ∷ [])) ≡ 1 = rw e refl in
      still_adds (length (of_class test fs)) 1 ∙ ap still (ap (λ (n : ℕ). length (of_class test fs) + n) (sym one) ∙ sym (length-append (of_class test fs) (of_class test (f ∷ []))) ∙ sym (ap length (picked_more test fs f)))

  bytes_here : test (class_of f) ≡ true → still (bytes test fs + length f) ≡ bytes test (fs ++ f ∷ [])
  bytes_here e =
      let one : bytes_of (of_class test (f ∷ [])) ≡ length f = rw e (omega arith) in
      still_adds (bytes_of (of_class test fs)) (length f) ∙ ap still (ap (λ (n : ℕ). bytes_of (of_class test fs) + n) (sym one) ∙ sym (bytes_more (of_class test fs) (of_class test (f ∷ []))) ∙ sym (ap bytes_of (picked_more test fs f)))

  picked_not : test (class_of f) ≡ false → of_class test (fs ++ f ∷ []) ≡ of_class test fs
  picked_not e = picked_more test fs f ∙ ap (λ (xs : List (List ℕ)). of_class test fs ++ xs) (rw e refl) ∙ append-nil (of_class test fs)

  packets_not : test (class_of f) ≡ false → packets test fs ≡ packets test (fs ++ f ∷ [])
  packets_not e = ap (λ (xs : List (List ℕ)). still (length xs)) (sym (picked_not e))

  bytes_not : test (class_of f) ≡ false → bytes test fs ≡ bytes test (fs ++ f ∷ [])
  bytes_not e = ap (λ (xs : List (List ℕ)). still (bytes_of xs)) (sym (picked_not e))

pub counted_frame : (side : Side) (fs : List (List ℕ)) (f : List ℕ) (x y : ℕ) → commands.counted side (Frame (class_of f) (length f)) (counted fs x y) ≡ counted (fs ++ f ∷ []) x y
counted_frame side fs f x y = step (class_of f) refl
  where
    step : (c : Class) → class_of f ≡ c → commands.counted side (Frame c (length f)) (counted fs x y) ≡ counted (fs ++ f ∷ []) x y
    step Unicast e = λ i. 0 ∷ 0 ∷ packets_here is_unicast fs f (ap is_unicast e) i ∷ bytes_here is_unicast fs f (ap is_unicast e) i ∷ packets_not is_multicast fs f (ap is_multicast e) i ∷ bytes_not is_multicast fs f (ap is_multicast e) i
        ∷ packets_not is_broadcast fs f (ap is_broadcast e) i ∷ bytes_not is_broadcast fs f (ap is_broadcast e) i ∷ still x ∷ still y ∷ []
    step Multicast e = λ i. 0 ∷ 0 ∷ packets_not is_unicast fs f (ap is_unicast e) i ∷ bytes_not is_unicast fs f (ap is_unicast e) i ∷ packets_here is_multicast fs f (ap is_multicast e) i ∷ bytes_here is_multicast fs f (ap is_multicast e) i
        ∷ packets_not is_broadcast fs f (ap is_broadcast e) i ∷ bytes_not is_broadcast fs f (ap is_broadcast e) i ∷ still x ∷ still y ∷ []
    step Broadcast e = λ i. 0 ∷ 0 ∷ packets_not is_unicast fs f (ap is_unicast e) i ∷ bytes_not is_unicast fs f (ap is_unicast e) i ∷ packets_not is_multicast fs f (ap is_multicast e) i ∷ bytes_not is_multicast fs f (ap is_multicast e) i
        ∷ packets_here is_broadcast fs f (ap is_broadcast e) i ∷ bytes_here is_broadcast fs f (ap is_broadcast e) i ∷ still x ∷ still y ∷ []

pub counted_discard : (fs : List (List ℕ)) (x y : ℕ) → commands.counted Tx Discard (counted fs x y) ≡ counted fs x (y + 1)
counted_discard fs x y = ap (λ (n : ℕ). 0 ∷ 0 ∷ packets is_unicast fs ∷ bytes is_unicast fs ∷ packets is_multicast fs ∷ bytes is_multicast fs ∷ packets is_broadcast fs ∷ bytes is_broadcast fs ∷ still x ∷ n ∷ []) (still_adds y 1)

pub counted_tx_error : (fs : List (List ℕ)) (x y : ℕ) → commands.counted Tx Error (counted fs x y) ≡ counted fs (x + 1) y
counted_tx_error fs x y = ap (λ (n : ℕ). 0 ∷ 0 ∷ packets is_unicast fs ∷ bytes is_unicast fs ∷ packets is_multicast fs ∷ bytes is_multicast fs ∷ packets is_broadcast fs ∷ bytes is_broadcast fs ∷ n ∷ still y ∷ []) (still_adds x 1)

pub counted_rx_error : (fs : List (List ℕ)) (x y : ℕ) → commands.counted Rx Error (counted fs x y) ≡ counted fs x (y + 1)
counted_rx_error fs x y = ap (λ (n : ℕ). 0 ∷ 0 ∷ packets is_unicast fs ∷ bytes is_unicast fs ∷ packets is_multicast fs ∷ bytes is_multicast fs ∷ packets is_broadcast fs ∷ bytes is_broadcast fs ∷ still x ∷ n ∷ []) (still_adds y 1)

pub counted_no_buffer : (fs : List (List ℕ)) (x y : ℕ) → commands.counted Rx NoBuffer (counted fs x y) ≡ counted fs (x + 1) y
counted_no_buffer fs x y = ap (λ (n : ℕ). 0 ∷ 0 ∷ packets is_unicast fs ∷ bytes is_unicast fs ∷ packets is_multicast fs ∷ bytes is_multicast fs ∷ packets is_broadcast fs ∷ bytes is_broadcast fs ∷ n ∷ still y ∷ []) (still_adds x 1)

-- ------------------------------------------------------------ the frames of a queue over all activations

flat_last : {X Y : Type 0} (f : X → List Y) (xs : List X) (x : X) → flat_map f (xs ++ x ∷ []) ≡ flat_map f xs ++ f x
flat_last f [] x = append-nil (f x)
flat_last {X} {Y} f (y ∷ xs) x = ap (λ (zs : List Y). f y ++ zs) (flat_last f xs x) ∙ sym (append_assoc (f y) (flat_map f xs) (f x))

pub frames_other : (vs : List TxDeviceView) (i q : ℕ) (w : TxDeviceView) → q ≢ i → frames_on (set vs i w) q ≡ frames_on vs q
frames_other [] i q w ne = refl
frames_other (v ∷ vs) zero zero w ne = absurd (ne refl)
frames_other (v ∷ vs) zero (suc q) w ne = refl
frames_other (v ∷ vs) (suc i) zero w ne = refl
frames_other (v ∷ vs) (suc i) (suc q) w ne = frames_other vs i q w (λ e. ne (ap suc e))

pub frames_here : (vs : List TxDeviceView) (i : ℕ) (v : TxDeviceView) (sent : Sent) (n : ℕ) → slice_get vs i ≡ Some v → frames_on (set vs i (took v sent n)) i ≡ frames_on vs i ++ wire_form sent ∷ []
frames_here [] i v sent n at = absurd (cc at)
frames_here (w ∷ vs) zero v sent n at = let same : w ≡ v = cc at in frames_took v sent n ∙ ap (λ (x : TxDeviceView). frames_of x ++ wire_form sent ∷ []) (sym same)
frames_here (w ∷ vs) (suc i) v sent n at = frames_here vs i v sent n at

-- ------------------------------------------------------------ frames without target

lost_none : (t : Tag) (tos : List ℕ) (more : List Entry) (q : ℕ) → AreSends t tos more → filter (is_lost_on q) more ≡ []
lost_none t [] [] q h = refl
lost_none t [] (e ∷ more) q h = absurd h
lost_none t (to ∷ tos) [] q h = absurd h
lost_none t (to ∷ tos) (e ∷ more) q h = let is : is_lost_on q e ≡ false = ap (is_lost_on q) h.0.1 in rw is (lost_none t tos more q h.1)

count_more : (q : ℕ) (es more : List Entry) → count (is_lost_on q) (es ++ more) ≡ count (is_lost_on q) es + count (is_lost_on q) more
count_more q es more = ap length (filter-append (is_lost_on q) es more) ∙ length-append (filter (is_lost_on q) es) (filter (is_lost_on q) more)

-- how many more are lost
abbrev pub one_lost : List ℕ → ℕ
one_lost [] = 1
one_lost (to ∷ tos) = 0

lost_here : (t : Tag) (tos : List ℕ) (es more : List Entry) → FrameSends t tos more → count (is_lost_on t.queue) (es ++ more) ≡ count (is_lost_on t.queue) es + one_lost tos
lost_here t [] es more h =
    let one : count (is_lost_on t.queue) (entry.Lost t ∷ []) ≡ 1 = rw (eq-eqb t.queue t.queue refl) refl in
    count_more t.queue es more ∙ ap (λ (n : ℕ). count (is_lost_on t.queue) es + n) (ap (count (is_lost_on t.queue)) h ∙ one)
lost_here t (to ∷ tos) es more h = count_more t.queue es more ∙ ap (λ (xs : List Entry). count (is_lost_on t.queue) es + length xs) (lost_none t (to ∷ tos) more t.queue h)

lost_other : (t : Tag) (tos : List ℕ) (es more : List Entry) (q : ℕ) → t.queue ≢ q → FrameSends t tos more → count (is_lost_on q) (es ++ more) ≡ count (is_lost_on q) es
lost_other t [] es more q ne h =
    let none : count (is_lost_on q) (entry.Lost t ∷ []) ≡ 0 = rw (ne_eqb t.queue q ne) refl in
    count_more q es more ∙ ap (λ (n : ℕ). count (is_lost_on q) es + n) (ap (count (is_lost_on q)) h ∙ none) ∙ omega arith
lost_other t (to ∷ tos) es more q ne h = count_more q es more ∙ ap (λ (xs : List Entry). count (is_lost_on q) es + length xs) (lost_none t (to ∷ tos) more q h) ∙ omega arith

-- ------------------------------------------------------------ the statistics after a frame was taken

abbrev pub counts_of : (ℕ → ℕ) → List EndsView → List Entry → ℕ → List ℕ
counts_of errors all es q = counted (taken_by q all) (errors q) (count (is_lost_on q) es)

counted_lost : (fs : List (List ℕ)) (x n : ℕ) (tos : List ℕ) → (b : Bool) → b ≡ not (length tos == 0) → (if b then counted fs x n else commands.counted Tx Discard (counted fs x n)) ≡ counted fs x (n + one_lost tos)
counted_lost fs x n [] true e = absurd (cc e)
counted_lost fs x n [] false e = counted_discard fs x n
counted_lost fs x n (to ∷ tos) true e = let same : n ≡ n + 0 = omega arith in ap (counted fs x) same
counted_lost fs x n (to ∷ tos) false e = let more : (suc (length tos) == 0) ≡ false = ne_eqb (suc (length tos)) 0 (λ z. omega (arith, z)) in absurd (true≢false (sym (e ∙ ap not more)))

set-set_same : {X : Type 0} (xs : List X) (i : ℕ) (a b : X) → set (set xs i a) i b ≡ set xs i b
set-set_same [] i a b = refl
set-set_same (x ∷ xs) zero a b = refl
set-set_same (x ∷ xs) (suc i) a b = ap (λ (ys : List _). x ∷ ys) (set-set_same xs i a b)

counted_twice : (some : Bool) (q : ℕ) (frame : List ℕ) (m : MachineView) → q < length m.tx_stats
    → counted_taken q frame some m ≡ record m { tx_stats = set m.tx_stats q (if some then commands.counted Tx (Frame (class_of frame) (length frame)) (get_or m.tx_stats q []) else commands.counted Tx Discard (commands.counted Tx (Frame (class_of frame) (length frame)) (get_or m.tx_stats q []))) }
counted_twice true q frame m lt = refl
counted_twice false q frame m lt =
    let one : List ℕ = commands.counted Tx (Frame (class_of frame) (length frame)) (get_or m.tx_stats q []) in
    λ i. record m { tx_stats = (ap (λ (c : List ℕ). set (set m.tx_stats q one) q (commands.counted Tx Discard c)) (get_or-set_same m.tx_stats q one [] lt) ∙ set-set_same m.tx_stats q one (commands.counted Tx Discard one)) i }

pub length-upto : (f : ℕ → List ℕ) (start n : ℕ) → length (map f (upto start n)) ≡ n
length-upto f start zero = refl
length-upto f start (suc n) = ap suc (length-upto f (start + 1) n)

module _ (past : List EndsView) (e : EndsView) (q : ℕ) (v : TxDeviceView) (at : slice_get e.tx q ≡ Some v) (sent : Sent) (n : ℕ) (es more : List Entry) (t : Tag) (tos : List ℕ) (here : t.queue ≡ q) (fs : FrameSends t tos more) (errors : ℕ → ℕ) where
  abbrev old_all : List EndsView
  old_all = past ++ e ∷ []

  abbrev new_all : List EndsView
  new_all = past ++ record e { tx = set e.tx q (took v sent n) } ∷ []

  taken_here : taken_by q new_all ≡ taken_by q old_all ++ (wire_form sent) ∷ []
  taken_here =
      flat_last (λ (x : EndsView). frames_on x.tx q) past (record e { tx = set e.tx q (took v sent n) })
      ∙ ap (λ (xs : List (List ℕ)). taken_by q past ++ xs) (frames_here e.tx q v sent n at)
      ∙ sym (append_assoc (taken_by q past) (frames_on e.tx q) ((wire_form sent) ∷ []))
      ∙ ap (λ (xs : List (List ℕ)). xs ++ (wire_form sent) ∷ []) (sym (flat_last (λ (x : EndsView). frames_on x.tx q) past e))

  taken_other : (k : ℕ) → k ≢ q → taken_by k new_all ≡ taken_by k old_all
  taken_other k ne =
      flat_last (λ (x : EndsView). frames_on x.tx k) past (record e { tx = set e.tx q (took v sent n) })
      ∙ ap (λ (xs : List (List ℕ)). taken_by k past ++ xs) (frames_other e.tx q k (took v sent n) ne)
      ∙ sym (flat_last (λ (x : EndsView). frames_on x.tx k) past e)

  other_counts : (k : ℕ) → k ≢ 0 + q → counts_of errors new_all (es ++ more) k ≡ counts_of errors old_all es k
  other_counts k ne =
      let ne' : k ≢ q = λ same. ne (omega (arith, same)) in
      let ne'' : t.queue ≢ k = λ same. ne' (sym same ∙ here) in
      λ i. counted (taken_other k ne' i) (errors k) (lost_other t tos es more k ne'' fs i)

  new_counts : (some : Bool) → some ≡ not (length tos == 0) → (if some then commands.counted Tx (Frame (class_of (wire_form sent)) (length (wire_form sent))) (counts_of errors old_all es q) else commands.counted Tx Discard (commands.counted Tx (Frame (class_of (wire_form sent)) (length (wire_form sent))) (counts_of errors old_all es q)))
      ≡ counts_of errors new_all (es ++ more) q
  new_counts some is =
      let one = counted_frame Tx (taken_by q old_all) (wire_form sent) (errors q) (count (is_lost_on q) es) in
      let lost : count (is_lost_on q) (es ++ more) ≡ count (is_lost_on q) es + one_lost tos = subst (λ (k : ℕ). count (is_lost_on k) (es ++ more) ≡ count (is_lost_on k) es + one_lost tos) here (lost_here t tos es more fs) in
      (λ i. if some then one i else commands.counted Tx Discard (one i)) ∙ counted_lost (taken_by q old_all ++ wire_form sent ∷ []) (errors q) (count (is_lost_on q) es) tos some is
      ∙ (λ i. counted (sym taken_here i) (errors q) (sym lost i))

  pub stats_taken : (some : Bool) → some ≡ not (length tos == 0) → q < 8 → (m : MachineView) → m.tx_stats ≡ sent_counts errors old_all es → counted_taken q (wire_form sent) some m ≡ record m { tx_stats = sent_counts errors new_all (es ++ more) }
  stats_taken some is lt m are =
      let long : q < length m.tx_stats = omega (arith, lt, ap length are, length-upto (counts_of errors old_all es) 0 8) in
      let zero_q : 0 + q ≡ q = omega arith in
      let now : get_or m.tx_stats q [] ≡ counts_of errors old_all es q = ap (λ (xs : List (List ℕ)). get_or xs q []) are ∙ get_upto (counts_of errors old_all es) 0 8 q [] lt ∙ ap (counts_of errors old_all es) zero_q in
      let there : (if some then commands.counted Tx (Frame (class_of (wire_form sent)) (length (wire_form sent))) (get_or m.tx_stats q []) else commands.counted Tx Discard (commands.counted Tx (Frame (class_of (wire_form sent)) (length (wire_form sent))) (get_or m.tx_stats q []))) ≡ counts_of errors new_all (es ++ more) (0 + q) =
      (λ i. if some then commands.counted Tx (Frame (class_of (wire_form sent)) (length (wire_form sent))) (now i) else commands.counted Tx Discard (commands.counted Tx (Frame (class_of (wire_form sent)) (length (wire_form sent))) (now i))) ∙ new_counts some is ∙ ap (counts_of errors new_all (es ++ more)) (sym zero_q) in
      counted_twice some q (wire_form sent) m long ∙ (λ i. record m { tx_stats = ((λ j. set (are j) q (there j)) ∙ set_upto (counts_of errors old_all es) (counts_of errors new_all (es ++ more)) 0 8 q lt other_counts) i })

-- ------------------------------------------------------------ the statistics after an error

-- one error more of queue q
abbrev pub one_error : ℕ → (ℕ → ℕ) → ℕ → ℕ
one_error q errors k = if nat_eq k q then errors k + 1 else errors k

pub error_here : (q : ℕ) (errors : ℕ → ℕ) → one_error q errors q ≡ errors q + 1
error_here q errors = rw (eq-eqb q q refl) refl

pub error_other : (q : ℕ) (errors : ℕ → ℕ) (k : ℕ) → k ≢ q → one_error q errors k ≡ errors k
error_other q errors k ne = rw (ne_eqb k q ne) refl

pub stats_error : (q : ℕ) (all : List EndsView) (es : List Entry) (errors : ℕ → ℕ) (stats : List (List ℕ)) → q < 8 → stats ≡ sent_counts errors all es → set stats q (commands.counted Tx Error (get_or stats q [])) ≡ sent_counts (one_error q errors) all es
stats_error q all es errors stats lt are =
    let f : ℕ → List ℕ = counts_of errors all es in
    let f' : ℕ → List ℕ = counts_of (one_error q errors) all es in
    let zero_q : 0 + q ≡ q = omega arith in
    let now : get_or stats q [] ≡ counts_of errors all es q = ap (λ (xs : List (List ℕ)). get_or xs q []) are ∙ get_upto (counts_of errors all es) 0 8 q [] lt ∙ ap (counts_of errors all es) zero_q in
    let new : commands.counted Tx Error (get_or stats q []) ≡ counts_of (one_error q errors) all es (0 + q) =
    ap (commands.counted Tx Error) now ∙ counted_tx_error (taken_by q all) (errors q) (count (is_lost_on q) es) ∙ ap (λ (n : ℕ). counted (taken_by q all) n (count (is_lost_on q) es)) (sym (error_here q errors)) ∙ ap (counts_of (one_error q errors) all es) (sym zero_q) in
    (λ i. set (are i) q (new i)) ∙ set_upto (counts_of errors all es) (counts_of (one_error q errors) all es) 0 8 q lt (λ k ne. ap (λ (n : ℕ). counted (taken_by k all) n (count (is_lost_on k) es)) (error_other q errors k (λ e. ne (e ∙ sym zero_q))))
