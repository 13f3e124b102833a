-- Statistics that were written one queue after another are read at each queue.
use Rattle.std.proofs.Common.{◌≡◌, ℕ, zero, suc, ◌+◌, ◌-◌, ◌*◌, ◌^◌, ◌<◌, ◌≤◌, List, [], ◌∷◌, ◌++◌, length, map, take, drop, get_or, slice_index, inl, inr, refl, sym, ap, ◌∙◌, subst, append_assoc, length-append, arith}
use Rattle.std.proofs.lemmas.Bool.{cases_lt}
use Rattle.std.proofs.lemmas.List.{drop-append-le, drop-take, length-take-le, length-drop}
use Rattle.std.proofs.Math.Seq.{take-append-add}
use Rattle.vmx_shared_area.specs.Bytes.{number_at}
use Rattle.vmx_shared_area.specs.Layout.{descriptor_at, stats_parts, stats_bytes, with_part}
use Rattle.vmx_shared_area.specs.Parts.{Stands, length-spell, length-le}
use Rattle.vmx_shared_area.specs.Statistics.{stands_with_part, stats_there}
use Rattle.vmx_layout.specs.declared.register.TheConstants.{MAX_QUEUES}
use Rattle.vmx_shared_area.specs.declared.offsets.TheConstants.{IMAGE_SIZE, DESCRIPTORS, DESCRIPTOR_SIZE, DESCRIPTORS_SIZE, STATISTICS, STATISTICS_SIZE, STATISTICS_COUNT}
use Rattle.vmx_shared_area.specs.declared.stats.Side.{Side}
use Rattle.vmx_shared_area.specs.declared.stats.Side.TheVariants.{Tx, Rx}
use Rattle.vmx_shared_area.specs.declared.stats.Stats.{Stats}
use Rattle.std.specs.Prelude.{Option, Some, None, option_map}
use Rattle.vmx_layout.specs.Command.{number_of}
use Rattle.vmx_layout.specs.declared.command.Command.TheVariants.{GetStats}
use Rattle.vmx_shared_area.specs.declared.setup.Setup.{Setup}
use Rattle.vmx_device_state.specs.SetupView.{SetupView, setup_view}
use Rattle.vmx_device_state.specs.DeviceState.{DeviceState, Active}
use Rattle.vmx_device_state.specs.Plain.{state_by as setup_state}
use Rattle.vmx_machine_state.specs.Views.{ActiveView, MachineView, state_by, state_of}
use Rattle.vmx_machine_state.specs.Images.{with_stats, stats_written, TellsStats, image_by, image_back}

stands_at : (at k w : ℕ) (p q bs : List ℕ) → at + (length p + k) ≤ length bs → Stands at p bs → Stands at p (with_part (at + (length p + k)) w q bs)
stands_at at k w p q bs room h =
    let rest : List ℕ = q ++ drop (at + (length p + k) + w) bs in
    let front : length (take (at + (length p + k)) bs) ≡ at + (length p + k) = length-take-le (at + (length p + k)) bs room in (
      take k h.0 ++ rest,
      drop-append-le at (take (at + (length p + k)) bs) rest (omega (arith, front))
          ∙ ap (λ (l : List ℕ). l ++ rest) (drop-take at (length p + k) bs ∙ ap (take (length p + k)) h.1 ∙ take-append-add p h.0 k)
          ∙ append_assoc p (take k h.0) rest,
    )

-- what stands before a part that is written stays
stands_below : (at to w : ℕ) (p q bs : List ℕ) → at + length p ≤ to → to ≤ length bs → Stands at p bs → Stands at p (with_part to w q bs)
stands_below at to w p q bs before room h =
    let e : at + (length p + (to - at - length p)) ≡ to = omega arith in
    subst (λ (t : ℕ). Stands at p (with_part t w q bs)) e (stands_at at (to - at - length p) w p q bs (omega arith) h)

length_with_part : (to w : ℕ) (q bs : List ℕ) → length q ≡ w → to + w ≤ length bs → length (with_part to w q bs) ≡ length bs
length_with_part to w q bs width room =
    let front : length (take to bs) ≡ to = length-take-le to bs (omega arith) in
    let back : length (drop (to + w) bs) ≡ length bs - (to + w) = length-drop (to + w) bs in
    omega (arith, front, back, width, length-append (take to bs) (q ++ drop (to + w) bs), length-append q (drop (to + w) bs))

stats_width : (counts : List ℕ) → length (stats_bytes counts) ≡ STATISTICS_SIZE
stats_width counts = let l = length-le 8 in length-spell (stats_parts counts) (l _, (l _, (l _, (l _, (l _, (l _, (l _, (l _, (l _, (l _, tt))))))))))

inside : (behind : ℕ) (side : Side) (n : ℕ) → behind ≤ MAX_QUEUES → n < MAX_QUEUES → descriptor_at behind side n + DESCRIPTOR_SIZE ≤ DESCRIPTORS + DESCRIPTORS_SIZE
inside behind Tx n few less = omega arith
inside behind Rx n few less = omega arith

after : (behind : ℕ) (side : Side) (q n : ℕ) → q < n → descriptor_at behind side q + DESCRIPTOR_SIZE ≤ descriptor_at behind side n
after behind Tx q n less = omega arith
after behind Rx q n less = omega arith

module _ (behind : ℕ) (few : behind ≤ MAX_QUEUES) (side : Side) (all : List (List ℕ)) (image : List ℕ) (whole : length image ≡ IMAGE_SIZE) where
  length_written : (n : ℕ) → n ≤ MAX_QUEUES → length (with_stats behind side all n image) ≡ IMAGE_SIZE
  length_written zero le = whole
  length_written (suc n) le =
      let ih = length_written n (omega arith) in
      let low = inside behind side n few (omega arith) in
      length_with_part (descriptor_at behind side n + STATISTICS) STATISTICS_SIZE (stats_bytes (get_or all n [])) (with_stats behind side all n image) (stats_width (get_or all n [])) (omega (arith, ih, low)) ∙ ih

  all_stand : (n : ℕ) → n ≤ MAX_QUEUES → (q : ℕ) → q < n → Stands (descriptor_at behind side q + STATISTICS) (stats_bytes (get_or all q [])) (with_stats behind side all n image)
  all_stand zero le q less = absurd (omega arith)
  all_stand (suc n) le q less =
      let len = length_written n (omega arith) in
      let low = inside behind side n few (omega arith) in
      elim (cases_lt q n) [
        | inl lt ↦
            let gap = after behind side q n lt in
            let width = stats_width (get_or all q []) in
            stands_below (descriptor_at behind side q + STATISTICS) (descriptor_at behind side n + STATISTICS) STATISTICS_SIZE (stats_bytes (get_or all q [])) (stats_bytes (get_or all n [])) (with_stats behind side all n image)
            (omega (arith, gap, width)) (omega (arith, len, low)) (all_stand n (omega arith) q lt)
        | inr past ↦
            let same : n ≡ q = omega arith in
            subst (λ (k : ℕ). Stands (descriptor_at behind side k + STATISTICS) (stats_bytes (get_or all k [])) (with_part (descriptor_at behind side n + STATISTICS) STATISTICS_SIZE (stats_bytes (get_or all n [])) (with_stats behind side all n image))) same
            (stands_with_part (descriptor_at behind side n + STATISTICS) STATISTICS_SIZE (stats_bytes (get_or all n [])) (with_stats behind side all n image) (omega (arith, len, low)))
      ]

  -- what stands before all descriptors of the side stays
  before_stands : (at : ℕ) (p : List ℕ) → at + length p ≤ descriptor_at behind side 0 + STATISTICS → Stands at p image → (n : ℕ) → n ≤ MAX_QUEUES → Stands at p (with_stats behind side all n image)
  before_stands at p room h zero le = h
  before_stands at p room h (suc n) le =
      let len = length_written n (omega arith) in
      let low = inside behind side n few (omega arith) in
      let up : descriptor_at behind side 0 ≤ descriptor_at behind side n = elim (cases_lt 0 n) [
        | inl lt ↦ (let gap = after behind side 0 n lt in omega (arith, gap))
        | inr past ↦ (let same : n ≡ 0 = omega arith in subst (λ (k : ℕ). descriptor_at behind side 0 ≤ descriptor_at behind side k) (sym same) (omega arith))
      ] in
      stands_below at (descriptor_at behind side n + STATISTICS) STATISTICS_SIZE p (stats_bytes (get_or all n [])) (with_stats behind side all n image) (omega (arith, room, up)) (omega (arith, len, low)) (before_stands at p room h n (omega arith))

-- the counts of a queue's statistics
abbrev pub counts_of : Stats → List ℕ
counts_of s = s.counts

-- ten numbers of eight bytes
abbrev AreCounts : List ℕ → Type 0
AreCounts counts = (length counts ≡ STATISTICS_COUNT) × ((i : ℕ) → slice_index counts i < 2 ^ 64)

are_counts : (xs : List Stats) (q : ℕ) → q < length xs → AreCounts (get_or (map counts_of xs) q [])
are_counts [] q lt = absurd (omega arith)
are_counts (x ∷ xs) zero lt = (x.counts_length, x.counts_fit)
are_counts (x ∷ xs) (suc q) lt = are_counts xs q (omega arith)

read_there : (at : ℕ) (counts bs : List ℕ) → AreCounts counts → Stands at (stats_bytes counts) bs → (i : ℕ) → i < STATISTICS_COUNT → number_at 8 (at + 8 * i) bs ≡ slice_index counts i
read_there at counts bs are h = stats_there at (record { counts = counts; counts_length = are.0; counts_fit = are.1 }) bs h

-- After the statistics of a setup's queues were written, each count is read at its queue.
pub stats_are_told : (tx rx : List Stats) → length tx ≡ MAX_QUEUES → length rx ≡ MAX_QUEUES → (s : SetupView) → s.tx_queues ≤ MAX_QUEUES → s.rx_queues ≤ MAX_QUEUES
    → (m : MachineView) → m.tx_stats ≡ map counts_of tx → m.rx_stats ≡ map counts_of rx → (image : List ℕ) → length image ≡ IMAGE_SIZE → TellsStats (Active s) m (stats_written s m image)
stats_are_told tx rx tx_eight rx_eight s tx_few rx_few m tx_is rx_is image whole Tx q i q_less i_less =
    let are : AreCounts (get_or m.tx_stats q []) = subst (λ (l : List (List ℕ)). AreCounts (get_or l q [])) (sym tx_is) (are_counts tx q (omega arith)) in
    let width = stats_width (get_or m.tx_stats q []) in
    read_there (descriptor_at s.tx_queues Tx q + STATISTICS) (get_or m.tx_stats q []) (stats_written s m image) are
    (before_stands s.tx_queues tx_few Rx m.rx_stats (with_stats s.tx_queues Tx m.tx_stats s.tx_queues image) (length_written s.tx_queues tx_few Tx m.tx_stats image whole s.tx_queues tx_few)
    (descriptor_at s.tx_queues Tx q + STATISTICS) (stats_bytes (get_or m.tx_stats q [])) (omega (arith, width))
    (all_stand s.tx_queues tx_few Tx m.tx_stats image whole s.tx_queues tx_few q q_less) s.rx_queues rx_few) i i_less
stats_are_told tx rx tx_eight rx_eight s tx_few rx_few m tx_is rx_is image whole Rx q i q_less i_less =
    let are : AreCounts (get_or m.rx_stats q []) = subst (λ (l : List (List ℕ)). AreCounts (get_or l q [])) (sym rx_is) (are_counts rx q (omega arith)) in
    read_there (descriptor_at s.tx_queues Rx q + STATISTICS) (get_or m.rx_stats q []) (stats_written s m image) are
    (all_stand s.tx_queues tx_few Rx m.rx_stats (with_stats s.tx_queues Tx m.tx_stats s.tx_queues image) (length_written s.tx_queues tx_few Tx m.tx_stats image whole s.tx_queues tx_few)
    s.rx_queues rx_few q q_less) i i_less

-- the state of a machine with a setup, where it has one
state_has : {A : Type 0} (f : A → ActiveView) (g : A → Setup) → ((a : A) → (f a).setup ≡ setup_view (g a)) → (o : Option A) → state_by (option_map f o) ≡ setup_state (option_map g o)
state_has f g same None = refl
state_has f g same (Some a) = ap Active (same a)

told_by : (tx rx : List Stats) → length tx ≡ MAX_QUEUES → length rx ≡ MAX_QUEUES → (o : Option Setup) → (m : MachineView) → m.tx_stats ≡ map counts_of tx → m.rx_stats ≡ map counts_of rx → (image : List ℕ) → length image ≡ IMAGE_SIZE
    → TellsStats (setup_state o) m (image_by (setup_state o) m (number_of GetStats) image)
told_by tx rx tx_eight rx_eight None m tx_is rx_is image whole = tt
told_by tx rx tx_eight rx_eight (Some s) m tx_is rx_is image whole =
    stats_are_told tx rx tx_eight rx_eight (setup_view s) s.tx_queues_high s.rx_queues_high m tx_is rx_is image whole

-- After GET_STATS the image tells the statistics, where the machine is active.
pub told_back : {A : Type 0} (f : A → ActiveView) (g : A → Setup) → ((a : A) → (f a).setup ≡ setup_view (g a)) → (o : Option A)
    → (tx rx : List Stats) → length tx ≡ MAX_QUEUES → length rx ≡ MAX_QUEUES → (was m : MachineView) → was ≡ m → was.active ≡ option_map f o → was.tx_stats ≡ map counts_of tx → was.rx_stats ≡ map counts_of rx
    → (number : ℕ) (image written : List ℕ) → length image ≡ IMAGE_SIZE → written ≡ image_back m number image → number ≡ number_of GetStats → TellsStats (state_of m) m written
told_back f g same o tx rx tx_eight rx_eight was m is on tx_is rx_is number image written whole e get =
    let state : setup_state (option_map g o) ≡ state_of m = sym (state_has f g same o) ∙ ap state_by (sym on) ∙ ap state_of is in
    subst (TellsStats (state_of m) m) (sym (e ∙ ap (λ (n : ℕ). image_back m n image) get))
    (subst (λ (d : DeviceState). TellsStats d m (image_by d m (number_of GetStats) image)) state
    (told_by tx rx tx_eight rx_eight (option_map g o) m (sym (ap (λ (v : MachineView). v.tx_stats) is) ∙ tx_is) (sym (ap (λ (v : MachineView). v.rx_stats) is) ∙ rx_is) image whole))
