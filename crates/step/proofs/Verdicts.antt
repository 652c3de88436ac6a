-- What the checks of a step come to, one comparison after the other, and what a step that is not refused may rely on. Each
-- comparison decides one test of the definition. Assumes nothing.
use mathlib.Core.Path.{◌≡◌, refl, sym, ap, ap₂, ◌∙◌}
use mathlib.Core.Bool.{Bool, true, false, not, cond}
use mathlib.Core.Logic.{◌≢◌}
use mathlib.Core.List.{List}
use Prim.Native.Nat.{ℕ, suc, ◌+◌, ◌-◌, ◌*◌, ◌≤◌, ◌<◌}
use native.Mathlib.Nat.{le_refl, mul-le-mul_right, mul-pos}
use native.Mathlib.Numerals.{add-one}
use native.Mathlib.Omega.{arith}
use lib.Dec.{leb, ltb, eqb}
use lib.ListN.{length}
use borrow.Author.Tests.{leb-false, ltb-true, ltb-false, eq-eqb, ne_eqb}
use Rattle.rows.specs.Search.{outside}
use Rattle.rows.proofs.Cases.{by_eq, by_test, below_range, above_range, in_range, inside}
use Rattle.std.proofs.Common.{Err}
use Rattle.sizes.specs.declared.Fault.TheVariants.{Board}
use Rattle.sizes.specs.declared.Refusal.{Refusal}
use Rattle.sizes.specs.Refusal.{Verdict, fine, first, refused_if, number_of, place_of}
use Rattle.sizes.specs.Sizes.{Permitted, most_slots}
use Rattle.sizes.proofs.Refusals.{goes_on, faulty, faultless, last_faulty, last_faultless, both_fine, no_fault, Small, small_first, small_if}
use Rattle.arrangement.specs.Check.{buffers_verdict}
use Rattle.arrangement.proofs.Validity.{fit, small_buffers}
use Rattle.board.specs.Board.{place, lowest_digit_lem}
use Rattle.step.specs.Step.{put, pointed, closes, step_flip, fills, counter_verdict, step_verdict, lent_step_verdict, stepped_counters, stepped_pointers, step_number}
use Rattle.step.specs.Asked.{StepAsked}
use Rattle.board.proofs.Runs.{lowest_range}
use Rattle.board.proofs.Checks.{lent_board}

-- k × x, of a digit x
pub product_range : {n k x : ℕ} → Permitted n k → 1 ≤ x → x ≤ n → (1 ≤ k * x) × (k * x ≤ 160)
product_range {n} {k} {x} sizes low high =
    let a : 0 < k * x = mul-pos sizes.k_low low in
    let b : k * x ≤ 8 * x = mul-le-mul_right x sizes.k_high in (omega arith, omega (arith, sizes.n_high))

-- ---- digit x, with the counter c there

-- it has room, so far as the check goes
module _ (n k x : ℕ) (cs fs : List ℕ) {c : ℕ} (c_is : c ≡ place cs x) (room : fine ≡ refused_if Board (leb (k * x - 1) c)) where
  pub stays_open : c + 1 ≢ k * x - 1 → fine ≡ counter_verdict n k x cs fs
  unfolding counter_verdict fills
  stays_open ne =
      goes_on (rw c_is at room) (rw (ne_eqb (suc (place cs x)) (k * x - 1) (λ e. ne (add-one c ∙ ap suc c_is ∙ e))))

  -- and becomes full: the end of the run behind it decides
  pub becomes_full : {w : Verdict} → c + 1 ≡ k * x - 1 → w ≡ refused_if Board (outside (x + 1) (n + 1) (place fs (x + 1))) → w ≡ counter_verdict n k x cs fs
  unfolding counter_verdict fills
  becomes_full e w_is =
      goes_on (rw c_is at room) (rw (eq-eqb (suc (place cs x)) (k * x - 1) (sym (ap suc c_is) ∙ sym (add-one c) ∙ e)) (simp add-one at w_is))

-- ---- the step, with the number x at the place s

-- a refusal by one test is one by every test that holds with it
as_well : {test other : Bool} {refusal : Refusal} → (test ≡ true → other ≡ true) → Err refusal ≡ refused_if Board test → Err refusal ≡ refused_if Board other
unfolding refused_if
as_well {test = true} holds e = e ∙ sym (ap (refused_if Board) (holds refl))
as_well {test = false} holds e = cc

pub not_below : {s x : ℕ} → fine ≡ refused_if Board (ltb x s) → s ≤ x
not_below {s} {x} e = ltb-false x s (no_fault Board _ (sym e))

module _ (n k : ℕ) (cs fs : List ℕ) {s x : ℕ} (s_is : s ≡ lowest_digit_lem k) (x_is : x ≡ place fs s) where
  pub x_there : x ≡ pointed k fs
  unfolding pointed
  x_there = x_is ∙ ap (place fs) s_is

  -- x is below s
  pub points_low : {refusal : Refusal} → Err refusal ≡ refused_if Board (ltb x s) → Err refusal ≡ step_verdict n k cs fs
  unfolding step_verdict first
  points_low e =
      let low = as_well {other = outside (lowest_digit_lem k) (suc n) (pointed k fs)} (λ t. below_range (lowest_digit_lem k) (suc n) (pointed k fs) (omega (arith, ltb-true x s t, x_there, s_is))) e in
      rw (← low)

  module _ (low : fine ≡ refused_if Board (ltb x s)) where
    in_board : x ≤ n + 1 → outside (lowest_digit_lem k) (suc n) (pointed k fs) ≡ false
    in_board high = in_range (lowest_digit_lem k) (suc n) (pointed k fs) (omega (arith, not_below low, x_there, s_is)) (omega (arith, x_there))

    pub points_to : {w : Verdict} → x ≤ n → w ≡ counter_verdict n k x cs fs → w ≡ step_verdict n k cs fs
    unfolding step_verdict closes
    points_to l w_is = faultless Board (in_board (omega arith))
        (rw (ne_eqb (pointed k fs) (suc n) (λ e. omega (arith, x_there))) (w_is ∙ ap (λ z. counter_verdict n k z cs fs) x_there))

    -- x is above n: only n + 1 closes the round
    pub points_behind : {w : Verdict} → n < x → w ≡ refused_if Board (not (eqb x (n + 1))) → w ≡ step_verdict n k cs fs
    unfolding step_verdict closes
    points_behind l w_is =
        by_eq x (n + 1)
        (λ e. w_is ∙ rw (eq-eqb x (n + 1) e) (sym (last_faultless Board refl) ∙ faultless Board (in_board (omega arith)) (rw (eq-eqb (pointed k fs) (suc n) (sym x_there ∙ e ∙ add-one n)))))
        (λ ne. w_is ∙ rw (ne_eqb x (n + 1) ne) (sym (last_faulty Board refl) ∙ faulty Board _ (above_range (lowest_digit_lem k) (suc n) (pointed k fs) (omega (arith, not_below low, x_there, s_is)) (omega (arith, x_there)))))

  -- ---- what a step that is not refused relies on

  module _ (passed : step_verdict n k cs fs ≡ fine) where
    pub x_range : (s ≤ x) × (x ≤ n + 1)
    unfolding step_verdict
    x_range =
        let w = inside (lowest_digit_lem k) (suc n) (pointed k fs) (no_fault Board _ (both_fine (refused_if Board (outside (lowest_digit_lem k) (suc n) (pointed k fs))) _ passed).0) in
        omega (arith, x_there, s_is)

    closes_where : n < x → closes n k fs ≡ true
    unfolding closes
    closes_where l = eq-eqb (pointed k fs) (suc n) (omega (arith, x_there, x_range))

    module _ (within : x ≤ n) where
      closes_no : closes n k fs ≡ false
      unfolding closes
      closes_no = ne_eqb (pointed k fs) (suc n) (λ e. omega (arith, x_there))

      pub counter_room : place cs x < k * x - 1
      unfolding step_verdict counter_verdict
      counter_room =
          let rest = (both_fine (refused_if Board (outside (lowest_digit_lem k) (suc n) (pointed k fs))) _ passed).1 in
          let digit_fine : counter_verdict n k (pointed k fs) cs fs ≡ fine = rw closes_no at rest in
          let z = leb-false (k * pointed k fs - 1) (place cs (pointed k fs)) (no_fault Board _ (both_fine (refused_if Board (leb (k * pointed k fs - 1) (place cs (pointed k fs)))) _ digit_fine).0) in
          rw x_there z

    -- ---- what the step leaves, by its three ways

    -- the round closes
    pub closing : {ps : List ℕ} → n < x → ps ≡ put fs s s →
        (n ≡ step_flip n k fs) × ((true ≡ closes n k fs) × ((cs ≡ stepped_counters n k cs fs) × (ps ≡ stepped_pointers n k cs fs)))
    unfolding step_flip stepped_counters stepped_pointers
    closing l ps_is = let t = closes_where l in (rw t, (sym t, (rw t, rw t (ps_is ∙ ap (λ z. put fs z z) s_is))))

    module _ {c : ℕ} (within : x ≤ n) (c_is : c ≡ place cs x) {ps qs : List ℕ} where
      -- digit x gains one
      pub gaining : c + 1 ≢ k * x - 1 → qs ≡ put cs x (c + 1) → ps ≡ put fs s s →
          (x ≡ step_flip n k fs) × ((false ≡ closes n k fs) × ((qs ≡ stepped_counters n k cs fs) × (ps ≡ stepped_pointers n k cs fs)))
      unfolding step_flip stepped_counters stepped_pointers fills
      gaining more qs_is ps_is =
          let f = closes_no within in
          let no : eqb (suc (place cs x)) (k * x - 1) ≡ false = ne_eqb (suc (place cs x)) (k * x - 1) (λ e. more (add-one c ∙ ap suc c_is ∙ e)) in (
            rw f x_there,
            (
              sym f,
              (
                rw (f, sym x_there, no) (qs_is ∙ ap (put cs x) (add-one c ∙ ap suc c_is)),
                rw (f, sym x_there, no) (ps_is ∙ ap (λ z. put fs z z) s_is),
              ),
            ),
          )

      -- digit x becomes full
      pub filling : c + 1 ≡ k * x - 1 → qs ≡ put cs x 0 → ps ≡ put (put (put fs s s) x (place fs (suc x))) (suc x) (suc x) →
          (x ≡ step_flip n k fs) × ((false ≡ closes n k fs) × ((qs ≡ stepped_counters n k cs fs) × (ps ≡ stepped_pointers n k cs fs)))
      unfolding step_flip stepped_counters stepped_pointers fills
      filling e qs_is ps_is =
          let f = closes_no within in
          let so : eqb (suc (place cs x)) (k * x - 1) ≡ true = eq-eqb (suc (place cs x)) (k * x - 1) (sym (ap suc c_is) ∙ sym (add-one c) ∙ e) in (
            rw f x_there,
            (
              sym f,
              (
                rw (f, sym x_there, so) qs_is,
                rw (f, sym x_there, so) (ps_is ∙ ap (λ z. put (put (put fs z z) x (place fs (suc x))) (suc x) (suc x)) s_is),
              ),
            ),
          )

-- ---- what a call that is not refused may rely on

-- a step
pub step_asked : (n k : ℕ) (cs fs : List ℕ) → lent_step_verdict n k cs fs ≡ fine → StepAsked n k cs fs
unfolding lent_step_verdict
step_asked n k cs fs e =
    let both = both_fine (buffers_verdict n k cs 1 fs) _ e in record { lent = lent_board (fit n k cs 1 fs both.0); fine = both.1 }

-- its flip has at most n slots
pub step_flip_high : {n k : ℕ} {cs fs : List ℕ} → StepAsked n k cs fs → step_flip n k fs ≤ n
unfolding step_flip pointed closes
step_flip_high {n} {k} {cs} {fs} asked =
    by_eq (pointed k fs) (suc n) (λ e. rw (eq-eqb (place fs (lowest_digit_lem k)) (suc n) e) (le_refl n))
    (λ ne. let range = x_range n k cs fs {s = lowest_digit_lem k} {x = place fs (lowest_digit_lem k)} refl refl asked.fine in
    rw (ne_eqb (place fs (lowest_digit_lem k)) (suc n) ne) (omega arith))

-- ---- the answer of a step

-- its number and place fit a byte each
small_fine : Small fine
unfolding number_of place_of
small_fine = record { number = omega arith; place = omega arith }

small_digit : (n k x : ℕ) (cs fs : List ℕ) → Small (counter_verdict n k x cs fs)
unfolding counter_verdict
small_digit n k x cs fs =
    small_first _ _ (small_if Board _) (λ passed. by_test (fills k x cs) (λ t. rw t (small_if Board _)) (λ t. rw t small_fine))

pub small_step : (n k : ℕ) (cs fs : List ℕ) → Small (lent_step_verdict n k cs fs)
unfolding lent_step_verdict step_verdict
small_step n k cs fs =
    small_first _ _ (small_buffers n k cs 1 fs)
    (λ passed. small_first _ _ (small_if Board _)
    (λ passed. by_test (closes n k fs) (λ t. rw t small_fine) (λ t. rw t (small_digit n k (pointed k fs) cs fs))))

-- ---- the digit x that the pointer at s points to, where the round does not close

pub record Pointed (n k s x : ℕ) (cs fs : List ℕ) : Type 0 where
  pub s_low : 1 ≤ s
  pub s_high : s ≤ x
  pub x_high : x ≤ n
  pub n_high : n ≤ most_slots
  pub product_low : 1 ≤ k * x
  pub product_high : k * x ≤ 160
  pub room : place cs x < k * x - 1
  pub counters : x ≤ length cs
  pub pointers : suc x ≤ length fs

pub pointed_digit : (n k : ℕ) (cs fs : List ℕ) {s x : ℕ} → StepAsked n k cs fs → s ≡ lowest_digit_lem k → x ≡ place fs s → x ≤ n → Pointed n k s x cs fs
pointed_digit n k cs fs {s} {x} asked s_is x_is within =
    let lent = asked.lent in
    let range = x_range n k cs fs s_is x_is asked.fine in
    let one : 1 ≤ x = omega (arith, lowest_range k, s_is) in
    let product = product_range lent.sizes one within in
    record {
      s_low = omega (arith, lowest_range k);
      s_high = range.0;
      x_high = within;
      n_high = lent.sizes.n_high;
      product_low = product.0;
      product_high = product.1;
      room = counter_room n k cs fs s_is x_is asked.fine within;
      counters = omega (arith, lent.counters);
      pointers = omega (arith, lent.pointers);
    }

-- ---- the flip f and whether the round closed, b, as one number

pub step_number_is : (n k : ℕ) (fs : List ℕ) {v f : ℕ} {b : Bool} → v ≡ f + cond b 256 0 → f ≡ step_flip n k fs → b ≡ closes n k fs → v ≡ step_number n k fs
unfolding step_number
step_number_is n k fs v_is f_is b_is = v_is ∙ ap₂ (λ (x : ℕ) (y : Bool). x + cond y 256 0) f_is b_is

-- it is at most 256 more than the flip
pub step_number_high : {n k : ℕ} {cs fs : List ℕ} → StepAsked n k cs fs → step_number n k fs ≤ most_slots + 256
unfolding step_number
step_number_high {n} {k} {cs} {fs} asked =
    let flip_high = step_flip_high asked in
    by_test (closes n k fs) (λ t. rw t (omega (arith, asked.lent.sizes.n_high))) (λ t. rw t (omega (arith, asked.lent.sizes.n_high)))
