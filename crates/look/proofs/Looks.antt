-- Looking finds the flip that the rank names, so it leads to the next rank. The lowest slot behind which the slots stop falling
-- is the length of the longest falling prefix, and the falling prefixes are those whose digits are full. Assumes nothing.
use mathlib.Core.Path.{◌≡◌, sym, ap, ◌∙◌}
use mathlib.Core.Bool.{true, false}
use mathlib.Core.Logic.{◌≢◌}
use mathlib.Core.List.{List}
use Prim.Native.Nat.{ℕ, zero, suc, ◌+◌, ◌-◌, ◌*◌, ◌≤◌, ◌<◌}
use native.Mathlib.Nat.{le_refl}
use native.Mathlib.Numerals.{add-one}
use native.Mathlib.Omega.{arith}
use borrow.Author.Tests.{eq-eqb, ne_eqb, le-leb, lt-leb}
use Rattle.rows.specs.Row.{at}
use Rattle.rows.specs.Search.{if_lt, or_else, lowest}
use Rattle.rows.proofs.Cases.{by_eq, by_lt, opposite}
use Rattle.rows.proofs.Searches.{by_lowest, none_yet, passed, found}
use Rattle.sizes.specs.Sizes.{most_slots}
use Rattle.arrangement.specs.Arrangement.{Valid}
use Rattle.flip.specs.Flip.{raised, flipped_modules, flipped_settings, Flippable}
use Rattle.arrangement.proofs.Validity.{Accepted}
use Rattle.order.specs.Rank.{rank}
use Rattle.order.specs.Digits.{digit, flip_out, next_rank}
use Rattle.order.proofs.Digits.{IsFlip, Full, flip_out_lem, flip_unique, full_suc, full_each, digit_lt}
use Rattle.order.proofs.Steps.{step_flip_lem}
use Rattle.look.specs.Look.{offset, expected_setting, stops, look}
use Rattle.look.proofs.Falling.{Falls, offset_below, expected_below, falls_full}

-- ---- one slot more

module _ (n k : ℕ) (M S : ℕ → ℕ) where
  -- the slots go on falling behind slot i
  pub record Goes (i : ℕ) : Type 0 where
    pub expected : S (suc i) ≡ expected_setting k (M 0) (S 0) (M (suc i))
    pub up : offset n (M 0) (M i) < offset n (M 0) (M (suc i))

  pub stops_setting : (i : ℕ) → S (suc i) ≢ expected_setting k (M 0) (S 0) (M (suc i)) → stops n k M S i ≡ true
  unfolding stops
  stops_setting i ne = rw (ne_eqb _ _ ne)

  pub stops_module : (i : ℕ) → S (suc i) ≡ expected_setting k (M 0) (S 0) (M (suc i)) → offset n (M 0) (M (suc i)) ≤ offset n (M 0) (M i) → stops n k M S i ≡ true
  unfolding stops
  stops_module i e l = rw (eq-eqb (S (suc i)) (expected_setting k (M 0) (S 0) (M (suc i))) e) (le-leb _ _ l)

  pub goes_on : (i : ℕ) → Goes i → stops n k M S i ≡ false
  unfolding stops
  goes_on i g = rw (eq-eqb (S (suc i)) (expected_setting k (M 0) (S 0) (M (suc i))) g.expected) (lt-leb _ _ g.up)

  goes : (i : ℕ) → stops n k M S i ≡ false → Goes i
  goes i f =
      by_eq (S (suc i)) (expected_setting k (M 0) (S 0) (M (suc i)))
      (λ e. by_lt (offset n (M 0) (M i)) (offset n (M 0) (M (suc i)))
      (λ u. record { expected = e; up = u }) (λ l. absurd (opposite (stops_module i e l) f)))
      (λ ne. absurd (opposite (stops_setting i ne) f))

  -- ---- the falling prefixes

  falls_each : (j : ℕ) → ((i : ℕ) → i < j → stops n k M S i ≡ false) → Falls n k (suc j) M S
  falls_each j all = record {
    expected = λ i h. at_each i h;
    up = λ i h. (goes i (all i (omega arith))).up;
  }
    where
      at_each : (i : ℕ) → i < suc j → S i ≡ expected_setting k (M 0) (S 0) (M i)
      at_each zero h = sym (expected_below k _ _ _ (le_refl _))
      at_each (suc i) h = (goes i (all i (omega arith))).expected

  falls_no_more : (j : ℕ) → stops n k M S j ≡ true → ¬ (Falls n k (suc (suc j)) M S)
  falls_no_more j t f =
      opposite t (goes_on j (record { expected = f.expected (suc j) (le_refl _); up = f.up j (le_refl _) }))

  -- j is the length of the longest falling prefix
  pub record IsLook (j : ℕ) : Type 0 where
    pub one : 1 ≤ j
    pub most : j ≤ n
    pub falls : Falls n k j M S
    pub stop : j < n → ¬ (Falls n k (suc j) M S)

  pub look_is : 1 ≤ n → IsLook (look n k M S)
  unfolding look or_else
  look_is l =
      by_lowest (stops n k M S) (n - 1)
      (λ none e. rw e (record {
        one = l;
        most = le_refl n;
        falls = let z : suc (n - 1) ≡ n = omega arith in rw z at (falls_each (n - 1) none);
        stop = λ z. absurd (omega arith);
      }))
      (λ i b t low e. rw e (record {
        one = omega arith;
        most = omega arith;
        falls = falls_each i low;
        stop = λ z. falls_no_more i t;
      }))

-- ---- the flip that the rank names

module _ (n k : ℕ) (M S : ℕ → ℕ) (ok : Valid n k M S) (h : 1 ≤ k) where
  look_flip : (j : ℕ) → IsLook n k M S j → IsFlip n k (rank n k M S) j
  look_flip zero w = absurd (omega (arith, w.one))
  look_flip (suc p) w = record {
    one = w.one;
    most = w.most;
    full = full_each k h p _ top;
    stop = λ l. by_lt (suc (digit k (rank n k M S) (suc p))) (k * suc p) (λ x. x)
        (λ x. absurd (w.stop l ((falls_full n k (suc p) M S ok l).1 (full_suc k h p _ top (omega (arith, digit_lt p k (rank n k M S) h))))));
  }
    where
      top : Full p k (rank n k M S)
      top = (falls_full n k p M S ok w.most).0 w.falls

  -- the flip by looking is the flip out of the rank
  pub look_rank : 1 ≤ n → look n k M S ≡ flip_out n k (rank n k M S)
  look_rank l = flip_unique n k _ _ _ (look_flip _ (look_is n k M S l)) (flip_out_lem n k _ h l)

  -- so making it leads to the next rank
  pub look_step : 1 ≤ n → rank n k (flipped_modules (look n k M S) M) (flipped_settings k (look n k M S) S) ≡ next_rank n k (rank n k M S)
  look_step l = step_flip_lem n k _ M S ok h (look_flip _ (look_is n k M S l))

-- ---- what the loop of the code knows

module _ (n k : ℕ) (M S : ℕ → ℕ) where
  -- it stops at slot i
  pub look_stops : (i : ℕ) → lowest (stops n k M S) i ≡ 0 → stops n k M S i ≡ true → i < n - 1 → look n k M S ≡ i + 1
  unfolding look or_else
  look_stops i none t l = rw (found (stops n k M S) i (n - 1) none t l, add-one)

  -- it has passed all slots
  pub look_all : lowest (stops n k M S) (n - 1) ≡ 0 → look n k M S ≡ n
  unfolding look or_else
  look_all none = rw none

-- the slots before `next` are falling; the code has the cell in front, its setting raised, and how far down the module of the last
-- of them is
pub record Looking (n k : ℕ) (M S : ℕ → ℕ) (front setting up reached next : ℕ) : Type 0 where
  pub front_is : front ≡ M 0
  pub setting_is : setting ≡ S 0
  pub up_is : up ≡ raised k setting
  pub reached_is : reached ≡ offset n (M 0) (M (next - 1))
  pub none : lowest (stops n k M S) (next - 1) ≡ 0

pub looking_first : {n k front setting up : ℕ} {M S : ℕ → ℕ} → front ≡ M 0 → setting ≡ S 0 → up ≡ raised k setting → Looking n k M S front setting up 0 1
looking_first {n} {k} {front} {setting} {up} {M} {S} front_is setting_is up_is = record {
  front_is = front_is;
  setting_is = setting_is;
  up_is = up_is;
  reached_is = omega (arith, offset_below n (M 0) (M 0) (le_refl _));
  none = none_yet _;
}

-- v:t is in the next slot, and e is the setting that goes with v
module _ {n k front setting up reached next v t e : ℕ} {M S : ℕ → ℕ} (so : Looking n k M S front setting up reached next)
    (v_is : v ≡ M next) (t_is : t ≡ S next) (e_is : e ≡ if_lt front v up setting) (low : 1 ≤ next) (h : next < n) where
  here : suc (next - 1) ≡ next
  here = omega arith

  goes_with : e ≡ expected_setting k (M 0) (S 0) (M (suc (next - 1)))
  unfolding expected_setting
  goes_with = e_is ∙ rw (so.up_is, so.front_is, so.setting_is, v_is, here)

  stopped : stops n k M S (next - 1) ≡ true → next ≡ look n k M S
  stopped t = let first = look_stops n k M S (next - 1) so.none t (omega arith) in omega arith

  pub stops_by_setting : t ≢ e → next ≡ look n k M S
  stops_by_setting ne = stopped (stops_setting n k M S (next - 1) (λ q. ne (t_is ∙ ap S (sym here) ∙ q ∙ sym goes_with)))

  -- and it is the setting there; x tells how far down v is
  module _ {x : ℕ} (same : t ≡ e) (x_is : x ≡ offset n front v) where
    setting_same : S (suc (next - 1)) ≡ expected_setting k (M 0) (S 0) (M (suc (next - 1)))
    setting_same = ap S here ∙ sym t_is ∙ same ∙ goes_with

    further_is : x ≡ offset n (M 0) (M (suc (next - 1)))
    further_is = x_is ∙ rw (so.front_is, v_is, here)

    pub stops_by_module : x ≤ reached → next ≡ look n k M S
    stops_by_module l =
        stopped (stops_module n k M S (next - 1) setting_same (omega (arith, further_is, so.reached_is)))

    pub looking_on : reached < x → Looking n k M S front setting up x (next + 1)
    looking_on l =
        let on : next - 1 + 1 ≡ next + 1 - 1 = omega arith in
        let at_next : suc (next - 1) ≡ next + 1 - 1 = omega arith in
        record {
          front_is = so.front_is;
          setting_is = so.setting_is;
          up_is = so.up_is;
          reached_is = further_is ∙ ap (λ y. offset n (M 0) (M y)) at_next;
          none = rw on at (passed (stops n k M S) (next - 1) so.none (goes_on n k M S (next - 1) (record { expected = setting_same; up = omega (arith, further_is, so.reached_is) })));
        }

-- the flip found can be made
pub look_flippable : {n k j : ℕ} {ms ss : List ℕ} → Accepted n k ms ss → j ≡ look n k (at ms) (at ss) → Flippable k j ms ss
look_flippable {n} {k} {j} {ms} {ss} asked j_is =
    let high : j ≤ n = omega (arith, (look_is n k (at ms) (at ss) asked.sizes.n_low).most) in record {
      k_high = asked.sizes.k_high;
      j_high = omega (arith, asked.sizes.n_high);
      modules = omega (arith, asked.modules);
      settings = omega (arith, asked.settings);
      set = λ i h. (asked.valid_is.cell i (omega arith)).setting;
    }

-- and has at most 20 slots, so that it fits its bits of an answer
pub look_small : {n k j : ℕ} {ms ss : List ℕ} → Accepted n k ms ss → j ≡ look n k (at ms) (at ss) → j ≤ most_slots
look_small asked j_is = (look_flippable asked j_is).j_high
