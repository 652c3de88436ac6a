-- Where a module stands. A flip takes the module in slot x to slot `source j x`, since turning twice changes nothing, and raises
-- its setting where x is one of the slots turned; a module that stands nowhere stays so. Assumes nothing.
use mathlib.Core.Path.{◌≡◌, refl, sym, ap, ◌∙◌}
use mathlib.Core.Bool.{Bool, true, false, cond}
use Prim.Native.Nat.{ℕ, suc, ◌-◌, ◌≤◌, ◌<◌}
use native.Mathlib.Omega.{arith}
use lib.Dec.{leb, eqb}
use borrow.Author.Tests.{eqb-true, eq-eqb, leb-false, lt-leb, lt-ltb, le-ltb}
use Rattle.rows.specs.Search.{if_lt, lowest}
use Rattle.rows.proofs.Cases.{by_lt, by_test, opposite, if_lt_lem, if_ge}
use Rattle.rows.proofs.Searches.{by_lowest}
use Rattle.flip.specs.Flip.{raised, source, flipped_modules, flipped_settings}
use Rattle.flip.proofs.Flips.{raised_lt, source_front, source_behind, source_lt}
use mathlib.Core.List.{List}
use Rattle.rows.specs.Row.{at, row}
use Rattle.rows.proofs.Rows.{at_row}
use Rattle.sizes.specs.Sizes.{weight}
use Rattle.arrangement.specs.Arrangement.{Valid}
use Rattle.arrangement.proofs.Validity.{valid_ext}
use Rattle.order.specs.Rank.{unrank_modules, unrank_settings}
use Rattle.order.proofs.Ranks.{unrank_valid}
use Rattle.stretch.specs.Asked.{Seated, SeatedAt, together}
use Rattle.stretch.specs.Pair.{stands_at, pair_at, has_pair}

-- turning twice changes nothing
source_back : (j i : ℕ) → source j (source j i) ≡ i
source_back j i =
    by_lt i j
    (λ l. let e = source_front j i l in omega (arith, source_front j (source j i) (omega arith)))
    (λ l. let e = source_behind j i l in rw e e)

source_high : (j n x : ℕ) → j ≤ n → x ≤ n → source j x ≤ n
source_high j n x h l = by_lt x j (λ g. omega (arith, source_front j x g)) (λ g. omega (arith, source_behind j x g))

-- the slot is one of those turned exactly where it was
source_turned : (j x a b : ℕ) → if_lt (source j x) j a b ≡ if_lt x j a b
source_turned j x a b =
    by_lt x j
    (λ l. if_lt_lem a b (omega (arith, source_front j x l)) ∙ sym (if_lt_lem a b l))
    (λ l. if_ge a b (omega (arith, source_behind j x l)) ∙ sym (if_ge a b l))

-- after a flip
pub seat_turned : {n k : ℕ} {M S : ℕ → ℕ} {v x s : ℕ} (j : ℕ) → 1 ≤ k → j ≤ n → Seated n k M S v x s →
    Seated n k (flipped_modules j M) (flipped_settings k j S) v (source j x) (if_lt x j (raised k s) s)
unfolding flipped_modules flipped_settings
seat_turned {n} {k} {M} {S} {v} {x} {s} j k_low j_high seat = record {
  high = source_high j n x j_high seat.high;
  setting = by_lt x j (λ l. omega (arith, if_lt_lem (raised k s) s l, raised_lt k s k_low)) (λ l. omega (arith, if_ge {a = x} {b = j} (raised k s) s l, seat.setting));
  here = λ l.
      let was : x < n = by_lt x n (λ g. g) (λ g. let e : x ≡ n = omega (arith, seat.high) in absurd (omega (arith, source_behind j x (omega arith)))) in
      let found = seat.here was in (
        ap M (source_back j x) ∙ found.0,
        source_turned j x (raised k (S (source j (source j x)))) (S (source j x)) ∙
            by_lt x j
            (λ g. if_lt_lem _ _ g ∙ ap (raised k) (ap S (source_back j x) ∙ found.1) ∙ sym (if_lt_lem _ _ g))
            (λ g. if_ge _ _ g ∙ ap S (source_behind j x g) ∙ found.1 ∙ sym (if_ge _ _ g)),
      );
  only = λ i l e. sym (source_back j i) ∙ ap (source j) (seat.only (source j i) (source_lt j n i j_high l) e);
}

-- in an arrangement that is the same in all slots
pub seat_ext : {n k : ℕ} {M S M' S' : ℕ → ℕ} {v x s : ℕ} → ((i : ℕ) → i < n → M i ≡ M' i) → ((i : ℕ) → i < n → S i ≡ S' i) → Seated n k M S v x s → Seated n k M' S' v x s
seat_ext same_m same_s seat = record {
  high = seat.high;
  setting = seat.setting;
  here = λ l. (sym (same_m _ l) ∙ (seat.here l).0, sym (same_s _ l) ∙ (seat.here l).1);
  only = λ i l e. seat.only i l (same_m i l ∙ e);
}

-- ---- two modules side by side

both : (a b : Bool) → cond a b false ≡ true → (a ≡ true) × (b ≡ true)
both true b e = (refl, e)
both false b e = (e, cc)

module _ (M S : ℕ → ℕ) (v c i : ℕ) where
  stands : M i ≡ v → S i ≡ c → stands_at M S v c i ≡ true
  unfolding stands_at
  stands a b = rw (eq-eqb (M i) v a, eq-eqb (S i) c b)

  stood : stands_at M S v c i ≡ true → (M i ≡ v) × (S i ≡ c)
  unfolding stands_at
  stood t = let w = both (eqb (M i) v) (eqb (S i) c) t in (eqb-true (M i) v w.0, eqb-true (S i) c w.1)

module _ (n x s y u c e : ℕ) where
  joined : suc x ≡ y → y < n → s ≡ c → u ≡ e → together n x s y u c e ≡ true
  unfolding together
  joined next low a b = rw (eq-eqb (suc x) y next, lt-leb n y low, eq-eqb s c a, eq-eqb u e b)

  record Joined : Type 0 where
    next : suc x ≡ y
    low : y < n
    first_set : s ≡ c
    second_set : u ≡ e

  were_joined : together n x s y u c e ≡ true → Joined
  unfolding together
  were_joined t =
      let w = both (eqb (suc x) y) (cond (leb n y) false (cond (eqb s c) (eqb u e) false)) t in
      by_test (leb n y)
      (λ g. let z : ◌≡◌ {A = Bool} false true = sym (rw g) ∙ w.1 in absurd (opposite z refl))
      (λ g. let settings = both (eqb s c) (eqb u e) (sym (rw g) ∙ w.1) in
      record { next = eqb-true (suc x) y w.0; low = leb-false n y g; first_set = eqb-true s c settings.0; second_set = eqb-true u e settings.1 })

-- the pair stands in an arrangement exactly where the two seats are together
pub seats_together : {n k : ℕ} {M S : ℕ → ℕ} {v w x s y u : ℕ} (c e : ℕ) → Seated n k M S v x s → Seated n k M S w y u → together n x s y u c e ≡ has_pair n M S v c w e
unfolding has_pair pair_at
seats_together {n} {k} {M} {S} {v} {w} {x} {s} {y} {u} c e first second =
    by_lowest (λ i. cond (stands_at M S v c i) (stands_at M S w e (suc i)) false) (n - 1)
    (λ none z. by_test (together n x s y u c e)
    (λ t. let j = were_joined n x s y u c e t in
    let a = first.here (omega (arith, j.next, j.low)) in let b = second.here j.low in
    absurd (opposite
    (rw (stands M S v c x a.0 (a.1 ∙ j.first_set), stands M S w e (suc x) (ap M j.next ∙ b.0) (ap S j.next ∙ b.1 ∙ j.second_set)))
    (none x (omega (arith, j.next, j.low)))))
    (λ f. f ∙ sym (le-ltb 0 (lowest (λ i. cond (stands_at M S v c i) (stands_at M S w e (suc i)) false) (n - 1)) (omega (arith, z)))))
    (λ i l t low z.
    let found = both (stands_at M S v c i) (stands_at M S w e (suc i)) t in
    let a = stood M S v c i found.0 in let b = stood M S w e (suc i) found.1 in
    let i_is = first.only i (omega arith) a.0 in let next_is = second.only (suc i) (omega arith) b.0 in
    joined n x s y u c e (ap suc (sym i_is) ∙ next_is) (omega (arith, next_is))
    (sym (first.here (omega (arith, i_is))).1 ∙ ap S (sym i_is) ∙ a.1) (sym (second.here (omega (arith, next_is))).1 ∙ ap S (sym next_is) ∙ b.1) ∙
    sym (lt-ltb 0 (lowest (λ i. cond (stands_at M S v c i) (stands_at M S w e (suc i)) false) (n - 1)) (omega (arith, z))))

-- ---- the arrangement of a rank, written into two rows

-- what stands in a row that was written
row_is : (f : ℕ → ℕ) (n : ℕ) {xs : List ℕ} → xs ≡ row f n → (i : ℕ) → i < n → f i ≡ at xs i
row_is f n e i l = sym (ap (λ xs. at xs i) e ∙ at_row f n i l)

module _ (n k r : ℕ) {ms ss : List ℕ} (ms_are : ms ≡ row (unrank_modules n k r) n) (ss_are : ss ≡ row (unrank_settings n k r) n) where
  -- it is valid there
  pub written_valid : 1 ≤ k → r < weight n k → Valid n k (at ms) (at ss)
  written_valid k_low r_low = valid_ext (row_is _ n ms_are) (row_is _ n ss_are) (unrank_valid n k r k_low r_low)

  -- and a seat in the rows is one in it
  pub seat_written : {v x s : ℕ} → Seated n k (at ms) (at ss) v x s → SeatedAt n k r v x s
  seat_written seat = seat_ext (λ i l. sym (row_is _ n ms_are i l)) (λ i l. sym (row_is _ n ss_are i l)) seat
