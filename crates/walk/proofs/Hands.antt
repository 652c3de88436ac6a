-- The laws of walks in hand. What a check, a rank, a look and a flip of the first n places say depends on these places alone, so it
-- is the same of the part that is lent and of the whole. Assumes nothing.
use Rattle.std.proofs.Common.{Result, Ok, Err}
use mathlib.Core.Path.{◌≡◌, ap, ◌∙◌}
use mathlib.Core.List.{List, ◌++◌}
use Prim.Native.Nat.{ℕ, suc, ◌-◌, ◌≤◌, ◌<◌}
use native.Mathlib.Omega.{arith}
use lib.ListN.{length, take, drop}
use lib.Seq.{get_or-take}
use Rattle.rows.specs.Row.{at, row, front}
use Rattle.rows.specs.Search.{or_else}
use Rattle.rows.proofs.Cases.{inside}
use Rattle.rows.proofs.Rows.{row_ext}
use Rattle.rows.proofs.Searches.{lowest_ext}
use Rattle.sizes.specs.declared.Fault.TheVariants.{Flip}
use Rattle.sizes.specs.declared.Refusal.{Refusal}
use Rattle.sizes.specs.Refusal.{Verdict, fine}
use Rattle.sizes.specs.Sizes.{sizes_verdict}
use Rattle.sizes.proofs.Refusals.{both_fine, no_fault}
use Rattle.sizes.proofs.Weights.{permitted}
use Rattle.arrangement.specs.Check.{slots_verdict}
use Rattle.flip.specs.Flip.{source, flipped_modules, flipped_settings, flip_length_verdict}
use Rattle.flip.proofs.Flips.{source_lt}
use Rattle.arrangement.specs.declared.lent.Arrangement.{Arrangement}
use Rattle.arrangement.proofs.Validity.{valid, slots_ext}
use Rattle.order.specs.Rank.{rank}
use Rattle.order.proofs.Ranks.{rank_ext}
use Rattle.look.specs.Look.{stops, look}
use Rattle.look.proofs.Looks.{look_is}
use Rattle.walk.specs.Hand.{walk_verdict, walk_flip_verdict, walk_rank, walk_look, handed}
use Rattle.walk.specs.declared.hand.Walk.{Walk}
use Rattle.walk.specs.declared.hand.Kept.{Kept}
use Rattle.walk.specs.Asked.{PlacesAsked}

-- ---- arrangements that agree on n slots

module _ (n k : ℕ) (M S M' S' : ℕ → ℕ) (same_m : (i : ℕ) → i < n → M i ≡ M' i) (same_s : (i : ℕ) → i < n → S i ≡ S' i) where
  look_ext : 1 ≤ n → look n k M S ≡ look n k M' S'
  unfolding look stops
  look_ext h =
      ap (λ x. or_else x n) (lowest_ext _ _ (n - 1)
      (λ i l. rw (same_m 0 h, same_s 0 h, same_m i (omega arith), same_m (suc i) (omega arith), same_s (suc i) (omega arith))))

-- ---- the first n places

module _ (n : ℕ) (xs : List ℕ) where
  taken : (i : ℕ) → i < n → at (take n xs) i ≡ at xs i
  taken i l = get_or-take n xs i 0 l

-- as it is lent, and as it is
module _ (w : Walk) where
  pub places_judged : slots_verdict w.n w.k (at (take w.n w.modules)) (at (take w.n w.settings)) ≡ slots_verdict w.n w.k (at w.modules) (at w.settings)
  places_judged = slots_ext w.n w.k _ _ _ _ (taken w.n w.modules) (taken w.n w.settings)

  pub places_ranked : rank w.n w.k (at (take w.n w.modules)) (at (take w.n w.settings)) ≡ walk_rank w
  unfolding walk_rank
  places_ranked = rank_ext w.n w.k _ _ _ _ (taken w.n w.modules) (taken w.n w.settings)

  pub places_looked : 1 ≤ w.n → look w.n w.k (at (take w.n w.modules)) (at (take w.n w.settings)) ≡ walk_look w
  unfolding walk_look
  places_looked = look_ext w.n w.k _ _ _ _ (taken w.n w.modules) (taken w.n w.settings)

-- an arrangement that was made of that part: its rank, and the flip by looking
module _ (w : Walk) (a : Arrangement) (sizes : (a.sizes.n ≡ w.n) × (a.sizes.k ≡ w.k))
    (rows : (a.modules.now ≡ take w.n w.modules) × (a.settings.now ≡ take w.n w.settings)) where
  pub ranked_in : rank a.sizes.n a.sizes.k (at a.modules.now) (at a.settings.now) ≡ walk_rank w
  ranked_in = rw (sizes.0, sizes.1, rows.0, rows.1) (places_ranked w)

  pub looked_in : look a.sizes.n a.sizes.k (at a.modules.now) (at a.settings.now) ≡ walk_look w
  looked_in = rw (sizes.0, sizes.1, rows.0, rows.1) (places_looked w (omega (arith, a.sizes.permitted.n_low, sizes.0)))

  pub looked_high : look a.sizes.n a.sizes.k (at a.modules.now) (at a.settings.now) ≤ w.n
  looked_high = omega (arith, sizes.0, (look_is a.sizes.n a.sizes.k (at a.modules.now) (at a.settings.now) a.sizes.permitted.n_low).most)

-- after a flip of the part that was lent
module _ (n k j : ℕ) (xs : List ℕ) {ys : List ℕ} (l : j ≤ n) (same : length (take n xs) ≡ n) where
  joined : (f g : ℕ → ℕ) → ys ≡ row f (length (take n xs)) → ((i : ℕ) → i < n → f i ≡ g i) → ys ++ drop n xs ≡ front g n xs
  unfolding front
  joined f g ys_are agree = ap (λ zs. zs ++ drop n xs) (ys_are ∙ ap (row f) same ∙ row_ext f g n agree)

  pub modules_flipped : ys ≡ row (flipped_modules j (at (take n xs))) (length (take n xs)) → ys ++ drop n xs ≡ front (flipped_modules j (at xs)) n xs
  unfolding flipped_modules
  modules_flipped ys_are = joined _ _ ys_are (λ i g. taken n xs (source j i) (source_lt j n i l g))

  pub settings_flipped : ys ≡ row (flipped_settings k j (at (take n xs))) (length (take n xs)) → ys ++ drop n xs ≡ front (flipped_settings k j (at xs)) n xs
  unfolding flipped_settings
  settings_flipped ys_are = joined _ _ ys_are (λ i g. rw (taken n xs (source j i) (source_lt j n i l g), taken n xs i g))

-- ---- what a call that is not refused may rely on

pub walk_asked : (w : Walk) → walk_verdict w ≡ fine → PlacesAsked w
unfolding walk_verdict
walk_asked w e =
    let passed = both_fine (sizes_verdict w.n w.k) _ e in record { sizes = permitted w.n w.k passed.0; valid = valid w.n w.k _ _ passed.1 }

pub flip_asked : (w : Walk) (j : ℕ) → walk_flip_verdict w j ≡ fine → PlacesAsked w × (j ≤ w.n)
unfolding walk_flip_verdict flip_length_verdict
flip_asked w j e =
    let passed = both_fine (walk_verdict w) _ e in (walk_asked w passed.0, (inside 1 w.n j (no_fault Flip _ passed.1)).1)

-- ---- what a call answers that has a walk

pub handed_done : {A : Type 0} {check : Verdict} (kept : Walk) {x y : A} → fine ≡ check → y ≡ x → ◌≡◌ {A = Result A Kept} (Ok y) (handed check kept x)
unfolding handed
handed_done kept e same = rw (← e, same)

pub handed_kept : {A : Type 0} {check : Verdict} {kept was : Walk} {r : Refusal} (x : A) → Err r ≡ check → was ≡ kept →
    ◌≡◌ {A = Result A Kept} (Err (record { refusal = r; walk = was })) (handed check kept x)
unfolding handed
handed_kept x e same = rw (← e, same)

-- ---- the walk of a rank

-- what was written in its first places
pub places_written : (f : ℕ → ℕ) (n : ℕ) (xs : List ℕ) {ys : List ℕ} → ys ≡ row f n → ys ++ drop n xs ≡ front f n xs
unfolding front
places_written f n xs e = ap (λ zs. zs ++ drop n xs) e
