-- The walk of a rank: it has that rank, its flip is the flip out of the rank, and moved on it is the walk of the next. Its places
-- are those of the arrangement of the rank, to which the laws of ranks and of looking apply. Assumes nothing.
use Rattle.std.proofs.Common.{Ok}
use mathlib.Core.Path.{◌≡◌, sym, ap, ap₂, ◌∙◌}
use mathlib.Core.List.{List, ◌++◌}
use Prim.Native.Nat.{ℕ, ◌<◌}
use lib.ListN.{drop}
use lib.Seq.{drop-append_seam}
use Rattle.rows.specs.Row.{at, row, front}
use Rattle.rows.proofs.Rows.{length_row, at_front, row_ext}
use Rattle.sizes.specs.Refusal.{fine, first}
use Rattle.sizes.specs.Outcome.{answered}
use Rattle.sizes.specs.Sizes.{weight, Permitted}
use Rattle.sizes.proofs.Weights.{not_refused}
use Rattle.arrangement.specs.Arrangement.{Valid}
use Rattle.flip.specs.Flip.{source, flipped_modules, flipped_settings}
use Rattle.flip.proofs.Flips.{source_lt}
use Rattle.arrangement.proofs.Validity.{valid_fine, valid_ext}
use Rattle.order.specs.Rank.{unrank_modules, unrank_settings}
use Rattle.order.specs.Digits.{flip_out, next_rank}
use Rattle.order.proofs.Ranks.{rank_ext, rank_unrank, unrank_valid}
use Rattle.order.proofs.Steps.{flip_high, next_module, next_setting_lem}
use Rattle.look.proofs.Looks.{look_rank}
use Rattle.walk.specs.Hand.{nothing, walk_verdict, walk_of_lem, walk_rank, walk_look, flipped_walk, handed, tells_rank, moves_on}

-- a front over a front
front_over : (f g h : ℕ → ℕ) (n : ℕ) (xs : List ℕ) → ((i : ℕ) → i < n → g i ≡ h i) → front g n (front f n xs) ≡ front h n xs
unfolding front
front_over f g h n xs same =
    ap₂ (λ (a b : List ℕ). a ++ b) (row_ext g h n same)
    (ap (λ m. drop m (row f n ++ drop n xs)) (sym (length_row f n)) ∙ drop-append_seam (row f n) (drop n xs))

module _ (n k r : ℕ) (sizes : Permitted n k) (r_low : r < weight n k) where
  module_there : (i : ℕ) → i < n → at (front (unrank_modules n k r) n nothing) i ≡ unrank_modules n k r i
  module_there i l = at_front (unrank_modules n k r) n nothing i l

  setting_there : (i : ℕ) → i < n → at (front (unrank_settings n k r) n nothing) i ≡ unrank_settings n k r i
  setting_there i l = at_front (unrank_settings n k r) n nothing i l

  valid_there : Valid n k (at (front (unrank_modules n k r) n nothing)) (at (front (unrank_settings n k r) n nothing))
  valid_there = valid_ext (λ i l. sym (module_there i l)) (λ i l. sym (setting_there i l)) (unrank_valid n k r sizes.k_low r_low)

  -- it is not refused
  pub walk_fine : walk_verdict (walk_of_lem n k r) ≡ fine
  unfolding walk_verdict walk_of_lem first
  walk_fine = rw (← not_refused n k sizes) (sym (valid_fine n k _ _ valid_there))

  -- its rank, and the flip out of it
  pub walk_rank_lem : walk_rank (walk_of_lem n k r) ≡ r
  unfolding walk_rank walk_of_lem
  walk_rank_lem = rank_ext n k _ _ _ _ module_there setting_there ∙ rank_unrank n k r sizes.k_low r_low

  pub walk_look_lem : walk_look (walk_of_lem n k r) ≡ flip_out n k r
  unfolding walk_look walk_of_lem walk_rank
  walk_look_lem = look_rank n k _ _ valid_there sizes.k_low sizes.n_low ∙ ap (flip_out n k) walk_rank_lem

  -- a slot of the walk after that flip
  turned : (i : ℕ) → i < n → source (flip_out n k r) i < n
  turned i l = source_lt (flip_out n k r) n i (flip_high n k r sizes.k_low sizes.n_low r_low) l

  module_next : (i : ℕ) → i < n → flipped_modules (flip_out n k r) (at (front (unrank_modules n k r) n nothing)) i ≡ unrank_modules n k (next_rank n k r) i
  unfolding flipped_modules
  module_next i l = module_there _ (turned i l) ∙ next_module n k r sizes.k_low sizes.n_low r_low i l

  setting_next : (i : ℕ) → i < n → flipped_settings k (flip_out n k r) (at (front (unrank_settings n k r) n nothing)) i ≡ unrank_settings n k (next_rank n k r) i
  unfolding flipped_settings
  setting_next i l =
      rw (setting_there (source (flip_out n k r) i) (turned i l), setting_there i l) (next_setting_lem n k r sizes.k_low sizes.n_low r_low i l)

  -- the walk after that flip is the walk of the next rank
  pub walk_flipped : flipped_walk (flip_out n k r) (walk_of_lem n k r) ≡ walk_of_lem n k (next_rank n k r)
  unfolding flipped_walk walk_of_lem
  walk_flipped = λ i. record {
    n = n;
    k = k;
    modules = front_over (unrank_modules n k r) _ _ n nothing module_next i;
    settings = front_over (unrank_settings n k r) _ _ n nothing setting_next i;
  }

  -- so the calls answer
  pub tells_rank_lem : tells_rank (walk_of_lem n k r) ≡ Ok r
  unfolding tells_rank answered
  tells_rank_lem = rw (walk_fine, walk_rank_lem)

  pub moves_on_lem : moves_on (walk_of_lem n k r) ≡ Ok (record { flip = flip_out n k r; walk = walk_of_lem n k (next_rank n k r) })
  unfolding moves_on handed
  moves_on_lem = rw (walk_fine, walk_look_lem, walk_flipped)
