-- 01, "Arrangements and sizes": the walk in hand, a record of n, k and an arrangement. It has 20 places for modules and 20 for
-- settings; those behind n are never looked at, are 0 in a walk made from n, k and a rank, and otherwise stay. A refused walk comes
-- back as it was given.
use Rattle.std.specs.Prelude.{ℕ, List, replicate, Result, Ok, Err}
use Rattle.rows.specs.Row.{at, front}
use Rattle.sizes.specs.declared.Refusal.{Refusal}
use Rattle.sizes.specs.Refusal.{Verdict, first}
use Rattle.sizes.specs.Outcome.{answered}
use Rattle.sizes.specs.Sizes.{sizes_verdict, most_slots}
use Rattle.arrangement.specs.Check.{slots_verdict}
use Rattle.flip.specs.Flip.{flipped_modules, flipped_settings, flip_length_verdict}
use Rattle.order.specs.Rank.{rank, unrank_modules, unrank_settings}
use Rattle.order.specs.Check.{start_verdict}
use Rattle.look.specs.Look.{look}
use Rattle.walk.specs.declared.hand.Walk.{Walk}
use Rattle.walk.specs.declared.hand.Kept.{Kept}
use Rattle.walk.specs.declared.hand.Moved.{Moved}

-- ---- the checks

-- of a walk: 1, 2, 3, 5, 6 and 7
unfoldable pub walk_verdict : Walk → Verdict
walk_verdict w = first (sizes_verdict w.n w.k) (slots_verdict w.n w.k (at w.modules) (at w.settings))

-- of a walk and the length of a flip: 9 too
unfoldable pub walk_flip_verdict : Walk → ℕ → Verdict
walk_flip_verdict w j = first (walk_verdict w) (flip_length_verdict w.n j)

-- ---- the walks

-- 20 places with nothing in them
abbrev pub nothing : List ℕ
nothing = replicate most_slots 0

-- the walk of a rank
unfoldable pub walk_of_lem : ℕ → ℕ → ℕ → Walk
walk_of_lem n k r =
    record { n = n; k = k; modules = front (unrank_modules n k r) n nothing; settings = front (unrank_settings n k r) n nothing }

-- the walk of no rank, with 0 for every number
unfoldable pub no_walk_lem : Walk
no_walk_lem = record { n = 0; k = 0; modules = nothing; settings = nothing }

-- a walk after a flip of length j
unfoldable pub flipped_walk : ℕ → Walk → Walk
flipped_walk j w = record {
  n = w.n;
  k = w.k;
  modules = front (flipped_modules j (at w.modules)) w.n w.modules;
  settings = front (flipped_settings w.k j (at w.settings)) w.n w.settings;
}

-- the flip by looking, and the rank
unfoldable pub walk_look : Walk → ℕ
walk_look w = look w.n w.k (at w.modules) (at w.settings)

unfoldable pub walk_rank : Walk → ℕ
walk_rank w = rank w.n w.k (at w.modules) (at w.settings)

-- ---- what each call answers

-- an answer that has a walk: what was asked for, or the refusal with the walk that is kept
unfoldable pub handed : {A : Type 0} → Verdict → Walk → A → Result A Kept
handed (Ok done) kept x = Ok x
handed (Err refusal) kept x = Err (record { refusal = refusal; walk = kept })

unfoldable pub makes : ℕ → ℕ → ℕ → Result Walk Kept
makes n k r = handed (start_verdict n k r) no_walk_lem (walk_of_lem n k r)

unfoldable pub tells_rank : Walk → Result ℕ Refusal
tells_rank w = answered (walk_verdict w) (walk_rank w)

unfoldable pub tells_flip : Walk → Result ℕ Refusal
tells_flip w = answered (walk_verdict w) (walk_look w)

unfoldable pub flips : Walk → ℕ → Result Walk Kept
flips w j = handed (walk_flip_verdict w j) w (flipped_walk j w)

unfoldable pub moves_on : Walk → Result Moved Kept
moves_on w = handed (walk_verdict w) w (record { flip = walk_look w; walk = flipped_walk (walk_look w) w })
