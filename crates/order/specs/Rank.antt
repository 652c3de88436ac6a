-- 01, "Rank and its digits": the rank of an arrangement, and the arrangement of a rank.
use Rattle.std.specs.Prelude.{ℕ, zero, suc, ◌+◌, ◌-◌, ◌*◌, ◌/◌, ◌%◌}
use Rattle.rows.specs.Search.{if_lt}
use Rattle.sizes.specs.Sizes.{weight}

-- ---- settings, modulo k

-- setting s raised by d
unfoldable pub raised_by : ℕ → ℕ → ℕ → ℕ
raised_by k s d = (s + d) % k

-- setting s lowered by d, which is at most k
unfoldable pub lowered_by : ℕ → ℕ → ℕ → ℕ
lowered_by k s d = (s + (k - d)) % k

-- ---- the renaming, where v:c is in the last of n slots

-- module w above v becomes w - v, and module w below v becomes n - v + w
unfoldable pub renamed_module : ℕ → ℕ → ℕ → ℕ
renamed_module n v w = if_lt v w (w - v) (n - v + w)

-- the setting s of module w is lowered by c + 1 where w is above v, and else by c
unfoldable pub renamed_setting : ℕ → ℕ → ℕ → ℕ → ℕ → ℕ
renamed_setting k v c w s = lowered_by k s (if_lt v w (suc c) c)

-- the first m of suc m slots, renamed
abbrev pub prefix_modules : ℕ → (ℕ → ℕ) → ℕ → ℕ
prefix_modules m M i = renamed_module (suc m) (M m) (M i)

abbrev pub prefix_settings : ℕ → ℕ → (ℕ → ℕ) → (ℕ → ℕ) → ℕ → ℕ
prefix_settings m k M S i = renamed_setting k (M m) (S m) (M i) (S i)

-- the renaming undone: x and v are at most n together where the module was above v
unfoldable pub restored_module : ℕ → ℕ → ℕ → ℕ
restored_module n v x = if_lt n (v + x) (v + x - n) (v + x)

unfoldable pub restored_setting : ℕ → ℕ → ℕ → ℕ → ℕ → ℕ → ℕ
restored_setting n k v c x s = raised_by k s (if_lt n (v + x) c (suc c))

-- the first m of suc m slots with the renaming undone, and v:c in the last
abbrev pub restored_modules : ℕ → ℕ → (ℕ → ℕ) → ℕ → ℕ
restored_modules m v M i = if_lt i m (restored_module (suc m) v (M i)) v

abbrev pub restored_settings : ℕ → ℕ → ℕ → ℕ → (ℕ → ℕ) → (ℕ → ℕ) → ℕ → ℕ
restored_settings m k v c M S i = if_lt i m (restored_setting (suc m) k v c (M i) (S i)) c

-- ---- rank and unrank

-- the last digit, with v:c in the last of n slots
unfoldable pub last_digit_lem : ℕ → ℕ → ℕ → ℕ
last_digit_lem n v c = c * n + (n - v)

-- the rank: the last digit times its weight, and the rank of the slots before the last, renamed. Of no slots it is 0, so that
-- of one slot it is c
unfoldable pub rank : ℕ → ℕ → (ℕ → ℕ) → (ℕ → ℕ) → ℕ
rank zero k M S = 0
rank (suc m) k M S =
    last_digit_lem (suc m) (M m) (S m) * weight m k + rank m k (prefix_modules m M) (prefix_settings m k M S)

-- v and c of the last digit d of n slots
unfoldable pub module_of : ℕ → ℕ → ℕ
module_of n d = n - d % n

unfoldable pub setting_of : ℕ → ℕ → ℕ
setting_of n d = d / n

-- unrank: the module and the setting in slot i, counted from 0, of the arrangement of rank r. The last digit is r divided by
-- its weight, and the slots before the last are those of the remainder, with the renaming undone
unfoldable pub unrank_modules : ℕ → ℕ → ℕ → ℕ → ℕ
unrank_modules zero k r i = 0
unrank_modules (suc m) k r i =
    restored_modules m (module_of (suc m) (r / weight m k)) (unrank_modules m k (r % weight m k)) i

unfoldable pub unrank_settings : ℕ → ℕ → ℕ → ℕ → ℕ
unrank_settings zero k r i = 0
unrank_settings (suc m) k r i =
    restored_settings m k (module_of (suc m) (r / weight m k)) (setting_of (suc m) (r / weight m k))
    (unrank_modules m k (r % weight m k)) (unrank_settings m k (r % weight m k)) i

-- the last arrangement, n:(k - 1) .. 2:(k - 1) 1:(k - 1), whose digits are all full
unfoldable pub last_modules : ℕ → ℕ → ℕ
last_modules n i = n - i

unfoldable pub last_settings : ℕ → ℕ → ℕ
last_settings k i = k - 1
