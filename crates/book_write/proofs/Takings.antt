-- Lines taken into four lists, one by one: what a line says is written behind what the lines before it said, and nothing of that
-- changes. Assumes nothing.
use Prim.Native.Nat.{ℕ, suc, ◌+◌, ◌*◌, ◌≤◌, ◌<◌}
use mathlib.Core.Path.{◌≡◌, refl, sym, ◌∙◌, ap}
use mathlib.Core.List.{List, [], ◌++◌}
use native.Mathlib.Nat.{le_refl}
use native.Mathlib.Numerals.{add-one}
use native.Mathlib.Omega.{arith}
use lib.ListN.{length, take, drop, set, length-append, length-set}
use lib.Seq.{take-append-le, take-take, length-take-le, take-paste, take-length, drop_at, get_or-set_same, get_or-set_other}
use Rattle.rows.specs.Put.{Put}
use Rattle.rows.proofs.Puts.{put_length}
use Rattle.rows.proofs.Cases.{by_last}
use Rattle.line.specs.Decimal.{most}
use Rattle.line.specs.Line.{Says, Reads, line_long}
use Rattle.std.proofs.Common.{None}
use Rattle.book.specs.Format.{bytes_of, number_in}
use Rattle.book.proofs.Bytes.{bytes_long, number_back}
use Rattle.writer.specs.Write.{word_at}
use Rattle.book_write.specs.Lines.{behind, line_at, most_lines, in_byte_lem, Held, Taking, Failing}

-- ---- a number in a list of numbers of eight bytes each

-- what stands before a text stays
put_before : {xs text ys : List ℕ} {from r : ℕ} (m : ℕ) → m ≤ from → from ≤ length xs → Put xs from text r ys → take m ys ≡ take m xs
put_before {xs} {text} {from = from} m h l p =
    let long = length-take-le from xs l in
    let both = length-append (take from xs) (take (length text) text) in
    ap (take m) p.holds ∙ take-append-le m (take from xs ++ take (length text) text) (drop (from + length text) xs) (omega arith) ∙
    take-append-le m (take from xs) (take (length text) text) (omega arith) ∙ take-take m from xs h

word_before : {xs text ys : List ℕ} {i r : ℕ} (h : ℕ) → h < i → 8 * i ≤ length xs → Put xs (8 * i) text r ys → word_at ys h ≡ word_at xs h
unfolding word_at
word_before h l room p = ap (λ zs. number_in (drop (8 * h) zs)) (put_before (8 * h + 8) (omega arith) room p)

word_here : {xs ys : List ℕ} {r : ℕ} (i x : ℕ) → x ≤ most → 8 * i + 8 ≤ length xs → Put xs (8 * i) (bytes_of 8 x) r ys → word_at ys i ≡ x
unfolding word_at
word_here {xs} {ys} i x small room p =
    let text = bytes_of 8 x in
    let eight : 8 ≡ length text = sym (bytes_long 8 x) in
    let taken : take (8 * i + 8) ys ≡ take (8 * i) xs ++ text =
    ap (λ m. take (8 * i + m) ys) eight ∙ ap (take (8 * i + length text)) p.holds ∙
    take-paste xs (8 * i) text (length text) (omega arith) (le_refl _) ∙ ap (λ t. take (8 * i) xs ++ t) (take-length text) in
    ap (λ zs. number_in (drop (8 * i) zs)) taken ∙ ap number_in (drop_at (take (8 * i) xs) text (8 * i) (length-take-le (8 * i) xs (omega arith))) ∙
    number_back 8 x (omega arith)

-- ---- all lines, one by one

-- the first i lines are taken, and the rest is what follows them
pub record Going (xs ns ks ranks counts rest : List ℕ) (i : ℕ) : Type 0 where
  pub few : i ≤ most_lines
  pub there : rest ≡ behind i xs
  pub ns_long : length ns ≡ most_lines
  pub ks_long : length ks ≡ most_lines
  pub ranks_long : length ranks ≡ 8 * most_lines
  pub counts_long : length counts ≡ 8 * most_lines
  pub held : (h : ℕ) → h < i → Held xs ns ks ranks counts h

pub going_first : {xs ns ks ranks counts : List ℕ} → length ns ≡ most_lines → length ks ≡ most_lines → length ranks ≡ 8 * most_lines →
    length counts ≡ 8 * most_lines → Going xs ns ks ranks counts xs 0
unfolding behind
going_first ns_long ks_long ranks_long counts_long = record {
  few = omega arith;
  there = refl;
  ns_long = ns_long;
  ks_long = ks_long;
  ranks_long = ranks_long;
  counts_long = counts_long;
  held = λ h l. absurd (omega arith);
}

-- the rest parted behind its first line
module _ {xs ns ks ranks counts rest line after : List ℕ} {i : ℕ} (so : Going xs ns ks ranks counts rest i)
    (line_first : line ≡ take (line_long rest) rest) (after_line : after ≡ drop (line_long rest) rest) where
  line_is : line ≡ line_at i xs
  unfolding line_at
  line_is = line_first ∙ ap (λ ys. take (line_long ys) ys) so.there

  line_behind : after ≡ behind (i + 1) xs
  unfolding behind
  line_behind = rw (add-one, behind) (after_line ∙ ap (λ ys. drop (line_long ys) ys) so.there)

  -- a line that says nothing
  pub failing : i < most_lines → 1 ≤ length rest → Reads line None → Failing xs ns ks ranks counts (i + 1)
  failing few l reads = record {
    i = i;
    is = refl;
    few = few;
    held = so.held;
    some = rw (← so.there) l;
    bad = rw line_is at reads;
  }

  -- and one that says a stretch
  module _ {n k r t p q : ℕ} {ranks' counts' : List ℕ} (some : i < most_lines) (says : Says line n k r t)
      (ranks_put : Put ranks (8 * i) (bytes_of 8 r) p ranks') (counts_put : Put counts (8 * i) (bytes_of 8 t) q counts') where
    held_here : Held xs (set ns i (in_byte_lem n)) (set ks i (in_byte_lem k)) ranks' counts' i
    held_here =
        let rank_is = word_here i r says.r_high (omega (arith, so.ranks_long)) ranks_put in
        let count_is = word_here i t says.t_high (omega (arith, so.counts_long)) counts_put in
        record {
          n = n;
          k = k;
          says = rw (rank_is, count_is) (rw line_is at says);
          n_is = get_or-set_same ns i (in_byte_lem n) 0 (omega (arith, so.ns_long));
          k_is = get_or-set_same ks i (in_byte_lem k) 0 (omega (arith, so.ks_long));
        }

    held_before : (h : ℕ) → h < i → Held xs (set ns i (in_byte_lem n)) (set ks i (in_byte_lem k)) ranks' counts' h
    held_before h l =
        let old = so.held h l in
        let rank_is = word_before h l (omega (arith, so.ranks_long)) ranks_put in
        let count_is = word_before h l (omega (arith, so.counts_long)) counts_put in
        record {
          n = old.n;
          k = old.k;
          says = rw (rank_is, count_is) old.says;
          n_is = get_or-set_other ns i h (in_byte_lem n) 0 (λ e. omega arith) ∙ old.n_is;
          k_is = get_or-set_other ks i h (in_byte_lem k) 0 (λ e. omega arith) ∙ old.k_is;
        }

    pub going_on : {nb kb : ℕ} → nb ≡ in_byte_lem n → kb ≡ in_byte_lem k →
        Going xs (set ns i nb) (set ks i kb) ranks' counts' after (i + 1)
    going_on n_is k_is = rw (n_is, k_is) (record {
      few = omega arith;
      there = line_behind;
      ns_long = length-set ns i (in_byte_lem n) ∙ so.ns_long;
      ks_long = length-set ks i (in_byte_lem k) ∙ so.ks_long;
      ranks_long = put_length (omega (arith, so.ranks_long, bytes_long 8 r)) ranks_put ∙ so.ranks_long;
      counts_long = put_length (omega (arith, so.counts_long, bytes_long 8 t)) counts_put ∙ so.counts_long;
      held = λ h l.
          let m : h < suc i = omega arith in
          by_last (λ h. Held xs (set ns i (in_byte_lem n)) (set ks i (in_byte_lem k)) ranks' counts' h) m (held_before h) held_here;
    })

-- the lines are over, or there are as many as are looked at
pub taking : {xs ns ks ranks counts rest : List ℕ} {i : ℕ} → Going xs ns ks ranks counts rest i →
    (i < most_lines → rest ≡ []) → Taking xs ns ks ranks counts i
taking so over = record {
  few = so.few;
  ns_enough = omega (arith, so.few, so.ns_long);
  ks_enough = omega (arith, so.few, so.ks_long);
  ranks_enough = omega (arith, so.few, so.ranks_long);
  counts_enough = omega (arith, so.few, so.counts_long);
  held = so.held;
  all = λ l. sym so.there ∙ over l;
}
