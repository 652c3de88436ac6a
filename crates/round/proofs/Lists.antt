-- Lists of any type by their elements, and lists joined of parts of one length. A list grows at its end and a joined one at its
-- front, so each law is an induction on how many there are; element d × w + r of parts of length w is the r of part d. Assumes
-- nothing.
use mathlib.Core.Path.{◌≡◌, refl, ap, ap₂, ◌∙◌}
use mathlib.Core.List.{List, [], ◌∷◌, ◌++◌, map}
use Prim.Native.Nat.{ℕ, zero, suc, ◌+◌, ◌*◌, ◌<◌}
use native.Mathlib.Nat.{not-suc-le-zero, le_refl}
use native.Mathlib.Omega.{arith}
use lib.ListN.{length, get_or, length-append, get_or-append}
use lib.Seq.{get_or-append-add, get_or_at}
use Rattle.rows.proofs.Cases.{by_last}
use Rattle.round.specs.Listing.{list_of, joined_down}

pub get_or_map : {A B : Type 0} (f : A → B) (l : List A) (i : ℕ) (d : A) (z : B) → i < length l → get_or (map f l) i z ≡ f (get_or l i d)
get_or_map f [] i d z h = absurd (not-suc-le-zero h)
get_or_map f (x ∷ l) zero d z h = refl
get_or_map f (x ∷ l) (suc i) d z h = get_or_map f l i d z (omega arith)

module _ {A : Type 0} where
  -- ---- f 0, f 1, .., f (n - 1)

  pub length_list : (f : ℕ → A) (n : ℕ) → length (list_of f n) ≡ n
  unfolding list_of
  length_list f zero = refl
  length_list f (suc n) = simp (length-append, length_list f n) (omega arith)

  pub get_or_list : (f : ℕ → A) (n i : ℕ) (z : A) → i < n → get_or (list_of f n) i z ≡ f i
  unfolding list_of
  get_or_list f zero i z h = absurd (not-suc-le-zero h)
  get_or_list f (suc n) i z h =
      by_last (λ x. get_or (list_of f n ++ (f n ∷ [])) x z ≡ f x) h
      (λ l. let g : i < length (list_of f n) = rw length_list l in get_or-append (list_of f n) (f n ∷ []) z i g ∙ get_or_list f n i z l)
      (get_or_at (list_of f n) (f n) [] z n (length_list f n))

  -- two functions that agree below n have the same list
  pub list_ext : (f g : ℕ → A) (n : ℕ) → ((i : ℕ) → i < n → f i ≡ g i) → list_of f n ≡ list_of g n
  unfolding list_of
  list_ext f g zero e = refl
  list_ext f g (suc n) e =
      ap₂ (λ (s : List A) (x : A). s ++ (x ∷ [])) (list_ext f g n (λ i h. e i (omega arith))) (e n (le_refl _))

  -- ---- f (n - 1) · .. · f 1 · f 0, where each part has w elements

  module _ (w : ℕ) (f : ℕ → List A) (even : (i : ℕ) → length (f i) ≡ w) where
    pub length_joined : (n : ℕ) → length (joined_down f n) ≡ n * w
    unfolding joined_down
    length_joined zero = omega arith
    length_joined (suc n) = simp length-append (omega (arith, even n, length_joined n))

    -- element r of part f s, which stands behind d others
    pub get_or_joined : (n d s r : ℕ) (z : A) → d + suc s ≡ n → r < w → get_or (joined_down f n) (d * w + r) z ≡ get_or (f s) r z
    unfolding joined_down
    get_or_joined zero d s r z e h = absurd (omega arith)
    get_or_joined (suc n) zero s r z e h =
        let first : n ≡ s = omega arith in
        let place : 0 * w + r ≡ r = omega arith in
        let g : r < length (f n) = rw even h in
        rw place (get_or-append (f n) (joined_down f n) z r g ∙ ap (λ x. get_or (f x) r z) first)
    get_or_joined (suc n) (suc d) s r z e h =
        let place : suc d * w + r ≡ length (f n) + (d * w + r) = omega (arith, even n) in
        rw place (get_or-append-add (f n) (joined_down f n) (d * w + r) z ∙ get_or_joined n d s r z (omega arith) h)
