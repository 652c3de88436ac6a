-- The laws of verdicts. A verdict refuses or is fine, and `first` goes by that alone: so a call that leaves by `?` at its first
-- refusal answers the first verdict that refuses, and its proof has one of these laws for each check. Assumes nothing.
use Rattle.std.proofs.Common.{Err, Ok, Result}
use Rattle.std.specs.Result.{IsErrAnd}
use Rattle.std.proofs.lemmas.Result.{err_from_is_err_and}
use mathlib.Core.Path.{◌≡◌, refl, ap, ◌∙◌}
use mathlib.Core.Bool.{Bool, true, false}
use Prim.Native.Nat.{ℕ, zero, suc, ◌<◌}
use native.Mathlib.Omega.{arith}
use Rattle.sizes.specs.declared.Fault.{Fault}
use Rattle.sizes.specs.declared.Fault.TheVariants.{Slots, Settings, Total, Length, Module, Repeat, Setting, Rank, Flip, Board, Count, Pair, Contents, Format, Entry, End, Line, Asked}
use Rattle.sizes.specs.declared.Refusal.{Refusal}
use Rattle.sizes.specs.Refusal.{Verdict, fine, refused, fault_number, number_of, place_of, checked, first, refused_if, refused_at_lem, unless_refused}
use Rattle.sizes.specs.Outcome.{answered}

-- ---- from one check to the next

-- a call that left by `?` with the refusal r answers it
pub left_with : {A : Type 0} {w : Result A Refusal} {r : Refusal} → IsErrAnd w (λ e. e ≡ r) → w ≡ Err r
left_with {w} left = let e = err_from_is_err_and w left in e.1 ∙ rw e.2

-- a check refused: so does the call
pub stops : {check w : Verdict} {r : Refusal} (later : Verdict) → IsErrAnd w (λ e. e ≡ r) → Err r ≡ check → w ≡ first check later
unfolding first
stops later left e = left_with left ∙ rw (← e)

-- the same of a call that makes a value of what has passed the checks
pub stops_making : {A : Type 0} {check : Verdict} {r : Refusal} (w : Result A Refusal) (later : Verdict) →
    IsErrAnd w (λ e. e ≡ r) → Err r ≡ check → checked w ≡ first check later
unfolding first
stops_making w later left e = ap checked (left_with left) ∙ rw (← e)

-- and of a call that answers more than a verdict
pub stops_answer : {A : Type 0} {check : Verdict} {w : Result A Refusal} {r : Refusal} (x : A) →
    IsErrAnd w (λ e. e ≡ r) → Err r ≡ check → w ≡ answered check x
unfolding answered
stops_answer x left e = left_with left ∙ rw (← e)

-- it did not refuse: the call goes on, and answers what the later checks do
pub goes_on : {check w later : Verdict} → fine ≡ check → w ≡ later → w ≡ first check later
unfolding first
goes_on e last = rw (← e) last

-- and what it was asked for behind the last of them
pub answers : {A : Type 0} {check : Verdict} {w : Result A Refusal} (x : A) → fine ≡ check → w ≡ Ok x → w ≡ answered check x
unfolding answered
answers x e last = rw (← e) last

-- a fault that is tested on the spot
pub faulty : (fault : Fault) {there : Bool} (later : Verdict) → there ≡ true → refused fault 0 ≡ first (refused_if fault there) later
unfolding first refused_if
faulty fault later t = rw t

pub faultless : (fault : Fault) {there : Bool} {w later : Verdict} → there ≡ false → w ≡ later → w ≡ first (refused_if fault there) later
unfolding first refused_if
faultless fault t last = rw t last

-- and of the last check of a call
pub last_faulty : (fault : Fault) {there : Bool} → there ≡ true → refused fault 0 ≡ refused_if fault there
unfolding refused_if
last_faulty fault t = rw t

pub last_faultless : (fault : Fault) {there : Bool} → there ≡ false → fine ≡ refused_if fault there
unfolding refused_if
last_faultless fault t = rw t

-- a fault has a place
pub at_place : (fault : Fault) (place : ℕ) → (place ≡ 0 → ⊥) → refused_at_lem fault place ≡ refused fault place
unfolding refused_at_lem
at_place fault zero ne = absurd (ne refl)
at_place fault (suc slot) ne = refl

-- ---- a number of an answer

-- 0 is answered where the check refused
pub refused_number : {check : Verdict} {r : Refusal} (x : ℕ) → Err r ≡ check → 0 ≡ unless_refused check x
unfolding unless_refused
refused_number x e = rw (← e)

-- and the number itself where it did not
pub done_number : {check : Verdict} {x y : ℕ} → fine ≡ check → x ≡ y → x ≡ unless_refused check y
unfolding unless_refused
done_number e same = rw (← e) same

-- ---- what is known where a verdict is fine

-- neither of two checks refused
pub both_fine : (v w : Verdict) → first v w ≡ fine → (v ≡ fine) × (w ≡ fine)
unfolding first
both_fine (Ok done) w e = (refl, e)
both_fine (Err refusal) w e = (e, cc)

-- the fault is not there
pub no_fault : (fault : Fault) (there : Bool) → refused_if fault there ≡ fine → there ≡ false
unfolding refused_if
no_fault fault true e = cc
no_fault fault false e = refl

pub no_place : (fault : Fault) (place : ℕ) → refused_at_lem fault place ≡ fine → place ≡ 0
unfolding refused_at_lem
no_place fault zero e = refl
no_place fault (suc slot) e = cc

-- ---- numbers and places that fit a byte each

pub number_low : (fault : Fault) → fault_number fault < 256
unfolding fault_number
number_low Slots = omega arith
number_low Settings = omega arith
number_low Total = omega arith
number_low Length = omega arith
number_low Module = omega arith
number_low Repeat = omega arith
number_low Setting = omega arith
number_low Rank = omega arith
number_low Flip = omega arith
number_low Board = omega arith
number_low Count = omega arith
number_low Pair = omega arith
number_low Contents = omega arith
number_low Format = omega arith
number_low Entry = omega arith
number_low End = omega arith
number_low Line = omega arith
number_low Asked = omega arith

pub record Small (v : Verdict) : Type 0 where
  pub number : number_of v < 256
  pub place : place_of v < 256

-- of two checks, the second is asked only where the first does not refuse
pub small_first : (v w : Verdict) → Small v → (v ≡ fine → Small w) → Small (first v w)
unfolding first
small_first (Ok done) w s t = t refl
small_first (Err refusal) w s t = s

pub small_if : (fault : Fault) (there : Bool) → Small (refused_if fault there)
unfolding refused_if number_of place_of
small_if fault true = record { number = number_low fault; place = omega arith }
small_if fault false = record { number = omega arith; place = omega arith }

pub small_at : (fault : Fault) (place : ℕ) → place < 256 → Small (refused_at_lem fault place)
unfolding refused_at_lem number_of place_of
small_at fault zero l = record { number = omega arith; place = omega arith }
small_at fault (suc slot) l = record { number = number_low fault; place = l }
