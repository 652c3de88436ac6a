-- `step::step` meets its contract: it goes one of the three ways of the definition. What it puts fits, since the check has
-- passed. Assumes nothing.
use Prim.Native.Nat.{◌≤◌, ◌<◌}
use native.Mathlib.Omega.{arith}
use lib.ListN.{length}
use Rattle.board.proofs.Runs.{lowest_range}
use Rattle.step.proofs.Verdicts.{Pointed, pointed_digit, closing, gaining, filling}
use Rattle.step.proofs.step.Goals.{After-lowest_digit-s, Else-n-x}
use Rattle.step.proofs.step.Goals as goal

-- the place s fits the pointers
lowest_fits : (c : After-lowest_digit-s) →
    let a = c.args in (1 ≤ c.lowest_digit-s.result) × (c.lowest_digit-s.result ≤ length a.pointers.now) × (c.lowest_digit-s.result < 256)
lowest_fits c =
    omega (arith, lowest_range c.args.k, c.lowest_digit-s.ensures, c.requires.lent.pointers, c.requires.lent.sizes.n_low)

-- the digit that is pointed to
digit : (c : Else-n-x) →
    let a = c.args in
    Pointed a.n a.k c.lowest_digit-s.result c.place-x.result a.counters.now a.pointers.now
digit c =
    pointed_digit _ _ _ _ c.requires c.lowest_digit-s.ensures c.place-x.ensures.0 c.if-n-x.false

pub place-x-requires : goal.place-x-requires
place-x-requires c = let fits = lowest_fits (goal.at.place-x-requires c).After-lowest_digit-s in (fits.0, fits.1)

pub put-requires : goal.put-requires
put-requires c = lowest_fits (goal.at.put-requires c).After-lowest_digit-s

pub returns-then-n-x : goal.returns-then-n-x
returns-then-n-x c =
    let w = closing _ _ _ _ c.lowest_digit-s.ensures c.place-x.ensures.0 c.requires.fine c.if-n-x.true c.put.ensures in
    record { flip_value = w.0; closed_value = w.1.0; counters_after = w.1.1.0; pointers_after = w.1.1.1 }

pub place-counter-requires : goal.place-counter-requires
place-counter-requires c = omega (arith, digit (goal.at.place-counter-requires c).Else-n-x)

pub overflow_sub-k : goal.overflow_sub-k
overflow_sub-k c = omega (arith, digit (goal.at.overflow_sub-k c).Else-n-x)

pub put-requires-then-counter-k : goal.put-requires-then-counter-k
put-requires-then-counter-k c = lowest_fits (goal.at.put-requires-then-counter-k c).After-lowest_digit-s

pub put-requires-then-counter-k-2 : goal.put-requires-then-counter-k-2
put-requires-then-counter-k-2 c =
    omega (arith, c.place-counter.ensures.0, digit (goal.at.put-requires-then-counter-k-2 c).Else-n-x)

pub returns-then-counter-k : goal.returns-then-counter-k
returns-then-counter-k c =
    let w = gaining _ _ _ _ c.lowest_digit-s.ensures c.place-x.ensures.0 c.requires.fine c.if-n-x.false c.place-counter.ensures.0 c.if-counter-k.true c.put-then-counter-k-2.ensures c.put-then-counter-k.ensures in
    record { flip_value = w.0; closed_value = w.1.0; counters_after = w.1.1.0; pointers_after = w.1.1.1 }

pub fill-requires : goal.fill-requires
fill-requires c =
    let here = digit (goal.at.fill-requires c).Else-n-x in
    record { s_low = here.s_low; s_high = here.s_high; x_high = omega arith; counters = here.counters; pointers = here.pointers }

pub returns : goal.returns
returns c =
    let w = filling _ _ _ _ c.lowest_digit-s.ensures c.place-x.ensures.0 c.requires.fine c.if-n-x.false c.place-counter.ensures.0 c.if-counter-k.false c.fill.ensures.counters_after c.fill.ensures.pointers_after in
    record { flip_value = w.0; closed_value = w.1.0; counters_after = w.1.1.0; pointers_after = w.1.1.1 }
