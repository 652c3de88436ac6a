-- 01, "Numbers of refusal". A check answers a verdict: nothing to refuse, or a refusal, of what the table names and of a place. A call
-- has several checks, in the table's order, and its verdict is the first of them that refuses.
use Rattle.std.specs.Prelude.{ℕ, zero, suc, Bool, true, false, Result, Ok, Err}
use Rattle.sizes.specs.declared.Fault.{Fault}
use Rattle.sizes.specs.declared.Fault.TheVariants.{Slots, Settings, Total, Length, Module, Repeat, Setting, Rank, Flip, Board, Count, Pair, Contents, Format, Entry, End, Line, Asked}
use Rattle.sizes.specs.declared.Refusal.{Refusal}

-- the number that the table gives to what is refused
unfoldable pub fault_number : Fault → ℕ
fault_number Slots = 1
fault_number Settings = 2
fault_number Total = 3
fault_number Length = 4
fault_number Module = 5
fault_number Repeat = 6
fault_number Setting = 7
fault_number Rank = 8
fault_number Flip = 9
fault_number Board = 10
fault_number Count = 11
fault_number Pair = 12
fault_number Contents = 13
fault_number Format = 14
fault_number Entry = 15
fault_number End = 16
fault_number Line = 17
fault_number Asked = 18

abbrev pub Verdict : Type 0
Verdict = Result Unit Refusal

-- nothing to refuse
abbrev pub fine : Verdict
fine = Ok tt

-- refused at a place
abbrev pub refused : Fault → ℕ → Verdict
refused fault place = Err (record { fault = fault; place = place })

-- the number and the place that a verdict stands for: 0 and 0 where there is nothing to refuse
unfoldable pub number_of : Verdict → ℕ
number_of (Ok done) = 0
number_of (Err refusal) = fault_number refusal.fault

unfoldable pub place_of : Verdict → ℕ
place_of (Ok done) = 0
place_of (Err refusal) = refusal.place

-- the verdict of the check that an answer has passed or not
abbrev pub checked : {A : Type 0} → Result A Refusal → Verdict
checked (Ok x) = fine
checked (Err refusal) = Err refusal

-- the first of two verdicts that refuses, fine where neither does
unfoldable pub first : Verdict → Verdict → Verdict
first (Ok done) later = later
first (Err refusal) later = Err refusal

-- a check with no place: refused where the fault is there
unfoldable pub refused_if : Fault → Bool → Verdict
refused_if fault false = fine
refused_if fault true = refused fault 0

-- a check with a place: refused at the place of the fault, counted from 1; place 0 says that there is none
unfoldable pub refused_at_lem : Fault → ℕ → Verdict
refused_at_lem fault zero = fine
refused_at_lem fault (suc slot) = refused fault (suc slot)

-- a number of an answer: 0 where the call was refused
unfoldable pub unless_refused : Verdict → ℕ → ℕ
unless_refused (Ok done) x = x
unless_refused (Err refusal) x = 0
