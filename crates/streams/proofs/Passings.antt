-- Bytes pass through a stream part by part: known bytes lose, or grow by, the parts one behind the other. Assumes nothing.
use Rattle.std.proofs.Common.{ℕ, ◌≡◌, sym, ◌∙◌, ap, ap₂, ◌+◌, ◌-◌, ◌≤◌, List, [], ◌++◌, append_assoc, append-nil, length, take, drop, arith, take_all, None, Some, Result, Ok, Err, le_refl}
use Rattle.std.specs.declared.option.Option.{Option}
use Rattle.std.specs.Result.{IfOk, result_unwrap_or}
use Rattle.std.specs.Counts.{IsPrefixLen}
use Rattle.std.specs.Io.KnownBytes.{Keeps, Consumes, Appends, ReadConsumes, WriteAppends}
use borrow.Rule.Slice.PartMut.{put_mid, post_of, same_len_mid}
use Rattle.std.proofs.lemmas.Slice.{take-put_mid_below}
use lib.ListN.{length-drop}
use Rattle.std.proofs.lemmas.List.{drop-drop}
use lib.Seq.{take-add, length-take-le, drop_at, take-append-le}

-- ---- known bytes

consumes_on : (a b c : Option (List ℕ)) (bs cs : List ℕ) → Consumes a b bs → Consumes b c cs → Consumes a c (bs ++ cs)
consumes_on None b c bs cs p q = tt
consumes_on (Some xs) None c bs cs p q = absurd p
consumes_on (Some xs) (Some ys) None bs cs p q = absurd q
consumes_on (Some xs) (Some ys) (Some zs) bs cs p q = p ∙ ap (λ l. bs ++ l) q ∙ sym (append_assoc bs cs zs)

consumes_kept : (a b : Option (List ℕ)) → Keeps a b → Consumes a b []
consumes_kept None b kept = tt
consumes_kept (Some xs) None kept = absurd kept
consumes_kept (Some xs) (Some ys) kept = sym kept

appends_on : (a b c : Option (List ℕ)) (bs cs : List ℕ) → Appends a b bs → Appends b c cs → Appends a c (bs ++ cs)
appends_on None b c bs cs p q = tt
appends_on (Some xs) None c bs cs p q = absurd p
appends_on (Some xs) (Some ys) None bs cs p q = absurd q
appends_on (Some xs) (Some ys) (Some zs) bs cs p q = q ∙ ap (λ l. l ++ cs) p ∙ append_assoc xs bs cs

appends_kept : (a b : Option (List ℕ)) → Keeps a b → Appends a b []
appends_kept None b kept = tt
appends_kept (Some xs) None kept = absurd kept
appends_kept (Some xs) (Some ys) kept = kept ∙ sym (append-nil xs)

-- ---- one call, of which an error counts as no byte

read_part : {E : Type 0} (r : Result ℕ E) (a b : Option (List ℕ)) (buffer : List ℕ) → ReadConsumes a b r buffer → Consumes a b (take (result_unwrap_or r 0) buffer)
read_part (Ok n) a b buffer so = so.0
read_part (Err e) a b buffer so = consumes_kept a b so

read_inside : {E : Type 0} (r : Result ℕ E) (buffer : List ℕ) → IfOk r (λ n. IsPrefixLen n buffer) → result_unwrap_or r 0 ≤ length buffer
read_inside (Ok n) buffer so = so.0
read_inside (Err e) buffer so = omega arith

write_part : {E : Type 0} (r : Result ℕ E) (a b : Option (List ℕ)) (text : List ℕ) → WriteAppends a b r text → Appends a b (take (result_unwrap_or r 0) text)
write_part (Ok n) a b text so = so
write_part (Err e) a b text so = appends_kept a b so

write_inside : {E : Type 0} (r : Result ℕ E) (text : List ℕ) → IfOk r (λ n. n ≤ length text) → result_unwrap_or r 0 ≤ length text
write_inside (Ok n) text so = so
write_inside (Err e) text so = omega arith

-- ---- a loop that reads

-- the first `done` bytes of a buffer were read
pub record Filled (before now : Option (List ℕ)) (start buffer : List ℕ) (done : ℕ) : Type 0 where
  pub inside : done ≤ length buffer
  pub long : length buffer ≡ length start
  pub bytes : Consumes before now (take done buffer)

-- `part` stands from `done` on, and n bytes of it were read
pub filled_on : {E : Type 0} {before a b : Option (List ℕ)} {start buffer : List ℕ} {done n : ℕ} (part : List ℕ) (r : Result ℕ E) → Filled before a start buffer done →
    length part ≡ length buffer - done → ReadConsumes a b r part → IfOk r (λ n. IsPrefixLen n part) → n ≡ result_unwrap_or r 0 →
    Filled before b start (put_mid done (length buffer - done) buffer part) (done + n)
filled_on {before = before} {a} {b} {start} {buffer} {done} {n} part r so long bytes inside n_is =
    let whole = put_mid done (length buffer - done) buffer part in
    let few : n ≤ length part = rw n_is (read_inside r part inside) in
    let front : take done whole ≡ take done buffer = take-put_mid_below done (length buffer - done) buffer part done (le_refl done) so.inside in
    let behind : drop done whole ≡ part ++ post_of done (length buffer - done) buffer =
    drop_at (take done buffer) (part ++ post_of done (length buffer - done) buffer) done (length-take-le done buffer so.inside) in
    let back : take n (drop done whole) ≡ take n part = ap (take n) behind ∙ take-append-le n part (post_of done (length buffer - done) buffer) few in
    let joined : take (done + n) whole ≡ take done buffer ++ take n part = take-add done n whole ∙ ap₂ (λ (xs ys : List ℕ). xs ++ ys) front back in
    let kept : length whole ≡ length buffer =
    same_len_mid done (length buffer - done) buffer part
    (long ∙ sym (length-take-le (length buffer - done) (drop done buffer) (omega (arith, length-drop done buffer)))) in
    record {
      inside = omega (arith, so.inside);
      long = kept ∙ so.long;
      bytes = rw joined (consumes_on before a b (take done buffer) (take n part) so.bytes (rw n_is (read_part r a b part bytes)));
    }

-- ---- a loop that writes

-- what is in front of the rest of a text was written
pub record Passed (before now : Option (List ℕ)) (text rest : List ℕ) : Type 0 where
  pub done : ℕ
  pub inside : done ≤ length text
  pub left : rest ≡ drop done text
  pub bytes : Appends before now (take done text)

-- n bytes of the rest were written
pub passed_on : {E : Type 0} {before a b : Option (List ℕ)} {text rest : List ℕ} {n : ℕ} (r : Result ℕ E) → Passed before a text rest →
    WriteAppends a b r rest → IfOk r (λ n. n ≤ length rest) → n ≡ result_unwrap_or r 0 → Passed before b text (take (length rest - n) (drop n rest))
passed_on {before = before} {a} {b} {text} {rest} {n} r so bytes inside n_is =
    let few : n ≤ length rest = rw n_is (write_inside r rest inside) in
    let joined : take (so.done + n) text ≡ take so.done text ++ take n rest =
    take-add so.done n text ∙ ap (λ (xs : List ℕ). take so.done text ++ take n xs) (sym so.left) in
    record {
      done = so.done + n;
      inside = omega (arith, so.inside, ap length so.left, length-drop so.done text);
      left = take_all (length rest - n) (drop n rest) (omega (arith, length-drop n rest)) ∙ ap (drop n) so.left ∙ drop-drop n so.done text;
      bytes = rw joined (appends_on before a b (take so.done text) (take n rest) so.bytes (rw n_is (write_part r a b rest bytes)));
    }
