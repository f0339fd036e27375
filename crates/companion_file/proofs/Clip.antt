-- A number far out of its limits is read as another one out of its limits. So what was read passes the tests that
-- what is spelled passes, and where it passes them all it is what is spelled.
use Rattle.std.proofs.Common.{◌≡◌, ℕ, zero, suc, ◌<◌, ◌≤◌, min, true, ◌&&◌, leb, ltb, ℤ, pos, negsuc, neg_ℤ, None, refl}
use Rattle.std.proofs.Common.{sym, ap, ◌∙◌, inl, inr, arith}
use Rattle.std.specs.Prelude.{unwrap_or}
use Rattle.std.proofs.lemmas.Bool.{cases_Bool, and_parts}
use Rattle.std.proofs.lemmas.Bool.Decides.{nat_tests}
use Rattle.text_parts.specs.Numerals.{many}
use Rattle.cfs_model.specs.Limits.{greatest_runtime, greatest_pid, greatest_line, greatest_seconds, most_processors}
use Rattle.companion_file.specs.Shape.{Shape, version_line, cpus_line, start_line, floor_line, task_line, claim_line}
use Rattle.companion_file.specs.Shape.{nice_line, idle_line, charge_line}
use Rattle.companion_file.specs.ShapeReading.{beyond_range}
use Rattle.companion_file.specs.Earlier.{Said}
use Rattle.companion_file.specs.Tests.{is_pid, is_value, is_nice, is_in_turn, is_in_limits, fault_of}
use Rattle.companion_file.proofs.Faults.{fault_turn, fault_limits}

-- an integer as it is read
abbrev pub clip_integer : ℤ → ℤ
clip_integer (pos n) = pos (min n beyond_range)
clip_integer (negsuc n) = negsuc (min n greatest_runtime)

-- what is read of what is spelled
abbrev pub clip : Shape → Shape
clip (version_line n) = version_line 0
clip (cpus_line n) = cpus_line (min n many)
clip (start_line seconds nanoseconds) = start_line (min seconds many) nanoseconds
clip (floor_line cpu floor) = floor_line (min cpu many) (clip_integer floor)
clip (task_line t) = task_line (record {
  pid = min t.pid many;
  nice = clip_integer t.nice;
  policy = t.policy;
  cpu = min t.cpu many;
  place = t.place;
  v = clip_integer t.v;
})
clip (claim_line k) = claim_line (record {
  line = min k.line many;
  pid = min k.pid many;
  v = clip_integer k.v;
  sort = k.sort;
})
clip (nice_line k) = nice_line (record { line = min k.line many; pid = min k.pid many; nice = clip_integer k.nice })
clip (idle_line k) = idle_line (record { line = min k.line many; pid = min k.pid many })
clip (charge_line k) = charge_line (record { line = min k.line many; pid = min k.pid many; v = clip_integer k.v })

pub clip-neg : (n : ℕ) → clip_integer (neg_ℤ (pos n)) ≡ neg_ℤ (pos (min n beyond_range))
clip-neg zero = refl
clip-neg (suc n) =
    let e : min (suc n) beyond_range ≡ suc (min n greatest_runtime) = omega arith in
    rw e refl

-- ---- one number

le_clip : (n limit : ℕ) → limit < many → leb (min n many) limit ≡ leb n limit
le_clip n limit low = grind (arith, nat_tests)

one_le_clip : (n : ℕ) → leb 1 (min n many) ≡ leb 1 n
one_le_clip n = grind (arith, nat_tests)

lt_clip : (n cpus : ℕ) → cpus ≤ most_processors → ltb (min n many) cpus ≡ ltb n cpus
lt_clip n cpus few = grind (arith, nat_tests)

le_same : (n limit : ℕ) → limit < many → leb n limit ≡ true → min n many ≡ n
le_same n limit low le = grind (arith, nat_tests)

lt_same : (n cpus : ℕ) → cpus ≤ most_processors → ltb n cpus ≡ true → min n many ≡ n
lt_same n cpus few lt = grind (arith, nat_tests)

value_clip : (z : ℤ) → is_value (clip_integer z) ≡ is_value z
value_clip (pos n) = grind (arith, nat_tests)
value_clip (negsuc n) = grind (arith, nat_tests)

nice_clip : (z : ℤ) → is_nice (clip_integer z) ≡ is_nice z
nice_clip (pos n) = grind (arith, nat_tests)
nice_clip (negsuc n) = grind (arith, nat_tests)

value_same : (z : ℤ) → is_value z ≡ true → clip_integer z ≡ z
value_same (pos n) ok = ap pos (grind (arith, nat_tests))
value_same (negsuc n) ok = ap negsuc (grind (arith, nat_tests))

nice_same : (z : ℤ) → is_nice z ≡ true → clip_integer z ≡ z
nice_same (pos n) ok = ap pos (grind (arith, nat_tests))
nice_same (negsuc n) ok = ap negsuc (grind (arith, nat_tests))

pid_clip : (n : ℕ) → is_pid (min n many) ≡ is_pid n
pid_clip n = rw (one_le_clip n, le_clip n greatest_pid (omega arith)) refl

pid_same : (n : ℕ) → is_pid n ≡ true → min n many ≡ n
pid_same n ok = le_same n greatest_pid (omega arith) (and_parts (leb 1 n) (leb n greatest_pid) ok).1

-- ---- what a line says

turn_clip : (said : Said) (x : Shape) → is_in_turn said (clip x) ≡ is_in_turn said x
turn_clip said (version_line n) = refl
turn_clip said (cpus_line n) = refl
turn_clip said (start_line seconds nanoseconds) = refl
turn_clip said (floor_line cpu floor) = refl
turn_clip said (task_line t) = refl
turn_clip said (claim_line k) = refl
turn_clip said (nice_line k) = refl
turn_clip said (idle_line k) = refl
turn_clip said (charge_line k) = refl

limits_clip : (cpus : ℕ) (x : Shape) → cpus ≤ most_processors → is_in_limits cpus (clip x) ≡ is_in_limits cpus x
limits_clip cpus (version_line n) few = refl
limits_clip cpus (cpus_line n) few = rw (one_le_clip n, le_clip n most_processors (omega arith)) refl
limits_clip cpus (start_line seconds nanoseconds) few = le_clip seconds greatest_seconds (omega arith)
limits_clip cpus (floor_line cpu floor) few = rw (lt_clip cpu cpus few, value_clip floor) refl
limits_clip cpus (task_line t) few = rw (pid_clip t.pid, nice_clip t.nice, lt_clip t.cpu cpus few, value_clip t.v) refl
limits_clip cpus (claim_line k) few = rw (
  one_le_clip k.line,
  le_clip k.line greatest_line (omega arith),
  pid_clip k.pid,
  value_clip k.v,
) refl
limits_clip cpus (nice_line k) few = rw (
  one_le_clip k.line,
  le_clip k.line greatest_line (omega arith),
  pid_clip k.pid,
  nice_clip k.nice,
) refl
limits_clip cpus (idle_line k) few = rw (le_clip k.line greatest_line (omega arith), pid_clip k.pid) refl
limits_clip cpus (charge_line k) few = rw (
  one_le_clip k.line,
  le_clip k.line greatest_line (omega arith),
  pid_clip k.pid,
  value_clip k.v,
) refl

same_in_limits : (said : Said) (cpus : ℕ) (x : Shape) → cpus ≤ most_processors → is_in_turn said x ≡ true
    → is_in_limits cpus x ≡ true → clip x ≡ x
same_in_limits said cpus (version_line n) few turn ok = absurd cc
same_in_limits said cpus (cpus_line n) few turn ok =
    ap cpus_line (le_same n most_processors (omega arith) (and_parts (leb 1 n) (leb n most_processors) ok).1)
same_in_limits said cpus (start_line seconds nanoseconds) few turn ok =
    ap (λ s. start_line s nanoseconds) (le_same seconds greatest_seconds (omega arith) ok)
same_in_limits said cpus (floor_line cpu floor) few turn ok =
    let parts = and_parts (ltb cpu cpus) (is_value floor) ok in
    rw (lt_same cpu cpus few parts.0, value_same floor parts.1) refl
same_in_limits said cpus (task_line t) few turn ok =
    let third = and_parts (is_pid t.pid && is_nice t.nice && ltb t.cpu cpus) (is_value t.v) ok in
    let second = and_parts (is_pid t.pid && is_nice t.nice) (ltb t.cpu cpus) third.0 in
    let first = and_parts (is_pid t.pid) (is_nice t.nice) second.0 in
    rw (pid_same t.pid first.0, nice_same t.nice first.1, lt_same t.cpu cpus few second.1, value_same t.v third.1) refl
same_in_limits said cpus (claim_line k) few turn ok =
    let third = and_parts (leb 1 k.line && leb k.line greatest_line && is_pid k.pid) (is_value k.v) ok in
    let second = and_parts (leb 1 k.line && leb k.line greatest_line) (is_pid k.pid) third.0 in
    let first = and_parts (leb 1 k.line) (leb k.line greatest_line) second.0 in
    rw (le_same k.line greatest_line (omega arith) first.1, pid_same k.pid second.1, value_same k.v third.1) refl
same_in_limits said cpus (nice_line k) few turn ok =
    let third = and_parts (leb 1 k.line && leb k.line greatest_line && is_pid k.pid) (is_nice k.nice) ok in
    let second = and_parts (leb 1 k.line && leb k.line greatest_line) (is_pid k.pid) third.0 in
    let first = and_parts (leb 1 k.line) (leb k.line greatest_line) second.0 in
    rw (le_same k.line greatest_line (omega arith) first.1, pid_same k.pid second.1, nice_same k.nice third.1) refl
same_in_limits said cpus (idle_line k) few turn ok =
    let parts = and_parts (leb k.line greatest_line) (is_pid k.pid) ok in
    rw (le_same k.line greatest_line (omega arith) parts.0, pid_same k.pid parts.1) refl
same_in_limits said cpus (charge_line k) few turn ok =
    let third = and_parts (leb 1 k.line && leb k.line greatest_line && is_pid k.pid) (is_value k.v) ok in
    let second = and_parts (leb 1 k.line && leb k.line greatest_line) (is_pid k.pid) third.0 in
    let first = and_parts (leb 1 k.line) (leb k.line greatest_line) second.0 in
    rw (le_same k.line greatest_line (omega arith) first.1, pid_same k.pid second.1, value_same k.v third.1) refl

pub fault_clip : (said : Said) (x : Shape) → unwrap_or said.cpus 0 ≤ most_processors
    → fault_of said (clip x) ≡ fault_of said x
fault_clip said x few =
    elim (cases_Bool (is_in_turn said x)) [
      | inr late ↦ fault_turn said (clip x) (turn_clip said x ∙ late) ∙ sym (fault_turn said x late)
      | inl turn ↦ elim (cases_Bool (is_in_limits (unwrap_or said.cpus 0) x)) [
        | inl ok ↦ ap (fault_of said) (same_in_limits said (unwrap_or said.cpus 0) x few turn ok)
        | inr out ↦ fault_limits said (clip x) (turn_clip said x ∙ turn) (limits_clip (unwrap_or said.cpus 0) x few
            ∙ out) ∙ sym (fault_limits said x turn out)
      ]
    ]

pub same_without_fault : (said : Said) (x : Shape) → unwrap_or said.cpus 0 ≤ most_processors → fault_of said x ≡ None
    → clip x ≡ x
same_without_fault said x few none =
    elim (cases_Bool (is_in_turn said x)) [
      | inr late ↦ let fault = fault_turn said x late in absurd cc
      | inl turn ↦ elim (cases_Bool (is_in_limits (unwrap_or said.cpus 0) x)) [
        | inl ok ↦ same_in_limits said (unwrap_or said.cpus 0) x few turn ok
        | inr out ↦ let fault = fault_limits said x turn out in absurd cc
      ]
    ]
