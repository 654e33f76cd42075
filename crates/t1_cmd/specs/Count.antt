-- What a counted reader or writer has counted.
use Rattle.std.specs.Prelude.{ℕ, ◌+◌, ◌-◌, ◌^◌, min, Bool, true, false, Result, Ok, Err, nat_eq}
use Rattle.t1_cmd.specs.declared.counting.Counted.{Counted}

-- `c.calls()`
abbrev pub calls_counted : {T : Type 0} → Counted T → ℕ
calls_counted c = c.calls

-- `c.failed()`
abbrev pub failed_of : {T : Type 0} → Counted T → ℕ
failed_of c = c.failed

-- the reader or writer that is counted
abbrev pub inner_of : {T : Type 0} → Counted T → T
inner_of c = c.inner

-- the last value of a count
abbrev pub last_count : ℕ
last_count = 2 ^ 64 - 1

-- one more, up to the last value
abbrev pub next_count : ℕ → ℕ
next_count n = min (n + 1) last_count

-- whether a call of `read` or `flush` failed
abbrev pub has_failed : {T E : Type 0} → Result T E → Bool
has_failed (Ok x) = false
has_failed (Err e) = true

-- whether a call of `write` failed, or took no byte
abbrev pub takes_nothing : {E : Type 0} → Result ℕ E → Bool
takes_nothing (Ok n) = nat_eq n 0
takes_nothing (Err e) = true

-- the count of failed calls after a call that failed or not
abbrev pub count_after : Bool → ℕ → ℕ
count_after true n = next_count n
count_after false n = n
