-- Nice values and their weights (sched-nice-design.rst, and the scheduler's table of weights by nice).
use Rattle.std.specs.Prelude.{ℕ, ℤ, pos, negsuc, ◌≤ℤ◌, ◌+ℤ◌, nat_abs, slice_index, List, [], ◌∷◌}
use Rattle.cfs_model.specs.declared.policy.Policy.{Policy}
use Rattle.cfs_model.specs.declared.policy.Policy.TheVariants.{Normal, Idle}

-- a nice value lies from -20 to 19
abbrev pub IsNice : ℤ → Type 0
IsNice nice = (negsuc 19 ≤ℤ nice) × (nice ≤ℤ pos 19)

-- the weights of the forty nice values, from nice -20 on: each step of nice changes a weight by about a quarter
abbrev pub weights : List ℕ
weights =
    88761 ∷ 71755 ∷ 56483 ∷ 46273 ∷ 36291 ∷
    29154 ∷ 23254 ∷ 18705 ∷ 14949 ∷ 11916 ∷
    9548 ∷ 7620 ∷ 6100 ∷ 4904 ∷ 3906 ∷
    3121 ∷ 2501 ∷ 1991 ∷ 1586 ∷ 1277 ∷
    1024 ∷ 820 ∷ 655 ∷ 526 ∷ 423 ∷
    335 ∷ 272 ∷ 215 ∷ 172 ∷ 137 ∷
    110 ∷ 87 ∷ 70 ∷ 56 ∷ 45 ∷
    36 ∷ 29 ∷ 23 ∷ 18 ∷ 15 ∷ []

-- the weight of a task of this nice value
abbrev pub weight_of : ℤ → ℕ
weight_of nice = slice_index weights (nat_abs (nice +ℤ pos 20))

-- the weight of a task of the idle policy, whatever its nice value: less than that of the nicest fair task
abbrev pub idle_policy_weight : ℕ
idle_policy_weight = 3

-- the weight of a task of this nice value and policy
abbrev pub task_weight : ℤ → Policy → ℕ
task_weight nice Normal = weight_of nice
task_weight nice Idle = idle_policy_weight
