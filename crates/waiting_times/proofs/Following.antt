-- The row of a task behind each event: its waits that have ended are the stretches that ended so far, and it waits
-- exactly where one goes on.
use Rattle.std.proofs.Common.{◌≡◌, ℕ, zero, suc, ◌+◌, ◌-◌, ◌<◌, ◌≤◌, ◌⊎◌, inl, inr, Option, Some, None, IsSomeAnd, List}
use Rattle.std.proofs.Common.{[], ◌∷◌, ◌++◌, length, map, sum, drop, get_or, refl, sym, ap, ◌∙◌, subst, arith}
use Rattle.std.specs.Prelude.{slice_get}
use Rattle.std.proofs.lemmas.Bool.{cases_lt}
use Rattle.std.proofs.lemmas.List.{length_push, map_push}
use Rattle.std.proofs.lemmas.List.Sums.{sum-map, sum_by_push}
use Rattle.cfs_model.specs.Machine.{Machine}
use Rattle.waiting_times.specs.Rows.{picked_row, standing_row, told_of, waited, waited_by, with_wait}
use Rattle.waiting_times.specs.Moments.{edge, moment_at}
use Rattle.waiting_times.specs.Waits.{AreStretches, IsStretch, IsWaiting, Stretch, WaitsIn, duration, first_longest}
use Rattle.waiting_times.specs.Waits.{later, told_by, wait_of}
use Rattle.waiting_times.specs.declared.moment.Moment.{Moment}
use Rattle.waiting_times.specs.declared.task_row.Stand.{Stand}
use Rattle.waiting_times.specs.declared.task_row.Stand.TheVariants.{Away, Runs, Waits}
use Rattle.waiting_times.specs.declared.task_row.TaskRow.{TaskRow}
use Rattle.waiting_times.specs.declared.task_waits.TaskWaits.{TaskWaits}
use Rattle.waiting_times.specs.declared.wait.Wait.{Wait}
use Rattle.waiting_times.proofs.Longest.{longest_push}
use Rattle.waiting_times.proofs.Stretches.{IsOpen, Known, known_all, known_end, known_none, known_on}
use Rattle.waiting_times.proofs.Turning.{IsOther, Turned}

-- the numbers of a row are those of some waits
pub record AreNumbers (waits : List Wait) (row : TaskRow) : Type 0 where
  pub times : row.times ≡ length waits
  pub total : row.total ≡ sum (map duration waits)
  pub longest : row.longest ≡ first_longest duration waits

-- a stretch goes on exactly where the row says that the task waits, and began at the moment that the row says
abbrev pub IsOpening : (ℕ → Type 0) → List Moment → ℕ → Stand → Type 0
IsOpening holds moments k Away = ¬ holds k
IsOpening holds moments k Runs = ¬ holds k
IsOpening holds moments k (Waits since) = (i : ℕ) × IsOpen holds k i × (since ≡ moment_at moments i)

pub record Follows (holds : ℕ → Type 0) (moments : List Moment) (k : ℕ) (row : TaskRow) : Type 0 where
  pub closed : List Stretch
  pub known : Known holds k closed
  pub numbers : AreNumbers (map (wait_of moments) closed) row
  pub opening : IsOpening holds moments k row.stand

sum_push : (xs : List Wait) (x : Wait) → sum (map duration (xs ++ x ∷ [])) ≡ sum (map duration xs) + duration x
sum_push xs x =
    sum-map duration (xs ++ x ∷ []) ∙ sum_by_push duration xs x ∙ ap (λ k. k + duration x) (sym (sum-map duration xs))

-- one wait more
pub numbers_push : (waits : List Wait) (wait : Wait) (row : TaskRow) → AreNumbers waits row
    → AreNumbers (waits ++ wait ∷ []) (with_wait wait row)
numbers_push waits wait row n = record {
  times = ap (λ k. k + 1) n.times ∙ sym (length_push waits wait);
  total = ap (λ k. k + duration wait) n.total ∙ sym (sum_push waits wait);
  longest = ap (λ o. Some (later duration o wait)) n.longest ∙ sym (longest_push duration waits wait);
}

numbers_stand : (waits : List Wait) (stand : Stand) (row : TaskRow) → AreNumbers waits row
    → AreNumbers waits (standing_row stand row)
numbers_stand waits stand row n = record { times = n.times; total = n.total; longest = n.longest }

-- a place that isn't waiting
other_opening : (holds : ℕ → Type 0) (moments : List Moment) (k : ℕ) (stand : Stand) → IsOther stand → ¬ holds k
    → IsOpening holds moments k stand
other_opening holds moments k Away other none = none
other_opening holds moments k Runs other none = none
other_opening holds moments k (Waits since) other none = absurd other

-- whether something holds, by the place
opening_holds : (holds : ℕ → Type 0) (moments : List Moment) (k : ℕ) (since : Moment)
    → IsOpening holds moments k (Waits since) → holds k
opening_holds holds moments k since o = let within = o.1.within in o.1.each k within (omega arith)

-- what is told by a row's numbers
told_same : (pid : ℕ) (waits : List Wait) (row : TaskRow) → AreNumbers waits row
    → record { pid = pid; times = row.times; total = row.total; longest = row.longest } ≡ told_by pid waits
told_same pid waits row n =
    λ j. record { pid = pid; times = n.times j; total = n.total j; longest = n.longest j }

module _ (holds : ℕ → Type 0) (moments : List Moment) (k : ℕ) (row : TaskRow) (f : Follows holds moments k row) where
  abbrev waits : List Wait
  waits = map (wait_of moments) f.closed

  -- the wait that goes on ends at the next moment
  closes : (now : TaskRow) (since : Moment) → row.stand ≡ Waits since → (holds (suc k) → ⊥)
      → AreNumbers (waits ++ record { from = since; to = moment_at moments (suc k) } ∷ []) now
      → IsOther now.stand → Follows holds moments (suc k) now
  closes now since is none numbers other =
      let o = subst (IsOpening holds moments k) is f.opening in
      let last : Stretch = record { from = o.0; to = suc k } in
      let e : wait_of moments last ≡ record { from = since; to = moment_at moments (suc k) } =
      λ j. record { from = sym o.2 j; to = moment_at moments (suc k) } in
      record {
        closed = f.closed ++ last ∷ [];
        known = known_end holds k f.closed f.known o.0 o.1 none;
        numbers = subst (λ ws. AreNumbers ws now)
            (ap (λ w. waits ++ w ∷ []) (sym e) ∙ sym (map_push (wait_of moments) f.closed last)) numbers;
        opening = other_opening holds moments (suc k) now.stand other none;
      }

  -- nothing changes
  stays : (now : TaskRow) → now ≡ row → (holds k → holds (suc k)) → (holds (suc k) → holds k)
      → Follows holds moments (suc k) now
  stays now is on back = subst (Follows holds moments (suc k)) (sym is) (go row.stand refl)
    where
      go : (stand : Stand) → row.stand ≡ stand → Follows holds moments (suc k) row
      go Away e =
          let none = subst (IsOpening holds moments k) e f.opening in
          record {
            closed = f.closed;
            known = known_on holds k f.closed f.known (inl none);
            numbers = f.numbers;
            opening = subst (IsOpening holds moments (suc k)) (sym e) (λ h. none (back h));
          }
      go Runs e =
          let none = subst (IsOpening holds moments k) e f.opening in
          record {
            closed = f.closed;
            known = known_on holds k f.closed f.known (inl none);
            numbers = f.numbers;
            opening = subst (IsOpening holds moments (suc k)) (sym e) (λ h. none (back h));
          }
      go (Waits since) e =
          let o = subst (IsOpening holds moments k) e f.opening in
          let here = opening_holds holds moments k since o in
          let within = o.1.within in
          record {
            closed = f.closed;
            known = known_on holds k f.closed f.known (inr (on here));
            numbers = f.numbers;
            opening = subst (IsOpening holds moments (suc k)) (sym e) (
              o.0,
              record {
                within = omega arith;
                each = λ n low high. elim (cases_lt k n) [
                  | inl past ↦ let same : suc k ≡ n = omega arith in subst holds same (on here)
                  | inr before ↦ o.1.each n low before
                ];
                begins = o.1.begins;
              },
              o.2,
            );
          }

  -- a wait begins at the next moment
  begins : (now : TaskRow) → (holds k → ⊥) → holds (suc k)
      → now ≡ standing_row (Waits (moment_at moments (suc k))) row → Follows holds moments (suc k) now
  begins now none here is = subst (Follows holds moments (suc k)) (sym is) (record {
    closed = f.closed;
    known = known_on holds k f.closed f.known (inl none);
    numbers = numbers_stand waits (Waits (moment_at moments (suc k))) row f.numbers;
    opening = (
      suc k,
      record {
        within = omega arith;
        each = λ n low high. let same : suc k ≡ n = omega arith in subst holds same here;
        begins = λ n e h. let same : n ≡ k = omega arith in none (subst holds same h);
      },
      refl,
    );
  })

  -- the task goes from one other place to another
  moves : (now : TaskRow) (stand : Stand) → IsOther stand → (holds k → ⊥) → (holds (suc k) → ⊥)
      → now ≡ standing_row stand row → Follows holds moments (suc k) now
  moves now stand other none behind is = subst (Follows holds moments (suc k)) (sym is) (record {
    closed = f.closed;
    known = known_on holds k f.closed f.known (inl none);
    numbers = numbers_stand waits stand row f.numbers;
    opening = other_opening holds moments (suc k) stand other behind;
  })

  -- the numbers of a row with the wait that ends
  waited_numbers : (since at : Moment) → row.stand ≡ Waits since
      → AreNumbers (waits ++ record { from = since; to = at } ∷ []) (waited at row)
  waited_numbers since at is =
      subst (AreNumbers (waits ++ record { from = since; to = at } ∷ []))
      (ap (λ s. waited_by s at row) (sym is))
      (numbers_push waits (record { from = since; to = at }) row f.numbers)

  -- one event more
  pub follows_on : (pid : ℕ) (m after : Machine) (now : TaskRow)
      → (IsWaiting pid m → holds k) → (holds k → IsWaiting pid m)
      → (IsWaiting pid after → holds (suc k)) → (holds (suc k) → IsWaiting pid after)
      → Turned (moment_at moments (suc k)) pid m after row now → Follows holds moments (suc k) now
  follows_on pid m after now up down after_up after_down t = elim t.turn [
    | inl x ↦ stays now x.0 (λ h. after_up (x.1.0 (down h))) (λ h. up (x.1.1 (after_down h)))
    | inr y ↦ elim y [
      | inl x ↦ begins now (λ h. x.0 (down h)) (after_up x.1) x.2
      | inr z ↦ elim z [
        | inl x ↦
            let at = moment_at moments (suc k) in
            let numbers = numbers_stand (waits ++ record { from = x.0.0; to = at } ∷ []) Runs (waited at row)
            (waited_numbers x.0.0 at x.0.1) in
            subst (Follows holds moments (suc k)) (sym x.2)
            (closes (picked_row at row) x.0.0 x.0.1 (λ h. x.1 (after_down h)) numbers tt)
        | inr x ↦ moves now x.2 x.3 (λ h. x.0 (down h)) (λ h. x.1 (after_down h)) x.4
      ]
    ]
  ]

  -- behind the last state all waits have ended
  abbrev pub IsToldBy : ℕ → List Stretch → Type 0
  IsToldBy pid stretches =
      told_of (moment_at moments (suc k)) pid row ≡ told_by pid (map (wait_of moments) stretches)

  ended_by : (pid : ℕ) → (holds (suc k) → ⊥) → ((s : Stretch) → IsStretch holds s → s.to ≤ suc k) → (stand : Stand)
      → row.stand ≡ stand → (stretches : List Stretch) × AreStretches holds stretches × IsToldBy pid stretches
  ended_by pid none bound Away e =
      let none_here = subst (IsOpening holds moments k) e f.opening in (
        f.closed,
        known_all holds (suc k) f.closed (known_on holds k f.closed f.known (inl none_here)) bound,
        told_same pid waits (waited (moment_at moments (suc k)) row)
            (subst (AreNumbers waits) (sym (ap (λ s. waited_by s (moment_at moments (suc k)) row) e)) f.numbers),
      )
  ended_by pid none bound Runs e =
      let none_here = subst (IsOpening holds moments k) e f.opening in (
        f.closed,
        known_all holds (suc k) f.closed (known_on holds k f.closed f.known (inl none_here)) bound,
        told_same pid waits (waited (moment_at moments (suc k)) row)
            (subst (AreNumbers waits) (sym (ap (λ s. waited_by s (moment_at moments (suc k)) row) e)) f.numbers),
      )
  ended_by pid none bound (Waits since) e =
      let at = moment_at moments (suc k) in
      let numbers = numbers_stand (waits ++ record { from = since; to = at } ∷ []) Runs (waited at row)
      (waited_numbers since at e) in
      let c = closes (picked_row at row) since e none numbers tt in (
        c.closed,
        known_all holds (suc k) c.closed c.known bound,
        told_same pid (map (wait_of moments) c.closed) (picked_row at row) c.numbers,
      )

  pub follows_end : (pid : ℕ) → (holds (suc k) → ⊥) → ((s : Stretch) → IsStretch holds s → s.to ≤ suc k)
      → (stretches : List Stretch) × AreStretches holds stretches × IsToldBy pid stretches
  follows_end pid none bound = ended_by pid none bound row.stand refl
