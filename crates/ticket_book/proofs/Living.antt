-- Who is alive as a function of pids, once one has begun or ended: as the roll puts one.
use Rattle.std.proofs.Common.{◌≡◌, ◌≢◌, ℕ, zero, suc, nat_eq, Bool, true, false, cond, Option, Some, None, is_some}
use Rattle.std.proofs.Common.{inl, inr, List, [], ◌∷◌, ◌++◌, refl, sym, ap, ◌∙◌}
use Rattle.std.specs.Option.{option_or}
use Rattle.std.proofs.lemmas.Bool.{eq-eqb, ne_eqb}
use Rattle.std.proofs.lemmas.List.Folds.{find-append}
use Rattle.cfs_model.specs.Lives.{begun_by, ended_by}
use Rattle.cfs_model.specs.Machine.{put}
use Rattle.cfs_model.specs.Start.{task_of}
use Rattle.cfs_model.proofs.Moves.{put-same, put-other, same_or_not}
use Rattle.replay_model.specs.Roll.{named, roll_after}
use Rattle.cfs_model.specs.declared.act.Act.{Act}
use Rattle.cfs_model.specs.declared.act.Act.TheVariants.{Born, Shift, Switch, Wake}
use Rattle.cfs_model.specs.declared.act.Way.TheVariants.{Ends, Sleeps, Stays}
use Rattle.cfs_model.specs.declared.task.Task.{Task}

-- what is said of one pid alone, as the roll puts it
pub by_put : (before after : ℕ → Bool) (pid : ℕ) (b : Bool) → after pid ≡ b
    → ((q : ℕ) → q ≢ pid → after q ≡ before q) → (q : ℕ) → after q ≡ put before pid b q
by_put before after pid b here there q = elim (same_or_not q pid) [
  | inl same ↦ ap after same ∙ here ∙ sym (put-same before pid b) ∙ ap (put before pid b) (sym same)
  | inr ne ↦ there q ne ∙ sym (put-other before pid b q ne)
]

-- putting a pid in or out of what is said alike
pub put_along : (f g : ℕ → Bool) (key : ℕ) (b : Bool) → ((q : ℕ) → f q ≡ g q) → (q : ℕ) → put f key b q ≡ put g key b q
put_along f g key b h q = elim (same_or_not q key) [
  | inl same ↦ ap (put f key b) same ∙ put-same f key b ∙ sym (put-same g key b) ∙ ap (put g key b) (sym same)
  | inr ne ↦ put-other f key b q ne ∙ h q ∙ sym (put-other g key b q ne)
]

-- who is named by some tasks and one more
named_more : (tasks : List Task) (t : Task) (q : ℕ) → named (tasks ++ t ∷ []) q ≡ put (named tasks) t.pid true q
named_more tasks t q =
    ap is_some (find-append (λ (u : Task). nat_eq u.pid q) tasks (t ∷ [])) ∙ elim (same_or_not q t.pid) [
      | inl same ↦ ap (λ b. is_some (option_or (task_of tasks q) (cond b (Some t) None)))
          (eq-eqb t.pid q (sym same)) ∙ either (task_of tasks q) ∙ sym (put-same (named tasks) t.pid true)
          ∙ ap (put (named tasks) t.pid true) (sym same)
      | inr ne ↦ ap (λ b. is_some (option_or (task_of tasks q) (cond b (Some t) None)))
          (ne_eqb t.pid q (λ e. ne (sym e))) ∙ first (task_of tasks q) ∙ sym (put-other (named tasks) t.pid true q ne)
    ]
  where
    either : (o : Option Task) → is_some (option_or o (Some t)) ≡ true
    either (Some u) = refl
    either None = refl

    first : (o : Option Task) → is_some (option_or o None) ≡ is_some o
    first (Some u) = refl
    first None = refl

-- those named by some tasks, with the pid of one more
pub one_named : (tasks : List Task) (t : Task) (before after : ℕ → Bool) → ((q : ℕ) → before q ≡ named tasks q)
    → ((q : ℕ) → after q ≡ put before t.pid true q) → (q : ℕ) → after q ≡ named (tasks ++ t ∷ []) q
one_named tasks t before after h k q =
    k q ∙ put_along before (named tasks) t.pid true h q ∙ sym (named_more tasks t q)

-- the roll with a pid taken in or out, where there is one
abbrev pub put_any : (ℕ → Bool) → Option ℕ → Bool → ℕ → Bool
put_any alive None b = alive
put_any alive (Some pid) b = put alive pid b

put_any_along : (f g : ℕ → Bool) (o : Option ℕ) (b : Bool) → ((q : ℕ) → f q ≡ g q) → (q : ℕ)
    → put_any f o b q ≡ put_any g o b q
put_any_along f g None b h q = h q
put_any_along f g (Some pid) b h q = put_along f g pid b h q

-- an event takes in who begins with it, and out who ends
pub by_lives : (alive : ℕ → Bool) (act : Act) (q : ℕ)
    → put_any (put_any alive (begun_by act) true) (ended_by act) false q ≡ roll_after alive act q
by_lives alive (Switch cpu zero pn way next nn) q = refl
by_lives alive (Switch cpu (suc n) pn Stays next nn) q = refl
by_lives alive (Switch cpu (suc n) pn Sleeps next nn) q = refl
by_lives alive (Switch cpu (suc n) pn Ends next nn) q = refl
by_lives alive (Wake cpu pid nice) q = refl
by_lives alive (Born cpu pid nice) q = refl
by_lives alive (Shift orig dest pid nice) q = refl

-- so a set that does so is the roll behind the event
pub roll_by_lives : (alive between after : ℕ → Bool) (act : Act)
    → ((q : ℕ) → between q ≡ put_any alive (begun_by act) true q)
    → ((q : ℕ) → after q ≡ put_any between (ended_by act) false q) → (q : ℕ) → after q ≡ roll_after alive act q
roll_by_lives alive between after act begun ended q =
    ended q ∙ put_any_along between (put_any alive (begun_by act) true) (ended_by act) false begun q
    ∙ by_lives alive act q
