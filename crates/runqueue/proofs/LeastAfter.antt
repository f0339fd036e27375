-- The least of those who wait once who runs has gone its way: one who is put back counts among them, and nobody else
-- comes or goes.
use Rattle.std.proofs.Common.{◌≡◌, ◌≢◌, ℕ, Option, Some, None, option_map, ℤ, ◌≤ℤ◌, inl, inr, refl, sym, ap, ◌∙◌, subst}
use Rattle.std.proofs.lemmas.Bool.{cases_eq}
use Rattle.std.proofs.lemmas.Option.{same_Some}
use Rattle.cfs_model.specs.declared.act.Way.{Way}
use Rattle.cfs_model.specs.declared.act.Way.TheVariants.{Stays, Sleeps, Ends}
use Rattle.cfs_model.specs.declared.task.Place.TheVariants.{Run, Wait, Rest}
use Rattle.runqueue.specs.declared.sched_entity.SchedEntity.{SchedEntity}
use Rattle.cfs_model.proofs.Moves.{put-same, put-other}
use Rattle.replay_model.specs.Deeds.{part_after_prev, with_entity}
use Rattle.replay_model.specs.Part.{NobodyIn, Part, Entity}
use Rattle.replay_model.specs.QueueTests.{IsRunner}
use Rattle.replay_model.proofs.PartFacts.{task_in}
use Rattle.runqueue.specs.Queue.{IsLeastIfWaiting, IsLeastQueued, IsTheRunner}
use Rattle.runqueue.specs.Tasks.{entity_of}
use Rattle.runqueue.proofs.Lifts.{queued, run_queued, wait_queued}
use Rattle.runqueue.proofs.Moved.{after_ends, after_sleeps, after_stays, idle_prev, prev_is}
use Rattle.runqueue.proofs.Parts.{its_place}

-- where nobody runs those who are queued wait
least_waits : (part : Part) (o : Option ℤ) → NobodyIn part Run → IsLeastQueued part o → IsLeastIfWaiting part o
least_waits part None nobody none = λ pid i. let s = task_in part Wait pid i in
    none pid s.0 s.1 (wait_queued s.0.place s.2)
least_waits part (Some v) nobody h = record {
  pid = h.pid;
  task = h.task;
  stands = h.stands;
  waits = elim (queued h.task.place h.queued) [
    | inl runs ↦ absurd (nobody h.pid (ap its_place h.stands ∙ ap Some runs))
    | inr waits ↦ waits
  ];
  runtime = h.runtime;
  least = λ other s e w. h.least other s e (wait_queued s.place w);
}

-- the runner goes to another place, or is gone
module _ (part : Part) (t : SchedEntity) (ran : IsTheRunner part (Some t)) (pid : ℕ) (own : pid ≡ t.pid)
    (s : Option Entity) where
  abbrev moved : Part
  moved = with_entity part pid s

  there : part.tasks pid ≡ Some (entity_of t)
  there = ap part.tasks own ∙ ran.0

  here : moved.tasks pid ≡ s
  here = put-same part.tasks pid s

  away : (other : ℕ) → other ≢ pid → moved.tasks other ≡ part.tasks other
  away other ne = put-other part.tasks pid s other ne

  -- it waits
  put_back : (o : Option ℤ) → s ≡ Some (record (entity_of t) { place = Wait }) → IsLeastQueued part o
      → IsLeastIfWaiting moved o
  put_back None is none = absurd (none pid (entity_of t) there (run_queued t.place ran.1))
  put_back (Some v) is h =
      elim (cases_eq h.pid pid) [
        | inl same ↦ record {
          pid = pid;
          task = record (entity_of t) { place = Wait };
          stands = here ∙ is;
          waits = refl;
          runtime = ap (λ (x : Entity). x.runtime)
              (same_Some (entity_of t) h.task (sym there ∙ ap part.tasks (sym same) ∙ h.stands)) ∙ h.runtime;
          least = each;
        }
        | inr other ↦ record {
          pid = h.pid;
          task = h.task;
          stands = away h.pid other ∙ h.stands;
          waits = elim (queued h.task.place h.queued) [
            | inl runs ↦ absurd (other (ran.2 h.pid (ap its_place h.stands ∙ ap Some runs) ∙ sym own))
            | inr waits ↦ waits
          ];
          runtime = h.runtime;
          least = each;
        }
      ]
    where
      each : (other : ℕ) (x : Entity) → moved.tasks other ≡ Some x → x.place ≡ Wait → v ≤ℤ x.runtime
      each other x e w =
          elim (cases_eq other pid) [
            | inl same ↦ subst (λ (y : Entity). v ≤ℤ y.runtime)
                (same_Some (record (entity_of t) { place = Wait }) x (sym (here ∙ is) ∙ ap moved.tasks (sym same) ∙ e))
                (h.least pid (entity_of t) there (run_queued t.place ran.1))
            | inr ne ↦ h.least other x (sym (away other ne) ∙ e) (wait_queued x.place w)
          ]

  -- it doesn't
  put_away : (o : Option ℤ) → ((x : Entity) → s ≡ Some x → x.place ≢ Wait) → IsLeastIfWaiting part o
      → IsLeastIfWaiting moved o
  put_away None ne none = λ q i.
      let x = task_in moved Wait q i in
      elim (cases_eq q pid) [
        | inl same ↦ absurd (ne x.0 (sym here ∙ ap moved.tasks (sym same) ∙ x.1) x.2)
        | inr other ↦ none q (ap its_place (sym (away q other) ∙ x.1) ∙ ap Some x.2)
      ]
  put_away (Some v) ne w = record {
    pid = w.pid;
    task = w.task;
    stands = away w.pid apart ∙ w.stands;
    waits = w.waits;
    runtime = w.runtime;
    least = λ other x e p. elim (cases_eq other pid) [
      | inl same ↦ absurd (ne x (sym here ∙ ap moved.tasks (sym same) ∙ e) p)
      | inr o ↦ w.least other x (sym (away other o) ∙ e) p
    ];
  }
    where
      apart : w.pid ≢ pid
      apart same =
          let e : entity_of t ≡ w.task = same_Some (entity_of t) w.task (sym there ∙ ap part.tasks (sym same)
          ∙ w.stands) in
          let f : Run ≡ Wait = sym ran.1 ∙ ap (λ (x : Entity). x.place) e ∙ w.waits in
          absurd cc

pub stays_least : (part : Part) (runner : Option SchedEntity) → IsTheRunner part runner → (o : Option ℤ)
    → IsLeastQueued part o
    → (prev : ℕ) → ((IsRunner part prev → ⊥) → ⊥) → IsLeastIfWaiting (part_after_prev part prev Stays) o
stays_least part None nobody o h prev r =
    subst (λ (p : Part). IsLeastIfWaiting p o) (idle_prev part nobody Stays prev r) (least_waits part o nobody h)
stays_least part (Some t) ran o h prev r =
    let p = prev_is part t ran prev r in
    subst (λ (x : Part). IsLeastIfWaiting x o) (after_stays part prev p.0)
    (put_back part t ran prev p.1 (option_map (λ (s : Entity). record s { place = Wait }) (part.tasks prev)) o
    (ap (option_map (λ (s : Entity). record s { place = Wait })) (there part t ran prev p.1 None)) h)

pub leaves_least : (part : Part) (runner : Option SchedEntity) → IsTheRunner part runner → (way : Way) → way ≢ Stays
    → (o : Option ℤ) → IsLeastIfWaiting part o
    → (prev : ℕ) → ((IsRunner part prev → ⊥) → ⊥) → IsLeastIfWaiting (part_after_prev part prev way) o
leaves_least part None nobody way ne o h prev r =
    subst (λ (p : Part). IsLeastIfWaiting p o) (idle_prev part nobody way prev r) h
leaves_least part (Some t) ran Stays ne o h prev r = absurd (ne refl)
leaves_least part (Some t) ran Sleeps ne o h prev r =
    let p = prev_is part t ran prev r in
    subst (λ (x : Part). IsLeastIfWaiting x o) (after_sleeps part prev p.0)
    (put_away part t ran prev p.1 (option_map (λ (s : Entity). record s { place = Rest }) (part.tasks prev)) o
    (λ x e w.
    let f : Some (record (entity_of t) { place = Rest }) ≡ Some x =
    sym (ap (option_map (λ (s : Entity). record s { place = Rest })) (there part t ran prev p.1 None)) ∙ e in
    let g : Rest ≡ Wait = ap (λ (y : Entity). y.place) (same_Some (record (entity_of t) { place = Rest }) x f)
    ∙ w in absurd cc) h)
leaves_least part (Some t) ran Ends ne o h prev r =
    let p = prev_is part t ran prev r in
    subst (λ (x : Part). IsLeastIfWaiting x o) (after_ends part prev p.0)
    (put_away part t ran prev p.1 None o (λ x e w. absurd cc) h)
