-- What a deed adds to the tallies of a page, where each pid that stands at the processor has one: a pick, to that of a
-- switch's next task. Each pid that stands there after it has one too.
use Rattle.std.proofs.Common.{◌≡◌, ℕ, zero, suc, ◌+◌, nat_eq, Bool, true, false, cond, Option, Some, None, option_map}
use Rattle.std.proofs.Common.{pos, inl, inr, List, refl, sym, ap, ◌∙◌, true≢false, arith}
use Rattle.std.proofs.lemmas.Bool.{eq-eqb, ne_eqb}
use Rattle.cfs_model.specs.Machine.{put}
use Rattle.replay_model.specs.Part.{Part, Entity, IsIn}
use Rattle.replay_model.specs.ClaimTests.{IsNextNotWaiting}
use Rattle.replay_model.specs.Deeds.{with_entity, goes, part_after_prev, place_of_sort}
use Rattle.replay_model.specs.AfterDeed.{part_after_next, woken, after_deed}
use Rattle.replay_model.specs.Noted.{with_tally, tallied}
use Rattle.cfs_model.proofs.Moves.{put-same, put-other, same_or_not}
use Rattle.replay_model.proofs.PartFacts.{task_in}
use Rattle.tally_laws.proofs.TalliesSaid.{said, has_tally, Once, KeepsPid, has_map, said_map, once_map, has_with_same}
use Rattle.tally_laws.proofs.TalliesSaid.{has_with, said_with, once_with}
use Rattle.tally_laws.proofs.TalliesCharged.{Covers}
use Rattle.cfs_model.specs.declared.act.Way.{Way}
use Rattle.cfs_model.specs.declared.act.Way.TheVariants.{Stays, Sleeps, Ends}
use Rattle.cfs_model.specs.declared.claim.Claim.{Claim}
use Rattle.cfs_model.specs.declared.task.Place.{Place}
use Rattle.cfs_model.specs.declared.task.Place.TheVariants.{Run, Wait, Rest}
use Rattle.replay_model.specs.declared.page.Tally.{Tally}
use Rattle.replay_model.specs.declared.step.Deed.{Deed}
use Rattle.replay_model.specs.declared.step.Deed.TheVariants.{Switch, Wake, Born, Leave, Arrive}

-- how often a deed picks the pid
abbrev pub picks_of : Deed → ℕ → ℕ
picks_of (Switch prev pn way (suc n) nn) pid = cond (nat_eq (suc n) pid) 1 0
picks_of _ pid = 0

-- a pick of one tally
abbrev pub pick_one : ℕ → Tally → Tally
pick_one n tally = cond (nat_eq tally.pid (suc n)) (record tally { picks = tally.picks + 1 }) tally

pub pick_keeps : (n : ℕ) → KeepsPid (pick_one n)
pick_keeps n tally = go (nat_eq tally.pid (suc n))
  where
    go : (b : Bool) → (cond b (record tally { picks = tally.picks + 1 }) tally).pid ≡ tally.pid
    go true = refl
    go false = refl

pick_ran : (n : ℕ) (tally : Tally) → (pick_one n tally).ran ≡ tally.ran + 0
pick_ran n tally = go (nat_eq tally.pid (suc n))
  where
    go : (b : Bool) → (cond b (record tally { picks = tally.picks + 1 }) tally).ran ≡ tally.ran + 0
    go true = omega arith
    go false = omega arith

pick_charged : (n : ℕ) (tally : Tally) → (pick_one n tally).charged ≡ tally.charged + 0
pick_charged n tally = go (nat_eq tally.pid (suc n))
  where
    go : (b : Bool) → (cond b (record tally { picks = tally.picks + 1 }) tally).charged ≡ tally.charged + 0
    go true = omega arith
    go false = omega arith

pick_picks : (n : ℕ) (tally : Tally) → (pick_one n tally).picks ≡ tally.picks + cond (nat_eq tally.pid (suc n)) 1 0
pick_picks n tally = go (nat_eq tally.pid (suc n))
  where
    go : (b : Bool) → (cond b (record tally { picks = tally.picks + 1 }) tally).picks ≡ tally.picks + cond b 1 0
    go true = refl
    go false = omega arith

eq_turn : (a b : ℕ) → nat_eq a b ≡ nat_eq b a
eq_turn a b = elim (same_or_not a b) [
  | inl e ↦ eq-eqb a b e ∙ sym (eq-eqb b a (sym e))
  | inr ne ↦ ne_eqb a b ne ∙ sym (ne_eqb b a (λ e. ne (sym e)))
]

-- what is said after a deed
pub tallied_ran : (deed : Deed) (tallies : List Tally) (pid : ℕ)
    → said (λ t. t.ran) (tallied deed tallies) pid ≡ said (λ t. t.ran) tallies pid + 0
tallied_ran (Switch prev pn way zero nn) tallies pid = omega arith
tallied_ran (Switch prev pn way (suc n) nn) tallies pid =
    said_map (λ t. t.ran) (pick_one n) (pick_keeps n) pid 0 (λ tally e. pick_ran n tally) tallies (λ none. refl)
tallied_ran (Wake task nice) tallies pid = omega arith
tallied_ran (Born task nice policy) tallies pid =
    let e = said_with task tallies (λ t. t.ran) refl pid in omega arith
tallied_ran (Leave task nice dest) tallies pid = omega arith
tallied_ran (Arrive task nice orig policy) tallies pid =
    let e = said_with task tallies (λ t. t.ran) refl pid in omega arith

pub tallied_charged : (deed : Deed) (tallies : List Tally) (pid : ℕ)
    → said (λ t. t.charged) (tallied deed tallies) pid ≡ said (λ t. t.charged) tallies pid + 0
tallied_charged (Switch prev pn way zero nn) tallies pid = omega arith
tallied_charged (Switch prev pn way (suc n) nn) tallies pid =
    said_map (λ t. t.charged) (pick_one n) (pick_keeps n) pid 0 (λ tally e. pick_charged n tally) tallies
    (λ none. refl)
tallied_charged (Wake task nice) tallies pid = omega arith
tallied_charged (Born task nice policy) tallies pid =
    let e = said_with task tallies (λ t. t.charged) refl pid in omega arith
tallied_charged (Leave task nice dest) tallies pid = omega arith
tallied_charged (Arrive task nice orig policy) tallies pid =
    let e = said_with task tallies (λ t. t.charged) refl pid in omega arith

pub tallied_picks : (deed : Deed) (tallies : List Tally) (pid : ℕ)
    → (has_tally tallies pid ≡ false → picks_of deed pid ≡ 0)
    → said (λ t. t.picks) (tallied deed tallies) pid ≡ said (λ t. t.picks) tallies pid + picks_of deed pid
tallied_picks (Switch prev pn way zero nn) tallies pid none = omega arith
tallied_picks (Switch prev pn way (suc n) nn) tallies pid none =
    said_map (λ t. t.picks) (pick_one n) (pick_keeps n) pid (cond (nat_eq (suc n) pid) 1 0)
    (λ tally e. pick_picks n tally ∙ ap (λ p. tally.picks + cond (nat_eq p (suc n)) 1 0) e
    ∙ ap (λ b. tally.picks + cond b 1 0) (eq_turn pid (suc n))) tallies none
tallied_picks (Wake task nice) tallies pid none = omega arith
tallied_picks (Born task nice policy) tallies pid none =
    let e = said_with task tallies (λ t. t.picks) refl pid in omega arith
tallied_picks (Leave task nice dest) tallies pid none = omega arith
tallied_picks (Arrive task nice orig policy) tallies pid none =
    let e = said_with task tallies (λ t. t.picks) refl pid in omega arith

-- who has a tally keeps it, and a pid still has one alone
pub tallied_has : (deed : Deed) (tallies : List Tally) (pid : ℕ) → has_tally tallies pid ≡ true
    → has_tally (tallied deed tallies) pid ≡ true
tallied_has (Switch prev pn way zero nn) tallies pid h = h
tallied_has (Switch prev pn way (suc n) nn) tallies pid h = has_map (pick_one n) (pick_keeps n) tallies pid ∙ h
tallied_has (Wake task nice) tallies pid h = h
tallied_has (Born task nice policy) tallies pid h = has_with task tallies pid h
tallied_has (Leave task nice dest) tallies pid h = h
tallied_has (Arrive task nice orig policy) tallies pid h = has_with task tallies pid h

pub tallied_once : (deed : Deed) (tallies : List Tally) → Once tallies → Once (tallied deed tallies)
tallied_once (Switch prev pn way zero nn) tallies once = once
tallied_once (Switch prev pn way (suc n) nn) tallies once = once_map (pick_one n) (pick_keeps n) tallies once
tallied_once (Wake task nice) tallies once = once
tallied_once (Born task nice policy) tallies once = once_with task tallies once
tallied_once (Leave task nice dest) tallies once = once
tallied_once (Arrive task nice orig policy) tallies once = once_with task tallies once

-- who stands in a part stood there before a change of one pid's task, or is that pid
put_covers : (part : Part) (tallies : List Tally) (task : ℕ) (o : Option Entity) → Covers part tallies
    → ((s : Entity) → o ≡ Some s → has_tally tallies task ≡ true) → Covers (with_entity part task o) tallies
put_covers part tallies task o covers own pid s e = elim (same_or_not pid task) [
  | inl same ↦ ap (has_tally tallies) same
      ∙ own s (sym (put-same part.tasks task o) ∙ ap (put part.tasks task o) (sym same) ∙ e)
  | inr ne ↦ covers pid s (sym (put-other part.tasks task o pid ne) ∙ e)
]

-- a change of a task that stands there
map_covers : (part : Part) (tallies : List Tally) (task : ℕ) (f : Entity → Entity) → Covers part tallies
    → Covers (with_entity part task (option_map f (part.tasks task))) tallies
map_covers part tallies task f covers = put_covers part tallies task (option_map f (part.tasks task)) covers
    (λ s e. go (part.tasks task) refl s e)
  where
    go : (o : Option Entity) → part.tasks task ≡ o → (s : Entity) → option_map f o ≡ Some s
        → has_tally tallies task ≡ true
    go None e s h = absurd cc
    go (Some t) e s h = covers task t e

goes_covers : (part : Part) (tallies : List Tally) (task : ℕ) (place : Place) → Covers part tallies
    → Covers (goes part task place) tallies
goes_covers part tallies task place covers =
    map_covers part tallies task (λ (s : Entity). record s { place = place }) covers

gone_covers : (part : Part) (tallies : List Tally) (task : ℕ) → Covers part tallies
    → Covers (with_entity part task None) tallies
gone_covers part tallies task covers = put_covers part tallies task None covers (λ s e. absurd cc)

prev_covers : (part : Part) (tallies : List Tally) (prev : ℕ) (way : Way) → Covers part tallies
    → Covers (part_after_prev part prev way) tallies
prev_covers part tallies zero way covers = covers
prev_covers part tallies (suc n) Stays covers = goes_covers part tallies (suc n) Wait covers
prev_covers part tallies (suc n) Sleeps covers = goes_covers part tallies (suc n) Rest covers
prev_covers part tallies (suc n) Ends covers = gone_covers part tallies (suc n) covers

next_covers : (part : Part) (tallies : List Tally) (next : ℕ) → Covers part tallies
    → Covers (part_after_next part next) tallies
next_covers part tallies zero covers = covers
next_covers part tallies (suc n) covers = goes_covers part tallies (suc n) Run covers

covers_more : (part : Part) (deed : Deed) (tallies : List Tally) → Covers part tallies
    → Covers part (tallied deed tallies)
covers_more part deed tallies covers = λ pid s e. tallied_has deed tallies pid (covers pid s e)

-- each pid that stands there after a deed has a tally
pub deed_covers : (part : Part) (deed : Deed) (claim : Option Claim) (tallies : List Tally) → Covers part tallies
    → Covers (after_deed part deed claim) (tallied deed tallies)
deed_covers part (Switch prev pn way next nn) claim tallies covers =
    covers_more (part_after_next (part_after_prev part prev way) next) (Switch prev pn way next nn) tallies
    (next_covers (part_after_prev part prev way) tallies next (prev_covers part tallies prev way covers))
deed_covers part (Wake task nice) claim tallies covers =
    map_covers part tallies task (λ s. woken claim s.place s) covers
deed_covers part (Born task nice policy) claim tallies covers =
    put_covers part (with_tally task tallies) task
    (option_map
    (λ (c : Claim). record { place = Wait; nice = nice; policy = policy; runtime = c.v; drift = pos 0 }) claim)
    (covers_more part (Born task nice policy) tallies covers) (λ s e. has_with_same task tallies)
deed_covers part (Leave task nice dest) claim tallies covers = gone_covers part tallies task covers
deed_covers part (Arrive task nice orig policy) claim tallies covers =
    put_covers part (with_tally task tallies) task
    (option_map
    (λ (c : Claim). record { place = place_of_sort c.sort; nice = nice; policy = policy; runtime = c.v; drift = pos 0 })
    claim)
    (covers_more part (Arrive task nice orig policy) tallies covers) (λ s e. has_with_same task tallies)

-- the next task of a switch that passes stands there, so it has a tally
pub picked_has : (part : Part) (deed : Deed) (tallies : List Tally) → Covers part tallies
    → ((pid : ℕ) → ¬ IsNextNotWaiting part deed pid)
    → (pid : ℕ) → has_tally tallies pid ≡ false → picks_of deed pid ≡ 0
picked_has part (Switch prev pn way zero nn) tallies covers waits pid none = refl
picked_has part (Switch prev pn way (suc n) nn) tallies covers waits pid none = elim (same_or_not (suc n) pid) [
  | inl e ↦ absurd (waits (suc n) (
    (λ (h : IsIn part Wait (suc n)).
        let s = task_in part Wait (suc n) h in
        true≢false (sym (covers (suc n) s.0 s.1) ∙ ap (has_tally tallies) e ∙ none)),
    refl,
  ))
  | inr ne ↦ ap (λ b. cond b 1 0) (ne_eqb (suc n) pid ne)
]
picked_has part (Wake task nice) tallies covers waits pid none = refl
picked_has part (Born task nice policy) tallies covers waits pid none = refl
picked_has part (Leave task nice dest) tallies covers waits pid none = refl
picked_has part (Arrive task nice orig policy) tallies covers waits pid none = refl
