-- A migration's own change in the machine, and in the parts at its two ends.
use Rattle.std.proofs.Common.{◌≡◌, ◌≢◌, ℕ, true, false, Option, Some, None, option_map, ℤ, pos, ◌+ℤ◌, ◌-ℤ◌, inl}
use Rattle.std.proofs.Common.{inr}
use Rattle.std.proofs.Common.{refl, sym, ap, ◌∙◌, subst, arith}
use Rattle.std.proofs.lemmas.Int.{ints}
use Rattle.cfs_model.specs.Knobs.{KnobsView}
use Rattle.cfs_model.specs.Machine.{Machine, Stands, put_pair, pairs_of, with_move, without_task, with_runtime}
use Rattle.cfs_model.specs.Machine.{with_drift}
use Rattle.cfs_model.specs.Claimed.{ClaimSays}
use Rattle.cfs_model.specs.Step.{MovesBy, IsMigration}
use Rattle.replay_model.specs.Part.{Part, Entity, part_of, entity_at}
use Rattle.replay_model.specs.AfterDeed.{after_deed}
use Rattle.replay_model.specs.Deeds.{with_entity, place_of_sort, left_ticket, came_ticket}
use Rattle.replay_model.specs.ClaimTests.{IsClaimMissing, IsClaimExtra, IsClaimPid}
use Rattle.cfs_model.proofs.DriftSums.{drift-with_move}
use Rattle.cfs_model.proofs.FloorsRise.{floor-with_pairs}
use Rattle.cfs_model.proofs.KeptOrder.{IsApart, same_sets}
use Rattle.cfs_model.proofs.MarksMove.{mark-with_pairs}
use Rattle.cfs_model.proofs.Moves.{put-same, put-other, same_or_not, IsPutAt, move_placed}
use Rattle.cfs_model.proofs.StepOrder.{alone, placed_same, runtime-with_pairs, nice-with_pairs, policy-with_pairs}
use Rattle.replay_model.proofs.PartFacts.{stands_as, is_stander, is_in, stands_at}
use Rattle.replay_model.proofs.Options.{same_some, no_some, some_no}
use Rattle.replay_model.proofs.Clear.{IsClear}
use Rattle.part_laws.proofs.stepping.PartMoves.{KeepsRest, placed_part, placed_away, none_there, elsewhere}
use Rattle.part_laws.proofs.stepping.PartSwitch.{own_nice}
use Rattle.part_laws.proofs.stepping.SwitchClear.{own_not_other}
use Rattle.part_laws.proofs.stepping.PlacedClear.{not_strange, nowhere_none}
use Rattle.cfs_model.specs.declared.claim.Claim.{Claim}
use Rattle.cfs_model.specs.declared.claim.ClaimSort.{ClaimSort}
use Rattle.cfs_model.specs.declared.claim.ClaimSort.TheVariants.{At, Pass}
use Rattle.cfs_model.specs.declared.task.Place.{Place}
use Rattle.cfs_model.specs.declared.task.Place.TheVariants.{Run, Wait, Rest}
use Rattle.replay_model.specs.declared.page.Ticket.{Ticket}
use Rattle.replay_model.specs.declared.step.Deed.TheVariants.{Leave, Arrive}
use Rattle.cfs_model.specs.declared.policy.Policy.{Policy}

module _ (m : Machine) (place : Place) (orig dest pid : ℕ) (w : ℤ) where
  moved : Machine
  moved = with_move m pid place orig place dest

  set_values : (n : Machine) → (r : Place) → pairs_of (with_drift (with_runtime n pid w) pid (pos 0)) r ≡ pairs_of n r
  set_values n = same_sets n (with_drift (with_runtime n pid w) pid (pos 0)) refl refl refl

  pub moved_placed : IsApart m → Stands m place orig pid
      → IsPutAt m (with_drift (with_runtime (with_move m pid place orig place dest) pid w) pid (pos 0)) pid place dest
  moved_placed a h =
      placed_same m (with_move m pid place orig place dest)
      (with_drift (with_runtime (with_move m pid place orig place dest) pid w) pid (pos 0)) pid place dest
      (set_values (with_move m pid place orig place dest))
      (move_placed m pid place orig place dest (alone m a place orig pid h))

  same_runtime : (with_move m pid place orig place dest).runtime ≡ m.runtime
  same_runtime =
      runtime-with_pairs (without_task m place orig pid) place
      (put_pair (pairs_of (without_task m place orig pid) place) dest pid true)
      ∙ runtime-with_pairs m place (put_pair (pairs_of m place) orig pid false)

  same_nice : (with_move m pid place orig place dest).nice ≡ m.nice
  same_nice =
      nice-with_pairs (without_task m place orig pid) place
      (put_pair (pairs_of (without_task m place orig pid) place) dest pid true)
      ∙ nice-with_pairs m place (put_pair (pairs_of m place) orig pid false)

  same_policy : (with_move m pid place orig place dest).policy ≡ m.policy
  same_policy =
      policy-with_pairs (without_task m place orig pid) place
      (put_pair (pairs_of (without_task m place orig pid) place) dest pid true)
      ∙ policy-with_pairs m place (put_pair (pairs_of m place) orig pid false)

  pub moved_keeps : KeepsRest m (with_drift (with_runtime (with_move m pid place orig place dest) pid w) pid (pos 0))
      pid
  moved_keeps = record {
    runtimes = λ q ne. put-other (with_move m pid place orig place dest).runtime pid (Some w) q ne
        ∙ ap (λ f. f q) same_runtime;
    nices = λ q ne. ap (λ f. f q) same_nice;
    policies = λ q ne. ap (λ f. f q) same_policy;
    drifts = λ q ne. put-other (with_move m pid place orig place dest).drift pid (pos 0) q ne
        ∙ ap (λ f. f q) (drift-with_move m pid place orig place dest);
    floors = floor-with_pairs (without_task m place orig pid) place
        (put_pair (pairs_of (without_task m place orig pid) place) dest pid true)
        ∙ floor-with_pairs m place (put_pair (pairs_of m place) orig pid false);
    marks = mark-with_pairs (without_task m place orig pid) place
        (put_pair (pairs_of (without_task m place orig pid) place) dest pid true)
        ∙ mark-with_pairs m place (put_pair (pairs_of m place) orig pid false);
  }

  pub moved_nice : (nice : ℤ) → m.nice pid ≡ Some nice
      → (with_drift (with_runtime (with_move m pid place orig place dest) pid w) pid (pos 0)).nice pid ≡ Some nice
  moved_nice nice e = ap (λ f. f pid) same_nice ∙ e

  pub moved_policy : (policy : Policy) → m.policy pid ≡ policy
      → (with_drift (with_runtime (with_move m pid place orig place dest) pid w) pid (pos 0)).policy pid ≡ policy
  moved_policy policy e = ap (λ f. f pid) same_policy ∙ e

sort_place : (place : Place) (sort : ClaimSort) → MovesBy place sort → place_of_sort sort ≡ place
sort_place Wait At h = refl
sort_place Rest Pass h = refl
sort_place Run At h = absurd h
sort_place Run Pass h = absurd h
sort_place Wait Pass h = absurd h
sort_place Rest At h = absurd h

moves_by : (place : Place) (sort : ClaimSort) → place ≡ place_of_sort sort → MovesBy place sort
moves_by place At e = subst (λ x. MovesBy x At) (sym e) tt
moves_by place Pass e = subst (λ x. MovesBy x Pass) (sym e) tt

-- the place and value of a task that comes
comes_to : (claim : Option Claim) (sort : ClaimSort) (place : Place) (pid : ℕ) (nice : ℤ) (policy : Policy) (v : ℤ)
    → MovesBy place sort → ClaimSays claim sort pid v
    → option_map (λ (c : Claim). let s : Entity = record
    { place = place_of_sort c.sort; nice = nice; policy = policy; runtime = c.v; drift = pos 0 } in s) claim ≡ Some
    (record { place = place; nice = nice; policy = policy; runtime = v; drift = pos 0 })
comes_to None sort place pid nice policy v b h = absurd h
comes_to (Some claim) sort place pid nice policy v b h =
    ap (λ x. Some (record {
      place = place_of_sort x;
      nice = nice;
      policy = policy;
      runtime = claim.v;
      drift = pos 0;
    })) h.0
    ∙ ap (λ x. Some (record { place = x; nice = nice; policy = policy; runtime = claim.v; drift = pos 0 })) (sort_place
    place sort b)
    ∙ ap (λ x. Some (record { place = place; nice = nice; policy = policy; runtime = x; drift = pos 0 })) h.2

-- the parts after a migration
pub migration_parts : (m : Machine) → IsApart m
    → (orig dest pid : ℕ) (nice : ℤ) (claim : Option Claim) (policy : Policy) (after : Machine)
    → IsMigration m orig dest pid nice claim policy after
    → (part_of after orig ≡ after_deed (part_of m orig) (Leave pid nice dest) None)
    × (part_of after dest ≡ after_deed (part_of m dest) (Arrive pid nice orig policy) claim)
    × ((d : ℕ) → d ≢ orig → d ≢ dest → part_of after d ≡ part_of m d)
migration_parts m a orig dest pid nice claim policy after s =
    let w : ℤ = (s.own -ℤ m.floor orig) +ℤ m.floor dest in
    let next = with_drift (with_runtime (with_move m pid s.place orig s.place dest) pid w) pid (pos 0) in
    let p = moved_placed m s.place orig dest pid w a s.stands in
    let k = moved_keeps m s.place orig dest pid w in (
      ap (λ x. part_of x orig) s.result ∙ placed_away m next pid s.place dest p k orig s.differ,
      ap (λ x. part_of x dest) s.result
          ∙ placed_part m next pid s.place dest nice policy w (pos 0) p k (moved_nice m s.place orig dest pid w nice
          s.prio)
          (moved_policy m s.place orig dest pid w policy s.policy_is)
          (put-same (with_move m pid s.place orig s.place dest).runtime pid (Some w))
          (put-same (with_move m pid s.place orig s.place dest).drift pid (pos 0))
          ∙ ap (with_entity (part_of m dest) pid) (sym (comes_to claim s.sort s.place pid nice policy w s.moves
          s.claimed)),
      (λ d ne other. ap (λ x. part_of x d) s.result ∙ placed_away m next pid s.place dest p k d other
          ∙ none_there m d pid (elsewhere m a s.place orig pid s.stands d ne)),
    )

not_run : (place : Place) (sort : ClaimSort) → MovesBy place sort → place ≡ Run → ⊥
not_run Run At h e = h
not_run Run Pass h e = h
not_run Wait sort h e = cc
not_run Rest sort h e = cc

-- the part at the origin passes the tests of the leave
pub leave_clear : (knobs : KnobsView) (m : Machine) → IsApart m
    → (orig dest pid : ℕ) (nice : ℤ) (claim : Option Claim) (policy : Policy) (after : Machine)
    → IsMigration m orig dest pid nice claim policy after
    → IsClear knobs orig (part_of m orig) (Leave pid nice dest) None
leave_clear knobs m a orig dest pid nice claim policy after s = record {
  home = λ q h. s.differ (sym h.0);
  self = λ q h. h;
  prev = λ q h. h;
  strange = λ q h. not_strange m s.place orig pid (is_in m a s.place orig pid s.stands) h.0;
  already = λ q h. h;
  running = λ q h. not_run s.place s.sort s.moves
      (a.one_place pid s.place Run orig orig s.stands (stands_at m Run orig pid h.0)).0;
  prio = λ q h. own_not_other m orig pid nice s.prio h.0;
  missing = λ q h. no_some q h.0;
  extra = λ q h. h;
  other = λ q h. h;
  put_back = λ q h. h;
  wake = λ q h. h;
  fork = λ q h. h;
  next = λ q h. h;
  beside = λ q h. h;
  least = λ q h. h;
}

said_come : (part : Part) (pid orig : ℕ) (nice : ℤ) (policy : Policy) (claim : Option Claim) (sort : ClaimSort) (v : ℤ)
    → ClaimSays claim sort pid v → (q : ℕ) → ¬ IsClaimMissing part (Arrive pid nice orig policy) claim q
said_come part pid orig nice policy None sort v h q k = h
said_come part pid orig nice policy (Some claim) sort v h q k = k.1 tt

no_extra_come : (part : Part) (pid orig : ℕ) (nice : ℤ) (policy : Policy) (claim : Option Claim) (q : ℕ)
    → ¬ IsClaimExtra part (Arrive pid nice orig policy) claim q
no_extra_come part pid orig nice policy None q k = k
no_extra_come part pid orig nice policy (Some claim) q k = some_no pid k.0

own_come : (part : Part) (pid orig : ℕ) (nice : ℤ) (policy : Policy) (claim : Option Claim) (sort : ClaimSort) (v : ℤ)
    → ClaimSays claim sort pid v → (q : ℕ) → ¬ IsClaimPid part (Arrive pid nice orig policy) claim q
own_come part pid orig nice policy None sort v h q k = h
own_come part pid orig nice policy (Some claim) sort v h q k = k.0.2 (h.1 ∙ same_some (Some pid) pid k.0.0 refl k.0.1)

-- the part at the destination passes the tests of the arrival
pub arrive_clear : (knobs : KnobsView) (m : Machine) → IsApart m
    → (orig dest pid : ℕ) (nice : ℤ) (claim : Option Claim) (policy : Policy) (after : Machine)
    → IsMigration m orig dest pid nice claim policy after
    → IsClear knobs dest (part_of m dest) (Arrive pid nice orig policy) claim
arrive_clear knobs m a orig dest pid nice claim policy after s = record {
  home = λ q h. h;
  self = λ q h. h;
  prev = λ q h. h;
  strange = λ q h. h;
  already = λ q h. nowhere_none m dest pid (elsewhere m a s.place orig pid s.stands dest (λ e. s.differ (sym e))) h.0;
  running = λ q h. h;
  prio = λ q h. h;
  missing = said_come (part_of m dest) pid orig nice policy claim s.sort ((s.own -ℤ m.floor orig) +ℤ m.floor dest)
      s.claimed;
  extra = no_extra_come (part_of m dest) pid orig nice policy claim;
  other = own_come (part_of m dest) pid orig nice policy claim s.sort ((s.own -ℤ m.floor orig) +ℤ m.floor dest)
      s.claimed;
  put_back = λ q h. h;
  wake = λ q h. h;
  fork = λ q h. h;
  next = λ q h. h;
  beside = λ q h. h;
  least = λ q h. h;
}

offsets : (own fo fd : ℤ) → (own -ℤ fo) ≡ ((own -ℤ fo) +ℤ fd) -ℤ fd
offsets own fo fd = omega (arith, ints)

claim_ticket : (part : Part) (line pid : ℕ) (nice : ℤ) (policy : Policy) (claim : Option Claim) (sort : ClaimSort)
    (place : Place) (v : ℤ) → MovesBy place sort → ClaimSays claim sort pid v
    → came_ticket part line pid nice policy claim ≡ Some
    (record { line = line; pid = pid; nice = nice; policy = policy; place = place; offset = v -ℤ part.floor })
claim_ticket part line pid nice policy None sort place v b h = absurd h
claim_ticket part line pid nice policy (Some claim) sort place v b h =
    ap (λ x. Some (record {
      line = line;
      pid = pid;
      nice = nice;
      policy = policy;
      place = place_of_sort x;
      offset = claim.v -ℤ part.floor;
    })) h.0
    ∙ ap (λ x. Some (record
    { line = line; pid = pid; nice = nice; policy = policy; place = x; offset = claim.v -ℤ part.floor }))
    (sort_place place sort b)
    ∙ ap (λ x. Some (record
    { line = line; pid = pid; nice = nice; policy = policy; place = place; offset = x -ℤ part.floor })) h.2

-- the two tickets of a migration are equal
pub tickets_equal : (m : Machine) → IsApart m
    → (orig dest pid line : ℕ) (nice : ℤ) (claim : Option Claim) (policy : Policy) (after : Machine)
    → IsMigration m orig dest pid nice claim policy after
    → left_ticket (part_of m orig) line pid ≡ came_ticket (part_of m dest) line pid nice policy claim
tickets_equal m a orig dest pid line nice claim policy after s =
    ap (option_map (λ (t : Entity). let x : Ticket = record
    { line = line; pid = pid; nice = t.nice; policy = t.policy; place = t.place; offset = t.runtime -ℤ m.floor orig }
    in x))
    (is_stander m a s.place orig pid nice s.own s.stands s.prio s.runtime)
    ∙ ap (λ x. Some (record
    { line = line; pid = pid; nice = nice; policy = x; place = s.place; offset = s.own -ℤ m.floor orig })) s.policy_is
    ∙ ap (λ x. Some (record { line = line; pid = pid; nice = nice; policy = policy; place = s.place; offset = x }))
    (offsets s.own (m.floor orig) (m.floor dest))
    ∙ sym (claim_ticket (part_of m dest) line pid nice policy claim s.sort s.place
    ((s.own -ℤ m.floor orig) +ℤ m.floor dest) s.moves s.claimed)

moved_value : (own fo v fd : ℤ) → (own -ℤ fo) ≡ (v -ℤ fd) → v ≡ ((own -ℤ fo) +ℤ fd)
moved_value own fo v fd e = omega (arith, ints)

-- parts that pass the tests of a leave and an arrival, with equal tickets, let the machine move the task
pub migration_exists : (knobs : KnobsView) (m : Machine) → IsApart m
    → (orig dest pid line : ℕ) (nice : ℤ) (claim : Option Claim) (policy : Policy)
    → IsClear knobs orig (part_of m orig) (Leave pid nice dest) None
    → IsClear knobs dest (part_of m dest) (Arrive pid nice orig policy) claim
    → left_ticket (part_of m orig) line pid ≡ came_ticket (part_of m dest) line pid nice policy claim
    → (after : Machine) × IsMigration m orig dest pid nice claim policy after
migration_exists knobs m a orig dest pid line nice None policy l c t = absurd (c.missing pid (refl, (λ x. x)))
migration_exists knobs m a orig dest pid line nice (Some claim) policy l c t = go (entity_at m orig pid) refl t
  where
    go : (o : Option Entity) → entity_at m orig pid ≡ o
        → option_map (λ (s : Entity). let x : Ticket = record {
          line = line;
          pid = pid;
          nice = s.nice;
          policy = s.policy;
          place = s.place;
          offset = s.runtime -ℤ m.floor
              orig;
        } in
        x) o
        ≡ came_ticket (part_of m dest) line pid nice policy (Some claim)
        → (after : Machine) × IsMigration m orig dest pid nice (Some claim) policy after
    go None e t = absurd (l.strange pid (e, refl))
    go (Some s) e t =
        let left : Ticket = record {
          line = line;
          pid = pid;
          nice = s.nice;
          policy = s.policy;
          place = s.place;
          offset = s.runtime -ℤ m.floor
              orig;
        } in
        let came : Ticket = record {
          line = line;
          pid = pid;
          nice = nice;
          policy = policy;
          place = place_of_sort claim.sort;
          offset = claim.v -ℤ m.floor dest;
        } in
        let same : left ≡ came = same_some (Some left) left came refl t in
        let k = stands_as m orig pid s e in
        let v : claim.v ≡ ((s.runtime -ℤ m.floor orig) +ℤ m.floor dest) = moved_value s.runtime (m.floor orig) claim.v
        (m.floor dest) (ap (λ (x : Ticket). x.offset) same) in
        let who : claim.pid ≡ pid = elim
        (same_or_not claim.pid pid) [ inl e ↦ e | inr ne ↦ absurd (c.other claim.pid ((pid, refl, ne), refl)) ] in (
          with_drift
              (with_runtime (with_move m pid s.place orig s.place dest) pid
              ((s.runtime -ℤ m.floor orig) +ℤ m.floor dest)) pid (pos 0),
          record {
            differ = λ e. l.home pid (sym e, refl);
            place = s.place;
            stands = k.stands;
            prio = own_nice m a s.place orig pid nice k.stands (λ h. l.prio pid (h, refl));
            policy_is = k.policy ∙ ap (λ (x : Ticket). x.policy) same;
            own = s.runtime;
            runtime = k.runtime;
            sort = claim.sort;
            moves = moves_by s.place claim.sort (ap (λ (x : Ticket). x.place) same);
            claimed = (refl, who, v);
            result = refl;
          },
        )
