-- What was joined with a companion so far stays joined when the companion says more: that stands above the last event's
-- line, and of a start from which lines of the trace were claimed nothing more is said.
use Rattle.std.proofs.Common.{◌≡◌, ℕ, ◌≤◌, Bool, true, false, not, ◌&&◌, eqb, List, [], ◌∷◌, length, Option, Some}
use Rattle.std.proofs.Common.{None, refl, sym, ap, subst, ◌∙◌, inl, inr, arith}
use Rattle.std.specs.Prelude.{nat_lt, ◌||◌, ◌⊎◌}
use Rattle.std.specs.List.{last_or}
use Rattle.std.specs.Option.{option_map_or}
use Rattle.std.proofs.lemmas.Bool.{ne_eqb}
use Rattle.std.proofs.lemmas.Bool.Decides.{nat_tests}
use Rattle.cfs_model.specs.Claimed.{Claimed}
use Rattle.cfs_model.specs.declared.act.Entry.{Entry}
use Rattle.cfs_model.specs.declared.charge_line.ChargeLine.{ChargeLine}
use Rattle.cfs_model.specs.declared.claim.Claim.{Claim}
use Rattle.cfs_model.specs.declared.nice_line.NiceLine.{NiceLine}
use Rattle.companion_file.specs.Companion.{CompanionView}
use Rattle.companion_file.specs.Earlier.{Said, has_all_floors, last_charge, last_claim, last_nice}
use Rattle.companion_file.specs.Reader.{GoesOn, IsStartOf, has_begun, reaches_past, start_of, with_all_said}
use Rattle.window_joining.proofs.Later.{events_stay, joined_stays}
use Rattle.window_joining.specs.Joining.{SaysMore, edge_of}
use Rattle.stream_audit.specs.Companion.{IsPast}
use Rattle.stream_audit.specs.Joined.{AreJoinedSoFar}
use Rattle.stream_audit.specs.declared.companion_input.CompanionInput.{CompanionInput}
use Rattle.stream_audit.specs.declared.joined_events.JoinedEvents.{JoinedEvents}

-- ---- a start that stays

one_of_three : (a b c : Bool) → (a || b || c) ≡ true → (a ≡ true) ⊎ (b ≡ true) ⊎ (c ≡ true)
one_of_three true b c e = inl refl
one_of_three false true c e = inr (inl refl)
one_of_three false false c e = inr (inr e)

first_begins : (a b c : Bool) → a ≡ false → not (a && b && c) ≡ true
first_begins a b c e = rw e refl

second_begins : (a b c : Bool) → b ≡ false → not (a && b && c) ≡ true
second_begins true b c e = rw e refl
second_begins false b c e = refl

third_begins : (a b c : Bool) → c ≡ false → not (a && b && c) ≡ true
third_begins true true c e = rw e refl
third_begins true false c e = refl
third_begins false b c e = refl

some_said : {A : Type 0} (line_of : A → ℕ) (xs : List A) (line : ℕ)
    → option_map_or (λ last. nat_lt line (line_of last)) (last_or None xs) false ≡ true → eqb (length xs) 0 ≡ false
some_said line_of [] line reached = absurd cc
some_said line_of (x ∷ xs) line reached = ne_eqb (length (x ∷ xs)) 0 (λ e. absurd (omega (arith, e)))

-- where a line of the trace is reached a claim, a change or a charge was said
pub reached_begun : (said : Said) (line : ℕ) → reaches_past said line ≡ true → has_begun said ≡ true
reached_begun said line reached =
    elim (one_of_three _ _ _ reached) [
      | inl e ↦ first_begins _ (eqb (length said.nices) 0) (eqb (length said.charges) 0)
          (some_said (λ (k : Claim). k.line) said.claims line e)
      | inr (inl e) ↦ second_begins (eqb (length said.claims) 0) _ (eqb (length said.charges) 0)
          (some_said (λ (k : NiceLine). k.line) said.nices line e)
      | inr (inr e) ↦ third_begins (eqb (length said.claims) 0) (eqb (length said.nices) 0) _
          (some_said (λ (k : ChargeLine). k.line) said.charges line e)
    ]

first_of_three : (a b c : Bool) → a ≡ true → (a || b || c) ≡ true
first_of_three a b c e = rw e refl

second_of_three : (a b c : Bool) → b ≡ true → (a || b || c) ≡ true
second_of_three true b c e = refl
second_of_three false b c e = rw e refl

third_of_three : (a b c : Bool) → c ≡ true → (a || b || c) ≡ true
third_of_three true b c e = refl
third_of_three false true c e = refl
third_of_three false false c e = e

below_last : {A : Type 0} (line_of : A → ℕ) (o : Option A) (low line : ℕ) → low ≤ line
    → option_map_or (λ last. nat_lt line (line_of last)) o false ≡ true
    → option_map_or (λ last. nat_lt low (line_of last)) o false ≡ true
below_last line_of None low line down reached = absurd cc
below_last line_of (Some x) low line down reached = grind (arith, nat_tests)

-- what reaches past a line reaches past the lines before it
reached_down : (said : Said) (low line : ℕ) → low ≤ line → reaches_past said line ≡ true
    → reaches_past said low ≡ true
reached_down said low line down reached =
    elim (one_of_three _ _ _ reached) [
      | inl e ↦ first_of_three _ (option_map_or (λ last. nat_lt low last.line) (last_nice said) false)
          (option_map_or (λ last. nat_lt low last.line) (last_charge said) false)
          (below_last (λ (k : Claim). k.line) (last_claim said) low line down e)
      | inr (inl e) ↦ second_of_three (option_map_or (λ last. nat_lt low last.line) (last_claim said) false) _
          (option_map_or (λ last. nat_lt low last.line) (last_charge said) false)
          (below_last (λ (k : NiceLine). k.line) (last_nice said) low line down e)
      | inr (inr e) ↦ third_of_three (option_map_or (λ last. nat_lt low last.line) (last_claim said) false)
          (option_map_or (λ last. nat_lt low last.line) (last_nice said) false) _
          (below_last (λ (k : ChargeLine). k.line) (last_charge said) low line down e)
    ]

pub past_down : (low line : ℕ) (said : Said) (input : CompanionInput) → low ≤ line → IsPast line said input
    → IsPast low said input
past_down low line said input down past none =
    elim (past none) [
      | inl ended ↦ inl ended
      | inr reached ↦ inr (reached_down said low line down reached)
    ]

-- and the start stays
pub start_stays : (said after : Said) (start : CompanionView) → start_of after ≡ start_of said → IsStartOf said start
    → IsStartOf after start
start_stays said after start same of = record {
  whole = ap (λ (s : Said). has_all_floors s) same ∙ of.whole;
  cpus_is = ap (λ (s : Said). s.cpus) same ∙ of.cpus_is;
  start_is = ap (λ (s : Said). s.start) same ∙ of.start_is;
  floors_is = of.floors_is ∙ sym (ap (λ (s : Said). s.floors) same);
  tasks_is = of.tasks_is ∙ sym (ap (λ (s : Said). s.tasks) same);
  idles_is = of.idles_is ∙ sym (ap (λ (s : Said). s.idles) same);
  no_claim = of.no_claim;
  no_change = of.no_change;
  no_charge = of.no_charge;
}

-- ---- a companion that says more

-- what is said behind a line that was reached stands above it
pub more_above : (edge : ℕ) (said after : Said) (start : CompanionView) → GoesOn said after
    → reaches_past said edge ≡ true → SaysMore edge (with_all_said start said) (with_all_said start after)
more_above edge said after start more reached = record {
  head = record { cpus = refl; start = refl; floors = refl; tasks = refl; idles = refl };
  claims = record {
    more = more.claims.more;
    parts = more.claims.parts;
    behind = more.claims.above edge reached;
  };
  nices = record {
    more = more.nices.more;
    parts = more.nices.parts;
    behind = more.nices.above edge reached;
  };
  charges = record {
    more = more.charges.more;
    parts = more.charges.parts;
    behind = more.charges.above edge reached;
  };
}

pub joined_stays_so : (said after : Said) (start : CompanionView) (events : List Entry) (handed : List Claimed)
    (joined : JoinedEvents) → SaysMore (edge_of events) (with_all_said start said) (with_all_said start after)
    → AreJoinedSoFar (with_all_said start said) events handed joined
    → AreJoinedSoFar (with_all_said start after) events handed joined
joined_stays_so said after start events handed joined above so =
    let c = with_all_said start said in
    let later = with_all_said start after in
    let edge = joined.joining.line in
    let more = subst (λ n. SaysMore n c later) (sym so.joining.edge) above in
    record {
      head = record {
        cpus = so.head.cpus;
        start = so.head.start;
        floors = so.head.floors;
        tasks = so.head.tasks;
        idles = so.head.idles;
      };
      joining = joined_stays joined.joining c later events so.joining more;
      window = so.window ∙ sym (events_stay c later events edge more (λ k d h. (so.joining.lines k d h).1));
    }
