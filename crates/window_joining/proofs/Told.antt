-- The policies over one more event, and the events with what is said on their lines and one more.
use Rattle.std.proofs.Common.{◌≡◌, ℕ, ◌<◌, ◌≤◌, nat_lt, cond, List, [], ◌∷◌, ◌++◌, map, Option, inl, inr}
use Rattle.std.proofs.Common.{refl}
use Rattle.std.proofs.Common.{sym, ap, ◌∙◌, arith, eqb, false, ◌&&◌, ◌||◌, Bool, true, get_or}
use Rattle.std.specs.Prelude.{All}
use Rattle.std.specs.List.{list_any}
use Rattle.std.proofs.lemmas.Bool.{le-ltb, lt-ltb, ne_eqb}
use Rattle.std.proofs.lemmas.List.{map-append}
use Rattle.std.proofs.lemmas.List.Elements.{All-head, All-tail, All-weaker}
use Rattle.std.proofs.lemmas.List.Folds.{list_any-append, list_any_none}
use Rattle.cfs_model.specs.Claimed.{Claimed, charge_at, claim_at, is_named_idle, named_policy, nice_at}
use Rattle.cfs_model.specs.Claimed.{policies_after}
use Rattle.cfs_model.specs.Claimed.{policies_before, policy_by, policy_in, policy_told, with_claim}
use Rattle.cfs_model.specs.Machine.{put}
use Rattle.cfs_model.specs.Start.{policies_at_start}
use Rattle.cfs_model.specs.declared.act.Act.{Act}
use Rattle.cfs_model.specs.declared.act.Act.TheVariants.{Switch, Wake, Born, Shift}
use Rattle.cfs_model.specs.declared.act.Entry.{Entry}
use Rattle.cfs_model.specs.declared.charge_line.ChargeLine.{ChargeLine}
use Rattle.cfs_model.specs.declared.claim.Claim.{Claim}
use Rattle.cfs_model.specs.declared.idle_line.IdleLine.{IdleLine}
use Rattle.cfs_model.specs.declared.nice_line.NiceLine.{NiceLine}
use Rattle.cfs_model.specs.declared.policy.Policy.{Policy}
use Rattle.cfs_model.proofs.Moves.{put-other, put-same, same_or_not}
use Rattle.companion_file.specs.Companion.{CompanionView}
use Rattle.window_joining.specs.Between.{IsCut}
use Rattle.window_joining.specs.Joining.{joined_events}
use Rattle.window_laws.specs.ClaimedParts.{policies_through}

-- the policies through some events and one more
pub through_more : (idles : List IdleLine) (policies : ℕ → Policy) (events : List Entry) (event : Entry)
    → policies_through idles policies (events ++ event ∷ [])
    ≡ policies_after idles (policies_through idles policies events) event.line event.act
through_more idles policies [] event = refl
through_more idles policies (x ∷ events) event =
    through_more idles (policies_after idles policies x.line x.act) events event

-- an event on a line is not before it
before_more : (idles : List IdleLine) (policies : ℕ → Policy) (events : List Entry) (event : Entry) (line : ℕ)
    → line ≤ event.line
    → policies_before idles policies (events ++ event ∷ []) line ≡ policies_before idles policies events line
before_more idles policies [] event line le =
    ap (λ b. cond b (policies_after idles policies event.line event.act) policies) (le-ltb event.line line le)
before_more idles policies (x ∷ events) event line le =
    ap (λ later. cond (nat_lt x.line line) later policies)
    (before_more idles (policies_after idles policies x.line x.act) events event line le)

-- before a line below all events come those through them
before_all : (idles : List IdleLine) (policies : ℕ → Policy) (events : List Entry) (line : ℕ)
    → All (λ x. x.line < line) events
    → policies_before idles policies events line ≡ policies_through idles policies events
before_all idles policies [] line all = refl
before_all idles policies (x ∷ events) line all =
    ap (λ b. cond b (policies_before idles (policies_after idles policies x.line x.act) events line) policies)
    (lt-ltb x.line line (All-head (λ (y : Entry). y.line < line) x events all))
    ∙ before_all idles (policies_after idles policies x.line x.act) events line
    (All-tail (λ (y : Entry). y.line < line) x events all)

-- the policy told is by those before the line alone
same_told : (idles : List IdleLine) (one other : ℕ → ℕ → Policy) (line : ℕ) (act : Act)
    → ((pid : ℕ) → one line pid ≡ other line pid) → policy_told idles one line act ≡ policy_told idles other line act
same_told idles one other line (Switch cpu prev pn way next nn) e = refl
same_told idles one other line (Wake cpu pid nice) e = refl
same_told idles one other line (Born cpu pid nice) e = refl
same_told idles one other line (Shift orig dest pid nice) e = e pid

-- the idle lines on an event's line are those in a cut that ends there
same_named : (low line : ℕ) (idles news : List IdleLine) (pid : ℕ)
    → IsCut IdleLine (λ idle. idle.line) low line idles news → low < line
    → is_named_idle news line pid ≡ is_named_idle idles line pid
same_named low line idles news pid c lt =
    let test : IdleLine → Bool = λ idle. eqb idle.line line && eqb idle.pid pid in
    let off : (idle : IdleLine) → (idle.line ≡ line → ⊥) → test idle ≡ false =
    λ idle ne. ap (λ b. b && eqb idle.pid pid) (ne_eqb idle.line line ne) in
    let front : list_any test c.before ≡ false =
    list_any_none test c.before
    (λ k d h. off (get_or c.before k d) (λ e. (let le = c.passed k d h in absurd (omega (arith, le, e, lt))))) in
    let back : list_any test c.after ≡ false =
    list_any_none test c.after
    (λ k d h. off (get_or c.after k d) (λ e. (let gt = c.beyond k d h in absurd (omega (arith, gt, e))))) in
    sym (ap (list_any test) c.parts
    ∙ list_any-append test c.before (news ++ c.after)
    ∙ ap (λ b. b || list_any test (news ++ c.after)) front
    ∙ list_any-append test news c.after
    ∙ ap (λ b. list_any test news || b) back
    ∙ or_false (list_any test news))
  where
    or_false : (b : Bool) → (b || false) ≡ b
    or_false true = refl
    or_false false = refl

-- so the policy that is told by them is that told by all
pub told_by_news : (low line : ℕ) (idles news : List IdleLine) (one other : ℕ → ℕ → Policy) (act : Act)
    → IsCut IdleLine (λ idle. idle.line) low line idles news → low < line
    → ((pid : ℕ) → one line pid ≡ other line pid) → policy_told news one line act ≡ policy_told idles other line act
told_by_news low line idles news one other (Switch cpu prev pn way next nn) c lt e = refl
told_by_news low line idles news one other (Wake cpu pid nice) c lt e = refl
told_by_news low line idles news one other (Born cpu pid nice) c lt e =
    ap policy_by (same_named low line idles news pid c lt)
told_by_news low line idles news one other (Shift orig dest pid nice) c lt e = e pid

put_along : (f g : ℕ → Policy) (key : ℕ) (x y : Policy) → x ≡ y → ((q : ℕ) → f q ≡ g q) → (q : ℕ)
    → put f key x q ≡ put g key y q
put_along f g key x y same h q = elim (same_or_not q key) [
  | inl e ↦ ap (put f key x) e ∙ put-same f key x ∙ same ∙ sym (put-same g key y) ∙ ap (put g key y) (sym e)
  | inr ne ↦ put-other f key x q ne ∙ h q ∙ sym (put-other g key y q ne)
]

-- and the policies after an event
pub after_by_news : (low line : ℕ) (idles news : List IdleLine) (one other : ℕ → Policy) (act : Act)
    → IsCut IdleLine (λ idle. idle.line) low line idles news → low < line
    → ((pid : ℕ) → one pid ≡ other pid) → (pid : ℕ)
    → policies_after news one line act pid ≡ policies_after idles other line act pid
after_by_news low line idles news one other (Switch cpu prev pn way next nn) c lt e pid = e pid
after_by_news low line idles news one other (Wake cpu p nice) c lt e pid = e pid
after_by_news low line idles news one other (Born cpu p nice) c lt e pid =
    put_along one other p (named_policy news line p) (named_policy idles line p)
    (ap policy_by (same_named low line idles news p c lt)) e pid
after_by_news low line idles news one other (Shift orig dest p nice) c lt e pid = e pid

-- an event with these
abbrev with_said : Entry → Option Claim → Option NiceLine → Option ChargeLine → Policy → Claimed
with_said entry claim nice charge policy =
    record { entry = entry; claim = claim; nice = nice; charge = charge; policy = policy }

pub same_said : (entry : Entry) (c d : Option Claim) (n m : Option NiceLine) (h k : Option ChargeLine) (p q : Policy)
    → c ≡ d → n ≡ m → h ≡ k → p ≡ q → with_said entry c n h p ≡ with_said entry d m k q
same_said entry c d n m h k p q a b e f =
    ap (λ z. with_said entry z n h p) a ∙ ap (λ z. with_said entry d z h p) b ∙ ap (λ z. with_said entry d m z p) e
    ∙ ap (λ z. with_said entry d m k z) f

-- functions that agree at each event of a list
pub same_map : (f g : Entry → Claimed) (Is : Entry → Type 0) → ((entry : Entry) → Is entry → f entry ≡ g entry)
    → (entries : List Entry) → All Is entries → map f entries ≡ map g entries
same_map f g Is e [] h = refl
same_map f g Is e (entry ∷ entries) h =
    ap (λ x. x ∷ map f entries) (e entry (All-head Is entry entries h))
    ∙ ap (λ xs. g entry ∷ xs) (same_map f g Is e entries (All-tail Is entry entries h))

module _ (c : CompanionView) (events : List Entry) (event : Entry) (edge : ℕ)
    (low : All (λ x. x.line ≤ edge) events) (high : edge < event.line) where
  abbrev start : ℕ → Policy
  start = policies_at_start c.tasks

  abbrev with : List Entry → Entry → Claimed
  with all entry = with_claim c.claims c.nices c.charges (policy_in c.idles start all) entry

  earlier : (entry : Entry) → entry.line ≤ edge → with (events ++ event ∷ []) entry ≡ with events entry
  earlier entry le =
      ap (with_said entry (claim_at c.claims entry.line) (nice_at c.nices entry.line) (charge_at c.charges entry.line))
      (same_told c.idles (policies_before c.idles start (events ++ event ∷ [])) (policies_before c.idles start events)
      entry.line entry.act
      (λ pid. ap (λ f. f pid) (before_more c.idles start events event entry.line (omega arith))))

  -- the policy told of the event that comes next
  pub told_next : policy_in c.idles start (events ++ event ∷ []) event
      ≡ policy_told c.idles (λ line. policies_through c.idles start events) event.line event.act
  told_next =
      same_told c.idles (policies_before c.idles start (events ++ event ∷ []))
      (λ line. policies_through c.idles start events) event.line event.act
      (λ pid. ap (λ f. f pid) (before_more c.idles start events event event.line (omega arith)
      ∙ before_all c.idles start events event.line
      (All-weaker (λ (x : Entry). x.line ≤ edge) (λ (x : Entry). x.line < event.line) (λ x le. omega arith) events
      low)))

  -- the events with one more, each with what is said on its line
  pub joined_more : joined_events c (events ++ event ∷ [])
      ≡ joined_events c events ++ with (events ++ event ∷ []) event ∷ []
  joined_more =
      map-append (with (events ++ event ∷ [])) events (event ∷ [])
      ∙ ap (λ xs. xs ++ with (events ++ event ∷ []) event ∷ [])
      (same_map (with (events ++ event ∷ [])) (with events) (λ x. x.line ≤ edge) earlier events low)
