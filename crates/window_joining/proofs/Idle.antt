-- The pids of the idle policy as a set; and the first idle line that an event isn't the birth of.
use Rattle.std.proofs.Common.{◌≡◌, ℕ, ◌+◌, ◌<◌, ◌≤◌, ◌&&◌, ◌||◌, Bool, true, false, cond, eqb, List, length, get_or}
use Rattle.std.proofs.Common.{take, Some}
use Rattle.std.proofs.Common.{None, inl, inr, refl, sym, ap, ◌∙◌, arith}
use Rattle.std.specs.List.{AllPairs}
use Rattle.std.specs.Ordering.{nat_cmp, is_eq}
use Rattle.std.proofs.lemmas.Bool.{cases_order, eq-eqb, ne_eqb, true≢false}
use Rattle.std.proofs.lemmas.Bool.Decides.{nat_tests}
use Rattle.std.proofs.lemmas.List.{get_or_default}
use Rattle.std.proofs.lemmas.List.Folds.{list_any_more}
use Rattle.cfs_model.proofs.Moves.{put-other, put-same, same_or_not}
use Rattle.cfs_model.specs.Claimed.{is_named_idle, policy_by}
use Rattle.cfs_model.specs.Machine.{put}
use Rattle.cfs_model.specs.declared.act.Entry.{Entry}
use Rattle.cfs_model.specs.declared.idle_line.IdleLine.{IdleLine}
use Rattle.companion_file.specs.Order.{IdleRises}
use Rattle.sched_record.specs.Join.{IsLeastOf}
use Rattle.window_joining.specs.News.{IsIdleBeside, is_named_by}

same_key : (k q : ℕ) → is_eq (nat_cmp k q) ≡ eqb k q
same_key k q = grind (arith, nat_tests)

or_by : (a b : Bool) → cond a true b ≡ (b || a)
or_by true true = refl
or_by true false = refl
or_by false true = refl
or_by false false = refl

or_none : (b : Bool) → b ≡ (b || false)
or_none true = refl
or_none false = refl

-- a set with the pid of one more idle line, where it is of this line, and without
pub named_more : (idles : List IdleLine) (i line : ℕ) (x : IdleLine) (before after : ℕ → Bool) → i < length idles
    → x ≡ get_or idles i x → x.line ≡ line
    → ((q : ℕ) → before q ≡ is_named_idle (take i idles) line q)
    → ((q : ℕ) → after q ≡ cond (is_eq (nat_cmp x.pid q)) true (before q))
    → (q : ℕ) → after q ≡ is_named_idle (take (i + 1) idles) line q
named_more idles i line x before after lt is on h k q =
    k q ∙ ap (λ b. cond b true (before q)) (same_key x.pid q) ∙ or_by (eqb x.pid q) (before q)
    ∙ ap (λ b. b || eqb x.pid q) (h q)
    ∙ ap (λ b. is_named_idle (take i idles) line q || (b && eqb x.pid q)) (sym here)
    ∙ ap (λ (y : IdleLine). is_named_idle (take i idles) line q || (eqb y.line line && eqb y.pid q)) is
    ∙ sym (list_any_more (λ (y : IdleLine). eqb y.line line && eqb y.pid q) idles i x lt)
  where
    here : eqb x.line line ≡ true
    here = eq-eqb x.line line on

pub named_no_more : (idles : List IdleLine) (i line : ℕ) (x : IdleLine) (before : ℕ → Bool) → i < length idles
    → x ≡ get_or idles i x → (x.line ≡ line → ⊥) → ((q : ℕ) → before q ≡ is_named_idle (take i idles) line q)
    → (q : ℕ) → before q ≡ is_named_idle (take (i + 1) idles) line q
named_no_more idles i line x before lt is off h q =
    h q ∙ or_none (is_named_idle (take i idles) line q)
    ∙ ap (λ b. is_named_idle (take i idles) line q || (b && eqb x.pid q))
    (sym (ne_eqb x.line line off))
    ∙ ap (λ (y : IdleLine). is_named_idle (take i idles) line q || (eqb y.line line && eqb y.pid q)) is
    ∙ sym (list_any_more (λ (y : IdleLine). eqb y.line line && eqb y.pid q) idles i x lt)

-- a pid that is taken in or out has that policy
pub put_policy : (before after : ℕ → Bool) (key : ℕ) (b : Bool)
    → ((q : ℕ) → after q ≡ cond (is_eq (nat_cmp key q)) b (before q)) → (q : ℕ)
    → policy_by (after q) ≡ put (λ p. policy_by (before p)) key (policy_by b) q
put_policy before after key b h q =
    ap policy_by (h q ∙ ap (λ t. cond t b (before q)) (same_key key q)) ∙ elim (same_or_not q key) [
      | inl same ↦ ap (λ t. policy_by (cond t b (before q))) (eq-eqb key q (sym same))
          ∙ sym (put-same (λ p. policy_by (before p)) key (policy_by b))
          ∙ ap (put (λ p. policy_by (before p)) key (policy_by b)) (sym same)
      | inr ne ↦ ap (λ t. policy_by (cond t b (before q)))
          (ne_eqb key q (λ e. ne (sym e)))
          ∙ sym (put-other (λ p. policy_by (before p)) key (policy_by b) q ne)
    ]

-- the first of the idle lines that the event isn't the birth of stands on the least line of them
pub least_beside : (event : Entry) (idles : List IdleLine) (i : ℕ) (idle : IdleLine) → AllPairs IdleRises idles
    → i < length idles → idle ≡ get_or idles i idle → is_named_by event idle ≡ false
    → ((k : ℕ) (d : IdleLine) → k < i → is_named_by event (get_or idles k d) ≡ true)
    → IsLeastOf (IsIdleBeside idles event) (Some idle.line)
least_beside event idles i idle rise h is other before = (
  (i, idle, h, sym is, (refl, other)),
  λ line stands. least line stands.0 stands.1 stands.2 stands.3 stands.4.0 stands.4.1,
)
  where
    least : (line k : ℕ) (item : IdleLine) → k < length idles → get_or idles k item ≡ item → item.line ≡ line
        → is_named_by event item ≡ false → idle.line ≤ line
    least line k item has at on apart =
        elim (cases_order k i) [
          | inl same ↦ (
              let at_i = ap (λ (x : IdleLine). x.line) (sym at ∙ ap (λ n. get_or idles n item) same
              ∙ get_or_default idles i item idle h ∙ sym is) in
              omega (arith, at_i, on))
          | inr (inl first) ↦ absurd (true≢false (sym (before k item first)
              ∙ ap (is_named_by event) at ∙ apart))
          | inr (inr behind) ↦ (
              let up = (rise i k item behind has).lines in
              let a = ap (λ (x : IdleLine). x.line) (get_or_default idles i item idle h ∙ sym is) in
              let b = ap (λ (x : IdleLine). x.line) at in
              omega (arith, up, a, b, on))
        ]

pub none_beside : (event : Entry) (idles : List IdleLine)
    → ((k : ℕ) (d : IdleLine) → k < length idles → is_named_by event (get_or idles k d) ≡ true)
    → IsLeastOf (IsIdleBeside idles event) None
none_beside event idles all line (k, item, h, at, (on, other)) =
    true≢false (sym (all k item h) ∙ ap (is_named_by event) at ∙ other)

-- idle lines stand on lines that rise
pub idles_weak : (idles : List IdleLine) → AllPairs IdleRises idles → AllPairs (λ a b. a.line ≤ b.line) idles
idles_weak idles rise = λ i j d lt h. (rise i j d lt h).lines
