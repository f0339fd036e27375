-- Behind an event of which no more than the claim on its line is new, where nobody is of the idle policy: who is of
-- which policy stays, and so does the least stray line.
use Rattle.std.proofs.Common.{◌≡◌, ℕ, zero, suc, [], Option, Some, None, inl, inr, refl, sym, ap, ◌∙◌, arith}
use Rattle.std.specs.Prelude.{Any, IfSome, MatchOption}
use Rattle.cfs_model.proofs.Moves.{put-other, put-same, same_or_not}
use Rattle.cfs_model.specs.Claimed.{policies_after}
use Rattle.cfs_model.specs.Machine.{put}
use Rattle.cfs_model.specs.declared.act.Act.{Act}
use Rattle.cfs_model.specs.declared.act.Act.TheVariants.{Switch, Wake, Born, Shift}
use Rattle.cfs_model.specs.declared.act.Entry.{Entry}
use Rattle.cfs_model.specs.declared.claim.Claim.{Claim}
use Rattle.cfs_model.specs.declared.policy.Policy.{Policy}
use Rattle.cfs_model.specs.declared.policy.Policy.TheVariants.{Normal}
use Rattle.sched_record.specs.Join.{IsLeastOf}
use Rattle.window_joining.specs.Look.{news_of}
use Rattle.window_joining.specs.News.{IsStrayBeside}

-- one more of the usual policy changes nothing where all are
put_usual : (policies : ℕ → Policy) (key pid : ℕ) → ((q : ℕ) → policies q ≡ Normal)
    → policies pid ≡ put policies key Normal pid
put_usual policies key pid usual = elim (same_or_not pid key) [
  | inl same ↦ usual pid ∙ sym (ap (put policies key Normal) same ∙ put-same policies key Normal)
  | inr ne ↦ sym (put-other policies key Normal pid ne)
]

pub policies_stay : (policies : ℕ → Policy) (event : Entry) → ((q : ℕ) → policies q ≡ Normal) → (pid : ℕ)
    → policies pid ≡ policies_after [] policies event.line event.act pid
policies_stay policies event usual pid = stay event.act
  where
    stay : (act : Act) → policies pid ≡ policies_after [] policies event.line act pid
    stay (Switch cpu prev pn way next nn) = refl
    stay (Wake cpu p nice) = refl
    stay (Born cpu p nice) = put_usual policies p pid usual
    stay (Shift orig dest p nice) = refl

-- nothing new is stray
none_in : {X : Type 0} (P : X → Type 0) → ¬ Any P []
none_in P (k, x, h, at, is) = absurd (omega (arith, h))

none_stray : (event : Entry) (claim : Option Claim) → IfSome claim (λ claim. claim.line ≡ event.line) → (n : ℕ)
    → ¬ IsStrayBeside (news_of claim) event n
none_stray event None on n (inl x) = none_in _ x.1
none_stray event (Some claim) on n (inl (lt, (zero, x, h, at, is))) =
    (let there = ap (λ (c : Claim). c.line) at in absurd (omega (arith, lt, there, is, on)))
none_stray event (Some claim) on n (inl (lt, (suc k, x, h, at, is))) = absurd (omega (arith, h))
none_stray event claim on n (inr (inl x)) = none_in _ x.1
none_stray event claim on n (inr (inr (inl x))) = none_in _ x
none_stray event claim on n (inr (inr (inr x))) = none_in _ x.1

pub stray_stays : (event : Entry) (claim : Option Claim) (stray : Option ℕ)
    → IfSome claim (λ claim. claim.line ≡ event.line)
    → MatchOption stray (IsLeastOf (IsStrayBeside (news_of claim) event) stray) (λ line. stray ≡ Some line)
stray_stays event claim None on = none_stray event claim on
stray_stays event claim (Some line) on = refl
