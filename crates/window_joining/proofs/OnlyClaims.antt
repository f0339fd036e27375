-- Where no more than claims is new, the first claim that is above is the least of what is.
use Rattle.std.proofs.Common.{◌≡◌, ℕ, List, [], length, Option, Some, None, inl, inr, ap, arith}
use Rattle.std.specs.Prelude.{Any}
use Rattle.cfs_model.specs.declared.act.Entry.{Entry}
use Rattle.sched_record.specs.Join.{IsLeastOf}
use Rattle.window_joining.specs.News.{IsClaimAbove, IsStrayBeside, ListsView}

none_in : {X : Type 0} (P : X → Type 0) (xs : List X) → xs ≡ [] → ¬ Any P xs
none_in P xs e (k, x, h, at, is) = (let n = ap length e in absurd (omega (arith, h, n)))

module _ (news : ListsView) (event : Entry) (nices : news.nices ≡ []) (charges : news.charges ≡ [])
    (idles : news.idles ≡ []) where
  claim_above : (n : ℕ) → IsStrayBeside news event n → IsClaimAbove news.claims event n
  claim_above n (inl x) = x
  claim_above n (inr (inl x)) = absurd (none_in _ news.nices nices x.1)
  claim_above n (inr (inr (inl x))) = absurd (none_in _ news.idles idles x)
  claim_above n (inr (inr (inr x))) = absurd (none_in _ news.charges charges x.1)

  pub only_claims : (first : Option ℕ) → IsLeastOf (IsClaimAbove news.claims event) first
      → IsLeastOf (IsStrayBeside news event) first
  only_claims None none = λ n said. none n (claim_above n said)
  only_claims (Some line) least = (inl least.0, λ n said. least.1 n (claim_above n said))
