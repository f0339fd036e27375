-- Tallies that are added to the sums of their tasks, one after the other.
use Rattle.std.proofs.Common.{◌≡◌, ◌≢◌, ℕ, ◌+◌, ◌<◌, ◌==◌, if◌then◌else◌, eqb, List, [], ◌∷◌, ◌++◌, length, map, set}
use Rattle.std.proofs.Common.{take, drop, get_or, All, refl, sym, ap, ◌∙◌, subst, arith}
use Rattle.std.specs.List.{sum_by}
use Rattle.std.proofs.lemmas.Bool.{cond-false, ne_eqb}
use Rattle.std.proofs.lemmas.List.{take_more, take-append-drop}
use Rattle.std.proofs.lemmas.List.Elements.{All-map, All-weaker}
use Rattle.std.proofs.lemmas.List.Sums.{sum_by-append}
use Rattle.replay_model.specs.declared.page.Tally.{Tally}
use Rattle.pid_table.specs.Rows.{Rows, with_row}
use Rattle.queue_replay.specs.Indices.{AreApart, AreOwn}
use Rattle.queue_replay.proofs.IndexedBy.{changed_there, keys_kept, set_none}
use Rattle.ticket_book.specs.Tallying.{FitsTally, with_tallies}

abbrev pub pid_of : Tally → ℕ
pid_of tally = tally.pid

-- an amount of a tally, where the tally is of this pid
abbrev pub amount_for : (Tally → ℕ) → ℕ → Tally → ℕ
amount_for amount pid tally = if tally.pid == pid then amount tally else 0

-- two tallies of a task are the same where their amounts are
pub same_tally : (a b : Tally) → a.pid ≡ b.pid → a.ran ≡ b.ran → a.charged ≡ b.charged → a.picks ≡ b.picks → a ≡ b
same_tally a b pid ran charged picks = λ i. record { pid = pid i; ran = ran i; charged = charged i; picks = picks i }

-- a tally says nothing of another task
others_stay : (tally sum : Tally) → sum.pid ≢ tally.pid → with_tallies (tally ∷ []) sum ≡ sum
others_stay tally sum ne =
    same_tally (with_tallies (tally ∷ []) sum) sum refl (same (λ t. t.ran)) (same (λ t. t.charged))
    (same (λ t. t.picks))
  where
    same : (amount : Tally → ℕ) → amount sum + sum_by (amount_for amount sum.pid) (tally ∷ []) ≡ amount sum
    same amount =
        let e : amount_for amount sum.pid tally ≡ 0 =
        cond-false (eqb tally.pid sum.pid) (amount tally) 0 (ne_eqb tally.pid sum.pid (λ e. ne (sym e))) in
        omega (arith, e)

-- no tallies add nothing
none_added : (sum : Tally) → with_tallies [] sum ≡ sum
none_added sum = same_tally (with_tallies [] sum) sum refl (omega arith) (omega arith) (omega arith)

-- some tallies, and then others
both_added : (xs ys : List Tally) (sum : Tally) → with_tallies ys (with_tallies xs sum) ≡ with_tallies (xs ++ ys) sum
both_added xs ys sum =
    same_tally (with_tallies ys (with_tallies xs sum)) (with_tallies (xs ++ ys) sum) refl
    (same (λ t. t.ran)) (same (λ t. t.charged)) (same (λ t. t.picks))
  where
    same : (amount : Tally → ℕ) → (amount sum + sum_by (amount_for amount sum.pid) xs) + sum_by
        (amount_for amount sum.pid) ys
        ≡ amount sum + sum_by (amount_for amount sum.pid) (xs ++ ys)
    same amount = let e = sum_by-append (amount_for amount sum.pid) xs ys in omega (arith, e)

-- where the sum with all of them fits, so does that with the first
part_fits : (xs ys : List Tally) (sum : Tally) → FitsTally (with_tallies (xs ++ ys) sum)
    → FitsTally (with_tallies xs sum)
part_fits xs ys sum fits = record {
  ran = (let f = fits.ran in let e = sum_by-append (amount_for (λ t. t.ran) sum.pid) xs ys in omega (arith, e, f));
  charged = (let f = fits.charged in let e = sum_by-append (amount_for (λ t. t.charged) sum.pid) xs ys in
      omega (arith, e, f));
  picks = (let f = fits.picks in let e = sum_by-append (amount_for (λ t. t.picks) sum.pid) xs ys in
      omega (arith, e, f));
}

-- the same of a list of sums
maps_add : (xs ys : List Tally) (sums : List Tally)
    → map (with_tallies ys) (map (with_tallies xs) sums) ≡ map (with_tallies (xs ++ ys)) sums
maps_add xs ys [] = refl
maps_add xs ys (sum ∷ sums) =
    ap (λ t. t ∷ map (with_tallies ys) (map (with_tallies xs) sums)) (both_added xs ys sum)
    ∙ ap (λ ts. with_tallies (xs ++ ys) sum ∷ ts) (maps_add xs ys sums)

pub add_none : (sums : List Tally) → map (with_tallies []) sums ≡ sums
add_none [] = refl
add_none (sum ∷ sums) =
    ap (λ t. t ∷ map (with_tallies []) sums) (none_added sum) ∙ ap (λ ts. sum ∷ ts) (add_none sums)

-- some more tallies are added to sums that some were added to
pub add_more : (xs ys old sums now : List Tally) → sums ≡ map (with_tallies xs) old → now ≡ map (with_tallies ys) sums
    → now ≡ map (with_tallies (xs ++ ys)) old
add_more xs ys old sums now before is = is ∙ ap (map (with_tallies ys)) before ∙ maps_add xs ys old

-- where the sums with all tallies fit, so do those with some more of them than were added
pub more_fit : (xs ys zs old sums : List Tally) → sums ≡ map (with_tallies xs) old
    → All (λ sum. FitsTally (with_tallies ((xs ++ ys) ++ zs) sum)) old
    → All (λ sum. FitsTally (with_tallies ys sum)) sums
more_fit xs ys zs old sums before fits =
    subst (All (λ sum. FitsTally (with_tallies ys sum))) (sym before)
    (All-map (λ sum. FitsTally (with_tallies ys sum)) (with_tallies xs) old
    (All-weaker (λ sum. FitsTally (with_tallies ((xs ++ ys) ++ zs) sum))
    (λ sum. FitsTally (with_tallies ys (with_tallies xs sum)))
    (λ sum all. subst FitsTally (sym (both_added xs ys sum)) (part_fits (xs ++ ys) zs sum all)) old fits))

-- along a list of tallies
module _ (tallies old sums : List Tally) (i : ℕ) (d : Tally) (within : i < length tallies)
    (before : sums ≡ map (with_tallies (take i tallies)) old) where
  pub one_fits : All (λ sum. FitsTally (with_tallies tallies sum)) old
      → All (λ sum. FitsTally (with_tallies (get_or tallies i d ∷ []) sum)) sums
  one_fits fits =
      let whole : (take i tallies ++ get_or tallies i d ∷ []) ++ drop (i + 1) tallies ≡ tallies =
      ap (λ l. l ++ drop (i + 1) tallies) (sym (take_more tallies i d within)) ∙ take-append-drop (i + 1) tallies in
      more_fit (take i tallies) (get_or tallies i d ∷ []) (drop (i + 1) tallies) old sums before
      (subst (λ l. All (λ sum. FitsTally (with_tallies l sum)) old) (sym whole) fits)

  pub one_added : (now : List Tally) → now ≡ map (with_tallies (get_or tallies i d ∷ [])) sums
      → now ≡ map (with_tallies (take (i + 1) tallies)) old
  one_added now is =
      add_more (take i tallies) (get_or tallies i d ∷ []) old sums now before is
      ∙ ap (λ l. map (with_tallies l) old) (sym (take_more tallies i d within))

-- a tally is added to the sum of its task, where that is, and where there is none
module _ (table : Rows Tally) (own : AreOwn table) (apart : AreApart table.rows) (tally : Tally) where
  pub added_there : (index : ℕ) (d x : Tally) → index < length table.rows
      → (get_or table.rows index d).pid ≡ tally.pid → x ≡ with_tallies (tally ∷ []) (get_or table.rows index d)
      → set table.rows index x ≡ map (with_tallies (tally ∷ [])) table.rows
  added_there index d x h here is =
      ap (set table.rows index) is
      ∙ sym (changed_there pid_of (with_tallies (tally ∷ [])) tally.pid
      (others_stay tally) table.rows apart index d h here)

  pub added_own : (index : ℕ) (d x : Tally) → index < length table.rows
      → (get_or table.rows index d).pid ≡ tally.pid → x ≡ with_tallies (tally ∷ []) (get_or table.rows index d)
      → AreOwn (with_row table index x)
  unfolding AreOwn
  added_own index d x h here is =
      ap (map pid_of) (added_there index d x h here is)
      ∙ keys_kept pid_of (with_tallies (tally ∷ [])) (λ sum. refl) table.rows ∙ own

pub added_nowhere : (sums : List Tally) (tally : Tally) → All (λ sum. sum.pid ≢ tally.pid) sums
    → sums ≡ map (with_tallies (tally ∷ [])) sums
added_nowhere sums tally none = sym (set_none (λ sum. sum.pid ≢ tally.pid) (with_tallies (tally ∷ [])) sums
    (others_stay tally) none)
