-- Where the row of a pid is: at one index at most.
use Rattle.std.proofs.Common.{◌≡◌, ◌≢◌, ◌==◌, ◌+◌, ℕ, ◌<◌, subst, false, List, [], ◌∷◌, ◌++◌, length, nat_eq, get_or}
use Rattle.std.proofs.Common.{All, None}
use Rattle.std.proofs.Common.{Option, Some, cond, refl, sym, ap, ◌∙◌, arith, inl, inr, true≢false}
use Rattle.std.specs.Cmp.{nat_eq_equiv}
use Rattle.std.specs.List.{IsDistinct, position_or_len}
use Rattle.std.proofs.lemmas.Bool.{cases_lt, eqb-true, eq-eqb, lt-ltb}
use Rattle.std.proofs.lemmas.Bool.Decides.{Decides-eqb, eqb_tells}
use Rattle.std.proofs.lemmas.List.Quantifiers.{position-Some}
use Rattle.std.proofs.lemmas.List.Sums.{fails_before_first}
use Rattle.std.proofs.lemmas.Option.{none-some}
use Rattle.std.proofs.lemmas.Map.Made.{AllPairs-from_IsDistinct, IsDistinct-from_AllPairs}
use Rattle.std.proofs.lemmas.List.{length_push}
use Rattle.std.proofs.lemmas.List.Elements.{All-push}
use Rattle.std.proofs.lemmas.List.Folds.{list_any_none}
use Rattle.std.proofs.lemmas.Map.Keys.{IsDistinct-push}
use Rattle.pid_table.specs.Marks.{AreMarked}
use Rattle.pid_table.specs.Rows.{index_in}
use Rattle.pid_table.specs.Places.{AreLevels, IsTable, place_of}
use Rattle.pid_table.specs.declared.pid_marks.PidMarks.{PidMarks}
use Rattle.pid_table.specs.declared.pid_places.PidPlaces.{PidPlaces}

-- the pid stands at its index
pub pid_there : (pids : List ℕ) (pid index : ℕ) (d : ℕ) → index_in pids pid ≡ Some index → get_or pids index d ≡ pid
pid_there pids pid index d is =
    sym (eqb-true pid (get_or pids index d) (position-Some (nat_eq pid) pids index d is).1)

-- one that has no index stands nowhere
pub pid_nowhere : (pids : List ℕ) (pid : ℕ) → index_in pids pid ≡ None → All (λ other. other ≢ pid) pids
pid_nowhere pids pid none = λ i d h same.
    true≢false (sym (eq-eqb pid (get_or pids i d) (sym same))
    ∙ fails_before_first (nat_eq pid) pids i d (behind i h))
  where
    behind : (i : ℕ) → i < length pids → i < position_or_len (nat_eq pid) pids
    behind i h =
        let n : ℕ = position_or_len (nat_eq pid) pids in
        elim (cases_lt n (length pids)) [
          | inl within ↦
              absurd (none-some n (sym none ∙ ap (λ b. cond b (Some n) None) (lt-ltb n (length pids) within)))
          | inr past ↦ omega (arith, h, past)
        ]

-- no pid stands at two indices
pub only_there : (pids : List ℕ) → IsDistinct nat_eq pids → (i k d : ℕ) → i < length pids → k < length pids
    → get_or pids i d ≡ get_or pids k d → i ≡ k
only_there pids apart i k d h w same =
    let differ = AllPairs-from_IsDistinct Decides-eqb pids apart in
    elim (cases_lt i k) [
      | inl before ↦ absurd (differ i k d before w same)
      | inr after ↦ elim (cases_lt k i) [
        | inl before ↦ absurd (differ k i d before h (sym same))
        | inr here ↦ omega (arith, after, here)
      ]
    ]

-- a pid that stands at an index has its row there
pub index_there : (pids : List ℕ) → IsDistinct nat_eq pids → (pid index d : ℕ) → index < length pids
    → get_or pids index d ≡ pid → index_in pids pid ≡ Some index
index_there pids apart pid index d within here = go (index_in pids pid) refl
  where
    go : (found : Option ℕ) → index_in pids pid ≡ found → found ≡ Some index
    go None none = absurd (pid_nowhere pids pid none index d within here)
    go (Some k) is =
        let there = position-Some (nat_eq pid) pids k d is in
        ap Some (only_there pids apart k index d there.0 within
        (sym (eqb-true pid (get_or pids k d) there.1) ∙ sym here))

-- a pid that has no place stands nowhere in a list of those that have one
pub unplaced_nowhere : (places : PidPlaces) (pids : List ℕ) (pid : ℕ) → All (λ other. 0 < place_of places other) pids
    → place_of places pid ≡ 0 → index_in pids pid ≡ None
unplaced_nowhere places pids pid placed none = go (index_in pids pid) refl
  where
    go : (found : Option ℕ) → index_in pids pid ≡ found → found ≡ None
    go None nowhere = refl
    go (Some i) is =
        let there = position-Some (nat_eq pid) pids i 0 is in
        let some = placed i 0 there.0 in
        let same = ap (place_of places) (eqb-true pid (get_or pids i 0) there.1) in
        absurd (omega (arith, some, same, none))

differ : (pid other : ℕ) → pid ≢ other → (pid == other) ≡ false
differ pid other apart =
    elim (eqb_tells pid other) [
      | inl same ↦ absurd (apart same.1)
      | inr differs ↦ differs.0
    ]

module _ {V : Type 0} where
  -- a table without pids
  pub no_pid : (pids : List ℕ) (rows : List V) (marks : PidMarks) (places : PidPlaces) → pids ≡ [] → rows ≡ []
      → AreLevels places → IsTable pids rows marks places
  no_pid pids rows marks places no_pids no_rows levels =
      subst (λ pids. IsTable pids rows marks places) (sym no_pids)
      (subst (λ rows. IsTable [] rows marks places) (sym no_rows)
      (record {
        one_each = refl;
        apart = IsDistinct-from_AllPairs Decides-eqb [] (λ i k d h w. absurd (omega (arith, h, w)));
        levels = levels;
        marked = λ i d h. absurd (omega (arith, h));
        placed = λ i d h. absurd (omega (arith, h));
      }))

  -- one pid more, with its row and its place
  pub one_more : (pids : List ℕ) (rows : List V) (before after : PidMarks) (old new : PidPlaces) (pid : ℕ) (row : V)
      → IsTable pids rows before old → index_in pids pid ≡ None
      → AreMarked after (pids ++ pid ∷ []) → AreLevels new → 0 < place_of new pid
      → ((other : ℕ) → 0 < place_of old other → 0 < place_of new other)
      → IsTable (pids ++ pid ∷ []) (rows ++ row ∷ []) after new
  one_more pids rows before after old new pid row table none marked levels here kept = record {
    one_each = length_push rows row ∙ ap (λ n. n + 1) table.one_each ∙ sym (length_push pids pid);
    apart = IsDistinct-push nat_eq_equiv pids pid table.apart
        (list_any_none (nat_eq pid) pids
        (λ i d h. differ pid (get_or pids i d) (λ same. pid_nowhere pids pid none i d h (sym same))));
    levels = levels;
    marked = marked;
    placed = All-push (λ other. 0 < place_of new other) pids pid
        (λ i d h. kept (get_or pids i d) (table.placed i d h)) here;
  }
