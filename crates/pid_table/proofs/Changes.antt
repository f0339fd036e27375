-- What a row that is written over, or one more pid with its row, changes of where pids and rows stand. No row moves, so
-- that an index once found stays that of its pid.
use Rattle.std.proofs.Common.{◌≡◌, ◌≢◌, ℕ, zero, suc, ◌+◌, ◌<◌, cond, List, [], ◌∷◌, ◌++◌}
use Rattle.std.proofs.Common.{length, set, get_or, All, Option, Some, None, nat_eq, nat_lt, slice_get, refl}
use Rattle.std.proofs.Common.{sym, ap, ◌∙◌, arith, inl, inr}
use Rattle.std.specs.List.{position_or_len}
use Rattle.std.proofs.lemmas.Bool.{cases_lt, eq-eqb, ne_eqb, lt-ltb}
use Rattle.std.proofs.lemmas.Grind.{common_steps}
use Rattle.std.proofs.lemmas.List.Quantifiers.{position-Some}
use Rattle.std.proofs.lemmas.List.Sums.{position_or_len_is}
use Rattle.pid_table.proofs.Indices.{pid_there, pid_nowhere}
use Rattle.pid_table.specs.Rows.{AreSound, Rows, index_in}

-- a list with one element written over, there and elsewhere
pub set_here : {X : Type 0} (xs : List X) (i : ℕ) (y : X) → i < length xs → slice_get (set xs i y) i ≡ Some y
set_here [] i y h = absurd (omega arith)
set_here (x ∷ xs) zero y h = refl
set_here (x ∷ xs) (suc i) y h = set_here xs i y (omega arith)

pub set_there : {X : Type 0} (xs : List X) (i k : ℕ) (y : X) → k ≢ i → slice_get (set xs i y) k ≡ slice_get xs k
set_there [] i k y ne = refl
set_there (x ∷ xs) zero zero y ne = absurd (ne refl)
set_there (x ∷ xs) zero (suc k) y ne = refl
set_there (x ∷ xs) (suc i) zero y ne = refl
set_there (x ∷ xs) (suc i) (suc k) y ne = set_there xs i k y (λ e. ne (ap suc e))

-- a list with one element more, there and before
pub push_here : {X : Type 0} (xs : List X) (y : X) → slice_get (xs ++ y ∷ []) (length xs) ≡ Some y
push_here [] y = refl
push_here (x ∷ xs) y = push_here xs y

pub push_before : {X : Type 0} (xs : List X) (y : X) (k : ℕ) → k < length xs
    → slice_get (xs ++ y ∷ []) k ≡ slice_get xs k
push_before [] y k h = absurd (omega arith)
push_before (x ∷ xs) y zero h = refl
push_before (x ∷ xs) y (suc k) h = push_before xs y k (omega arith)

long : {X : Type 0} (xs : List X) (y : X) → length (xs ++ y ∷ []) ≡ length xs + 1
long [] y = refl
long (x ∷ xs) y = (let e : length (xs ++ y ∷ []) ≡ length xs + 1 = long xs y in omega (arith, e))

-- an index within is that of a pid
index_within : (pids : List ℕ) (pid n : ℕ) → position_or_len (nat_eq pid) pids ≡ n → n < length pids
    → index_in pids pid ≡ Some n
index_within pids pid n is within =
    ap (λ m. cond (nat_lt m (length pids)) (Some m) None) is
    ∙ ap (λ b. cond b (Some n) None) (lt-ltb n (length pids) within)

-- an index within the pids stays when one more is named
pub index_kept : (pids : List ℕ) (pid other n : ℕ) → index_in pids other ≡ Some n
    → index_in (pids ++ pid ∷ []) other ≡ Some n
index_kept pids pid other n is =
    let at = position-Some (nat_eq other) pids n 0 is in
    let all : length (pids ++ pid ∷ []) ≡ length pids + 1 = long pids pid in
    let first : position_or_len (nat_eq other) (pids ++ pid ∷ []) ≡ n =
    position_or_len_is (nat_eq other) (pids ++ pid ∷ []) n 0 (omega (arith, all, at.0))
    (λ k h. ap (nat_eq other) (earlier k (omega (arith, h, at.0))) ∙ at.2 k h)
    (λ h. ap (nat_eq other) (earlier n at.0) ∙ at.1) in
    index_within (pids ++ pid ∷ []) other n first (omega (arith, all, at.0))
  where
    earlier : (k : ℕ) → k < length pids → get_or (pids ++ pid ∷ []) k 0 ≡ get_or pids k 0
    earlier k h = grind (arith, common_steps)

-- a pid that is new stands behind the last
pub index_new : (pids : List ℕ) (pid : ℕ) → index_in pids pid ≡ None
    → index_in (pids ++ pid ∷ []) pid ≡ Some (length pids)
index_new pids pid none =
    let all : length (pids ++ pid ∷ []) ≡ length pids + 1 = long pids pid in
    let first : position_or_len (nat_eq pid) (pids ++ pid ∷ []) ≡ length pids =
    position_or_len_is (nat_eq pid) (pids ++ pid ∷ []) (length pids) 0 (omega (arith, all))
    (λ k h. ap (nat_eq pid) (earlier k h)
    ∙ ne_eqb pid (get_or pids k 0) (λ e. pid_nowhere pids pid none k 0 h (sym e)))
    (λ h. eq-eqb pid (get_or (pids ++ pid ∷ []) (length pids) 0) (sym last)) in
    index_within (pids ++ pid ∷ []) pid (length pids) first (omega (arith, all))
  where
    earlier : (k : ℕ) → k < length pids → get_or (pids ++ pid ∷ []) k 0 ≡ get_or pids k 0
    earlier k h = grind (arith, common_steps)

    last : get_or (pids ++ pid ∷ []) (length pids) 0 ≡ pid
    last = grind (arith, common_steps)

-- another than the new one stands where it did, or still nowhere
pub index_other : (pids : List ℕ) (pid other : ℕ) → other ≢ pid
    → index_in (pids ++ pid ∷ []) other ≡ index_in pids other
index_other pids pid other ne = go (index_in pids other) refl
  where
    go : (o : Option ℕ) → index_in pids other ≡ o → index_in (pids ++ pid ∷ []) other ≡ index_in pids other
    go (Some n) is = index_kept pids pid other n is ∙ sym is
    go None none = again (index_in (pids ++ pid ∷ []) other) refl ∙ sym none
      where
        nowhere : All (λ x. x ≢ other) pids
        nowhere = pid_nowhere pids other none

        again : (o : Option ℕ) → index_in (pids ++ pid ∷ []) other ≡ o → index_in (pids ++ pid ∷ []) other ≡ None
        again None is = is
        again (Some n) is =
            let at = position-Some (nat_eq other) (pids ++ pid ∷ []) n 0 is in
            let all : length (pids ++ pid ∷ []) ≡ length pids + 1 = long pids pid in
            let there : get_or (pids ++ pid ∷ []) n 0 ≡ other = pid_there (pids ++ pid ∷ []) other n 0 is in
            elim (cases_lt n (length pids)) [
              | inl before ↦
                  let e : get_or (pids ++ pid ∷ []) n 0 ≡ get_or pids n 0 = grind (arith, common_steps, before) in
                  absurd (nowhere n 0 before (sym e ∙ there))
              | inr behind ↦
                  let end : n ≡ length pids = omega (arith, all, behind, at.0) in
                  let e : get_or (pids ++ pid ∷ []) (length pids) 0 ≡ pid = grind (arith, common_steps) in
                  absurd (ne (sym there ∙ ap (λ k. get_or (pids ++ pid ∷ []) k 0) end ∙ e))
            ]

-- a pid that stands nowhere has no index
pub no_index : (pids : List ℕ) (pid : ℕ) → All (λ other. other ≢ pid) pids → index_in pids pid ≡ None
no_index pids pid none = go (index_in pids pid) refl
  where
    go : (o : Option ℕ) → index_in pids pid ≡ o → index_in pids pid ≡ None
    go None is = is
    go (Some n) is =
        let at = position-Some (nat_eq pid) pids n 0 is in
        absurd (none n 0 at.0 (pid_there pids pid n 0 is))

-- the index of a pid is within the rows
pub row_within : {V : Type 0} (table : Rows V) → AreSound table → (pid row : ℕ) → index_in table.pids pid ≡ Some row
    → row < length table.rows
row_within table sound pid row is =
    let at = position-Some (nat_eq pid) table.pids row 0 is in
    let n : length table.rows ≡ length table.pids = sound.one_each in
    omega (arith, n, at.0)
