-- A list whose elements stand by pids, one for each: what is changed for one pid is changed at one index.
use Rattle.std.proofs.Common.{◌≡◌, ◌≢◌, ℕ, zero, suc, ◌<◌, List, [], ◌∷◌, length, map, set, get_or, All, nat_eq, refl}
use Rattle.std.proofs.Common.{sym, ap, ◌∙◌, subst, arith}
use Rattle.std.specs.List.{IsDistinct}
use Rattle.std.proofs.lemmas.List.{get_or-map, length-map}
use Rattle.std.proofs.lemmas.List.Elements.{All-head, All-tail}
use Rattle.pid_table.proofs.Indices.{only_there}

-- what leaves all others as they are changes the element at one index
pub set_one : {X : Type 0} (f : X → X) (xs : List X) (i : ℕ) (d : X) → i < length xs
    → ((k : ℕ) → k < length xs → k ≢ i → f (get_or xs k d) ≡ get_or xs k d) → map f xs ≡ set xs i (f (get_or xs i d))
set_one f [] i d h others = absurd (omega arith)
set_one f (x ∷ xs) zero d h others = ap (λ l. f x ∷ l)
    (same xs (λ k w. others (suc k) (omega arith) (λ e. absurd (omega arith))))
  where
    same : (l : List _) → ((k : ℕ) → k < length l → f (get_or l k d) ≡ get_or l k d) → map f l ≡ l
    same [] e = refl
    same (y ∷ l) e = ap (λ z. z ∷ map f l) (e zero (omega arith))
        ∙ ap (λ m. y ∷ m) (same l (λ k w. e (suc k) (omega arith)))
set_one f (x ∷ xs) (suc i) d h others =
    ap (λ y. y ∷ map f xs) (others zero (omega arith) (λ e. absurd (omega arith)))
    ∙ ap (λ l. x ∷ l) (set_one f xs i d (omega arith) (λ k w ne. others (suc k) (omega arith) (λ e. ne (omega arith))))

-- what leaves each as it is changes nothing
pub set_none : {X : Type 0} (P : X → Type 0) (f : X → X) (xs : List X) → ((x : X) → P x → f x ≡ x) → All P xs
    → map f xs ≡ xs
set_none P f [] same each = refl
set_none P f (x ∷ xs) same each =
    ap (λ y. y ∷ map f xs) (same x (All-head P x xs each))
    ∙ ap (λ l. x ∷ l) (set_none P f xs same (All-tail P x xs each))

module _ {X : Type 0} (key : X → ℕ) where
  -- an element by its pid
  pub key_at : (xs : List X) (i : ℕ) (d : X) → i < length xs → get_or (map key xs) i (key d) ≡ key (get_or xs i d)
  key_at xs i d h = get_or-map key xs i d (key d) h

  -- a change for one pid, at its index
  pub changed_there : (f : X → X) (pid : ℕ) → ((t : X) → key t ≢ pid → f t ≡ t) → (xs : List X)
      → IsDistinct nat_eq (map key xs) → (i : ℕ) (d : X) → i < length xs → key (get_or xs i d) ≡ pid
      → map f xs ≡ set xs i (f (get_or xs i d))
  changed_there f pid others xs apart i d h here =
      set_one f xs i d h (λ k w ne. others (get_or xs k d) (λ there.
      let n : length (map key xs) ≡ length xs = length-map xs key in
      ne (only_there (map key xs) apart k i (key d) (subst (λ m. k < m) (sym n) w) (subst (λ m. i < m) (sym n) h)
      (key_at xs k d w ∙ there ∙ sym here ∙ sym (key_at xs i d h)))))

  -- a change that keeps each element's pid keeps all
  pub keys_kept : (f : X → X) → ((t : X) → key (f t) ≡ key t) → (xs : List X) → map key (map f xs) ≡ map key xs
  keys_kept f keeps [] = refl
  keys_kept f keeps (x ∷ xs) = ap (λ k. k ∷ map key (map f xs)) (keeps x) ∙ ap (λ l. key x ∷ l) (keys_kept f keeps xs)

  -- a pid that isn't among the elements' is none of theirs
  pub none_by : (pid : ℕ) (xs : List X) → All (λ other. other ≢ pid) (map key xs) → All (λ x. key x ≢ pid) xs
  none_by pid xs none = λ i d h same.
      none i (key d) (subst (λ m. i < m) (sym (length-map xs key)) h) (key_at xs i d h ∙ same)
