-- Who lives, by a list with a place for each pid: a place is written over as the roll puts a pid, and places behind the
-- last say nothing new.
use Rattle.std.proofs.Common.{◌≡◌, ℕ, ◌+◌, ◌-◌, ◌<◌, ◌≤◌, Bool, false, List, ◌++◌, length, set, replicate, take, get_or}
use Rattle.std.proofs.Common.{refl, sym, ap, ◌∙◌, inl, inr, arith}
use Rattle.std.proofs.lemmas.Bool.{cases_lt}
use Rattle.std.proofs.lemmas.List.{get_or_append_left, get_or-append-add, get_or-replicate, get_or-set_other}
use Rattle.std.proofs.lemmas.List.{get_or-set_same, get_or_past, length-replicate, take_all}
use Rattle.cfs_model.specs.Machine.{put}
use Rattle.ticket_book.specs.Alive.{lives_in}
use Rattle.ticket_book.proofs.Living.{by_put}

-- a place is what it is
pub lives_at : (lives : List Bool) (pid : ℕ) → lives_in lives pid ≡ get_or lives pid false
unfolding lives_in
lives_at lives pid = refl

-- nobody lives who has no place
pub without_place : (lives : List Bool) (pid : ℕ) → length lives ≤ pid → lives_in lives pid ≡ false
unfolding lives_in
without_place lives pid beyond = get_or_past lives pid false beyond

-- a place is written over
pub place_put : (lives : List Bool) (pid : ℕ) (b : Bool) → pid < length lives → (q : ℕ)
    → lives_in (set lives pid b) q ≡ put (lives_in lives) pid b q
unfolding lives_in
place_put lives pid b within =
    by_put (lives_in lives) (lives_in (set lives pid b)) pid b (get_or-set_same lives pid b false within)
    (λ q ne. get_or-set_other lives pid q b false ne)

-- one without a place that is to end
pub nothing_put : (lives : List Bool) (pid : ℕ) → length lives ≤ pid → (q : ℕ)
    → lives_in lives q ≡ put (lives_in lives) pid false q
nothing_put lives pid beyond =
    by_put (lives_in lives) (lives_in lives) pid false (without_place lives pid beyond) (λ q ne. refl)

places_behind : (lives : List Bool) (n : ℕ) → length lives ≤ n → (q : ℕ)
    → lives_in (take n lives ++ replicate (n - length lives) false) q ≡ lives_in lives q
unfolding lives_in
places_behind lives n le q =
    let more : List Bool = replicate (n - length lives) false in
    ap (λ (l : List Bool). get_or (l ++ more) q false) (take_all n lives le) ∙ elim (cases_lt q (length lives)) [
      | inl before ↦ get_or_append_left lives more false q before
      | inr behind ↦
          let at : length lives + (q - length lives) ≡ q = omega (arith, behind) in
          ap (λ k. get_or (lives ++ more) k false) (sym at)
          ∙ get_or-append-add lives more (q - length lives) false
          ∙ further (q - length lives)
          ∙ sym (get_or_past lives q false (omega (arith, behind)))
    ]
  where
    further : (k : ℕ) → get_or (replicate (n - length lives) false) k false ≡ false
    further k = elim (cases_lt k (n - length lives)) [
      | inl within ↦ get_or-replicate (n - length lives) k false false within
      | inr beyond ↦ get_or_past (replicate (n - length lives) false) k false
          (omega (arith, beyond, length-replicate (n - length lives) false))
    ]

-- places for further pids
pub places_more : (lives : List Bool) (n len : ℕ) → len ≡ length lives → length lives ≤ n → (q : ℕ)
    → lives_in (take n lives ++ replicate (n - len) false) q ≡ lives_in lives q
places_more lives n len e le q =
    ap (λ l. lives_in (take n lives ++ replicate (n - l) false) q) e ∙ places_behind lives n le q
