-- The first late event of a window, by those of its entries.
use Rattle.std.proofs.Common.{◌≡◌, ℕ, ◌+◌, ◌<◌, ◌≤◌, List, [], ◌∷◌, ◌++◌, length, get_or, take, drop, refl, sym, ap}
use Rattle.std.proofs.Common.{◌∙◌, subst, append_assoc, take-append-drop}
use Rattle.std.specs.List.{AllByRecursion}
use Rattle.std.proofs.lemmas.List.{take_more}
use Rattle.cfs_model.specs.Claimed.{Claimed}
use Rattle.cfs_model.specs.declared.act.Entry.{Entry}
use Rattle.least_places.proofs.OnLine.{entries_of}

pub all_push : {A : Type 0} (P : A → Type 0) (xs : List A) (x : A) → AllByRecursion P xs → P x
    → AllByRecursion P (xs ++ x ∷ [])
all_push P [] x all here = (here, tt)
all_push P (y ∷ xs) x all here = (all.0, all_push P xs x all.1 here)

-- an entry at an index, what is before it and what is behind it
pub cut_at : (entries : List Entry) (i : ℕ) (entry : Entry) → i < length entries → entry ≡ get_or entries i entry
    → entries ≡ take i entries ++ entry ∷ drop (i + 1) entries
cut_at entries i entry lt is =
    sym (take-append-drop (i + 1) entries)
    ∙ ap (λ xs. xs ++ drop (i + 1) entries)
    (take_more entries i entry lt ∙ ap (λ x. take i entries ++ x ∷ []) (sym is))
    ∙ append_assoc (take i entries) (entry ∷ []) (drop (i + 1) entries)

-- a window whose entries are so is so itself
pub record HasLate (window : List Claimed) (since bound : ℕ) (entry : Entry) : Type 0 where
  pub front : List Claimed
  pub event : Claimed
  pub rest : List Claimed
  pub whole : window ≡ front ++ event ∷ rest
  pub is : event.entry ≡ entry
  pub in_time : AllByRecursion (λ (x : Claimed). x.entry.time ≤ since + bound) front
  pub late : since + bound < event.entry.time

pub late_in : (window : List Claimed) (front : List Entry) (since bound : ℕ) (entry : Entry) (rest : List Entry)
    → entries_of window ≡ front ++ entry ∷ rest → AllByRecursion (λ (x : Entry). x.time ≤ since + bound) front
    → since + bound < entry.time → HasLate window since bound entry
late_in [] [] since bound entry rest e low late = absurd cc
late_in [] (f ∷ front) since bound entry rest e low late = absurd cc
late_in (w ∷ window) [] since bound entry rest e low late =
    let head : w.entry ≡ entry = cc in
    record {
      front = [];
      event = w;
      rest = window;
      whole = refl;
      is = head;
      in_time = tt;
      late = subst (λ (x : Entry). since + bound < x.time) (sym head) late;
    }
late_in (w ∷ window) (f ∷ front) since bound entry rest e low late =
    let head : w.entry ≡ f = cc in
    let tail : entries_of window ≡ front ++ entry ∷ rest = cc in
    let h = late_in window front since bound entry rest tail low.1 late in
    record {
      front = w ∷ h.front;
      event = h.event;
      rest = h.rest;
      whole = ap (λ xs. w ∷ xs) h.whole;
      is = h.is;
      in_time = (subst (λ (x : Entry). x.time ≤ since + bound) (sym head) low.0, h.in_time);
      late = h.late;
    }

pub low_in : (t : ℕ) (window : List Claimed) → AllByRecursion (λ (x : Entry). x.time ≤ t) (entries_of window)
    → AllByRecursion (λ (x : Claimed). x.entry.time ≤ t) window
low_in t [] low = tt
low_in t (w ∷ window) low = (low.0, low_in t window low.1)
