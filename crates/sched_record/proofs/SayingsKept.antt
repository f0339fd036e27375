-- What is said on lines stays as more is kept whole.
use Rattle.std.proofs.Common.{◌≡◌, ◌≤◌, List, [], ◌∷◌, ◌++◌, length, map, refl, ap, ◌∙◌, All, Result, Ok, Err}
use Rattle.std.proofs.Common.{is_err, arith, false, true≢false}
use Rattle.std.specs.Result.{OnErr, OnOk}
use Rattle.std.proofs.lemmas.List.{get_or_append_left, length_push, map-append}
use Rattle.std.proofs.lemmas.List.Elements.{All-head, All-tail, All-weaker}
use Rattle.std.proofs.Math.Seq.{get_or-append_seam}
use Rattle.sched_record.specs.Sayings.{nothing_said, saying_of, whole_for}
use Rattle.sched_record.specs.declared.sayings.Said.{Said}
use Rattle.sched_record.specs.declared.sayings.Said.TheVariants.{Nothing, OneClaim, More}
use Rattle.sched_record.specs.declared.window.Saying.{Saying}

pub on_err : {T E P : Type 0} (r : Result T E) → P → OnErr r P
on_err (Ok x) p = tt
on_err (Err e) p = p

pub from_ok : {T E P : Type 0} (r : Result T E) → is_err r ≡ false → OnOk r P → P
from_ok (Ok x) h p = p
from_ok (Err e) h p = absurd (true≢false h)

same_saying : (more : List Saying) (new : Saying) (said : Said) → whole_for said ≤ length more
    → saying_of (more ++ new ∷ []) said ≡ saying_of more said
same_saying more new (Nothing other) h = refl
same_saying more new (OneClaim claim) h = refl
same_saying more new (More place) h = get_or_append_left more (new ∷ []) nothing_said place (omega (arith, h))

abbrev pub AreWithin : List Saying → List Said → Type 0
AreWithin more said = All (λ x. whole_for x ≤ length more) said

-- one more that is kept whole changes none
pub same_sayings : (more : List Saying) (new : Saying) (said : List Said) → AreWithin more said
    → map (saying_of (more ++ new ∷ [])) said ≡ map (saying_of more) said
same_sayings more new [] h = refl
same_sayings more new (x ∷ said) h =
    ap (λ s. s ∷ map (saying_of (more ++ new ∷ [])) said)
    (same_saying more new x (All-head (λ x. whole_for x ≤ length more) x said h))
    ∙ ap (λ ss. saying_of more x ∷ ss) (same_sayings more new said (All-tail (λ x. whole_for x ≤ length more) x said h))

pub within_more : (more : List Saying) (new : Saying) (said : List Said) → AreWithin more said
    → AreWithin (more ++ new ∷ []) said
within_more more new said h =
    let n = length_push more new in
    All-weaker (λ x. whole_for x ≤ length more) (λ x. whole_for x ≤ length (more ++ new ∷ []))
    (λ x within. omega (arith, within, n)) said h

-- the one that is kept whole behind the others
pub push_whole : (more : List Saying) (new : Saying) (said : List Said) → AreWithin more said
    → map (saying_of (more ++ new ∷ [])) (said ++ More (length more) ∷ []) ≡ map (saying_of more) said ++ new ∷ []
push_whole more new said h =
    map-append (saying_of (more ++ new ∷ [])) said (More (length more) ∷ [])
    ∙ ap (λ ss. ss ++ saying_of (more ++ new ∷ []) (More (length more)) ∷ []) (same_sayings more new said h)
    ∙ ap (λ s. map (saying_of more) said ++ s ∷ []) (get_or-append_seam more new [] nothing_said)
