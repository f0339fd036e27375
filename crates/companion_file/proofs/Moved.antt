-- A list whose back moves to its front, one element after the other.
use Rattle.std.proofs.Common.{◌≡◌, ℕ, ◌+◌, ◌-◌, ◌<◌, List, [], ◌∷◌, ◌++◌, length, get_or, set, take, drop}
use Rattle.std.proofs.Common.{sym, ap, ◌∙◌, arith, append_assoc}
use Rattle.std.proofs.lemmas.List.{drop_more, get_or-drop, length-drop, length-take-le, set-append_right, take_more}
use Rattle.std.proofs.lemmas.List.{get_or-append-add}

-- the element that moves is still where it was
pub still_there : {X : Type 0} (items : List X) (gone i : ℕ) (d : X) → gone + i < length items
    → get_or (take i (drop gone items) ++ drop i items) (gone + i) d ≡ get_or items (gone + i) d
still_there items gone i d within =
    let back_size = length-drop gone items in
    let front_size = length-take-le i (drop gone items) (omega (arith, back_size, within)) in
    let at : gone + i ≡ length (take i (drop gone items)) + gone = omega (arith, front_size) in
    let there : i + gone ≡ gone + i = omega arith in
    ap (λ k. get_or (take i (drop gone items) ++ drop i items) k d) at
    ∙ get_or-append-add (take i (drop gone items)) (drop i items) gone d
    ∙ get_or-drop i items gone d ∙ ap (λ k. get_or items k d) there

-- one more has moved
pub moved_on : {X : Type 0} (items : List X) (gone i : ℕ) (x : X) → gone + i < length items
    → x ≡ get_or items (gone + i) x
    → set (take i (drop gone items) ++ drop i items) i x ≡ take (i + 1) (drop gone items) ++ drop (i + 1) items
moved_on items gone i x within is =
    let back = drop gone items in
    let back_size = length-drop gone items in
    let front_size = length-take-le i back (omega (arith, back_size, within)) in
    let first : i - i ≡ 0 = omega arith in
    set-append_right (take i back) (drop i items) i i x front_size (omega arith)
    ∙ ap (λ k. take i back ++ set (drop i items) k x) first
    ∙ ap (λ rest. take i back ++ set rest 0 x) (drop_more items i x (omega (arith, within)))
    ∙ sym (append_assoc (take i back) (x ∷ []) (drop (i + 1) items))
    ∙ ap (λ y. (take i back ++ y ∷ []) ++ drop (i + 1) items) (is ∙ sym (get_or-drop gone items i x))
    ∙ ap (λ front. front ++ drop (i + 1) items) (sym (take_more back i x (omega (arith, back_size, within))))
