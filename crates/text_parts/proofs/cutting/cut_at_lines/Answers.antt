use Rattle.std.proofs.Common.{◌≡◌, ℕ, ◌≤◌, List, [], ◌∷◌, ◌++◌, length, take, drop, sym, ap, ◌∙◌, subst, arith}
use Rattle.std.proofs.Common.{append_assoc, length-take, take-append-drop, flat_map}
use Rattle.std.proofs.lemmas.List.{flat_map_more, take-take}
use Rattle.text_parts.specs.Lines.{IsWhole, lines_of}
use Rattle.text_parts.proofs.cutting.cut_at_lines.Goals as goal

-- a text cut behind whole lines
lines_cut : ((text more : List ℕ) → IsWhole text → lines_of (text ++ more) ≡ lines_of text ++ lines_of more)
    → (rest : List ℕ) (size whole : ℕ)
    → whole ≤ length (take size rest) → IsWhole (take whole (take size rest))
    → lines_of rest ≡ lines_of (take whole rest) ++ lines_of (drop whole rest)
lines_cut law rest size whole within is =
    let count = length-take size rest in
    let same : take whole (take size rest) ≡ take whole rest = take-take whole size rest (omega (arith, count)) in
    ap lines_of (sym (take-append-drop whole rest)) ∙ law (take whole rest) (drop whole rest) (subst IsWhole same is)

-- one more piece
piece_more : {X : Type 0} (f : X → List (List ℕ)) (pieces : List X) (piece : X) (text rest first after : List (List ℕ))
    → text ≡ flat_map f pieces ++ rest
    → rest ≡ first ++ after → first ≡ f piece → text ≡ flat_map f (pieces ++ piece ∷ []) ++ after
piece_more f pieces piece text rest first after so_far parts is =
    so_far ∙ ap (λ ls. flat_map f pieces ++ ls) (parts ∙ ap (λ ls. ls ++ after) is)
    ∙ sym (append_assoc (flat_map f pieces) (f piece) after)
    ∙ ap (λ ls. ls ++ after) (flat_map_more f [] pieces piece)

pub loop-rest-preserved : goal.loop-rest-preserved
loop-rest-preserved c =
    let rest = c.loop-rest.rest.now in
    let whole = c.whole_lines-whole.result in
    let cut = lines_cut c.lines_after_whole.ensures rest c.max-size.result whole c.whole_lines-whole.ensures.within
    c.whole_lines-whole.ensures.whole in
    rw (c.in_ok-push.ensures.items, c.split_at.ensures.back)
    (piece_more (λ piece. lines_of piece.now) c.loop-rest.pieces.items c.split_at.result.0 (lines_of c.args.text.now)
    (lines_of rest) (lines_of (take whole rest)) (lines_of (drop whole rest))
    c.loop-rest.invariant cut (ap lines_of (sym c.split_at.ensures.front)))
