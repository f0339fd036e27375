use Rattle.std.proofs.Common.{ℕ, List, length, ap, sym, subst, ◌∙◌}
use Rattle.std.proofs.lemmas.Bool.{eqb-true}
use Rattle.std.proofs.lemmas.List.{nil_from_length}
use Rattle.text_parts.specs.Lines.{lines_of, IsComment}
use Rattle.text_parts.proofs.TextLines.{lines_of_nil}
use Rattle.companion_file.specs.Companion.{AreOfVersion}
use Rattle.companion_file.proofs.FirstLines.{past_comment, with_comment, first_found, found_in_all, of_no_version}
use Rattle.companion_file.proofs.FirstLines.{IsVersionOf}
use Rattle.companion_file.proofs.Reaching.{some_left}
use Rattle.companion_file.proofs.version.version_of_text.Goals as goal

pub loop-rest-preserved : goal.loop-rest-preserved
loop-rest-preserved c =
    let some = some_left c.loop-rest.rest.now c.is_empty.result c.is_empty.ensures c.loop-rest-test.true in
    let line = c.next_line.result.0.now in
    let after = lines_of c.next_line.result.1.now in
    let cut = c.next_line.ensures.lines some in
    let comment : IsComment line = let test = c.is_comment.ensures in cc in
    λ version. (
      λ a. past_comment line after version comment
          (subst (λ (ls : List (List ℕ)). AreOfVersion ls version) cut ((c.loop-rest.invariant version).0 a)),
      λ a. (c.loop-rest.invariant version).1
          (subst (λ (ls : List (List ℕ)). AreOfVersion ls version) (sym cut) (with_comment line after version comment
          a)),
    )

pub returns-then-not-is_comment : goal.returns-then-not-is_comment
returns-then-not-is_comment c =
    let some = some_left c.loop-rest.rest.now c.is_empty.result c.is_empty.ensures c.loop-rest-test.true in
    let line = c.next_line.result.0.now in
    let after = lines_of c.next_line.result.1.now in
    let cut = c.next_line.ensures.lines some in
    found_in_all (lines_of c.args.text.now) (lines_of c.loop-rest.rest.now) c.version_of.result c.loop-rest.invariant
    (subst (λ (ls : List (List ℕ)). IsVersionOf ls c.version_of.result) (sym cut)
    (first_found line after c.version_of.result (λ comment. let test = c.is_comment.ensures in absurd cc)
    c.version_of.ensures))

pub returns : goal.returns
returns c =
    let none = ap lines_of (nil_from_length c.loop-rest.rest.now
    (eqb-true (length c.loop-rest.rest.now) 0 (sym c.is_empty.ensures ∙ c.loop-rest-test.false))) ∙ lines_of_nil in
    λ version a. of_no_version (lines_of c.loop-rest.rest.now) version none ((c.loop-rest.invariant version).0 a)
