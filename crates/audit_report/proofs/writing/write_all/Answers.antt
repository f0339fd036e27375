use Rattle.std.proofs.Common.{◌≡◌, ℕ, List, ◌-◌, ◌∙◌, ap, sym, ◌++◌, length, take, drop, append_assoc, take-append-drop}
use Rattle.std.proofs.lemmas.List.{take_rest}
use Rattle.std.proofs.KnownBytes.{Appends-trans}
use Rattle.audit_report.proofs.Taking.{took_some}
use Rattle.audit_report.proofs.writing.write_all.Goals as goal

-- what was taken goes from the front of the rest to the end of what is done
moved : (all done rest : List ℕ) (n : ℕ) → all ≡ done ++ rest → all ≡ (done ++ take n rest)
    ++ take (length rest - n) (drop n rest)
moved all done rest n split =
    split ∙ ap (λ tail. done ++ tail) (sym (take-append-drop n rest))
    ∙ sym (append_assoc done (take n rest) (drop n rest))
    ∙ ap (λ tail. (done ++ take n rest) ++ tail) (sym (take_rest rest n))

pub loop-rest-preserved : goal.loop-rest-preserved
loop-rest-preserved g c =
    let before = c.loop-rest.invariant in
    let rest = c.loop-rest.rest.now in
    let count = c.in-Ok.count in
    record {
      done = before.done ++ take count rest;
      split = moved _ before.done rest count before.split;
      taken = Appends-trans _ _ _ _ _ before.taken c.in-Ok.ensures.bytes;
      heard = took_some _ _ count rest c.if-count-gt0.true c.in-Ok.ensures.failed ∙ before.heard;
    }
