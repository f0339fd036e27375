-- What is written by pieces.
use Rattle.std.proofs.Common.{◌≡◌, ℕ, ◌+◌, ◌<◌, List, ◌++◌, length, drop, get_or, Option, Result, Ok, Err, sym, ap, ◌∙◌}
use Rattle.std.proofs.Common.{append_assoc}
use Rattle.std.specs.Prelude.{OnErr}
use Rattle.std.specs.Io.KnownBytes.{Appends}
use Rattle.std.proofs.KnownBytes.{Appends-trans}
use Rattle.std.proofs.lemmas.List.{drop_more}
use Rattle.replay_model.specs.declared.page.Tally.{Tally}
use Rattle.audit_report.specs.Report.{tally_line, tally_lines}
use Rattle.audit_report.specs.Taken.{AppendsFront}

-- a front of a piece, behind those before it, is a front of the whole
pub front_behind : (a b c : Option (List ℕ)) (whole done text lines : List ℕ) → whole ≡ done ++ (text ++ lines)
    → Appends a b done → AppendsFront b c text → AppendsFront a c whole
front_behind a b c whole done text lines split taken (front, rest, parts, more) = (
  done ++ front,
  rest ++ lines,
  split ∙ ap (λ (t : List ℕ). done ++ (t ++ lines)) parts
      ∙ ap (λ (t : List ℕ). done ++ t) (append_assoc front rest lines) ∙ sym (append_assoc done front (rest ++ lines)),
  Appends-trans a b c done front taken more,
)

-- one more line behind what is left of the text
pub line_more : (whole done text written left new : List ℕ) (tallies : List Tally) (i : ℕ) (d : Tally)
    → i < length tallies → whole ≡ done ++ (text ++ tally_lines (drop i tallies)) → text ≡ written ++ left
    → new ≡ left ++ tally_line (get_or tallies i d)
    → whole ≡ (done ++ written) ++ (new ++ tally_lines (drop (i + 1) tallies))
line_more whole done text written left new tallies i d lt split parts line =
    let later : List ℕ = tally_lines (drop (i + 1) tallies) in
    let next : tally_lines (drop i tallies) ≡ tally_line (get_or tallies i d) ++ later =
    ap (λ (ts : List Tally). tally_lines ts) (drop_more tallies i d lt) in
    let behind : left ++ tally_lines (drop i tallies) ≡ new ++ later =
    ap (λ (t : List ℕ). left ++ t) next ∙ sym (append_assoc left (tally_line (get_or tallies i d)) later)
    ∙ ap (λ (t : List ℕ). t ++ later) (sym line) in
    split ∙ ap (λ (t : List ℕ). done ++ (t ++ tally_lines (drop i tallies))) parts
    ∙ ap (λ (t : List ℕ). done ++ t) (append_assoc written left (tally_lines (drop i tallies))
    ∙ ap (λ (t : List ℕ). written ++ t) behind)
    ∙ sym (append_assoc done written (new ++ later))

pub on_err : {T E P : Type 0} (r : Result T E) → P → OnErr r P
on_err (Ok x) p = tt
on_err (Err e) p = p

pub on_err_weaker : {T E P Q : Type 0} (r : Result T E) → (P → Q) → OnErr r P → OnErr r Q
on_err_weaker (Ok x) f p = tt
on_err_weaker (Err e) f p = f p
