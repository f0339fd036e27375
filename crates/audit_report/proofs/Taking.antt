-- A write that took some byte didn't take nothing.
use Rattle.std.proofs.Common.{◌≡◌, ◌∙◌, ℕ, ◌<◌, Bool, true, false, List, length, ap, arith}
use Rattle.std.proofs.lemmas.Bool.{ne_eqb}
use Rattle.std.specs.Prelude.{◌==◌, ◌||◌, ◌&&◌, nat_lt}

pub took_some : (before after : Bool) (count : ℕ) (bytes : List ℕ) → 0 < count
    → after ≡ (before || ((count == 0) && nat_lt 0 (length bytes))) → after ≡ before
took_some true after count bytes some told = told
took_some false after count bytes some told = told
    ∙ ap (λ none. none && nat_lt 0 (length bytes)) (ne_eqb count 0 (λ none. omega arith))
