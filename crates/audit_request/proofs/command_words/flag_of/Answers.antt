-- The text that is read is the one that the parse gives the flag, and clap's reader takes a yes and a no alone.
use Rattle.std.proofs.Common.{List, ℕ, ◌≡◌, ◌∙◌, Bool, true, false, Option, None, Some, Ok, ap, codes, refl}
use Rattle.std.specs.Prelude.{unwrap_or}
use Rattle.std.specs.Option.{option_map_or}
use Rattle.std.specs.Str.{bytes_eq}
use Rattle.std.specs.Str.Parse.{ParsesBool}
use Rattle.std.specs.declared.str.ParseBoolError.{ParseBoolError}
use Rattle.clap.specs.Words.{TriesOne, found_of, one_text}
use Rattle.clap.proofs.WalkLemmas.{one_text-rows}
use Rattle.audit_request.proofs.command_words.flag_of.Goals as goal

abbrev is_true : List ℕ → Bool
is_true text = bytes_eq text (codes "true")

named : (text : List ℕ) (given : Bool) → ParsesBool {E = ParseBoolError} text (Ok given) → given ≡ is_true text
named text true parses = rw parses refl
named text false parses = rw parses refl

read_or_false : (one : Option (List ℕ)) (o : Option Bool) → (one ≡ None → o ≡ None)
    → ((t : List ℕ) → one ≡ Some t → TriesOne (ParsesBool {E = ParseBoolError}) t (Ok o))
    → unwrap_or o false ≡ option_map_or is_true one false
read_or_false None None none value = refl
read_or_false None (Some given) none value = let no = none refl in cc
read_or_false (Some t) (Some given) none value = named t given (value t refl)
read_or_false (Some t) None none value = absurd (value t refl)

pub returns-in-Ok : goal.returns-in-Ok
returns-in-Ok c =
    let f = found_of c.args.matches.now in
    c.unwrap_or.ensures
    ∙ (read_or_false (one_text f c.args.id.now) c.in-Ok.given
    (λ e. search (c.in-Ok.ensures.none e)) c.in-Ok.ensures.value
    ∙ ap (λ (o : Option (List ℕ)). option_map_or is_true o false) (one_text-rows f c.args.id.now))
