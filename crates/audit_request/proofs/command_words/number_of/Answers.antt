-- The text that is read is the one that the parse gives the option; what is answered of its amount is that amount.
use Rattle.std.proofs.Common.{ℕ, List, ◌≡◌, ◌∙◌, Option, None, Some, Ok, ap, ap₂, refl, sym, option_map}
use Rattle.std.specs.Prelude.{unwrap_or}
use Rattle.std.specs.Option.{option_map_or}
use Rattle.amount_words.specs.Amount.{Answers, amount_of}
use Rattle.amount_words.specs.declared.amount.Amount.{Amount}
use Rattle.clap.specs.Words.{TriesOne, found_of, one_text, rows_of}
use Rattle.clap.specs.Walk.{one_of}
use Rattle.clap.proofs.WalkLemmas.{one_text-rows}
use Rattle.audit_request.proofs.command_words.number_of.Goals as goal

said : (amount : Option ℕ) (answer : Amount) → Answers amount (Ok answer) → amount ≡ Some answer.nanoseconds
said None answer told = absurd told
said (Some n) answer told = ap (λ (m : ℕ). Some m) (sym told.0)

said_or : (one : Option (List ℕ)) (o : Option Amount) (default : ℕ) → (one ≡ None → o ≡ None)
    → ((t : List ℕ) → one ≡ Some t → TriesOne (λ text. Answers (amount_of text)) t (Ok o))
    → option_map_or amount_of one (Some default) ≡ Some (unwrap_or (option_map (λ a. a.nanoseconds) o) default)
said_or None None default none value = refl
said_or None (Some answer) default none value = let no = none refl in cc
said_or (Some t) (Some answer) default none value = said (amount_of t) answer (value t refl)
said_or (Some t) None default none value = absurd (value t refl)

pub returns-in-Ok : goal.returns-in-Ok
returns-in-Ok c =
    let f = found_of c.args.matches.now in
    let id = c.name.result.now in
    let default = c.standard.result in
    let told = said_or (one_text f id) c.in-Ok.amount default
    (λ e. search (c.in-Ok.ensures.none e)) c.in-Ok.ensures.value in
    let same = ap (λ (o : Option (List ℕ)). option_map_or amount_of o (Some default)) (one_text-rows f id)
    ∙ ap₂ (λ (name : List ℕ) (other : ℕ). option_map_or amount_of (one_of name (rows_of f)) (Some other)) c.name.ensures
    c.standard.ensures in
    sym same ∙ (told ∙ ap (λ (m : ℕ). Some m) (sym c.nanoseconds_or.ensures))
